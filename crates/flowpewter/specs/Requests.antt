-- The depth and the start rule of a build as flat arguments. Assumes nothing: these are definitions.
use Rattle.std.specs.Prelude.{Bool, cond, ℤ, None, Some}
use Rattle.options.specs.Options.{Depth}
use Rattle.request.specs.declared.Start.{Start}
use Rattle.request.specs.declared.Start.TheVariants.{ParentZero, Listed}

-- "a depth (none, or an i32)"
abbrev pub depth_of : Bool → ℤ → Depth
depth_of given depth = cond given (Some depth) None

-- "the start rule (rows with parent 0, or rows whose numeral is in a lent list)"
abbrev pub start_of : Bool → Start
start_of listed = cond listed Listed ParentZero
