-- What is known of a load that was read from an input. Assumes nothing: these are definitions.
use Rattle.std.specs.Prelude.{ℕ, ◌≡◌, List, Option}
use Rattle.std.specs.Io.KnownBytes.{Consumes}
use Rattle.listing.specs.declared.Load.{Load}
use Rattle.listing.specs.Loading.{start_of, feed_of, end_of}

-- the load m is that of some whole text
pub record OfText (m : Load) : Type 0 where
  pub text : List ℕ
  pub load : m ≡ end_of (feed_of start_of text)

-- the load m is that of the bytes that an input gave: `old` is what it had to give before and `new` what it has now, where the input tells. Standard input doesn't
pub record ReadFrom (old new : Option (List ℕ)) (m : Load) : Type 0 where
  pub text : List ℕ
  pub load : m ≡ end_of (feed_of start_of text)
  pub given : Consumes old new text
