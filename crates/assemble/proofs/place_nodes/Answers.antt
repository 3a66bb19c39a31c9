use mathlib.Core.Path.{refl}
use Rattle.assemble.specs.ShortestRowsLaws.{placeable_as, placed_as, spans_as}
use Rattle.assemble.proofs.place_nodes.Goals as goal

pub place_paths-requires : goal.place_paths-requires
place_paths-requires c =
    let s = c in
    let a = s.requires.any_read in
    record { any_prepared_rows = record { R = a.R; start = a.start; rows = a.rows }; orphan_bound = placeable_as _ _ c.in-AllPaths.is s.requires.placeable; clear_workspace = s.requires.clear_workspace }

pub place_shortest-requires : goal.place_shortest-requires
place_shortest-requires c =
    let s = c in
    let a = s.requires.any_read in
    record { any_prepared_rows = record { R = a.R; start = a.start; rows = a.rows }; clear_workspace = s.requires.clear_workspace }

pub place_dated-requires : goal.place_dated-requires
place_dated-requires c =
    let s = c in
    let a = s.requires.any_read in
    record { any_read = record { R = a.R; start = a.start; rows = a.rows; spans_read = spans_as _ _ c.in-Dated.is a.R _ a.spans_read }; orphan_value = placeable_as _ _ c.in-Dated.is s.requires.placeable; clear_workspace = s.requires.clear_workspace }

pub returns-in-AllPaths : goal.returns-in-AllPaths
returns-in-AllPaths c =
    λ R start y sp. placed_as _ _ c.in-AllPaths.is R start _ _ _ _ _ _ _ ((λ code e six. c.place_paths.ensures R start code y e six), refl)

pub returns-in-Shortest : goal.returns-in-Shortest
returns-in-Shortest c =
    λ R start y sp. placed_as _ _ c.in-Shortest.is R start _ _ _ _ _ _ _ (c.place_shortest.ensures R start y, refl)

pub returns-in-Dated : goal.returns-in-Dated
returns-in-Dated c =
    λ R start y sp. placed_as _ _ c.in-Dated.is R start _ _ _ _ _ _ _ (λ code e. c.place_dated.ensures R start code y (spans_as _ _ c.in-Dated.is R _ sp) e)
