use borrow.Author.Rules.{rules}
use native.Mathlib.Omega.{arith}
use Rattle.table.specs.TableLaws.{column_length}
use Rattle.orphans.specs.OutsideLaws.{still_linkable, outside_linked}
use Rattle.orphans.proofs.link_outside.Statement.{statement}
use Rattle.orphans.proofs.link_outside.Tie as tie

-- src/lib.rt:85:5
clear-children-requires : tie.Need-clear_children-requires
clear-children-requires c κs =
    omega (arith, c.requires.few, column_length 0 c.args.table.now)

-- src/lib.rt:86:5
link-rows-requires : tie.Need-link_rows-requires
link-rows-requires c κs =
    omega (arith, c.requires.few, column_length 0 c.clear_children.new.table, c.clear_children.ensures.long)

-- src/lib.rt:87:5
share-children-requires : tie.Need-share_children-requires
share-children-requires c κs =
    still_linkable _ _ _ _ c.requires c.clear_children.ensures c.link_rows.ensures

-- src/lib.rt:81:1
same_length : tie.Need-shape_of-table
same_length c = search rules

-- src/lib.rt:81:1
returns : tie.Need-returns
returns c =
    outside_linked _ _ _ _ c.requires c.clear_children.ensures c.link_rows.ensures _ c.share_children.ensures

pub link_outside_spec : {M : Type 1} → statement M
link_outside_spec =
    tie.close
    (tie.spec
    clear-children-requires
    link-rows-requires
    share-children-requires
    same_length
    returns)
