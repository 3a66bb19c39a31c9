use Rattle.std.proofs.Common.{◌≡◌, ◌-◌, arith}
use Rattle.image.specs.ImageLaws.{put_part, put_same}
use Rattle.walk.specs.WalkLayer.{placed_body}
use Rattle.walk.proofs.put_node.Goals as goal

pub returns : goal.returns
returns c =
    let a = c.args in
    let same : record { numeral = c.numeral.result; row = c.row.result; size = a.after.count - a.n; parent = a.place.parent; root = c.root_of.result; level = a.place.level; closing = c.closing.result; orphan = a.place.orphan }
    ≡ placed_body a.table.now a.place a.p a.n a.marks.now (a.after.count - a.n)
    = cc (c.numeral.ensures, c.row.ensures, c.root_of.ensures, c.closing.ensures) in
    put_same _ _ a.n _ _ _ _ same (put_part a.index.now c.write_body.new.part _ a.n _ _ _ c.bodies_end-start.ensures (omega (arith, c.requires)) c.write_body.ensures.value c.write_body.ensures.part_after)
