-- The body is written to its part of the index. Assumes nothing.
use Rattle.image.specs.ImageLaws.{put_part}
use Rattle.image.proofs.put_body.Goals as goal

pub returns : goal.returns
returns c = put_part c.args.index.now c.write_body.new.part _ c.args.n _ _ _ c.bodies_end-start.ensures c.requires c.write_body.ensures.value c.write_body.ensures.part_after
