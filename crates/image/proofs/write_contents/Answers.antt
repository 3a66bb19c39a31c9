-- Of a slice that has room for the table of contents, its eight words. Assumes nothing.
use Rattle.std.proofs.Common.{le-ltb}
use Rattle.image.specs.Layout.{contents_words}
use Rattle.image.proofs.write_contents.Goals as goal

pub returns : goal.returns
unfolding contents_words
returns c = simp (le-ltb _ _ c.if-index-lt8.false)
