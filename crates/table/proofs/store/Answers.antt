use Rattle.table.specs.TableLaws.{stored}
use Rattle.table.proofs.store.Goals as goal

pub returns : goal.returns
returns c = stored _ _ _ _ c.requires.0
