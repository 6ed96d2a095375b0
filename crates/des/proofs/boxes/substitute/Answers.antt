-- `substitute` meets its contract. Assumes nothing.
use Rattle.des.proofs.Rows.{row_once}
use Rattle.des.proofs.boxes.substitute.Goals as goal

pub returns-clause-row : goal.returns-clause-row
returns-clause-row c = row_once c.args.index c.args.six c.requires.eight c.requires.six
