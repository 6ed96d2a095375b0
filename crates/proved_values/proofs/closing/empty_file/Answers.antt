-- `empty_file` meets its contract. Assumes nothing.
use Rattle.proved_values.proofs.Empty.{closed_empty}
use Rattle.proved_values.proofs.closing.empty_file.Goals as goal

pub returns : goal.returns
returns c = closed_empty _ c.args.label c.close.result c.close.new.output c.new.ensures c.requires c.close.ensures.closes
