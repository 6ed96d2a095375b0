-- `close` meets its contract. Assumes nothing.
use Rattle.traces.proofs.Returning.{closed_again}
use Rattle.traces.proofs.closing.close.Goals as goal

pub returns-clause-again : goal.returns-clause-again
returns-clause-again c = λ f file same opened. closed_again f _ file _ _ _ _ _ _ same opened c.close_file.ensures.closes
