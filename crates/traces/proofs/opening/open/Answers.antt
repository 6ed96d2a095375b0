-- `open` meets its contract. Assumes nothing.
use Rattle.traces.proofs.Returning.{given_back}
use Rattle.traces.proofs.opening.open.Goals as goal

pub returns-clause-given_back : goal.returns-clause-given_back
returns-clause-given_back c = λ f label start plain same closed. given_back f _ label start plain _ _ _ _ closed c.open_file.ensures.opens same
