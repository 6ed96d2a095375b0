-- `next` meets its contract. Assumes nothing.
use Rattle.piles.proofs.Below.{layered_below}
use Rattle.piles.proofs.supply.Supply.next.Goals as goal

pub returns-in-len1-up-clause-fits : goal.returns-in-len1-up-clause-fits
returns-in-len1-up-clause-fits c = layered_below _ _ _ c.new.ensures.map c.new.ensures.fits
