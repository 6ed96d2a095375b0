-- What the loop of `squared` keeps. Assumes nothing.
use Rattle.std.proofs.Common.{◌≡◌}
use Rattle.products.specs.Products.{squared}
use Rattle.products.proofs.product.squared.Given as goal

-- squared once for each turn so far
abbrev pub invariant-loop : goal.invariant-loop
invariant-loop l = l.square ≡ squared l.counter l.fn.word
