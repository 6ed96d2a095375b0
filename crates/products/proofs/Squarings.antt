-- No squaring, and one squaring more. Assumes nothing.
use Rattle.std.proofs.Common.{◌≡◌, ℕ, ◌+◌, refl, ap, add-one}
use Rattle.products.specs.Products.{product, squared}

pub squared_none : (x : ℕ) → squared 0 x ≡ x
unfolding squared
squared_none x = refl

pub squared_more : (k x : ℕ) → squared (k + 1) x ≡ product (squared k x) (squared k x)
unfolding squared
squared_more k x = ap (λ j. squared j x) (add-one k)
