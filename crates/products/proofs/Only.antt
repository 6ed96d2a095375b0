-- A word of which the product is 1 is the inverse. Assumes nothing.
use Rattle.std.proofs.Common.{◌≡◌, ℕ, ◌^◌, ◌<◌}
use Rattle.groups.proofs.Cancelling as group
use Rattle.products.specs.Products.{product, inverse}
use Rattle.products.specs.internal.Residues.{product_lawful}

pub only_inverse : (x y : ℕ) → x < 2 ^ 16 → y < 2 ^ 16 → product x y ≡ 1 → y ≡ inverse x
only_inverse x y p q one = group.only_inverse product_lawful x y p q one
