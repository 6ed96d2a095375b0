-- What IDEA makes of a block is a block. Assumes nothing.
use Rattle.std.proofs.Common.{ℕ, ◌^◌, ◌<◌, arith}
use Rattle.products.specs.Products.{product}
use Rattle.idea.specs.Idea.{idea}

pub idea_below : (key n b : ℕ) → idea key n b < 2 ^ 64
unfolding product
idea_below key n b = omega arith
