-- IDEA as a network. Assumes nothing.
use Rattle.std.specs.Prelude.{ℕ, ◌^◌}
use Rattle.groups.specs.Sums.{sum, negative}
use Rattle.products.specs.Products.{product, inverse}
use Rattle.four_words.specs.Joining.{Groups}
use Rattle.four_words.specs.Keying.{Key}
use Rattle.four_words.specs.Passing.{Network}
use Rattle.idea.specs.Mixing.{mixed}

-- the product modulo 65,537 is outer, the sum modulo 2^16 inner
abbrev pub groups : Groups
groups = record { outer = product; outer_inverse = inverse; inner = sum (2 ^ 16); inner_inverse = negative (2 ^ 16) }

-- IDEA's network of some round words, turned or not
abbrev pub network_of : Key → Network
network_of key = record { groups = groups; mixing = mixed; key = key }
