-- What IDEA's mixing box gives are words. Assumes nothing.
use Rattle.std.specs.Prelude.{ℕ, ◌^◌, ◌<◌}
use Rattle.std.proofs.Common.{arith}
use Rattle.products.specs.internal.Residues.{product_fits}
use Rattle.four_words.specs.declared.words.BoxWords.{BoxWords}
use Rattle.idea.specs.Mixing.{mixed}

pub mixed_fits : (p q : ℕ) (ws : BoxWords) → ((mixed p q ws).t < 2 ^ 16) × ((mixed p q ws).s < 2 ^ 16)
mixed_fits p q ws = (product_fits _ _, omega arith)
