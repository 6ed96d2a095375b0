-- A layer that is turned. Assumes nothing.
use Rattle.std.proofs.Common.{◌≡◌, ℕ, sym, subst}
use Rattle.ciphers.specs.Maps.{Inverse}
use Rattle.piles.specs.declared.layers.Layer.{Layer}
use Rattle.piles.specs.internal.Layers.{layered}

-- what is inverse to the layer's cipher is inverse to the layer
pub turned : (before cipher : Layer) (after : ℕ → ℕ) → before ≡ cipher → Inverse (layered cipher) after → Inverse (layered before) after
turned before cipher after e inverse = subst (λ l. Inverse (layered l) after) (sym e) inverse
