-- What holds of a map holds of the same map. Assumes nothing.
use Rattle.std.proofs.Common.{ℕ, ap, ◌∙◌}
use Rattle.ciphers.specs.Maps.{Inverse, SameMap}

-- what undoes a map undoes the same map
pub inverse_same : {m f g : ℕ → ℕ} → SameMap m f → Inverse f g → Inverse m g
inverse_same {m} {f} {g} same inverse = record {
  keeps = λ b p. rw (same b p) (inverse.keeps b p);
  keeps_back = inverse.keeps_back;
  back = λ b p. ap g (same b p) ∙ inverse.back b p;
  forth = λ b p. same (g b) (inverse.keeps_back b p) ∙ inverse.forth b p;
}
