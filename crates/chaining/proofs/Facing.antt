-- Benches that face each other stay so over turns. Assumes nothing.
use Rattle.std.proofs.Common.{◌≡◌, ℕ, ◌^◌, ◌<◌, IfSome, sym, ap, ◌∙◌, subst}
use Rattle.ciphers.specs.Maps.{Inverse, SameMap}
use Rattle.ciphers.proofs.Same.{inverse_same}
use Rattle.chaining.specs.Benches.{State, other, begun, Turned}
use Rattle.chaining.specs.Mirrors.{Facing}

-- the inverses of two maps that undo each other undo each other
inverse_turned : (f g f' g' : ℕ → ℕ) → Inverse f g → Inverse f f' → Inverse g g' → Inverse f' g'
inverse_turned f g f' g' i j k =
    -- f' is g on blocks
    let same : (b : ℕ) → b < 2 ^ 64 → f' b ≡ g b = λ b p. sym (i.back (f' b) (j.keeps_back b p)) ∙ ap g (j.forth b p) in
    record {
      keeps = j.keeps_back;
      keeps_back = k.keeps_back;
      back = λ b p. ap g' (same b p) ∙ k.back b p;
      forth = λ b p. same (g' b) (k.keeps_back b p) ∙ k.forth b p;
    }

pub facing_begun : (f g : ℕ → ℕ) (t : State) → SameMap f g → Turned (begun g) t → Facing (begun f) t
facing_begun f g t e u = record { maps = inverse_same e u.map; directions = u.direction; chains = u.chain; block = tt }

pub facing_turned : (s t s' t' : State) → Facing s t → Turned s s' → Turned t t' → Facing s' t'
facing_turned s t s' t' a u v = record {
  maps = inverse_turned s.map t.map s'.map t'.map a.maps u.map v.map;
  directions = v.direction ∙ ap other (a.directions ∙ sym u.direction);
  chains = v.chain ∙ a.chains ∙ sym u.chain;
  block = subst (λ c. IfSome c (λ r. r < 2 ^ 64)) (sym u.chain) a.block;
}
