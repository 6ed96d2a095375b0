-- Sealing a run depends on the map of blocks alone, and makes one run. Assumes nothing.
use Rattle.std.proofs.Common.{◌≡◌, ℕ, zero, suc, ◌/◌, ◌%◌, ◌^◌, ◌<◌, ◌≤◌, List, length, sym, refl, ap, ◌∙◌, subst, arith}
use Rattle.std.specs.Int.Bits.{bit_xor}
use Rattle.std.proofs.lemmas.Nat.{xor_lt}
use Rattle.ciphers.specs.Maps.{SameMap}
use Rattle.chaining.specs.declared.direction.Direction.TheVariants.{Sealing}
use Rattle.chaining.specs.Runs.{block, before, Rewritten}
use Rattle.chaining.proofs.Passing.{before_lt}
use Rattle.chaining.proofs.Bytes.{block_lt, same_bytes}

-- what one map seals, the same map seals
pub sealed_same : (f g : ℕ → ℕ) (r : ℕ) (xs ys : List ℕ) → SameMap f g → r < 2 ^ 64 → Rewritten Sealing f r xs ys → Rewritten Sealing g r xs ys
sealed_same f g r xs ys e p v = record {
  brought = v.brought;
  left = v.left;
  len = v.len;
  blocks = λ i q. v.blocks i q ∙ e (bit_xor (block xs i) (before r ys i)) (xor_lt 64 (block xs i) (before r ys i) (block_lt xs i v.brought) (before_lt r ys i p v.left));
}

-- the sealed blocks before one are the same
same_before : (g : ℕ → ℕ) (r : ℕ) (xs ys zs : List ℕ) → Rewritten Sealing g r xs ys → Rewritten Sealing g r xs zs → (i : ℕ) → i ≤ length xs / 8 → before r ys i ≡ before r zs i
same_before g r xs ys zs v w zero q = refl
same_before g r xs ys zs v w (suc i) q =
    let e = same_before g r xs ys zs v w i (omega arith) in
    v.blocks i (omega arith) ∙ ap (λ p. g (bit_xor (block xs i) p)) e ∙ sym (w.blocks i (omega arith))

-- a run is sealed to one run
pub sealed_once : (g : ℕ → ℕ) (r : ℕ) (xs ys zs : List ℕ) → length xs % 8 ≡ 0 → Rewritten Sealing g r xs ys → Rewritten Sealing g r xs zs → ys ≡ zs
sealed_once g r xs ys zs m v w = same_bytes zs ys w.left v.left (v.len ∙ sym w.len) (subst (λ n. n % 8 ≡ 0) (sym w.len) m) (λ i q.
    let e = same_before g r xs ys zs v w i (omega (arith, q, w.len)) in
    let l : i < length xs / 8 = subst (λ n. i < n / 8) w.len q in
    v.blocks i l ∙ ap (λ p. g (bit_xor (block xs i) p)) e ∙ sym (w.blocks i l))
