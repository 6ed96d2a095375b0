-- Words that are each other's complement, as words whose sum is all ones. Assumes nothing.
use Rattle.std.proofs.Common.{◌≡◌, ◌≢◌, ℕ, ◌+◌, ◌-◌, ◌*◌, ◌/◌, ◌%◌, ◌^◌, ◌<◌, List, length, refl, sym, subst, ap, ap₂, ◌∙◌, arith}
use Rattle.std.proofs.Math.Nat.{add-mul, mod-eq_of_lt}
use Rattle.std.proofs.lemmas.Nat.{pow_pos, pow-add, shr_below, shr_split, shr_high, mod_low, xor_lt, and_mask, xor_comm}
use Rattle.std.proofs.lemmas.Nat.Bits.{bit_at_xor, bit_at_ones, same_from_bits_below}
use Rattle.std.specs.Int.{bit_at}
use Rattle.std.specs.Int.Bits.{bit_xor, xor_assoc, xor_self, xor_zero_r, xor_add_and}
use Rattle.selections.specs.Selections.{picked}
use Rattle.selections.proofs.Picked.{picked_below}
use Rattle.selections.proofs.Linear.{xor_middle, picked_xor}
use Rattle.des.specs.Opposites.{Opposite}

-- the sum of two words is w ones
pub record Ones (w a b : ℕ) : Type 0 where
  pub sum : a + b + 1 ≡ 2 ^ w

-- the xor with w ones is the complement
from_xor : (w a b : ℕ) → a < 2 ^ w → b ≡ bit_xor a (2 ^ w - 1) → Ones w a b
from_xor w a b h e = record { sum = omega (arith, pow_pos w, xor_add_and a (2 ^ w - 1), and_mask a w, mod-eq_of_lt h) }

-- a complement is that xor
to_xor : {w a b : ℕ} → Ones w a b → b ≡ bit_xor a (2 ^ w - 1)
to_xor {w} {a} {b} p = let q = from_xor w a _ (omega arith) refl in omega arith

-- words that are xored with one word
pub xor_one : {w a b : ℕ} → Ones w a b → (n : ℕ) → n < 2 ^ w → Ones w (bit_xor a n) (bit_xor b n)
xor_one {w} {a} {b} p n h =
    from_xor w _ _ (xor_lt w a n (omega arith) h)
    (ap (λ x. bit_xor x n) (to_xor p) ∙ xor_assoc a _ n ∙ ap (bit_xor a) (xor_comm _ n) ∙ sym (xor_assoc a n _))

-- words that are xored with words
pub xor_both : {w a b c d : ℕ} → Ones w a b → Ones w c d → bit_xor a c ≡ bit_xor b d
xor_both {w} {a} {b} {c} {d} p q =
    sym (ap₂ bit_xor (to_xor p) (to_xor q) ∙ xor_middle a _ c _ ∙ ap (bit_xor (bit_xor a c)) (xor_self (2 ^ w - 1)) ∙ xor_zero_r _)

-- a selection that takes ones to ones
pub picked_ones : {v a b : ℕ} (table : List ℕ) → picked v table (2 ^ v - 1) ≡ 2 ^ length table - 1 → Ones v a b → Ones (length table) (picked v table a) (picked v table b)
picked_ones {v} {a} {b} table e p =
    from_xor (length table) _ _ (picked_below v a table)
    (ap (picked v table) (to_xor p) ∙ picked_xor v table a (2 ^ v - 1) ∙ ap (bit_xor (picked v table a)) e)

-- two words joined into one
pub joined : {j k a b c d : ℕ} → Ones j a b → Ones k c d → Ones (j + k) (a * 2 ^ k + c) (b * 2 ^ k + d)
joined {j} {k} {a} {b} {c} {d} p q = record { sum = omega (arith, pow-add 2 j k, ap (λ n. n * 2 ^ k) p.sum, add-mul (a + b) 1 (2 ^ k), add-mul a b (2 ^ k)) }

-- one word parted into two
pub parted : (j k a b : ℕ) → Ones (j + k) a b → Ones j (a / 2 ^ k) (b / 2 ^ k) × Ones k (a % 2 ^ k) (b % 2 ^ k)
parted j k a b p =
    let high : Ones j (a / 2 ^ k) (2 ^ j - 1 - a / 2 ^ k) = record { sum = omega (arith, shr_below a j k (omega arith)) } in
    let low : Ones k (a % 2 ^ k) (2 ^ k - 1 - a % 2 ^ k) = record { sum = omega (arith, pow_pos k) } in
    let both = joined high low in
    let e : b ≡ (2 ^ j - 1 - a / 2 ^ k) * 2 ^ k + (2 ^ k - 1 - a % 2 ^ k) = omega (arith, both.sum, shr_split a k) in
    let few : 2 ^ k - 1 - a % 2 ^ k < 2 ^ k = omega (arith, pow_pos k) in
    rw (e, shr_high, mod_low) (high, low)

-- words that differ in every bit, and back
pub ones_from_opposite : (w a b : ℕ) → a < 2 ^ w → b < 2 ^ w → Opposite w a b → Ones w a b
ones_from_opposite w a b p q o =
    from_xor w a b p (same_from_bits_below w b (bit_xor a (2 ^ w - 1)) q (xor_lt w a (2 ^ w - 1) p (omega arith)) (λ i h.
    let e : w - (w - i) ≡ i = omega arith in
    let differ = subst (λ k. bit_at a k ≢ bit_at b k) e (o (w - i) (omega arith) (omega arith)) in
    omega (arith, differ, bit_at_xor a (2 ^ w - 1) i, bit_at_ones w i h)))

pub opposite_from_ones : {w a b : ℕ} → Ones w a b → Opposite w a b
opposite_from_ones {w} {a} {b} p i above below = λ same.
    omega (arith, same, ap (λ n. bit_at n (w - i)) (to_xor p), bit_at_xor a (2 ^ w - 1) (w - i), bit_at_ones w (w - i) (omega arith))
