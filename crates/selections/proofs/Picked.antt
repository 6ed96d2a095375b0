-- What a selection by machine words is. Assumes nothing.
use Rattle.std.proofs.Common.{◌≡◌, ℕ, ◌+◌, ◌*◌, ◌/◌, ◌%◌, ◌^◌, ◌<◌, ◌≤◌, List, [], ◌∷◌, length, refl, ap, ◌∙◌, arith, Bool, true}
use Rattle.std.proofs.Math.Nat.{pow-le-pow_right, pow-suc, div-eq_of_lt, mul_comm, mul_assoc}
use Rattle.std.proofs.lemmas.Nat.{mul-le}
use Rattle.std.specs.List.{fold, AllByRecursion}
use Rattle.selections.specs.Selections.{bit, picked}
use Rattle.selections.specs.internal.Wrapped.{picked_last}

-- a word of 64 bits that is shifted by 64 or more
pub shifted_out : (n k : ℕ) → n < 2 ^ 64 → 64 ≤ k → n / 2 ^ k ≡ 0
shifted_out n k fits far = let more : 2 ^ 64 ≤ 2 ^ k = pow-le-pow_right (omega arith) {i = 64} {j = k} far in div-eq_of_lt (omega arith)

-- one bit more doubles what there is room for
one_more : (out b p : ℕ) → b < 2 → (2 * out + b + 1) * p ≤ (out + 1) * (p * 2)
one_more out b p few =
    rw (mul_comm p 2, ← mul_assoc (out + 1) 2 p) (mul-le (2 * out + b + 1) p ((out + 1) * 2) p (omega arith) (omega arith))

module _ (w n : ℕ) where
  below : (out : ℕ) (table : List ℕ) → fold (λ out i. 2 * out + bit w n i) out table < (out + 1) * 2 ^ length table
  below out [] = omega arith
  below out (i ∷ table) = omega (arith, below (2 * out + bit w n i) table, ap (λ x. (out + 1) * x) (pow-suc 2 (length table)), one_more out (bit w n i) (2 ^ length table) (omega arith))

  -- a selection has a bit for each entry of the table
  pub picked_below : (table : List ℕ) → picked w table n < 2 ^ length table
  picked_below table = omega (arith, below 0 table)

  wrapped : (out : ℕ) (table : List ℕ) → fold (λ out i. (2 * out + bit w n i) % 2 ^ 64) (out % 2 ^ 64) table ≡ fold (λ out i. 2 * out + bit w n i) out table % 2 ^ 64
  wrapped out [] = refl
  wrapped out (i ∷ table) = ap (λ a. fold (λ out i. (2 * out + bit w n i) % 2 ^ 64) a table) (omega arith) ∙ wrapped (2 * out + bit w n i) table

  pub picked_wrapped : (table : List ℕ) → picked_last w table n ≡ picked w table n % 2 ^ 64
  unfolding picked_last
  picked_wrapped table = wrapped 0 table

  -- a selection of no more than 64 bits
  pub picked_whole : (table : List ℕ) → length table ≤ 64 → picked_last w table n ≡ picked w table n
  picked_whole table few = let more : 2 ^ length table ≤ 2 ^ 64 = pow-le-pow_right (omega arith) {i = length table} {j = 64} few in omega (arith, picked_below table, picked_wrapped table)

-- words that agree wherever a test holds, and a table whose entries all pass it
picked_onto : (w a b : ℕ) (test : ℕ → Bool) → ((i : ℕ) → test i ≡ true → bit w a i ≡ bit w b i) → (out : ℕ) (table : List ℕ) → AllByRecursion (λ i. test i ≡ true) table
    → fold (λ out i. 2 * out + bit w a i) out table ≡ fold (λ out i. 2 * out + bit w b i) out table
picked_onto w a b test same out [] passes = refl
picked_onto w a b test same out (i ∷ table) passes =
    ap (λ d. fold (λ out i. 2 * out + bit w a i) (2 * out + d) table) (same i passes.0)
    ∙ picked_onto w a b test same (2 * out + bit w b i) table passes.1

pub picked_same : (w a b : ℕ) (test : ℕ → Bool) → ((i : ℕ) → test i ≡ true → bit w a i ≡ bit w b i) → (table : List ℕ) → AllByRecursion (λ i. test i ≡ true) table
    → picked w table a ≡ picked w table b
picked_same w a b test same table passes = picked_onto w a b test same 0 table passes
