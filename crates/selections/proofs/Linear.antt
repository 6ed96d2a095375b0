-- Functions that keep xor: selections are such, and two that agree at each power of 2 are one. Assumes nothing.
use Rattle.std.proofs.Common.{◌≡◌, ℕ, zero, suc, ◌+◌, ◌-◌, ◌*◌, ◌/◌, ◌%◌, ◌^◌, ◌<◌, min, Bool, true, List, [], ◌∷◌, refl, sym, subst, ap, ap₂, ◌∙◌, ⊎_elim, arith}
use Rattle.std.proofs.Math.Dec.{eqb}
use Rattle.std.proofs.Math.Nat.{add-zero, zero-add, one-mul, mul_comm, pow-suc}
use Rattle.std.proofs.lemmas.Bool.{eqb-true, cases_lt}
use Rattle.std.proofs.lemmas.List.FromFn.{length-range_with_len, get_or-range_with_len}
use Rattle.std.proofs.lemmas.List.Sums.{AllPass-from_list_all}
use Rattle.std.proofs.lemmas.Nat.{pow_pos, xor_shr, xor_mod, xor_block, xor_comm}
use Rattle.std.proofs.lemmas.Nat.Bits.{bit_at_and, bit_at_xor, bit_at-lt, same_from_bits}
use Rattle.std.specs.Int.{bit_at}
use Rattle.std.specs.Int.Bits.{bit_and, bit_xor, xor_assoc, xor_self, and_shifted, xor_disjoint}
use Rattle.std.specs.List.{fold, list_all, range_with_len}
use Rattle.selections.specs.Selections.{bit, picked}

-- a function that keeps xor
pub record Linear (F : ℕ → ℕ) : Type 0 where
  pub xor : (a b : ℕ) → F (bit_xor a b) ≡ bit_xor (F a) (F b)

-- a number itself
pub linear_id : Linear (λ n. n)
linear_id = record { xor = λ a b. refl }

-- its quotients by powers of 2, its multiples and its remainders
pub linear_shr : (k : ℕ) → Linear (λ n. n / 2 ^ k)
linear_shr k = record { xor = λ a b. xor_shr a b k }

pub linear_shl : (k : ℕ) → Linear (λ n. n * 2 ^ k)
linear_shl k = record { xor = λ a b. sym (simp add-zero at (xor_block k a b 0 0 (pow_pos k) (pow_pos k))) }

pub linear_mod : (k : ℕ) → Linear (λ n. n % 2 ^ k)
linear_mod k = record { xor = λ a b. xor_mod a b k }

-- `min` over a sum without carry, of bits
and_bits : (x y z : ℕ) → x < 2 → y < 2 → z < 2 → min ((x + y) % 2) z ≡ (min x z + min y z) % 2
and_bits x y z p q r = omega arith

-- what a mask leaves
pub linear_and : (mask : ℕ) → Linear (λ n. bit_and n mask)
linear_and mask = record {
  xor = λ a b. same_from_bits _ _ (λ i.
      bit_at_and (bit_xor a b) mask i
      ∙ ap (λ x. min x (bit_at mask i)) (bit_at_xor a b i)
      ∙ and_bits (bit_at a i) (bit_at b i) (bit_at mask i) (bit_at-lt a i) (bit_at-lt b i) (bit_at-lt mask i)
      ∙ sym (bit_at_xor (bit_and a mask) (bit_and b mask) i ∙ ap₂ (λ x y. (x + y) % 2) (bit_at_and a mask i) (bit_at_and b mask i)));
}

-- one after the other
pub linear_after : {F G : ℕ → ℕ} → Linear F → Linear G → Linear (λ n. F (G n))
linear_after {F} {G} p q = record { xor = λ a b. ap F (q.xor a b) ∙ p.xor (G a) (G b) }

-- the middle two of four change places
pub xor_middle : (a b c d : ℕ) → bit_xor (bit_xor a b) (bit_xor c d) ≡ bit_xor (bit_xor a c) (bit_xor b d)
xor_middle a b c d = xor_assoc a b _ ∙ ap (bit_xor a) (sym (xor_assoc b c d) ∙ ap (λ x. bit_xor x d) (xor_comm b c) ∙ xor_assoc c b d) ∙ sym (xor_assoc a c _)

-- the xor of both
pub linear_xor : {F G : ℕ → ℕ} → Linear F → Linear G → Linear (λ n. bit_xor (F n) (G n))
linear_xor {F} {G} p q = record { xor = λ a b. ap₂ bit_xor (p.xor a b) (q.xor a b) ∙ xor_middle (F a) (F b) (G a) (G b) }

-- one beside the other, which has k bits
linear_block : {F G : ℕ → ℕ} (k : ℕ) → Linear F → Linear G → ((n : ℕ) → G n < 2 ^ k) → Linear (λ n. F n * 2 ^ k + G n)
linear_block {F} {G} k p q few = record { xor = λ a b. ap₂ (λ x y. x * 2 ^ k + y) (p.xor a b) (q.xor a b) ∙ sym (xor_block k (F a) (F b) (G a) (G b) (few a) (few b)) }

-- one more bit of a selection
linear_push : {F G : ℕ → ℕ} → Linear F → Linear G → ((n : ℕ) → G n < 2) → Linear (λ n. 2 * F n + G n)
linear_push {F} {G} p q few = record { xor = λ a b. rw (mul_comm 2 (F (bit_xor a b)), mul_comm 2 (F a), mul_comm 2 (F b)) ((linear_block 1 p q few).xor a b) }

linear_fold : (w : ℕ) (table : List ℕ) {F : ℕ → ℕ} → Linear F → Linear (λ n. fold (λ out i. 2 * out + bit w n i) (F n) table)
linear_fold w [] p = p
linear_fold w (i ∷ table) p = linear_fold w table (linear_push p (linear_after (linear_mod 1) (linear_shr (w - i))) (λ n. omega arith))

-- a selection
pub linear_picked : (w : ℕ) (table : List ℕ) → Linear (picked w table)
linear_picked w table = linear_fold w table (record { xor = λ a b. refl })

-- a selection of an xor is the xor of the selections
pub picked_xor : (w : ℕ) (table : List ℕ) (a b : ℕ) → picked w table (bit_xor a b) ≡ bit_xor (picked w table a) (picked w table b)
picked_xor w table = (linear_picked w table).xor

-- of 0 it makes 0
at_zero : {F : ℕ → ℕ} → Linear F → F 0 ≡ 0
at_zero {F} p = p.xor 0 0 ∙ xor_self (F 0)

-- a number with the bit w as its highest
xor_top : (w r : ℕ) → r < 2 ^ w → bit_xor (2 ^ w) r ≡ 2 ^ w + r
xor_top w r h = let apart = and_shifted 1 w r h in xor_disjoint (2 ^ w) r (simp one-mul at apart)

-- two functions agree at each power of 2 below 2 ^ w
abbrev pub agree : (ℕ → ℕ) → (ℕ → ℕ) → ℕ → Bool
agree F G w = list_all (λ k. eqb (F (2 ^ k)) (G (2 ^ k))) (range_with_len 0 w)

-- what a test says of each number below w
pub each_below : (test : ℕ → Bool) (w : ℕ) → list_all test (range_with_len 0 w) ≡ true → (k : ℕ) → k < w → test k ≡ true
each_below test w t k h = simp (get_or-range_with_len, zero-add) at (AllPass-from_list_all test (range_with_len 0 w) t k 0 (rw length-range_with_len h))

module _ {F G : ℕ → ℕ} (p : Linear F) (q : Linear G) where
  top_step : (w r : ℕ) → r < 2 ^ w → F (2 ^ w) ≡ G (2 ^ w) → F r ≡ G r → F (2 ^ w + r) ≡ G (2 ^ w + r)
  top_step w r h s t = rw (← xor_top w r h) (p.xor (2 ^ w) r ∙ ap₂ bit_xor s t ∙ sym (q.xor (2 ^ w) r))

  same_from_powers : (w : ℕ) → ((k : ℕ) → k < w → F (2 ^ k) ≡ G (2 ^ k)) → (n : ℕ) → n < 2 ^ w → F n ≡ G n
  same_from_powers zero powers n h = let e : n ≡ 0 = omega arith in rw e (at_zero p ∙ sym (at_zero q))
  same_from_powers (suc w) powers n h =
      ⊎_elim
      (λ low. same_from_powers w (λ k l. powers k (omega arith)) n low)
      (λ high.
      let few : n - 2 ^ w < 2 ^ w = omega (arith, pow-suc 2 w) in
      let e : 2 ^ w + (n - 2 ^ w) ≡ n = omega arith in
      subst (λ x. F x ≡ G x) e (top_step w (n - 2 ^ w) few (powers w (omega arith)) (same_from_powers w (λ k l. powers k (omega arith)) (n - 2 ^ w) few)))
      (cases_lt n (2 ^ w))

  -- two linear functions that agree at each power of 2
  pub same_linear : (w : ℕ) → agree F G w ≡ true → (n : ℕ) → n < 2 ^ w → F n ≡ G n
  same_linear w t = same_from_powers w (λ k h. eqb-true _ _ (each_below (λ k. eqb (F (2 ^ k)) (G (2 ^ k))) w t k h))
