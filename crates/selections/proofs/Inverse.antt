-- A permutation of bits and the one by the inverse table undo each other. Assumes nothing.
use Rattle.std.proofs.Common.{◌≡◌, ℕ, zero, suc, ◌+◌, ◌-◌, ◌*◌, ◌/◌, ◌%◌, ◌^◌, ◌<◌, ◌≤◌, Bool, true, false, cond, List, [], ◌∷◌, length, get_or, refl, sym, ap, ◌∙◌, arith, subst}
use Rattle.std.specs.Prelude.{◌==◌}
use Rattle.std.specs.List.{fold, count_by, position_or_len}
use Rattle.std.proofs.Math.Nat.{pow-suc}
use Rattle.std.proofs.lemmas.Bool.{and_parts, eqb-true, eq-eqb, leb-true}
use Rattle.std.proofs.lemmas.List.FromFn.{get_or-map-range_with_len, length-map-range_with_len}
use Rattle.std.proofs.lemmas.List.{get_or-replicate}
use Rattle.std.proofs.lemmas.List.Sums.{sum_by-cons, get_or-le-sum_by, passes_at_first, AllPass-from_list_all}
use Rattle.std.proofs.lemmas.Nat.{shr_high}
use Rattle.std.proofs.lemmas.Nat.Bits.{bit_at_cat_low, same_from_bits_below}
use Rattle.selections.specs.Selections.{bit, picked}
use Rattle.selections.specs.Permutations.{is_place, times_named, NamesEachOnce, entry_naming, inverse_table}
use Rattle.selections.proofs.Picked.{picked_below}

-- the room that two numbers take when one is moved up
moved : (out b p : ℕ) → (2 * out + b) * p ≡ out * (p * 2) + b * p
moved out b p = grind arith

module _ (w n : ℕ) where
  -- the bits so far move up as others come in below them
  after : (out : ℕ) (table : List ℕ) → fold (λ out i. 2 * out + bit w n i) out table ≡ out * 2 ^ length table + picked w table n
  after out [] = omega arith
  after out (i ∷ table) =
      omega (arith, after (2 * out + bit w n i) table, after (0 + bit w n i) table, moved out (bit w n i) (2 ^ length table), ap (λ x. out * x) (pow-suc 2 (length table)))

  -- bit i of a selection is the bit that entry i names
  bit_picked : (table : List ℕ) (i : ℕ) → i < length table → bit (length table) (picked w table n) (i + 1) ≡ bit w n (get_or table i 0)
  bit_picked [] i l = absurd (omega arith)
  bit_picked (x ∷ table) zero l =
      let place : suc (length table) - (0 + 1) ≡ length table = omega arith in
      let one : (0 + bit w n x) % 2 ≡ bit w n x = omega arith in
      ap (λ k. picked w (x ∷ table) n / 2 ^ k % 2) place
      ∙ ap (λ y. y / 2 ^ length table % 2) (after (0 + bit w n x) table)
      ∙ ap (λ y. y % 2) (shr_high (0 + bit w n x) (length table) (picked w table n) (picked_below w n table))
      ∙ one
  bit_picked (x ∷ table) (suc i) l =
      let place : suc (length table) - (suc i + 1) ≡ length table - (i + 1) = omega arith in
      ap (λ k. picked w (x ∷ table) n / 2 ^ k % 2) place
      ∙ ap (λ y. y / 2 ^ (length table - (i + 1)) % 2) (after (0 + bit w n x) table)
      ∙ bit_at_cat_low (0 + bit w n x) (length table) (picked w table n) (length table - (i + 1)) (omega arith)
      ∙ bit_picked table i (omega arith)

abbrev weight : Bool → ℕ
weight b = cond b 1 0

module _ (p : ℕ → Bool) where
  -- how many pass, with one more in front
  counted : (x : ℕ) (xs : List ℕ) → count_by p (x ∷ xs) ≡ weight (p x) + count_by p xs
  counted x xs = sum_by-cons (λ y. weight (p y)) x xs

  passing : (xs : List ℕ) (j : ℕ) → j < length xs → p (get_or xs j 0) ≡ true → 1 ≤ count_by p xs
  passing xs j l pass = omega (arith, ap weight pass, get_or-le-sum_by (λ y. weight (p y)) xs j 0 l)

  only_step : (b : Bool) (x : ℕ) (xs : List ℕ) (j : ℕ) → p x ≡ b → j < length xs → p (get_or xs j 0) ≡ true → count_by p (x ∷ xs) ≡ 1
      → (count_by p xs ≡ 1 → position_or_len p xs ≡ j) → position_or_len p (x ∷ xs) ≡ suc j
  only_step true x xs j e l pass one rest = absurd (omega (arith, ap weight e, counted x xs, passing xs j l pass))
  only_step false x xs j e l pass one rest = rw e (omega (arith, rest (omega (arith, ap weight e, counted x xs))))

  -- where one place alone passes, it is the first
  only_first : (xs : List ℕ) (j : ℕ) → j < length xs → p (get_or xs j 0) ≡ true → count_by p xs ≡ 1 → position_or_len p xs ≡ j
  only_first [] j l pass one = absurd (omega arith)
  only_first (x ∷ xs) zero l pass one = rw pass refl
  only_first (x ∷ xs) (suc j) l pass one = only_step (p x) x xs j refl (omega arith) pass one (only_first xs j (omega arith) pass)

  first_step : (b : Bool) (x : ℕ) (xs : List ℕ) → p x ≡ b → count_by p (x ∷ xs) ≡ 1 → (count_by p xs ≡ 1 → position_or_len p xs < length xs) → position_or_len p (x ∷ xs) < length (x ∷ xs)
  first_step true x xs e one rest = rw e (omega arith)
  first_step false x xs e one rest = rw e (omega (arith, rest (omega (arith, ap weight e, counted x xs))))

  -- where one passes, there is a first
  some_first : (xs : List ℕ) → count_by p xs ≡ 1 → position_or_len p xs < length xs
  some_first [] one = absurd (omega arith)
  some_first (x ∷ xs) one = first_step (p x) x xs refl one (some_first xs)

-- words with the same bits are equal
same_bits : (w a b : ℕ) → a < 2 ^ w → b < 2 ^ w → ((i : ℕ) → i < w → bit w a (i + 1) ≡ bit w b (i + 1)) → a ≡ b
same_bits w a b p q same =
    same_from_bits_below w a b p q (λ i l.
    let place : w - (w - 1 - i + 1) ≡ i = omega arith in
    subst (λ k. a / 2 ^ k % 2 ≡ b / 2 ^ k % 2) place (same (w - 1 - i) (omega arith)))

pub picked_fits : (w : ℕ) (table : List ℕ) (n : ℕ) {v : ℕ} → length table ≡ v → picked w table n < 2 ^ v
picked_fits w table n e = subst (λ k. picked w table n < 2 ^ k) e (picked_below w n table)

module _ (w : ℕ) (table : List ℕ) (names : NamesEachOnce w table) where
  once : (i : ℕ) → i < w → times_named table (i + 1) ≡ 1
  once i l =
      sym (get_or-map-range_with_len (times_named table) 1 w i (i + 1) 0 l (omega arith))
      ∙ ap (λ xs. get_or xs i 0) names.once
      ∙ get_or-replicate w i 1 0 l

  within : (j : ℕ) → j < w → (1 ≤ get_or table j 0) × (get_or table j 0 ≤ w)
  within j l =
      let both = and_parts _ _ (AllPass-from_list_all (is_place w) table names.places_only j 0 (omega arith)) in
      (leb-true _ _ both.0, leb-true _ _ both.1)

  inverse_at : (i : ℕ) → i < w → get_or (inverse_table w table) i 0 ≡ entry_naming table (i + 1)
  unfolding inverse_table
  inverse_at i l = get_or-map-range_with_len (entry_naming table) 1 w i (i + 1) 0 l (omega arith)

  -- the entry that names a place names it
  names_back : (i : ℕ) → i < w → get_or table (position_or_len (λ x. x == i + 1) table) 0 ≡ i + 1
  names_back i l = eqb-true _ _ (passes_at_first (λ x. x == i + 1) table 0 (some_first (λ x. x == i + 1) table (once i l)))

  -- what an entry names is named by it
  named_at : (i j : ℕ) → i < w → j < w → get_or table j 0 ≡ i + 1 → position_or_len (λ x. x == i + 1) table ≡ j
  named_at i j l m e = only_first (λ x. x == i + 1) table j (omega arith) (eq-eqb _ _ e) (once i l)

  pub length_inverse : length (inverse_table w table) ≡ w
  unfolding inverse_table
  length_inverse = length-map-range_with_len (entry_naming table) 1 w

  bits_back : (n i : ℕ) → i < w → bit w (picked w (inverse_table w table) (picked w table n)) (i + 1) ≡ bit w n (i + 1)
  bits_back n i l =
      let there = picked w table n in
      let j = position_or_len (λ x. x == i + 1) table in
      ap (λ v. bit v (picked w (inverse_table w table) there) (i + 1)) (sym length_inverse)
      ∙ bit_picked w there (inverse_table w table) i (omega (arith, length_inverse))
      ∙ ap (bit w there) (inverse_at i l)
      ∙ ap (λ v. bit v there (j + 1)) (sym names.whole)
      ∙ bit_picked w n table j (some_first (λ x. x == i + 1) table (once i l))
      ∙ ap (bit w n) (names_back i l)

  bits_forth : (n i : ℕ) → i < w → bit w (picked w table (picked w (inverse_table w table) n)) (i + 1) ≡ bit w n (i + 1)
  bits_forth n i l =
      let there = picked w (inverse_table w table) n in
      let x = get_or table i 0 in
      let fits = within i l in
      let next : x ≡ x - 1 + 1 = omega arith in
      let named : position_or_len (λ y. y == x - 1 + 1) table + 1 ≡ i + 1 = ap (λ j. j + 1) (named_at (x - 1) i (omega arith) l next) in
      ap (λ v. bit v (picked w table there) (i + 1)) (sym names.whole)
      ∙ bit_picked w there table i (omega arith)
      ∙ ap (bit w there) next
      ∙ ap (λ v. bit v there (x - 1 + 1)) (sym length_inverse)
      ∙ bit_picked w n (inverse_table w table) (x - 1) (omega (arith, length_inverse))
      ∙ ap (bit w n) (inverse_at (x - 1) (omega arith) ∙ named)

  pub inverse_after : (n : ℕ) → n < 2 ^ w → picked w (inverse_table w table) (picked w table n) ≡ n
  inverse_after n fits = same_bits w _ n (picked_fits w (inverse_table w table) (picked w table n) length_inverse) fits (bits_back n)

  pub inverse_before : (n : ℕ) → n < 2 ^ w → picked w table (picked w (inverse_table w table) n) ≡ n
  inverse_before n fits = same_bits w _ n (picked_fits w table (picked w (inverse_table w table) n) names.whole) fits (bits_forth n)
