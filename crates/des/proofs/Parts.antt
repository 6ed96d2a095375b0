-- The two parts of the key, and the round words that are still to come. Assumes nothing.
use Rattle.std.proofs.Common.{◌≡◌, ℕ, true, ◌+◌, ◌-◌, ◌/◌, ◌%◌, ◌^◌, ◌<◌, ◌≤◌, List, [], ◌∷◌, ◌++◌, length, get_or, drop, refl, sym, subst, ap, ◌∙◌, arith, append_assoc}
use Rattle.std.specs.List.{list_all}
use Rattle.std.specs.Prelude.{nat_le}
use Rattle.std.proofs.lemmas.Bool.{leb-true}
use Rattle.std.proofs.lemmas.List.Sums.{AllPass-from_list_all}
use Rattle.std.proofs.lemmas.List.{at_drop_more, at_drop_all, append-nil}
use Rattle.std.proofs.lemmas.Nat.{pow-add, shr_below, mod_below, mul-add-lt, pow_pos}
use Rattle.des.specs.Keys.{rotated, chosen, words_from}

pub rotated_below : (s part : ℕ) → part < 2 ^ 28 → s ≤ 28 → rotated s part < 2 ^ 28
rotated_below s part p few =
    let k = 28 - s in
    let whole : s + k ≡ 28 = omega arith in
    let high = shr_below part s k (subst (λ w. part < 2 ^ w) (sym whole) p) in
    let below = mul-add-lt (part % 2 ^ k) (2 ^ s) (part / 2 ^ k) (2 ^ k) (mod_below part (2 ^ k) (pow_pos k)) high in
    subst (λ w. rotated s part < w) (sym (pow-add 2 s k) ∙ ap (λ w. 2 ^ w) whole) below

-- the words so far, and those that the rest of the rotations give
unfoldable pub with_rest : List ℕ → List ℕ → ℕ → ℕ → ℕ → List ℕ
with_rest words ss c d i = words ++ words_from c d (drop i ss)

pub with_none : (ss : List ℕ) (c d : ℕ) → with_rest [] ss c d 0 ≡ words_from c d ss
unfolding with_rest
with_none ss c d = refl

pub with_more : (words ss : List ℕ) (c d i : ℕ) → i < length ss
    → with_rest (words ++ chosen (rotated (get_or ss i 0) c) (rotated (get_or ss i 0) d) ∷ []) ss (rotated (get_or ss i 0) c) (rotated (get_or ss i 0) d) (i + 1) ≡ with_rest words ss c d i
unfolding with_rest words_from
with_more words ss c d i l = append_assoc words _ _ ∙ ap (λ ws. words ++ ws) (sym (at_drop_more (words_from c d) ss i 0 l))

pub with_all : (words ss : List ℕ) (c d i : ℕ) → length ss ≤ i → with_rest words ss c d i ≡ words
unfolding with_rest words_from
with_all words ss c d i l = ap (λ ws. words ++ ws) (at_drop_all (words_from c d) ss i l) ∙ append-nil words

-- what a test says of each rotation
pub each_few : (ss : List ℕ) (i : ℕ) → list_all (λ s. nat_le s 28) ss ≡ true → i < length ss → get_or ss i 0 ≤ 28
each_few ss i t l = leb-true _ 28 (AllPass-from_list_all (λ s. nat_le s 28) ss t i 0 l)
