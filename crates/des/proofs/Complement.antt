-- The complement law of DES. Assumes nothing.
use Rattle.std.proofs.Common.{rules, ◌≡◌, ℕ, ◌+◌, ◌-◌, ◌^◌, ◌<◌, ◌≤◌, List, [], ◌∷◌, refl, sym, subst, ap, arith}
use Rattle.std.proofs.Math.Nat.{sub-add_cancel}
use Rattle.std.specs.List.{fold, AllZip, AllByRecursion}
use Rattle.networks.specs.declared.pairs.Halves.{Halves}
use Rattle.networks.specs.Halves.{halves_of}
use Rattle.selections.specs.Selections.{picked}
use Rattle.selections.proofs.Picked.{picked_below}
use Rattle.des.specs.Des.{substituted, f, round, through, des}
use Rattle.des.specs.Keys.{rotated, chosen, words_from, round_words}
use Rattle.des.specs.Opposites.{Opposite}
use Rattle.des.specs.Tables.{initial, final, expansion, permutation, choice_1, choice_2, shifts}
use Rattle.des.proofs.Ones.{Ones, xor_one, xor_both, picked_ones, joined, parted, ones_from_opposite, opposite_from_ones}

-- a rotation joins the low bits and the high ones
rotated_ones : (s : ℕ) {c d : ℕ} → s ≤ 28 → Ones 28 c d → Ones 28 (rotated s c) (rotated s d)
rotated_ones s {c} {d} h p =
    let e : s + (28 - s) ≡ 28 = omega arith in
    let both = parted s (28 - s) c d (subst (λ w. Ones w c d) (sym e) p) in
    subst (λ w. Ones w (rotated s c) (rotated s d)) (sub-add_cancel h) (joined both.1 both.0)

-- a choice of opposite parts
chosen_ones : {c d c' d' : ℕ} → Ones 28 c c' → Ones 28 d d' → Ones 48 (chosen c d) (chosen c' d')
unfolding chosen
chosen_ones p q = picked_ones choice_2 refl (joined p q)

-- round words from opposite parts
words_ones : (ss : List ℕ) {c d c' d' : ℕ} → AllByRecursion (λ s. s ≤ 28) ss → Ones 28 c c' → Ones 28 d d' → AllZip (Ones 48) (words_from c d ss) (words_from c' d' ss)
unfolding words_from
words_ones [] few p q = tt
words_ones (s ∷ ss) few p q =
    let p' = rotated_ones s few.0 p in
    let q' = rotated_ones s few.0 q in
    (chosen_ones p' q', words_ones ss few.1 p' q')

shifts_few : AllByRecursion (λ s. s ≤ 28) shifts
shifts_few = search rules

-- the round words of opposite keys
round_words_ones : {k l : ℕ} → Ones 64 k l → AllZip (Ones 48) (round_words k) (round_words l)
unfolding round_words
round_words_ones {k} {l} p =
    let both = parted 28 28 (picked 64 choice_1 k) (picked 64 choice_1 l) (picked_ones choice_1 refl p) in
    words_ones shifts shifts_few both.0 both.1

-- the complements in the round function cancel
f_same : {r s k l : ℕ} → Ones 32 r s → Ones 48 k l → f r k ≡ f s l
unfolding f
f_same {r} {s} {k} {l} p q = ap (λ x. picked 32 permutation (substituted x)) (xor_both (picked_ones expansion refl p) (parted 0 48 k l q).1)

pub f_below : (r k : ℕ) → f r k < 2 ^ 32
unfolding f
f_below r k = picked_below 32 _ permutation

-- both halves are opposite
record Both (g h : Halves ℕ) : Type 0 where
  left : Ones 32 g.left h.left
  right : Ones 32 g.right h.right

-- one round, and any number of them
round_both : (g h : Halves ℕ) {k l : ℕ} → Both g h → Ones 48 k l → Both (round g k) (round h l)
round_both g h {k} {l} p q = record {
  left = p.right;
  right = rw (← f_same p.right q) (xor_one p.left (f g.right k) (f_below g.right k));
}

rounds_both : (ks ls : List ℕ) (g h : Halves ℕ) → AllZip (Ones 48) ks ls → Both g h → Both (fold round g ks) (fold round h ls)
rounds_both [] [] g h z p = p
rounds_both [] (l ∷ ls) g h z p = absurd z
rounds_both (k ∷ ks) [] g h z p = absurd z
rounds_both (k ∷ ks) (l ∷ ls) g h z p = rounds_both ks ls (round g k) (round h l) z.1 (round_both g h p z.0)

-- opposite blocks through opposite round words
through_ones : (ks ls : List ℕ) {a b : ℕ} → AllZip (Ones 48) ks ls → Ones 64 a b → Ones 64 (through ks a) (through ls b)
unfolding through
through_ones ks ls {a} {b} z p =
    let both = parted 32 32 (picked 64 initial a) (picked 64 initial b) (picked_ones initial refl p) in
    let ends = rounds_both ks ls (halves_of (picked 64 initial a)) (halves_of (picked 64 initial b)) z (record { left = both.0; right = both.1 }) in
    picked_ones final refl (joined ends.right ends.left)

-- a complemented key enciphers a complemented block as the complement
pub complement : (k l a b : ℕ) → k < 2 ^ 64 → l < 2 ^ 64 → a < 2 ^ 64 → b < 2 ^ 64 → Opposite 64 k l → Opposite 64 a b → Opposite 64 (des k a) (des l b)
complement k l a b h i j m keys blocks =
    opposite_from_ones (through_ones (round_words k) (round_words l) (round_words_ones (ones_from_opposite 64 k l h i keys)) (ones_from_opposite 64 a b j m blocks))
