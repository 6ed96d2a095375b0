-- DES does not look at the eighth bits of its key's bytes. Assumes nothing.
use Rattle.std.proofs.Common.{rules, ◌≡◌, ◌≢◌, ℕ, ◌%◌, ◌/◌, ◌^◌, Bool, true, not, sym, ap, ◌∙◌}
use Rattle.std.specs.Prelude.{◌==◌, ◌&&◌, nat_le}
use Rattle.std.specs.List.{AllByRecursion}
use Rattle.std.proofs.lemmas.Bool.{and_parts, eq-eqb, leb-true, false≢true}
use Rattle.selections.specs.Selections.{bit}
use Rattle.selections.proofs.Picked.{picked_same}
use Rattle.des.specs.Des.{through, des}
use Rattle.des.specs.Keys.{words_from, round_words, SameButEighths}
use Rattle.des.specs.Tables.{choice_1, shifts}

-- a place that PC-1 may name
abbrev looked_at : ℕ → Bool
looked_at i = nat_le 1 i && nat_le i 64 && not (i % 8 == 0)

apart : (i : ℕ) → not (i % 8 == 0) ≡ true → i % 8 ≢ 0
apart i t e = absurd (false≢true (sym (ap not (eq-eqb (i % 8) 0 e)) ∙ t))

same_at : (k l : ℕ) → SameButEighths k l → (i : ℕ) → looked_at i ≡ true → bit 64 k i ≡ bit 64 l i
same_at k l same i t =
    let both = and_parts _ _ t in
    let within = and_parts _ _ both.0 in
    same i (leb-true 1 i within.0) (leb-true i 64 within.1) (apart i both.1)

choice_looks : AllByRecursion (λ i. looked_at i ≡ true) choice_1
choice_looks = search rules

words_same : (k l : ℕ) → SameButEighths k l → round_words k ≡ round_words l
unfolding round_words
words_same k l same = ap (λ p. words_from (p / 2 ^ 28) (p % 2 ^ 28) shifts) (picked_same 64 k l looked_at (same_at k l same) choice_1 choice_looks)

pub des_same : (k l b : ℕ) → SameButEighths k l → des k b ≡ des l b
des_same k l b same = ap (λ ws. through ws b) (words_same k l same)
