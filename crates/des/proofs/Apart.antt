-- What two neighbouring boxes add has no bit in common. Assumes nothing.
use Rattle.std.proofs.Common.{◌≡◌, ℕ, ◌+◌, ◌-◌, ◌*◌, ◌^◌, ◌<◌, true, refl, sym, ap, ◌∙◌}
use Rattle.std.specs.List.{list_all, range_with_len}
use Rattle.std.specs.Int.Bits.{bit_and, bit_or, bit_xor, xor_disjoint}
use Rattle.std.proofs.lemmas.Nat.{and_assoc, and_comm, or_disjoint}
use Rattle.selections.specs.Selections.{picked}
use Rattle.selections.proofs.Linear.{Linear, agree, each_below, linear_after, linear_and, linear_picked, linear_shl, same_linear}
use Rattle.des.specs.Des.{group}
use Rattle.des.specs.Boxes.{boxed}
use Rattle.des.specs.internal.Merged.{placed, share}
use Rattle.des.specs.internal.Spread.{spread, spread_table}
use Rattle.des.specs.Tables.{permutation}
use Rattle.des.proofs.Rows.{boxed_fits}

-- what becomes of four bits of box i + 1
part : ℕ → ℕ → ℕ
part i four = spread (picked 32 permutation (four * 2 ^ (28 - 4 * i)))

linear_part : (i : ℕ) → Linear (part i)
unfolding part spread
linear_part i = linear_after (linear_picked 32 spread_table) (linear_after (linear_picked 32 permutation) (linear_shl (28 - 4 * i)))

-- the bits of a box of odd number, counted from 0, hold all that becomes of its four and nothing of what the box before it has
abbrev mask : ℕ → ℕ
mask i = part (2 * i + 1) 15

every_own : list_all (λ i. agree (λ four. bit_and (part (2 * i + 1) four) (mask i)) (part (2 * i + 1)) 4) (range_with_len 0 4) ≡ true
unfolding part spread
every_own = refl

every_other : list_all (λ i. agree (λ four. bit_and (part (2 * i) four) (mask i)) (λ four. 0) 4) (range_with_len 0 4) ≡ true
unfolding part spread
every_other = refl

own : (i four : ℕ) → i < 4 → four < 2 ^ 4 → bit_and (part (2 * i + 1) four) (mask i) ≡ part (2 * i + 1) four
own i four h few =
    same_linear (linear_after (linear_and (mask i)) (linear_part (2 * i + 1))) (linear_part (2 * i + 1)) 4
    (each_below (λ i. agree (λ four. bit_and (part (2 * i + 1) four) (mask i)) (part (2 * i + 1)) 4) 4 every_own i h) four few

other : (i four : ℕ) → i < 4 → four < 2 ^ 4 → bit_and (part (2 * i) four) (mask i) ≡ 0
other i four h few =
    same_linear {G = λ four. 0} (linear_after (linear_and (mask i)) (linear_part (2 * i))) (record { xor = λ a b. refl }) 4
    (each_below (λ i. agree (λ four. bit_and (part (2 * i) four) (mask i)) (λ four. 0) 4) 4 every_other i h) four few

apart : (i a b : ℕ) → i < 4 → a < 2 ^ 4 → b < 2 ^ 4 → bit_and (part (2 * i + 1) a) (part (2 * i) b) ≡ 0
apart i a b h p q =
    ap (λ x. bit_and x (part (2 * i) b)) (sym (own i a h p))
    ∙ and_assoc (part (2 * i) b) (part (2 * i + 1) a) (mask i)
    ∙ ap (bit_and (part (2 * i + 1) a)) (and_comm (mask i) (part (2 * i) b) ∙ other i b h q)
    ∙ and_comm (part (2 * i + 1) a) 0

pub joined : (x i : ℕ) → i < 4 → bit_or (spread (share x (2 * i + 1))) (spread (share x (2 * i))) ≡ bit_xor (spread (share x (2 * i + 1))) (spread (share x (2 * i)))
unfolding part placed
joined x i h =
    let none = apart i (boxed (2 * i + 1) (group x (2 * i + 1))) (boxed (2 * i) (group x (2 * i))) h (boxed_fits (2 * i + 1) _) (boxed_fits (2 * i) _) in
    or_disjoint _ _ none ∙ sym (xor_disjoint _ _ none)
