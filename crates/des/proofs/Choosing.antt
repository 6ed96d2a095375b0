-- Both permuted choices by exchanges and by a table. Assumes nothing.
use Rattle.std.proofs.Common.{◌≡◌, ℕ, ◌+◌, ◌*◌, ◌/◌, ◌%◌, ◌^◌, ◌<◌, true, List, [], ◌∷◌, get_or, refl, ap₂, ◌∙◌, arith}
use Rattle.std.specs.List.{fold, range_with_len}
use Rattle.std.specs.Int.Bits.{bit_and, bit_xor}
use Rattle.std.proofs.lemmas.List.FromFn.{get_or-map-range_with_len}
use Rattle.selections.specs.Selections.{picked}
use Rattle.selections.proofs.Linear.{Linear, agree, linear_after, linear_and, linear_mod, linear_picked, linear_shl, linear_shr, linear_xor, same_linear}
use Rattle.des.specs.internal.Expansion.{all_chosen, choice_numbers, chosen_at, chosen_bits, kept_table}
use Rattle.des.specs.Keys.{chosen}
use Rattle.des.specs.KeptWords.{word_of, word_table}
use Rattle.des.specs.internal.Swaps.{exchanged}
use Rattle.des.specs.Tables.{choice_1, choice_2}
use Rattle.des.proofs.Swaps.{linear_exchanged}

-- the bits of the key about a diagonal
abbrev turned : ℕ → ℕ
turned key = exchanged 9 0x55_0055_0055_0055 (exchanged 18 0x3333_0000_3333 (exchanged 36 0x0F0F_0F0F key))

linear_turned : Linear turned
linear_turned = linear_after (linear_exchanged 9 0x55_0055_0055_0055) (linear_after (linear_exchanged 18 0x3333_0000_3333) (linear_exchanged 36 0x0F0F_0F0F))

-- and its bytes in their places
abbrev placed : ℕ → ℕ
placed b =
    bit_xor (bit_xor (bit_xor (bit_xor (bit_xor
    (bit_and b 0xFF * 2 ^ 48 % 2 ^ 64)
    (bit_and b 0xFF00 * 2 ^ 32 % 2 ^ 64))
    (bit_and b 0xFF_0000 * 2 ^ 16 % 2 ^ 64))
    (bit_and b 0xF000_0000))
    (bit_and (b / 2 ^ 28) 0x0FFF_FFF0))
    (bit_and (b / 2 ^ 24) 0xF)

linear_moved : (mask places : ℕ) → Linear (λ b. bit_and b mask * 2 ^ places % 2 ^ 64)
linear_moved mask places = linear_after (linear_mod 64) (linear_after (linear_shl places) (linear_and mask))

linear_placed : Linear placed
linear_placed =
    linear_xor (linear_xor (linear_xor (linear_xor (linear_xor
    (linear_moved 0xFF 48) (linear_moved 0xFF00 32)) (linear_moved 0xFF_0000 16)) (linear_and 0xF000_0000))
    (linear_after (linear_and 0x0FFF_FFF0) (linear_shr 28)))
    (linear_after (linear_and 0xF) (linear_shr 24))

parts_agree : agree (λ key. placed (turned key)) (picked 64 choice_1) 64 ≡ true
unfolding exchanged
parts_agree = refl

pub parts_exchanged : (key : ℕ) → key < 2 ^ 64 → placed (turned key) ≡ picked 64 choice_1 key
parts_exchanged = same_linear (linear_after linear_placed linear_turned) (linear_picked 64 choice_1) 64 parts_agree

-- entry `16 * place + four` of the table
pub choice_entry : (place four : ℕ) → place < 14 → four < 16 → get_or choice_numbers (16 * place + four) 0 ≡ chosen_bits (four * 2 ^ (4 * place))
unfolding choice_numbers
choice_entry place four p f =
    let k = 16 * place + four in
    let high : k / 16 ≡ place = omega arith in
    let low : k % 16 ≡ four = omega arith in
    get_or-map-range_with_len (λ k. chosen_bits (k % 16 * 2 ^ (4 * (k / 16)))) 0 224 k k 0 (omega arith) (omega arith) ∙ ap₂ (λ h l. chosen_bits (l * 2 ^ (4 * h))) high low

linear_chosen_at : (place : ℕ) → Linear (λ parts. chosen_at parts place)
unfolding chosen_bits
linear_chosen_at place =
    linear_after (linear_after (linear_picked 48 kept_table) (linear_picked 56 choice_2))
    (linear_after (linear_shl (4 * place)) (linear_after (linear_mod 4) (linear_shr (4 * place))))

linear_fold : (places : List ℕ) {F : ℕ → ℕ} → Linear F → Linear (λ parts. fold (λ word place. bit_xor word (chosen_at parts place)) (F parts) places)
linear_fold [] p = p
linear_fold (place ∷ places) p = linear_fold places (linear_xor p (linear_chosen_at place))

linear_all : Linear all_chosen
linear_all = linear_fold (range_with_len 0 14) {F = λ parts. 0} (record { xor = λ a b. refl })

all_agree : agree (λ parts. word_of (all_chosen parts)) (picked 56 choice_2) 56 ≡ true
unfolding chosen_bits word_of
all_agree = refl

-- the word that is chosen is PC-2 of both parts
pub word_chosen : (left right : ℕ) → left < 2 ^ 28 → right < 2 ^ 28 → word_of (all_chosen (left * 2 ^ 28 + right)) ≡ chosen left right
unfolding chosen word_of
word_chosen left right l r = same_linear (linear_after (linear_picked 64 word_table) linear_all) (linear_picked 56 choice_2) 56 all_agree (left * 2 ^ 28 + right) (omega (arith, l, r))
