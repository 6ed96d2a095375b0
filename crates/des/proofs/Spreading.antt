-- Halves and words as the boxes take them. Assumes nothing.
use Rattle.std.proofs.Common.{◌≡◌, ℕ, ◌*◌, ◌/◌, ◌%◌, ◌^◌, ◌<◌, true, refl, sym, ap, ◌∙◌}
use Rattle.std.specs.Int.Bits.{bit_and, bit_xor}
use Rattle.std.proofs.lemmas.Nat.{xor_lt}
use Rattle.selections.proofs.Linear.{Linear, agree, linear_id, linear_after, linear_and, linear_mod, linear_picked, linear_shl, linear_shr, linear_xor, picked_xor, same_linear}
use Rattle.selections.proofs.Picked.{picked_below}
use Rattle.des.specs.internal.Spread.{Groups, half_of, half_table, spread, spread_table}

-- a half spread by shifts
abbrev shifted : ℕ → ℕ
shifted h =
    bit_xor
    (bit_and (bit_xor (h / 2 ^ 3) (h * 2 ^ 29 % 2 ^ 64)) 0x3F3F_3F3F * 2 ^ 32 % 2 ^ 64)
    (bit_and (bit_xor (h * 2 ^ 1 % 2 ^ 64) (h / 2 ^ 31)) 0x3F3F_3F3F)

linear_shifted : Linear shifted
linear_shifted =
    linear_xor
    (linear_after (linear_mod 64) (linear_after (linear_shl 32) (linear_after (linear_and 0x3F3F_3F3F) (linear_xor (linear_shr 3) (linear_after (linear_mod 64) (linear_shl 29))))))
    (linear_after (linear_and 0x3F3F_3F3F) (linear_xor (linear_after (linear_mod 64) (linear_shl 1)) (linear_shr 31)))

shifted_agrees : agree shifted spread 32 ≡ true
unfolding spread
shifted_agrees = refl

pub spread_shifts : (h : ℕ) → h < 2 ^ 32 → shifted h ≡ spread h
unfolding spread
spread_shifts = same_linear linear_shifted (linear_picked 32 spread_table) 32 shifted_agrees

-- and taken together again
abbrev gathered : ℕ → ℕ
gathered g = bit_xor (bit_and (g / 2 ^ 29) 0xF0F0_F0F0) (bit_and (g / 2 ^ 1) 0x0F0F_0F0F)

linear_gathered : Linear gathered
linear_gathered = linear_xor (linear_after (linear_and 0xF0F0_F0F0) (linear_shr 29)) (linear_after (linear_and 0x0F0F_0F0F) (linear_shr 1))

gathered_agrees : agree gathered half_of 64 ≡ true
unfolding half_of
gathered_agrees = refl

pub half_shifts : (g : ℕ) → g < 2 ^ 64 → gathered g ≡ half_of g
unfolding half_of
half_shifts = same_linear linear_gathered (linear_picked 64 half_table) 64 gathered_agrees

half_agrees : agree (λ h. half_of (spread h)) (λ h. h) 32 ≡ true
unfolding spread half_of
half_agrees = refl

-- the half of its groups
pub half_spread : (h : ℕ) → h < 2 ^ 32 → half_of (spread h) ≡ h
unfolding spread half_of
half_spread = same_linear (linear_after (linear_picked 64 half_table) (linear_picked 32 spread_table)) linear_id 32 half_agrees

-- it has 32 bits
pub half_below : (g : ℕ) → half_of g < 2 ^ 32
unfolding half_of
half_below g = picked_below 64 g half_table

pub spread_xor : (a b : ℕ) → spread (bit_xor a b) ≡ bit_xor (spread a) (spread b)
unfolding spread
spread_xor = picked_xor 32 spread_table

-- the half of two halves joined
pub half_joined : (a b : ℕ) → a < 2 ^ 32 → b < 2 ^ 32 → half_of (bit_xor (spread a) (spread b)) ≡ bit_xor a b
half_joined a b p q = ap half_of (sym (spread_xor a b)) ∙ half_spread (bit_xor a b) (xor_lt 32 a b p q)

groups_agree : agree (λ h. bit_and (spread h) 0x3F3F_3F3F_3F3F_3F3F) spread 32 ≡ true
unfolding spread
groups_agree = refl

pub spread_groups : (h : ℕ) → h < 2 ^ 32 → Groups (spread h)
unfolding spread
spread_groups = same_linear (linear_after (linear_and 0x3F3F_3F3F_3F3F_3F3F) (linear_picked 32 spread_table)) (linear_picked 32 spread_table) 32 groups_agree
