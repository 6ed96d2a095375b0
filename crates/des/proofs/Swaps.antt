-- The initial permutation and its inverse by exchanges of bits. Assumes nothing.
use Rattle.std.proofs.Common.{◌≡◌, ℕ, ◌^◌, ◌<◌, true, refl, sym, ap, ◌∙◌}
use Rattle.selections.specs.Permutations.{inverse_table}
use Rattle.selections.specs.Selections.{picked}
use Rattle.selections.proofs.Linear.{Linear, agree, linear_after, linear_and, linear_mod, linear_picked, linear_shl, linear_shr, linear_xor, same_linear}
use Rattle.des.specs.internal.Swaps.{exchanged, others}
use Rattle.des.specs.Tables.{initial, final}
use Rattle.des.proofs.Ciphering.{final_is}

pub linear_exchanged : (places mask : ℕ) → Linear (exchanged places mask)
unfolding exchanged
linear_exchanged places mask =
    linear_xor
    (linear_xor (linear_and (others places mask)) (linear_after (linear_and mask) (linear_shr places)))
    (linear_after (linear_mod 64) (linear_after (linear_shl places) (linear_and mask)))

-- five exchanges, and the same in the reverse order
abbrev there : ℕ → ℕ
there block =
    exchanged 33 0x5555_5555 (exchanged 24 0xFF00_FF00 (exchanged 30 0xCCCC_CCCC (exchanged 48 0xFFFF (exchanged 36 0x0F0F_0F0F block))))

abbrev back : ℕ → ℕ
back block =
    exchanged 36 0x0F0F_0F0F (exchanged 48 0xFFFF (exchanged 30 0xCCCC_CCCC (exchanged 24 0xFF00_FF00 (exchanged 33 0x5555_5555 block))))

linear_there : Linear there
linear_there =
    linear_after (linear_exchanged 33 0x5555_5555) (linear_after (linear_exchanged 24 0xFF00_FF00)
    (linear_after (linear_exchanged 30 0xCCCC_CCCC) (linear_after (linear_exchanged 48 0xFFFF) (linear_exchanged 36 0x0F0F_0F0F))))

linear_back : Linear back
linear_back =
    linear_after (linear_exchanged 36 0x0F0F_0F0F) (linear_after (linear_exchanged 48 0xFFFF)
    (linear_after (linear_exchanged 30 0xCCCC_CCCC) (linear_after (linear_exchanged 24 0xFF00_FF00) (linear_exchanged 33 0x5555_5555))))

there_agrees : agree there (picked 64 initial) 64 ≡ true
unfolding exchanged
there_agrees = refl

back_agrees : agree back (picked 64 final) 64 ≡ true
unfolding exchanged
back_agrees = refl

pub initial_exchanges : (block : ℕ) → block < 2 ^ 64 → there block ≡ picked 64 initial block
initial_exchanges = same_linear linear_there (linear_picked 64 initial) 64 there_agrees

pub inverse_exchanges : (block : ℕ) → block < 2 ^ 64 → back block ≡ picked 64 (inverse_table 64 initial) block
inverse_exchanges block fits = same_linear linear_back (linear_picked 64 final) 64 back_agrees block fits ∙ sym (ap (λ t. picked 64 t block) final_is)
