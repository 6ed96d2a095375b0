-- A block passed under one of two maps that are the same on blocks. Assumes nothing.
use Rattle.std.proofs.Common.{◌≡◌, ℕ, ◌<◌, ◌^◌, Bool, true, false, sym, ◌∙◌, subst}
use Rattle.ciphers.specs.Maps.{SameMap}
use Rattle.one_block.specs.Calls.{Answers}

pub answered : (f g : ℕ → ℕ) (opening : Bool) (block result : ℕ) → SameMap f g → block < 2 ^ 64 → result < 2 ^ 64 → Answers f opening block result → Answers g opening block result
answered f g false block result same fits _ e = e ∙ same block fits
answered f g true block result same _ fits e = sym (same result fits) ∙ e

-- the same, where the second map is one of many, of which a number tells which
pub answered_at : (f : ℕ → ℕ) (g : ℕ → ℕ → ℕ) (told number : ℕ) (opening : Bool) (block result : ℕ) → told ≡ number → SameMap f (g told) → block < 2 ^ 64 → result < 2 ^ 64 → Answers f opening block result → Answers (g number) opening block result
answered_at f g told number opening block result e same fits below answers = answered f (g number) opening block result (subst (λ n. SameMap f (g n)) e same) fits below answers
