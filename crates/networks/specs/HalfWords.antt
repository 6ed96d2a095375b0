-- Forms of a number of 32 bits. Assumes nothing.
use Rattle.std.specs.Prelude.{◌≡◌, ℕ, ◌^◌, ◌<◌}

-- numbers of 32 bits and words, each made of the other
pub record Faithful {W : Type 0} (fits : W → Type 0) (word_of : ℕ → W) (number_of : W → ℕ) : Type 0 where
  pub word_fits : (n : ℕ) → n < 2 ^ 32 → fits (word_of n)
  pub number_fits : (w : W) → fits w → number_of w < 2 ^ 32
  pub number_word : (n : ℕ) → n < 2 ^ 32 → number_of (word_of n) ≡ n
  pub word_number : (w : W) → fits w → word_of (number_of w) ≡ w
