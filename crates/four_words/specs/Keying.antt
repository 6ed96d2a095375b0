-- The words of a network's rounds. Assumes nothing.
use Rattle.std.specs.Prelude.{ℕ, ◌+◌, ◌-◌, ◌*◌, List, [], ◌∷◌, map, slice_index}
use Rattle.std.specs.List.{range_with_len}
use Rattle.four_words.specs.declared.words.Words.{Words}
use Rattle.four_words.specs.declared.words.RoundWords.{RoundWords}
use Rattle.four_words.specs.Quarters.{Fit}

-- the words of the first round, of the others in order, and the closing words
pub record Key : Type 0 where
  pub first : RoundWords
  pub others : List RoundWords
  pub closing : Words

-- four words of a list, from a place on
abbrev pub four_at : List ℕ → ℕ → Words
four_at ws i = record { first = slice_index ws i; second = slice_index ws (i + 1); third = slice_index ws (i + 2); fourth = slice_index ws (i + 3) }

-- the six words of round r, counted from 0
abbrev pub round_at : List ℕ → ℕ → RoundWords
round_at ws r = record { joins = four_at ws (6 * r); mixing = record { z5 = slice_index ws (6 * r + 4); z6 = slice_index ws (6 * r + 5) } }

-- the words of n rounds, six for each, and then the closing words
abbrev pub key_of : ℕ → List ℕ → Key
key_of n ws = record { first = round_at ws 0; others = map (round_at ws) (range_with_len 1 (n - 1)); closing = four_at ws (6 * n) }

-- the words that each of some rounds joins are words of 16 bits
unfoldable pub AllFit : List RoundWords → Type 0
AllFit [] = Unit
AllFit (k ∷ ks) = Fit k.joins × AllFit ks

-- so are those of the first round, of the others, and the closing words
abbrev pub KeyFits : Key → Type 0
KeyFits k = Fit k.first.joins × AllFit k.others × Fit k.closing
