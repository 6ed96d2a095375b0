-- The words of a turned network. Assumes nothing.
use Rattle.std.specs.Prelude.{◌≡◌, ℕ, suc, ◌+◌, ◌-◌, ◌≤◌, List, [], ◌∷◌, length, reverse, slice_index_or}
use Rattle.four_words.specs.declared.words.BoxWords.{BoxWords}
use Rattle.four_words.specs.declared.words.RoundWords.{RoundWords}
use Rattle.four_words.specs.Joining.{Groups, inverses}
use Rattle.four_words.specs.Keying.{Key}
use Rattle.four_words.specs.Quarters.{exchanged}

-- z5 and z6 of the last of some rounds; m where there are none
unfoldable pub last_mixing : BoxWords → List RoundWords → BoxWords
last_mixing m [] = m
last_mixing m (k ∷ ks) = last_mixing k.mixing ks

-- the inverses of z1, z3, z2, z4 of a round, with m as z5 and z6
abbrev pub turned_round : Groups → BoxWords → RoundWords → RoundWords
turned_round G m k = record { joins = inverses G (exchanged k.joins); mixing = m }

-- the turned words of some rounds, each with z5 and z6 of the round before it; m is of the one before them all
unfoldable pub preceded : Groups → BoxWords → List RoundWords → List RoundWords
preceded G m [] = []
preceded G m (k ∷ ks) = turned_round G m k ∷ preceded G k.mixing ks

-- round 1 has the inverses of the closing words in order, the others follow last to first, and the closing words are the inverses of z1 to z4 of round 1
abbrev pub turned_key : Groups → Key → Key
turned_key G k = record {
  first = record { joins = inverses G k.closing; mixing = last_mixing k.first.mixing k.others };
  others = reverse (preceded G k.first.mixing k.others);
  closing = inverses G k.first.joins;
}

-- round r, counted from 1
abbrev pub round_of : Key → ℕ → RoundWords
round_of k r = slice_index_or (k.first ∷ k.others) (r - 1) k.first

-- how many rounds there are
abbrev pub rounds_in : Key → ℕ
rounds_in k = suc (length k.others)

-- the words of a turned network, round by round
pub record TurnedWords (G : Groups) (k t : Key) : Type 0 where
  pub rounds : rounds_in t ≡ rounds_in k
  pub first : (round_of t 1).joins ≡ inverses G k.closing
  pub later : (r : ℕ) → 2 ≤ r → r ≤ rounds_in k → (round_of t r).joins ≡ inverses G (exchanged (round_of k (rounds_in k + 2 - r)).joins)
  pub mixing : (r : ℕ) → 1 ≤ r → r ≤ rounds_in k → (round_of t r).mixing ≡ (round_of k (rounds_in k + 1 - r)).mixing
  pub closing : t.closing ≡ inverses G (round_of k 1).joins
