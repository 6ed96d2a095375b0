-- The first word of a text. Assumes nothing.
use Rattle.std.specs.Prelude.{◌≡◌, ℕ, ◌+◌, List, [], ◌∷◌, length, drop}
use Rattle.plans.specs.Words.{words_from}

-- a text has no word, whatever place it has
abbrev pub Wordless : List ℕ → Type 0
Wordless text = (place : ℕ) → words_from place text ≡ []

-- a text begins with so many spaces and then a word, after which come its other words
abbrev pub Begins : List ℕ → ℕ → List ℕ → Type 0
Begins text spaces word = (place : ℕ) → words_from place text ≡
    record { place = place + spaces; bytes = word } ∷ words_from (place + spaces + length word) (drop (spaces + length word) text)
