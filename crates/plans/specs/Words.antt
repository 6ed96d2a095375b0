-- The words of a text, each with its place. Assumes nothing.
use Rattle.std.specs.Prelude.{ℕ, ◌+◌, List, [], ◌∷◌, length, ◌==◌}
use Rattle.std.specs.List.{slice_split}

-- a word, and where it begins
pub record Placed : Type 0 where
  pub place : ℕ
  pub bytes : List ℕ

-- the pieces that are not empty, each with its place, which for the first piece is given; one byte lies between two pieces
abbrev pub placed_from : ℕ → List (List ℕ) → List Placed
placed_from place [] = []
placed_from place ([] ∷ pieces) = placed_from (place + 1) pieces
placed_from place ((b ∷ bs) ∷ pieces) =
    record { place = place; bytes = b ∷ bs } ∷ placed_from (place + length (b ∷ bs) + 1) pieces

-- the words of a text whose first byte has the place that is given: what stands between spaces
abbrev pub words_from : ℕ → List ℕ → List Placed
words_from place text = placed_from place (slice_split (λ b. b == 32) text)
