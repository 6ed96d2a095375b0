-- What a line with a known answer states. Assumes nothing.
use Rattle.std.specs.Prelude.{ℕ, List, [], ◌∷◌, Some, None, Option}
use Rattle.known_answers.specs.declared.vector.Fields.{Fields}
use Rattle.known_answers.specs.declared.vector.Vector.{Vector}
use Rattle.known_answers.specs.Cut.{fields_of}
use Rattle.known_answers.specs.Hex.{block_of}
use Rattle.known_answers.specs.Keys.{key_of}

-- four fields, each as its bytes
abbrev pub Written : Type 0
Written = List ℕ × List ℕ × List ℕ × List ℕ

-- what the four fields are as bytes
abbrev pub parts : Fields → Written
parts f = (f.description.now, f.key.now, f.text.now, f.sealed.now)

-- exactly four fields
abbrev pub four_of : List (List ℕ) → Option Written
four_of [] = None
four_of (description ∷ []) = None
four_of (description ∷ key ∷ []) = None
four_of (description ∷ key ∷ text ∷ []) = None
four_of (description ∷ key ∷ text ∷ sealed ∷ []) = Some (description, key, text, sealed)
four_of (description ∷ key ∷ text ∷ sealed ∷ next ∷ others) = None

-- a description, a key, a text and what it is sealed to
abbrev pub Reading : Type 0
Reading = List ℕ × List ℕ × ℕ × ℕ

-- what a known answer holds
abbrev pub contents : Vector → Reading
contents v = (v.description.now, v.key, v.text, v.sealed)

-- a reading of which all parts are there
abbrev pub all_of : List ℕ → Option (List ℕ) → Option ℕ → Option ℕ → Option Reading
all_of description (Some key) (Some text) (Some sealed) = Some (description, key, text, sealed)
all_of description (Some key) (Some text) None = None
all_of description (Some key) None sealed = None
all_of description None text sealed = None

-- four fields read
abbrev pub read_of : Option Written → Option Reading
read_of None = None
read_of (Some w) = all_of w.0 (key_of w.1) (block_of w.2) (block_of w.3)

-- a line read
abbrev pub reading_of : List ℕ → Option Reading
reading_of line = read_of (four_of (fields_of line))
