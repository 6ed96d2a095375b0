-- The definitions at a few texts: each is computed. Assumes nothing.
use Rattle.std.proofs.Common.{◌≡◌, [], ◌∷◌, Some, None, codes, refl}
use Rattle.known_answers.specs.Cut.{lines_of, fields_of}
use Rattle.known_answers.specs.Hex.{block_of, bytes_of}
use Rattle.known_answers.specs.Vector.{reading_of}

no_line : lines_of (codes "") ≡ []
no_line = refl

empty_line : lines_of (10 ∷ []) ≡ [] ∷ []
empty_line = refl

last_line : lines_of (97 ∷ 10 ∷ 10 ∷ 98 ∷ []) ≡ codes "a" ∷ [] ∷ codes "b" ∷ []
last_line = refl

ended_line : lines_of (97 ∷ 10 ∷ []) ≡ codes "a" ∷ []
ended_line = refl

empty_fields : fields_of (codes ";a;") ≡ [] ∷ codes "a" ∷ [] ∷ []
empty_fields = refl

either_case : bytes_of (codes "0aF9") ≡ Some (10 ∷ 249 ∷ [])
either_case = refl

odd : bytes_of (codes "0aF") ≡ None
odd = refl

whole_line : reading_of (codes "one;0A;00000000000000ff;8000000000000000") ≡ Some (codes "one", 10 ∷ [], 255, 9223372036854775808)
whole_line = refl

fifteen : block_of (codes "000000000000000") ≡ None
fifteen = refl
