-- What hexadecimal digits write, the most significant first. Assumes nothing.
use Rattle.std.specs.Prelude.{ℕ, ◌+◌, ◌-◌, ◌*◌, List, [], ◌∷◌, length, map, Some, None, Option, ◌==◌, if◌then◌else◌}
use Rattle.std.specs.Option.{option_map}
use Rattle.std.specs.Int.{is_in_range}
use Rattle.std.specs.Int.Digits.{number_from_digits}

-- what the character c is worth: 0 to 9, a to f, A to F
abbrev pub digit_of : ℕ → Option ℕ
digit_of c =
    if is_in_range 48 57 c then Some (c - 48)
    else if is_in_range 97 102 c then Some (c - 97 + 10)
    else if is_in_range 65 70 c then Some (c - 65 + 10)
    else None

-- a first element and the others, where all are there
abbrev pub front : {X : Type 0} → Option X → Option (List X) → Option (List X)
front (Some x) (Some xs) = Some (x ∷ xs)
front (Some x) None = None
front None o = None

-- a number and one digit more below it, where both are there
abbrev pub paired : Option ℕ → Option ℕ → Option ℕ
paired (Some high) (Some low) = Some (high * 16 + low)
paired (Some high) None = None
paired None o = None

-- the byte that two digits write
abbrev pub byte_of : ℕ → ℕ → Option ℕ
byte_of high low = paired (digit_of high) (digit_of low)

-- the values, where all are there
abbrev pub all_given : {X : Type 0} → List (Option X) → Option (List X)
all_given [] = Some []
all_given (x ∷ xs) = front x (all_given xs)

-- what each character is worth, where all are digits
abbrev pub values_of : List ℕ → Option (List ℕ)
values_of cs = all_given (map digit_of cs)

-- the number that digits write
abbrev pub number_of : List ℕ → Option ℕ
number_of cs = option_map (number_from_digits 16) (values_of cs)

-- the number that sixteen digits write, and no fewer or more
abbrev pub block_of : List ℕ → Option ℕ
block_of cs = if length cs == 16 then number_of cs else None

-- what each two digits write, and nothing for a last one alone
abbrev pub pairs_of : List ℕ → List (Option ℕ)
pairs_of [] = []
pairs_of (c ∷ []) = None ∷ []
pairs_of (high ∷ low ∷ cs) = byte_of high low ∷ pairs_of cs

-- the bytes that digits write, two to a byte
abbrev pub bytes_of : List ℕ → Option (List ℕ)
bytes_of cs = all_given (pairs_of cs)
