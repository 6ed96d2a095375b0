-- How digits write a key. Assumes nothing.
use Rattle.std.specs.Prelude.{ℕ, List, length, None, Option, nat_lt, if◌then◌else◌}
use Rattle.known_answers.specs.Hex.{bytes_of}

-- the bytes of a key, two digits to each, and no more than 96 of them
abbrev pub key_of : List ℕ → Option (List ℕ)
key_of digits = if nat_lt 192 (length digits) then None else bytes_of digits
