-- Runs padded to whole blocks. Assumes nothing.
use Rattle.std.specs.Prelude.{ℕ, ◌-◌, ◌%◌, ◌&&◌, List, ◌++◌, length, slice_index, take, drop, replicate, Some, None, Option, ◌==◌, if◌then◌else◌}
use Rattle.std.specs.List.{list_all}
use Rattle.std.specs.Int.{is_in_range}

-- how many bytes fill the last block after n bytes, 1 to 8
abbrev pub padding : ℕ → ℕ
padding n = 8 - n % 8

-- the plain and its padding, bytes whose value is their number
abbrev pub padded : List ℕ → List ℕ
padded plain = plain ++ replicate (padding (length plain)) (padding (length plain))

-- a run without its last n bytes, where these are padding
abbrev pub without : ℕ → List ℕ → Option (List ℕ)
without n run =
    if is_in_range 1 8 n && list_all (λ b. b == n) (drop (length run - n) run)
    then Some (take (length run - n) run)
    else None

-- the plain of a run of one block or more; its last byte tells how much of it is padding
abbrev pub unpadded : List ℕ → Option (List ℕ)
unpadded run = without (slice_index run (length run - 1)) run
