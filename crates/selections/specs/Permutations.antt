-- Tables that permute the bits of a word. Assumes nothing.
use Rattle.std.specs.Prelude.{◌≡◌, ℕ, ◌+◌, Bool, true, ◌&&◌, List, length, map, replicate, ◌==◌, nat_le}
use Rattle.std.specs.List.{count_by, list_all, position_or_len, range_with_len}

-- the places of a word of w bits, from 1 to w
abbrev pub places : ℕ → List ℕ
places w = range_with_len 1 w

-- whether i is one of them
abbrev pub is_place : ℕ → ℕ → Bool
is_place w i = nat_le 1 i && nat_le i w

-- how often a table names the place i
abbrev pub times_named : List ℕ → ℕ → ℕ
times_named table i = count_by (λ x. x == i) table

-- a table of w places that names each of the places 1 to w once. The second field follows from the others; with it nobody has to count
pub record NamesEachOnce (w : ℕ) (table : List ℕ) : Type 0 where
  pub whole : length table ≡ w
  pub places_only : list_all (is_place w) table ≡ true
  pub once : map (times_named table) (places w) ≡ replicate w 1

-- the entry that names the place i, counted from 1
abbrev pub entry_naming : List ℕ → ℕ → ℕ
entry_naming table i = position_or_len (λ x. x == i) table + 1

-- the inverse table: its entry i is the entry that names the place i
unfoldable pub inverse_table : ℕ → List ℕ → List ℕ
inverse_table w table = map (entry_naming table) (places w)
