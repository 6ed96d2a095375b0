-- The tables of DES, as FIPS 46-3 prints them or by a rule. Bits are counted from 1 at the most significant; entry i names the bit that becomes bit i. Assumes nothing.
use Rattle.std.specs.Prelude.{ℕ, zero, suc, ◌+◌, ◌-◌, ◌*◌, ◌%◌, List, [], ◌∷◌, ◌++◌, map}
use Rattle.std.specs.List.{flat_map, range_with_len}

-- n entries from a on, each 8 less than the one before
abbrev pub falling : ℕ → ℕ → List ℕ
falling zero a = []
falling (suc n) a = a ∷ falling n (a - 8)

-- IP
abbrev pub initial : List ℕ
initial = falling 8 58 ++ falling 8 60 ++ falling 8 62 ++ falling 8 64 ++ falling 8 57 ++ falling 8 59 ++ falling 8 61 ++ falling 8 63

-- the inverse of IP
abbrev pub final : List ℕ
final =
    40 ∷ 8 ∷ 48 ∷ 16 ∷ 56 ∷ 24 ∷ 64 ∷ 32 ∷
    39 ∷ 7 ∷ 47 ∷ 15 ∷ 55 ∷ 23 ∷ 63 ∷ 31 ∷
    38 ∷ 6 ∷ 46 ∷ 14 ∷ 54 ∷ 22 ∷ 62 ∷ 30 ∷
    37 ∷ 5 ∷ 45 ∷ 13 ∷ 53 ∷ 21 ∷ 61 ∷ 29 ∷
    36 ∷ 4 ∷ 44 ∷ 12 ∷ 52 ∷ 20 ∷ 60 ∷ 28 ∷
    35 ∷ 3 ∷ 43 ∷ 11 ∷ 51 ∷ 19 ∷ 59 ∷ 27 ∷
    34 ∷ 2 ∷ 42 ∷ 10 ∷ 50 ∷ 18 ∷ 58 ∷ 26 ∷
    33 ∷ 1 ∷ 41 ∷ 9 ∷ 49 ∷ 17 ∷ 57 ∷ 25 ∷ []

-- E: group i of eight, from 0, has six bits of which the last two begin the next group
abbrev pub expansion : List ℕ
expansion = flat_map (λ i. map (λ j. (4 * i + j + 31) % 32 + 1) (range_with_len 0 6)) (range_with_len 0 8)

-- P
abbrev pub permutation : List ℕ
permutation =
    16 ∷ 7 ∷ 20 ∷ 21 ∷ 29 ∷ 12 ∷ 28 ∷ 17 ∷
    1 ∷ 15 ∷ 23 ∷ 26 ∷ 5 ∷ 18 ∷ 31 ∷ 10 ∷
    2 ∷ 8 ∷ 24 ∷ 14 ∷ 32 ∷ 27 ∷ 3 ∷ 9 ∷
    19 ∷ 13 ∷ 30 ∷ 6 ∷ 22 ∷ 11 ∷ 4 ∷ 25 ∷ []

-- PC-1, which leaves out each eighth bit of the key
abbrev pub choice_1 : List ℕ
choice_1 = falling 8 57 ++ falling 8 58 ++ falling 8 59 ++ falling 4 60 ++ falling 8 63 ++ falling 8 62 ++ falling 8 61 ++ falling 4 28

-- PC-2
abbrev pub choice_2 : List ℕ
choice_2 =
    14 ∷ 17 ∷ 11 ∷ 24 ∷ 1 ∷ 5 ∷ 3 ∷ 28 ∷ 15 ∷ 6 ∷ 21 ∷ 10 ∷
    23 ∷ 19 ∷ 12 ∷ 4 ∷ 26 ∷ 8 ∷ 16 ∷ 7 ∷ 27 ∷ 20 ∷ 13 ∷ 2 ∷
    41 ∷ 52 ∷ 31 ∷ 37 ∷ 47 ∷ 55 ∷ 30 ∷ 40 ∷ 51 ∷ 45 ∷ 33 ∷ 48 ∷
    44 ∷ 49 ∷ 39 ∷ 56 ∷ 34 ∷ 53 ∷ 46 ∷ 42 ∷ 50 ∷ 36 ∷ 29 ∷ 32 ∷ []

-- by how many places the two parts of the key rotate before each round
abbrev pub shifts : List ℕ
shifts = 1 ∷ 1 ∷ 2 ∷ 2 ∷ 2 ∷ 2 ∷ 2 ∷ 2 ∷ 1 ∷ 2 ∷ 2 ∷ 2 ∷ 2 ∷ 2 ∷ 2 ∷ 1 ∷ []

-- the rows of S1 to S8, four to a box; a row is its sixteen numbers as hexadecimal digits
abbrev pub rows : List ℕ
rows =
    0xE4D12FB83A6C5907 ∷ 0x0F74E2D1A6CB9538 ∷ 0x41E8D62BFC973A50 ∷ 0xFC8249175B3EA06D ∷
    0xF18E6B34972DC05A ∷ 0x3D47F28EC01A69B5 ∷ 0x0E7BA4D158C6932F ∷ 0xD8A13F42B67C05E9 ∷
    0xA09E63F51DC7B428 ∷ 0xD709346A285ECBF1 ∷ 0xD6498F30B12C5AE7 ∷ 0x1AD069874FE3B52C ∷
    0x7DE3069A1285BC4F ∷ 0xD8B56F03472C1AE9 ∷ 0xA690CB7DF13E5284 ∷ 0x3F06A1D8945BC72E ∷
    0x2C417AB6853FD0E9 ∷ 0xEB2C47D150FA3986 ∷ 0x421BAD78F9C5630E ∷ 0xB8C71E2D6F09A453 ∷
    0xC1AF92680D34E75B ∷ 0xAF427C9561DE0B38 ∷ 0x9EF528C3704A1DB6 ∷ 0x432C95FABE17608D ∷
    0x4B2EF08D3C975A61 ∷ 0xD0B7491AE35C2F86 ∷ 0x14BDC37EAF680592 ∷ 0x6BD814A7950FE23C ∷
    0xD2846FB1A93E50C7 ∷ 0x1FD8A374C56B0E92 ∷ 0x7B419CE206ADF358 ∷ 0x21E74A8DFC90356B ∷ []
