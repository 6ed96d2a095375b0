-- Triple DES, as SP 800-67 has it. Assumes nothing.
use Rattle.std.specs.Prelude.{ℕ, ◌*◌, List, take, drop}
use Rattle.std.specs.Int.{from_be_bytes, w64}
use Rattle.des.specs.Des.{des, deciphered}

-- enciphered under the first key, deciphered under the second, enciphered under the third
abbrev pub tdea : ℕ → ℕ → ℕ → ℕ → ℕ
tdea first second third b = des third (deciphered second (des first b))

-- key i of several, from 0, of eight bytes each
unfoldable pub key_at : List ℕ → ℕ → ℕ
key_at keys i = from_be_bytes w64 (take 8 (drop (8 * i) keys))
