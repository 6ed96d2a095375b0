-- Bytes as blocks of eight, and what chaining makes of them. Assumes nothing.
use Rattle.std.specs.Prelude.{◌≡◌, ℕ, zero, suc, ◌+◌, ◌*◌, ◌/◌, ◌<◌, List, length, bit_xor, slice_index, slice_range}
use Rattle.std.specs.Int.{w64, from_be_bytes}
use Rattle.chaining.specs.declared.direction.Direction.TheVariants.{Sealing, Opening}
use Rattle.chaining.specs.declared.direction.Direction.{Direction}

-- each number is a byte
abbrev pub Bytes : List ℕ → Type 0
Bytes xs = (i : ℕ) → slice_index xs i < 256

-- block i, counted from 0, most significant byte first
abbrev pub block : List ℕ → ℕ → ℕ
block xs i = from_be_bytes w64 (slice_range xs (8 * i) (8 * i + 8))

-- the block before block i, which is r before the first
abbrev pub before : ℕ → List ℕ → ℕ → ℕ
before r xs zero = r
before r xs (suc i) = block xs i

-- what becomes of a block, where p is the sealed block before it
abbrev pub chained : Direction → (ℕ → ℕ) → ℕ → ℕ → ℕ
chained Sealing S p b = S (bit_xor b p)
chained Opening S p b = bit_xor (S b) p

-- the sealed one of what was brought and what is left, of blocks or of whole runs
abbrev pub sealed_of : {X : Type 0} → Direction → X → X → X
sealed_of Sealing brought left = left
sealed_of Opening brought left = brought

-- the bytes xs are rewritten to ys, block by block, with the chain block r before the first
pub record Rewritten (d : Direction) (S : ℕ → ℕ) (r : ℕ) (xs : List ℕ) (ys : List ℕ) : Type 0 where
  pub brought : Bytes xs
  pub left : Bytes ys
  pub len : length ys ≡ length xs
  pub blocks : (i : ℕ) → i < length xs / 8 → block ys i ≡ chained d S (before r (sealed_of d xs ys) i) (block xs i)

-- the chain block after a run: its last sealed block, or r where it is empty
abbrev pub chain_after : Direction → ℕ → List ℕ → List ℕ → ℕ
chain_after d r xs ys = before r (sealed_of d xs ys) (length xs / 8)
