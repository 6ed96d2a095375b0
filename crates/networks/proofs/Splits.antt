-- A block and its two halves, each made of the other. Assumes nothing.
use Rattle.std.proofs.Common.{◌≡◌, ℕ, ◌+◌, ◌*◌, ◌/◌, ◌%◌, ◌^◌, ◌<◌, arith, ap₂}
use Rattle.networks.specs.declared.pairs.Halves.{Halves}
use Rattle.networks.specs.Halves.{Words, halves_of, block_of}

-- the halves of a block are words of 32 bits, and such words make a block
pub halves_fit : (b : ℕ) → b < 2 ^ 64 → Words (λ x. x < 2 ^ 32) (halves_of b)
halves_fit b p = (omega arith, omega arith)

pub block_fits : (h : Halves ℕ) → Words (λ x. x < 2 ^ 32) h → block_of h < 2 ^ 64
block_fits h p = omega arith

-- either way and back
pub block_halves : (b : ℕ) → block_of (halves_of b) ≡ b
block_halves b = omega arith

pub halves_block : (h : Halves ℕ) → Words (λ x. x < 2 ^ 32) h → halves_of (block_of h) ≡ h
halves_block h p =
    let left : (h.left * 2 ^ 32 + h.right) / 2 ^ 32 ≡ h.left = omega arith in
    let right : (h.left * 2 ^ 32 + h.right) % 2 ^ 32 ≡ h.right = omega arith in
    ap₂ (λ l r. record { left = l; right = r }) left right
