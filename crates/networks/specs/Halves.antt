-- Two halves, and a block as two halves. Assumes nothing.
use Rattle.std.specs.Prelude.{ℕ, ◌+◌, ◌*◌, ◌/◌, ◌%◌, ◌^◌}
use Rattle.networks.specs.declared.pairs.Halves.{Halves}

-- the halves in each other's place
abbrev pub swapped : {W : Type 0} → Halves W → Halves W
swapped h = record { left = h.right; right = h.left }

-- the halves of a block, the left one high
abbrev pub halves_of : ℕ → Halves ℕ
halves_of b = record { left = b / 2 ^ 32; right = b % 2 ^ 32 }

-- the block that has them as its halves
abbrev pub block_of : Halves ℕ → ℕ
block_of h = h.left * 2 ^ 32 + h.right

-- both halves are words
abbrev pub Words : {W : Type 0} → (W → Type 0) → Halves W → Type 0
Words fits h = fits h.left × fits h.right
