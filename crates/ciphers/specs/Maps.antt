-- Maps of 64-bit blocks. Assumes nothing.
use Rattle.std.specs.Prelude.{◌≡◌, ℕ, ◌^◌, ◌<◌}
use Rattle.networks.specs.Inverses.{Inverses}

-- the same map of blocks
abbrev pub SameMap : (ℕ → ℕ) → (ℕ → ℕ) → Type 0
SameMap f g = (b : ℕ) → b < 2 ^ 64 → f b ≡ g b

-- on blocks, both maps give blocks and undo each other, in either order
abbrev pub Inverse : (ℕ → ℕ) → (ℕ → ℕ) → Type 0
Inverse f g = Inverses (λ b. b < 2 ^ 64) f g

-- f, then g, then h
abbrev pub in_turn : (ℕ → ℕ) → (ℕ → ℕ) → (ℕ → ℕ) → ℕ → ℕ
in_turn f g h b = h (g (f b))
