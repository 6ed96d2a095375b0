-- What each call answers. Assumes nothing.
use Rattle.std.specs.Prelude.{◌≡◌, ℕ, Bool, true, false}

-- of a block under the map S: the block that it is sealed to, or, opening, one that is sealed to it
abbrev pub Answers : (ℕ → ℕ) → Bool → ℕ → ℕ → Type 0
Answers S false block result = result ≡ S block
Answers S true block result = S result ≡ block
