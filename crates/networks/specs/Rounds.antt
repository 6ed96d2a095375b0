-- Feistel networks and both of their ways back. Assumes nothing.
use Rattle.std.specs.Prelude.{ℕ, Bool, not, List, reverse, if◌then◌else◌}
use Rattle.std.specs.List.{fold}
use Rattle.networks.specs.declared.pairs.Halves.{Halves}
use Rattle.networks.specs.Halves.{swapped}

-- a network over the words W: its group's join and inverse, its round function, whether it is turned, its round words
pub record Network (W : Type 0) : Type 0 where
  pub joined : W → W → W
  pub inverted : W → W
  pub function : W → ℕ → W
  pub inverting : Bool
  pub words : List ℕ

module _ {W : Type 0} (N : Network W) where
  -- F of a half and a round word, or its inverse where the network is turned
  abbrev pub applied : W → ℕ → W
  applied half word = if N.inverting then N.inverted (N.function half word) else N.function half word

  -- (L, R) becomes (R, L·F(R, k))
  abbrev pub round : ℕ → Halves W → Halves W
  round k h = record { left = h.right; right = N.joined h.left (applied h.right k) }

  -- the rounds in order
  abbrev pub rounds : List ℕ → Halves W → Halves W
  rounds ks h = fold (λ s k. round k s) h ks

  -- (A, B) becomes (B·F(A, k)⁻¹, A)
  abbrev pub unround : ℕ → Halves W → Halves W
  unround k h = record { left = N.joined h.right (N.inverted (applied h.left k)); right = h.left }

  -- the rounds taken back, the last one first
  abbrev pub unrounds : List ℕ → Halves W → Halves W
  unrounds ks h = fold (λ s k. unround k s) h (reverse ks)

  -- the rounds, and then the halves are swapped
  abbrev pub ran : Halves W → Halves W
  ran h = swapped (rounds N.words h)

  -- the halves swapped back, and then the rounds taken back
  abbrev pub unran : Halves W → Halves W
  unran h = unrounds N.words (swapped h)

  -- the round words reversed, and the function's values inverted, or no longer inverted
  abbrev pub turned : Network W
  turned = record { joined = N.joined; inverted = N.inverted; function = N.function; inverting = not N.inverting; words = reverse N.words }
