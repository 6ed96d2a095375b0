-- Stages written as a description. Assumes nothing.
use Rattle.std.specs.Prelude.{ℕ, ◌+◌, ◌<◌, ◌≤◌, List, [], ◌∷◌, ◌++◌, length, map, replicate}
use Rattle.std.specs.List.{All, join_with_byte}
use Rattle.plans.specs.declared.stages.Stage.{Stage}
use Rattle.plans.specs.Stages.{CountFits, stage_text}

-- a plan has one to four stages, and each a count that it takes
abbrev pub Lawful : List Stage → Type 0
Lawful stages = (1 ≤ length stages) × (length stages ≤ 4) × All CountFits stages

-- the texts of some stages, with a space between each two
abbrev pub described : List Stage → List ℕ
described stages = join_with_byte 32 (map stage_text stages)

-- the texts of some stages, numbered from k on: before each as many spaces as its number has, and behind the last as many as the next number has
abbrev pub spaced : (ℕ → ℕ) → ℕ → List Stage → List ℕ
spaced spaces k [] = replicate (spaces k) 32
spaced spaces k (stage ∷ stages) = replicate (spaces k) 32 ++ (stage_text stage ++ spaced spaces (k + 1) stages)

-- between two stages there is a space
abbrev pub Apart : (ℕ → ℕ) → List Stage → Type 0
Apart spaces stages = (k : ℕ) → 0 < k → k < length stages → 1 ≤ spaces k
