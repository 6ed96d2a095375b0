-- Four words joined with four others. Assumes nothing.
use Rattle.std.specs.Prelude.{ℕ}
use Rattle.groups.specs.declared.lawful.Group as group
use Rattle.four_words.specs.declared.words.Words.{Words}

-- the join and the inverse of a network's outer group, and of its inner one
pub record Groups : Type 0 where
  pub outer : ℕ → ℕ → ℕ
  pub outer_inverse : ℕ → ℕ
  pub inner : ℕ → ℕ → ℕ
  pub inner_inverse : ℕ → ℕ

-- an outer and an inner group
abbrev pub both : {O I : Type 0} → group.Ghosts O ℕ → group.Ghosts I ℕ → Groups
both o i = record { outer = o.joined; outer_inverse = o.inverted; inner = i.joined; inner_inverse = i.inverted }

-- words 1 and 4 are joined in the outer group, words 2 and 3 in the inner
abbrev pub joined : Groups → Words → Words → Words
joined G w z = record { first = G.outer w.first z.first; second = G.inner w.second z.second; third = G.inner w.third z.third; fourth = G.outer w.fourth z.fourth }

-- the inverse of each word in its group
abbrev pub inverses : Groups → Words → Words
inverses G z = record { first = G.outer_inverse z.first; second = G.inner_inverse z.second; third = G.inner_inverse z.third; fourth = G.outer_inverse z.fourth }
