-- IDEA's map. Assumes nothing.
use Rattle.std.specs.Prelude.{ℕ}
use Rattle.four_words.specs.Passing.{four_word}
use Rattle.idea.specs.declared.cipher.Idea.{Idea}
use Rattle.idea.specs.Held.{network_in}

-- what its network makes of a block
abbrev pub sealing : Idea → ℕ → ℕ
sealing x = four_word (network_in x)
