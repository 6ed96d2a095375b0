-- What a four-word network's value stands for. Assumes nothing.
use Rattle.std.specs.Prelude.{ℕ}
use Rattle.groups.specs.declared.lawful.Group as group
use Rattle.four_words.specs.declared.boxes.MixingBox as mixing
use Rattle.four_words.specs.declared.network.FourWord.{FourWord}
use Rattle.four_words.specs.Joining.{both}
use Rattle.four_words.specs.Passing.{Network}

-- the network over the groups and the mixing box of the value's type
abbrev pub network : {O I B : Type 0} → group.Ghosts O ℕ → group.Ghosts I ℕ → mixing.Ghosts B → FourWord O I B → Network
network o i m n = record { groups = both o i; mixing = m.value n.mixing; key = n.key }
