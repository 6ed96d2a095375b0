-- What a Feistel value stands for. Assumes nothing.
use Rattle.std.specs.Prelude.{ℕ}
use Rattle.groups.specs.declared.lawful.Group as group
use Rattle.groups.specs.declared.words.Word as word
use Rattle.networks.specs.declared.feistel.Feistel.{Feistel}
use Rattle.networks.specs.declared.functions.RoundFunction as function
use Rattle.networks.specs.Rounds.{Network}

-- the network over the group and the round function of the value's type
abbrev pub network : {G F : Type 0} {N : ℕ} {W : Type 0} {w : word.Ghosts W} → (g : group.Ghosts G W) → (f : function.Ghosts F W) → Feistel G F N W g w f → Network W
network g f n = record { joined = g.joined; inverted = g.inverted; function = f.value n.function; inverting = n.inverted; words = n.schedule }
