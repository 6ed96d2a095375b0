-- The network that a value of IDEA holds. Assumes nothing.
use Rattle.four_words.specs.Passing.{Network}
use Rattle.idea.specs.declared.cipher.Idea.{Idea}
use Rattle.idea.specs.Networks.{network_of}

-- the network in a value
abbrev pub network_in : Idea → Network
network_in x = network_of x.network.key
