-- What the loop of `rounds_abreast_as` keeps. Assumes nothing.
use Rattle.std.proofs.Common.{◌≡◌, length, map}
use Rattle.networks.specs.internal.Abreast.{rounds_abreast}
use Rattle.networks.specs.Networks.{network}
use Rattle.networks.proofs.feistel.Feistel.rounds_abreast_as.Given as goal

-- the rounds that are left make of the state what all make of the halves
abbrev pub invariant-loop-left : goal.invariant-loop-left
invariant-loop-left g l =
    let N = network g.G.Group g.F.RoundFunction l.fn.self in
    rounds_abreast N (map g.F.RoundFunction.word_of l.left) l.state ≡ rounds_abreast N l.fn.self.schedule l.fn.halves

abbrev pub decreases-loop-left : goal.decreases-loop-left
decreases-loop-left g l = length l.left
