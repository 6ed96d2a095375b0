-- What the loop of `rounds_as` keeps. Assumes nothing.
use Rattle.std.proofs.Common.{◌≡◌, length, map}
use Rattle.networks.specs.Networks.{network}
use Rattle.networks.specs.Rounds.{rounds}
use Rattle.networks.proofs.feistel.Feistel.rounds_as.Given as goal

-- the rounds that are left make of the state what all make of the halves
abbrev pub invariant-loop-left : goal.invariant-loop-left
invariant-loop-left g l =
    let N = network g.G.Group g.F.RoundFunction l.fn.self in
    rounds N (map g.F.RoundFunction.word_of l.left) l.state ≡ rounds N l.fn.self.schedule l.fn.halves

abbrev pub decreases-loop-left : goal.decreases-loop-left
decreases-loop-left g l = length l.left
