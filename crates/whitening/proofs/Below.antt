-- What a key makes of a block is a block. Assumes nothing.
use Rattle.std.proofs.Common.{ℕ, ◌^◌, ◌<◌, arith}
use Rattle.groups.specs.internal.Xor.{xor_lawful}
use Rattle.networks.specs.Halves.{halves_of}
use Rattle.networks.proofs.Splits.{halves_fit}
use Rattle.whitening.specs.Whitening.{wxor, wadd}
use Rattle.whitening.proofs.Adding.{below}

pub wxor_below : (key b : ℕ) → key < 2 ^ 64 → b < 2 ^ 64 → wxor key b < 2 ^ 64
wxor_below key b p = below xor_lawful (halves_of key) b (halves_fit key p)

pub wadd_below : (key b : ℕ) → key < 2 ^ 64 → b < 2 ^ 64 → wadd key b < 2 ^ 64
wadd_below key b p q = omega arith
