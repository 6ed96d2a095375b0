-- What XTEA makes of a block is a block. Assumes nothing.
use Rattle.std.proofs.Common.{ℕ, zero, suc, ◌^◌, ◌<◌, List, arith}
use Rattle.xtea.specs.Xtea.{cycled, xtea}

pub xtea_below : (key : List ℕ) (c b : ℕ) → b < 2 ^ 64 → xtea key c b < 2 ^ 64
unfolding cycled
xtea_below key zero b l = omega (arith, l)
xtea_below key (suc c) b l = omega arith
