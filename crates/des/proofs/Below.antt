-- What DES and triple DES make of a block is a block. Assumes nothing.
use Rattle.std.proofs.Common.{ℕ, ◌^◌, ◌<◌, List, refl}
use Rattle.selections.proofs.Inverse.{picked_fits}
use Rattle.des.specs.Des.{des, through}
use Rattle.des.specs.Tables.{final}
use Rattle.des.specs.Triple.{tdea}

pub through_below : (words : List ℕ) (b : ℕ) → through words b < 2 ^ 64
unfolding through
through_below words b = picked_fits 64 final _ refl

pub des_below : (key b : ℕ) → des key b < 2 ^ 64
des_below key b = through_below _ b

pub tdea_below : (first second third b : ℕ) → tdea first second third b < 2 ^ 64
tdea_below first second third b = through_below _ _
