-- Exclusive or makes a group of the 32-bit words: each word is its own inverse. Assumes nothing.
use Rattle.std.specs.Prelude.{◌^◌, ◌<◌, bit_xor, refl}
use Rattle.std.specs.Int.Bits.{xor_assoc, xor_self, xor_zero_r}
use Rattle.std.proofs.Common.{arith}
use Rattle.std.proofs.lemmas.Nat.{xor_lt}
use Rattle.groups.specs.Laws.{Lawful}

pub xor_lawful : Lawful (λ x. x < 2 ^ 32) 0 bit_xor (λ x. x)
xor_lawful = record {
  neutral_fits = omega arith;
  join_fits = xor_lt 32;
  inverse_fits = λ x p. p;
  associative = λ x y z p q r. xor_assoc x y z;
  neutral_left = λ x p. refl;
  neutral_right = λ x p. xor_zero_r x;
  inverse_left = λ x p. xor_self x;
  inverse_right = λ x p. xor_self x;
}
