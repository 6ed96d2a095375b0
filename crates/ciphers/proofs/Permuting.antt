-- A permutation of a block's bits and the inverse one. Assumes nothing.
use Rattle.std.proofs.Common.{ℕ, Bool, true, false, not, List}
use Rattle.selections.specs.Permutations.{NamesEachOnce, inverse_table}
use Rattle.selections.proofs.Inverse.{inverse_after, inverse_before, picked_fits, length_inverse}
use Rattle.ciphers.specs.Maps.{Inverse}
use Rattle.ciphers.specs.internal.Sealing.{permuted_by}

module _ (table : List ℕ) (names : NamesEachOnce 64 table) where
  -- turned or not, the permutation and the turned one undo each other
  pub inverses : (inverted : Bool) → Inverse (permuted_by inverted table) (permuted_by (not inverted) table)
  inverses true = record {
    keeps = λ b p. picked_fits 64 (inverse_table 64 table) b (length_inverse 64 table names);
    keeps_back = λ b p. picked_fits 64 table b names.whole;
    back = inverse_before 64 table names;
    forth = inverse_after 64 table names;
  }
  inverses false = record {
    keeps = λ b p. picked_fits 64 table b names.whole;
    keeps_back = λ b p. picked_fits 64 (inverse_table 64 table) b (length_inverse 64 table names);
    back = inverse_after 64 table names;
    forth = inverse_before 64 table names;
  }
