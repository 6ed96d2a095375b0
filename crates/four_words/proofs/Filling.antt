-- A list that is filled with words one after another. Assumes nothing.
use Rattle.std.proofs.Common.{◌≡◌, ℕ, ◌+◌, ◌<◌, ◌≤◌, List, length, get_or, map, set, length-set, arith}
use Rattle.std.specs.List.{range_with_len}
use Rattle.std.proofs.lemmas.List.Edits.{fill_by_more}
use Rattle.std.proofs.lemmas.List.FromFn.{fill_by_all}

-- the first words of a list of 52 are those that K gives
pub record Filled (K : ℕ → ℕ) (words : List ℕ) (i : ℕ) : Type 0 where
  pub many : length words ≡ 52
  pub same : (k : ℕ) → k < i → get_or words k 0 ≡ K k

pub filled_more : (K : ℕ → ℕ) (words : List ℕ) (i : ℕ) → i < 52 → Filled K words i → Filled K (set words i (K i)) (i + 1)
filled_more K words i p f = record {
  many = simp length-set f.many;
  same = fill_by_more K words i 0 (omega arith) f.same;
}

pub filled_all : (K : ℕ → ℕ) (words : List ℕ) (i : ℕ) → 52 ≤ i → Filled K words i → words ≡ map K (range_with_len 0 52)
filled_all K words i p f = fill_by_all K words 52 0 f.many (λ k q. f.same k (omega arith))
