-- The network of IDEA's words passes words as IDEA does. Assumes nothing.
use Rattle.std.proofs.Common.{◌≡◌, ℕ, zero, suc, ◌+◌, ◌-◌, ◌*◌, ◌<◌, ◌≤◌, List, map, slice_index, add-one, arith, sym, ap, ap₂, ◌∙◌}
use Rattle.std.specs.List.{fold, range_with_len}
use Rattle.std.proofs.lemmas.List.FromFn.{get_or-map-range_with_len, map-range_with_len_more}
use Rattle.std.proofs.lemmas.List.Sums.{fold_push}
use Rattle.ciphers.specs.Maps.{SameMap}
use Rattle.four_words.specs.declared.words.Words.{Words}
use Rattle.four_words.specs.Joining.{joined}
use Rattle.four_words.specs.Keying.{Key, four_at, key_of, round_at}
use Rattle.four_words.specs.Passing as pass
use Rattle.four_words.specs.Quarters.{block_of, exchanged, words_of}
use Rattle.four_words.proofs.Agreement.{later}
use Rattle.idea.specs.Idea.{idea, output, round, rounds}
use Rattle.idea.specs.Keys.{key_word, key_words}
use Rattle.idea.specs.Networks.{network_of}

-- over a list of the words, and a network that has them
module _ (K : ℕ → ℕ) (ws : List ℕ) (same : (i : ℕ) → i < 52 → slice_index ws i ≡ K i) (key : Key) where
  -- a round of the network; IDEA's own has words 2 and 3 exchanged behind it
  round_same : (r : ℕ) → r < 8 → (w : Words) → pass.round (network_of key) (round_at ws r) w ≡ exchanged (round K (6 * r) w)
  round_same r p w i = pass.round (network_of key) (record {
    joins = record {
      first = same (6 * r) (omega (arith, p)) i;
      second = same (6 * r + 1) (omega (arith, p)) i;
      third = same (6 * r + 2) (omega (arith, p)) i;
      fourth = same (6 * r + 3) (omega (arith, p)) i;
    };
    mixing = record { z5 = same (6 * r + 4) (omega (arith, p)) i; z6 = same (6 * r + 5) (omega (arith, p)) i };
  }) w

  rounds_same : (m : ℕ) → m < 8 → (w : Words)
      → fold (later (network_of key)) (pass.round (network_of key) (round_at ws 0) w) (map (round_at ws) (range_with_len 1 m)) ≡ exchanged (rounds K (suc m) w)
  unfolding rounds
  rounds_same zero p w = round_same 0 (omega arith) w
  rounds_same (suc m) p w =
      let next = later (network_of key) in
      let first = pass.round (network_of key) (round_at ws 0) w in
      ap (λ n. fold next first (map (round_at ws) (range_with_len 1 n))) (sym (add-one m))
      ∙ ap (fold next first) (map-range_with_len_more (round_at ws) 1 m (suc m) (omega arith))
      ∙ fold_push next first (map (round_at ws) (range_with_len 1 m)) (round_at ws (suc m))
      ∙ ap (λ v. next v (round_at ws (suc m))) (rounds_same m (omega (arith, p)) w)
      ∙ round_same (suc m) p (rounds K (suc m) w)

  closing_same : (n : ℕ) → n ≤ 8 → four_at ws (6 * n) ≡ record { first = K (6 * n); second = K (6 * n + 1); third = K (6 * n + 2); fourth = K (6 * n + 3) }
  closing_same n p i = record {
    first = same (6 * n) (omega (arith, p)) i;
    second = same (6 * n + 1) (omega (arith, p)) i;
    third = same (6 * n + 2) (omega (arith, p)) i;
    fourth = same (6 * n + 3) (omega (arith, p)) i;
  }

pub word_at : (key i : ℕ) → i < 52 → slice_index (key_words key) i ≡ key_word key i
unfolding key_words
word_at key i p = get_or-map-range_with_len (key_word key) 0 52 i i 0 p (omega arith)

passed : (key n : ℕ) → 1 ≤ n → n ≤ 8 → (w : Words) → pass.ran (network_of (key_of n (key_words key))) w ≡ output (key_word key) (6 * n) (rounds (key_word key) n w)
passed key zero p q w = absurd (omega (arith, p))
passed key (suc m) p q w =
    let K = key_word key in
    let ws = key_words key in
    let k = key_of (suc m) ws in
    let first = pass.round (network_of k) (round_at ws 0) w in
    ap (λ n. joined (network_of k).groups (fold (later (network_of k)) first (map (round_at ws) (range_with_len 1 n))) (four_at ws (6 * suc m))) {x = suc m - 1} {y = m} (omega arith)
    ∙ ap₂ (joined (network_of k).groups) (rounds_same K ws (word_at key) k m (omega (arith, q)) w) (closing_same K ws (word_at key) k (suc m) q)

pub sealed_new : (key n : ℕ) (k : Key) → 1 ≤ n → n ≤ 8 → k ≡ key_of n (key_words key) → SameMap (pass.four_word (network_of k)) (idea key n)
sealed_new key n k p q e b r = ap (λ k. pass.four_word (network_of k) b) e ∙ ap block_of (passed key n p q (words_of b))
