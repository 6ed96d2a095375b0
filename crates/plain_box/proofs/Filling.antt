-- A list filled with the words of the ring. Assumes nothing.
use Rattle.std.proofs.Common.{◌≡◌, ℕ, ◌≤◌, List}
use Rattle.four_words.proofs.Filling.{Filled, filled_all}
use Rattle.plain_box.specs.Plainest.{ring_word, ring_words}

pub filled : (key words : List ℕ) (place : ℕ) → 52 ≤ place → Filled (ring_word key) words place → words ≡ ring_words key
unfolding ring_words
filled key words place p f = filled_all (ring_word key) words place p f
