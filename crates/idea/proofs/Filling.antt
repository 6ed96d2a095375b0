-- A list filled with the words of a key. Assumes nothing.
use Rattle.std.proofs.Common.{◌≡◌, ℕ, ◌≤◌, List}
use Rattle.four_words.proofs.Filling.{Filled, filled_all}
use Rattle.idea.specs.Keys.{key_word, key_words}

pub filled : (key : ℕ) (words : List ℕ) (i : ℕ) → 52 ≤ i → Filled (key_word key) words i → words ≡ key_words key
unfolding key_words
filled key words i p f = filled_all (key_word key) words i p f
