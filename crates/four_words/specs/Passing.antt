-- Four-word networks and both of their ways back. Assumes nothing.
use Rattle.std.specs.Prelude.{ℕ, reverse, bit_xor}
use Rattle.std.specs.List.{fold}
use Rattle.four_words.specs.declared.words.BoxWords.{BoxWords}
use Rattle.four_words.specs.declared.words.Mixed.{Mixed}
use Rattle.four_words.specs.declared.words.RoundWords.{RoundWords}
use Rattle.four_words.specs.declared.words.Words.{Words}
use Rattle.four_words.specs.Joining.{Groups, joined, inverses}
use Rattle.four_words.specs.Keying.{Key}
use Rattle.four_words.specs.Quarters.{block_of, exchanged, words_of}
use Rattle.four_words.specs.Turning.{turned_key}

-- a network: its two groups, its mixing box, the words of its rounds
pub record Network : Type 0 where
  pub groups : Groups
  pub mixing : ℕ → ℕ → BoxWords → Mixed
  pub key : Key

-- t goes to words 1 and 3, s to words 2 and 4
abbrev pub added : Words → Mixed → Words
added w m = record { first = bit_xor w.first m.t; second = bit_xor w.second m.s; third = bit_xor w.third m.t; fourth = bit_xor w.fourth m.s }

module _ (N : Network) where
  -- the box is called with p = word 1 xor word 3 and q = word 2 xor word 4
  abbrev pub mixed : BoxWords → Words → Words
  mixed ws w = added w (N.mixing (bit_xor w.first w.third) (bit_xor w.second w.fourth) ws)

  -- z1 to z4 are joined, and then the words are mixed
  abbrev pub round : RoundWords → Words → Words
  round k w = mixed k.mixing (joined N.groups w k.joins)

  -- the rounds, between which words 2 and 3 change places; the closing words are joined last
  abbrev pub ran : Words → Words
  ran w = joined N.groups (fold (λ v k. round k (exchanged v)) (round N.key.first w) N.key.others) N.key.closing

  -- a round taken back
  abbrev pub unround : RoundWords → Words → Words
  unround k w = joined N.groups (mixed k.mixing w) (inverses N.groups k.joins)

  -- the closing words taken back, and then the rounds, the last one first
  abbrev pub unran : Words → Words
  unran w = unround N.key.first (fold (λ v k. exchanged (unround k v)) (joined N.groups w (inverses N.groups N.key.closing)) (reverse N.key.others))

  -- the network with the turned words
  abbrev pub turned : Network
  turned = record { groups = N.groups; mixing = N.mixing; key = turned_key N.groups N.key }

-- the block that a network makes of a block
abbrev pub four_word : Network → ℕ → ℕ
four_word N b = block_of (ran N (words_of b))
