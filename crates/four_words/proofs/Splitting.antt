-- A block made of four words has them as its words. Assumes nothing.
use Rattle.std.proofs.Common.{◌≡◌, ℕ, ◌/◌, ◌%◌, ◌^◌, ◌<◌, arith, ap, ◌∙◌}
use Rattle.ciphers.specs.Maps.{Inverse}
use Rattle.networks.specs.Inverses.{Inverses}
use Rattle.four_words.specs.declared.words.Words.{Words}
use Rattle.four_words.specs.Passing.{Network, four_word, ran, unran}
use Rattle.four_words.specs.Quarters.{Fit, block_of, words_of}

words_block : (w : Words) → Fit w → words_of (block_of w) ≡ w
words_block w p =
    let first : block_of w / 2 ^ 48 ≡ w.first = omega arith in
    let second : block_of w / 2 ^ 32 % 2 ^ 16 ≡ w.second = omega arith in
    let third : block_of w / 2 ^ 16 % 2 ^ 16 ≡ w.third = omega arith in
    let fourth : block_of w % 2 ^ 16 ≡ w.fourth = omega arith in
    λ i. record { first = first i; second = second i; third = third i; fourth = fourth i }

block_words : (b : ℕ) → block_of (words_of b) ≡ b
block_words b = omega arith

words_fit : (b : ℕ) → b < 2 ^ 64 → Fit (words_of b)
words_fit b p = (omega arith, omega arith, omega arith, omega arith)

block_fits : (w : Words) → Fit w → block_of w < 2 ^ 64
block_fits w p = omega arith

-- a block whose words are made of others
made_of : (N : Network) (b : ℕ) (w : Words) → Fit w → ran N w ≡ words_of b → four_word N (block_of w) ≡ b
made_of N b w p e = ap (λ v. block_of (ran N v)) (words_block w p) ∙ ap block_of e ∙ block_words b

-- what holds of words holds of blocks
pub inverse_blocks : (N M : Network) → Inverses Fit (ran N) (ran M) → Inverse (four_word N) (four_word M)
inverse_blocks N M both = record {
  keeps = λ b p. block_fits _ (both.keeps _ (words_fit b p));
  keeps_back = λ b p. block_fits _ (both.keeps_back _ (words_fit b p));
  back = λ b p. made_of M b (ran N (words_of b)) (both.keeps _ (words_fit b p)) (both.back _ (words_fit b p));
  forth = λ b p. made_of N b (ran M (words_of b)) (both.keeps_back _ (words_fit b p)) (both.forth _ (words_fit b p));
}

-- a block undone is one that the network makes the block of
pub undone_block : (N : Network) (b : ℕ) → Inverses Fit (ran N) (unran N) → b < 2 ^ 64 → four_word N (block_of (unran N (words_of b))) ≡ b
undone_block N b both p = made_of N b (unran N (words_of b)) (both.keeps_back _ (words_fit b p)) (both.forth _ (words_fit b p))
