-- What holds of two halves holds of their block. Assumes nothing.
use Rattle.std.proofs.Common.{◌≡◌, ℕ, ◌^◌, ◌<◌, ap, ap₂, ◌∙◌}
use Rattle.networks.specs.declared.pairs.Halves.{Halves}
use Rattle.networks.specs.HalfWords.{Faithful}
use Rattle.networks.specs.Halves.{Words, block_of}
use Rattle.networks.specs.Inverses.{Inverses}
use Rattle.networks.specs.Rounds.{Network, ran}
use Rattle.networks.proofs.Splits.{block_fits, block_halves, halves_block, halves_fit}
use Rattle.ciphers.specs.Blocks.{block_of_words, feistel_of, words_of}
use Rattle.ciphers.specs.Maps.{Inverse}

module _ {W : Type 0} {fits : W → Type 0} (word_of : ℕ → W) (number_of : W → ℕ) (faithful : Faithful fits word_of number_of) where
  words_fit : (b : ℕ) → b < 2 ^ 64 → Words fits (words_of word_of b)
  words_fit b p = let both = halves_fit b p in (faithful.word_fits _ both.0, faithful.word_fits _ both.1)

  block_fits_of : (h : Halves W) → Words fits h → block_of_words number_of h < 2 ^ 64
  block_fits_of h p = block_fits (record { left = number_of h.left; right = number_of h.right }) (faithful.number_fits _ p.0, faithful.number_fits _ p.1)

  block_words : (b : ℕ) → b < 2 ^ 64 → block_of_words number_of (words_of word_of b) ≡ b
  block_words b p =
      let both = halves_fit b p in
      ap₂ (λ l r. block_of (record { left = l; right = r })) (faithful.number_word _ both.0) (faithful.number_word _ both.1) ∙ block_halves b

  words_block : (h : Halves W) → Words fits h → words_of word_of (block_of_words number_of h) ≡ h
  words_block h p =
      let numbers : Halves ℕ = record { left = number_of h.left; right = number_of h.right } in
      ap (λ n. record { left = word_of n.left; right = word_of n.right }) (halves_block numbers (faithful.number_fits _ p.0, faithful.number_fits _ p.1))
      ∙ ap₂ (λ l r. record { left = l; right = r }) (faithful.word_number _ p.0) (faithful.word_number _ p.1)

  -- a block whose halves are made of others
  made_of : (N : Network W) (b : ℕ) (h : Halves W) → b < 2 ^ 64 → Words fits h → ran N h ≡ words_of word_of b → feistel_of word_of number_of N (block_of_words number_of h) ≡ b
  made_of N b h q p e = ap (λ v. block_of_words number_of (ran N v)) (words_block h p) ∙ ap (block_of_words number_of) e ∙ block_words b q

  pub inverse_blocks : (N M : Network W) → Inverses (Words fits) (ran N) (ran M) → Inverse (feistel_of word_of number_of N) (feistel_of word_of number_of M)
  inverse_blocks N M both = record {
    keeps = λ b p. block_fits_of _ (both.keeps _ (words_fit b p));
    keeps_back = λ b p. block_fits_of _ (both.keeps_back _ (words_fit b p));
    back = λ b p. made_of M b (ran N (words_of word_of b)) p (both.keeps _ (words_fit b p)) (both.back _ (words_fit b p));
    forth = λ b p. made_of N b (ran M (words_of word_of b)) p (both.keeps_back _ (words_fit b p)) (both.forth _ (words_fit b p));
  }

  -- a block undone is one that the network makes the block of
  pub undone_block : (N M : Network W) → Inverses (Words fits) (ran N) (ran M) → (b : ℕ) (h : Halves W) → b < 2 ^ 64 → h ≡ ran M (words_of word_of b) → feistel_of word_of number_of N (block_of_words number_of h) ≡ b
  undone_block N M both b h p e =
      ap (λ v. feistel_of word_of number_of N (block_of_words number_of v)) e
      ∙ made_of N b (ran M (words_of word_of b)) p (both.keeps_back _ (words_fit b p)) (both.forth _ (words_fit b p))
