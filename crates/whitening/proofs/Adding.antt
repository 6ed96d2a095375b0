-- Words joined to the halves of a block, and then their inverses. Assumes nothing.
use Rattle.std.proofs.Common.{◌≡◌, ℕ, ◌^◌, ◌<◌, ap, ap₂, ◌∙◌}
use Rattle.groups.specs.Laws.{Lawful}
use Rattle.groups.proofs.Cancelling.{taken_back, brought_back}
use Rattle.networks.specs.declared.pairs.Halves.{Halves}
use Rattle.networks.specs.Halves.{Words, halves_of, block_of}
use Rattle.networks.proofs.Splits.{block_fits, block_halves, halves_block, halves_fit}
use Rattle.ciphers.specs.Maps.{Inverse}
use Rattle.whitening.specs.Whitening.{inverses, joined_with}

-- the words of 32 bits
abbrev Word : ℕ → Type 0
Word x = x < 2 ^ 32

module _ {neutral : ℕ} {joined : ℕ → ℕ → ℕ} {inverted : ℕ → ℕ} (laws : Lawful Word neutral joined inverted) where
  -- halves joined with words
  abbrev added : Halves ℕ → Halves ℕ → Halves ℕ
  added ws h = record { left = joined h.left ws.left; right = joined h.right ws.right }

  added_fits : (ws h : Halves ℕ) → Words Word ws → Words Word h → Words Word (added ws h)
  added_fits ws h q p = (laws.join_fits h.left ws.left p.0 q.0, laws.join_fits h.right ws.right p.1 q.1)

  inverses_fit : (ws : Halves ℕ) → Words Word ws → Words Word (inverses inverted ws)
  inverses_fit ws q = (laws.inverse_fits ws.left q.0, laws.inverse_fits ws.right q.1)

  -- what words make of a block is a block
  pub below : (ws : Halves ℕ) (b : ℕ) → Words Word ws → b < 2 ^ 64 → joined_with joined ws b < 2 ^ 64
  below ws b q p = block_fits (added ws (halves_of b)) (added_fits ws (halves_of b) q (halves_fit b p))

  -- the inverses take the words back
  back : (ws : Halves ℕ) (b : ℕ) → Words Word ws → b < 2 ^ 64 → joined_with joined (inverses inverted ws) (joined_with joined ws b) ≡ b
  back ws b q p =
      let h = halves_of b in
      let fits = halves_fit b p in
      ap (λ g. block_of (added (inverses inverted ws) g)) (halves_block (added ws h) (added_fits ws h q fits))
      ∙ ap₂ (λ l r. block_of (record { left = l; right = r })) (taken_back laws h.left ws.left fits.0 q.0) (taken_back laws h.right ws.right fits.1 q.1)
      ∙ block_halves b

  -- the words take their inverses back
  pub forth : (ws : Halves ℕ) (b : ℕ) → Words Word ws → b < 2 ^ 64 → joined_with joined ws (joined_with joined (inverses inverted ws) b) ≡ b
  forth ws b q p =
      let h = halves_of b in
      let fits = halves_fit b p in
      ap (λ g. block_of (added ws g)) (halves_block (added (inverses inverted ws) h) (added_fits (inverses inverted ws) h (inverses_fit ws q) fits))
      ∙ ap₂ (λ l r. block_of (record { left = l; right = r })) (brought_back laws h.left ws.left fits.0 q.0) (brought_back laws h.right ws.right fits.1 q.1)
      ∙ block_halves b

  pub inverse : (ws : Halves ℕ) → Words Word ws → Inverse (joined_with joined ws) (joined_with joined (inverses inverted ws))
  inverse ws q = record {
    keeps = λ b. below ws b q;
    keeps_back = λ b. below (inverses inverted ws) b (inverses_fit ws q);
    back = λ b. back ws b q;
    forth = λ b. forth ws b q;
  }
