-- Two rounds of the network are a cycle, and the swaps behind the rounds take each other back. Assumes nothing.
use Rattle.std.proofs.Common.{◌≡◌, ℕ, zero, suc, ◌^◌, ◌<◌, Bool, false, List, [], ◌∷◌, ap, ◌∙◌, arith, refl}
use Rattle.std.proofs.lemmas.List.Sums.{fold-append}
use Rattle.networks.specs.declared.pairs.Halves.{Halves}
use Rattle.networks.specs.Halves.{Words, swapped, halves_of, block_of}
use Rattle.networks.specs.Rounds.{Network, round, rounds}
use Rattle.networks.proofs.Splits.{halves_block, halves_fit}
use Rattle.ciphers.specs.Blocks.{feistel, halves_swapped}
use Rattle.ciphers.specs.Maps.{SameMap}
use Rattle.ciphers.specs.internal.Sealing.{composed}
use Rattle.xtea.specs.Networks.{network_of}
use Rattle.xtea.specs.Xtea.{first_word, second_word, cycle, cycled, words_of, xtea}

-- a network that has not been turned
abbrev plain : List ℕ → Network ℕ
plain ws = network_of false ws

rounds_cycled : (key ws : List ℕ) (c : ℕ) (h : Halves ℕ) → rounds (plain ws) (words_of key c) h ≡ cycled key c h
unfolding words_of cycled
rounds_cycled key ws zero h = refl
rounds_cycled key ws (suc j) h =
    fold-append (λ s k. round (plain ws) k s) h (words_of key j) (first_word key j ∷ second_word key j ∷ [])
    ∙ ap (cycle key j) (rounds_cycled key ws j h)

swapped_back : (h : Halves ℕ) → Words (λ x. x < 2 ^ 32) h → halves_swapped (block_of (swapped h)) ≡ block_of h
swapped_back h p = ap (λ g. block_of (swapped g)) (halves_block (swapped h) (p.1, p.0))

cycled_words : (key : List ℕ) (c : ℕ) (h : Halves ℕ) → Words (λ x. x < 2 ^ 32) h → Words (λ x. x < 2 ^ 32) (cycled key c h)
unfolding cycled
cycled_words key zero h p = p
cycled_words key (suc j) h p = (omega arith, omega arith)

sealed : (key : List ℕ) (c b : ℕ) → b < 2 ^ 64 → halves_swapped (feistel (plain (words_of key c)) b) ≡ xtea key c b
sealed key c b block =
    let h = halves_of b in
    ap (λ g. halves_swapped (block_of (swapped g))) (rounds_cycled key (words_of key c) c h)
    ∙ swapped_back (cycled key c h) (cycled_words key c h (halves_fit b block))

-- a new cipher: neither its order nor its network is turned
pub sealed_new : (reversed turned : Bool) (key ws : List ℕ) (c : ℕ) → reversed ≡ false → turned ≡ false → ws ≡ words_of key c
    → SameMap (composed reversed (feistel (network_of turned ws)) halves_swapped) (xtea key c)
sealed_new reversed turned key ws c p q e b block = (λ i. composed (p i) (feistel (network_of (q i) (e i))) halves_swapped b) ∙ sealed key c b block
