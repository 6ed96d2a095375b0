-- Deciphering is the inverse of enciphering. Assumes nothing.
use Rattle.std.proofs.Common.{◌≡◌, ℕ, ◌^◌, ◌<◌, false, List, reverse, refl, sym, subst, ap, ◌∙◌}
use Rattle.std.proofs.lemmas.List.{reverse-reverse}
use Rattle.groups.specs.internal.Xor.{xor_lawful}
use Rattle.networks.proofs.Splits.{block_fits, block_halves, halves_block, halves_fit}
use Rattle.networks.proofs.TwoWays.{inverses}
use Rattle.networks.specs.Halves.{halves_of, block_of}
use Rattle.networks.specs.Rounds.{ran, turned}
use Rattle.ciphers.specs.Blocks.{feistel}
use Rattle.ciphers.specs.Maps.{Inverse}
use Rattle.selections.proofs.Inverse.{inverse_after, inverse_before}
use Rattle.selections.proofs.Picked.{picked_below}
use Rattle.selections.specs.Permutations.{NamesEachOnce}
use Rattle.selections.specs.Selections.{picked}
use Rattle.des.proofs.Below.{through_below}
use Rattle.des.proofs.Ciphering.{final_is}
use Rattle.des.proofs.Complement.{f_below}
use Rattle.des.specs.Des.{through, des, deciphered}
use Rattle.des.specs.Keys.{round_words}
use Rattle.des.specs.Networks.{network_of}
use Rattle.des.specs.Tables.{initial, final}

names : NamesEachOnce 64 initial
names = record { whole = refl; places_only = refl; once = refl }

-- both permutations take each other back
first_last : (b : ℕ) → b < 2 ^ 64 → picked 64 final (picked 64 initial b) ≡ b
first_last b p = subst (λ t. picked 64 t (picked 64 initial b) ≡ b) final_is (inverse_after 64 initial names b p)

pub last_first : (b : ℕ) → b < 2 ^ 64 → picked 64 initial (picked 64 final b) ≡ b
last_first b p = subst (λ t. picked 64 initial (picked 64 t b) ≡ b) final_is (inverse_before 64 initial names b p)

-- the network that takes a network's rounds back has the round words in the reverse order
through_back : (ks : List ℕ) (b : ℕ) → b < 2 ^ 64 → through (reverse ks) (through ks b) ≡ b
unfolding through
through_back ks b p =
    let start = picked 64 initial b in
    let words = halves_fit start (picked_below 64 b initial) in
    let made = ran (network_of false ks) (halves_of start) in
    let both = inverses (network_of false ks) xor_lawful f_below in
    let fit = both.keeps (halves_of start) words in
    ap (λ x. picked 64 final (feistel (turned (network_of false ks)) x)) (last_first (block_of made) (block_fits made fit))
    ∙ ap (λ h. picked 64 final (block_of (ran (turned (network_of false ks)) h))) (halves_block made fit)
    ∙ ap (λ h. picked 64 final (block_of h)) (both.back (halves_of start) words)
    ∙ ap (picked 64 final) (block_halves start)
    ∙ first_last b p

pub des_inverse : (key : ℕ) → Inverse (des key) (deciphered key)
des_inverse key =
    let ks = round_words key in
    record {
      keeps = λ b p. through_below ks b;
      keeps_back = λ b p. through_below (reverse ks) b;
      back = through_back ks;
      forth = λ b p. sym (ap (λ ws. through ws (through (reverse ks) b)) (reverse-reverse ks)) ∙ through_back (reverse ks) b p;
    }
