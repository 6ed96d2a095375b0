-- Three networks in turn between the permutations are triple DES. Assumes nothing.
use Rattle.std.proofs.Common.{◌≡◌, ℕ, Bool, true, false, zero, suc, ◌+◌, ◌*◌, ◌^◌, ◌<◌, List, get_or, take, drop, reverse, refl, sym, subst, ap, ◌∙◌, arith}
use Rattle.std.proofs.lemmas.List.{drop-drop}
use Rattle.std.specs.Simd.{first_chunks}
use Rattle.groups.specs.internal.Xor.{xor_lawful}
use Rattle.networks.specs.HalfWords.{Faithful}
use Rattle.networks.specs.Rounds.{turned}
use Rattle.networks.proofs.TwoWays.{inverses}
use Rattle.selections.specs.Permutations.{inverse_table}
use Rattle.selections.specs.Selections.{picked}
use Rattle.selections.proofs.Picked.{picked_below}
use Rattle.ciphers.specs.Maps.{SameMap, Inverse, in_turn}
use Rattle.ciphers.specs.internal.Sealing.{composed, permuted_by}
use Rattle.ciphers.proofs.Networks.{inverse_blocks}
use Rattle.des.proofs.Ciphering.{final_is}
use Rattle.des.proofs.Complement.{f_below}
use Rattle.des.proofs.Deciphering.{last_first}
use Rattle.des.specs.Des.{through}
use Rattle.des.specs.Keys.{round_words}
use Rattle.des.specs.Networks.{network_of}
use Rattle.des.specs.Tables.{initial, final}
use Rattle.des.specs.Triple.{tdea}
use Rattle.des.specs.internal.Between.{enciphering, in_network}

-- a network and the one with the round words in the reverse order
rounds_back : (ks : List ℕ) → Inverse (enciphering ks) (enciphering (reverse ks))
rounds_back ks =
    let faithful : Faithful {W = ℕ} (λ x. x < 2 ^ 32) (λ n. n) (λ w. w) = record { word_fits = λ n p. p; number_fits = λ w p. p; number_word = λ n p. refl; word_number = λ w p. refl } in
    inverse_blocks (λ n. n) (λ w. w) faithful (network_of false ks) (turned (network_of false ks)) (inverses (network_of false ks) xor_lawful f_below)

-- networks of three keys, where what they make together goes by any inverse of the second's map
pub three : (m1 m2 m3 r : ℕ → ℕ) (k1 k2 k3 : ℕ) → m1 ≡ enciphering (round_words k1) → m2 ≡ enciphering (round_words k2) → m3 ≡ enciphering (round_words k3)
    → ((g : ℕ → ℕ) → Inverse m2 g → (b : ℕ) → m1 b < 2 ^ 64 → r b ≡ in_turn m1 g m3 b) → SameMap r (in_network k1 k2 k3)
unfolding in_network
three m1 m2 m3 r k1 k2 k3 e1 e2 e3 any b p =
    let back = enciphering (reverse (round_words k2)) in
    any back (subst (λ m. Inverse m back) (sym e2) (rounds_back (round_words k2))) b (subst (λ m. m b < 2 ^ 64) (sym e1) ((rounds_back (round_words k1)).keeps b p))
    ∙ (λ i. e3 i (back (e1 i b)))

-- between one network and the next the permutations take each other back
between : (w1 w2 w3 : List ℕ) (b : ℕ) → b < 2 ^ 64 → picked 64 final (enciphering w3 (enciphering w2 (enciphering w1 (picked 64 initial b)))) ≡ through w3 (through w2 (through w1 b))
unfolding through
between w1 w2 w3 b p =
    let first = enciphering w1 (picked 64 initial b) in
    let fits = (rounds_back w1).keeps _ (picked_below 64 b initial) in
    ap (λ x. picked 64 final (enciphering w3 x)) (sym (last_first (enciphering w2 first) ((rounds_back w2).keeps first fits)))
    ∙ ap (λ x. picked 64 final (enciphering w3 (picked 64 initial (picked 64 final (enciphering w2 x))))) (sym (last_first first fits))

-- new layers: nothing is turned but the last permutation
pub sealed_three : (outer inner first third : Bool) (three : ℕ → ℕ) (k1 k2 k3 : ℕ) → outer ≡ false → inner ≡ false → first ≡ false → third ≡ true → SameMap three (in_network k1 k2 k3)
    → SameMap (composed outer (permuted_by first initial) (composed inner three (permuted_by third initial))) (tdea k1 k2 k3)
unfolding in_network
sealed_three outer inner first third three k1 k2 k3 o i p q same b block =
    (λ j. composed (o j) (permuted_by (p j) initial) (composed (i j) three (permuted_by (q j) initial)) b)
    ∙ ap (λ x. picked 64 (inverse_table 64 initial) x) (same (picked 64 initial b) (picked_below 64 b initial))
    ∙ ap (λ t. picked 64 t (in_turn (enciphering (round_words k1)) (enciphering (reverse (round_words k2))) (enciphering (round_words k3)) (picked 64 initial b))) final_is
    ∙ between (round_words k1) (reverse (round_words k2)) (round_words k3) b block

-- chunk i of a list that is cut into eights
pub chunk_at : (n i : ℕ) (xs d : List ℕ) → i < n → get_or (first_chunks 8 n xs) i d ≡ take 8 (drop (8 * i) xs)
chunk_at zero i xs d l = absurd (omega arith)
chunk_at (suc n) zero xs d l = refl
chunk_at (suc n) (suc i) xs d l =
    let next : 8 + 8 * i ≡ 8 * suc i = omega arith in
    chunk_at n i (drop 8 xs) d (omega arith) ∙ ap (take 8) (drop-drop (8 * i) 8 xs ∙ ap (λ k. drop k xs) next)
