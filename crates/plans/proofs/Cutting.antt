-- The first word of a text. Assumes nothing.
use Rattle.std.proofs.Common.{◌≡◌, ℕ, zero, suc, ◌+◌, ◌<◌, ◌≤◌, Bool, not, true, false, List, [], ◌∷◌, length, get_or, take, drop, Some, None, ◌⊎◌, inl, inr, refl, sym, ap, ◌∙◌, arith}
use Rattle.std.specs.Prelude.{◌==◌}
use Rattle.std.specs.List.{slice_split, position, position_or_len}
use Rattle.std.specs.Option.{unwrap_or}
use Rattle.std.proofs.Math.Nat.{eq-or-lt_of_le}
use Rattle.std.proofs.lemmas.Bool.{not-false}
use Rattle.std.proofs.lemmas.Grind.{common_steps}
use Rattle.std.proofs.lemmas.List.{drop_more, drop_all, drop-drop, take_all, length-take-le}
use Rattle.std.proofs.lemmas.List.Quantifiers.{position-Some}
use Rattle.std.proofs.lemmas.List.Sums.{fails_before_first, passes_at_first, prefix_len-le-length}
use Rattle.std.proofs.lemmas.List.Splits.{slice_split_none, slice_split_first}
use Rattle.plans.specs.Words.{placed_from, words_from}
use Rattle.plans.specs.internal.FirstWord.{Wordless, Begins}

abbrev space : ℕ → Bool
space b = b == 32

abbrev other : ℕ → Bool
other b = not (b == 32)

pub within : (text : List ℕ) → position_or_len space text ≤ length text
within text = prefix_len-le-length other text

-- how many bytes stand before the first space or the end
pub until_space : (text : List ℕ) → unwrap_or (position space text) (length text) ≡ position_or_len space text
until_space text = grind (arith, common_steps, within text)

after_space : (p c : ℕ) (rest : List ℕ) → space c ≡ true → words_from p (c ∷ rest) ≡ words_from (p + 1) rest
after_space p c rest e = rw (e) refl

-- spaces before a word
after_spaces : (p q : ℕ) (text : List ℕ) (i : ℕ) → q ≡ p + i → i ≤ length text → ((k : ℕ) → k < i → other (get_or text k 0) ≡ false) → words_from p text ≡ words_from q (drop i text)
after_spaces p q text zero e l spaces = ap (λ r. words_from r text) (omega (arith, e))
after_spaces p q [] (suc i) e l spaces = absurd (omega arith)
after_spaces p q (b ∷ bs) (suc i) e l spaces =
    after_space p b bs (not-false _ (spaces 0 (omega arith))) ∙ after_spaces (p + 1) q bs i (omega (arith, e)) (omega arith) (λ k h. spaces (suc k) (omega arith))

pub no_word : (text : List ℕ) → position other text ≡ None → Wordless text
no_word text e p =
    let all : length text ≤ position_or_len other text = grind (arith, common_steps, e) in
    after_spaces p (p + length text) text (length text) refl (omega arith) (λ k h. fails_before_first other text k 0 (omega (arith, all)))
    ∙ ap (words_from (p + length text)) (drop_all (length text) text (omega arith))

-- a piece that is not empty is a word
pub placed_first : (p : ℕ) (word : List ℕ) (pieces : List (List ℕ)) → 0 < length word → placed_from p (word ∷ pieces) ≡ record { place = p; bytes = word } ∷ placed_from (p + length word + 1) pieces
placed_first p [] pieces l = absurd (omega arith)
placed_first p (b ∷ bs) pieces l = refl

-- the word that begins a text, which a space ends, or else the text's end
word_first : (p : ℕ) (text : List ℕ) (n : ℕ) → n ≡ position_or_len space text → 0 < n → (n ≡ length text) ⊎ (n < length text) → words_from p text ≡ record { place = p; bytes = take n text } ∷ words_from (p + n) (drop n text)
word_first p text n e l (inl m) =
    let all : length text ≤ position_or_len space text = omega (arith, e, m) in
    ap (placed_from p) (slice_split_none space text (λ k d h. fails_before_first space text k d (omega (arith, all, h))))
    ∙ placed_first p text [] (omega (arith, l, m))
    ∙ ap (λ word. record { place = p; bytes = word } ∷ []) (sym (take_all n text (omega (arith, m))))
    ∙ ap (λ rest. record { place = p; bytes = take n text } ∷ words_from (p + n) rest) (sym (drop_all n text (omega (arith, m))))
word_first p text n e l (inr m) =
    let rest = drop (n + 1) text in
    let split : slice_split space text ≡ take n text ∷ slice_split space rest =
    slice_split_first space text 0 (omega (arith, e, m)) ∙ ap (λ k. take k text ∷ slice_split space (drop (k + 1) text)) (sym e) in
    let at : space (get_or text n 0) ≡ true = ap (λ k. space (get_or text k 0)) e ∙ passes_at_first space text 0 (omega (arith, e, m)) in
    let size : length (take n text) ≡ n = length-take-le n text (omega (arith, m)) in
    ap (placed_from p) split
    ∙ placed_first p (take n text) (slice_split space rest) (omega (arith, size, l))
    ∙ ap (λ k. record { place = p; bytes = take n text } ∷ placed_from (p + k + 1) (slice_split space rest)) size
    ∙ ap (λ ws. record { place = p; bytes = take n text } ∷ ws) (sym (ap (words_from (p + n)) (drop_more text n 0 m) ∙ after_space (p + n) (get_or text n 0) rest at))

begins : (c : ℕ) (cs : List ℕ) → other c ≡ true → 0 < position_or_len space (c ∷ cs)
begins c cs e = rw (e) (omega arith)

-- the first word of a text, in the words of the function that finds it
pub next_word : (text word : List ℕ) (i n : ℕ) → position other text ≡ Some i → n ≡ position_or_len space (drop i text) → word ≡ take n (drop i text) → Begins text i word
next_word text word i n e m w p =
    let found = position-Some other text i 0 e in
    let few : n ≤ length (drop i text) = omega (arith, within (drop i text), m) in
    let first : position_or_len space (drop i text) ≡ position_or_len space (get_or text i 0 ∷ drop (i + 1) text) = ap (position_or_len space) (drop_more text i 0 found.0) in
    let some : 0 < n = omega (arith, m, first, begins (get_or text i 0) (drop (i + 1) text) found.1) in
    let size : length word ≡ n = ap length w ∙ length-take-le n (drop i text) few in
    after_spaces p (p + i) text i refl (omega (arith, found.0)) found.2
    ∙ word_first (p + i) (drop i text) n m some (eq-or-lt_of_le few)
    ∙ ap (λ rest. record { place = p + i; bytes = take n (drop i text) } ∷ words_from (p + i + n) rest) (drop-drop n i text)
    ∙ ap (λ bytes. record { place = p + i; bytes = bytes } ∷ words_from (p + i + n) (drop (i + n) text)) (sym w)
    ∙ ap (λ k. record { place = p + i; bytes = word } ∷ words_from (p + i + k) (drop (i + k) text)) (sym size)
