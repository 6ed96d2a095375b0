-- Products modulo 65,537 make a group of the words of 16 bits. Assumes nothing.
use Rattle.std.proofs.Common.{◌≡◌, ℕ, zero, suc, ◌+◌, ◌*◌, ◌%◌, ◌^◌, ◌<◌, ◌≤◌, Bool, true, ◌&&◌, refl, sym, ap, ◌∙◌, arith, ⊎_elim}
use Rattle.std.specs.Prelude.{◌==◌}
use Rattle.std.proofs.Math.Nat.{mul_comm, mul_assoc, mul-zero, one-mul, pow-suc}
use Rattle.std.proofs.lemmas.Bool.{and_parts, cases_lt}
use Rattle.std.proofs.lemmas.Nat.{mul-mod_first, mul-mod_second}
use Rattle.groups.specs.Laws.{Lawful}
use Rattle.products.specs.Products.{number, word, product, squared, inverse}

-- whether the product of a word and its inverse is 1
unfoldable passes : ℕ → Bool
passes x = product x (inverse x) == 1

-- whether each of the 2 ^ k words from n on passes
unfoldable every : ℕ → ℕ → Bool
every zero n = passes n
every (suc k) n = every k n && every k (2 ^ k + n)

-- all the words, by computing each product; in halves, so that neither comes near the steps that one proof may take
lower_words : every 15 0 ≡ true
unfolding every passes product squared inverse
lower_words = refl

upper_words : every 15 32768 ≡ true
unfolding every passes product squared inverse
upper_words = refl

-- what every says of one of its words
one_passes : (k n x : ℕ) → every k n ≡ true → n ≤ x → x < 2 ^ k + n → passes x ≡ true
unfolding every
one_passes zero n x t low high = let e : x ≡ n = omega arith in rw e t
one_passes (suc k) n x t low high =
    let halves = and_parts (every k n) (every k (2 ^ k + n)) t in
    ⊎_elim
    (λ below. one_passes k n x halves.0 low below)
    (λ above. one_passes k (2 ^ k + n) x halves.1 above (omega (arith, pow-suc 2 k)))
    (cases_lt x (2 ^ k + n))

every_word : (x : ℕ) → x < 2 ^ 16 → passes x ≡ true
every_word x p =
    ⊎_elim
    (λ low. one_passes 15 0 x lower_words (omega arith) (omega arith))
    (λ high. one_passes 15 32768 x upper_words high (omega arith))
    (cases_lt x 32768)

-- the product of a word and its inverse is 1
inverse_joins : (x : ℕ) → x < 2 ^ 16 → product x (inverse x) ≡ 1
unfolding passes
inverse_joins x p = grind (arith, every_word x p)

-- a word other than 0 stands for itself
pub number_other : (x : ℕ) → 0 < x → number x ≡ x
number_other zero p = elim p [ ]
number_other (suc x) p = refl

-- words stand for the numbers from 1 to 65,536
number_range : (x : ℕ) → x < 2 ^ 16 → (1 ≤ number x) × (number x ≤ 65536)
number_range zero p = (omega arith, omega arith)
number_range (suc x) p = (omega arith, omega arith)

-- the number of the word of a number is that number, and the word of the number of a word that word
number_word : (n : ℕ) → 1 ≤ n → n ≤ 65536 → number (word n) ≡ n
number_word n low high =
    ⊎_elim
    (λ (below : n < 65536). let e : word n ≡ n = omega arith in rw e (number_other n (omega arith)))
    (λ (above : 65536 ≤ n). let e : n ≡ 65536 = omega arith in rw e refl)
    (cases_lt n 65536)

word_number : (x : ℕ) → x < 2 ^ 16 → word (number x) ≡ x
word_number zero p = refl
word_number (suc x) p = omega arith

pub product_comm : (x y : ℕ) → product x y ≡ product y x
unfolding product
product_comm x y = ap (λ n. word (n % 65537)) (mul_comm (number x) (number y))

pub product_fits : (x y : ℕ) → product x y < 2 ^ 16
unfolding product
product_fits x y = omega arith

inverse_fits : (x : ℕ) → inverse x < 2 ^ 16
unfolding inverse
inverse_fits x = product_fits _ _

-- the numbers of a word and its inverse make 1 modulo 65,537
unit : (x : ℕ) → x < 2 ^ 16 → number x * number (inverse x) % 65537 ≡ 1
unfolding product
unit x p = let n = number x * number (inverse x) in let e : word (n % 65537) ≡ 1 = inverse_joins x p in omega arith

-- no product of numbers of words is 0 modulo 65,537, since the inverse of x would make y of it
nonzero : (x y : ℕ) → x < 2 ^ 16 → y < 2 ^ 16 → number x * number y % 65537 ≡ 0 → ⊥
nonzero x y p q z =
    let a = number x in
    let b = number y in
    let i = number (inverse x) in
    let none : (i * a) * b % 65537 ≡ 0 =
    ap (λ n. n % 65537) (mul_assoc i a b)
    ∙ sym (mul-mod_second i (a * b) 65537)
    ∙ ap (λ n. i * n % 65537) z
    ∙ ap (λ n. n % 65537) (mul-zero i) in
    let same : (i * a) * b % 65537 ≡ b % 65537 =
    sym (mul-mod_first (i * a) b 65537)
    ∙ ap (λ n. n % 65537 * b % 65537) (mul_comm i a)
    ∙ ap (λ n. n * b % 65537) (unit x p)
    ∙ ap (λ n. n % 65537) (one-mul b) in
    let range = number_range y q in
    omega arith

-- so the number of a product is not cut off
number_product : (x y : ℕ) → x < 2 ^ 16 → y < 2 ^ 16 → number (product x y) ≡ number x * number y % 65537
unfolding product
number_product x y p q =
    let n = number x * number y in
    ⊎_elim
    (λ (none : n % 65537 < 1). absurd (nonzero x y p q (omega arith)))
    (λ (some : 1 ≤ n % 65537). number_word (n % 65537) some (omega arith))
    (cases_lt (n % 65537) 1)

product_assoc : (x y z : ℕ) → x < 2 ^ 16 → y < 2 ^ 16 → z < 2 ^ 16 → product (product x y) z ≡ product x (product y z)
unfolding product
product_assoc x y z p q r =
    let a = number x in
    let b = number y in
    let c = number z in
    ap (λ n. word (n * c % 65537)) (number_product x y p q)
    ∙ ap word (mul-mod_first (a * b) c 65537 ∙ ap (λ n. n % 65537) (mul_assoc a b c) ∙ sym (mul-mod_second a (b * c) 65537))
    ∙ ap (λ n. word (a * n % 65537)) (sym (number_product y z q r))

neutral : (x : ℕ) → x < 2 ^ 16 → product 1 x ≡ x
unfolding product
neutral x p =
    let range = number_range x p in
    let e : number 1 * number x % 65537 ≡ number x = omega arith in
    ap word e ∙ word_number x p

pub product_lawful : Lawful (λ x. x < 2 ^ 16) 1 product inverse
product_lawful = record {
  neutral_fits = omega arith;
  join_fits = λ x y p q. product_fits x y;
  inverse_fits = λ x p. inverse_fits x;
  associative = product_assoc;
  neutral_left = neutral;
  neutral_right = λ x p. product_comm x 1 ∙ neutral x p;
  inverse_left = λ x p. product_comm (inverse x) x ∙ inverse_joins x p;
  inverse_right = inverse_joins;
}
