-- Bytes are known by their blocks. Assumes nothing.
use Rattle.std.proofs.Common.{◌≡◌, ℕ, ◌+◌, ◌-◌, ◌*◌, ◌/◌, ◌%◌, ◌^◌, ◌<◌, ◌≤◌, List, length, get_or, sym, ap, ◌∙◌, subst, ⊎_elim, arith}
use borrow.Rule.Slice.PartMut.{put_mid}
use Rattle.std.specs.Prelude.{slice_range}
use Rattle.std.proofs.lemmas.Bool.{cases_lt}
use Rattle.std.proofs.lemmas.List.{ext_get_or, places}
use Rattle.std.proofs.lemmas.List.Edits.{get_or-between}
use Rattle.std.proofs.lemmas.Nat.{be_bytes_8}
use Rattle.std.proofs.lemmas.Slice.{between-put_mid}
use Rattle.ciphers.proofs.Blocks.{bytes_below}
use Rattle.chaining.specs.Runs.{Bytes, block}

-- the bytes of a part are bytes
pub part_bytes : (xs : List ℕ) (i j : ℕ) → Bytes xs → Bytes (slice_range xs i j)
part_bytes xs i j b k = ⊎_elim
    (λ p. search (places, arith))
    (λ p. search (places, arith))
    (cases_lt k (length (slice_range xs i j)))

-- and so are those that were written to a part
pub written_bytes : (xs ys : List ℕ) (i j : ℕ) → Bytes (put_mid i (j - i) xs ys) → i ≤ length xs → length ys ≡ j - i → Bytes ys
written_bytes xs ys i j b p l = subst Bytes (between-put_mid i (j - i) xs ys j p l) (part_bytes (put_mid i (j - i) xs ys) i j b)

-- the bytes of block i
abbrev bytes_of : List ℕ → ℕ → List ℕ
bytes_of xs i = slice_range xs (8 * i) (8 * i + 8)

Bytes-bytes_of : (xs : List ℕ) (i : ℕ) → Bytes xs → Bytes (bytes_of xs i)
Bytes-bytes_of xs i = part_bytes xs (8 * i) (8 * i + 8)

-- bytes make a block
pub block_lt : (xs : List ℕ) (i : ℕ) → Bytes xs → block xs i < 2 ^ 64
block_lt xs i b = bytes_below (bytes_of xs i) (Bytes-bytes_of xs i b)

-- equal blocks have equal bytes
same_block : (xs ys : List ℕ) (i : ℕ) → Bytes xs → Bytes ys → length ys ≡ length xs → 8 * i + 8 ≤ length xs → block ys i ≡ block xs i → bytes_of ys i ≡ bytes_of xs i
same_block xs ys i b b' l p e =
    sym (be_bytes_8 (bytes_of ys i) (block xs i) (search (places, arith)) (Bytes-bytes_of ys i b') (sym e))
    ∙ be_bytes_8 (bytes_of xs i) (block xs i) (search (places, arith)) (Bytes-bytes_of xs i b) (λ _. block xs i)

-- runs of whole blocks with equal blocks are equal
pub same_bytes : (xs ys : List ℕ) → Bytes xs → Bytes ys → length ys ≡ length xs → length xs % 8 ≡ 0 → ((i : ℕ) → i < length xs / 8 → block ys i ≡ block xs i) → ys ≡ xs
same_bytes xs ys b b' l w e = ext_get_or 0 ys xs l (λ k p.
    let there : 8 * (k / 8) + k % 8 ≡ k = omega arith in
    let same : bytes_of ys (k / 8) ≡ bytes_of xs (k / 8) = same_block xs ys (k / 8) b b' l (omega arith) (e (k / 8) (omega arith)) in
    subst (λ n. get_or ys n 0 ≡ get_or xs n 0) there
    (sym (get_or-between ys (8 * (k / 8)) (8 * (k / 8) + 8) (k % 8) 0 (omega arith)) ∙ ap (λ bs. get_or bs (k % 8) 0) same ∙ get_or-between xs (8 * (k / 8)) (8 * (k / 8) + 8) (k % 8) 0 (omega arith)))
