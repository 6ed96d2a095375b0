-- Where the parts of a file stand. Assumes nothing.
use Rattle.std.proofs.Common.{◌≡◌, ℕ, ◌+◌, ◌^◌, ◌<◌, ◌≤◌, List, ◌++◌, length, take, drop, sym, refl, ap, ◌∙◌, arith, length-append}
use Rattle.std.specs.Prelude.{slice_range}
use Rattle.std.specs.Int.{from_be_bytes, to_be_bytes, w64}
use Rattle.std.proofs.lemmas.List.{take_at, drop_at, append_assoc, drop-drop, take-append-drop, places}
use Rattle.std.proofs.lemmas.Nat.{be_bytes_8, from_be_bytes-to_be_bytes_8}
use Rattle.chaining.specs.Runs.{Bytes, block}
use Rattle.chaining.proofs.Bytes.{part_bytes}
use Rattle.traces.specs.Opening.{body_of, start_of}

-- a header, a start and a body
abbrev pub laid_out : ℕ → List ℕ → List ℕ → List ℕ
laid_out header start body = to_be_bytes w64 header ++ start ++ body

-- where the header stands
pub block_header : (header : ℕ) (start body : List ℕ) → header < 2 ^ 64 → block (laid_out header start body) 0 ≡ header
block_header header start body l =
    ap (from_be_bytes w64) (take_at (to_be_bytes w64 header) (start ++ body) 8 refl) ∙ from_be_bytes-to_be_bytes_8 header l

-- where the start stands
pub start_back : (header : ℕ) (start body : List ℕ) → length start ≡ 8 → start_of (laid_out header start body) ≡ start
start_back header start body e = take_at start body 8 e

-- where the body stands
pub body_back : (header : ℕ) (start body : List ℕ) → length start ≡ 8 → body_of (laid_out header start body) ≡ body
body_back header start body e = drop_at start body 8 e

-- how long a file is
pub length-laid_out : (header : ℕ) (start body : List ℕ) → length start ≡ 8 → length (laid_out header start body) ≡ 16 + length body
length-laid_out header start body e = omega (arith, e, length-append start body)

-- the start has bytes
pub start_bytes : (file : List ℕ) → Bytes file → Bytes (start_of file)
start_bytes file b = part_bytes file 8 16 b

-- a start has eight bytes
pub length-start : (file : List ℕ) → 16 ≤ length file → length (start_of file) ≡ 8
length-start file l = search (places, arith)

-- the header is the first eight bytes
header_bytes : (file : List ℕ) → 16 ≤ length file → Bytes file → to_be_bytes w64 (block file 0) ≡ take 8 file
header_bytes file l b = be_bytes_8 (slice_range file 0 8) (block file 0) (search (places, arith)) (part_bytes file 0 8 b) refl

-- a file is its header, its start and its body
pub laid_back : (file : List ℕ) → 16 ≤ length file → Bytes file → file ≡ laid_out (block file 0) (start_of file) (body_of file)
laid_back file l b = sym (
    ap (λ xs. xs ++ start_of file ++ body_of file) (header_bytes file l b)
    ∙ ap (λ xs. take 8 file ++ start_of file ++ xs) (sym (drop-drop 8 8 file))
    ∙ append_assoc (take 8 file) (start_of file) (drop 8 (drop 8 file))
    ∙ ap (λ xs. take 8 file ++ xs) (take-append-drop 8 (drop 8 file))
    ∙ take-append-drop 8 file)
