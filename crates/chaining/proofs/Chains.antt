-- A run that is rewritten as far as its first n bytes. Assumes nothing.
use Rattle.std.proofs.Common.{◌≡◌, ℕ, ◌+◌, ◌-◌, ◌*◌, ◌/◌, ◌%◌, ◌≤◌, List, ◌++◌, length, take, drop, sym, ap, ◌∙◌, subst, ap₂, arith}
use borrow.Rule.Slice.PartMut.{put_mid}
use Rattle.std.specs.Int.{w64, from_be_bytes}
use Rattle.std.specs.Prelude.{slice_range}
use Rattle.std.proofs.lemmas.List.{take_all, take-take, take-append-drop, length-take-le, drop-drop}
use Rattle.std.proofs.lemmas.List.Edits.{length-between}
use Rattle.std.proofs.lemmas.Slice.{overwrites, between_is, take-put_mid, drop-put_mid}
use Rattle.chaining.specs.declared.direction.Direction.TheVariants.{Opening}
use Rattle.chaining.specs.declared.direction.Direction.{Direction}
use Rattle.chaining.specs.Runs.{Bytes, block, chained, sealed_of, Rewritten, chain_after}
use Rattle.chaining.specs.internal.Fours.{four_of, opened_four}
use Rattle.chaining.proofs.Bytes.{part_bytes, written_bytes}
use Rattle.chaining.proofs.Few.{one, chain_one, four, chain_four}
use Rattle.chaining.proofs.Joins.{joined, chain_joined}

-- xs was brought, ys stands there now, and the chain block is now `latest`
pub record Begun (d : Direction) (S : ℕ → ℕ) (r : ℕ) (xs : List ℕ) (n : ℕ) (ys : List ℕ) (latest : ℕ) : Type 0 where
  pub bytes : Bytes ys
  pub len : length ys ≡ length xs
  pub done : Rewritten d S r (take n xs) (take n ys)
  pub rest : drop n ys ≡ drop n xs
  pub chain : latest ≡ chain_after d r (take n xs) (take n ys)

-- the first bytes to a later end
take_to : (xs : List ℕ) (n e : ℕ) → n ≤ e → take e xs ≡ take n xs ++ slice_range xs n e
take_to xs n e p = sym (take-append-drop n (take e xs)) ∙ ap₂ (λ us vs. us ++ vs) (take-take n e xs p) (sym (between_is xs n e))

rest_later : (xs ys : List ℕ) (n e : ℕ) → n ≤ e → drop n ys ≡ drop n xs → drop e ys ≡ drop e xs
rest_later xs ys n e p same =
    let there : n + (e - n) ≡ e = omega arith in
    ap (λ k. drop k ys) (sym there) ∙ sym (drop-drop (e - n) n ys) ∙ ap (drop (e - n)) same ∙ drop-drop (e - n) n xs ∙ ap (λ k. drop k xs) there

-- the bytes from n to e are rewritten to ws
pub begun_more : (d : Direction) (S : ℕ → ℕ) (r : ℕ) (xs : List ℕ) (n e m : ℕ) (ys ws : List ℕ) (latest next : ℕ) → Begun d S r xs n ys latest → Bytes (put_mid n (e - n) ys ws) → n % 8 ≡ 0 → n ≤ e → e ≤ length ys → m ≡ e
    → Rewritten d S latest (slice_range ys n e) ws → next ≡ chain_after d latest (slice_range ys n e) ws → length ws ≡ e - n → Begun d S r xs m (put_mid n (e - n) ys ws) next
begun_more d S r xs n e m ys ws latest next b bytes whole order room there w chain width =
    let zs : List ℕ = put_mid n (e - n) ys ws in
    let same : slice_range ys n e ≡ slice_range xs n e = ap (take (e - n)) b.rest in
    let brought : take e xs ≡ take n xs ++ slice_range xs n e = take_to xs n e order in
    let left : take e zs ≡ take n ys ++ ws = take-put_mid n (e - n) ys ws e (omega arith) (omega arith) in
    let first : length (take n xs) ≡ 8 * (n / 8) = length-take-le n xs (omega (arith, b.len)) ∙ omega arith in
    let w' : Rewritten d S (chain_after d r (take n xs) (take n ys)) (slice_range xs n e) ws = subst (λ us. Rewritten d S (chain_after d r (take n xs) (take n ys)) us ws) same (subst (λ l. Rewritten d S l (slice_range ys n e) ws) b.chain w) in
    subst (λ k. Begun d S r xs k zs next) (sym there) (record {
      bytes = bytes;
      len = search (arith, overwrites) ∙ b.len;
      done = rw (brought, left) (joined d S r (take n xs) (take n ys) (slice_range xs n e) ws (n / 8) first b.done w');
      rest = drop-put_mid n (e - n) ys ws e (omega arith) (omega arith) width ∙ rest_later xs ys n e order b.rest;
      chain =
          chain
          ∙ ap₂ (λ l us. chain_after d l us ws) b.chain same
          ∙ sym (chain_joined d S r (take n xs) (take n ys) (slice_range xs n e) ws (n / 8) first b.done w')
          ∙ ap₂ (chain_after d r) (sym brought) (sym left);
    })

-- rewritten to its end
pub begun_all : (d : Direction) (S : ℕ → ℕ) (r : ℕ) (xs : List ℕ) (n : ℕ) (ys : List ℕ) (latest : ℕ) → Begun d S r xs n ys latest → length xs ≤ n → Rewritten d S r xs ys
begun_all d S r xs n ys latest b p =
    subst (λ us. Rewritten d S r us ys) (take_all n xs p) (subst (λ vs. Rewritten d S r (take n xs) vs) (take_all n ys (omega (arith, b.len))) b.done)

pub chain_all : (d : Direction) (S : ℕ → ℕ) (r : ℕ) (xs : List ℕ) (n : ℕ) (ys : List ℕ) (latest : ℕ) → Begun d S r xs n ys latest → length xs ≤ n → latest ≡ chain_after d r xs ys
chain_all d S r xs n ys latest b p = b.chain ∙ ap₂ (chain_after d r) (take_all n xs p) (take_all n ys (omega (arith, b.len)))

-- one more block, whose bytes are now ws
pub begun_block : (d : Direction) (S : ℕ → ℕ) (r : ℕ) (xs : List ℕ) (i : ℕ) (ys ws : List ℕ) (latest next : ℕ) → Begun d S r xs (8 * i) ys latest → 8 * i + 8 ≤ length ys → length ws ≡ 8 → Bytes (put_mid (8 * i) (8 * i + 8 - 8 * i) ys ws)
    → from_be_bytes w64 ws ≡ chained d S latest (block ys i) → next ≡ sealed_of d (block ys i) (from_be_bytes w64 ws) → Begun d S r xs (8 * (i + 1)) (put_mid (8 * i) (8 * i + 8 - 8 * i) ys ws) next
begun_block d S r xs i ys ws latest next b room eight bytes written chain =
    let part : List ℕ = slice_range ys (8 * i) (8 * i + 8) in
    let width : length part ≡ 8 = length-between ys (8 * i) (8 * i + 8) room ∙ omega arith in
    begun_more d S r xs (8 * i) (8 * i + 8) (8 * (i + 1)) ys ws latest next b bytes (omega arith) (omega arith) room (omega arith)
    (one d S latest part ws (part_bytes ys (8 * i) (8 * i + 8) b.bytes) (written_bytes ys ws (8 * i) (8 * i + 8) bytes (omega arith) (omega arith)) width eight written)
    (chain ∙ chain_one d latest part ws width eight)
    (omega arith)

-- four more, opened
pub begun_four : (S : ℕ → ℕ) (r : ℕ) (xs : List ℕ) (i : ℕ) (ys ws : List ℕ) (latest next : ℕ) → Begun Opening S r xs (32 * i) ys latest → 32 * i + 32 ≤ length ys → length ws ≡ 32 → Bytes (put_mid (32 * i) (32 * i + 32 - 32 * i) ys ws)
    → four_of ws ≡ opened_four S latest (four_of (slice_range ys (32 * i) (32 * i + 32))) → next ≡ (four_of (slice_range ys (32 * i) (32 * i + 32))).fourth → Begun Opening S r xs (32 * (i + 1)) (put_mid (32 * i) (32 * i + 32 - 32 * i) ys ws) next
begun_four S r xs i ys ws latest next b room all bytes opened chain =
    let part : List ℕ = slice_range ys (32 * i) (32 * i + 32) in
    let width : length part ≡ 32 = length-between ys (32 * i) (32 * i + 32) room ∙ omega arith in
    begun_more Opening S r xs (32 * i) (32 * i + 32) (32 * (i + 1)) ys ws latest next b bytes (omega arith) (omega arith) room (omega arith)
    (four S latest part ws (part_bytes ys (32 * i) (32 * i + 32) b.bytes) (written_bytes ys ws (32 * i) (32 * i + 32) bytes (omega arith) (omega arith)) width all opened)
    (chain ∙ chain_four latest part ws width)
    (omega arith)
