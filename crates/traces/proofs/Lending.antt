-- What a pile is after a bench had it, and what the bench opened. Assumes nothing.
use Rattle.std.proofs.Common.{◌≡◌, ℕ, ◌/◌, ◌%◌, ◌^◌, ◌<◌, List, length, sym, ap, ◌∙◌, subst}
use Rattle.std.specs.Int.{to_be_bytes, w64}
use Rattle.std.proofs.lemmas.Nat.{from_be_bytes-to_be_bytes_8}
use Rattle.std.specs.Int.Bits.{bit_xor}
use Rattle.ciphers.specs.Maps.{Inverse, SameMap}
use Rattle.ciphers.proofs.Blocks.{xor_twice}
use Rattle.chaining.specs.declared.direction.Direction.TheVariants.{Sealing, Opening}
use Rattle.chaining.specs.declared.direction.Direction.{Direction}
use Rattle.chaining.specs.Runs.{block, before, Rewritten}
use Rattle.chaining.proofs.Bytes.{block_lt}
use Rattle.chaining.proofs.Passing.{run_back}
use Rattle.traces.specs.Files.{OnlyRun}

-- the bytes of a number make it again
pub start_block : (start : ℕ) → start < 2 ^ 64 → block (to_be_bytes w64 start) 0 ≡ start
start_block start l = from_be_bytes-to_be_bytes_8 start l

-- a pile that is turned twice has the map that it had
pub turned_twice : (S T T' S' : ℕ → ℕ) → Inverse S T → T' ≡ T → Inverse T' S' → SameMap S' S
turned_twice S T T' S' i e j b l = ap S' (sym (i.back b l) ∙ sym (ap (λ f. f (S b)) e)) ∙ j.back (S b) (i.keeps b l)

-- a block that was opened is sealed to what it was
sealed_again : (S T : ℕ → ℕ) (x y p : ℕ) → Inverse S T → x < 2 ^ 64 → y ≡ bit_xor (T x) p → x ≡ S (bit_xor y p)
sealed_again S T x y p i l e = sym (ap (λ n. S (bit_xor n p)) e ∙ ap S (xor_twice (T x) p) ∙ i.forth x l)

-- what a bench with the turned map opened is sealed to what it was, and nothing else is
pub opened_only : (S T : ℕ → ℕ) (d : Direction) (r : ℕ) (body run : List ℕ) → Inverse S T → d ≡ Opening → r < 2 ^ 64 → length body % 8 ≡ 0 → Rewritten d T r body run → OnlyRun S r body run
opened_only S T d r body run i e l m rewritten =
    let w : Rewritten Opening T r body run = subst (λ d. Rewritten d T r body run) e rewritten in
    record {
      sealed = record {
        brought = w.left;
        left = w.brought;
        len = sym w.len;
        blocks = λ k q. sealed_again S T (block body k) (block run k) (before r body k) i (block_lt body k w.brought) (w.blocks k (subst (λ n. k < n / 8) w.len q));
      };
      only = λ xs v. sym (run_back Sealing S T r xs body run i l (subst (λ n. n % 8 ≡ 0) v.len m) v w);
    }
