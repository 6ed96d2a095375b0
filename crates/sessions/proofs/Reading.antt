-- The calls of a session's lines. Assumes nothing.
use Rattle.std.proofs.Common.{◌≡◌, ℕ, suc, true, false, eqb, List, [], ◌∷◌, ◌++◌, length, Some, None, Option, sym, refl, arith, append_assoc}
use Rattle.std.proofs.lemmas.List.{append-nil}
use Rattle.std.proofs.lemmas.Bool.{eqb-true, eqb-false}
use Rattle.chaining.specs.declared.calls.Request.{Request}
use Rattle.transcripts.specs.declared.lines.Line.TheVariants.{Key, Call}
use Rattle.transcripts.specs.declared.lines.Line.{Line}
use Rattle.transcripts.specs.Lines.{line_of}
use Rattle.sessions.specs.internal.Calls.{with_call, calls_of}

-- what a line adds stands in front of what the others add
in_front : (line : Option (Line (List ℕ))) (rs : List (Request (List ℕ))) → with_call line rs ≡ with_call line [] ++ rs
in_front (Some (Key key)) rs = refl
in_front (Some (Call request)) rs = refl
in_front None rs = refl

pub next_call : (line : List ℕ) (lines : List (List ℕ)) → false ≡ eqb (length line) 0 → calls_of (line ∷ lines) ≡ with_call (line_of line) [] ++ calls_of lines
unfolding calls_of
next_call [] lines p = absurd (eqb-false 0 0 (sym p) refl)
next_call (c ∷ cs) lines p = in_front (line_of (c ∷ cs)) (calls_of lines)

-- nothing is added by the lines behind an empty one, nor where no line is left
pub empty_line : (line : List ℕ) (lines : List (List ℕ)) → true ≡ eqb (length line) 0 → calls_of (line ∷ lines) ≡ []
unfolding calls_of
empty_line [] lines p = refl
empty_line (c ∷ cs) lines p = let none : suc (length cs) ≡ 0 = eqb-true (suc (length cs)) 0 (sym p) in absurd (omega arith)

pub no_lines : calls_of [] ≡ []
unfolding calls_of
no_lines = refl

pub ruleset reading = (next_call, empty_line, no_lines, append_assoc, append-nil)
