-- The calls of a session's text. Assumes nothing.
use Rattle.std.specs.Prelude.{ℕ, List, [], ◌∷◌, Some, None, Option}
use Rattle.chaining.specs.declared.calls.Request.{Request}
use Rattle.transcripts.specs.declared.lines.Line.TheVariants.{Key, Call}
use Rattle.transcripts.specs.declared.lines.Line.{Line}
use Rattle.transcripts.specs.Lines.{line_of}

-- one more request, where the line is a call
abbrev pub with_call : Option (Line (List ℕ)) → List (Request (List ℕ)) → List (Request (List ℕ))
with_call (Some (Call request)) requests = request ∷ requests
with_call (Some (Key key)) requests = requests
with_call None requests = requests

-- the requests of a session: those of its lines up to an empty one
unfoldable pub calls_of : List (List ℕ) → List (Request (List ℕ))
calls_of [] = []
calls_of ([] ∷ lines) = []
calls_of ((c ∷ cs) ∷ lines) = with_call (line_of (c ∷ cs)) (calls_of lines)
