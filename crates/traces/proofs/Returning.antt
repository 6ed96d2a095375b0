-- Closing and opening take each other back. Assumes nothing.
use Rattle.std.proofs.Common.{IfOk, ◌≡◌, ℕ, ◌+◌, ◌-◌, ◌%◌, Bool, true, false, if◌then◌else◌, ltb, List, ◌++◌, length, take, drop, Some, None, Option, Ok, Err, Result, sym, refl, ap, ap₂, ◌∙◌, subst, arith, length-drop}
use Rattle.std.proofs.lemmas.List.{take_at}
use Rattle.refusals.specs.declared.reasons.Refusal.TheVariants.{OutputTooShort}
use Rattle.refusals.specs.declared.reasons.Refusal.{Refusal}
use Rattle.ciphers.specs.Maps.{SameMap}
use Rattle.chaining.specs.declared.direction.Direction.TheVariants.{Sealing}
use Rattle.chaining.specs.Runs.{Bytes, Rewritten, block}
use Rattle.chaining.proofs.Bytes.{block_lt}
use Rattle.traces.specs.declared.headers.Header.{Header}
use Rattle.traces.specs.declared.headers.Label.{Label}
use Rattle.traces.specs.declared.opening.Opened.{Opened}
use Rattle.traces.specs.Closing.{Closes, ClosesBy, judged_closing, judged_length, within}
use Rattle.traces.specs.Files.{Closed, OnlyRun, file_length, judged_trace}
use Rattle.traces.specs.Headers.{header_of, label_of}
use Rattle.traces.specs.Laws.{GivenBack, OpenedTo, Writes, WritesBy}
use Rattle.traces.specs.Opening.{Gives, Opens, OpensBy, body_of, chain_of, judged_file, judged_plain, start_of}
use Rattle.traces.specs.Padding.{padded, padding, unpadded}
use Rattle.traces.proofs.Judged.{file_fits, file_taken, trace_fits, trace_taken}
use Rattle.traces.proofs.Labels.{fields, labelled_back, read_back}
use Rattle.traces.proofs.Laying.{block_header, body_back, laid_back, laid_out, length-laid_out, length-start, start_back, start_bytes}
use Rattle.traces.proofs.Paddings.{length-padded, padded_unpadded, unpadded_padded}
use Rattle.traces.proofs.Sealings.{sealed_once, sealed_same}

-- ---- opening what was closed

-- the only run that is sealed to a body has the plain whose padded run is sealed to it
plain_of_only : (S : ℕ → ℕ) (r : ℕ) (body run plain : List ℕ) → OnlyRun S r body run → Rewritten Sealing S r (padded plain) body → unpadded run ≡ Some plain
plain_of_only S r body run plain only sealed = subst (λ xs. unpadded xs ≡ Some plain) (only.only (padded plain) sealed) (unpadded_padded plain)

-- what is given of a run is given of its plain
given_as : (header : Header) (u : Option (List ℕ)) (plain before : List ℕ) (result : Result Opened Refusal) (after : List ℕ) → u ≡ Some plain → Gives header (judged_plain u (length before)) before result after → Gives header (judged_plain (Some plain) (length before)) before result after
given_as header u plain before result after e gives = subst (λ v. Gives header (judged_plain v (length before)) before result after) e gives

-- what a file that is a closing opens to
pub given_back : (f g : ℕ → ℕ) (label : Label) (start plain file before : List ℕ) (result : Result Opened Refusal) (after : List ℕ) → Closed f label start plain file → Opens g file before result after → SameMap f g → GivenBack label start plain file before result after
unfolding Opens chain_of
given_back f g label start plain file before result after c o e =
    let (eight, few, has) = trace_fits label start plain c.header c.taken in
    let h = c.holds in
    let size : length h.body ≡ length plain + padding (length plain) = h.sealed.len ∙ length-padded plain in
    let (read, same, fits) = read_back label c.header has c.number in
    let long : length file ≡ 16 + length h.body = ap length h.bytes ∙ length-laid_out c.header start h.body eight in
    let header : block file 0 ≡ c.header = ap (λ xs. block xs 0) h.bytes ∙ block_header c.header start h.body fits in
    let started : start_of file ≡ start = ap start_of h.bytes ∙ start_back c.header start h.body eight in
    let bodied : body_of file ≡ h.body = ap body_of h.bytes ∙ body_back c.header start h.body eight in
    let judged : judged_file file ≡ Ok (fields c.header) =
    file_taken file (omega (arith, long, size)) (omega (arith, long, size, few)) (omega (arith, long, size)) ∙ ap header_of header ∙ read in
    let t = subst (λ j. OpensBy j g file before result after) judged o in
    let sealed : Rewritten Sealing g (block start 0) (padded plain) h.body =
    sealed_same f g (block start 0) (padded plain) h.body e (block_lt start 0 h.start_bytes) h.sealed in
    let there : Rewritten Sealing g (chain_of file) (padded plain) (body_of file) =
    subst (λ s. Rewritten Sealing g (block s 0) (padded plain) (body_of file)) (sym started) (subst (λ b. Rewritten Sealing g (block start 0) (padded plain) b) (sym bodied) sealed) in
    let plain_back = plain_of_only g (chain_of file) (body_of file) t.run plain t.only there in
    record {
      header = fields c.header;
      same_label = same;
      same_start = started;
      same_plain = given_as (fields c.header) (unpadded t.run) plain before result after plain_back t.gives;
    }

-- ---- closing what was opened

-- what is known of a file that was opened
record Accepted (S : ℕ → ℕ) (file before : List ℕ) (o : Opened) (after : List ℕ) : Type 0 where
  pub judged : judged_file file ≡ Ok o.header
  pub run : List ℕ
  pub only : OnlyRun S (chain_of file) (body_of file) run
  pub plain : unpadded run ≡ Some (take o.length after)

-- a plain that was given
given_plain : (u : Option (List ℕ)) (long : Bool) (header : Header) (before : List ℕ) (o : Opened) (after : List ℕ) → (plain : List ℕ) → Gives header (if long then Err OutputTooShort else Ok plain) before (Ok o) after → (o.header ≡ header) × (take o.length after ≡ plain)
given_plain u true header before o after plain g = search
given_plain u false header before o after plain (e, q) =
    let same : o ≡ record { header = header; length = length plain } = search in
    (ap (λ p. p.header) same, ap₂ take (ap (λ p. p.length) same) q ∙ take_at plain (drop (length plain) before) (length plain) refl)

-- a plain was given, and it is the one of the run
given_some : (u : Option (List ℕ)) (header : Header) (before : List ℕ) (o : Opened) (after : List ℕ) → Gives header (judged_plain u (length before)) before (Ok o) after → (o.header ≡ header) × (u ≡ Some (take o.length after))
given_some None header before o after g = search
given_some (Some plain) header before o after g =
    let p = given_plain (Some plain) (ltb (length before) (length plain)) header before o after plain g in
    (p.0, ap Some (sym p.1))

-- once the file is judged
accepted_by : (judged : Result Header Refusal) (S : ℕ → ℕ) (file before : List ℕ) (o : Opened) (after : List ℕ) → judged_file file ≡ judged → OpensBy judged S file before (Ok o) after → Accepted S file before o after
accepted_by (Err refusal) S file before o after e (q, same) = cc
accepted_by (Ok header) S file before o after e t =
    let g = given_some (unpadded t.run) header before o after t.gives in
    record { judged = e ∙ ap Ok (sym g.0); run = t.run; only = t.only; plain = g.1 }

-- what an opening that was answered shows
accepted : (S : ℕ → ℕ) (file before : List ℕ) (o : Opened) (after : List ℕ) → Opens S file before (Ok o) after → Accepted S file before o after
unfolding Opens
accepted S file before o after p = accepted_by (judged_file file) S file before o after refl p

-- a file that was opened is the closing of what it was opened to
closing_of : (S : ℕ → ℕ) (file before : List ℕ) (o : Opened) (after : List ℕ) → Bytes file → Opens S file before (Ok o) after → Closed S (label_of o.header) (start_of file) (take o.length after) file
unfolding chain_of
closing_of S file before o after b p =
    let a = accepted S file before o after p in
    let (some, few, whole, read) = file_fits file o.header a.judged in
    let (has, number) = labelled_back (block file 0) o.header (block_lt file 0 b) read in
    let plain = take o.length after in
    let body : length (body_of file) ≡ length file - 16 = length-drop 16 file in
    let size : length a.run ≡ length file - 16 = sym a.only.sealed.len ∙ body in
    let back : padded plain ≡ a.run = padded_unpadded a.run plain (omega (arith, size, some)) (omega (arith, size, whole, some)) a.plain in
    let long : length plain + padding (length plain) ≡ length file - 16 = sym (length-padded plain) ∙ ap length back ∙ size in
    record {
      number = number;
      header = block file 0;
      taken = trace_taken (label_of o.header) (start_of file) plain (length-start file (omega (arith, some))) (omega (arith, long, few)) ∙ has;
      holds = record {
        start_bytes = start_bytes file b;
        body = body_of file;
        sealed = subst (λ run. Rewritten Sealing S (block (start_of file) 0) run (body_of file)) (sym back) a.only.sealed;
        bytes = laid_back file (omega (arith, some)) b;
      };
    }

-- whatever was answered
pub closing_if : (S : ℕ → ℕ) (file before : List ℕ) (result : Result Opened Refusal) (after : List ℕ) → Bytes file → Opens S file before result after → IfOk result (λ o. Closed S (label_of o.header) (start_of file) (take o.length after) file)
closing_if S file before (Err refusal) after b p = tt
closing_if S file before (Ok o) after b p = closing_of S file before o after b p

-- the same, said by what it was opened to
closing_to : (S : ℕ → ℕ) (file : List ℕ) (label : Label) (start plain : List ℕ) → OpenedTo S file label start plain → Closed S label start plain file
closing_to S file label start plain t =
    subst (λ l. Closed S l start plain file) t.same_label
    (subst (λ s. Closed S (label_of t.opened.header) s plain file) t.same_start
    (subst (λ p. Closed S (label_of t.opened.header) (start_of file) p file) t.same_plain
    (closing_of S file t.before t.opened t.after t.bytes t.opens)))

-- one result has one value
same_header : (a b : ℕ) (r : Result ℕ Refusal) → r ≡ Ok a → r ≡ Ok b → a ≡ b
same_header a b r e p = search

-- a trace has one closing
closed_once : (f g : ℕ → ℕ) (label : Label) (start plain file again : List ℕ) → SameMap f g → Closed f label start plain file → Closed g label start plain again → again ≡ file
closed_once f g label start plain file again e c d =
    let header = same_header d.header c.header (judged_trace label start plain) d.taken c.taken in
    let whole : length (padded plain) % 8 ≡ 0 = omega (arith, length-padded plain) in
    let same = sealed_same f g (block start 0) (padded plain) c.holds.body e (block_lt start 0 c.holds.start_bytes) c.holds.sealed in
    let body = sealed_once g (block start 0) (padded plain) d.holds.body c.holds.body whole d.holds.sealed same in
    d.holds.bytes ∙ ap₂ (λ h b. laid_out h start b) header body ∙ sym c.holds.bytes

-- once the room is judged
writes_by : (w : Result ℕ Refusal) (f g : ℕ → ℕ) (label : Label) (start plain file before : List ℕ) (result : Result ℕ Refusal) (after : List ℕ) → SameMap f g → Closed f label start plain file → ClosesBy w g label start plain before result after → WritesBy w file before result after
writes_by (Err refusal) f g label start plain file before result after e c p = p
writes_by (Ok n) f g label start plain file before result after e c w =
    (w.answer, w.output ∙ ap (λ x. x ++ drop n before) (closed_once f g label start plain file w.file e c w.closed))

-- how long a closing is
length-closed : (f : ℕ → ℕ) (label : Label) (start plain file : List ℕ) → Closed f label start plain file → length file ≡ file_length (length plain)
length-closed f label start plain file c =
    let (eight, few, has) = trace_fits label start plain c.header c.taken in
    ap length c.holds.bytes ∙ length-laid_out c.header start c.holds.body eight ∙ ap (λ n. 16 + n) (c.holds.sealed.len ∙ length-padded plain)

-- what was opened is closed to the file that it was
pub closed_again : (f g : ℕ → ℕ) (file : List ℕ) (label : Label) (start plain before : List ℕ) (result : Result ℕ Refusal) (after : List ℕ) → SameMap f g → OpenedTo f file label start plain → Closes g label start plain before result after → Writes file before result after
closed_again f g file label start plain before result after e t p =
    let c = closing_to f file label start plain t in
    let size = length-closed f label start plain file c in
    let judged : judged_closing label start plain (length before) ≡ within (length before) (length file) =
    ap (λ j. judged_length j (length plain) (length before)) c.taken ∙ ap (within (length before)) (sym size) in
    writes_by (within (length before) (length file)) f g label start plain file before result after e c (subst (λ w. ClosesBy w g label start plain before result after) judged p)
