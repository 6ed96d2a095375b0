-- A label and its header. Assumes nothing.
use Rattle.std.proofs.Common.{◌≡◌, ℕ, zero, suc, ◌^◌, ◌<◌, ◌≤◌, ◌&&◌, ◌||◌, if◌then◌else◌, eqb, ltb, Ok, Err, refl, ap, ◌∙◌, subst, arith}
use Rattle.std.proofs.lemmas.Bool.{and_from, and_parts, eqb-true, eq-eqb, ltb-false, le-ltb, or_from, or_parts}
use Rattle.refusals.specs.declared.reasons.Refusal.TheVariants.{FieldTooLarge, FileForm}
use Rattle.traces.specs.declared.headers.Axis.TheVariants.{RightAscension, Declination}
use Rattle.traces.specs.declared.headers.Axis.{Axis}
use Rattle.traces.specs.declared.headers.Header.{Header}
use Rattle.traces.specs.declared.headers.Label.{Label}
use Rattle.traces.specs.Headers.{axis_number, axis_of, field, header_of, label_of, labelled, word_of}
use Rattle.traces.proofs.Judged.{passed_else, passed_then}

-- a label that has a header is within its fields
label_fits : (label : Label) (header : ℕ) → labelled label ≡ Ok header → (label.axis ≤ 1) × (label.serial < 2 ^ 24) × (header ≡ word_of label)
label_fits label header e =
    let (within, same) = passed_else (ltb 1 label.axis || ltb 0xFFFFFF label.serial) (Ok (word_of label)) FieldTooLarge header e in
    let few = or_parts _ _ within in
    (ltb-false 1 label.axis few.0, omega (arith, ltb-false 0xFFFFFF label.serial few.1), search)

-- an axis is known by its bit
same_axis : (bit : ℕ) → bit ≤ 1 → axis_number (axis_of bit) ≡ bit
same_axis zero l = refl
same_axis (suc zero) l = refl
same_axis (suc (suc bit)) l = absurd (omega arith)

-- the header with the fields of a number
abbrev pub fields : ℕ → Header
fields word = record { axis = axis_of (field 59 1 word); serial = field 32 24 word; number = field 0 32 word }

-- a label is known by its numbers
same_label : (a b c : ℕ) (label : Label) → a ≡ label.axis → b ≡ label.serial → c ≡ label.number → record { axis = a; serial = b; number = c } ≡ label
same_label a b c label e q s = λ t. record { axis = e t; serial = q t; number = s t }

-- what a label's header is read as
pub read_back : (label : Label) (header : ℕ) → labelled label ≡ Ok header → label.number < 2 ^ 32 → (header_of header ≡ Ok (fields header)) × (label_of (fields header) ≡ label) × (header < 2 ^ 64)
read_back label header e l =
    let (a, s, w) = label_fits label header e in (
      ap (λ t. if t then Ok (fields header) else Err FileForm) (and_from _ _ (eq-eqb (field 60 4 header) 1 (omega (arith, w, a, s, l))) (eq-eqb (field 56 3 header) 0 (omega (arith, w, a, s, l)))),
      same_label _ _ _ label (ap (λ n. axis_number (axis_of n)) (omega (arith, w, a, s, l)) ∙ same_axis label.axis a) (omega (arith, w, a, s, l)) (omega (arith, w, a, s, l)),
      omega (arith, w, a, s, l),
    )

-- an axis has one bit
axis_below : (axis : Axis) → axis_number axis ≤ 1
axis_below RightAscension = omega arith
axis_below Declination = omega arith

-- the label of a number's fields, where the form and the spare bits are right
fields_back : (word : ℕ) → word < 2 ^ 64 → field 60 4 word ≡ 1 → field 56 3 word ≡ 0 → (labelled (label_of (fields word)) ≡ Ok word) × ((fields word).number < 2 ^ 32)
fields_back word l form spare =
    let axis : axis_number (axis_of (field 59 1 word)) ≡ field 59 1 word = same_axis (field 59 1 word) (omega arith) in
    let label = label_of (fields word) in
    let same : word_of label ≡ word = omega (arith, l, form, spare, axis) in (
      ap (λ t. if t then Err FieldTooLarge else Ok (word_of label)) (or_from _ _ (le-ltb 1 label.axis (axis_below (axis_of (field 59 1 word)))) (le-ltb 0xFFFFFF label.serial (omega arith))) ∙ ap Ok same,
      omega arith,
    )

-- the label of a header that was read has that header
pub labelled_back : (word : ℕ) (header : Header) → word < 2 ^ 64 → header_of word ≡ Ok header → (labelled (label_of header) ≡ Ok word) × (header.number < 2 ^ 32)
labelled_back word header l e =
    let (right, same) = passed_then (eqb (field 60 4 word) 1 && eqb (field 56 3 word) 0) (Ok (fields word)) FileForm header e in
    let both = and_parts _ _ right in
    let h : fields word ≡ header = search in
    subst (λ k. (labelled (label_of k) ≡ Ok word) × (k.number < 2 ^ 32)) h
    (fields_back word l (eqb-true (field 60 4 word) 1 both.0) (eqb-true (field 56 3 word) 0 both.1))
