-- The boxes' table. Assumes nothing.
use Rattle.std.proofs.Common.{◌≡◌, ℕ, ◌+◌, ◌*◌, ◌/◌, ◌%◌, ◌<◌, [], get_or, map, replicate, refl, sym, ap, ◌∙◌, arith}
use Rattle.std.specs.Prelude.{slice_index}
use Rattle.std.specs.List.{range_with_len}
use Rattle.std.proofs.lemmas.List.FromFn.{get_or-map-range_with_len}
use Rattle.std.proofs.lemmas.List.{get_or-map, get_or-replicate}
use Rattle.des.specs.Tables.{rows}
use Rattle.des.specs.internal.BoxTable.{box_numbers}
use Rattle.des.specs.Boxes.{number_in, boxed, row_of, column_of, row_of_box, times_in}

pub entry : (index six : ℕ) → index < 8 → six < 64 → get_or box_numbers (16 * (4 * index + row_of six) + column_of six) 0 ≡ boxed index six
unfolding box_numbers boxed
entry index six i s =
    let k = 16 * (4 * index + row_of six) + column_of six in
    let row : k / 16 ≡ 4 * index + row_of six = omega arith in
    let column : k % 16 ≡ column_of six = omega arith in
    get_or-map-range_with_len (λ k. number_in (slice_index rows (k / 16)) (k % 16)) 0 512 k k 0 (omega arith) (omega arith)
    ∙ ap (λ r. number_in (slice_index rows r) (k % 16)) row
    ∙ ap (number_in (slice_index rows (4 * index + row_of six))) column

pub boxed_fits : (index six : ℕ) → boxed index six < 16
unfolding boxed
boxed_fits index six = omega arith

-- each row holds each number from 0 to 15 once: computed over the whole table
every_row : map (λ row. map (times_in row) (range_with_len 0 16)) rows ≡ replicate 32 (replicate 16 1)
unfolding times_in
every_row = refl

-- and so the row in which a box looks six bits up
pub row_once : (index six : ℕ) → index < 8 → six < 64 → (v : ℕ) → v < 16 → times_in (row_of_box index six) v ≡ 1
row_once index six i s v few =
    let r = 4 * index + row_of six in
    sym (get_or-map-range_with_len (times_in (row_of_box index six)) 0 16 v v 0 few (omega arith))
    ∙ ap (λ xs. get_or xs v 0) (sym (get_or-map (λ row. map (times_in row) (range_with_len 0 16)) rows r 0 [] (omega arith)))
    ∙ ap (λ xss. get_or (get_or xss r []) v 0) every_row
    ∙ ap (λ xs. get_or xs v 0) (get_or-replicate 32 r (replicate 16 1) [] (omega arith))
    ∙ get_or-replicate 16 v 1 0 few
