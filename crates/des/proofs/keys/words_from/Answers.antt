-- `words_from` meets its contract. Assumes nothing.
use Rattle.std.proofs.Common.{[], ◌∷◌, map, sym, ap, ◌∙◌, arith, length}
use Rattle.std.proofs.lemmas.List.{map-append}
use Rattle.des.specs.KeptWords.{word_of}
use Rattle.des.proofs.Parts.{with_none, with_more, with_all}
use Rattle.des.proofs.keys.words_from.Goals as goal

pub loop-places-init : goal.loop-places-init
loop-places-init c = record {
  left = omega arith;
  right = omega arith;
  many = ap length c.new-kept.ensures;
  words = rw c.new-kept.ensures (with_none _ _ _);
}

pub loop-places-preserved : goal.loop-places-preserved
loop-places-preserved c =
    let now = c.loop-places in
    record {
      left = c.rotate-left.ensures.within;
      right = c.rotate-right.ensures.within;
      many = omega (arith, c.push.ensures.len);
      words =
          rw (c.push.ensures.items, map-append word_of now.kept.items (c.choose.result ∷ []), c.choose.ensures, c.rotate-left.ensures.value, c.rotate-right.ensures.value)
          (with_more (map word_of now.kept.items) c.args.shifts.now now.left now.right now.places-index (omega (arith, c.told-shifts)) ∙ now.invariant.words);
    }

pub returns : goal.returns
returns c =
    c.schedule.ensures
    ∙ sym (with_all (map word_of c.loop-places.kept.items) c.args.shifts.now c.loop-places.left c.loop-places.right c.loop-places.places-index (omega (arith, c.told-shifts)))
    ∙ c.loop-places.invariant.words
