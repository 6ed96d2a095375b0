-- Running a four-word network and undoing it take each other back. Assumes nothing.
use Rattle.std.proofs.Common.{◌≡◌, ℕ, ◌<◌, ◌^◌, subst, List, [], ◌∷◌, reverse, sym, refl, ap, ◌∙◌, bit_xor}
use Rattle.std.specs.Int.Bits.{xor_assoc, xor_comm, xor_self}
use Rattle.std.proofs.lemmas.Nat.{xor_lt}
use Rattle.std.specs.List.{fold}
use Rattle.groups.specs.Laws.{Lawful}
use Rattle.groups.proofs.Cancelling.{brought_back, taken_back}
use Rattle.networks.specs.Inverses.{Inverses}
use Rattle.networks.proofs.Folds.{fold_reverse_cons}
use Rattle.ciphers.proofs.Blocks.{xor_twice}
use Rattle.four_words.specs.declared.words.BoxWords.{BoxWords}
use Rattle.four_words.specs.declared.words.RoundWords.{RoundWords}
use Rattle.four_words.specs.declared.words.Words.{Words}
use Rattle.four_words.specs.Joining.{inverses, joined}
use Rattle.four_words.specs.Keying.{AllFit, KeyFits}
use Rattle.four_words.specs.Passing.{Network, added, mixed, ran, round, turned, unran, unround}
use Rattle.four_words.specs.Quarters.{Fit, exchanged}
use Rattle.four_words.proofs.Agreement.{later, earlier, ways_back}

abbrev pub Fits : ℕ → Type 0
Fits x = x < 2 ^ 16

-- one function after another
after : {X : Type 0} {P : X → Type 0} {f g f' g' : X → X} → Inverses P f f' → Inverses P g g' → Inverses P (λ x. g (f x)) (λ x. f' (g' x))
after {X} {P} {f} {g} {f'} {g'} a b = record {
  keeps = λ x p. b.keeps (f x) (a.keeps x p);
  keeps_back = λ x p. a.keeps_back (g' x) (b.keeps_back x p);
  back = λ x p. ap f' (b.back (f x) (a.keeps x p)) ∙ a.back x p;
  forth = λ x p. ap g (a.forth (g' x) (b.keeps_back x p)) ∙ b.forth x p;
}

exchange : Inverses Fit exchanged exchanged
exchange = record {
  keeps = λ w p. (p.0, p.2, p.1, p.3);
  keeps_back = λ w p. (p.0, p.2, p.1, p.3);
  back = λ w p. refl;
  forth = λ w p. refl;
}

-- what is xored into both leaves their xor as it is
same_xor : (a b t : ℕ) → bit_xor (bit_xor a t) (bit_xor b t) ≡ bit_xor a b
same_xor a b t =
    xor_assoc a t (bit_xor b t)
    ∙ ap (bit_xor a) (ap (bit_xor t) (xor_comm b t) ∙ sym (xor_assoc t t b) ∙ ap (λ x. bit_xor x b) (xor_self t))

module _ {outer_neutral inner_neutral : ℕ} (N : Network)
    (outer : Lawful Fits outer_neutral N.groups.outer N.groups.outer_inverse)
    (inner : Lawful Fits inner_neutral N.groups.inner N.groups.inner_inverse)
    (values : (p q : ℕ) (ws : BoxWords) → Fits (N.mixing p q ws).t × Fits (N.mixing p q ws).s) where
  joins : (z : Words) → Fit z → Inverses Fit (λ w. joined N.groups w z) (λ w. joined N.groups w (inverses N.groups z))
  joins z q = record {
    keeps = λ w p. (outer.join_fits _ _ p.0 q.0, inner.join_fits _ _ p.1 q.1, inner.join_fits _ _ p.2 q.2, outer.join_fits _ _ p.3 q.3);
    keeps_back = λ w p. (
      outer.join_fits _ _ p.0 (outer.inverse_fits _ q.0),
      inner.join_fits _ _ p.1 (inner.inverse_fits _ q.1),
      inner.join_fits _ _ p.2 (inner.inverse_fits _ q.2),
      outer.join_fits _ _ p.3 (outer.inverse_fits _ q.3),
    );
    back = λ w p i. record {
      first = taken_back outer w.first z.first p.0 q.0 i;
      second = taken_back inner w.second z.second p.1 q.1 i;
      third = taken_back inner w.third z.third p.2 q.2 i;
      fourth = taken_back outer w.fourth z.fourth p.3 q.3 i;
    };
    forth = λ w p i. record {
      first = brought_back outer w.first z.first p.0 q.0 i;
      second = brought_back inner w.second z.second p.1 q.1 i;
      third = brought_back inner w.third z.third p.2 q.2 i;
      fourth = brought_back outer w.fourth z.fourth p.3 q.3 i;
    };
  }

  mixed_fits : (ws : BoxWords) (w : Words) → Fit w → Fit (mixed N ws w)
  mixed_fits ws w p =
      let v = values (bit_xor w.first w.third) (bit_xor w.second w.fourth) ws in
      (xor_lt 16 _ _ p.0 v.0, xor_lt 16 _ _ p.1 v.1, xor_lt 16 _ _ p.2 v.0, xor_lt 16 _ _ p.3 v.1)

  -- mixing leaves what the box is called with
  mixed_twice : (ws : BoxWords) (w : Words) → mixed N ws (mixed N ws w) ≡ w
  mixed_twice ws w =
      let m = N.mixing (bit_xor w.first w.third) (bit_xor w.second w.fourth) ws in
      ap (λ x. added (added w m) (N.mixing x (bit_xor (bit_xor w.second m.s) (bit_xor w.fourth m.s)) ws)) (same_xor w.first w.third m.t)
      ∙ ap (λ y. added (added w m) (N.mixing (bit_xor w.first w.third) y ws)) (same_xor w.second w.fourth m.s)
      ∙ (λ i. record { first = xor_twice w.first m.t i; second = xor_twice w.second m.s i; third = xor_twice w.third m.t i; fourth = xor_twice w.fourth m.s i })

  mixes : (ws : BoxWords) → Inverses Fit (mixed N ws) (mixed N ws)
  mixes ws = record { keeps = mixed_fits ws; keeps_back = mixed_fits ws; back = λ w p. mixed_twice ws w; forth = λ w p. mixed_twice ws w }

  rounds : (k : RoundWords) → Fit k.joins → Inverses Fit (round N k) (unround N k)
  rounds k q = after (joins k.joins q) (mixes k.mixing)

  all_later : (ks : List RoundWords) → AllFit ks → Inverses Fit (λ w. fold (later N) w ks) (λ w. fold (earlier N) w (reverse ks))
  unfolding AllFit
  all_later [] q = record { keeps = λ w p. p; keeps_back = λ w p. p; back = λ w p. refl; forth = λ w p. refl }
  all_later (k ∷ ks) q =
      let both = after (after exchange (rounds k q.0)) (all_later ks q.1) in
      record {
        keeps = both.keeps;
        keeps_back = λ w p. rw (fold_reverse_cons (earlier N) k ks w) (both.keeps_back w p);
        back = λ w p. fold_reverse_cons (earlier N) k ks _ ∙ both.back w p;
        forth = λ w p. ap (λ v. fold (later N) v (k ∷ ks)) (fold_reverse_cons (earlier N) k ks w) ∙ both.forth w p;
      }

  pub undoes : KeyFits N.key → Inverses Fit (ran N) (unran N)
  undoes q = after (after (rounds N.key.first q.0) (all_later N.key.others q.1)) (joins N.key.closing q.2)

  -- the turned network, whose way back agrees
  pub turns : KeyFits N.key → Inverses Fit (ran N) (ran (turned N))
  turns q =
      let both = undoes q in
      record {
        keeps = both.keeps;
        keeps_back = λ w p. subst Fit (ways_back N w) (both.keeps_back w p);
        back = λ w p. sym (ways_back N (ran N w)) ∙ both.back w p;
        forth = λ w p. ap (ran N) (sym (ways_back N w)) ∙ both.forth w p;
      }
