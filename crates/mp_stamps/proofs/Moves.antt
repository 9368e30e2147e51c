-- What of a list goes over to a log, entry by entry.
use Rattle.std.proofs.Common.{◌≡◌, ℕ, ◌<◌, Bool, true, false, List, [], ◌∷◌, ◌++◌, length, refl, sym, ap, subst, ◌∙◌, arith, append_assoc}
use Rattle.std.specs.Prelude.{nat_lt, not}
use Rattle.std.proofs.lemmas.Bool.{false≢true}
use Rattle.mp_messages.specs.declared.history.Entry.{Entry}
use Rattle.mp_stamps.specs.Lists.{entries}
use Rattle.mp_stamps.specs.Turns.{begins_up_to, left_behind, up_to}
use Rattle.mp_stamps.specs.declared.stamped.Stamped.{Stamped}
use Rattle.mp_stamps.proofs.Turns.{ended, kept, passed, taken}

is_false : (b : Bool) → not b ≡ true → b ≡ false
is_false true e = absurd (false≢true e)
is_false false e = refl

is_true : (b : Bool) → not b ≡ false → b ≡ true
is_true true e = refl
is_true false e = absurd (false≢true (sym e))

module _ (last : ℕ) where
  -- the first entry of a list goes over: what goes over of the others is still to come
  pub record HasMovedOne (xs ys : List Stamped) (before after : List Entry) : Type 0 where
    pub log : after ++ entries (up_to last ys) ≡ before ++ entries (up_to last xs)
    pub rest : left_behind last ys ≡ left_behind last xs
    pub fewer : length ys < length xs

  pub one_moved : (xs ys : List Stamped) (log log' : List Entry) → begins_up_to last xs ≡ true
      → ((s : Stamped) (ss : List Stamped) → xs ≡ s ∷ ss → (ys ≡ ss) × (log' ≡ log ++ s.entry ∷ []))
      → HasMovedOne xs ys log log'
  one_moved [] ys log log' begins is = absurd (false≢true begins)
  one_moved (s ∷ ss) ys log log' begins is =
      let first = is s ss refl in
      let early : nat_lt last s.stamp ≡ false = is_false (nat_lt last s.stamp) begins in
      record {
        log = (λ i. first.1 i ++ entries (up_to last (first.0 i)))
            ∙ (append_assoc log (s.entry ∷ []) (entries (up_to last ss)) ∙ ap (λ l. log ++ entries l) (sym (taken last s ss early)));
        rest = ap (left_behind last) first.0 ∙ sym (passed last s ss early);
        fewer = subst (λ (l : List Stamped). length l < length (s ∷ ss)) (sym first.0) (omega arith);
      }

  -- no entry goes over any more
  pub none_moved : (xs : List Stamped) → begins_up_to last xs ≡ false → (up_to last xs ≡ []) × (xs ≡ left_behind last xs)
  none_moved [] e = (refl, refl)
  none_moved (s ∷ ss) e = let late = is_true (nat_lt last s.stamp) e in (ended last s ss late, sym (kept last s ss late))
