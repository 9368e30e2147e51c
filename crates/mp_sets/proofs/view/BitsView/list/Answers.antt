use Rattle.std.proofs.Common.{ℕ, ◌++◌, ◌∷◌, [], ◌<◌, List, All, sym, ap, ◌∙◌, subst, arith}
use Rattle.std.specs.FinSet as set
use Rattle.mp_sets.specs.Numbers.{IsAboveLast}
use Rattle.mp_sets.proofs.ListedLemmas.{members_before-next, members_before-last, members_before-above, passing_below, from_list-listed}
use Rattle.mp_sets.proofs.view.BitsView.list.Goals as goal

pub push-requires : goal.push-requires
push-requires c =
    let P : List ℕ → Type 0 = λ xs. IsAboveLast xs c.in-Some.number in
    subst P (sym c.loop-number.invariant.0) (members_before-above c.args.self.now.members c.loop-number.from c.in-Some.number c.in-Some.ensures.some.above)

pub overflow_add-from : goal.overflow_add-from
overflow_add-from c = record { fits = c.in-Some.ensures.next.1 }

pub loop-number-preserved : goal.loop-number-preserved
loop-number-preserved c = (
  c.in_ok-push.ensures.ok
      ∙ ap (λ xs. xs ++ c.in-Some.number ∷ []) c.loop-number.invariant.0
      ∙ sym (members_before-next c.args.self.now.members c.loop-number.from c.in-Some.number c.in-Some.ensures.some),
  omega (arith, c.in-Some.ensures.next.0),
)

pub returns-clause-members : goal.returns-clause-members
returns-clause-members c =
    let s = c.args.self.now in
    c.loop-number.invariant.0 ∙ sym (members_before-last s.members c.loop-number.from s.size c.in_default.ensures.none c.loop-number.invariant.1)

pub returns-clause-set : goal.returns-clause-set
returns-clause-set c =
    let s = c.args.self.now in
    ap set.from_list (returns-clause-members c) ∙ from_list-listed s c.in_default.ensures.below

pub returns-clause-below : goal.returns-clause-below
returns-clause-below c =
    let s = c.args.self.now in
    let P : List ℕ → Type 0 = λ xs. All (λ y. y < s.size) xs in
    subst P (sym (returns-clause-members c)) (passing_below (set.contains s.members) s.size)
