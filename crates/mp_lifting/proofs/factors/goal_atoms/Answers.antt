use Rattle.mp_lifting.proofs.Basics.{◌≡◌, ◌<◌, ◌≤◌, ◌∙◌, ◌∷◌, [], ◌++◌, sym, ap, subst, length, get_or, map, List, filter, take_all, Literal, GroundAtom, ground_atom}
use Rattle.mp_lifting.proofs.Growing.{filtered_more, filtered_same}
use Rattle.mp_lifting.proofs.Parts.{has_sign, goals_are}
use Rattle.mp_lifting.proofs.factors.goal_atoms.Goals.{then-has_sign+in_ok-number_atom+in_ok-push, else-has_sign}
use Rattle.mp_lifting.proofs.factors.goal_atoms.Goals as goal

pub loop-goal-preserved : goal.loop-goal-preserved
loop-goal-preserved c =
    let l = c.loop-goal in
    let goals = c.args.goals.now in
    let p = has_sign c.args.positive in
    let f = λ (t : Literal). ground_atom c.args.vocabulary.now t.atom in
    let x = c.goal-item.result in
    let lt = subst (λ (xs : List Literal). l.goal-index < length xs) c.as_slice-goal-items.ensures c.loop-goal-test.true in
    let is = subst (λ (xs : List Literal). x ≡ get_or xs l.goal-index x) c.as_slice-goal-items.ensures c.goal-item.is in
    elim c.if-has_sign.branch [
      | then-has_sign+in_ok-number_atom+in_ok-push w ↦
          w.made-is ∙ w.in_ok-push.ensures.ok ∙ ap (λ (y : GroundAtom). l.made ++ y ∷ []) w.in_ok-number_atom.ensures
          ∙ filtered_more p f goals l.goal-index x l.made lt is (sym c.has_sign.ensures ∙ w.if-has_sign.true) l.invariant
      | else-has_sign w ↦
          w.made-is ∙ filtered_same p f goals l.goal-index x l.made lt is (sym c.has_sign.ensures ∙ w.if-has_sign.false) l.invariant
    ]

pub returns : goal.returns
returns c =
    let goals = c.args.goals.now in
    let p = has_sign c.args.positive in
    let f = λ (t : Literal). ground_atom c.args.vocabulary.now t.atom in
    let past = subst (λ (xs : List Literal). length xs ≤ c.loop-goal.goal-index) c.as_slice-goal-items.ensures c.loop-goal-test.false in
    c.loop-goal.invariant ∙ ap (λ (xs : List Literal). map f (filter p xs)) (take_all c.loop-goal.goal-index goals past)
    ∙ goals_are c.args.vocabulary.now c.args.positive goals
