use Rattle.mp_lifting.proofs.Basics.{◌≡◌, ◌<◌, ◌≤◌, ◌∙◌, ◌∷◌, [], ◌++◌, ◌&&◌, not, sym, ap, subst, length, get_or, map, List, filter, if◌then◌else◌, take_all, Literal, Text, lifted_atom, is_of}
use Rattle.mp_lifted.specs.declared.lifted.LiftedAtom.{LiftedAtom}
use Rattle.mp_lifting.proofs.Growing.{filtered_more, filtered_same}
use Rattle.mp_lifting.proofs.Parts.{has_sign, part_is}
use Rattle.mp_lifting.proofs.actions.parted.Goals.{then-is_in_part+in_ok-lift_atom+in_ok-push, else-is_in_part}
use Rattle.mp_lifting.proofs.actions.parted.Goals as goal

pub loop-literal-preserved : goal.loop-literal-preserved
loop-literal-preserved c =
    let l = c.loop-literal in
    let pre = c.args.schema.now.pre in
    let s = c.args.shown.now in
    let p = λ (t : Literal). has_sign c.args.part.positive t
    && (if c.args.part.changed then is_of s.privates s.own s.shown t.atom.word.name else not (is_of s.privates s.own s.shown t.atom.word.name)) in
    let f = λ (t : Literal). lifted_atom c.args.vocabulary.now c.args.schema.now.params t.atom in
    let x = c.literal-item.result in
    let lt = subst (λ (xs : List Literal). l.literal-index < length xs) c.as_slice-literal-items.ensures c.loop-literal-test.true in
    let is = subst (λ (xs : List Literal). x ≡ get_or xs l.literal-index x) c.as_slice-literal-items.ensures c.literal-item.is in
    elim c.if-is_in_part.branch [
      | then-is_in_part+in_ok-lift_atom+in_ok-push w ↦
          w.made-is ∙ w.in_ok-push.ensures.ok ∙ ap (λ (y : LiftedAtom). l.made ++ y ∷ []) w.in_ok-lift_atom.ensures
          ∙ filtered_more p f pre l.literal-index x l.made lt is (sym c.is_in_part.ensures ∙ w.if-is_in_part.true) l.invariant
      | else-is_in_part w ↦
          w.made-is ∙ filtered_same p f pre l.literal-index x l.made lt is (sym c.is_in_part.ensures ∙ w.if-is_in_part.false) l.invariant
    ]

pub returns : goal.returns
returns c =
    let pre = c.args.schema.now.pre in
    let s = c.args.shown.now in
    let test = λ (name : Text). if c.args.part.changed then is_of s.privates s.own s.shown name else not (is_of s.privates s.own s.shown name) in
    let p = λ (t : Literal). has_sign c.args.part.positive t && test t.atom.word.name in
    let f = λ (t : Literal). lifted_atom c.args.vocabulary.now c.args.schema.now.params t.atom in
    let past = subst (λ (xs : List Literal). length xs ≤ c.loop-literal.literal-index) c.as_slice-literal-items.ensures c.loop-literal-test.false in
    c.loop-literal.invariant ∙ ap (λ (xs : List Literal). map f (filter p xs)) (take_all c.loop-literal.literal-index pre past)
    ∙ part_is c.args.vocabulary.now test c.args.schema.now.params c.args.part.positive pre
