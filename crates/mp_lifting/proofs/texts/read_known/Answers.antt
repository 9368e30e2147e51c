use Rattle.mp_lifting.proofs.Basics.{◌≡◌, ◌<◌, ◌∙◌, List, length, get_or, sym, ap, subst, Text}
use Rattle.mp_lifting.specs.Factors.{known_atom}
use Rattle.mp_lifting.proofs.Growing.{given_more, given_nothing}
use Rattle.mp_lifting.proofs.texts.read_known.Goals.{in-Some+in_ok-push, in_default}
use Rattle.mp_lifting.proofs.texts.read_known.Goals as goal

pub loop-text-preserved : goal.loop-text-preserved
loop-text-preserved c =
    let v = c.args.vocabulary.now in
    let texts = c.args.texts.now in
    let l = c.loop-text in
    let t = c.text-item.result in
    let lt = subst (λ (ts : List Text). l.text-index < length ts) c.as_slice-text-items.ensures c.loop-text-test.true in
    let is = subst (λ (ts : List Text). t ≡ get_or ts l.text-index t) c.as_slice-text-items.ensures c.text-item.is in
    let gives = ap (known_atom v) (sym c.as_slice.ensures.bytes) ∙ sym c.in_ok-atom.ensures in
    elim c.match-branch-2.branch [
      | in-Some+in_ok-push w ↦
          w.made-is ∙ w.in_ok-push.ensures.ok
          ∙ given_more (known_atom v) texts l.text-index t w.in-Some.atom l.made lt is (gives ∙ w.in-Some.is) l.invariant
      | in_default w ↦ w.made-is ∙ given_nothing (known_atom v) texts l.text-index t l.made lt is (gives ∙ w.in_default.is) l.invariant
    ]
