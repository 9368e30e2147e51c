use Rattle.mp_lifting.proofs.Basics.{Bool, Bor, List, map, [], ◌∷◌, ◌++◌, ap, ◌∙◌, Text, is_listed, take_all}
use Rattle.mp_lifting.proofs.Growing.{mapped_more, of_borrowed}
use Rattle.mp_lifting.proofs.factors.flags_in.Goals as goal

pub loop-name-preserved : goal.loop-name-preserved
loop-name-preserved c =
    let l = c.loop-name in
    c.in_ok-push.ensures.ok ∙ ap (λ (b : Bool). l.flags ++ b ∷ []) c.contains.ensures
    ∙ mapped_more (λ (n : Bor Text). is_listed n.now c.args.table.now) c.as_slice-name-items.result.now l.name-index c.name-item.result l.flags
    c.loop-name-test.true c.name-item.is l.invariant

pub returns : goal.returns
returns c =
    let listed = λ (n : Text). is_listed n c.args.table.now in
    c.loop-name.invariant ∙ ap (map (λ (n : Bor Text). listed n.now)) (take_all c.loop-name.name-index c.as_slice-name-items.result.now c.loop-name-test.false)
    ∙ of_borrowed listed c.as_slice-name-items.result.now ∙ ap (λ (ns : List Text). map listed ns) c.as_slice-name-items.ensures
