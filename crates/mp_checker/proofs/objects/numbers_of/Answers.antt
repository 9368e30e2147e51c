use Rattle.std.proofs.Common.{Bor, [], ◌∷◌, ◌++◌, ap, ◌∙◌}
use Rattle.mp_joint.specs.Fact.{Text}
use Rattle.mp_lifting.proofs.Growing.{mapped_more}
use Rattle.mp_checker.specs.declared.numbered.ObjectNumber.{ObjectNumber}
use Rattle.mp_checker.specs.Numbering.{object_number}
use Rattle.mp_lifting.specs.Privates.{private_in}
use Rattle.mp_checker.proofs.objects.numbers_of.Goals as goal

pub loop-object-preserved : goal.loop-object-preserved
loop-object-preserved c =
    let l = c.loop-object in
    c.in_ok-push.ensures.ok ∙ ap (λ (o : ObjectNumber). l.made ++ o ∷ []) c.in_ok-object_number.ensures
    ∙ mapped_more (λ (n : Bor Text). object_number c.args.names.now (private_in c.args.privates.now) n.now) c.args.objects.now l.object-index c.object-item.result l.made
    c.loop-object-test.true c.object-item.is l.invariant
