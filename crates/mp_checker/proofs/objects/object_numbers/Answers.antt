use Rattle.std.proofs.Common.{List, map, ap, ◌∙◌}
use Rattle.mp_joint.specs.Fact.{Text}
use Rattle.mp_lifting.proofs.Growing.{of_borrowed}
use Rattle.mp_checker.specs.Numbering.{object_number}
use Rattle.mp_lifting.specs.Privates.{private_in}
use Rattle.mp_checker.proofs.objects.object_numbers.Goals as goal

pub returns : goal.returns
returns c =
    let number = object_number c.args.names.now (private_in c.args.privates.now) in
    c.in_ok-made.ensures ∙ of_borrowed number c.as_slice.result.now ∙ ap (λ (ns : List Text). map number ns) c.as_slice.ensures
