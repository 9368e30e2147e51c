use Rattle.mp_typing.proofs.Basics.{◌∙◌, ap, is_some, Factor, is_object, objects_of}
use Rattle.mp_typing.proofs.LookupLemmas.{is_placed}
use Rattle.mp_typing.proofs.declared.Declared.has_object.Goals as goal

pub returns : goal.returns
returns c =
    let entries = c.self.inside.objects in
    c.is_some.ensures ∙ ap is_some c.find.ensures
    ∙ is_placed entries _ c.args.name.now c.self.invariant.0
    ∙ ap (λ (factor : Factor). is_object (objects_of factor) c.args.name.now) c.self.view_is
