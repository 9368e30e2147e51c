use Rattle.mp_lifting.proofs.Basics.{[], ◌∙◌}
use Rattle.mp_lifting.proofs.DeclaredNames.{none_named}
use Rattle.mp_lifting.proofs.vocabulary.object_names.Goals as goal

pub returns : goal.returns
returns c =
    c.in_ok-add_objects-2.ensures c.args.constants.now (c.in_ok-add_objects.ensures [] (c.new-names.ensures ∙ none_named))
