use Rattle.mp_lifting.proofs.Basics.{map}
use Rattle.mp_lifting.proofs.Known.{absent_atom, found_atom}
use Rattle.mp_lifting.proofs.texts.atom_with.Goals as goal

pub returns-in_default : goal.returns-in_default
returns-in_default c =
    absent_atom c.args.vocabulary.now c.args.predicate.now (map (λ w. w.now) c.args.objects.now) _ c.find.ensures c.in_default.is

pub returns-in-Some-2 : goal.returns-in-Some-2
returns-in-Some-2 c =
    found_atom c.args.vocabulary.now c.args.predicate.now (map (λ w. w.now) c.args.objects.now) _ _ _ _ _ c.find.ensures c.in-Some.is
    c.in_ok-symbol.ensures.ok c.in_ok-args.ensures c.in-Some-2.is
