use Rattle.mp_lifting.proofs.Basics.{◌∙◌, ap, map, List, Bool, Factor, Signature, Shown, is_of}
use Rattle.mp_lifting.proofs.factors.marks_of.Goals as goal

abbrev flags : Shown → List Signature → List Bool
flags shown predicates = map (λ s. is_of shown.privates shown.own shown.shown s.word.name) predicates

pub returns-clause-negated_predicates : goal.returns-clause-negated_predicates
returns-clause-negated_predicates c =
    c.in_ok-flags_of.ensures
    ∙ ap (λ (w : Factor). flags c.in_ok-complements.complements w.domain.predicates) c.factor.view_is
    ∙ ap (λ (shown : Shown). flags shown c.args.factor.now.domain.predicates) c.in_ok-complements.ensures
