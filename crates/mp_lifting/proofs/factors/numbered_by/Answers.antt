use Rattle.mp_lifting.proofs.Basics.{◌∙◌, ap, map, Factor, Vocabulary}
use Rattle.mp_joint.specs.Fact.{Privates}
use Rattle.mp_lifting.specs.Privates.{private_in}
use Rattle.mp_lifting.specs.Views.{has_complements}
use Rattle.mp_lifting.proofs.Assembled.{assembled, facts_in, is_lifted, put_together}
use Rattle.mp_lifting.proofs.factors.numbered_by.Goals as goal

pub returns : goal.returns
returns c =
    let factor = c.args.factor.now in
    let view = c.args.view.now in
    let names : Vocabulary = c.args.names.now in
    let privates : Privates = private_in c.args.privates.now in
    let marks = c.in_ok-marks.ensures in
    let same = c.factor-whole.ensures.same in
    let negated = marks.negated_predicates
    ∙ ap (λ (w : Factor). map (λ s. has_complements w view s.word.name) w.domain.predicates) same in
    let facts = c.in_ok-facts.ensures ∙ ap (facts_in names privates view) same in
    (λ i. put_together
    (record {
      private_predicates = marks.private_predicates i;
      negated_predicates = negated i;
      private_objects = marks.private_objects i;
    })
    (c.in_ok-actions.ensures i) (facts i))
    ∙ (λ i. assembled (c.requires.names i) (c.requires.privates i) factor view)
    ∙ is_lifted view factor
