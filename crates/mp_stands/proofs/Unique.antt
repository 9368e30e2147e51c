-- What is grounded of what an agent knows is determined, but for the numbers of its steps.
use Rattle.std.proofs.Common.{◌≡◌, not, is_none, map, length, sym, ap, ◌∙◌}
use Rattle.std.proofs.lemmas.Cmp.{nat_cmp_total, nat_list_cmp_total, on_total, then_total}
use Rattle.std.specs.Cmp.{IsTotalOrder, bool_cmp_total}
use Rattle.mp_forms.specs.declared.factor.Factor.{Factor}
use Rattle.mp_sexp.specs.Numbers.{number_in}
use Rattle.mp_joint.specs.declared.fact.SignedFact.{SignedFact}
use Rattle.mp_joint.specs.Instance.{holds}
use Rattle.mp_lifting.specs.Vocabulary.{vocabulary_of}
use Rattle.mp_typing.specs.Places.{numbers_where}
use Rattle.mp_ground_laws.specs.Counted.{named_goals, signed_cmp}
use Rattle.mp_grounder.specs.declared.grounded.Ground.{Ground}
use Rattle.mp_grounder.specs.Grounded.{IsGrounded, Known, act_of, instances_by_name, setting}
use Rattle.mp_grounder.specs.Places.{places_in, public_places_in}
use Rattle.mp_stands.proofs.Ordered.{same_rising}

signed_total : (factor : Factor) → IsTotalOrder (signed_cmp factor)
signed_total factor =
    then_total (on_total (λ (x : SignedFact). is_none x.fact.owner) bool_cmp_total)
    (then_total (on_total (λ (x : SignedFact). not x.positive) bool_cmp_total)
    (then_total
    (on_total (λ (x : SignedFact). number_in (vocabulary_of factor).predicates x.fact.predicate) nat_cmp_total)
    (on_total (λ (x : SignedFact). map (number_in (vocabulary_of factor).objects) x.fact.args) nat_list_cmp_total)))

-- two grounded factors are the same, the numbers of their steps left aside
abbrev pub AreSameButSteps : Ground → Ground → Type 0
AreSameButSteps a b = b ≡ record a { steps = b.steps }

-- both list the same private facts
one_list : (k : Known) (a b : Ground) (first : IsGrounded k a) (second : IsGrounded k b)
    → second.private_facts ≡ first.private_facts
one_list k a b first second =
    sym (same_rising (signed_total k.factor) first.private_facts second.private_facts
    first.listed.rising second.listed.rising
    (λ x found. (second.listed.exact x).1 ((first.listed.exact x).0 found))
    (λ x found. (first.listed.exact x).1 ((second.listed.exact x).0 found)))

pub grounded_once : (k : Known) (a b : Ground) → IsGrounded k a → IsGrounded k b → AreSameButSteps a b
grounded_once k a b first second =
    let facts = one_list k a b first second in
    let goals = named_goals k.me k.factor in
    let me = second.me ∙ sym first.me in
    let publics = second.publics ∙ sym first.publics in
    let privates = second.privates ∙ ap length facts ∙ sym first.privates in
    let start = second.start ∙ ap (numbers_where 0 (holds (setting k).start)) facts ∙ sym first.start in
    let goal_pub = second.goal_pub ∙ ap (λ table. public_places_in table goals) publics ∙ sym first.goal_pub in
    let goal_priv = second.goal_priv ∙ ap (λ table. places_in table goals) facts ∙ sym first.goal_priv in
    let acts =
    second.acts ∙ (λ i. map (act_of (facts i) (publics i)) (instances_by_name k.me k.factor (setting k)))
    ∙ sym first.acts in
    λ i. record {
      me = me i;
      publics = publics i;
      privates = privates i;
      start = start i;
      goal_pub = goal_pub i;
      goal_priv = goal_priv i;
      acts = acts i;
      steps = b.steps;
    }
