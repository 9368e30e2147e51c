-- The facts that are counted when an agent's factor is grounded, by names, and their order.
use Rattle.std.specs.Prelude.{ℕ, not, List, ◌++◌, map, is_none}
use Rattle.std.specs.List.{flat_map}
use Rattle.std.specs.declared.cmp.Ordering.{Ordering}
use Rattle.std.specs.Ordering.{ordering_then, bool_cmp, nat_cmp}
use Rattle.std.specs.Cmp.Lexicographic.{slice_cmp}
use Rattle.mp_forms.specs.declared.factor.Factor.{Factor}
use Rattle.mp_sexp.specs.Numbers.{number_in}
use Rattle.mp_joint.specs.declared.fact.SignedFact.{SignedFact}
use Rattle.mp_joint.specs.Fact.{plain, complement}
use Rattle.mp_joint.specs.FactorContribution.{factor_contribution}
use Rattle.mp_joint.specs.Grounded.{Setting}
use Rattle.mp_lifting.specs.Vocabulary.{vocabulary_of}
use Rattle.mp_ground_laws.specs.Grounding.{GroundedInstance, grounded, grounded_instance}

-- what an instance touches
abbrev pub touched_by : GroundedInstance → List SignedFact
touched_by i = i.pre ++ i.add ++ i.del

-- what the goals ask for: facts, and complements of the facts that they negate
abbrev pub named_goals : ℕ → Factor → List SignedFact
named_goals agent factor =
    map plain (factor_contribution agent factor).goal ++ map complement (factor_contribution agent factor).never

-- what some instance touches or a goal names
abbrev pub counted_facts : ℕ → Factor → Setting → List SignedFact
counted_facts agent factor setting =
    flat_map touched_by (map (grounded_instance setting) (grounded agent factor setting)) ++ named_goals agent factor

-- The order of an agent's facts: those that it keeps to itself before public ones, then facts before complements, then
-- by predicate in the order of the file, and then by objects in object order.
abbrev pub signed_cmp : Factor → SignedFact → SignedFact → Ordering
signed_cmp factor x y =
    ordering_then (bool_cmp (is_none x.fact.owner) (is_none y.fact.owner))
    (ordering_then (bool_cmp (not x.positive) (not y.positive))
    (ordering_then
    (nat_cmp
    (number_in (vocabulary_of factor).predicates x.fact.predicate)
    (number_in (vocabulary_of factor).predicates y.fact.predicate))
    (slice_cmp nat_cmp
    (map (number_in (vocabulary_of factor).objects) x.fact.args)
    (map (number_in (vocabulary_of factor).objects) y.fact.args))))
