-- Facts and complements in numbers, and their order.
use Rattle.std.specs.Prelude.{Bool, true, false, not, if◌then◌else◌}
use Rattle.std.specs.declared.cmp.Ordering.{Ordering}
use Rattle.mp_lifted.specs.declared.lifted.GroundAtom.{GroundAtom}
use Rattle.mp_lifted.specs.declared.lifted.LiftedFactor.{LiftedFactor}
use Rattle.mp_lifted.specs.Start.{is_private, is_so, is_true_at_start}
use Rattle.mp_ground_facts.specs.declared.fact.GroundFact.{GroundFact}
use Rattle.mp_ground_facts.specs.contracts.fact.GroundFactOrd.TheImpl as facts
use Rattle.mp_ground_facts.specs.contracts.fact.GroundFactPartialEq.TheImpl as facts_eq

-- a fact, or the complement of one
abbrev pub fact_of : LiftedFactor → Bool → GroundAtom → GroundFact
fact_of factor is_complement a = record {
  is_public = not (is_private factor a);
  is_complement = is_complement;
  predicate = a.symbol;
  objects = a.args;
}

abbrev pub plain : LiftedFactor → GroundAtom → GroundFact
plain factor a = fact_of factor false a

abbrev pub complement : LiftedFactor → GroundAtom → GroundFact
complement factor a = fact_of factor true a

-- the atom of a fact or complement
abbrev pub atom_of : GroundFact → GroundAtom
atom_of f = record { symbol = f.predicate; args = f.objects }

-- a fact is true at the start, or a complement is, since its fact is false
abbrev pub is_initial : LiftedFactor → GroundFact → Bool
is_initial factor f =
    if f.is_complement then not (is_true_at_start factor (atom_of f))
    else is_true_at_start factor (atom_of f)

-- whether the facts of an atom's predicate have complements
abbrev pub has_complement : LiftedFactor → GroundAtom → Bool
has_complement factor a = is_so factor.negated_predicates a.symbol

-- The order of facts: private ones first, then facts before complements, then by predicate and by
-- objects.
abbrev pub fact_cmp : GroundFact → GroundFact → Ordering
fact_cmp = facts.ghosts.cmp

-- facts are the same where all their parts are
abbrev pub same_fact : GroundFact → GroundFact → Bool
same_fact = facts_eq.ghosts.eq
