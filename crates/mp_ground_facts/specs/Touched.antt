-- What instances need, add and delete, once static preconditions are left out and complements are
-- facts.
use Rattle.std.specs.Prelude.{ℕ, ◌&&◌, not, List, [], ◌++◌, map, filter, slice_get}
use Rattle.std.specs.List.{flat_map}
use Rattle.std.specs.Option.{option_map_or}
use Rattle.mp_lifted.specs.declared.lifted.GroundAtom.{GroundAtom}
use Rattle.mp_lifted.specs.declared.lifted.LiftedAction.{LiftedAction}
use Rattle.mp_lifted.specs.declared.lifted.LiftedFactor.{LiftedFactor}
use Rattle.mp_lifted.specs.Binding.{ActionBinding}
use Rattle.mp_lifted.specs.Atoms.{atoms_at, is_among}
use Rattle.mp_ground_facts.specs.declared.fact.GroundFact.{GroundFact}
use Rattle.mp_ground_facts.specs.Facts.{plain, complement, has_complement}

-- the preconditions that are not static, a negative one as the complement
abbrev pub needed : LiftedFactor → LiftedAction → List ℕ → List GroundFact
needed factor action objects =
    map (plain factor) (atoms_at objects action.positive)
    ++ map (complement factor) (atoms_at objects action.negative)

-- those of some atoms that are none of others, and whose predicates' facts have complements
abbrev pub with_complements : LiftedFactor → List GroundAtom → List GroundAtom → List GroundAtom
with_complements factor others atoms =
    filter (λ a. has_complement factor a && not (is_among a others)) atoms

-- the adds, and the complements of those deletes that are no adds
abbrev pub added : LiftedFactor → LiftedAction → List ℕ → List GroundFact
added factor action objects =
    map (plain factor) (atoms_at objects action.add)
    ++ map (complement factor)
    (with_complements factor (atoms_at objects action.add) (atoms_at objects action.del))

-- the deletes, and the complements of the adds
abbrev pub deleted : LiftedFactor → LiftedAction → List ℕ → List GroundFact
deleted factor action objects =
    map (plain factor) (atoms_at objects action.del)
    ++ map (complement factor) (filter (has_complement factor) (atoms_at objects action.add))

abbrev pub touched : LiftedFactor → LiftedAction → List ℕ → List GroundFact
touched factor action objects =
    needed factor action objects ++ added factor action objects ++ deleted factor action objects

-- the same for the action at a place, with these objects
abbrev pub of_place
    : LiftedFactor
    → (LiftedFactor → LiftedAction → List ℕ → List GroundFact)
    → ℕ
    → List ℕ
    → List GroundFact
of_place factor facts place objects =
    option_map_or (λ action. facts factor action objects) (slice_get factor.actions place) []

-- the same for an instance
abbrev pub of_action
    : LiftedFactor
    → (LiftedFactor → LiftedAction → List ℕ → List GroundFact)
    → ActionBinding
    → List GroundFact
of_action factor facts i = of_place factor facts i.action i.objects

-- what the goals ask for: facts, and complements of the facts that they negate
abbrev pub goal_facts : LiftedFactor → List GroundFact
goal_facts factor = map (plain factor) factor.goals ++ map (complement factor) factor.avoided

-- what some instance touches or a goal names
abbrev pub counted : LiftedFactor → List ActionBinding → List GroundFact
counted factor instances = flat_map (of_action factor touched) instances ++ goal_facts factor
