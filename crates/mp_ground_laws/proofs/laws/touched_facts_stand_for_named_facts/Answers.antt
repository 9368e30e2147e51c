use Rattle.mp_ground_laws.proofs.Basics.{Factor, Schema, IsChecked}
use Rattle.std.proofs.Common.{Contains}
use Rattle.std.proofs.lemmas.List.Elements.{All-contains}
use Rattle.mp_ground_laws.proofs.Needed.{needed_stand, added_stand, deleted_stand}
use Rattle.mp_ground_laws.proofs.Parts.{parts_of, IsSchema}
use Rattle.mp_ground_laws.proofs.laws.touched_facts_stand_for_named_facts.Goals as goal

checked_schema : (factor : Factor) (s : Schema) → IsChecked factor → Contains factor.domain.schemas s → IsSchema factor s
checked_schema factor s h there = All-contains (IsSchema factor) factor.domain.schemas s (parts_of factor h.no_fault).schemas there

pub returns-clause-needed : goal.returns-clause-needed
returns-clause-needed c = λ agent factor view s objects cost h there b. needed_stand agent factor view s objects cost b (checked_schema factor s h there)

pub returns-clause-added : goal.returns-clause-added
returns-clause-added c = λ agent factor view s objects cost h there b.
    added_stand agent factor view s objects cost (parts_of factor h.no_fault) b (checked_schema factor s h there)

pub returns-clause-deleted : goal.returns-clause-deleted
returns-clause-deleted c = λ agent factor view s objects cost h there b. deleted_stand agent factor view s objects cost b (checked_schema factor s h there)
