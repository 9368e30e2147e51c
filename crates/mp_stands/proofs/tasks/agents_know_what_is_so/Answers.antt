use Rattle.mp_stands.proofs.Counts.{same_counted, same_goals}
use Rattle.mp_stands.proofs.GroundedSteps.{statics, negateds, same_needed, same_added, same_deleted, is_checked, to_team, from_team}
use Rattle.mp_stands.proofs.Starting.{same_start}
use Rattle.mp_stands.proofs.DistinctSteps.{steps_differ}
use Rattle.mp_stands.specs.Knowing.{known_setting}
use Rattle.mp_stands.proofs.tasks.agents_know_what_is_so.Goals as goal

pub returns : goal.returns
returns c = record {
  static_predicates = statics;
  negated_predicates = negateds;
  start = λ team me factor predicate args all at declared.
      same_start team me factor predicate args all at (is_checked team me factor (record { all = all; at = at })) declared;
  needed = same_needed;
  added = same_added;
  deleted = same_deleted;
  steps = λ team me factor g all at. (
    λ found. let is = to_team team me factor (record { all = all; at = at }) g found in (is.mine, is.is),
    λ h. from_team team me factor (record { all = all; at = at }) g (record { mine = h.0; is = h.1 }),
  );
  once = λ team me factor all at. steps_differ me factor (known_setting team me factor) (is_checked team me factor (record { all = all; at = at }));
  counted = λ team x all. same_counted team x all;
  goals = same_goals;
}
