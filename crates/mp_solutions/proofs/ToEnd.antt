-- What was found by round robin was found by a schedule at the end of which all agents had ended.
use Rattle.std.proofs.Common.{ℕ, Bool, true, false, List}
use Rattle.mp_forms.specs.declared.factor.Factor.{Factor}
use Rattle.mp_world.specs.Team.{team_with}
use Rattle.mp_world.specs.Values.{Values}
use Rattle.mp_world.specs.World.{start_world}
use Rattle.mp_world.proofs.Turns.{round_robin_end}
use Rattle.mp_solutions.specs.Solution.{IsFoundOn, IsFoundToEnd, IsSolution}
use Rattle.mp_solutions.specs.declared.solution.Solution.{Solution}

module _ (value : Values) (limit : ℕ) (team : List Factor) (found : Solution) where
  in_turn_to_end : IsSolution value limit team found → IsFoundToEnd value limit team found
  in_turn_to_end is = record {
    schedule = is.schedule;
    is_found = is.in_turn.is_found;
    over =
        round_robin_end value (start_world (team_with value limit is.in_turn.is_found.tasks.tasks)) is.in_turn.is_found.last is.schedule
        is.round_robin;
  }

  -- so it serves whether or not one thread alone was asked for
  pub on_any : (one : Bool) → IsSolution value limit team found → IsFoundOn value limit team one found
  on_any true is = is
  on_any false is = in_turn_to_end is

  pub found_to_end : (one : Bool) → IsFoundOn value limit team one found → IsFoundToEnd value limit team found
  found_to_end true is = in_turn_to_end is
  found_to_end false is = is
