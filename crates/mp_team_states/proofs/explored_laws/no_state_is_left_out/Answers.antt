use Rattle.mp_world.proofs.Basics.{sym, subst}
use Rattle.mp_reach.specs.LeadsOn.{IsAny, IsRoot, LeadsOn}
use Rattle.mp_reach.proofs.NothingLeftOut.{nothing_left_out}
use Rattle.mp_team_states.specs.TeamFound.{found_of}
use Rattle.mp_team_states.proofs.Heuristics.{knows_nothing}
use Rattle.mp_team_states.proofs.Runs.{run_invariant}
use Rattle.mp_team_states.proofs.SoundWorlds.{IsHeuristicFor}
use Rattle.mp_team_states.proofs.explored_laws.no_state_is_left_out.Goals as goal

pub returns : goal.returns
returns c = λ team schedule w same run.
    let heuristic = subst (λ v. IsHeuristicFor IsAny v team.tasks) (sym same) (knows_nothing IsAny team.tasks) in
    nothing_left_out (LeadsOn team.tasks) IsAny (IsRoot team.tasks) (λ k. tt) (found_of w)
    (run_invariant team run.is_team heuristic schedule w run.leads).explored
