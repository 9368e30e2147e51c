-- The runs of a team keep the laws of runs.
use Rattle.std.proofs.Common.{◌≡◌, ◌≤◌, ℕ, Bool, false, List, [], ◌∷◌, length, Some, refl, sym, ap, ◌∙◌, arith}
use Rattle.std.specs.Prelude.{Contains}
use Rattle.mp_task.specs.AgentTask.{AgentTask}
use Rattle.mp_task.proofs.Agreeing.{Contains-slice_get}
use Rattle.mp_messages.specs.declared.history.Entry.{Entry}
use Rattle.mp_messages.specs.declared.history.Event.{Event}
use Rattle.mp_messages.specs.declared.history.Event.TheVariants.{Expand}
use Rattle.mp_machine.specs.Machine.{AgentMachine}
use Rattle.mp_world.specs.Events.{after_event}
use Rattle.mp_world.specs.IsRun.{IsRun}
use Rattle.mp_world.specs.Values.{Values}
use Rattle.mp_world.specs.World.{World}
use Rattle.mp_team_states.specs.Expansions.{ExpandsOne}
use Rattle.mp_schedule.specs.Laws.{KeepsLaws}
use Rattle.mp_schedule.specs.Machines.{AreOneRun, team_run, world_of}
use Rattle.mp_schedule.specs.Steps.{AreAfter}
use Rattle.mp_schedule.specs.TeamRun.{IsLogged, MayRun, TeamRun, team_in}
use Rattle.mp_schedule.specs.UnderWay.{Mail}

-- a team has a task
pub a_task : (tasks : List AgentTask) → 1 ≤ length tasks → (t : AgentTask) × Contains tasks t
a_task [] some = absurd (omega arith)
a_task (t ∷ tasks) some = (t, Contains-slice_get (t ∷ tasks) 0 t refl)

-- the run of a team
pub is_run_of : (value : Values) (r : TeamRun) → MayRun r → IsLogged value r → IsRun (team_in value r) r.schedule r.world
is_run_of value r team run = record { is_team = record { tasks = team.tasks; most = team.most }; leads = run.leads }

module _ (value : Values)
    (ms : List AgentMachine) (mail : Mail) (log : List Entry) (failed : Bool)
    (is : AreOneRun value ms mail log failed)
    (works : failed ≡ false)
  where
    now : IsLogged value (team_run ms mail log failed)
    now =
        let run = (is.going works).run in
        record { leads = run.leads; logged = run.logged }

    pub kept : ((r : TeamRun) → MayRun r → IsLogged value r → KeepsLaws value r)
        → KeepsLaws value (team_run ms mail log failed)
    kept laws = laws (team_run ms mail log failed) is.team now

    pub expanded : ((r : TeamRun) (agent : ℕ) (next : World) → MayRun r → IsLogged value r
        → after_event value r.world (Expand agent) ≡ Some next → ExpandsOne r.world agent next)
        → (ms' : List AgentMachine) (mail' : Mail) (log' : List Entry) (event : Event)
        → AreAfter value (record { machines = ms; mail = mail; log = log }) event
        (record { machines = ms'; mail = mail'; log = log' })
        → (agent : ℕ) → event ≡ Expand agent → ExpandsOne (world_of ms mail) agent (world_of ms' mail')
    expanded one ms' mail' log' event after agent same =
        one (team_run ms mail log failed) agent (world_of ms' mail') is.team now
        (ap (after_event value (world_of ms mail)) (sym same) ∙ after.leads)
