-- In every world that a legal schedule leads to snapshots are sound, and agent 1 alone has ended the search.
use Rattle.mp_world.proofs.Basics.{◌≡◌, ℕ, zero, suc, ◌-◌, ◌<◌, ◌^◌, Bool, true, false, List, length, Some, eqb, refl, sym, ap, subst, ◌∙◌, replicate, slice_index_or, eqb-false, eqb-true, same_Some}
use Rattle.std.proofs.Common.{lit<}
use Rattle.mp_world.specs.AgentWords.{AgentTask, Event, AreFindings, before_all, nothing, own, AgentRecord}
use Rattle.mp_world.specs.Events.{agent_of, run}
use Rattle.mp_world.specs.Steps.{IsStepOf}
use Rattle.mp_world.specs.Team.{Team}
use Rattle.mp_world.specs.Values.{Values}
use Rattle.mp_world.specs.World.{IsTeamWorld, World, agent_at, start_world}
use Rattle.mp_world.proofs.LogOfRun.{new_at}
use Rattle.mp_world.proofs.Runs.{run_has}
use Rattle.mp_team_snapshots.specs.Snapshots.{AreEndsOfFirst, AreSnapshotsSound}
use Rattle.mp_team_snapshots.specs.Team.{IsTeamOf}
use Rattle.mp_team_snapshots.proofs.Costs.{start_small}
use Rattle.mp_team_snapshots.proofs.Ends.{ends_kept, ends_new}
use Rattle.mp_team_snapshots.proofs.Kept.{sound_kept, start_snapshots}
use Rattle.mp_team_snapshots.proofs.Protocol.{Sound}
use Rattle.mp_team_snapshots.proofs.Room.{IsRoomy, StaysRoomy, event_roomy}
use Rattle.mp_team_snapshots.proofs.Worlds.{note_at, note_of, team_numbers, to_view, view}

-- an agent that has found nothing yet
nothing_at : (n k : ℕ) → slice_index_or (replicate n nothing) k nothing ≡ nothing
nothing_at zero k = refl
nothing_at (suc n) zero = refl
nothing_at (suc n) (suc k) = nothing_at n k

own_new : (me agents : ℕ) → AreFindings nothing → AreFindings (own (before_all me agents))
own_new me agents fits = subst AreFindings (sym (nothing_at 16 (me - 1))) fits

-- what holds in every such world
pub record HoldsInRuns (publics : ℕ) (w : World) : Type 0 where
  pub sound : AreSnapshotsSound publics w
  pub ends : AreEndsOfFirst publics w
  pub room : (i : ℕ) (r : AgentRecord) → agent_at w i ≡ Some r → IsRoomy r

module _ (value : Values) (publics : ℕ) (tasks : List AgentTask) (team : IsTeamOf publics tasks) where
  module _ (w : World) (event : Event) (next : World) (is : IsTeamWorld tasks w) (old : HoldsInRuns publics w) (step : IsStepOf value w event next) where
    seen : Sound (length tasks) (view publics w)
    seen = to_view publics tasks team w (team_numbers publics tasks team w is) old.sound

    first_small : (note_at w 1).number < 2 ^ 60
    first_small =
        let first = old.sound.first in
        subst (λ s. s.number < 2 ^ 60) (sym (note_of w 1 first old.sound.first_there)) (old.room 1 first old.sound.first_there).number

    stays : StaysRoomy step.step
    stays = event_roomy value publics tasks team w is seen first_small event next step (old.room (agent_of event) step.agent step.there)

    room_next : (i : ℕ) (r : AgentRecord) → agent_at next i ≡ Some r → IsRoomy r
    room_next i r there = by (eqb i (agent_of event)) refl
      where
        by : (b : Bool) → eqb i (agent_of event) ≡ b → IsRoomy r
        by true test =
            let here = eqb-true i (agent_of event) test in
            let same : step.step.after ≡ r = same_Some step.step.after r (sym step.after ∙ sym (ap (agent_at next) here) ∙ there) in
            subst IsRoomy same stays.after
        by false test = old.room i r (sym (step.others i (eqb-false i (agent_of event) test)) ∙ there)

    holds_next : HoldsInRuns publics next
    holds_next = record {
      sound = sound_kept value publics tasks team w event next is step stays.sends old.sound;
      ends = ends_kept value publics tasks team w event next is step stays.sends old.ends;
      room = room_next;
    }

module _ (team : Team) (publics : ℕ) (of_team : IsTeamOf publics team.tasks) where
  open team use {tasks, value}

  new_room : (i : ℕ) (r : AgentRecord) → agent_at (start_world team) i ≡ Some r → IsRoomy r
  new_room i r there =
      subst IsRoomy (sym (new_at team i r there)) (record {
        number = lit< tt;
        own = new_own r.task.me r.task.agents;
        entries = start_small r.task (value r.task);
      })
    where
      nothing_fits : AreFindings nothing
      nothing_fits = record { number = lit< tt; least = tt; under_way = tt; goal = tt }

      new_own : (me agents : ℕ) → AreFindings (own (before_all me agents))
      new_own me agents = own_new me agents nothing_fits

  pub holds_in_runs : (schedule : List Event) (w : World) → run team schedule ≡ Some w → HoldsInRuns publics w
  holds_in_runs = run_has team (HoldsInRuns publics)
      (record {
        sound = start_snapshots team publics of_team;
        ends = ends_new team publics of_team;
        room = new_room;
      })
      (λ w event next is old step. holds_next value publics tasks of_team w event next is old step)
