-- An event of a team, part by part.
use Rattle.std.specs.Prelude.{◌≡◌, ◌≤◌, ◌-◌, ℕ, List, ◌++◌, All, Some, None, slice_get, slice_set}
use Rattle.std.specs.Prelude.{Result, Ok, Err}
use Rattle.mp_messages.specs.declared.history.Entry.{Entry}
use Rattle.mp_messages.specs.declared.history.Event.{Event}
use Rattle.mp_machine.specs.declared.outgoing.Out.{Out}
use Rattle.mp_machine.specs.declared.refusal.StepRefusal.{StepRefusal}
use Rattle.mp_machine.specs.declared.refusal.StepRefusal.TheVariants.{NotNow, Bad, OutOfMemory}
use Rattle.mp_machine.specs.Machine.{AgentMachine, IsStep}
use Rattle.mp_world.specs.Events.{after_event, agent_of, local_of}
use Rattle.mp_world.specs.Logs.{log_after}
use Rattle.mp_world.specs.Values.{Values}
use Rattle.mp_world.specs.World.{World}
use Rattle.mp_schedule.specs.Machines.{IsFree, world_of}
use Rattle.mp_schedule.specs.UnderWay.{Mail}

-- the machine of an event's agent took the step, and no other machine changed
pub record HasStepped
    (value : Values)
    (old : List AgentMachine)
    (event : Event)
    (bytes : List ℕ)
    (answer : Result (List Out) StepRefusal)
    (new : List AgentMachine)
    : Type 0 where
  pub from_1 : 1 ≤ agent_of event
  pub before : AgentMachine
  pub there : slice_get old (agent_of event - 1) ≡ Some before
  pub after : AgentMachine
  pub step : IsStep (value before.done.task) before (local_of event) bytes answer after
  pub others : new ≡ slice_set old (agent_of event - 1) after

-- machines, the messages under way between them, and the log
pub record Parts : Type 0 where
  pub machines : List AgentMachine
  pub mail : Mail
  pub log : List Entry

abbrev pub world_in : Parts → World
world_in p = world_of p.machines p.mail

module _ (value : Values) where
  -- the parts after an event
  pub record AreAfter (old : Parts) (event : Event) (new : Parts) : Type 0 where
    pub leads : after_event value (world_in old) event ≡ Some (world_in new)
    pub logged : new.log ≡ old.log ++ log_after value (world_in old) event
    pub free : All IsFree new.machines

  -- what is so after an event that may happen: its message may be a bad one, or memory runs out
  abbrev pub IsDone : {A : Type 0} → Parts → Event → Result A StepRefusal → Parts → Type 0
  IsDone old event (Ok done) new = AreAfter old event new
  IsDone old event (Err NotNow) new = ⊥
  IsDone old event (Err (Bad kind)) new = after_event value (world_in old) event ≡ None
  IsDone old event (Err OutOfMemory) new = Unit {0}
