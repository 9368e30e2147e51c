-- What an event of a team leads to, or why it does not happen.
use Rattle.std.specs.Prelude.{◌≡◌, ◌≢◌, ◌≤◌, ℕ, true, false, [], ◌∷◌, ◌++◌, if◌then◌else◌}
use Rattle.std.specs.Prelude.{Option, Some, None, IfSome, Result, Ok, Err}
use Rattle.mp_messages.specs.declared.history.Event.{Event}
use Rattle.mp_messages.specs.declared.history.Event.TheVariants.{Expand, Take, Start}
use Rattle.mp_world.specs.Events.{after_event, agent_may, agent_of, has_message}
use Rattle.mp_world.specs.Logs.{log_after}
use Rattle.mp_world.specs.Values.{Values}
use Rattle.mp_world.specs.World.{World}
use Rattle.mp_schedule.specs.declared.refusal.EventRefusal.{EventRefusal}
use Rattle.mp_schedule.specs.declared.refusal.EventRefusal.TheVariants.{NotNow, Empty, OutOfMemory}
use Rattle.mp_schedule.specs.TeamRun.{IsSameTeam, TeamRun}

-- the agents of an event are of a team of so many, and no agent takes a message of its own
abbrev pub IsOfTeam : ℕ → Event → Type 0
IsOfTeam agents (Expand agent) = agent ≤ agents
IsOfTeam agents (Take by from) = (by ≤ agents) × (from ≤ agents) × (from ≢ by)
IsOfTeam agents Start = 1 ≤ agents

-- an event whose message is missing
abbrev pub missing : Event → Option EventRefusal
missing (Expand agent) = None
missing (Take by from) = Some (Empty by from)
missing Start = None

-- why an event may not happen, if it may not: first that its agent may not do it, then that there is no message
abbrev pub refusal_of : World → Event → Option EventRefusal
refusal_of w event =
    if agent_may w event
    then (if has_message w event then None else missing event)
    else Some (NotNow (agent_of event))

module _ (value : Values) where
  -- an event happened: the world and the log are those after it
  pub record HasHappened (old : TeamRun) (event : Event) (new : TeamRun) : Type 0 where
    pub leads : after_event value old.world event ≡ Some new.world
    pub appended : new.schedule ≡ old.schedule ++ event ∷ []
    pub logged : new.log ≡ old.log ++ log_after value old.world event
    pub kept : new.failed ≡ old.failed

  -- what each answer says
  abbrev pub Says : {A : Type 0} → TeamRun → Event → Result A EventRefusal → TeamRun → Type 0
  Says old event (Ok done) new = HasHappened old event new
  Says old event (Err (NotNow agent)) new = refusal_of old.world event ≡ Some (NotNow agent)
  Says old event (Err (Empty by from)) new = refusal_of old.world event ≡ Some (Empty by from)
  Says old event (Err OutOfMemory) new = new.failed ≡ true

  -- The answer to an event. Where it may not happen it is refused, and then nothing changes; want of memory is answered
  -- again by each later event.
  pub record IsAnswer
      {A : Type 0}
      (old : TeamRun)
      (event : Event)
      (answer : Result A EventRefusal)
      (new : TeamRun)
      : Type 0 where
    pub again : old.failed ≡ true → answer ≡ Err OutOfMemory
    pub refused :
        old.failed ≡ false
        → IfSome (refusal_of old.world event) (λ refusal. (answer ≡ Err refusal) × (new ≡ old))
    pub says : Says old event answer new
    pub same : IsSameTeam old new
