-- The events of a schedule that come before their own agents record a snapshot (Chandy and Lamport
-- 1985).
use Rattle.std.specs.Prelude.{ℕ, ◌&&◌, not, nat_le, Bool, false, List, [], ◌∷◌, ◌++◌, if◌then◌else◌}
use Rattle.std.specs.Option.{option_map_or}
use Rattle.mp_messages.specs.declared.history.Event.{Event}
use Rattle.mp_machine.specs.AgentRecord.{AgentRecord}
use Rattle.mp_world.specs.Events.{after_event, agent_of}
use Rattle.mp_world.specs.Team.{Team}
use Rattle.mp_world.specs.Values.{Values}
use Rattle.mp_world.specs.World.{World, agent_at, start_world}

-- An agent has recorded the snapshot of a number: it has begun it, or a later one.
abbrev pub has_recorded : ℕ → AgentRecord → Bool
has_recorded k r = nat_le k r.snapshot.number

-- an agent of a world has not recorded it
abbrev pub has_not_recorded : ℕ → World → ℕ → Bool
has_not_recorded k w agent = option_map_or (λ r. not (has_recorded k r)) (agent_at w agent) false

-- An event from one world to the next comes before the cut: its agent has not recorded the snapshot
-- before the event, and still has not after it.
abbrev pub is_before_cut : ℕ → World → Event → World → Bool
is_before_cut k w event next =
    has_not_recorded k w (agent_of event) && has_not_recorded k next (agent_of event)

-- an event alone, where it comes before the cut
abbrev pub kept_event : ℕ → World → Event → World → List Event
kept_event k w event next = if is_before_cut k w event next then event ∷ [] else []

module _ (value : Values) (k : ℕ) where
  -- the events before the cut, from a world on
  unfoldable pub cut_from : World → List Event → List Event
  cut_from w [] = []
  cut_from w (event ∷ events) =
      option_map_or
      (λ next. kept_event k w event next ++ cut_from next events)
      (after_event value w event)
      []

-- The cut of a schedule at the snapshot of a number.
abbrev pub cut_schedule : Team → ℕ → List Event → List Event
cut_schedule team k schedule = cut_from team.value k (start_world team) schedule
