-- Round robin: the agents of a team take turns by rising number, until all have ended.
use Rattle.std.specs.Prelude.{◌≡◌, ◌≢◌, ℕ, not, Bool, true, false, List, [], ◌∷◌, ◌++◌, length, Some}
use Rattle.std.specs.List.{list_all, range_with_len}
use Rattle.mp_messages.specs.declared.history.Event.{Event}
use Rattle.mp_messages.specs.declared.history.Event.TheVariants.{Expand, Take, Start}
use Rattle.mp_machine.specs.AgentRecord.{is_going}
use Rattle.mp_machine.specs.Outgoing.{others}
use Rattle.mp_world.specs.Events.{after_event, is_legal}
use Rattle.mp_world.specs.Values.{Values}
use Rattle.mp_world.specs.World.{World}

-- all agents have ended
abbrev pub is_over : World → Bool
is_over w = list_all (λ r. not (is_going r.ending)) w.agents

-- one part of a schedule and then another, each from a world to a world
pub record Then
    (First Second : World → List Event → World → Type 0)
    (w : World)
    (events : List Event)
    (last : World)
    : Type 0 where
  pub first : List Event
  pub middle : World
  pub second : List Event
  pub done : First w first middle
  pub then : Second middle second last
  pub is : events ≡ first ++ second

-- nothing happens
pub record Nothing (w : World) (events : List Event) (last : World) : Type 0 where
  pub none : events ≡ []
  pub same : last ≡ w

-- a part for each of some agents, one after another
abbrev pub ForEach : (ℕ → World → List Event → World → Type 0) → List ℕ → World → List Event → World → Type 0
ForEach Part [] = Nothing
ForEach Part (agent ∷ agents) = Then (Part agent) (ForEach Part agents)

module _ (value : Values) where
  -- an event happens as long as it may
  pub data AsLongAsItMay (event : Event) : World → List Event → World → Type 0 where
    no_more : (w : World) → is_legal w event ≡ false → AsLongAsItMay event w [] w
    once_more :
        (w next last : World) (later : List Event)
        → after_event value w event ≡ Some next
        → AsLongAsItMay event next later last
        → AsLongAsItMay event w (event ∷ later) last

  -- an event happens once if it may
  pub data IfItMay (event : Event) : World → List Event → World → Type 0 where
    not_now : (w : World) → is_legal w event ≡ false → IfItMay event w [] w
    now : (w next : World) → after_event value w event ≡ Some next → IfItMay event w (event ∷ []) next

  -- agent 1 starts a snapshot if it may
  pub data StartsIfFirst (agent : ℕ) (w : World) (events : List Event) (last : World) : Type 0 where
    first : agent ≡ 1 → IfItMay Start w events last → StartsIfFirst agent w events last
    another : agent ≢ 1 → Nothing w events last → StartsIfFirst agent w events last

  -- The turn of an agent in a team of so many: it takes what there is from each other agent, by rising number; then it
  -- expands once if it may; then agent 1 starts a snapshot if it may.
  abbrev pub Turn : ℕ → ℕ → World → List Event → World → Type 0
  Turn agents agent =
      Then (ForEach (λ from. AsLongAsItMay (Take agent from)) (others agent agents))
      (Then (IfItMay (Expand agent)) (StartsIfFirst agent))

  -- a round: each agent has its turn, by rising number
  abbrev pub Round : ℕ → World → List Event → World → Type 0
  Round agents = ForEach (Turn agents) (range_with_len 1 agents)

  -- rounds are repeated until the run is over
  pub data Rounds (agents : ℕ) : World → List Event → World → Type 0 where
    over : (w : World) → is_over w ≡ true → Rounds agents w [] w
    round :
        (w next last : World) (events later : List Event)
        → is_over w ≡ false
        → Round agents w events next
        → Rounds agents next later last
        → Rounds agents w (events ++ later) last

  -- The schedule that round robin makes from a world up to one that is over.
  abbrev pub IsRoundRobin : World → List Event → World → Type 0
  IsRoundRobin w schedule last = Rounds (length w.agents) w schedule last
