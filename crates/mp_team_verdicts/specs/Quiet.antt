-- Rounds of round robin while the search of the team goes on, and those among them in which no agent expands.
use Rattle.std.specs.Prelude.{◌≡◌, ℕ, zero, suc, Bool, true, false, List, IfSome}
use Rattle.std.specs.List.{list_all}
use Rattle.mp_messages.specs.declared.history.Event.{Event}
use Rattle.mp_messages.specs.declared.history.Event.TheVariants.{Expand, Take, Start}
use Rattle.mp_machine.specs.AgentRecord.{given_verdict}
use Rattle.mp_machine.specs.Verdicts.{is_deciding}
use Rattle.mp_world.specs.RoundRobin.{Round}
use Rattle.mp_world.specs.Values.{Values}
use Rattle.mp_world.specs.World.{World, agent_at}

-- whether an event is no expansion
abbrev pub is_quiet : Event → Bool
is_quiet (Expand agent) = false
is_quiet (Take by from) = true
is_quiet Start = true

-- whether no agent expands in a schedule
abbrev pub are_quiet : List Event → Bool
are_quiet events = list_all is_quiet events

-- agent 1 has given no verdict that decides the search
abbrev pub IsUndecided : World → Type 0
IsUndecided w = IfSome (agent_at w 1) (λ first. is_deciding (given_verdict first) ≡ false)

module _ (value : Values) (agents : ℕ) where
  -- a round in which no agent expands, and after which the search goes on
  pub record IsQuietRound (w next : World) : Type 0 where
    pub events : List Event
    pub round : Round value agents w events next
    pub quiet : are_quiet events ≡ true
    pub undecided : IsUndecided next

  -- so many such rounds, one after another
  abbrev pub AreQuietRounds : ℕ → World → World → Type 0
  AreQuietRounds zero w last = last ≡ w
  AreQuietRounds (suc rounds) w last = (next : World) × IsQuietRound w next × AreQuietRounds rounds next last

  -- a round after which the search goes on
  pub record IsSearchRound (w next : World) : Type 0 where
    pub events : List Event
    pub round : Round value agents w events next
    pub undecided : IsUndecided next

  -- so many such rounds, one after another
  abbrev pub AreSearchRounds : ℕ → World → World → Type 0
  AreSearchRounds zero w last = last ≡ w
  AreSearchRounds (suc rounds) w last = (next : World) × IsSearchRound w next × AreSearchRounds rounds next last
