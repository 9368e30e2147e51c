-- Rounds of round robin of a team that is not over.
use Rattle.std.specs.Prelude.{◌≡◌, ◌<◌, ◌^◌, ℕ, zero, suc, false, List}
use Rattle.mp_messages.specs.declared.history.Event.{Event}
use Rattle.mp_world.specs.RoundRobin.{Round, is_over}
use Rattle.mp_world.specs.Values.{Values}
use Rattle.mp_world.specs.World.{World}

module _ (value : Values) (agents : ℕ) where
  -- a round, before which not all agents have ended
  pub record IsGoingRound (w next : World) : Type 0 where
    pub on : is_over w ≡ false
    pub events : List Event
    pub round : Round value agents w events next

  -- so many such rounds, one after another
  abbrev pub AreGoingRounds : ℕ → World → World → Type 0
  AreGoingRounds zero w last = last ≡ w
  AreGoingRounds (suc rounds) w last = (next : World) × IsGoingRound w next × AreGoingRounds rounds next last

  -- from a world to the last one in few such rounds
  pub record TakesFewRounds (w last : World) : Type 0 where
    pub rounds : ℕ
    pub few : rounds < 2 ^ 51
    pub goes : AreGoingRounds rounds w last
