-- What a worker answers, and what is so then.
use Rattle.std.specs.Prelude.{◌≡◌, ◌≢◌, ℕ, Bool, true, List, length, Option, Some, None, Result, Ok, Err, Contains}
use Rattle.std.specs.Option.{option_map}
use Rattle.mp_world.specs.Values.{Values}
use Rattle.atomic_table.specs.Seated.{TableId}
use Rattle.mp_stamps.specs.Lists.{IsAgentOf}
use Rattle.mp_post.specs.Desks.{IsDeskOf, SeenDesk}
use Rattle.mp_post.specs.Halts.{HasHalted}
use Rattle.mp_post_rule.specs.Views.{party_at}
use Rattle.mp_post_rule.specs.declared.view.Party.{Party}
use Rattle.mp_post_rule.specs.declared.view.View.{View}
use Rattle.mp_nodes.specs.Nodes.{AreSameAgents, AreServed, IsPlaceAt, SeenNode, have_ended, node_at, orders}
use Rattle.mp_nodes.specs.Steps.{IsBadAt, IsSeenHalted}
use Rattle.mp_nodes.specs.declared.served.Served.{Served}
use Rattle.mp_nodes.specs.declared.served.Stop.{Stop}
use Rattle.mp_nodes.specs.declared.served.Stop.TheVariants as stops
use Rattle.mp_nodes.specs.declared.served.Served.TheVariants.{Ended, Halted, Bad, OutOfMemory}

-- an agent of the worker was halted at all posts, one after another, after this was known
abbrev pub WasHalted : ℕ → ℕ → View → Type 0
WasHalted agents agent v = (before : View) × HasHalted agent agents before v

module _ (value : Values) (agents : ℕ) (nodes : List (Option SeenNode)) (v : View) where
  -- all agents of the worker have ended, and all that they did is signed
  pub record AllEnded : Type 0 where
    pub served : AreServed value agents nodes v
    pub ended : have_ended nodes ≡ true

  -- another worker's agent was seen halted
  pub record OtherHalted (agent : ℕ) : Type 0 where
    pub served : AreServed value agents nodes v
    pub of_team : IsAgentOf agents agent
    pub elsewhere : node_at nodes agent ≡ None
    pub seen : Contains v.seen agent

  -- an agent of the worker found a message to be a bad one, and was halted; the others go on
  pub record OneBad (agent : ℕ) : Type 0 where
    pub many : length nodes ≡ agents
    pub others : (other : ℕ) → other ≢ agent → IsPlaceAt value agents other v (node_at nodes other)
    pub node : SeenNode
    pub there : node_at nodes agent ≡ Some node
    pub is_bad : IsBadAt value agents agent v node
    pub marked : (party : Party) → party_at v agent ≡ Some party → party.halted ≡ true
    pub was_halted : WasHalted agents agent v

  -- memory ran out for an agent of the worker, which was halted
  pub record OneLacks (agent : ℕ) : Type 0 where
    pub node : SeenNode
    pub there : node_at nodes agent ≡ Some node
    pub was_halted : WasHalted agents agent v

  abbrev pub IsAnswer : Served → Type 0
  IsAnswer Ended = AllEnded
  IsAnswer (Halted agent) = OtherHalted agent
  IsAnswer (Bad agent) = OneBad agent
  IsAnswer (OutOfMemory agent) = OneLacks agent

-- what is answered where an agent of the worker does not go on, before this was known and now
abbrev pub Answers : ℕ → ℕ → Stop → Served → View → View → Type 0
Answers agents agent (stops.Halted other) answer before now = (answer ≡ Halted other) × (now ≡ before)
Answers agents agent stops.Bad answer before now = (answer ≡ Bad agent) × HasHalted agent agents before now
Answers agents agent stops.OutOfMemory answer before now = (answer ≡ OutOfMemory agent) × HasHalted agent agents before now

module _ (value : Values) (table : TableId) (agents agent : ℕ) where
  -- why the agent of a place does not go on
  abbrev pub StopsPlace : Option SeenNode → View → Served → Type 0
  StopsPlace place v Ended = ⊥
  StopsPlace place v (Halted other) = IsPlaceAt value agents agent v place × IsSeenHalted agents other v
  StopsPlace place v (Bad other) =
      (other ≡ agent)
      × ((node : SeenNode) × (place ≡ Some node) × IsBadAt value agents agent v node)
      × ((party : Party) → party_at v agent ≡ Some party → party.halted ≡ true)
      × WasHalted agents agent v
  StopsPlace place v (OutOfMemory other) =
      (other ≡ agent) × ((node : SeenNode) × (place ≡ Some node)) × WasHalted agents agent v

  -- its node fits its party again, or it does not go on
  abbrev pub LeavesPlace : Option SeenNode → View → Result Bool Served → Type 0
  LeavesPlace place v (Ok did) = IsPlaceAt value agents agent v place
  LeavesPlace place v (Err served) = StopsPlace place v served

  -- the turn of the agent of a place: the parties of other agents are as they were
  pub record PlaceGoesOn (old : Option SeenNode) (before : View) (answer : Result Bool Served) (new : Option SeenNode) (after : SeenDesk)
      : Type 0 where
    pub same : option_map orders new ≡ option_map orders old
    pub others : (other : ℕ) → other ≢ agent → party_at after.view other ≡ party_at before other
    pub desk : IsDeskOf table agents after
    pub leaves : LeavesPlace new after.view answer

module _ (value : Values) (table : TableId) (agents : ℕ) where
  -- the worker goes on, or answers
  abbrev pub LeavesAll : List (Option SeenNode) → View → Result Bool Served → Type 0
  LeavesAll nodes v (Ok did) = AreServed value agents nodes v
  LeavesAll nodes v (Err served) = IsAnswer value agents nodes v served

  -- turns of some of its agents, one after another
  pub record IsRound (old : List (Option SeenNode)) (answer : Result Bool Served) (new : List (Option SeenNode)) (after : SeenDesk)
      : Type 0 where
    pub same : AreSameAgents old new
    pub desk : IsDeskOf table agents after
    pub leaves : LeavesAll new after.view answer
