-- Works, and what is answered of them.
use Rattle.std.specs.Prelude.{◌≡◌, ◌⊎◌, ⊤, ℕ, Bool, false, true, List, [], ◌∷◌, length, map, Option, Some, None, Result, Ok, Err, All}
use Rattle.atomic_table.specs.Seated.{TableId}
use Rattle.mp_machine.specs.Machine.{AgentMachine}
use Rattle.mp_world.specs.Values.{Values}
use Rattle.mp_nodes.specs.Nodes.{AreServed, IsNodeAt, SeenNode, have_ended, node_at}
use Rattle.mp_nodes.specs.Steps.{IsBadAt, IsSeenHalted}
use Rattle.mp_nodes.specs.declared.served.Served.{Served}
use Rattle.mp_nodes.specs.declared.served.Served.TheVariants as answers
use Rattle.mp_post.specs.Desks.{IsDeskOf}
use Rattle.mp_post_rule.specs.Views.{party_at}
use Rattle.mp_post_rule.specs.declared.view.View.{View}
use Rattle.mp_schedule.specs.Machines.{AreNew}
use Rattle.mp_team.specs.Kept.{AreKept, Places}
use Rattle.mp_team.specs.Machines.{first_places}
use Rattle.mp_team.specs.declared.work.Answered.{Answered}
use Rattle.mp_team.specs.declared.work.Work.{Work}

-- all agents of a work have ended
abbrev pub is_ended : Served → Bool
is_ended answers.Ended = true
is_ended (answers.Halted agent) = false
is_ended (answers.Bad agent) = false
is_ended (answers.OutOfMemory agent) = false

-- memory ran out for an agent of a work
abbrev pub lacks_memory : Served → Bool
lacks_memory answers.Ended = false
lacks_memory (answers.Halted agent) = false
lacks_memory (answers.Bad agent) = false
lacks_memory (answers.OutOfMemory agent) = true

-- an agent of a work found a message to be a bad one
abbrev pub is_bad : Served → Bool
is_bad answers.Ended = false
is_bad (answers.Halted agent) = false
is_bad (answers.Bad agent) = true
is_bad (answers.OutOfMemory agent) = false

-- of two answers the first, unless that says that all agents have ended
abbrev pub first_unended : Served → Served → Served
first_unended answers.Ended other = other
first_unended (answers.Halted agent) other = answers.Halted agent
first_unended (answers.Bad agent) other = answers.Bad agent
first_unended (answers.OutOfMemory agent) other = answers.OutOfMemory agent

-- The node of an agent goes on and fits its party, or it found a message to be a bad one. Where there is no node there is no
-- party.
abbrev pub IsAnsweredAt : Values → ℕ → ℕ → View → Option SeenNode → Type 0
IsAnsweredAt value agents agent v None = party_at v agent ≡ None
IsAnsweredAt value agents agent v (Some n) = IsNodeAt value agents agent v n ⊎ IsBadAt value agents agent v n

-- the nodes of some works
abbrev pub nodes_of : {H : Type 0} → List (Work H) → List Places
nodes_of works = map (λ w. w.nodes) works

abbrev pub parts_of : {H : Type 0} → Option (Work H) → List (Work H)
parts_of None = []
parts_of (Some w) = w ∷ []

module _ {H : Type 0} (value : Values) (table : TableId) (agents : ℕ) where
  -- a work is that of agents of a team: its desk is at their posts, and its nodes are those of the parties there
  pub record IsWork (w : Work H) : Type 0 where
    pub desk : IsDeskOf table agents w.desk
    pub served : AreServed value agents w.nodes w.desk.view

  -- some works have the agents of others
  pub record AreShared (old : List Places) (works : List (Work H)) : Type 0 where
    pub each : All IsWork works
    pub kept : AreKept old (nodes_of works)

  -- of each agent of some works one work has the node and the party now: the agent goes on, or found a message to be a bad one
  pub record AreHere (old : List Places) (w : Work H) : Type 0 where
    pub many : length w.nodes ≡ agents
    pub each : (agent : ℕ) → IsAnsweredAt value agents agent w.desk.view (node_at w.nodes agent)
    pub kept : AreKept old (w.nodes ∷ [])

  -- what was found out of the agents of a work, where this was answered of it
  abbrev pub IsFoundOut : Work H → Served → Type 0
  IsFoundOut w answers.Ended = have_ended w.nodes ≡ true
  IsFoundOut w (answers.Halted agent) = IsSeenHalted agents agent w.desk.view
  IsFoundOut w (answers.Bad agent) = (n : SeenNode) × (node_at w.nodes agent ≡ Some n) × IsBadAt value agents agent w.desk.view n
  IsFoundOut w (answers.OutOfMemory agent) = ⊤

  -- some works were served, and are one now, unless memory ran out
  pub record AreAnswered (old : List Places) (a : Answered H) : Type 0 where
    pub desk : IsDeskOf table agents a.work.desk
    pub here : lacks_memory a.served ≡ false → AreHere old a.work
    pub found_out : IsFoundOut a.work a.served

  -- a worker served a work, or gives it back as it was
  abbrev pub IsBack : Work H → Result (Answered H) (Work H) → Type 0
  IsBack old (Ok a) = AreAnswered (old.nodes ∷ []) a
  IsBack old (Err w) = w ≡ old

  -- all agents of a team, which began with these machines, were served
  pub record AreAllAnswered (machines : List AgentMachine) (a : Answered H) : Type 0 where
    pub new : AreNew value machines
    pub count : agents ≡ length machines
    pub answered : AreAnswered (first_places machines ∷ []) a
