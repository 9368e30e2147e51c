-- The steps of a node: what its machine does, and what is then unsigned.
use Rattle.std.specs.Prelude.{◌≡◌, ◌≢◌, ℕ, false, true, List, [], ◌∷◌, ◌++◌, map, Option, Some, None, Result, Ok, Err, Contains, IfSome}
use Rattle.mp_messages.specs.declared.history.Entry.{Entry}
use Rattle.mp_messages.specs.declared.history.Entry.TheVariants.{Act, Took}
use Rattle.mp_messages.specs.declared.history.Kind.{Kind}
use Rattle.mp_messages.specs.declared.history.Kind.TheVariants as kinds
use Rattle.mp_machine.specs.LocalStep.{local, may}
use Rattle.mp_machine.specs.Machine.{answered}
use Rattle.mp_machine.specs.declared.event.Local.{Local}
use Rattle.mp_machine.specs.declared.event.Local.TheVariants as locals
use Rattle.mp_machine.specs.declared.outgoing.Out.{Out}
use Rattle.mp_machine.specs.declared.refusal.BadKind.{BadKind}
use Rattle.mp_machine.specs.declared.refusal.StepRefusal.{StepRefusal}
use Rattle.mp_machine.specs.declared.refusal.StepRefusal.TheVariants.{NotNow, Bad, OutOfMemory}
use Rattle.mp_world.specs.Logs.{put_by}
use Rattle.mp_world.specs.Values.{Values}
use Rattle.mp_stamps.specs.Lists.{IsAgentOf, entries}
use Rattle.mp_post_rule.specs.Views.{party_at}
use Rattle.mp_post_rule.specs.declared.view.Party.{Party}
use Rattle.mp_post_rule.specs.declared.view.View.{View}
use Rattle.atomic_table.specs.Seated.{TableId}
use Rattle.mp_post.specs.Desks.{HoldsParty, IsDeskOf, SeenDesk}
use Rattle.mp_post.specs.declared.refusal.TurnRefusal.{TurnRefusal}
use Rattle.mp_post.specs.declared.refusal.TurnRefusal.TheVariants as turns
use Rattle.mp_nodes.specs.Nodes.{HasDoneAll, IsNodeAt, SeenNode, orders}
use Rattle.mp_nodes.specs.declared.served.Stop.{Stop}
use Rattle.mp_nodes.specs.declared.served.Stop.TheVariants as stops

-- what an agent does by itself, as its machine sees it
abbrev pub local_of : Kind → Local
local_of kinds.Expand = locals.Expand
local_of kinds.Start = locals.Start

module _ (value : Values) (me : ℕ) (old new : SeenNode) where
  -- the agent did something by itself, and its messages are unsigned
  pub record HasActed (kind : Kind) : Type 0 where
    pub outs : List Out
    pub answer : (Ok outs, new.machine) ≡ answered (value old.machine.done.task) old.machine (local_of kind) []
    pub unsigned : new.batch ≡ old.batch ++ Act me kind ∷ map (put_by me) outs

  -- it took a message of another agent, whose receipt is signed, and its messages are unsigned
  pub record HasReceived (from : ℕ) (bytes : List ℕ) : Type 0 where
    pub outs : List Out
    pub answer : (Ok outs, new.machine) ≡ answered (value old.machine.done.task) old.machine (locals.Take from) bytes
    pub unsigned : new.batch ≡ old.batch ++ map (put_by me) outs

  -- it found the message to be a bad one
  pub record HasRefused (from : ℕ) (bytes : List ℕ) : Type 0 where
    pub kind : BadKind
    pub answer :
        (Err (Bad kind), new.machine) ≡ answered (value old.machine.done.task) old.machine (locals.Take from) bytes
    pub unsigned : new.batch ≡ old.batch

  -- why the message was not taken: it is a bad one, or memory ran out
  abbrev pub MayRefuse : ℕ → List ℕ → StepRefusal → Type 0
  MayRefuse from bytes NotNow = ⊥
  MayRefuse from bytes (Bad kind) = HasRefused from bytes
  MayRefuse from bytes OutOfMemory = Unit {0}

module _ (value : Values) (agents agent : ℕ) where
  -- A message of another agent was handed over, and its receipt is the last entry of the party's list; the node's machine has
  -- done what stands before it. Nothing is unsigned.
  pub record IsHanded (from : ℕ) (bytes : List ℕ) (party : Party) (n : SeenNode) : Type 0 where
    pub of_team : IsAgentOf agents agent
    pub me : n.machine.done.task.me ≡ agent
    pub team : n.machine.done.task.agents ≡ agents
    pub unmarked : party.halted ≡ false
    pub free : n.machine.stopped ≡ None
    pub before : List Entry
    pub list : entries party.list ≡ before ++ Took agent from bytes ∷ []
    pub done : HasDoneAll value n.machine.done.task n.machine.done.limit before n.machine.done
    pub batch : n.batch ≡ []

  pub record IsHandedAt (from : ℕ) (bytes : List ℕ) (v : View) (n : SeenNode) : Type 0 where
    pub party : Party
    pub held : party_at v agent ≡ Some party
    pub handed : IsHanded from bytes party n

  -- The machine found the last message of the party's list to be a bad one, after it had done what stands before it. The party is
  -- halted, and nothing is unsigned.
  pub record IsBad (party : Party) (n : SeenNode) : Type 0 where
    pub of_team : IsAgentOf agents agent
    pub me : n.machine.done.task.me ≡ agent
    pub team : n.machine.done.task.agents ≡ agents
    pub from : ℕ
    pub bytes : List ℕ
    pub kind : BadKind
    pub before : List Entry
    pub list : entries party.list ≡ before ++ Took agent from bytes ∷ []
    pub done : HasDoneAll value n.machine.done.task n.machine.done.limit before n.machine.done
    pub may : may n.machine.done (locals.Take from) ≡ true
    pub bad : local (value n.machine.done.task) n.machine.done (locals.Take from) bytes ≡ Err kind
    pub stopped : n.machine.stopped ≡ Some (Bad kind)
    pub batch : n.batch ≡ []

  pub record IsBadAt (v : View) (n : SeenNode) : Type 0 where
    pub party : Party
    pub held : party_at v agent ≡ Some party
    pub is_bad : IsBad party n

-- the same agent, with the same task and limit
abbrev pub IsSameAgent : SeenNode → SeenNode → Type 0
IsSameAgent old new = orders new ≡ orders old

abbrev pub me_of : SeenNode → ℕ
me_of n = n.machine.done.task.me

-- why a turn signed nothing, and what is unsigned again
abbrev pub IsTakenBack : TurnRefusal → SeenNode → SeenNode → Stop → Type 0
IsTakenBack (turns.OutOfMemory batch) old new stop = (new ≡ record old { batch = batch }) × (stop ≡ stops.OutOfMemory)
IsTakenBack (turns.Halted agent batch) old new stop = (new ≡ record old { batch = batch }) × (stop ≡ stops.Halted agent)

-- an agent was seen halted: its party is marked, where the desk holds it
pub record IsSeenHalted (agents agent : ℕ) (v : View) : Type 0 where
  pub of_team : IsAgentOf agents agent
  pub seen : Contains v.seen agent
  pub marked : IfSome (party_at v agent) (λ p. p.halted ≡ true)

module _ (value : Values) (table : TableId) (agents : ℕ) where
  -- a desk is at the posts of a team, and holds the party of an agent, which its node fits
  pub record IsReady (n : SeenNode) (d : SeenDesk) : Type 0 where
    pub desk : IsDeskOf table agents d
    pub node : IsNodeAt value agents (me_of n) d.view n

  -- what a turn hands over: where a message was, its receipt is signed; else the node fits its party again
  abbrev pub HasHanded : Option ℕ → Option (List ℕ) → SeenNode → SeenDesk → Type 0
  HasHanded None handed n d = IsNodeAt value agents (me_of n) d.view n
  HasHanded (Some from) None n d = IsNodeAt value agents (me_of n) d.view n
  HasHanded (Some from) (Some bytes) n d = IsHandedAt value agents (me_of n) from bytes d.view n

  -- why a node does not go on
  abbrev pub Stops : SeenNode → SeenDesk → Stop → Type 0
  Stops n d (stops.Halted agent) = IsNodeAt value agents (me_of n) d.view n × IsSeenHalted agents agent d.view
  Stops n d stops.Bad = IsBadAt value agents (me_of n) d.view n
  Stops n d stops.OutOfMemory = HoldsParty (me_of n) d.view

  -- the node fits its party again, or does not go on
  abbrev pub Leaves : {A : Type 0} → SeenNode → SeenDesk → Result A Stop → Type 0
  Leaves n d (Ok did) = IsNodeAt value agents (me_of n) d.view n
  Leaves n d (Err stop) = Stops n d stop

  -- A part of a node's turn: the parties of other agents are as they were.
  pub record GoesOn {A : Type 0} (old : SeenNode) (before : SeenDesk) (answer : Result A Stop) (new : SeenNode) (after : SeenDesk)
      : Type 0 where
    pub same : IsSameAgent old new
    pub others : (agent : ℕ) → agent ≢ me_of old → party_at after.view agent ≡ party_at before.view agent
    pub desk : IsDeskOf table agents after
    pub leaves : Leaves new after answer
