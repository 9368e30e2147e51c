-- States that are read with no list of facts: what is told of them is the set of these.
use Rattle.std.specs.Prelude.{◌≡◌, ℕ, List, Option, Some, None}
use Rattle.std.specs.FinSet as set
use Rattle.mp_sets.specs.declared.tag.Tag.{Tag}
use Rattle.mp_sets.specs.Numbers.{Numbers}
use Rattle.mp_messages.specs.declared.message.State.{State}
use Rattle.mp_messages.specs.declared.message.StateNumbers.{StateNumbers}
use Rattle.mp_messages.specs.declared.message.Message.{Message}
use Rattle.mp_messages.specs.declared.message.Message.TheVariants as kinds
use Rattle.mp_messages.specs.Spelling.{IsSpelling}

-- the parts of a state, its facts as a set
pub record StateParts : Type 0 where
  pub sent : ℕ
  pub g : ℕ
  pub h : ℕ
  pub facts : Numbers
  pub tags : List Tag

abbrev pub parts_of : State → StateParts
parts_of s = record { sent = s.sent; g = s.g; h = s.h; facts = set.from_list s.facts; tags = s.tags }

-- parts that were read one by one
abbrev pub parts : StateNumbers → Numbers → List Tag → StateParts
parts n facts tags = record { sent = n.sent; g = n.g; h = n.h; facts = facts; tags = tags }

-- What was found is the state that bytes spell, by its parts; nothing was found exactly where they spell no state.
abbrev pub IsStateReading : ℕ → ℕ → List ℕ → Option StateParts → Type 0
IsStateReading agents publics bytes None = (s : State) → IsSpelling agents publics (kinds.State s) bytes → ⊥
IsStateReading agents publics bytes (Some p) = (s : State) × IsSpelling agents publics (kinds.State s) bytes × (p ≡ parts_of s)

-- the state, where a message is one
abbrev pub state_in : Message → Option State
state_in (kinds.State s) = Some s
state_in (kinds.Marker n) = None
state_in (kinds.Report f) = None
state_in (kinds.Pick n) = None
state_in (kinds.Trace sent back) = None
state_in (kinds.Length n) = None
state_in (kinds.Done e) = None
