-- Messages as bytes: what may be sent, and the one spelling of it. The form is this program's own.
use Rattle.std.specs.Prelude.{◌≡◌, ℕ, ◌+◌, ◌<◌, ◌^◌, ◌↔◌, Bool, true, false, List, [], ◌∷◌, ◌++◌, length, All, Option, Some, None, IfSome}
use Rattle.std.specs.Int.{w32, w64, to_be_bytes}
use Rattle.std.specs.List.{flat_map}
use Rattle.std.specs.List.Sorted.{IsStrictlyIncreasing}
use Rattle.mp_sets.specs.declared.tag.Tag.{Tag}
use Rattle.mp_messages.specs.declared.message.State.{State}
use Rattle.mp_messages.specs.declared.message.Findings.{Findings}
use Rattle.mp_messages.specs.declared.message.EndKind.{EndKind}
use Rattle.mp_messages.specs.declared.message.EndKind.TheVariants.{NoPlan, Spent}
use Rattle.mp_messages.specs.declared.message.Message.{Message}
use Rattle.mp_messages.specs.declared.message.Message.TheVariants as kinds

-- eight bytes, the highest first
unfoldable pub number : ℕ → List ℕ
number n = to_be_bytes w64 n

-- four bytes, the highest first
unfoldable pub short_number : ℕ → List ℕ
short_number n = to_be_bytes w32 n

-- one byte
unfoldable pub flag : Bool → List ℕ
flag false = 0 ∷ []
flag true = 1 ∷ []

-- a byte 0 where there is none, and otherwise a byte 1 and the number
unfoldable pub optional : Option ℕ → List ℕ
optional None = 0 ∷ []
optional (Some n) = 1 ∷ number n

unfoldable pub ending : EndKind → List ℕ
ending NoPlan = 1 ∷ []
ending Spent = 2 ∷ []

unfoldable pub tag : Tag → List ℕ
tag t = number t.token ++ flag t.met

-- how many facts there are, and then each of them
unfoldable pub counted : List ℕ → List ℕ
counted facts = short_number (length facts) ++ flat_map short_number facts

unfoldable pub state : State → List ℕ
state s =
    number s.sent ++ (number s.g ++ (number s.h ++ (counted s.facts ++ flat_map tag s.tags)))

unfoldable pub findings : Findings → List ℕ
findings f =
    number f.number ++ (optional f.least ++ (optional f.under_way ++ (optional f.goal ++ flag f.spent)))

-- A byte for the kind, and then its fields.
unfoldable pub spelling : Message → List ℕ
spelling (kinds.State s) = 1 ∷ state s
spelling (kinds.Marker n) = 2 ∷ number n
spelling (kinds.Report f) = 3 ∷ findings f
spelling (kinds.Pick n) = 4 ∷ number n
spelling (kinds.Trace sent back) = 5 ∷ (number sent ++ number back)
spelling (kinds.Length n) = 6 ∷ number n
spelling (kinds.Done e) = 7 ∷ ending e

-- every number that is spelled with eight bytes is below this one
abbrev pub limit : ℕ
limit = 2 ^ 60

pub record AreStateNumbers (s : State) : Type 0 where
  pub sent : s.sent < limit
  pub f : s.g + s.h < limit
  pub tokens : All (λ t. t.token < limit) s.tags

pub record AreFindings (f : Findings) : Type 0 where
  pub number : f.number < limit
  pub least : IfSome f.least (λ n. n < limit)
  pub under_way : IfSome f.under_way (λ n. n < limit)
  pub goal : IfSome f.goal (λ n. n < limit)

-- the numbers of a message are below the limit, and so is the sum of a state's cost and heuristic value
abbrev pub AreNumbers : Message → Type 0
AreNumbers (kinds.State s) = AreStateNumbers s
AreNumbers (kinds.Marker n) = n < limit
AreNumbers (kinds.Report f) = AreFindings f
AreNumbers (kinds.Pick n) = n < limit
AreNumbers (kinds.Trace sent back) = (sent < limit) × (back < limit)
AreNumbers (kinds.Length n) = n < limit
AreNumbers (kinds.Done e) = Unit {0}

-- what holds of a state, where a message is one
abbrev pub IfState : (State → Type 0) → Message → Type 0
IfState Holds (kinds.State s) = Holds s
IfState Holds (kinds.Marker n) = Unit {0}
IfState Holds (kinds.Report f) = Unit {0}
IfState Holds (kinds.Pick n) = Unit {0}
IfState Holds (kinds.Trace sent back) = Unit {0}
IfState Holds (kinds.Length n) = Unit {0}
IfState Holds (kinds.Done e) = Unit {0}

-- all facts of a state are below a number
abbrev pub FactsBelow : ℕ → Message → Type 0
FactsBelow publics = IfState (λ s. All (λ x. x < publics) s.facts)

-- the facts of a state rise
abbrev pub FactsRise : Message → Type 0
FactsRise = IfState (λ s. IsStrictlyIncreasing s.facts)

-- a state has one tag for each agent
abbrev pub HasTags : ℕ → Message → Type 0
HasTags agents = IfState (λ s. length s.tags ≡ agents)

-- what a team of so many agents with so many public facts may send
pub record Fits (agents publics : ℕ) (m : Message) : Type 0 where
  pub numbers : AreNumbers m
  pub facts : FactsBelow publics m
  pub rising : FactsRise m
  pub tags : HasTags agents m

-- these bytes spell this message, for a team of so many agents with so many public facts
pub record IsSpelling (agents publics : ℕ) (m : Message) (bytes : List ℕ) : Type 0 where
  pub fits : Fits agents publics m
  pub is : bytes ≡ spelling m

-- The message that bytes spell, and none where they spell none. In a team with so many public facts that four bytes
-- have no room for their numbers there is none.
pub record SpelledMessage (agents publics : ℕ) (bytes : List ℕ) : Type 0 where
  pub message : Option Message
  pub is : (m : Message) → (message ≡ Some m) ↔ ((publics < 2 ^ 32) × IsSpelling agents publics m bytes)
