-- Lists of what agents did, stamped as by Lamport (1978, "Time, Clocks, and the Ordering of Events in a
-- Distributed System"): stamps rise along a list, and a receipt has a greater stamp than its message.
use Rattle.std.specs.Prelude.{◌≡◌, ◌<◌, ◌≤◌, ◌≢◌, ◌-◌, ℕ, List, [], ◌∷◌, ◌++◌, map, length, slice_index_or, Option, Some, None, All}
use Rattle.std.specs.List.{AllPairs, filter_map}
use Rattle.mp_messages.specs.declared.history.Entry.{Entry}
use Rattle.mp_messages.specs.declared.history.Entry.TheVariants.{Act, Put, Took}
use Rattle.mp_messages.specs.History.{put_between, taken_between}
use Rattle.mp_stamps.specs.Mail.{Mail}
use Rattle.mp_stamps.specs.declared.stamped.Stamped.{Stamped}

-- one of so many agents
pub record IsAgentOf (agents agent : ℕ) : Type 0 where
  pub from_1 : 1 ≤ agent
  pub at_most : agent ≤ agents

pub record IsOther (agents agent other : ℕ) : Type 0 where
  pub of_team : IsAgentOf agents other
  pub differs : other ≢ agent

-- an agent's own entry: what it did, a message to another agent, or one from another
abbrev pub IsOwn : ℕ → ℕ → Entry → Type 0
IsOwn agents agent (Act by kind) = by ≡ agent
IsOwn agents agent (Put from to bytes) = (from ≡ agent) × IsOther agents agent to
IsOwn agents agent (Took by from bytes) = (by ≡ agent) × IsOther agents agent from

-- each stamp is less than all later ones
abbrev pub Rises : List Stamped → Type 0
Rises list = AllPairs (λ a b. a.stamp < b.stamp) list

-- the stamp of the last entry, 0 where there is none
abbrev pub last_stamp : ℕ → List Stamped → ℕ
last_stamp so_far [] = so_far
last_stamp so_far (s ∷ ss) = last_stamp s.stamp ss

abbrev pub clock : List Stamped → ℕ
clock list = last_stamp 0 list

-- the entries without their stamps
abbrev pub entries : List Stamped → List Entry
entries list = map (λ s. s.entry) list

abbrev pub mail_of : ℕ → Option (List ℕ) → Option Mail
mail_of stamp None = None
mail_of stamp (Some bytes) = Some (record { stamp = stamp; bytes = bytes })

-- what one agent put for another, and what one took from another, in order
abbrev pub puts : ℕ → ℕ → List Stamped → List Mail
puts from to list = filter_map (λ s. mail_of s.stamp (put_between from to s.entry)) list

abbrev pub receipts : ℕ → ℕ → List Stamped → List Mail
receipts from to list = filter_map (λ s. mail_of s.stamp (taken_between from to s.entry)) list

-- each receipt has the bytes of its message and a greater stamp
pub data AreTaken : List Mail → List Mail → Type 0 where
  none : AreTaken [] []
  more :
      (message receipt : Mail) (messages others : List Mail)
      → message.bytes ≡ receipt.bytes → message.stamp < receipt.stamp
      → AreTaken messages others
      → AreTaken (message ∷ messages) (receipt ∷ others)

-- the first messages were taken, in order, and the others wait
pub record HasTaken (put taken waiting : List Mail) : Type 0 where
  pub gone : List Mail
  pub split : put ≡ gone ++ waiting
  pub were_taken : AreTaken gone taken

-- the list of an agent
abbrev pub list_of : List (List Stamped) → ℕ → List Stamped
list_of lists agent = slice_index_or lists (agent - 1) []

-- the lists of a team fit each other: stamps rise, each entry is its agent's own, and between each two
-- agents the receipts are of the first messages, in order
pub record Matched (lists : List (List Stamped)) : Type 0 where
  pub rise : (agent : ℕ) → IsAgentOf (length lists) agent → Rises (list_of lists agent)
  pub own : (agent : ℕ) → IsAgentOf (length lists) agent
      → All (λ s. IsOwn (length lists) agent s.entry) (list_of lists agent)
  pub taken : (from to : ℕ) → IsAgentOf (length lists) from → IsAgentOf (length lists) to
      → (waiting : List Mail)
      × HasTaken (puts from to (list_of lists from)) (receipts from to (list_of lists to)) waiting
