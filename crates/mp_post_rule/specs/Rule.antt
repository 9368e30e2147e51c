-- The rule of the posts: what holds between any two steps. Post j has words 2j - 2, its turn, and 2j - 1, its
-- count, and slot j - 1.
use Rattle.std.specs.Prelude.{◌≡◌, ◌≤◌, ℕ, zero, suc, ◌+◌, ◌-◌, ◌*◌, ◌^◌, ◌%◌, ◌==◌, Bool, true, false, List, length, Option, Some, None, slice_index, All}
use Rattle.std.specs.List.{filter}
use mathlib.Core.Option.{none, some}
use lib.ListN.{get_elem?}
use Rattle.atomic_table.specs.Table.{State}
use Rattle.crossbeam_utils.specs.Padded.{padded_value}
use Rattle.crossbeam_utils.specs.declared.cache_padded.CachePadded.{CachePadded}
use Rattle.mp_messages.specs.declared.history.Entry.{Entry}
use Rattle.mp_messages.specs.declared.history.Entry.TheVariants.{Act, Put, Took}
use Rattle.mp_stamps.specs.Lists.{HasTaken, IsAgentOf, IsOwn, Rises, puts, receipts}
use Rattle.mp_stamps.specs.declared.stamped.Stamped.{Stamped}
use Rattle.mp_post_rule.specs.Queues.{waiting_for}
use Rattle.mp_post_rule.specs.Views.{party_at}
use Rattle.mp_post_rule.specs.declared.kept.Kept.{Kept}
use Rattle.mp_post_rule.specs.declared.kept.Slot.{Slot}
use Rattle.mp_post_rule.specs.declared.view.Found.{Found}
use Rattle.mp_post_rule.specs.declared.view.Party.{Party}
use Rattle.mp_post_rule.specs.declared.view.View.{View}

abbrev pub Home : Type 0
Home = CachePadded Slot

abbrev pub kept_in : Home → Option Kept
kept_in home = (padded_value home).kept

-- what seats and slots stand for: each agent's list and whether it was halted, and each post's value
pub record Network : Type 0 where
  pub lists : ℕ → List Stamped
  pub halted : ℕ → Bool
  pub posts : ℕ → Kept

-- the seat that has a post's turn, and the seat that holds a party
pub record Holders : Type 0 where
  pub turn : ℕ → Option ℕ
  pub party : ℕ → ℕ

abbrev pub turn_word : Option ℕ → ℕ
turn_word None = 0
turn_word (Some seat) = 1

-- an entry that puts a message of an agent, or takes one from it
abbrev pub is_mail_of : ℕ → Entry → Bool
is_mail_of post (Act agent kind) = false
is_mail_of post (Put from to bytes) = from == post
is_mail_of post (Took by from bytes) = from == post

abbrev pub mail_in : ℕ → List Stamped → ℕ
mail_in post list = length (filter (λ s. is_mail_of post s.entry) list)

-- how many there are in the lists of the first so many agents
abbrev pub mail_at : (ℕ → List Stamped) → ℕ → ℕ → ℕ
mail_at lists post zero = 0
mail_at lists post (suc agents) = mail_at lists post agents + mail_in post (lists (suc agents))

-- the greatest stamp that an entry may have: a receipt has one to spare, to pass that of its message
abbrev pub greatest_stamp : Entry → ℕ
greatest_stamp (Act agent kind) = 2 ^ 64 - 2
greatest_stamp (Put from to bytes) = 2 ^ 64 - 2
greatest_stamp (Took by from bytes) = 2 ^ 64 - 1

module _ (agents : ℕ) (s : State Home View) (net : Network) (by : Holders) where
  -- 1. A turn word is 0 or 1, and 1 exactly where one seat notes that turn.
  pub record TurnsAreNoted : Type 0 where
    pub words : (post : ℕ) → IsAgentOf agents post
        → slice_index s.words (2 * post - 2) ≡ turn_word (by.turn post)
    pub noted : (seat : ℕ) (v : View) (f : Found) → get_elem? s.views seat ≡ some v → v.turn ≡ Some f
        → IsAgentOf agents f.post × (by.turn f.post ≡ Some seat)
    pub held : (post seat : ℕ) → IsAgentOf agents post → by.turn post ≡ Some seat
        → (v : View) × (f : Found) × (get_elem? s.views seat ≡ some v) × (v.turn ≡ Some f) × (f.post ≡ post)

  -- 2. A post's value is in its slot while its turn is free, and is what the holder of the turn notes otherwise.
  pub record ValuesAreKept : Type 0 where
    pub free : (post : ℕ) → IsAgentOf agents post → by.turn post ≡ None
        → (home : Home) × (get_elem? s.homes (post - 1) ≡ some (some home)) × (kept_in home ≡ Some (net.posts post))
    pub out : (post seat : ℕ) → IsAgentOf agents post → by.turn post ≡ Some seat
        → get_elem? s.homes (post - 1) ≡ some none
    pub noted : (seat : ℕ) (v : View) (f : Found) → get_elem? s.views seat ≡ some v → v.turn ≡ Some f
        → f.kept ≡ net.posts f.post

  -- 4. A count word is the number of messages that its agent put, and of those that were taken from it, up to
  -- multiples of 2^64.
  abbrev pub CountsAreRight : Type 0
  CountsAreRight = (post : ℕ) → IsAgentOf agents post
      → slice_index s.words (2 * post - 1) ≡ mail_at net.lists post agents % 2 ^ 64

  -- 5. Each agent is the party of one seat, which has its list and its mark.
  pub record PartiesAreHeld : Type 0 where
    pub noted : (seat agent : ℕ) (v : View) (p : Party)
        → get_elem? s.views seat ≡ some v → party_at v agent ≡ Some p
        → IsAgentOf agents agent × (by.party agent ≡ seat)
        × (p.list ≡ net.lists agent) × (p.halted ≡ net.halted agent)
    pub held : (agent : ℕ) → IsAgentOf agents agent
        → (v : View) × (p : Party) × (get_elem? s.views (by.party agent) ≡ some v) × (party_at v agent ≡ Some p)

  -- 6. Whom a seat has seen halted is marked.
  abbrev pub SeenAreHalted : Type 0
  SeenAreHalted = (seat : ℕ) (v : View) → get_elem? s.views seat ≡ some v
      → All (λ agent. net.halted agent ≡ true) v.seen

module _ (agents : ℕ) (net : Network) where
  -- 3. Between each two the first messages were taken, in order, and the others wait at the sender's post.
  abbrev pub MailIsInOrder : Type 0
  MailIsInOrder = (from to : ℕ) → IsAgentOf agents from → IsAgentOf agents to
      → HasTaken (puts from to (net.lists from)) (receipts from to (net.lists to)) (waiting_for to (net.posts from))

  -- 5. A list has its agent's own entries, with stamps that rise and are bounded.
  pub record ListsAreOwn : Type 0 where
    pub own : (agent : ℕ) → IsAgentOf agents agent → All (λ s. IsOwn agents agent s.entry) (net.lists agent)
    pub rise : (agent : ℕ) → IsAgentOf agents agent → Rises (net.lists agent)
    pub bound : (agent : ℕ) → IsAgentOf agents agent
        → All (λ s. s.stamp ≤ greatest_stamp s.entry) (net.lists agent)

  -- 6. Whom a post names as halted is an agent of the team, and marked.
  abbrev pub NamedAreHalted : Type 0
  NamedAreHalted = (post agent : ℕ) → IsAgentOf agents post
      → (net.posts post).halted ≡ Some agent → IsAgentOf agents agent × (net.halted agent ≡ true)

  -- the points that speak of lists and posts alone; a post has a queue for each agent
  pub record IsSound : Type 0 where
    pub pairs : MailIsInOrder
    pub lists : ListsAreOwn
    pub named : NamedAreHalted
    pub rows : (post : ℕ) → IsAgentOf agents post → length (net.posts post).waiting ≡ agents

-- The rule.
pub record IsKept (agents : ℕ) (s : State Home View) : Type 0 where
  pub words_are : length s.words ≡ 2 * agents
  pub homes_are : length s.homes ≡ agents
  pub net : Network
  pub by : Holders
  pub turns : TurnsAreNoted agents s net by
  pub values : ValuesAreKept agents s net by
  pub counts : CountsAreRight agents s net by
  pub parties : PartiesAreHeld agents s net by
  pub seen : SeenAreHalted agents s net by
  pub sound : IsSound agents net
