-- What each kind of step tells the seat that steps.
use Rattle.std.specs.Prelude.{◌≡◌, ℕ, ◌+◌, ◌-◌, ◌/◌, ◌==◌, List, [], ◌∷◌, length, Some, IfSome, MatchBool}
use Rattle.std.specs.Option.{option_map_or}
use Rattle.atomic_table.specs.Table.{Me, Step, rest}
use Rattle.crossbeam_utils.specs.Padded.{padded_value}
use Rattle.mp_messages.specs.declared.history.Entry.{Entry}
use Rattle.mp_stamps.specs.Lists.{IsAgentOf, Matched}
use Rattle.mp_post_rule.specs.Rule.{Home, kept_in}
use Rattle.mp_post_rule.specs.Views.{SeenAreMarked, after_halt, after_receipt, after_release, after_signing, after_take, lists_of, party_at}
use Rattle.mp_post_rule.specs.declared.kept.Kept.{Kept}
use Rattle.mp_post_rule.specs.declared.view.Party.{Party}
use Rattle.mp_post_rule.specs.declared.view.View.{View}

-- a seat: its view, and the slots that are out with it
abbrev pub Seated : Type 0
Seated = Me Home View

-- who signs, and what, as the slot in hand says
abbrev pub by_in : List (ℕ × Home) → ℕ
by_in [] = 0
by_in (x ∷ xs) = (padded_value x.1).by

abbrev pub batch_in : List (ℕ × Home) → List Entry
batch_in [] = []
batch_in (x ∷ xs) = option_map_or (λ s. s.value) (padded_value x.1).signs []

-- the post of a turn word
abbrev pub post_of : ℕ → ℕ
post_of word = word / 2 + 1

-- the turn of a post is taken, and its slot is in hand; whom the post names as halted has a post as well
pub record IsTaken (post slots : ℕ) (m m' : Seated) : Type 0 where
  pub home : Home
  pub kept : Kept
  pub has : kept_in home ≡ Some kept
  pub view : m'.0 ≡ after_take post kept m.0
  pub hand : m'.1 ≡ (post - 1, home) ∷ m.1
  pub rows : length kept.waiting ≡ slots
  pub named : IfSome kept.halted (IsAgentOf slots)
  pub marks : SeenAreMarked m'.0

-- 1, 2. A try for a turn: where it was held nothing changed, and else it is taken.
abbrev pub tried : Step Home → Seated → ℕ → Seated → Type 0
tried st m n m' = MatchBool (n == 0) (IsTaken (post_of st.word) st.slots m m') (m' ≡ m)

-- 3. A batch is signed.
abbrev pub signed : Step Home → Seated → ℕ → Seated → Type 0
signed st m n m' = (m'.0 ≡ after_signing (by_in m.1) (batch_in m.1) m.0) × (m'.1 ≡ m.1)

-- 3. A party is halted.
abbrev pub halted : Step Home → Seated → ℕ → Seated → Type 0
halted st m n m' = (m'.0 ≡ after_halt (by_in m.1) m.0) × (m'.1 ≡ m.1)

-- 4. A receipt is signed.
abbrev pub received : Step Home → Seated → ℕ → Seated → Type 0
received st m n m' = (m'.0 ≡ after_receipt (by_in m.1) m.0) × (m'.1 ≡ m.1)

-- 5. A turn is released.
abbrev pub released : Step Home → Seated → ℕ → Seated → Type 0
released st m n m' = (m'.0 ≡ after_release m.0) × (m'.1 ≡ rest m.1) × SeenAreMarked m'.0

-- the seat holds all parties
pub record HoldsAll (agents : ℕ) (v : View) : Type 0 where
  pub many : length v.parties ≡ agents
  pub each : (agent : ℕ) → IsAgentOf agents agent → (p : Party) × (party_at v agent ≡ Some p)

-- Beside these a look, which changes nothing: of a seat that holds all parties, their lists fit each other.
abbrev pub looked : Step Home → Seated → ℕ → Seated → Type 0
looked st m n m' = (m' ≡ m) × (HoldsAll st.slots m.0 → Matched (lists_of m.0))
