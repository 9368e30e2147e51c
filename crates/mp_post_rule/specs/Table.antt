-- The table of the posts, and the seats at it, as contracts see them.
use Rattle.std.specs.Prelude.{◌≡◌, ◌≢◌, ◌≤◌, ◌<◌, ◌+◌, ◌-◌, ◌*◌, ◌^◌, ℕ, suc, max, List, [], ◌∷◌, length, Some, None, All}
use Rattle.atomic_table.specs.Seated.{TableId}
use Rattle.crossbeam_utils.specs.Padded.{padded_value}
use Rattle.mp_messages.specs.declared.history.Entry.{Entry}
use Rattle.mp_stamps.specs.Lists.{clock}
use Rattle.mp_stamps.specs.Mail.{Mail}
use Rattle.mp_post_rule.specs.Kinds.{Seated}
use Rattle.mp_post_rule.specs.Queues.{IsSignable, waiting_for}
use Rattle.mp_post_rule.specs.Rule.{Home, kept_in}
use Rattle.mp_post_rule.specs.Views.{found, party_at}
use Rattle.mp_post_rule.specs.declared.kept.Kept.{Kept}
use Rattle.mp_post_rule.specs.declared.kept.Slot.{Slot}
use Rattle.mp_post_rule.specs.declared.view.Party.{Party}
use Rattle.mp_post_rule.specs.declared.view.View.{View}

-- a table is that of the posts of so many agents
pub record ArePosts (table : TableId) (agents : ℕ) : Type 0 where
  pub words : table.words ≡ 2 * agents
  pub slots : table.slots ≡ agents
  pub from_1 : 1 ≤ agents
  pub at_most : agents ≤ 16

-- a seat holds no turn and no slot
pub record IsFree (m : Seated) : Type 0 where
  pub no_turn : m.0.turn ≡ None
  pub no_slot : m.1 ≡ []

-- the slot of a post is in hand
pub record HasSlot (post : ℕ) (m : Seated) : Type 0 where
  pub home : Home
  pub hand : m.1 ≡ (post - 1, home) ∷ []

-- with what the post keeps in it
pub record HasValue (post : ℕ) (kept : Kept) (m : Seated) : Type 0 where
  pub home : Home
  pub hand : m.1 ≡ (post - 1, home) ∷ []
  pub has : kept_in home ≡ Some kept

-- a slot is in hand in place of what was there, and the view stayed
pub record IsLaid (post : ℕ) (slot : Slot) (m m' : Seated) : Type 0 where
  pub home : Home
  pub is : padded_value home ≡ slot
  pub hand : m'.1 ≡ (post - 1, home) ∷ []
  pub view : m'.0 ≡ m.0

-- the turn of a post is held, and what it keeps is noted
abbrev pub Holds : ℕ → Kept → View → Type 0
Holds post kept v = v.turn ≡ Some (found post kept)

-- a party may sign a batch: there are stamps left for it and one receipt, and the entries are the party's
pub record MaySign (agents by : ℕ) (batch : List Entry) (v : View) : Type 0 where
  pub party : Party
  pub held : party_at v by ≡ Some party
  pub stamps : clock party.list + length batch ≤ 2 ^ 64 - 2
  pub entries : All (IsSignable agents by) batch

-- a party may take the oldest message that waits for it at another's post
pub record MayReceive (by post : ℕ) (kept : Kept) (v : View) : Type 0 where
  pub party : Party
  pub held : party_at v by ≡ Some party
  pub message : Mail
  pub others : List Mail
  pub waits : waiting_for by kept ≡ message ∷ others
  pub stamp : suc (max (clock party.list) message.stamp) < 2 ^ 64
  pub other : post ≢ by
