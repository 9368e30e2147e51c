-- What turns at posts do to what a seat knows.
use Rattle.std.specs.Prelude.{◌≡◌, ◌≤◌, ◌+◌, ◌-◌, ◌^◌, ℕ, List, [], ◌∷◌, length, Option, Some, None}
use Rattle.mp_messages.specs.declared.history.Entry.{Entry}
use Rattle.mp_messages.specs.declared.history.Entry.TheVariants.{Took}
use Rattle.mp_stamps.specs.Lists.{IsAgentOf, clock}
use Rattle.mp_stamps.specs.Mail.{Mail}
use Rattle.mp_post_rule.specs.Queues.{waiting_for}
use Rattle.mp_post_rule.specs.Views.{SeenAreMarked, after_receipt, after_release, after_signing, after_take, list_at}
use Rattle.mp_post_rule.specs.declared.kept.Kept.{Kept}
use Rattle.mp_post_rule.specs.declared.view.View.{View}
use Rattle.mp_post.specs.declared.refusal.TurnRefusal.{TurnRefusal}
use Rattle.mp_post.specs.declared.refusal.TurnRefusal.TheVariants.{Halted, OutOfMemory}

-- a turn at which nothing was signed
abbrev pub after_turn : ℕ → Kept → View → View
after_turn post kept v = after_release (after_take post kept v)

-- a turn at a party's own post, at which its batch was signed in one step
abbrev pub after_batch : ℕ → Kept → List Entry → View → View
after_batch by kept batch v = after_release (after_signing by batch (after_take by kept v))

-- a turn at a sender's post, at which the receipt of the oldest message was signed
abbrev pub after_taking : ℕ → ℕ → Kept → View → View
after_taking by from kept v = after_release (after_receipt by (after_take from kept v))

module _ (by : ℕ) (v w : View) where
  -- nobody was halted at the party's post, and the batch was signed
  pub record HasSigned (batch : List Entry) : Type 0 where
    pub kept : Kept
    pub nobody : kept.halted ≡ None
    pub stamps : clock (list_at v by) + length batch ≤ 2 ^ 64 - 2
    pub view : w ≡ after_batch by kept batch v
    pub marks : SeenAreMarked w

  -- this one of so many agents was halted at the party's post, and nothing was signed
  pub record HasFoundHalted (agents agent : ℕ) : Type 0 where
    pub of_team : IsAgentOf agents agent
    pub kept : Kept
    pub names : kept.halted ≡ Some agent
    pub view : w ≡ after_turn by kept v
    pub marks : SeenAreMarked w

  -- nobody was halted at the party's post, and nothing was signed
  pub record HasSignedNothing : Type 0 where
    pub kept : Kept
    pub nobody : kept.halted ≡ None
    pub view : w ≡ after_turn by kept v
    pub marks : SeenAreMarked w

  -- the oldest message that waited at the sender's post was taken out, and its receipt signed
  pub record HasTakenOldest (from : ℕ) (bytes : List ℕ) : Type 0 where
    pub kept : Kept
    pub message : Mail
    pub others : List Mail
    pub waited : waiting_for by kept ≡ message ∷ others
    pub its_bytes : bytes ≡ message.bytes
    pub view : w ≡ after_taking by from kept v
    pub marks : SeenAreMarked w

  -- no message waited at the sender's post
  pub record HasFoundNone (from : ℕ) : Type 0 where
    pub kept : Kept
    pub none_waited : waiting_for by kept ≡ []
    pub view : w ≡ after_turn from kept v
    pub marks : SeenAreMarked w

-- what is handed over: where no sender was named nothing is done
abbrev pub HasHandedOver : ℕ → View → View → Option ℕ → Option (List ℕ) → Type 0
HasHandedOver by v w None handed = (handed ≡ None) × (w ≡ v)
HasHandedOver by v w (Some from) None = HasFoundNone by v w from
HasHandedOver by v w (Some from) (Some bytes) = HasTakenOldest by v w from bytes

-- the receipt of what is handed over, if anything is
abbrev pub receipts_of : ℕ → Option ℕ → Option (List ℕ) → List Entry
receipts_of by None handed = []
receipts_of by (Some from) None = []
receipts_of by (Some from) (Some bytes) = Took by from bytes ∷ []

-- a whole turn: the batch is signed, and then a message is taken where a sender was named
pub record HasTurned (by : ℕ) (batch : List Entry) (from : Option ℕ) (handed : Option (List ℕ)) (v w : View) : Type 0 where
  pub between : View
  pub first : HasSigned by v between batch
  pub second : HasHandedOver by between w from handed

-- a turn that signed nothing, at the posts of so many agents; its batch comes back
abbrev pub HasRefused : ℕ → ℕ → List Entry → View → View → TurnRefusal → Type 0
HasRefused agents by batch v w (OutOfMemory back) = (back ≡ batch) × HasSignedNothing by v w
HasRefused agents by batch v w (Halted agent back) = (back ≡ batch) × HasFoundHalted by v w agents agent
