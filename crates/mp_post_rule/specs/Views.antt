-- What seats know, and how their own steps change it.
use Rattle.std.specs.Prelude.{◌≡◌, ℕ, zero, suc, ◌+◌, ◌-◌, max, true, false, List, [], ◌∷◌, ◌++◌, map, replicate, slice_index_or, slice_set, Option, Some, None, All, IfSome}
use Rattle.std.specs.Option.{option_map}
use Rattle.mp_messages.specs.declared.history.Entry.{Entry}
use Rattle.mp_messages.specs.declared.history.Entry.TheVariants.{Took}
use Rattle.mp_stamps.specs.Lists.{clock}
use Rattle.mp_stamps.specs.Mail.{Mail}
use Rattle.mp_stamps.specs.declared.stamped.Stamped.{Stamped}
use Rattle.mp_post_rule.specs.Queues.{stamped_after, waiting_for, with_halted, with_puts, without_oldest}
use Rattle.mp_post_rule.specs.declared.kept.Kept.{Kept}
use Rattle.mp_post_rule.specs.declared.view.Found.{Found}
use Rattle.mp_post_rule.specs.declared.view.Party.{Party}
use Rattle.mp_post_rule.specs.declared.view.View.{View}

-- the party of an agent, numbered from 1, where the seat holds it
abbrev pub party_in : List (Option Party) → ℕ → Option Party
party_in parties zero = None
party_in parties (suc place) = slice_index_or parties place None

abbrev pub party_at : View → ℕ → Option Party
party_at v agent = party_in v.parties agent

abbrev pub list_in : Option Party → List Stamped
list_in None = []
list_in (Some party) = party.list

abbrev pub list_at : View → ℕ → List Stamped
list_at v agent = list_in (party_at v agent)

-- all lists, an empty one for each agent that another seat holds
abbrev pub lists_of : View → List (List Stamped)
lists_of v = map list_in v.parties

-- a party that was seen halted is marked, where the seat holds it
abbrev pub SeenAreMarked : View → Type 0
SeenAreMarked v = All (λ agent. IfSome (party_at v agent) (λ p. p.halted ≡ true)) v.seen

abbrev pub found : ℕ → Kept → Found
found post kept = record { post = post; kept = kept }

abbrev pub with_seen : Option ℕ → List ℕ → List ℕ
with_seen None seen = seen
with_seen (Some agent) seen = agent ∷ seen

-- at the start one seat holds all parties, nobody was halted and nothing waits
abbrev pub no_mail : ℕ → Kept
no_mail agents = record { waiting = replicate agents []; halted = None }

abbrev pub new_party : Party
new_party = record { list = []; halted = false }

abbrev pub first_view : ℕ → View
first_view agents = record {
  parties = replicate agents (Some new_party);
  seen = [];
  turns = 0;
  last = None;
  turn = None;
}

-- a turn was taken, at which the post kept this
abbrev pub after_take : ℕ → Kept → View → View
after_take post kept v = record v {
  seen = with_seen kept.halted v.seen;
  turns = v.turns + 1;
  last = Some (found post kept);
  turn = Some (found post kept);
}

abbrev pub after_release : View → View
after_release v = record v { turn = None }

abbrev pub with_value : (Kept → Kept) → Found → Found
with_value value f = record f { kept = value f.kept }

-- the holder of a turn changes one of its parties and the value of the post
abbrev pub changed : ℕ → (Party → Party) → (Kept → Kept) → View → View
changed agent own value v = record v {
  parties = slice_set v.parties (agent - 1) (option_map own (party_at v agent));
  turn = option_map (with_value value) v.turn;
}

-- a batch is signed, and its messages wait
abbrev pub with_batch : List Entry → Party → Party
with_batch batch p = record p { list = p.list ++ stamped_after (clock p.list) batch }

abbrev pub after_signing : ℕ → List Entry → View → View
after_signing by batch v =
    changed by (with_batch batch) (with_puts by (stamped_after (clock (list_at v by)) batch)) v

-- a party is halted
abbrev pub marked : Party → Party
marked p = record p { halted = true }

abbrev pub after_halt : ℕ → View → View
after_halt by v = changed by marked (with_halted by) v

-- the receipt of a message: its stamp passes those of the message and of the last entry
abbrev pub receipt : ℕ → ℕ → ℕ → Mail → Stamped
receipt last by from m = record { stamp = suc (max last m.stamp); entry = Took by from m.bytes }

-- the receipt of the first of these messages, if there is one
abbrev pub receipt_of : ℕ → ℕ → ℕ → List Mail → List Stamped
receipt_of last by from [] = []
receipt_of last by from (m ∷ ms) = receipt last by from m ∷ []

abbrev pub receipt_at : ℕ → ℕ → Option Found → List Stamped
receipt_at last by None = []
receipt_at last by (Some f) = receipt_of last by f.post (waiting_for by f.kept)

abbrev pub with_receipt : ℕ → Option Found → Party → Party
with_receipt by turn p = record p { list = p.list ++ receipt_at (clock p.list) by turn }

-- the oldest message that waits for an agent is taken
abbrev pub after_receipt : ℕ → View → View
after_receipt by v = changed by (with_receipt by v.turn) (without_oldest by) v

-- one party alone goes to a new seat, which has taken no turn
abbrev pub without : ℕ → View → View
without agent v = record v { parties = slice_set v.parties (agent - 1) None }

abbrev pub no_party : Option Party → Option Party
no_party p = None

abbrev pub alone : ℕ → View → View
alone agent v = record {
  parties = slice_set (map no_party v.parties) (agent - 1) (party_at v agent);
  seen = v.seen;
  turns = 0;
  last = None;
  turn = None;
}

-- a seat takes over the parties of another, and what that has seen; the other holds none any more
abbrev pub either_party : Option Party → Option Party → Option Party
either_party (Some p) q = Some p
either_party None q = q

abbrev pub either_each : List (Option Party) → List (Option Party) → List (Option Party)
either_each [] qs = qs
either_each (p ∷ ps) [] = p ∷ ps
either_each (p ∷ ps) (q ∷ qs) = either_party p q ∷ either_each ps qs

abbrev pub together : View → View → View
together v w = record v { parties = either_each v.parties w.parties; seen = v.seen ++ w.seen }

abbrev pub spent : View
spent = record { parties = []; seen = []; turns = 0; last = None; turn = None }
