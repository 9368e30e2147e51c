-- The markers, the reports and the ends that go out are read as themselves, and no other message is read as one.
use Rattle.mp_world.proofs.Basics.{◌≡◌, ℕ, ◌<◌, ◌^◌, Bool, true, false, List, [], ◌∷◌, map, Option, Some, None, refl, sym, ap, ◌∙◌, not, ◌==◌, ◌||◌, All, cons_option, filter_map, option_and_then, All-head, All-tail}
use Rattle.mp_messages.specs.declared.message.Message.TheVariants.{State as AState}
use Rattle.mp_search.proofs.Spelled.{fitting_is_message, kind, same_kind}
use Rattle.mp_world.specs.AgentWords.{Message, Marker, Report, Pick, Trace, Length, Done, State, message_of, Fits, spelling, Outgoing, in_bytes}
use Rattle.mp_world.specs.Steps.{sent_to}
use Rattle.mp_team_snapshots.specs.Team.{HasRoom}
use Rattle.mp_team_snapshots.proofs.Sendings.{messages_to}

-- what a message in front is read as
pub read_first : (agents publics : ℕ) (bytes : List ℕ) (rest : List (List ℕ)) (m : Message) → message_of agents publics bytes ≡ Some m
    → filter_map (message_of agents publics) (bytes ∷ rest) ≡ m ∷ filter_map (message_of agents publics) rest
read_first agents publics bytes rest m read = rw read refl

-- a part of messages that states and messages of a walk back do not have
pub record IsPart {X : Type 0} (part : Message → Option X) : Type 0 where
  pub state : (s : State) → part (AState s) ≡ None
  pub pick : (number : ℕ) → part (Pick number) ≡ None
  pub trace : (sent back : ℕ) → part (Trace sent back) ≡ None
  pub length : (plan : ℕ) → part (Length plan) ≡ None

-- the kinds that have no such part
abbrev has_none : ℕ → Bool
has_none kind = not (kind == 2 || kind == 3 || kind == 7)

none_of_kind : {X : Type 0} (part : Message → Option X) → IsPart part → (m : Message) → has_none (kind m) ≡ true → part m ≡ None
none_of_kind part is (AState s) none = is.state s
none_of_kind part is (Marker n) none = absurd cc
none_of_kind part is (Report found) none = absurd cc
none_of_kind part is (Pick n) none = is.pick n
none_of_kind part is (Trace sent back) none = is.trace sent back
none_of_kind part is (Length n) none = is.length n
none_of_kind part is (Done end) none = absurd cc

module _ {X : Type 0} (part : Message → Option X) (is : IsPart part) (agents publics : ℕ) (small : publics < 2 ^ 32) where
  abbrev pub IsReadAs : Message → Type 0
  IsReadAs m = option_and_then part (message_of agents publics (spelling m)) ≡ part m

  none_read : (m : Message) → has_none (kind m) ≡ true → IsReadAs m
  none_read m none = by (message_of agents publics (spelling m)) refl
    where
      by : (o : Option Message) → message_of agents publics (spelling m) ≡ o → option_and_then part o ≡ part m
      by None reads = sym (none_of_kind part is m none)
      by (Some read) reads =
          let same : has_none (kind read) ≡ true = ap has_none (sym (same_kind agents publics m read reads)) ∙ none in
          none_of_kind part is read same ∙ sym (none_of_kind part is m none)

  fits_read : (m : Message) → Fits agents publics m → IsReadAs m
  fits_read m fits = ap (option_and_then part) (fitting_is_message agents publics m small fits)

  read_as : (m : Message) → HasRoom m → IsReadAs m
  read_as (AState s) room = none_read (AState s) refl
  read_as (Marker n) room = fits_read (Marker n) (record { numbers = room; facts = tt; rising = tt; tags = tt })
  read_as (Report found) room = fits_read (Report found) (record { numbers = room; facts = tt; rising = tt; tags = tt })
  read_as (Pick n) room = none_read (Pick n) refl
  read_as (Trace sent back) room = none_read (Trace sent back) refl
  read_as (Length n) room = none_read (Length n) refl
  read_as (Done kind) room = fits_read (Done kind) (record { numbers = tt; facts = tt; rising = tt; tags = tt })

  -- one message in front of others
  one_read : (m : Message) (rest : List (List ℕ)) (ms : List Message) → IsReadAs m
      → filter_map part (filter_map (message_of agents publics) rest) ≡ filter_map part ms
      → filter_map part (filter_map (message_of agents publics) (spelling m ∷ rest)) ≡ filter_map part (m ∷ ms)
  one_read m rest ms read more = by (message_of agents publics (spelling m)) refl read
    where
      by : (o : Option Message) → message_of agents publics (spelling m) ≡ o → option_and_then part o ≡ part m
          → filter_map part (filter_map (message_of agents publics) (spelling m ∷ rest)) ≡ filter_map part (m ∷ ms)
      by None none same = rw none (λ k. cons_option (same k) (more k))
      by (Some m') some same = rw some (λ k. cons_option (same k) (more k))

  pub sent_read : (to : ℕ) (out : List Outgoing) → All (λ x. HasRoom x.message) out
      → filter_map part (filter_map (message_of agents publics) (sent_to to (map in_bytes out))) ≡ filter_map part (messages_to to out)
  sent_read to [] fits = refl
  sent_read to (x ∷ xs) fits = by (x.to == to) refl (sent_read to xs (All-tail (λ y. HasRoom y.message) x xs fits))
    where
      by : (b : Bool) → (x.to == to) ≡ b → filter_map part (filter_map (message_of agents publics) (sent_to to (map in_bytes xs))) ≡ filter_map part (messages_to to xs)
          → filter_map part (filter_map (message_of agents publics) (sent_to to (map in_bytes (x ∷ xs)))) ≡ filter_map part (messages_to to (x ∷ xs))
      by true test more =
          rw test
          (one_read x.message (sent_to to (map in_bytes xs)) (messages_to to xs) (read_as x.message (All-head (λ y. HasRoom y.message) x xs fits)) more)
      by false test more = rw test more
