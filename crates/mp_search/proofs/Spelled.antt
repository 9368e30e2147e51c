-- The message that bytes spell is one that they spell, and each that they spell is the one.
use Rattle.std.proofs.Common.{◌≡◌, ℕ, ◌^◌, ◌<◌, List, get_or, Some, refl, sym, ap, ◌∙◌}
use Rattle.mp_messages.specs.declared.message.Message.{Message}
use Rattle.mp_messages.specs.declared.message.Message.TheVariants as kinds
use Rattle.mp_messages.specs.Spelling.{spelling, Fits, IsSpelling}
use Rattle.mp_messages.proofs.Spelled.{spelled}
use Rattle.mp_search.specs.Spelled.{message_of}

pub message_is_spelled : (agents publics : ℕ) (bytes : List ℕ) (m : Message) → message_of agents publics bytes ≡ Some m → IsSpelling agents publics m bytes
unfolding message_of
message_is_spelled agents publics bytes m is = (((spelled agents publics bytes).is m).0 is).1

pub few_publics : (agents publics : ℕ) (bytes : List ℕ) (m : Message) → message_of agents publics bytes ≡ Some m → publics < 2 ^ 32
unfolding message_of
few_publics agents publics bytes m is = (((spelled agents publics bytes).is m).0 is).0

pub spelled_is_message : (agents publics : ℕ) (m : Message) (bytes : List ℕ) → publics < 2 ^ 32 → IsSpelling agents publics m bytes → message_of agents publics bytes ≡ Some m
unfolding message_of
spelled_is_message agents publics m bytes few is = ((spelled agents publics bytes).is m).1 (few, is)

pub fitting_is_message : (agents publics : ℕ) (m : Message) → publics < 2 ^ 32 → Fits agents publics m → message_of agents publics (spelling m) ≡ Some m
fitting_is_message agents publics m few fits = spelled_is_message agents publics m (spelling m) few (record { fits = fits; is = refl })

-- ---- what is read of a spelling is of the same kind

-- the byte of a message's kind
abbrev pub kind : Message → ℕ
kind (kinds.State s) = 1
kind (kinds.Marker n) = 2
kind (kinds.Report f) = 3
kind (kinds.Pick n) = 4
kind (kinds.Trace sent back) = 5
kind (kinds.Length n) = 6
kind (kinds.Done e) = 7

first_byte : (m : Message) → get_or (spelling m) 0 0 ≡ kind m
unfolding spelling
first_byte (kinds.State s) = refl
first_byte (kinds.Marker n) = refl
first_byte (kinds.Report f) = refl
first_byte (kinds.Pick n) = refl
first_byte (kinds.Trace sent back) = refl
first_byte (kinds.Length n) = refl
first_byte (kinds.Done e) = refl

pub same_kind : (agents publics : ℕ) (m read : Message) → message_of agents publics (spelling m) ≡ Some read → kind m ≡ kind read
same_kind agents publics m read is =
    sym (first_byte m) ∙ ap (λ (bytes : List ℕ). get_or bytes 0 0) (message_is_spelled agents publics (spelling m) read is).is ∙ first_byte read
