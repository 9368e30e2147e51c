-- Reading from left to right: a field is a value and the bytes after it, or none where no value is spelled.
use Rattle.std.specs.Prelude.{◌≡◌, ℕ, zero, suc, ◌+◌, Bool, true, false, ◌||◌, List, [], ◌∷◌, length, take, drop, Option, Some, None, Result, Ok, Err, nat_lt, nat_le, ◌==◌, if◌then◌else◌}
use Rattle.std.specs.Int.{Width, w32, w64, byte_len, from_be_bytes}
use Rattle.std.specs.FinSet as set
use Rattle.mp_sets.specs.declared.tag.Tag.{Tag}
use Rattle.mp_sets.specs.Numbers.{Numbers}
use Rattle.mp_messages.specs.declared.message.State.{State}
use Rattle.mp_messages.specs.declared.message.Findings.{Findings}
use Rattle.mp_messages.specs.declared.message.EndKind.{EndKind}
use Rattle.mp_messages.specs.declared.message.EndKind.TheVariants.{NoPlan, Spent}
use Rattle.mp_messages.specs.declared.message.Message.{Message}
use Rattle.mp_messages.specs.declared.message.Message.TheVariants as kinds
use Rattle.mp_messages.specs.declared.decoding.DecodeRefusal.{DecodeRefusal}
use Rattle.mp_messages.specs.declared.decoding.DecodeRefusal.TheVariants.{NotAMessage, OutOfMemory}
use Rattle.mp_messages.specs.Parts.{StateParts, parts_of}
use Rattle.mp_messages.specs.Spelling.{limit}

infixl 10 ◌>>=◌
abbrev pub ◌>>=◌ : {A B : Type 0} → Option A → (A → Option B) → Option B
(Some x) >>= f = f x
None >>= f = None

-- What a function returned, seen by view, is what reading gives, unless memory ran out.
abbrev pub Refuses : {Y : Type 0} → DecodeRefusal → Option Y → Type 0
Refuses OutOfMemory read = Unit {0}
Refuses NotAMessage read = read ≡ None

abbrev pub Gives : {X Y : Type 0} → (X → Y) → Result X DecodeRefusal → Option Y → Type 0
Gives view (Ok x) read = read ≡ Some (view x)
Gives view (Err e) read = Refuses e read

-- What a function returned is what reading gives, where memory runs out at a state alone.
abbrev pub IsReading : Result Message DecodeRefusal → Option Message → Type 0
IsReading (Ok m) read = read ≡ Some m
IsReading (Err NotAMessage) read = read ≡ None
IsReading (Err OutOfMemory) read = (s : State) × (read ≡ Some (kinds.State s))

-- the bytes after what was read
abbrev pub rest_of : {A : Type 0} → Option (A × List ℕ) → Option (List ℕ)
rest_of read = read >>= λ x. Some x.1

unfoldable pub digits_at : Width → List ℕ → Option (ℕ × List ℕ)
digits_at w bytes =
    if nat_lt (length bytes) (byte_len w) then None else Some (from_be_bytes w (take (byte_len w) bytes), drop (byte_len w) bytes)

unfoldable pub number_at : List ℕ → Option (ℕ × List ℕ)
number_at bytes = do
  n ← digits_at w64 bytes
  if nat_lt n.0 limit then Some n else None

unfoldable pub flag_at : List ℕ → Option (Bool × List ℕ)
flag_at [] = None
flag_at (b ∷ rest) = if b == 0 then Some (false, rest) else if b == 1 then Some (true, rest) else None

unfoldable pub optional_at : List ℕ → Option (Option ℕ × List ℕ)
optional_at bytes = do
  there ← flag_at bytes
  if there.0 then number_at there.1 >>= (λ n. Some (Some n.0, n.1)) else Some (None, there.1)

unfoldable pub ending_at : List ℕ → Option (EndKind × List ℕ)
ending_at [] = None
ending_at (b ∷ rest) = if b == 1 then Some (NoPlan, rest) else if b == 2 then Some (Spent, rest) else None

unfoldable pub tag_at : List ℕ → Option (Tag × List ℕ)
tag_at bytes = do
  token ← number_at bytes
  met ← flag_at token.1
  Some (record { token = token.0; met = met.0 }, met.1)

-- so many tags
unfoldable pub tags_at : ℕ → List ℕ → Option (List Tag × List ℕ)
tags_at zero bytes = Some ([], bytes)
tags_at (suc n) bytes = do
  first ← tag_at bytes
  others ← tags_at n first.1
  Some (first.0 ∷ others.0, others.1)

-- a fact from a least number on and below the number of public facts
unfoldable pub fact_at : ℕ → ℕ → List ℕ → Option (ℕ × List ℕ)
fact_at publics least bytes = do
  n ← digits_at w32 bytes
  if nat_lt n.0 least || nat_le publics n.0 then None else Some n

-- so many facts that rise, the first one from a least number on
unfoldable pub facts_at : ℕ → ℕ → ℕ → List ℕ → Option (List ℕ × List ℕ)
facts_at publics zero least bytes = Some ([], bytes)
facts_at publics (suc n) least bytes = do
  first ← fact_at publics least bytes
  others ← facts_at publics n (first.0 + 1) first.1
  Some (first.0 ∷ others.0, others.1)

unfoldable pub counted_at : ℕ → List ℕ → Option (List ℕ × List ℕ)
counted_at publics bytes = do
  n ← digits_at w32 bytes
  facts_at publics n.0 0 n.1

unfoldable pub costs_at : List ℕ → Option ((ℕ × ℕ × ℕ) × List ℕ)
costs_at bytes = do
  sent ← number_at bytes
  g ← number_at sent.1
  h ← number_at g.1
  if nat_lt (g.0 + h.0) limit then Some ((sent.0, g.0, h.0), h.1) else None

unfoldable pub state_at : ℕ → ℕ → List ℕ → Option (State × List ℕ)
state_at agents publics bytes = do
  costs ← costs_at bytes
  facts ← counted_at publics costs.1
  tags ← tags_at agents facts.1
  Some (record { sent = costs.0.0; g = costs.0.1; h = costs.0.2; facts = facts.0; tags = tags.0 }, tags.1)

unfoldable pub findings_at : List ℕ → Option (Findings × List ℕ)
findings_at bytes = do
  n ← number_at bytes
  least ← optional_at n.1
  under_way ← optional_at least.1
  goal ← optional_at under_way.1
  spent ← flag_at goal.1
  Some (record { number = n.0; least = least.0; under_way = under_way.0; goal = goal.0; spent = spent.0 }, spent.1)

unfoldable pub trace_at : List ℕ → Option ((ℕ × ℕ) × List ℕ)
trace_at bytes = do
  sent ← number_at bytes
  back ← number_at sent.1
  Some ((sent.0, back.0), back.1)

-- a value as a message
abbrev pub as_kind : {A : Type 0} → (A → Message) → Option (A × List ℕ) → Option (Message × List ℕ)
as_kind kind read = read >>= λ x. Some (kind x.0, x.1)

-- what follows the byte of the kind
unfoldable pub fields_at : ℕ → ℕ → ℕ → List ℕ → Option (Message × List ℕ)
fields_at agents publics kind bytes =
    if kind == 1 then as_kind kinds.State (state_at agents publics bytes)
    else if kind == 2 then as_kind kinds.Marker (number_at bytes)
    else if kind == 3 then as_kind kinds.Report (findings_at bytes)
    else if kind == 4 then as_kind kinds.Pick (number_at bytes)
    else if kind == 5 then as_kind (λ t. kinds.Trace t.0 t.1) (trace_at bytes)
    else if kind == 6 then as_kind kinds.Length (number_at bytes)
    else if kind == 7 then as_kind kinds.Done (ending_at bytes)
    else None

unfoldable pub message_at : ℕ → ℕ → List ℕ → Option (Message × List ℕ)
message_at agents publics [] = None
message_at agents publics (kind ∷ rest) = fields_at agents publics kind rest

-- the message that is read from bytes, all of them, if one is
unfoldable pub message_read : ℕ → ℕ → List ℕ → Option Message
message_read agents publics bytes = do
  m ← message_at agents publics bytes
  if length m.1 == 0 then Some m.0 else None

-- ---- states that are read with no list of facts

-- a list that is read, as the set of its numbers
abbrev pub as_set : Option (List ℕ × List ℕ) → Option (Numbers × List ℕ)
as_set read = read >>= λ x. Some (set.from_list x.0, x.1)

-- a state that is read, as its parts
abbrev pub in_parts : Option (State × List ℕ) → Option (StateParts × List ℕ)
in_parts read = read >>= λ x. Some (parts_of x.0, x.1)
