-- Lines of a schedule, read from left to right: a field is a value and the bytes after it, or none.
use Rattle.std.specs.Prelude.{ℕ, ◌-◌, ◌==◌, Bool, false, ◌&&◌, not, nat_le, nat_lt, [], ◌∷◌, codes, Option, Some, None, if◌then◌else◌}
use Rattle.std.specs.List.{prefix_len}
use Rattle.std.specs.Str.{bytes_eq}
use Rattle.mp_messages.specs.Reading.{◌>>=◌}
use Rattle.mp_messages.specs.declared.history.Event.{Event}
use Rattle.mp_messages.specs.declared.history.Event.TheVariants.{Expand, Take, Start}
use Rattle.mp_text.specs.Lines.{Text}
use Rattle.mp_text.specs.Schedule.{is_hexadecimal}

-- a number from 1 to 9
unfoldable pub digit_at : Text → Option (ℕ × Text)
digit_at [] = None
digit_at (byte ∷ rest) = if nat_le 49 byte && nat_le byte 57 then Some (byte - 48, rest) else None

-- a number from 10 to 16
unfoldable pub two_digits_at : Text → Option (ℕ × Text)
two_digits_at [] = None
two_digits_at (ten ∷ []) = None
two_digits_at (ten ∷ byte ∷ rest) =
    if (ten == 49) && (nat_le 48 byte && nat_le byte 54) then Some (byte - 38, rest) else None

-- the first where there is one, and otherwise the second
abbrev pub either : {A : Type 0} → Option A → Option A → Option A
either None second = second
either (Some x) second = Some x

-- a number from 1 to 16, with as many digits as there are
unfoldable pub number_at : Text → Option (ℕ × Text)
number_at text = either (two_digits_at text) (digit_at text)

-- the number of an agent of the team
unfoldable pub agent_at : ℕ → Text → Option (ℕ × Text)
agent_at agents text = do
  n ← number_at text
  if nat_lt agents n.0 then None else Some n

-- this byte
unfoldable pub byte_at : ℕ → Text → Option Text
byte_at wanted [] = None
byte_at wanted (byte ∷ rest) = if byte == wanted then Some rest else None

-- two agents of the team that differ, with a byte between them
unfoldable pub pair_at : ℕ → ℕ → Text → Option ((ℕ × ℕ) × Text)
pair_at agents between text = do
  one ← agent_at agents text
  rest ← byte_at between one.1
  other ← agent_at agents rest
  if one.0 == other.0 then None else Some ((one.0, other.0), other.1)

-- nothing more
abbrev pub at_end : {A : Type 0} → A → Text → Option A
at_end x [] = Some x
at_end x (byte ∷ rest) = None

unfoldable pub expand_at : ℕ → Text → Option Event
expand_at agents text = do
  agent ← agent_at agents text
  at_end (Expand agent.0) agent.1

unfoldable pub take_at : ℕ → Text → Option Event
take_at agents text = do
  pair ← pair_at agents 32 text
  at_end (Take pair.0.0 pair.0.1) pair.1

-- whether bytes in hexadecimal are left
abbrev pub is_hexadecimal_left : Option Text → Bool
is_hexadecimal_left None = false
is_hexadecimal_left (Some bytes) = is_hexadecimal bytes

-- sender, receiver and bytes of a message, behind the two blanks
unfoldable pub message_at : ℕ → Text → Bool
message_at agents text = is_hexadecimal_left (do
  pair ← pair_at agents 62 text
  byte_at 32 pair.1)

-- what follows these bytes, where the text begins with them
unfoldable pub text_behind : Text → Text → Option Text
text_behind [] text = Some text
text_behind (wanted ∷ head) text = byte_at wanted text >>= text_behind head

-- what is read of what follows, where something does, and otherwise this
abbrev pub read_or : {A : Type 0} → Option Text → (Text → A) → A → A
read_or None read otherwise = otherwise
read_or (Some rest) read otherwise = read rest

-- the event whose line this is
unfoldable pub event_at : ℕ → Text → Option Event
event_at agents line =
    read_or (text_behind (codes "expand ") line) (expand_at agents)
    (read_or (text_behind (codes "take ") line) (take_at agents)
    (if bytes_eq line (codes "start") then Some Start else None))

-- whether it is the line of a message
unfoldable pub message_line_at : ℕ → Text → Bool
message_line_at agents line = read_or (text_behind (codes "  ") line) (message_at agents) false

-- a byte that does not end a line
abbrev pub is_within_line : ℕ → Bool
is_within_line byte = not (byte == 10)

-- how many bytes stand before the first line feed, all where there is none
abbrev pub first_length : Text → ℕ
first_length text = prefix_len is_within_line text
