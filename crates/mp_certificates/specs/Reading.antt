-- Fields of a line of a certificate, read from left to right: a value and the bytes after it, or none.
use Rattle.std.specs.Prelude.{◌≡◌, ⊤, ℕ, zero, suc, ◌+◌, ◌-◌, ◌*◌, ◌==◌, ◌&&◌, Bool, true, false, nat_le, nat_lt, List, [], ◌∷◌, ◌++◌, length, codes, Option, Some, None, Result, Ok, Err, if◌then◌else◌}
use Rattle.std.specs.Option.{option_map_or}
use Rattle.mp_task.specs.AgentTask.{AgentTask}
use Rattle.mp_audit.specs.declared.certificate.Bound.{Bound}
use Rattle.mp_audit.specs.Fits.{most, publics_of}
use Rattle.mp_forms.specs.Words.{is_digit}
use Rattle.mp_messages.specs.Reading.{◌>>=◌}
use Rattle.mp_text.specs.Lines.{Text}
use Rattle.mp_text.specs.Reading.{byte_at, read_or, text_behind}
use Rattle.mp_certificates.specs.declared.unread.Unread.{Unread}
use Rattle.mp_certificates.specs.declared.unread.Unread.TheVariants.{OtherForm, OutOfMemory}

-- What a function returned, seen by view, is what reading gives, unless memory ran out.
abbrev pub Fails : {Y : Type 0} → Unread → Option Y → Type 0
Fails OtherForm read = read ≡ None
Fails OutOfMemory read = ⊤

abbrev pub Gives : {X Y : Type 0} → (X → Y) → Result X Unread → Option Y → Type 0
Gives view (Ok x) read = read ≡ Some (view x)
Gives view (Err e) read = Fails e read

-- ---- numbers

-- the value of a digit
abbrev pub digit_of : ℕ → Option ℕ
digit_of byte = if is_digit byte then Some (byte - 48) else None

-- a number with one digit more behind it, where it has no zero in front and stays below a bound
abbrev pub with_digit : ℕ → ℕ → ℕ → Option ℕ
with_digit bound number digit =
    if nat_lt 0 number && nat_lt (number * 10 + digit) bound then Some (number * 10 + digit) else None

-- the number below a bound whose digits go on behind those of this one
unfoldable pub number_from : ℕ → ℕ → Text → Option (ℕ × Text)
number_from bound number [] = Some (number, [])
number_from bound number (byte ∷ rest) =
    option_map_or (λ digit. with_digit bound number digit >>= (λ n. number_from bound n rest)) (digit_of byte)
    (Some (number, byte ∷ rest))

-- a number below a bound
unfoldable pub number_below : ℕ → Text → Option (ℕ × Text)
number_below bound [] = None
number_below bound (byte ∷ rest) = do
  digit ← digit_of byte
  if nat_lt digit bound then number_from bound digit rest else None

-- a number from a least one on and below a bound
unfoldable pub number_at : ℕ → ℕ → Text → Option (ℕ × Text)
number_at least bound text = do
  number ← number_below bound text
  if nat_le least number.0 then Some number else None

-- ---- lists of facts

-- a blank, behind which another number follows, or the bracket behind the last one
unfoldable pub more_at : Text → Option (Bool × Text)
more_at [] = None
more_at (byte ∷ rest) =
    if byte == 32 then Some (true, rest) else if byte == 93 then Some (false, rest) else None

-- a fact of so many, from a least number on, and whether another follows
unfoldable pub fact_at : ℕ → ℕ → Text → Option ((ℕ × Bool) × Text)
fact_at size least text = do
  number ← number_at least size text
  more ← more_at number.1
  Some ((number.0, more.0), more.1)

-- facts of so many that rise, the first one from a least number on, and the bracket behind them; no more of them are
-- looked for than this
unfoldable pub facts_from : ℕ → ℕ → ℕ → Text → Option (List ℕ × Text)
facts_from zero size least text = None
facts_from (suc left) size least text = do
  fact ← fact_at size least text
  if fact.0.1 then (facts_from left size (fact.0.0 + 1) fact.1 >>= (λ others. Some (fact.0.0 ∷ others.0, others.1))) else Some (fact.0.0 ∷ [], fact.1)

-- what stands behind the first bracket: the last one, or facts
abbrev pub no_facts : Text → Option (List ℕ × Text)
no_facts rest = Some ([], rest)

unfoldable pub facts_within : ℕ → Text → Option (List ℕ × Text)
facts_within size text = read_or (byte_at 93 text) no_facts (facts_from size size 0 text)

-- a blank and the first bracket of a list
abbrev pub bracket_at : Text → Option Text
bracket_at text = byte_at 32 text >>= byte_at 91

-- a list of facts behind a blank
unfoldable pub list_at : ℕ → Text → Option (List ℕ × Text)
list_at size text = bracket_at text >>= facts_within size

-- a list of private facts for each task
unfoldable pub lists_at : List AgentTask → Text → Option (List (List ℕ) × Text)
lists_at [] text = Some ([], text)
lists_at (t ∷ ts) text = do
  facts ← list_at t.privates text
  others ← lists_at ts facts.1
  Some (facts.0 ∷ others.0, others.1)

-- one list that is read, behind lists that were read before
abbrev pub with_list : List (List ℕ) → Option (List ℕ × Text) → Option (List (List ℕ) × Text)
with_list before read = read >>= (λ list. Some (before ++ list.0 ∷ [], list.1))

-- and more of them
abbrev pub with_lists : List (List ℕ) → Option (List (List ℕ) × Text) → Option (List (List ℕ) × Text)
with_lists before read = read >>= (λ lists. Some (before ++ lists.0, lists.1))

-- the public facts of an entry, and a list of private facts for each task
abbrev pub all_lists_at : List AgentTask → Text → Option (List (List ℕ) × Text)
all_lists_at tasks text = do
  publics ← list_at (publics_of tasks) text
  privates ← lists_at tasks publics.1
  Some (publics.0 ∷ privates.0, privates.1)

-- ---- lines

-- the agent and the bound of an entry in a team of so many
unfoldable pub head_at : ℕ → Text → Option ((ℕ × ℕ) × Text)
head_at agents text = do
  agent ← number_at 1 (agents + 1) text
  rest ← byte_at 32 agent.1
  bound ← number_at 1 (most + 1) rest
  Some ((agent.0, bound.0), bound.1)

-- an entry, and the end of its line
unfoldable pub entry_at : List AgentTask → Text → Option (Bound × Text)
entry_at tasks text = do
  head ← head_at (length tasks) text
  publics ← list_at (publics_of tasks) head.1
  privates ← lists_at tasks publics.1
  rest ← byte_at 10 privates.1
  Some (record { agent = head.0.0; bound = head.0.1; publics = publics.0; privates = privates.0 }, rest)

-- the cost, and the end of its line
unfoldable pub cost_at : Text → Option (ℕ × Text)
cost_at text = do
  rest ← text_behind (codes "bound ") text
  cost ← number_at 0 (most + 1) rest
  rest ← byte_at 10 cost.1
  Some (cost.0, rest)
