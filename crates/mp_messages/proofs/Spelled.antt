-- The message that bytes spell is the one that is read from them, from left to right.
use Rattle.std.proofs.Common.{ℕ, zero, suc, ◌^◌, ◌/◌, ◌<◌, ◌≤◌, Bool, true, false, List, [], ◌∷◌, ◌++◌, length, Option, Some, None, sym, subst, ◌⊎◌, arith, inl, inr}
use Rattle.std.specs.Int.{byte_at, bytes_high_first}
use Rattle.std.specs.List.{flat_map}
use Rattle.std.proofs.Math.Nat.{mod-lt}
use Rattle.std.proofs.lemmas.Bool.{cases_lt}
use Rattle.std.proofs.lemmas.Option.{none-some}
use Rattle.mp_sets.specs.declared.tag.Tag.{Tag}
use Rattle.mp_messages.specs.declared.message.State.{State}
use Rattle.mp_messages.specs.declared.message.Findings.{Findings}
use Rattle.mp_messages.specs.declared.message.EndKind.{EndKind}
use Rattle.mp_messages.specs.declared.message.EndKind.TheVariants.{NoPlan, Spent}
use Rattle.mp_messages.specs.declared.message.Message.{Message}
use Rattle.mp_messages.specs.declared.message.Message.TheVariants as kinds
use Rattle.mp_messages.specs.Spelling.{number, short_number, flag, optional, ending, tag, counted, state, findings, spelling, IsSpelling, SpelledMessage}
use Rattle.mp_messages.specs.Reading.{message_read}
use Rattle.mp_messages.proofs.Messages.{all_again, all_take}
use Rattle.mp_messages.proofs.Taking.{IsBytes, IsBytes-rest, IsBytes-with}

-- ---- a spelling is bytes

IsBytes-nil : IsBytes []
IsBytes-nil i = omega arith

IsBytes-append : (a b : List ℕ) → IsBytes a → IsBytes b → IsBytes (a ++ b)
IsBytes-append [] b here there = there
IsBytes-append (x ∷ a) b here there = IsBytes-with x (a ++ b) (here 0) (IsBytes-append a b (IsBytes-rest x a here) there)

IsBytes-each : {A : Type 0} (f : A → List ℕ) → ((x : A) → IsBytes (f x)) → (xs : List A) → IsBytes (flat_map f xs)
IsBytes-each f each [] = IsBytes-nil
IsBytes-each f each (x ∷ xs) = IsBytes-append (f x) (flat_map f xs) (each x) (IsBytes-each f each xs)

byte_below : (k n : ℕ) → byte_at k n < 256
byte_below zero n = mod-lt n (omega arith)
byte_below (suc k) n = mod-lt (n / 256 ^ suc k) (omega arith)

digit_bytes : (k n : ℕ) → IsBytes (bytes_high_first k n)
digit_bytes zero n = IsBytes-nil
digit_bytes (suc k) n = IsBytes-with (byte_at k n) (bytes_high_first k n) (byte_below k n) (digit_bytes k n)

one_byte : (b : ℕ) → b < 256 → IsBytes (b ∷ [])
one_byte b below = IsBytes-with b [] below IsBytes-nil

number_bytes : (n : ℕ) → IsBytes (number n)
unfolding number
number_bytes n = digit_bytes 8 n

short_bytes : (n : ℕ) → IsBytes (short_number n)
unfolding short_number
short_bytes n = digit_bytes 4 n

flag_bytes : (b : Bool) → IsBytes (flag b)
unfolding flag
flag_bytes false = one_byte 0 (omega arith)
flag_bytes true = one_byte 1 (omega arith)

optional_bytes : (n : Option ℕ) → IsBytes (optional n)
unfolding optional
optional_bytes None = one_byte 0 (omega arith)
optional_bytes (Some n) = IsBytes-with 1 (number n) (omega arith) (number_bytes n)

ending_bytes : (e : EndKind) → IsBytes (ending e)
unfolding ending
ending_bytes NoPlan = one_byte 1 (omega arith)
ending_bytes Spent = one_byte 2 (omega arith)

tag_bytes : (t : Tag) → IsBytes (tag t)
unfolding tag
tag_bytes t = IsBytes-append (number t.token) (flag t.met) (number_bytes t.token) (flag_bytes t.met)

counted_bytes : (facts : List ℕ) → IsBytes (counted facts)
unfolding counted
counted_bytes facts = IsBytes-append (short_number (length facts)) (flat_map short_number facts) (short_bytes (length facts)) (IsBytes-each short_number short_bytes facts)

state_bytes : (s : State) → IsBytes (state s)
unfolding state
state_bytes s =
    IsBytes-append (number s.sent) _ (number_bytes s.sent)
    (IsBytes-append (number s.g) _ (number_bytes s.g)
    (IsBytes-append (number s.h) _ (number_bytes s.h)
    (IsBytes-append (counted s.facts) (flat_map tag s.tags) (counted_bytes s.facts) (IsBytes-each tag tag_bytes s.tags))))

findings_bytes : (f : Findings) → IsBytes (findings f)
unfolding findings
findings_bytes f =
    IsBytes-append (number f.number) _ (number_bytes f.number)
    (IsBytes-append (optional f.least) _ (optional_bytes f.least)
    (IsBytes-append (optional f.under_way) _ (optional_bytes f.under_way)
    (IsBytes-append (optional f.goal) (flag f.spent) (optional_bytes f.goal) (flag_bytes f.spent))))

spelling_bytes : (m : Message) → IsBytes (spelling m)
unfolding spelling
spelling_bytes (kinds.State s) = IsBytes-with 1 (state s) (omega arith) (state_bytes s)
spelling_bytes (kinds.Marker n) = IsBytes-with 2 (number n) (omega arith) (number_bytes n)
spelling_bytes (kinds.Report f) = IsBytes-with 3 (findings f) (omega arith) (findings_bytes f)
spelling_bytes (kinds.Pick n) = IsBytes-with 4 (number n) (omega arith) (number_bytes n)
spelling_bytes (kinds.Trace sent back) = IsBytes-with 5 (number sent ++ number back) (omega arith) (IsBytes-append (number sent) (number back) (number_bytes sent) (number_bytes back))
spelling_bytes (kinds.Length n) = IsBytes-with 6 (number n) (omega arith) (number_bytes n)
spelling_bytes (kinds.Done e) = IsBytes-with 7 (ending e) (omega arith) (ending_bytes e)

-- ---- which message bytes spell

bytes_or_not : (bytes : List ℕ) → IsBytes bytes ⊎ (IsBytes bytes → ⊥)
bytes_or_not [] = inl IsBytes-nil
bytes_or_not (b ∷ bytes) = by (cases_lt b 256) (bytes_or_not bytes)
  where
    by : (b < 256) ⊎ (256 ≤ b) → IsBytes bytes ⊎ (IsBytes bytes → ⊥) → IsBytes (b ∷ bytes) ⊎ (IsBytes (b ∷ bytes) → ⊥)
    by (inl first) (inl rest) = inl (IsBytes-with b bytes first rest)
    by (inl first) (inr other) = inr (λ all. other (IsBytes-rest b bytes all))
    by (inr large) rest = inr (λ all. let first : b < 256 = all 0 in omega arith)

module _ (agents publics : ℕ) (bytes : List ℕ) where
  none_spelled : ((m : Message) → publics < 2 ^ 32 → IsSpelling agents publics m bytes → ⊥) → SpelledMessage agents publics bytes
  none_spelled none = record { message = None; is = λ m. (λ e. absurd (none-some m e), λ known. absurd (none m known.0 known.1)) }

  pub spelled : SpelledMessage agents publics bytes
  spelled = by (cases_lt publics (2 ^ 32)) (bytes_or_not bytes)
    where
      by : (publics < 2 ^ 32) ⊎ (2 ^ 32 ≤ publics) → IsBytes bytes ⊎ (IsBytes bytes → ⊥) → SpelledMessage agents publics bytes
      by (inl few) (inl fits) = record {
        message = message_read agents publics bytes;
        is = λ m. (λ e. (few, all_take agents publics bytes m fits e), λ known. all_again agents publics m bytes few known.1);
      }
      by (inl few) (inr other) = none_spelled (λ m small known. other (subst IsBytes (sym known.is) (spelling_bytes m)))
      by (inr many) fits = none_spelled (λ m few known. omega arith)
