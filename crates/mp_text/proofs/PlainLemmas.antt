-- Texts without line feeds, and the lines of a text of such lines.
use Rattle.std.proofs.Common.{◌≡◌, refl, ℕ, ◌+◌, ◌/◌, ◌%◌, ◌<◌, ◌≤◌, ◌==◌, true, false, ◌&&◌, List, [], ◌∷◌, ◌++◌, length, All, append_assoc, arith, inl, inr}
use Rattle.std.specs.Prelude.{codes, decimal, slice_index, nat_le, nat_lt, ◌≢◌}
use Rattle.std.specs.List.{AllByRecursion, list_all}
use Rattle.std.proofs.lemmas.Bool.{and_from, and_parts, cases_lt, eq-eqb, leb-true, lt-ltb, ne_eqb, not-true, or_cases}
use Rattle.std.proofs.lemmas.Fmt.{decimal_digit}
use Rattle.itoa.proofs.Decimal.{decimal_two}
use Rattle.std.proofs.lemmas.List.{get_or_default}
use Rattle.std.proofs.lemmas.List.Elements.{recursion_from_All}
use Rattle.hex.proofs.HexLemmas.{length-encode_with}
use Rattle.hex.specs.Hex.{encode_lower, encode_with, lower_digits}
use Rattle.mp_list.proofs.Members.{all_at}
use Rattle.mp_messages.specs.declared.history.Event.{Event}
use Rattle.mp_messages.specs.declared.history.Event.TheVariants.{Expand, Take, Start}
use Rattle.mp_text.specs.Again.{IsAgent}
use Rattle.mp_text.specs.Lines.{Text, lines_of, text_of_lines}
use Rattle.mp_text.specs.Reading.{is_within_line}
use Rattle.mp_text.specs.Schedule.{is_hexadecimal, is_hexadecimal_digit}
use Rattle.mp_text.specs.Trace.{event_line, message_head, message_line}
use Rattle.mp_text.proofs.PairLemmas.{IsPair}
use Rattle.mp_text.proofs.TeamLemmas.{IsOf}

-- no byte ends a line
abbrev pub IsPlain : Text → Type 0
IsPlain text = list_all is_within_line text ≡ true

pub plain_append : (a b : Text) → IsPlain a → IsPlain b → IsPlain (a ++ b)
plain_append [] b h k = k
plain_append (byte ∷ a) b h k =
    let p = and_parts (is_within_line byte) (list_all is_within_line a) h in
    and_from (is_within_line byte) (list_all is_within_line (a ++ b)) p.0 (plain_append a b p.1 k)

-- the lines of a text whose first line is this one
pub lines_first : (line text : Text) → IsPlain line → lines_of ((line ++ 10 ∷ []) ++ text) ≡ line ∷ lines_of text
lines_first [] text h = refl
lines_first (byte ∷ line) text h =
    let p = and_parts (is_within_line byte) (list_all is_within_line line) h in
    let no : (byte == 10) ≡ false = not-true (byte == 10) p.0 in
    rw (no, lines_first line text p.1) refl

-- each line is plain
abbrev pub ArePlain : List Text → Type 0
ArePlain [] = Unit {0}
ArePlain (line ∷ lines) = IsPlain line × ArePlain lines

pub lines_again : (lines : List Text) (text : Text) → ArePlain lines → lines_of (text_of_lines lines ++ text) ≡ lines ++ lines_of text
lines_again [] text h = refl
lines_again (line ∷ lines) text h =
    rw (append_assoc (line ++ 10 ∷ []) (text_of_lines lines) text, lines_first line (text_of_lines lines ++ text) h.0, lines_again lines text h.1) refl

-- ---- what a trace consists of

plain_byte : (byte : ℕ) → 11 ≤ byte → IsPlain (byte ∷ [])
plain_byte byte h = let no : (byte == 10) ≡ false = ne_eqb byte 10 (λ e. omega (arith, h, e)) in rw no refl

plain_two : (one other : ℕ) → 11 ≤ one → 11 ≤ other → IsPlain (one ∷ other ∷ [])
plain_two one other h k = plain_append (one ∷ []) (other ∷ []) (plain_byte one h) (plain_byte other k)

pub plain_number : (agents n : ℕ) → agents ≤ 16 → IsAgent agents n → IsPlain (decimal n)
plain_number agents n team h =
    let few = h.1 in
    elim (cases_lt n 10) [
      | inl small ↦ rw (decimal_digit n small) (plain_byte (48 + n) (omega arith))
      | inr large ↦ rw (decimal_two n large (omega arith)) (plain_two (48 + n / 10) (48 + n % 10) (omega arith) (omega arith))
    ]

digit_is : (k : ℕ) → k < 16 → is_hexadecimal_digit (slice_index lower_digits k) ≡ true
digit_is k h =
    all_at is_hexadecimal_digit lower_digits (slice_index lower_digits k) refl
    (k, h, get_or_default lower_digits k (slice_index lower_digits k) 0 h)

all_hexadecimal : (bytes : List ℕ) → AllByRecursion (λ byte. byte < 256) bytes → list_all is_hexadecimal_digit (encode_lower bytes) ≡ true
unfolding encode_with
all_hexadecimal [] h = refl
all_hexadecimal (byte ∷ bytes) h =
    let small = h.0 in
    and_from (is_hexadecimal_digit (slice_index lower_digits (byte / 16))) _ (digit_is (byte / 16) (omega arith))
    (and_from (is_hexadecimal_digit (slice_index lower_digits (byte % 16))) _ (digit_is (byte % 16) (omega arith)) (all_hexadecimal bytes h.1))

some_byte : (bytes : List ℕ) → (bytes ≢ []) → 0 < length bytes
some_byte [] h = absurd (h refl)
some_byte (byte ∷ bytes) h = omega arith

pub hexadecimal_again : (bytes : List ℕ) → (bytes ≢ []) → All (λ byte. byte < 256) bytes → is_hexadecimal (encode_lower bytes) ≡ true
hexadecimal_again bytes some fit =
    let long = length-encode_with lower_digits bytes in
    let filled = some_byte bytes some in
    let there : nat_lt 0 (length (encode_lower bytes)) ≡ true = lt-ltb _ _ (omega (arith, long, filled)) in
    let even : length (encode_lower bytes) % 2 ≡ 0 = omega (arith, long) in
    and_from _ _ there (and_from _ _ (eq-eqb _ _ even) (all_hexadecimal bytes (recursion_from_All (λ byte. byte < 256) bytes fit)))

plain_if : (byte : ℕ) → is_hexadecimal_digit byte ≡ true → is_within_line byte ≡ true
plain_if byte h =
    elim (or_cases (nat_le 48 byte && nat_le byte 57) _ h) [
      | inl digit ↦ not_ten byte (leb-true 48 byte (and_parts (nat_le 48 byte) _ digit).0)
      | inr letter ↦ let low = leb-true 97 byte (and_parts (nat_le 97 byte) _ letter).0 in not_ten byte (omega arith)
    ]
  where
    not_ten : (b : ℕ) → 48 ≤ b → is_within_line b ≡ true
    not_ten b low = let no : (b == 10) ≡ false = ne_eqb b 10 (λ e. omega (arith, low, e)) in rw no refl

plain_digits : (text : Text) → list_all is_hexadecimal_digit text ≡ true → IsPlain text
plain_digits [] h = refl
plain_digits (byte ∷ text) h =
    let p = and_parts (is_hexadecimal_digit byte) (list_all is_hexadecimal_digit text) h in
    and_from (is_within_line byte) (list_all is_within_line text) (plain_if byte p.0) (plain_digits text p.1)

pub plain_bytes : (bytes : List ℕ) → All (λ byte. byte < 256) bytes → IsPlain (encode_lower bytes)
plain_bytes bytes fit = plain_digits (encode_lower bytes) (all_hexadecimal bytes (recursion_from_All (λ byte. byte < 256) bytes fit))

pub plain_event : (agents : ℕ) (event : Event) → agents ≤ 16 → IsOf agents event → IsPlain (event_line event)
unfolding event_line
plain_event agents (Expand agent) team h = plain_append (codes "expand ") (decimal agent) refl (plain_number agents agent team h)
plain_event agents (Take by from) team h =
    plain_append (codes "take ") (decimal by ++ (codes " " ++ decimal from)) refl
    (plain_append (decimal by) (codes " " ++ decimal from) (plain_number agents by team (h.some, h.few))
    (plain_append (codes " ") (decimal from) refl (plain_number agents from team (h.other_some, h.other_few))))
plain_event agents Start team h = refl

pub plain_message : (agents from to : ℕ) (bytes : List ℕ) → agents ≤ 16 → IsPair agents from to → All (λ byte. byte < 256) bytes → IsPlain (message_line from to bytes)
unfolding message_head
plain_message agents from to bytes team h fit =
    plain_append (message_head from to) (encode_lower bytes)
    (plain_append (codes "  ") (decimal from ++ (codes ">" ++ (decimal to ++ codes " "))) refl
    (plain_append (decimal from) (codes ">" ++ (decimal to ++ codes " ")) (plain_number agents from team (h.some, h.few))
    (plain_append (codes ">") (decimal to ++ codes " ") refl
    (plain_append (decimal to) (codes " ") (plain_number agents to team (h.other_some, h.other_few)) refl))))
    (plain_bytes bytes fit)
