-- Numbers as they are written are read again, and so are lines of labels and numbers.
use Rattle.std.proofs.Common.{◌≡◌, refl, ap, ◌∙◌, ℕ, zero, suc, ◌+◌, ◌-◌, ◌*◌, ◌%◌, ◌^◌, ◌<◌, ◌==◌, true, false, [], ◌∷◌, ◌++◌, length, get_or, Option, Some, append_assoc, arith}
use Rattle.std.specs.Prelude.{codes, decimal, nat_eq, nat_le}
use Rattle.std.specs.List.{list_all, prefix_len, starts_with}
use Rattle.std.specs.Str.Parse.{AllDigits, digits_value_after}
use Rattle.std.specs.Char.{digit_value}
use Rattle.std.proofs.Math.Seq.{take-append_seam, drop-append_seam}
use Rattle.std.proofs.lemmas.Bool.{and_from, and_parts, eq-eqb, le-leb, leb-true, lt-ltb, ne_eqb}
use Rattle.std.proofs.lemmas.Fmt.{decimal_by_steps_wide, decimal_digit, decimal_is_IsNumeral_wide}
use Rattle.std.proofs.lemmas.List.{length-append, get_or_append_left}
use Rattle.std.proofs.lemmas.Str.{digit_value_digit}
use Rattle.std.proofs.lemmas.Str.Parse.{digit_from_value}
use Rattle.mp_forms.specs.Words.{is_digit}
use Rattle.mp_messages.specs.Reading.{◌>>=◌}
use Rattle.mp_text.specs.Lines.{Text}
use Rattle.mp_text.specs.Outcome.{labelled}
use Rattle.mp_plans.specs.Fields.{behind, is_numeral, number_at, number_from, numeral_at}
use Rattle.mp_plans.specs.Lines.{counts_behind, is_agent_line, is_count_line, number_line}
use Rattle.mp_text.specs.Reading.{is_within_line}
use Rattle.mp_text.proofs.PlainLemmas.{IsPlain, plain_append}
use Rattle.mp_plans.proofs.WrittenLines.{ended}

-- ---- digits

all_digits : (digits : Text) → AllDigits 10 digits → list_all is_digit digits ≡ true
all_digits [] h = refl
all_digits (digit ∷ digits) h =
    let range = digit_from_value digit h.0 in
    and_from (is_digit digit) (list_all is_digit digits)
    (and_from (nat_le 48 digit) (nat_le digit 57) (le-leb 48 digit (omega (arith, range))) (le-leb digit 57 (omega (arith, range))))
    (all_digits digits h.1)

same_value : (number : ℕ) (digits : Text) → AllDigits 10 digits → number_from number digits ≡ digits_value_after 10 number digits
same_value number [] h = refl
same_value number (digit ∷ digits) h =
    let is = digit_value_digit digit (digit_from_value digit h.0) in
    let same : digit - 48 ≡ digit_value digit = omega (arith, is) in
    ap (λ k. number_from (number * 10 + k) digits) same ∙ same_value (number * 10 + digit_value digit) digits h.1

-- the first digit is no zero, where the number is none
abbrev Leads : ℕ → Text → Type 0
Leads number digits = (0 < length digits) × (0 < number → 48 < get_or digits 0 0)

leads : (number : ℕ) → number < 10 ^ 64 → Leads number (decimal number)
leads =
    decimal_by_steps_wide Leads (λ m small. (omega arith, λ some. omega arith))
    (λ m digits large h.
    let size = length-append digits ((48 + m % 10) ∷ []) in
    let first = get_or_append_left digits ((48 + m % 10) ∷ []) 0 0 h.0 in
    (omega (arith, size), λ some. let led = h.1 (omega arith) in omega (arith, first, led)))

is_led : (digits : Text) → 0 < length digits → 48 < get_or digits 0 0 → is_numeral digits ≡ true
is_led [] some h = absurd (omega (arith, some))
is_led (digit ∷ digits) some h = let no : (digit == 48) ≡ false = ne_eqb digit 48 (λ e. omega (arith, h, e)) in rw no refl

numeral : (number : ℕ) → number < 10 ^ 64 → is_numeral (decimal number) ≡ true
numeral zero small = rw (decimal_digit 0 (omega arith)) refl
numeral (suc k) small = let led = leads (suc k) small in is_led (decimal (suc k)) led.0 (led.1 (omega arith))

digits_first : (digits rest : Text) → list_all is_digit digits ≡ true → prefix_len is_digit rest ≡ 0
    → prefix_len is_digit (digits ++ rest) ≡ length digits
digits_first [] rest h stop = stop
digits_first (digit ∷ digits) rest h stop =
    let p = and_parts (is_digit digit) (list_all is_digit digits) h in
    let more = digits_first digits rest p.1 stop in
    rw (p.0, more) (omega arith)

-- ---- numbers

pub numeral_first : (number : ℕ) (rest : Text) → number < 10 ^ 64 → prefix_len is_digit rest ≡ 0
    → numeral_at (decimal number ++ rest) ≡ Some (decimal number, rest)
unfolding numeral_at
numeral_first number rest small stop =
    let all = all_digits (decimal number) (decimal_is_IsNumeral_wide number small).0.1 in
    rw (digits_first (decimal number) rest all stop, take-append_seam (decimal number) rest, drop-append_seam (decimal number) rest, numeral number small)
    refl

value_again : (number : ℕ) → number < 10 ^ 64 → number_from 0 (decimal number) ≡ number
value_again number small =
    let read = decimal_is_IsNumeral_wide number small in
    same_value 0 (decimal number) read.0.1 ∙ read.1

pub number_first : (number : ℕ) (rest : Text) → number < 2 ^ 60 → prefix_len is_digit rest ≡ 0
    → number_at (decimal number ++ rest) ≡ Some (number, rest)
unfolding number_at
number_first number rest small stop =
    rw (numeral_first number rest (omega arith) stop, value_again number (omega arith), lt-ltb number (2 ^ 60) small) refl

-- ---- lines

same_bytes : (head rest : Text) → starts_with nat_eq (head ++ rest) head ≡ true
same_bytes [] rest = refl
same_bytes (byte ∷ head) rest = let same : (byte == byte) ≡ true = eq-eqb byte byte refl in rw same (same_bytes head rest)

-- what follows a beginning
pub behind_head : (head rest : Text) → behind head (head ++ rest) ≡ Some rest
behind_head head rest = rw (same_bytes head rest, drop-append_seam head rest) refl

-- a line of a label and a number
pub number_line_again : (label : Text) (number : ℕ) → number < 2 ^ 60
    → number_line label (ended (labelled label number)) ≡ Some number
unfolding number_line
number_line_again label number small =
    rw (append_assoc label (decimal number) (10 ∷ []), behind_head label (decimal number ++ 10 ∷ []), number_first number (10 ∷ []) small refl) refl

pub agent_line_again : (agent : ℕ) → agent < 2 ^ 60
    → is_agent_line agent (ended (labelled (codes "agent ") agent)) ≡ true
unfolding is_agent_line
agent_line_again agent small = rw (number_line_again (codes "agent ") agent small) (eq-eqb agent agent refl)

-- ---- the line that counts

all_behind : (first second third : Text) (a b c : ℕ) (rest : Text)
    → (labelled first a ++ (labelled second b ++ labelled third c)) ++ rest
    ≡ first ++ (decimal a ++ (second ++ (decimal b ++ (third ++ (decimal c ++ rest)))))
all_behind first second third a b c rest = simp append_assoc refl

-- three numbers behind three labels
abbrev three_behind : Text → Text → Text → Text → Option Text
three_behind first second third line = do
  rest ← behind first line
  a ← numeral_at rest
  rest ← behind second a.1
  b ← numeral_at rest
  rest ← behind third b.1
  c ← numeral_at rest
  Some c.1

three_again : (first second third : Text) (a b c : ℕ) → a < 10 ^ 64 → b < 10 ^ 64 → c < 10 ^ 64
    → ((rest : Text) → prefix_len is_digit (second ++ rest) ≡ 0)
    → ((rest : Text) → prefix_len is_digit (third ++ rest) ≡ 0)
    → three_behind first second third (ended (labelled first a ++ (labelled second b ++ labelled third c))) ≡ Some (10 ∷ [])
three_again first second third a b c few fewer fewest stop stop_again =
    ap (three_behind first second third) (all_behind first second third a b c (10 ∷ []))
    ∙ (rw (
      behind_head first (decimal a ++ (second ++ (decimal b ++ (third ++ (decimal c ++ 10 ∷ []))))),
      numeral_first a (second ++ (decimal b ++ (third ++ (decimal c ++ 10 ∷ [])))) few (stop _),
      behind_head second (decimal b ++ (third ++ (decimal c ++ 10 ∷ []))),
      numeral_first b (third ++ (decimal c ++ 10 ∷ [])) fewer (stop_again _),
      behind_head third (decimal c ++ 10 ∷ []),
      numeral_first c (10 ∷ []) fewest refl,
    ) refl)

pub count_line_again : (a b c : ℕ) → a < 2 ^ 64 → b < 2 ^ 64 → c < 2 ^ 128
    → is_count_line (ended (labelled (codes "events ") a ++ (labelled (codes " messages ") b ++ labelled (codes " bytes ") c))) ≡ true
unfolding is_count_line counts_behind
count_line_again a b c few fewer fewest =
    rw (three_again (codes "events ") (codes " messages ") (codes " bytes ") a b c (omega arith) (omega arith) (omega arith) (λ rest. refl) (λ rest. refl)) refl

-- ---- no number ends a line

plain_digit : (byte : ℕ) → is_digit byte ≡ true → is_within_line byte ≡ true
plain_digit byte h = let low = leb-true 48 byte (and_parts (nat_le 48 byte) (nat_le byte 57) h).0 in let no : (byte == 10) ≡ false = ne_eqb byte 10 (λ e. omega (arith, low, e)) in rw no refl

plain_digits : (digits : Text) → list_all is_digit digits ≡ true → IsPlain digits
plain_digits [] h = refl
plain_digits (digit ∷ digits) h =
    let p = and_parts (is_digit digit) (list_all is_digit digits) h in
    and_from (is_within_line digit) (list_all is_within_line digits) (plain_digit digit p.0) (plain_digits digits p.1)

pub plain_number : (number : ℕ) → number < 10 ^ 64 → IsPlain (decimal number)
plain_number number small = plain_digits (decimal number) (all_digits (decimal number) (decimal_is_IsNumeral_wide number small).0.1)

pub plain_labelled : (label : Text) (number : ℕ) → IsPlain label → number < 10 ^ 64 → IsPlain (labelled label number)
plain_labelled label number plain small = plain_append label (decimal number) plain (plain_number number small)
