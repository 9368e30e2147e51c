-- Numbers of agents: what is read is a number as it is written, and what is written is read again.
use Rattle.std.proofs.Common.{◌≡◌, refl, ◌∙◌, subst, ℕ, ◌+◌, ◌-◌, ◌/◌, ◌%◌, ◌<◌, ◌≤◌, ◌==◌, Bool, true, false, cond, ◌&&◌, [], ◌∷◌, ◌++◌, Option, Some, None, arith, inl, inr}
use Rattle.std.specs.Prelude.{decimal, nat_le, nat_lt, IfSome}
use Rattle.std.proofs.lemmas.Bool.{cases_lt, and_parts, leb-true, le-leb, ltb-false, le-ltb, eqb-true}
use Rattle.std.proofs.lemmas.Fmt.{decimal_digit}
use Rattle.itoa.proofs.Decimal.{decimal_two}
use Rattle.mp_messages.proofs.Taking.{bind_some, unless_some}
use Rattle.mp_text.specs.Lines.{Text}
use Rattle.mp_text.specs.Reading.{agent_at, digit_at, either, number_at, two_digits_at}

-- a number up to so many was read from the front of a text
pub record IsRead (agents : ℕ) (text : Text) (x : ℕ × Text) : Type 0 where
  pub some : 1 ≤ x.0
  pub few : x.0 ≤ agents
  pub is : text ≡ decimal x.0 ++ x.1

byte_digit : (byte : ℕ) → 49 ≤ byte → byte ≤ 57 → decimal (byte - 48) ≡ byte ∷ []
byte_digit byte low high = let e : 48 + (byte - 48) ≡ byte = omega arith in decimal_digit (byte - 48) (omega arith) ∙ rw e refl

byte_two : (byte : ℕ) → 48 ≤ byte → byte ≤ 54 → decimal (byte - 38) ≡ 49 ∷ byte ∷ []
byte_two byte low high =
    let tens : 48 + (byte - 38) / 10 ≡ 49 = omega arith in
    let ones : 48 + (byte - 38) % 10 ≡ byte = omega arith in
    decimal_two (byte - 38) (omega arith) (omega arith) ∙ rw (tens, ones) refl

digit_case : (byte : ℕ) (rest : Text) (test : Bool) → (nat_le 49 byte && nat_le byte 57) ≡ test
    → IfSome (cond test (Some (byte - 48, rest)) None) (IsRead 16 (byte ∷ rest))
digit_case byte rest false h = tt
digit_case byte rest true h =
    let p = and_parts (nat_le 49 byte) (nat_le byte 57) h in
    let low = leb-true 49 byte p.0 in
    let high = leb-true byte 57 p.1 in
    record { some = omega arith; few = omega arith; is = rw (byte_digit byte low high) refl }

digit_read : (text : Text) → IfSome (digit_at text) (IsRead 16 text)
unfolding digit_at
digit_read [] = tt
digit_read (byte ∷ rest) = digit_case byte rest (nat_le 49 byte && nat_le byte 57) refl

two_case : (ten byte : ℕ) (rest : Text) (test : Bool) → ((ten == 49) && (nat_le 48 byte && nat_le byte 54)) ≡ test
    → IfSome (cond test (Some (byte - 38, rest)) None) (IsRead 16 (ten ∷ byte ∷ rest))
two_case ten byte rest false h = tt
two_case ten byte rest true h =
    let p = and_parts (ten == 49) _ h in
    let q = and_parts (nat_le 48 byte) (nat_le byte 54) p.1 in
    let low = leb-true 48 byte q.0 in
    let high = leb-true byte 54 q.1 in
    let one : ten ≡ 49 = eqb-true ten 49 p.0 in
    record { some = omega arith; few = omega arith; is = rw (byte_two byte low high, one) refl }

two_read : (text : Text) → IfSome (two_digits_at text) (IsRead 16 text)
unfolding two_digits_at
two_read [] = tt
two_read (ten ∷ []) = tt
two_read (ten ∷ byte ∷ rest) = two_case ten byte rest _ refl

either_read : (text : Text) (first second : Option (ℕ × Text)) → IfSome first (IsRead 16 text) → IfSome second (IsRead 16 text) → IfSome (either first second) (IsRead 16 text)
either_read text None second h k = k
either_read text (Some x) second h k = h

number_read : (text : Text) → IfSome (number_at text) (IsRead 16 text)
unfolding number_at
number_read text = either_read text (two_digits_at text) (digit_at text) (two_read text) (digit_read text)

if_some : {A : Type 0} (P : A → Type 0) (o : Option A) (x : A) → o ≡ Some x → IfSome o P → P x
if_some P o x is h = rw is at h

pub agent_read : (agents : ℕ) (text : Text) (x : ℕ × Text) → agent_at agents text ≡ Some x → IsRead agents text x
unfolding agent_at
agent_read agents text x e =
    let b = bind_some (number_at text) (λ n. cond (nat_lt agents n.0) None (Some n)) x e in
    let g = unless_some (nat_lt agents b.0.0) b.0 x b.2 in
    let read = if_some (IsRead 16 text) (number_at text) b.0 b.1 (number_read text) in
    let few = ltb-false agents b.0.0 g.0 in
    subst (λ y. IsRead agents text y) g.1 (record { some = read.some; few = few; is = read.is })

-- ---- and again

-- no digit follows
abbrev pub IsStop : Text → Type 0
IsStop [] = Unit {0}
IsStop (byte ∷ rest) = (nat_le 48 byte && nat_le byte 54) ≡ false

no_two : (one : ℕ) (rest : Text) → IsStop rest → two_digits_at (one ∷ rest) ≡ None
unfolding two_digits_at
no_two one [] h = refl
no_two one (byte ∷ rest) h = by (one == 49)
  where
    by : (test : Bool) → cond {A = Option (ℕ × Text)} (test && (nat_le 48 byte && nat_le byte 54)) (Some (byte - 38, rest)) None ≡ None
    by true = rw h refl
    by false = refl

one_again : (n : ℕ) (rest : Text) → 1 ≤ n → n < 10 → IsStop rest → number_at (decimal n ++ rest) ≡ Some (n, rest)
unfolding number_at digit_at
one_again n rest some small stop =
    let low : nat_le 49 (48 + n) ≡ true = le-leb _ _ (omega arith) in
    let high : nat_le (48 + n) 57 ≡ true = le-leb _ _ (omega arith) in
    let back : (48 + n) - 48 ≡ n = omega arith in
    rw (decimal_digit n small, no_two (48 + n) rest stop, low, high, back) refl

two_again : (n : ℕ) (rest : Text) → 10 ≤ n → n ≤ 16 → number_at (decimal n ++ rest) ≡ Some (n, rest)
unfolding number_at two_digits_at
two_again n rest large few =
    let tens : 48 + n / 10 ≡ 49 = omega arith in
    let low : nat_le 48 (48 + n % 10) ≡ true = le-leb _ _ (omega arith) in
    let high : nat_le (48 + n % 10) 54 ≡ true = le-leb _ _ (omega arith) in
    let back : (48 + n % 10) - 38 ≡ n = omega arith in
    rw (decimal_two n large (omega arith), tens, low, high, back) refl

number_again : (n : ℕ) (rest : Text) → 1 ≤ n → n ≤ 16 → IsStop rest → number_at (decimal n ++ rest) ≡ Some (n, rest)
number_again n rest some few stop =
    elim (cases_lt n 10) [
      | inl small ↦ one_again n rest some small stop
      | inr large ↦ two_again n rest large few
    ]

pub agent_again : (agents n : ℕ) (rest : Text) → 1 ≤ n → n ≤ agents → agents ≤ 16 → IsStop rest → agent_at agents (decimal n ++ rest) ≡ Some (n, rest)
unfolding agent_at
agent_again agents n rest some few team stop =
    rw (number_again n rest some (omega arith) stop, le-ltb agents n few) refl
