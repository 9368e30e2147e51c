-- A number that is read is spelled so, and a number that is spelled is read again.
use Rattle.std.proofs.Common.{◌≡◌, refl, sym, ap, ◌∙◌, subst, ℕ, ◌+◌, ◌-◌, ◌*◌, ◌/◌, ◌%◌, ◌^◌, ◌<◌, ◌≤◌, ◌==◌, Bool, true, false, cond, ◌&&◌, [], ◌∷◌, ◌++◌, Option, Some, None, append_assoc, arith, if◌then◌else◌}
use Rattle.std.specs.Prelude.{decimal, nat_le, nat_lt}
use Rattle.std.specs.Option.{option_map_or}
use Rattle.std.proofs.lemmas.Bool.{and_from, and_parts, le-leb, leb-true, lt-ltb, ltb-true, ne_eqb}
use Rattle.std.proofs.lemmas.Fmt.{decimal_by_steps_wide, decimal_digit, decimal_step}
use Rattle.std.proofs.lemmas.Option.{cond_some}
use Rattle.mp_forms.specs.Words.{is_digit}
use Rattle.mp_messages.specs.Reading.{◌>>=◌}
use Rattle.mp_messages.proofs.Taking.{bind_some, some_is}
use Rattle.mp_text.specs.Lines.{Text}
use Rattle.mp_text.specs.Reading.{byte_at}
use Rattle.mp_certificates.specs.Reading.{digit_of, number_at, number_below, number_from, with_digit}

-- a step behind a test that passed
passed : {A : Type 0} (b : Bool) (o : Option A) (y : A) → cond b o None ≡ Some y → (b ≡ true) × (o ≡ Some y)
passed true o y e = (refl, e)
passed false o y e = absurd cc

-- ---- what is read is spelled

-- one digit more
digit_more : (n d : ℕ) → 0 < n → d < 10 → n * 10 + d < 2 ^ 64 → decimal (n * 10 + d) ≡ decimal n ++ ((48 + d) ∷ [])
digit_more n d some small fits =
    let front : (n * 10 + d) / 10 ≡ n = omega arith in
    let end : (n * 10 + d) % 10 ≡ d = omega arith in
    decimal_step (n * 10 + d) (omega arith) fits ∙ (λ i. decimal (front i) ++ ((48 + end i) ∷ []))

-- a number and what follows it are those that were read
abbrev IsSame : ℕ → Text → (ℕ × Text) → Type 0
IsSame bound text x = (x.0 < bound) × (text ≡ decimal x.0 ++ x.1)

grown : (bound number byte : ℕ) (rest : Text) (x : ℕ × Text) (n : ℕ) → bound ≤ 2 ^ 61 → 48 ≤ byte → byte ≤ 57
    → 0 < number → number * 10 + (byte - 48) < bound → number * 10 + (byte - 48) ≡ n
    → IsSame bound (decimal n ++ rest) x → IsSame bound (decimal number ++ (byte ∷ rest)) x
grown bound number byte rest x n fits low high some below is known =
    let back : 48 + (byte - 48) ≡ byte = omega arith in
    let one : decimal n ≡ decimal number ++ (byte ∷ []) =
    ap decimal (sym is) ∙ digit_more number (byte - 48) some (omega arith) (omega arith) ∙ ap (λ (b : ℕ). decimal number ++ (b ∷ [])) back in
    (known.0, sym (append_assoc (decimal number) (byte ∷ []) rest) ∙ ap (λ (t : Text). t ++ rest) (sym one) ∙ known.1)

-- the step of a byte
abbrev by_byte : ℕ → ℕ → ℕ → Text → Option ℕ → Option (ℕ × Text)
by_byte bound number byte rest digit =
    option_map_or (λ d. with_digit bound number d >>= (λ n. number_from bound n rest)) digit (Some (number, byte ∷ rest))

at_byte : (bound number byte : ℕ) (rest : Text) (x : ℕ × Text) → bound ≤ 2 ^ 61 → number < bound
    → (test : Bool) → is_digit byte ≡ test
    → ((n : ℕ) → n < bound → number_from bound n rest ≡ Some x → IsSame bound (decimal n ++ rest) x)
    → by_byte bound number byte rest (if test then Some (byte - 48) else None) ≡ Some x
    → IsSame bound (decimal number ++ (byte ∷ rest)) x
at_byte bound number byte rest x fits small false is more e =
    let P : (ℕ × Text) → Type 0 = IsSame bound (decimal number ++ (byte ∷ rest)) in
    subst P (some_is (number, byte ∷ rest) x e) (small, refl)
at_byte bound number byte rest x fits small true is more e =
    let range = and_parts (nat_le 48 byte) (nat_le byte 57) is in
    let low : 48 ≤ byte = leb-true 48 byte range.0 in
    let high : byte ≤ 57 = leb-true byte 57 range.1 in
    let b = bind_some (with_digit bound number (byte - 48)) (λ n. number_from bound n rest) x e in
    let g = cond_some (nat_lt 0 number && nat_lt (number * 10 + (byte - 48)) bound) (number * 10 + (byte - 48)) b.0 b.1 in
    let tests = and_parts (nat_lt 0 number) (nat_lt (number * 10 + (byte - 48)) bound) g.0 in
    let some : 0 < number = ltb-true 0 number tests.0 in
    let below : number * 10 + (byte - 48) < bound = ltb-true (number * 10 + (byte - 48)) bound tests.1 in
    let lt : b.0 < bound = subst (λ (k : ℕ). k < bound) g.1 below in
    grown bound number byte rest x b.0 fits low high some below g.1 (more b.0 lt b.2)

from_read : (bound number : ℕ) (text : Text) (x : ℕ × Text) → bound ≤ 2 ^ 61 → number < bound
    → number_from bound number text ≡ Some x → IsSame bound (decimal number ++ text) x
unfolding number_from
from_read bound number [] x fits small e =
    let P : (ℕ × Text) → Type 0 = IsSame bound (decimal number ++ []) in
    subst P (some_is (number, []) x e) (small, refl)
from_read bound number (byte ∷ rest) x fits small e =
    at_byte bound number byte rest x fits small (is_digit byte) refl (λ n lt. from_read bound n rest x fits lt) e

below_read : (bound : ℕ) (text : Text) (x : ℕ × Text) → bound ≤ 2 ^ 61 → number_below bound text ≡ Some x → IsSame bound text x
unfolding number_below
below_read bound [] x fits e = absurd cc
below_read bound (byte ∷ rest) x fits e =
    let b = bind_some (digit_of byte) (λ digit. if nat_lt digit bound then number_from bound digit rest else None) x e in
    let g = cond_some (is_digit byte) (byte - 48) b.0 b.1 in
    let range = and_parts (nat_le 48 byte) (nat_le byte 57) g.0 in
    let low : 48 ≤ byte = leb-true 48 byte range.0 in
    let high : byte ≤ 57 = leb-true byte 57 range.1 in
    let p = passed (nat_lt b.0 bound) (number_from bound b.0 rest) x b.2 in
    let known = from_read bound b.0 rest x fits (ltb-true b.0 bound p.0) p.1 in
    let small : b.0 < 10 = omega (arith, g.1) in
    let back : 48 + b.0 ≡ byte = omega (arith, g.1) in
    let digits : decimal b.0 ≡ byte ∷ [] = decimal_digit b.0 small ∙ ap (λ (k : ℕ). k ∷ []) back in
    (known.0, ap (λ (t : Text). t ++ rest) (sym digits) ∙ known.1)

-- a number that was read is within its limits, and what was read is it and what follows
pub number_read : (least bound : ℕ) (text : Text) (x : ℕ × Text) → bound ≤ 2 ^ 61 → number_at least bound text ≡ Some x
    → (least ≤ x.0) × (x.0 < bound) × (text ≡ decimal x.0 ++ x.1)
unfolding number_at
number_read least bound text x fits e =
    let b = bind_some (number_below bound text) (λ n. if nat_le least n.0 then Some n else None) x e in
    let g = cond_some (nat_le least b.0.0) b.0 x b.2 in
    let known = below_read bound text b.0 fits b.1 in
    let P : (ℕ × Text) → Type 0 = λ y. (least ≤ y.0) × (y.0 < bound) × (text ≡ decimal y.0 ++ y.1) in
    subst P g.1 (leb-true least b.0.0 g.0, known.0, known.1)

-- ---- what is spelled is read again

digit_again : (d : ℕ) → d < 10 → digit_of (48 + d) ≡ Some d
digit_again d small =
    let low = le-leb 48 (48 + d) (omega arith) in
    let high = le-leb (48 + d) 57 (omega arith) in
    let back : (48 + d) - 48 ≡ d = omega arith in
    ap (λ (test : Bool). if test then Some ((48 + d) - 48) else None) (and_from (nat_le 48 (48 + d)) (nat_le (48 + d) 57) low high)
    ∙ ap (λ (k : ℕ). Some k) back

abbrev IsReadBelow : ℕ → Text → Type 0
IsReadBelow n digits =
    (bound : ℕ) (rest : Text) → n < bound → number_below bound (digits ++ rest) ≡ number_from bound n rest

first_again : (n : ℕ) → n < 10 → IsReadBelow n ((48 + n) ∷ [])
unfolding number_below
first_again n small bound rest lt =
    ap (λ (o : Option ℕ). o >>= (λ digit. if nat_lt digit bound then number_from bound digit rest else None)) (digit_again n small)
    ∙ ap (λ (test : Bool). if test then number_from bound n rest else None) (lt-ltb n bound lt)

next_again : (bound front d n : ℕ) (rest : Text) → 0 < front → d < 10 → front * 10 + d ≡ n → n < bound
    → number_from bound front ((48 + d) ∷ rest) ≡ number_from bound n rest
unfolding number_from
next_again bound front d n rest some small is lt =
    let below : front * 10 + d < bound = omega (arith, is, lt) in
    ap (by_byte bound front (48 + d) rest) (digit_again d small)
    ∙ ap (λ (test : Bool). (if test then Some (front * 10 + d) else None) >>= (λ k. number_from bound k rest))
    (and_from (nat_lt 0 front) (nat_lt (front * 10 + d) bound) (lt-ltb 0 front some) (lt-ltb (front * 10 + d) bound below))
    ∙ ap (λ (k : ℕ). number_from bound k rest) is

more_again : (n : ℕ) (digits : Text) → 10 ≤ n → IsReadBelow (n / 10) digits → IsReadBelow n (digits ++ ((48 + n % 10) ∷ []))
more_again n digits large known bound rest lt =
    ap (number_below bound) (append_assoc digits ((48 + n % 10) ∷ []) rest)
    ∙ known bound ((48 + n % 10) ∷ rest) (omega arith)
    ∙ next_again bound (n / 10) (n % 10) n rest (omega arith) (omega arith) (omega arith) lt

below_again : (n : ℕ) → n < 10 ^ 64 → IsReadBelow n (decimal n)
below_again = decimal_by_steps_wide IsReadBelow first_again more_again

-- no digit follows
abbrev pub IsStop : Text → Type 0
IsStop [] = Unit {0}
IsStop (byte ∷ rest) = digit_of byte ≡ None

stop_again : (bound n : ℕ) (rest : Text) → IsStop rest → number_from bound n rest ≡ Some (n, rest)
unfolding number_from
stop_again bound n [] stop = refl
stop_again bound n (byte ∷ rest) stop = ap (by_byte bound n byte rest) stop

pub number_again : (least bound n : ℕ) (rest : Text) → least ≤ n → n < bound → n < 10 ^ 64 → IsStop rest
    → number_at least bound (decimal n ++ rest) ≡ Some (n, rest)
unfolding number_at
number_again least bound n rest from below small stop =
    ap (λ (o : Option (ℕ × Text)). o >>= (λ x. if nat_le least x.0 then Some x else None))
    (below_again n small bound rest below ∙ stop_again bound n rest stop)
    ∙ ap (λ (test : Bool). if test then Some (n, rest) else None) (le-leb least n from)

-- ---- no number begins with the last bracket of a list

abbrev BeginsOtherwise : ℕ → Text → Type 0
BeginsOtherwise n digits = (rest : Text) → byte_at 93 (digits ++ rest) ≡ None

first_otherwise : (n : ℕ) → n < 10 → BeginsOtherwise n ((48 + n) ∷ [])
unfolding byte_at
first_otherwise n small rest =
    let differ : ((48 + n) == 93) ≡ false = ne_eqb (48 + n) 93 (λ e. omega (arith, e, small)) in
    ap (λ (test : Bool). if test then Some rest else None) differ

more_otherwise : (n : ℕ) (digits : Text) → 10 ≤ n → BeginsOtherwise (n / 10) digits → BeginsOtherwise n (digits ++ ((48 + n % 10) ∷ []))
more_otherwise n digits large known rest =
    ap (byte_at 93) (append_assoc digits ((48 + n % 10) ∷ []) rest) ∙ known ((48 + n % 10) ∷ rest)

pub begins_otherwise : (n : ℕ) → n < 10 ^ 64 → BeginsOtherwise n (decimal n)
begins_otherwise = decimal_by_steps_wide BeginsOtherwise first_otherwise more_otherwise
