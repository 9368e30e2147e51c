-- What is spelled are bytes, and at least one.
use Rattle.mp_world.proofs.Basics.{◌≢◌, ℕ, zero, suc, ◌^◌, ◌<◌, Bool, true, false, List, [], ◌∷◌, ◌++◌, Option, Some, None, arith, All, flat_map, All-append, All-cons, All-nil}
use Rattle.std.proofs.Common.{◌/◌}
use Rattle.std.specs.Int.{byte_at, byte_len, bytes_high_first, w32, w64}
use Rattle.std.proofs.lemmas.Nat.{mod_below}
use Rattle.mp_messages.specs.declared.message.EndKind.TheVariants.{NoPlan, Spent}
use Rattle.mp_messages.specs.declared.message.Message.TheVariants as kinds
use Rattle.mp_messages.specs.Spelling.{counted, ending, findings, flag, optional, short_number, state, tag}
use Rattle.mp_world.specs.AgentWords.{EndKind, Findings, Message, State, number, spelling}
use Rattle.mp_world.specs.SearchWords.{Tag}

abbrev pub AreBytes : List ℕ → Type 0
AreBytes bytes = All (λ byte. byte < 256) bytes

none : AreBytes []
none = All-nil (λ byte. byte < 256)

one : (byte : ℕ) (bytes : List ℕ) → byte < 256 → AreBytes bytes → AreBytes (byte ∷ bytes)
one byte bytes below rest = All-cons (λ b. b < 256) byte bytes below rest

both : (a b : List ℕ) → AreBytes a → AreBytes b → AreBytes (a ++ b)
both a b first second = All-append (λ byte. byte < 256) a b first second

-- ---- numbers

byte_below : (i n : ℕ) → byte_at i n < 256
byte_below zero n = mod_below n 256 (omega arith)
byte_below (suc i) n = mod_below (n / 256 ^ suc i) 256 (omega arith)

high_first : (k n : ℕ) → AreBytes (bytes_high_first k n)
high_first zero n = none
high_first (suc k) n = one (byte_at k n) (bytes_high_first k n) (byte_below k n) (high_first k n)

number_bytes : (n : ℕ) → AreBytes (number n)
unfolding number
number_bytes n = high_first (byte_len w64) n

short_bytes : (n : ℕ) → AreBytes (short_number n)
unfolding short_number
short_bytes n = high_first (byte_len w32) n

-- ---- fields

flag_bytes : (b : Bool) → AreBytes (flag b)
unfolding flag
flag_bytes false = one 0 [] (omega arith) none
flag_bytes true = one 1 [] (omega arith) none

optional_bytes : (o : Option ℕ) → AreBytes (optional o)
unfolding optional
optional_bytes None = one 0 [] (omega arith) none
optional_bytes (Some n) = one 1 (number n) (omega arith) (number_bytes n)

ending_bytes : (e : EndKind) → AreBytes (ending e)
unfolding ending
ending_bytes NoPlan = one 1 [] (omega arith) none
ending_bytes Spent = one 2 [] (omega arith) none

tag_bytes : (t : Tag) → AreBytes (tag t)
unfolding tag
tag_bytes t = both (number t.token) (flag t.met) (number_bytes t.token) (flag_bytes t.met)

all_bytes : {X : Type 0} (spelled : X → List ℕ) → ((x : X) → AreBytes (spelled x)) → (xs : List X)
    → AreBytes (flat_map spelled xs)
all_bytes spelled each [] = none
all_bytes spelled each (x ∷ xs) = both (spelled x) (flat_map spelled xs) (each x) (all_bytes spelled each xs)

counted_bytes : (facts : List ℕ) → AreBytes (counted facts)
unfolding counted
counted_bytes facts = both (short_number _) (flat_map short_number facts) (short_bytes _)
    (all_bytes short_number short_bytes facts)

state_bytes : (s : State) → AreBytes (state s)
unfolding state
state_bytes s =
    both (number s.sent) _ (number_bytes s.sent)
    (both (number s.g) _ (number_bytes s.g)
    (both (number s.h) _ (number_bytes s.h)
    (both (counted s.facts) (flat_map tag s.tags) (counted_bytes s.facts) (all_bytes tag tag_bytes s.tags))))

findings_bytes : (f : Findings) → AreBytes (findings f)
unfolding findings
findings_bytes f =
    both (number f.number) _ (number_bytes f.number)
    (both (optional f.least) _ (optional_bytes f.least)
    (both (optional f.under_way) _ (optional_bytes f.under_way)
    (both (optional f.goal) (flag f.spent) (optional_bytes f.goal) (flag_bytes f.spent))))

-- ---- messages

pub spelled_bytes : (m : Message) → AreBytes (spelling m)
unfolding spelling
spelled_bytes (kinds.State s) = one 1 (state s) (omega arith) (state_bytes s)
spelled_bytes (kinds.Marker n) = one 2 (number n) (omega arith) (number_bytes n)
spelled_bytes (kinds.Report f) = one 3 (findings f) (omega arith) (findings_bytes f)
spelled_bytes (kinds.Pick n) = one 4 (number n) (omega arith) (number_bytes n)
spelled_bytes (kinds.Trace sent back) =
    one 5 (number sent ++ number back) (omega arith)
    (both (number sent) (number back) (number_bytes sent) (number_bytes back))
spelled_bytes (kinds.Length n) = one 6 (number n) (omega arith) (number_bytes n)
spelled_bytes (kinds.Done e) = one 7 (ending e) (omega arith) (ending_bytes e)

-- a list with a first item is not the empty one
not_empty : {X : Type 0} (x : X) (xs : List X) → x ∷ xs ≢ []
not_empty x xs same = cc

pub spelled_some : (m : Message) → spelling m ≢ []
unfolding spelling
spelled_some (kinds.State s) = not_empty 1 (state s)
spelled_some (kinds.Marker n) = not_empty 2 (number n)
spelled_some (kinds.Report f) = not_empty 3 (findings f)
spelled_some (kinds.Pick n) = not_empty 4 (number n)
spelled_some (kinds.Trace sent back) = not_empty 5 (number sent ++ number back)
spelled_some (kinds.Length n) = not_empty 6 (number n)
spelled_some (kinds.Done e) = not_empty 7 (ending e)
