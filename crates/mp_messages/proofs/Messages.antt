-- The two laws: what is read is spelled so, and what is spelled so is read.
use Rattle.std.proofs.Common.{◌≡◌, ℕ, ◌^◌, ◌<◌, cond, eqb, List, [], ◌∷◌, ◌++◌, length, Option, Some, None, refl, sym, ap, subst, ◌∙◌, inl, inr}
use Rattle.std.proofs.lemmas.Bool.{eqb-true}
use Rattle.std.proofs.lemmas.List.{append-nil, nil_from_length}
use Rattle.std.specs.Prelude.{Result, Ok, Err, IfOk, MatchResult, ◌↔◌, slice_get, is_some, Bool, true, false}
use Rattle.std.proofs.lemmas.Option.{cond_some, none-some}
use Rattle.mp_messages.specs.declared.decoding.DecodeRefusal.{DecodeRefusal}
use Rattle.mp_messages.specs.declared.decoding.DecodeRefusal.TheVariants.{NotAMessage, OutOfMemory}
use Rattle.mp_messages.specs.declared.message.State.{State}
use Rattle.mp_messages.specs.declared.message.Message.{Message}
use Rattle.mp_messages.specs.declared.message.Message.TheVariants as kinds
use Rattle.mp_messages.specs.Spelling.{number, state, findings, ending, spelling, Fits, IsSpelling}
use Rattle.mp_messages.specs.Reading.{◌>>=◌, IsReading, as_kind, number_at, state_at, findings_at, trace_at, ending_at, fields_at, message_at, message_read}
use Rattle.mp_messages.proofs.Taking.{IsBytes, IsBytes-rest, bind_some, chosen, some_is, Takes, Takes-byte}
use Rattle.mp_messages.proofs.Fields.{number_takes, number_again, ending_takes, ending_again, trace_takes, trace_again, findings_take, findings_again}
use Rattle.mp_messages.proofs.States.{state_takes, state_again}

-- what was read of a message
pub record TakesMessage (agents publics : ℕ) (bytes : List ℕ) (x : Message × List ℕ) : Type 0 where
  pub text : Takes bytes (spelling x.0) x.1
  pub fits : Fits agents publics x.0

-- a kind, its byte, and what is known of its fields
as_kind_takes : {A : Type 0} (agents publics b : ℕ) (bytes : List ℕ) (kind : A → Message) (read : Option (A × List ℕ)) (x : Message × List ℕ) → as_kind kind read ≡ Some x → ((y : A × List ℕ) → read ≡ Some y → TakesMessage agents publics (b ∷ bytes) (kind y.0, y.1)) → TakesMessage agents publics (b ∷ bytes) x
as_kind_takes {A} agents publics b bytes kind read x e takes =
    let y = bind_some read (λ (z : A × List ℕ). Some (kind z.0, z.1)) x e in
    subst (λ (m : Message × List ℕ). TakesMessage agents publics (b ∷ bytes) m) (some_is (kind y.0.0, y.0.1) x y.2) (takes y.0 y.1)

state_kind : (agents publics : ℕ) (bytes : List ℕ) (x : Message × List ℕ) → IsBytes bytes → as_kind kinds.State (state_at agents publics bytes) ≡ Some x → TakesMessage agents publics (1 ∷ bytes) x
unfolding spelling
state_kind agents publics bytes x fits e =
    as_kind_takes agents publics 1 bytes kinds.State (state_at agents publics bytes) x e (λ y h.
    let t = state_takes agents publics bytes y fits h in
    record { text = Takes-byte 1 bytes (state y.0) y.1 t.0; fits = record { numbers = t.1; facts = t.2; rising = t.3; tags = t.4 } })

marker_kind : (agents publics : ℕ) (bytes : List ℕ) (x : Message × List ℕ) → IsBytes bytes → as_kind kinds.Marker (number_at bytes) ≡ Some x → TakesMessage agents publics (2 ∷ bytes) x
unfolding spelling
marker_kind agents publics bytes x fits e =
    as_kind_takes agents publics 2 bytes kinds.Marker (number_at bytes) x e (λ y h.
    let t = number_takes bytes y fits h in
    record { text = Takes-byte 2 bytes (number y.0) y.1 t.0; fits = record { numbers = t.1; facts = tt; rising = tt; tags = tt } })

report_kind : (agents publics : ℕ) (bytes : List ℕ) (x : Message × List ℕ) → IsBytes bytes → as_kind kinds.Report (findings_at bytes) ≡ Some x → TakesMessage agents publics (3 ∷ bytes) x
unfolding spelling
report_kind agents publics bytes x fits e =
    as_kind_takes agents publics 3 bytes kinds.Report (findings_at bytes) x e (λ y h.
    let t = findings_take bytes y fits h in
    record { text = Takes-byte 3 bytes (findings y.0) y.1 t.0; fits = record { numbers = t.1; facts = tt; rising = tt; tags = tt } })

pick_kind : (agents publics : ℕ) (bytes : List ℕ) (x : Message × List ℕ) → IsBytes bytes → as_kind kinds.Pick (number_at bytes) ≡ Some x → TakesMessage agents publics (4 ∷ bytes) x
unfolding spelling
pick_kind agents publics bytes x fits e =
    as_kind_takes agents publics 4 bytes kinds.Pick (number_at bytes) x e (λ y h.
    let t = number_takes bytes y fits h in
    record { text = Takes-byte 4 bytes (number y.0) y.1 t.0; fits = record { numbers = t.1; facts = tt; rising = tt; tags = tt } })

trace_kind : (agents publics : ℕ) (bytes : List ℕ) (x : Message × List ℕ) → IsBytes bytes → as_kind (λ t. kinds.Trace t.0 t.1) (trace_at bytes) ≡ Some x → TakesMessage agents publics (5 ∷ bytes) x
unfolding spelling
trace_kind agents publics bytes x fits e =
    as_kind_takes agents publics 5 bytes (λ t. kinds.Trace t.0 t.1) (trace_at bytes) x e (λ y h.
    let t = trace_takes bytes y fits h in
    record { text = Takes-byte 5 bytes (number y.0.0 ++ number y.0.1) y.1 t.0; fits = record { numbers = (t.1, t.2); facts = tt; rising = tt; tags = tt } })

length_kind : (agents publics : ℕ) (bytes : List ℕ) (x : Message × List ℕ) → IsBytes bytes → as_kind kinds.Length (number_at bytes) ≡ Some x → TakesMessage agents publics (6 ∷ bytes) x
unfolding spelling
length_kind agents publics bytes x fits e =
    as_kind_takes agents publics 6 bytes kinds.Length (number_at bytes) x e (λ y h.
    let t = number_takes bytes y fits h in
    record { text = Takes-byte 6 bytes (number y.0) y.1 t.0; fits = record { numbers = t.1; facts = tt; rising = tt; tags = tt } })

done_kind : (agents publics : ℕ) (bytes : List ℕ) (x : Message × List ℕ) → IsBytes bytes → as_kind kinds.Done (ending_at bytes) ≡ Some x → TakesMessage agents publics (7 ∷ bytes) x
unfolding spelling
done_kind agents publics bytes x fits e =
    as_kind_takes agents publics 7 bytes kinds.Done (ending_at bytes) x e (λ y h.
    let t = ending_takes bytes y fits h in
    record { text = Takes-byte 7 bytes (ending y.0) y.1 t; fits = record { numbers = tt; facts = tt; rising = tt; tags = tt } })

-- one test of the byte of the kind
at_byte : (agents publics b k : ℕ) (bytes : List ℕ) (x : Message × List ℕ) (this others : Option (Message × List ℕ)) → cond (eqb b k) this others ≡ Some x → (this ≡ Some x → TakesMessage agents publics (k ∷ bytes) x) → (others ≡ Some x → TakesMessage agents publics (b ∷ bytes) x) → TakesMessage agents publics (b ∷ bytes) x
at_byte agents publics b k bytes x this others e here there =
    elim (chosen (eqb b k) this others (Some x) e) [
      | inl first ↦ subst (λ (j : ℕ). TakesMessage agents publics (j ∷ bytes) x) (sym (eqb-true b k first.0)) (here first.1)
      | inr other ↦ there other.1
    ]

fields_take : (agents publics b : ℕ) (bytes : List ℕ) (x : Message × List ℕ) → IsBytes bytes → fields_at agents publics b bytes ≡ Some x → TakesMessage agents publics (b ∷ bytes) x
unfolding fields_at
fields_take agents publics b bytes x fits e =
    at_byte agents publics b 1 bytes x _ _ e (state_kind agents publics bytes x fits) (λ e2.
    at_byte agents publics b 2 bytes x _ _ e2 (marker_kind agents publics bytes x fits) (λ e3.
    at_byte agents publics b 3 bytes x _ _ e3 (report_kind agents publics bytes x fits) (λ e4.
    at_byte agents publics b 4 bytes x _ _ e4 (pick_kind agents publics bytes x fits) (λ e5.
    at_byte agents publics b 5 bytes x _ _ e5 (trace_kind agents publics bytes x fits) (λ e6.
    at_byte agents publics b 6 bytes x _ _ e6 (length_kind agents publics bytes x fits) (λ e7.
    at_byte agents publics b 7 bytes x _ _ e7 (done_kind agents publics bytes x fits) (λ e8. absurd cc)))))))

message_takes : (agents publics : ℕ) (bytes : List ℕ) (x : Message × List ℕ) → IsBytes bytes → message_at agents publics bytes ≡ Some x → TakesMessage agents publics bytes x
unfolding message_at
message_takes agents publics [] x fits e = absurd cc
message_takes agents publics (b ∷ bytes) x fits e = fields_take agents publics b bytes x (IsBytes-rest b bytes fits) e

pub message_again : (agents publics : ℕ) (m : Message) (rest : List ℕ) → publics < 2 ^ 32 → Fits agents publics m → message_at agents publics (spelling m ++ rest) ≡ Some (m, rest)
unfolding message_at fields_at spelling
message_again agents publics (kinds.State s) rest small fits =
    let read : state_at agents publics (state s ++ rest) ≡ Some (s, rest) = subst (λ (n : ℕ). state_at n publics (state s ++ rest) ≡ Some (s, rest)) fits.tags (state_again publics s rest small fits.numbers fits.facts fits.rising) in
    rw read refl
message_again agents publics (kinds.Marker n) rest small fits = rw (number_again n rest fits.numbers) refl
message_again agents publics (kinds.Report f) rest small fits = rw (findings_again f rest fits.numbers) refl
message_again agents publics (kinds.Pick n) rest small fits = rw (number_again n rest fits.numbers) refl
message_again agents publics (kinds.Trace sent back) rest small fits = rw (trace_again sent back rest fits.numbers.0 fits.numbers.1) refl
message_again agents publics (kinds.Length n) rest small fits = rw (number_again n rest fits.numbers) refl
message_again agents publics (kinds.Done end) rest small fits = rw (ending_again end rest) refl

-- ---- all of the bytes

pub all_take : (agents publics : ℕ) (bytes : List ℕ) (m : Message) → IsBytes bytes → message_read agents publics bytes ≡ Some m → IsSpelling agents publics m bytes
unfolding message_read
all_take agents publics bytes m fits e =
    let a = bind_some (message_at agents publics bytes) (λ x. cond (eqb (length x.1) 0) (Some x.0) None) m e in
    let g = cond_some (eqb (length a.0.1) 0) a.0.0 m a.2 in
    let t = message_takes agents publics bytes a.0 fits a.1 in
    let nothing : a.0.1 ≡ [] = nil_from_length a.0.1 (eqb-true _ _ g.0) in
    let whole : bytes ≡ spelling a.0.0 = t.text.parts ∙ ap (λ (r : List ℕ). spelling a.0.0 ++ r) nothing ∙ append-nil (spelling a.0.0) in
    subst (λ (n : Message). IsSpelling agents publics n bytes) g.1 (record { fits = t.fits; is = whole })

pub all_again : (agents publics : ℕ) (m : Message) (bytes : List ℕ) → publics < 2 ^ 32 → IsSpelling agents publics m bytes → message_read agents publics bytes ≡ Some m
unfolding message_read
all_again agents publics m bytes small s =
    let read : message_at agents publics bytes ≡ Some (m, []) = ap (message_at agents publics) (s.is ∙ sym (append-nil (spelling m))) ∙ message_again agents publics m [] small s.fits in
    rw read refl

-- ---- what a function returned that reads as it should

pub reads_spelled : (agents publics : ℕ) (bytes : List ℕ) (r : Result Message DecodeRefusal) → IsBytes bytes → IsReading r (message_read agents publics bytes) → IfOk r (λ m. IsSpelling agents publics m bytes)
reads_spelled agents publics bytes (Ok m) fits reading = all_take agents publics bytes m fits reading
reads_spelled agents publics bytes (Err e) fits reading = tt

pub reads_found : (agents publics : ℕ) (bytes : List ℕ) (r : Result Message DecodeRefusal) → publics < 2 ^ 32 → IsReading r (message_read agents publics bytes) → (m : Message) → IsSpelling agents publics m bytes → MatchResult r (λ read. read ≡ m) (λ e. e ≡ OutOfMemory)
reads_found agents publics bytes (Ok read) small reading m spelled = some_is read m (sym reading ∙ all_again agents publics m bytes small spelled)
reads_found agents publics bytes (Err OutOfMemory) small reading m spelled = refl
reads_found agents publics bytes (Err NotAMessage) small reading m spelled = absurd (none-some m (sym reading ∙ all_again agents publics m bytes small spelled))

nothing_spelled : (agents publics : ℕ) (bytes : List ℕ) (r : Result Message DecodeRefusal) → publics < 2 ^ 32 → IsReading r (message_read agents publics bytes) → r ≡ Err NotAMessage → (m : Message) → IsSpelling agents publics m bytes → ⊥
nothing_spelled agents publics bytes r small reading e m spelled =
    let nothing : message_read agents publics bytes ≡ None = subst (λ (q : Result Message DecodeRefusal). IsReading q (message_read agents publics bytes)) e reading in
    none-some m (sym nothing ∙ all_again agents publics m bytes small spelled)

refuses_nothing : (agents publics : ℕ) (bytes : List ℕ) (r : Result Message DecodeRefusal) → IsBytes bytes → IsReading r (message_read agents publics bytes) → ((m : Message) → IsSpelling agents publics m bytes → ⊥) → r ≡ Err NotAMessage
refuses_nothing agents publics bytes (Ok m) fits reading none = absurd (none m (all_take agents publics bytes m fits reading))
refuses_nothing agents publics bytes (Err NotAMessage) fits reading none = refl
refuses_nothing agents publics bytes (Err OutOfMemory) fits reading none = absurd (none (kinds.State reading.0) (all_take agents publics bytes (kinds.State reading.0) fits reading.1))

pub reads_refused : (agents publics : ℕ) (bytes : List ℕ) (r : Result Message DecodeRefusal) → publics < 2 ^ 32 → IsBytes bytes → IsReading r (message_read agents publics bytes) → (r ≡ Err NotAMessage) ↔ ((m : Message) → IsSpelling agents publics m bytes → ⊥)
reads_refused agents publics bytes r small fits reading =
    (nothing_spelled agents publics bytes r small reading, refuses_nothing agents publics bytes r fits reading)

pub reads_memory : (agents publics : ℕ) (bytes : List ℕ) (r : Result Message DecodeRefusal) → IsBytes bytes → IsReading r (message_read agents publics bytes) → r ≡ Err OutOfMemory → (s : State) × IsSpelling agents publics (kinds.State s) bytes
reads_memory agents publics bytes r fits reading e =
    let state : (s : State) × (message_read agents publics bytes ≡ Some (kinds.State s)) = subst (λ (q : Result Message DecodeRefusal). IsReading q (message_read agents publics bytes)) e reading in
    (state.0, all_take agents publics bytes (kinds.State state.0) fits state.1)

-- a state that is kept where nothing follows it
kept_state : (s : State) (b : Bool) → is_some (cond b (Some (kinds.State s)) None) ≡ true → cond b (Some (kinds.State s)) None ≡ Some (kinds.State s)
kept_state s true some = refl
kept_state s false some = absurd cc

whole_state : (read : Option (State × List ℕ)) → is_some (as_kind kinds.State read >>= λ m. cond (eqb (length m.1) 0) (Some m.0) None) ≡ true → (s : State) × ((as_kind kinds.State read >>= λ m. cond (eqb (length m.1) 0) (Some m.0) None) ≡ Some (kinds.State s))
whole_state None some = absurd cc
whole_state (Some x) some = (x.0, kept_state x.0 (eqb (length x.1) 0) some)

state_by_byte : (agents publics : ℕ) (rest : List ℕ) → is_some (message_read agents publics (1 ∷ rest)) ≡ true → (s : State) × (message_read agents publics (1 ∷ rest) ≡ Some (kinds.State s))
unfolding message_read message_at fields_at
state_by_byte agents publics rest some = whole_state (state_at agents publics rest) some

-- bytes that begin as those of a state do spell a state, if anything
pub state_by_kind : (agents publics : ℕ) (bytes : List ℕ) → slice_get bytes 0 ≡ Some 1 → is_some (message_read agents publics bytes) ≡ true → (s : State) × (message_read agents publics bytes ≡ Some (kinds.State s))
state_by_kind agents publics [] first some = absurd cc
state_by_kind agents publics (b ∷ rest) first some =
    let one : 1 ≡ b = sym (some_is b 1 first) in
    subst (λ (k : ℕ). is_some (message_read agents publics (k ∷ rest)) ≡ true → (s : State) × (message_read agents publics (k ∷ rest) ≡ Some (kinds.State s))) one (state_by_byte agents publics rest) some

-- ---- laws

pub same_message : (agents publics : ℕ) (m n : Message) (bytes : List ℕ) → publics < 2 ^ 32 → IsSpelling agents publics m bytes → IsSpelling agents publics n bytes → m ≡ n
same_message agents publics m n bytes small p q =
    some_is m n (sym (all_again agents publics m bytes small p) ∙ all_again agents publics n bytes small q)

pub nothing_follows : (agents publics : ℕ) (m n : Message) (bytes rest : List ℕ) → publics < 2 ^ 32 → IsSpelling agents publics m bytes → IsSpelling agents publics n (bytes ++ rest) → rest ≡ []
nothing_follows agents publics m n bytes rest small p q =
    let longer : message_at agents publics (bytes ++ rest) ≡ Some (m, rest) = ap (λ (b : List ℕ). message_at agents publics (b ++ rest)) p.is ∙ message_again agents publics m rest small p.fits in
    let whole : message_at agents publics (bytes ++ rest) ≡ Some (n, []) = ap (message_at agents publics) (q.is ∙ sym (append-nil (spelling n))) ∙ message_again agents publics n [] small q.fits in
    ap (λ (x : Message × List ℕ). x.1) (some_is (m, rest) (n, []) (sym longer ∙ whole))
