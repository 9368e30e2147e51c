-- What is answered to a state that comes from another agent.
use Rattle.std.proofs.Common.{◌≡◌, ℕ, ◌+◌, ◌^◌, ◌<◌, ◌≤◌, Bool, true, false, not, List, Some, None, Ok, Err, refl, sym, ap, subst, ◌∙◌, inl, inr, arith}
use Rattle.std.specs.Option.{option_map_or}
use Rattle.std.specs.Prelude.{nat_lt, option_and_then, Option, Result, if◌then◌else◌}
use Rattle.std.proofs.lemmas.Bool.{cases_order, lt-ltb}
use Rattle.std.proofs.lemmas.Bool.Decides.{nat_tests}
use Rattle.mp_sets.specs.Numbers.{Numbers}
use Rattle.mp_task.specs.AgentTask.{AgentTask}
use Rattle.mp_messages.specs.declared.message.Message.{Message}
use Rattle.mp_messages.specs.declared.message.Message.TheVariants as kinds
use Rattle.mp_messages.specs.declared.message.State.{State}
use Rattle.mp_messages.specs.Parts.{state_in, IsStateReading, StateParts}
use Rattle.mp_messages.specs.Spelling.{IsSpelling}
use Rattle.mp_messages.proofs.Parts.{state_in_some, no_state_in}
use Rattle.mp_store.specs.Record.{Record}
use Rattle.mp_search.specs.declared.answer.Received.{Received}
use Rattle.mp_search.specs.declared.answer.ReceiveRefusal.{ReceiveRefusal}
use Rattle.mp_search.specs.declared.answer.ReceiveRefusal.TheVariants.{UnknownToken, WrongByte, OutOfMemory}
use Rattle.mp_search.specs.AgentState.{AgentState}
use Rattle.mp_search.specs.Memory.{lacks_memory_for}
use Rattle.mp_search.specs.Receipt.{answered, is_byte_right, is_token_given, receipt, receipt_of_bytes, received, with_sum}
use Rattle.mp_search.specs.Search.{SearchRecord}
use Rattle.mp_search.specs.Spelled.{message_of}
use Rattle.mp_search.proofs.Spelled.{message_is_spelled, spelled_is_message}

pub not_below : (x n : ℕ) → n ≤ x → nat_lt x n ≡ false
not_below x n h = grind (arith, nat_tests)

pub below_if_not : (x n : ℕ) → (n ≤ x → true ≡ false) → nat_lt x n ≡ true
below_if_not x n never =
    elim (cases_order x n) [
      | inl same ↦ absurd (let impossible : true ≡ false = never (omega arith) in cc)
      | inr (inl before) ↦ lt-ltb x n before
      | inr (inr behind) ↦ absurd (let impossible : true ≡ false = never (omega arith) in cc)
    ]

module _ (t : AgentTask) (value : Numbers → Numbers → Option ℕ) (from : ℕ) (m : State) (r : SearchRecord) where
  pub unknown : is_token_given t r.kept m ≡ false → (Err UnknownToken, r) ≡ receipt t value from m r
  unfolding receipt
  unknown given =
      ap (λ (b : Bool).
      if not b then (Err UnknownToken, r) else if not (is_byte_right t r.kept m) then (Err WrongByte, r) else answered r.expansions (received t value from m r.kept)) (sym given)

  pub wrong : is_token_given t r.kept m ≡ true → is_byte_right t r.kept m ≡ false → (Err WrongByte, r) ≡ receipt t value from m r
  unfolding receipt
  wrong given byte =
      ap (λ (b : Bool). if not b then (Err WrongByte, r) else answered r.expansions (received t value from m r.kept)) (sym byte)
      ∙ ap (λ (b : Bool).
      if not b then (Err UnknownToken, r) else if not (is_byte_right t r.kept m) then (Err WrongByte, r) else answered r.expansions (received t value from m r.kept)) (sym given)

  pub right : is_token_given t r.kept m ≡ true → is_byte_right t r.kept m ≡ true → (answer : Received) (new : Record AgentState)
      → (answer, new) ≡ received t value from m r.kept → (Ok answer, record { kept = new; expansions = r.expansions }) ≡ receipt t value from m r
  unfolding receipt
  right given byte answer new is =
      ap (answered r.expansions) is
      ∙ ap (λ (b : Bool). if not b then (Err WrongByte, r) else answered r.expansions (received t value from m r.kept)) (sym byte)
      ∙ ap (λ (b : Bool).
      if not b then (Err UnknownToken, r) else if not (is_byte_right t r.kept m) then (Err WrongByte, r) else answered r.expansions (received t value from m r.kept)) (sym given)

-- ---- bytes that may spell a state

-- a refusal is for want of memory or not, whatever would have been answered
pub lacks_alike : (A B : Type 0) (refusal : ReceiveRefusal) → lacks_memory_for {A = A} (Err refusal) ≡ lacks_memory_for {A = B} (Err refusal)
lacks_alike A B UnknownToken = refl
lacks_alike A B WrongByte = refl
lacks_alike A B OutOfMemory = refl

-- what is answered with a sum is answered without it
sum_some : (f : ℕ) (y : Result Received ReceiveRefusal × SearchRecord) (x : Received) (n : ℕ) (new : SearchRecord) → (Ok (Some (x, n)), new) ≡ with_sum f y
    → (n ≡ f) × ◌≡◌ {A = Result Received ReceiveRefusal × SearchRecord} (Ok x, new) y
sum_some f (Ok answer, r) x n new e =
    let first : ◌≡◌ {A = Result (Option (Received × ℕ)) ReceiveRefusal} (Ok (Some (x, n))) (Ok (Some (answer, f))) =
    ap (λ (p : Result (Option (Received × ℕ)) ReceiveRefusal × SearchRecord). p.0) e in
    let pair : ◌≡◌ {A = Received × ℕ} (x, n) (answer, f) = cc in (
      ap (λ (p : Received × ℕ). p.1) pair,
      λ j. (Ok (pair j).0, ap (λ (p : Result (Option (Received × ℕ)) ReceiveRefusal × SearchRecord). p.1) e j),
    )
sum_some f (Err refusal, r) x n new e =
    let first : ◌≡◌ {A = Result (Option (Received × ℕ)) ReceiveRefusal} (Ok (Some (x, n))) (Err refusal) =
    ap (λ (p : Result (Option (Received × ℕ)) ReceiveRefusal × SearchRecord). p.0) e in
    absurd (let impossible : ⊥ = cc in impossible)

sum_refused : (f : ℕ) (y : Result Received ReceiveRefusal × SearchRecord) (refusal : ReceiveRefusal) (new : SearchRecord) → (Err refusal, new) ≡ with_sum f y
    → ◌≡◌ {A = Result Received ReceiveRefusal × SearchRecord} (Err refusal, new) y
sum_refused f (Ok answer, r) refusal new e =
    let first : ◌≡◌ {A = Result (Option (Received × ℕ)) ReceiveRefusal} (Err refusal) (Ok (Some (answer, f))) =
    ap (λ (p : Result (Option (Received × ℕ)) ReceiveRefusal × SearchRecord). p.0) e in
    absurd (let impossible : ⊥ = cc in impossible)
sum_refused f (Err other, r) refusal new e =
    let first : ◌≡◌ {A = Result (Option (Received × ℕ)) ReceiveRefusal} (Err refusal) (Err other) =
    ap (λ (p : Result (Option (Received × ℕ)) ReceiveRefusal × SearchRecord). p.0) e in
    let same : refusal ≡ other = cc in
    λ j. (Err (same j), ap (λ (p : Result (Option (Received × ℕ)) ReceiveRefusal × SearchRecord). p.1) e j)

sum_none : (f : ℕ) (y : Result Received ReceiveRefusal × SearchRecord) (new : SearchRecord) → (Ok None, new) ≡ with_sum f y → ⊥
sum_none f (Ok answer, r) new e =
    let first : ◌≡◌ {A = Result (Option (Received × ℕ)) ReceiveRefusal} (Ok None) (Ok (Some (answer, f))) =
    ap (λ (p : Result (Option (Received × ℕ)) ReceiveRefusal × SearchRecord). p.0) e in
    cc
sum_none f (Err other, r) new e =
    let first : ◌≡◌ {A = Result (Option (Received × ℕ)) ReceiveRefusal} (Ok None) (Err other) =
    ap (λ (p : Result (Option (Received × ℕ)) ReceiveRefusal × SearchRecord). p.0) e in
    cc

-- what was found for a team of a task's numbers
pub found_for : (t : AgentTask) (agents publics : ℕ) (bytes : List ℕ) (found : Option StateParts) → agents ≡ t.agents → publics ≡ t.publics
    → IsStateReading agents publics bytes found → IsStateReading t.agents t.publics bytes found
found_for t agents publics bytes found same_agents same_publics reading =
    subst (λ (n : ℕ). IsStateReading t.agents n bytes found) same_publics
    (subst (λ (n : ℕ). IsStateReading n publics bytes found) same_agents reading)

module _ (t : AgentTask) (value : Numbers → Numbers → Option ℕ) (from : ℕ) (bytes : List ℕ) (r : SearchRecord) where
  -- what is answered, by the state that is spelled
  by_state : Option State → Result (Option (Received × ℕ)) ReceiveRefusal × SearchRecord
  by_state read = option_map_or (λ m. with_sum (m.g + m.h) (receipt t value from m r)) read (Ok None, r)

  spelled : Option State
  spelled = option_and_then state_in (message_of t.agents t.publics bytes)

  is_by_state : receipt_of_bytes t value from bytes r ≡ by_state spelled
  unfolding receipt_of_bytes by_state spelled
  is_by_state = refl

  pub nothing_read : ((m : State) → IsSpelling t.agents t.publics (kinds.State m) bytes → ⊥) → (Ok None, r) ≡ receipt_of_bytes t value from bytes r
  unfolding by_state spelled
  nothing_read none =
      sym (is_by_state ∙ ap by_state (no_state_in (message_of t.agents t.publics bytes)
      (λ m is. none m (message_is_spelled t.agents t.publics bytes (kinds.State m) is))))

  module _ (m : State) (few : t.publics < 2 ^ 32) (is : IsSpelling t.agents t.publics (kinds.State m) bytes) where
    one_spelled : by_state spelled ≡ with_sum (m.g + m.h) (receipt t value from m r)
    unfolding by_state spelled
    one_spelled =
        ap (λ (o : Option Message). by_state (option_and_then state_in o))
        (spelled_is_message t.agents t.publics (kinds.State m) bytes few is)

    pub read_received : (answer : Received) (new : SearchRecord) → (Ok answer, new) ≡ receipt t value from m r
        → (Ok (Some (answer, m.g + m.h)), new) ≡ receipt_of_bytes t value from bytes r
    read_received answer new e = ap (with_sum (m.g + m.h)) e ∙ sym (is_by_state ∙ one_spelled)

    pub read_refused : (refusal : ReceiveRefusal) (new : SearchRecord) → (Err refusal, new) ≡ receipt t value from m r
        → (Err refusal, new) ≡ receipt_of_bytes t value from bytes r
    read_refused refusal new e = ap (with_sum (m.g + m.h)) e ∙ sym (is_by_state ∙ one_spelled)

  -- ---- and back

  pub was_state : (x : Received) (f : ℕ) (new : SearchRecord) → (Ok (Some (x, f)), new) ≡ receipt_of_bytes t value from bytes r
      → (m : State) × (message_of t.agents t.publics bytes ≡ Some (kinds.State m)) × (f ≡ m.g + m.h)
      × ◌≡◌ {A = Result Received ReceiveRefusal × SearchRecord} (Ok x, new) (receipt t value from m r)
  unfolding by_state spelled
  was_state x f new e = by spelled refl (e ∙ is_by_state)
    where
      by : (read : Option State) → spelled ≡ read → (Ok (Some (x, f)), new) ≡ by_state read
          → (m : State) × (message_of t.agents t.publics bytes ≡ Some (kinds.State m)) × (f ≡ m.g + m.h)
          × ◌≡◌ {A = Result Received ReceiveRefusal × SearchRecord} (Ok x, new) (receipt t value from m r)
      by None is e =
          let first : ◌≡◌ {A = Result (Option (Received × ℕ)) ReceiveRefusal} (Ok (Some (x, f))) (Ok None) =
          ap (λ (p : Result (Option (Received × ℕ)) ReceiveRefusal × SearchRecord). p.0) e in
          absurd (let impossible : ⊥ = cc in impossible)
      by (Some m) is e =
          let parts = sum_some (m.g + m.h) (receipt t value from m r) x f new e in
          (m, state_in_some (message_of t.agents t.publics bytes) m is, parts.0, parts.1)

  pub was_refused : (refusal : ReceiveRefusal) (new : SearchRecord) → (Err refusal, new) ≡ receipt_of_bytes t value from bytes r
      → (m : State) × (message_of t.agents t.publics bytes ≡ Some (kinds.State m))
      × ◌≡◌ {A = Result Received ReceiveRefusal × SearchRecord} (Err refusal, new) (receipt t value from m r)
  unfolding by_state spelled
  was_refused refusal new e = by spelled refl (e ∙ is_by_state)
    where
      by : (read : Option State) → spelled ≡ read → (Err refusal, new) ≡ by_state read
          → (m : State) × (message_of t.agents t.publics bytes ≡ Some (kinds.State m))
          × ◌≡◌ {A = Result Received ReceiveRefusal × SearchRecord} (Err refusal, new) (receipt t value from m r)
      by None is e =
          let first : ◌≡◌ {A = Result (Option (Received × ℕ)) ReceiveRefusal} (Err refusal) (Ok None) =
          ap (λ (p : Result (Option (Received × ℕ)) ReceiveRefusal × SearchRecord). p.0) e in
          absurd (let impossible : ⊥ = cc in impossible)
      by (Some m) is e =
          (m, state_in_some (message_of t.agents t.publics bytes) m is, sum_refused (m.g + m.h) (receipt t value from m r) refusal new e)

  pub was_nothing : (new : SearchRecord) → (Ok None, new) ≡ receipt_of_bytes t value from bytes r → new ≡ r
  unfolding by_state spelled
  was_nothing new e = by spelled (e ∙ is_by_state)
    where
      by : (read : Option State) → (Ok None, new) ≡ by_state read → new ≡ r
      by None e = ap (λ (p : Result (Option (Received × ℕ)) ReceiveRefusal × SearchRecord). p.1) e
      by (Some m) e = absurd (sum_none (m.g + m.h) (receipt t value from m r) new e)
