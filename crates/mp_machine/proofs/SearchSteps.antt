-- What an expansion and a state that comes do to an agent.
use Rattle.std.proofs.Common.{◌≡◌, ◌≢◌, ℕ, ◌+◌, ◌*◌, ◌<◌, ◌≤◌, Bool, true, false, List, [], ◌∷◌, ◌++◌, length, map, Option, All, refl, sym, ap, subst, ◌∙◌, arith}
use Rattle.std.specs.Prelude.{Result, Ok, Err, not, if◌then◌else◌}
use Rattle.std.specs.List.{flat_map}
use Rattle.std.proofs.lemmas.Bool.{and_parts, eq-eqb, false≢true}
use Rattle.std.proofs.lemmas.List.{append-nil, map-append}
use Rattle.mp_sets.specs.Numbers.{Numbers}
use Rattle.mp_task.specs.AgentTask.{AgentTask}
use Rattle.mp_task.specs.Limits.{IsWithinLimits, most_expansions}
use Rattle.mp_messages.specs.declared.message.State.{State}
use Rattle.mp_search.specs.declared.answer.ExpandRefusal.{ExpandRefusal}
use Rattle.mp_search.specs.declared.answer.ExpandRefusal.TheVariants.{AtLimit, Nothing}
use Rattle.mp_search.specs.declared.answer.Received.{Received}
use Rattle.mp_search.specs.declared.answer.ReceiveRefusal.{ReceiveRefusal}
use Rattle.mp_search.specs.declared.answer.ReceiveRefusal.TheVariants as receipts
use Rattle.mp_search.specs.declared.answer.Sending.{Sending}
use Rattle.mp_search.specs.Expansion as expansions
use Rattle.mp_search.specs.Expansion.{expanded, expansion}
use Rattle.mp_search.specs.Receipt as receiving
use Rattle.mp_search.specs.Receipt.{IsStateFor, is_byte_right, is_token_given, receipt, received}
use Rattle.mp_search.specs.Search.{AgentSearch, SearchRecord, is_open_below, is_spent, may_expand}
use Rattle.mp_snapshot.specs.Notes.{Notes}
use Rattle.mp_snapshot.specs.Rules.{after_state}
use Rattle.mp_machine.specs.declared.member.Member.{Member}
use Rattle.mp_machine.specs.declared.outgoing.Out.{Out}
use Rattle.mp_machine.specs.declared.refusal.BadKind.{BadKind}
use Rattle.mp_machine.specs.declared.refusal.BadKind.TheVariants as bad
use Rattle.mp_machine.specs.LocalStep.{outgoing_of, with_search}
use Rattle.mp_machine.specs.MemberFields.{EntryFits, HasStepped, HasTaken, IsAtWork, IsReady, SendingFits, record_of, sent_state}
use Rattle.mp_machine.specs.Outgoing.{Step, in_bytes, without_messages}
use Rattle.mp_machine.specs.Taking.{took_state, unless_bad, with_state}
use Rattle.mp_machine.proofs.EntriesFit.{FitsUpTo, HasExpanded, expanded_fits, received_fits}
use Rattle.mp_machine.proofs.ReadyLemmas.{ready_searched, ready_state}

pub states_sent : (xs : List Sending) → flat_map sent_state xs ≡ map in_bytes (flat_map outgoing_of xs)
states_sent [] = refl
states_sent (x ∷ xs) =
    ap (λ (ys : List Out). sent_state x ++ ys) (states_sent xs) ∙ sym (map-append in_bytes (outgoing_of x) (flat_map outgoing_of xs))

-- the entries and what was sent, as they are
up : (s : AgentSearch) → IsAtWork s → FitsUpTo (length s.done.kept.entries) (200000 * s.done.expansions) s.done.kept
up s work = record { entries = work.entries; longer = omega arith; sent = work.sent }

-- ---- an expansion

pub expansion_is : (t : AgentTask) (value : Numbers → Numbers → Option ℕ) (limit : ℕ) (r : SearchRecord) → may_expand limit r ≡ true
    → expansion t value limit r ≡ expansions.answered (expanded t value r)
unfolding expansion
expansion_is t value limit r may =
    let parts = and_parts (not (is_spent limit r)) (is_open_below r.kept) may in
    let unspent : is_spent limit r ≡ false = unless (is_spent limit r) parts.0 in
    λ j. if unspent j then (Err AtLimit, r) else (if parts.1 j then expansions.answered (expanded t value r) else (Err Nothing, r))
  where
    unless : (b : Bool) → not b ≡ true → b ≡ false
    unless true h = sym h
    unless false h = refl

module _ (s new : AgentSearch) (m : Member) (value : Numbers → Numbers → Option ℕ) (sendings : List Sending) (ready : IsReady s m)
    (may : may_expand s.limit s.done ≡ true) (task : new.task ≡ s.task) (limit : new.limit ≡ s.limit) (works : new.failed ≡ false)
    (done : (Ok sendings, new.done) ≡ expansion s.task value s.limit s.done) where
  whole : ◌≡◌ {A = Result (List Sending) ExpandRefusal × SearchRecord} (Ok sendings, new.done) (Ok (expanded s.task value s.done).0, (expanded s.task value s.done).1)
  whole = done ∙ expansion_is s.task value s.limit s.done may

  pub sendings_are : sendings ≡ (expanded s.task value s.done).0
  sendings_are =
      let ok : ◌≡◌ {A = Result (List Sending) ExpandRefusal} (Ok sendings) (Ok (expanded s.task value s.done).0) =
      ap (λ (p : Result (List Sending) ExpandRefusal × SearchRecord). p.0) whole
      in
      cc

  pub done_is : new.done ≡ (expanded s.task value s.done).1
  done_is = ap (λ (p : Result (List Sending) ExpandRefusal × SearchRecord). p.1) whole

  unspent : s.done.expansions ≢ s.limit
  unspent same =
      let spent : is_spent s.limit s.done ≡ true = eq-eqb s.done.expansions s.limit same in
      let parts = and_parts (not (is_spent s.limit s.done)) (is_open_below s.done.kept) may in
      false≢true ((λ j. not (sym spent j)) ∙ parts.0)

  fits : HasExpanded (length s.done.kept.entries) s.done (expanded s.task value s.done)
  fits =
      let work = ready.search in
      let within = work.within in
      let most = work.limit in
      let few : s.done.expansions < s.limit = omega (arith, unspent) in
      expanded_fits (length s.done.kept.entries) s.task work.task value s.done (omega arith) (up s work)

  pub sendings_fit : All SendingFits sendings
  sendings_fit = subst (λ (xs : List Sending). All SendingFits xs) (sym sendings_are) fits.out

  at_work : IsAtWork new
  at_work =
      let work = ready.search in
      let most = work.limit in
      let within = work.within in
      let one = fits.one in
      let few : s.done.expansions < s.limit = omega (arith, unspent) in
      record {
        works = works;
        task = subst (λ (t : AgentTask). IsWithinLimits t) (sym task) work.task;
        limit = subst (λ (n : ℕ). n ≤ most_expansions) (sym limit) work.limit;
        within =
            subst (λ (n : ℕ). n ≤ new.limit) (ap (λ (r : SearchRecord). r.expansions) (sym done_is))
            (subst (λ (n : ℕ). (expanded s.task value s.done).1.expansions ≤ n) (sym limit) (omega arith));
        sent =
            subst (λ (r : SearchRecord). length r.kept.sent ≤ 200000 * r.expansions) (sym done_is) fits.up.sent;
        entries = subst (λ (r : SearchRecord). All EntryFits r.kept.entries) (sym done_is) fits.up.entries;
      }

  pub ready_expanded : IsReady new m
  ready_expanded =
      ready_searched s new m ready at_work task
      (subst (λ (r : SearchRecord). length s.done.kept.entries ≤ length r.kept.entries) (sym done_is) fits.up.longer)

  pub expanded_stepped : (old out : List Out) → out ≡ old ++ flat_map sent_state sendings
      → HasStepped (with_search (record_of s m) (expanded s.task value s.done)) old out (record_of new m)
  expanded_stepped old out sent = record {
    out =
        sent ∙ ap (λ (xs : List Out). old ++ xs) (states_sent sendings)
        ∙ ap (λ (xs : List Sending). old ++ map in_bytes (flat_map outgoing_of xs)) sendings_are;
    after = λ j. record (record_of s m) { task = task j; limit = limit j; search = done_is j };
  }

-- ---- a state that comes

module _ (t : AgentTask) (value : Numbers → Numbers → Option ℕ) (from : ℕ) (m : State) (r : SearchRecord) where
  -- what a receipt answers, by whether its own tag's token was given, and its met byte is right
  by_tests : Bool → Bool → Result Received ReceiveRefusal × SearchRecord
  by_tests given right =
      if not given then (Err receipts.UnknownToken, r)
      else if not right then (Err receipts.WrongByte, r)
      else receiving.answered r.expansions (received t value from m r.kept)

  receipt_is : receipt t value from m r ≡ by_tests (is_token_given t r.kept m) (is_byte_right t r.kept m)
  unfolding receipt by_tests
  receipt_is = refl

  pub record WasReceived (new : SearchRecord) : Type 0 where
    pub given : is_token_given t r.kept m ≡ true
    pub right : is_byte_right t r.kept m ≡ true
    pub kept : new ≡ record { kept = (received t value from m r.kept).1; expansions = r.expansions }

  pub was_received : (x : Received) (new : SearchRecord) → (Ok x, new) ≡ receipt t value from m r → WasReceived new
  unfolding by_tests
  was_received x new is = by (is_token_given t r.kept m) (is_byte_right t r.kept m) refl refl (is ∙ receipt_is)
    where
      by : (a b : Bool) → is_token_given t r.kept m ≡ a → is_byte_right t r.kept m ≡ b → (Ok x, new) ≡ by_tests a b → WasReceived new
      by true true given right e = record { given = given; right = right; kept = ap (λ (p : Result Received ReceiveRefusal × SearchRecord). p.1) e }
      by true false given right e = absurd (let impossible : ◌≡◌ {A = Result Received ReceiveRefusal} (Ok x) (Err receipts.WrongByte) = ap (λ (p : Result Received ReceiveRefusal × SearchRecord). p.0) e in let no_way : ⊥ = cc in no_way)
      by false b given right e = absurd (let impossible : ◌≡◌ {A = Result Received ReceiveRefusal} (Ok x) (Err receipts.UnknownToken) = ap (λ (p : Result Received ReceiveRefusal × SearchRecord). p.0) e in let no_way : ⊥ = cc in no_way)

  -- a receipt that is refused leaves the record as it is
  pub was_unknown : (new : SearchRecord) → (Err receipts.UnknownToken, new) ≡ receipt t value from m r
      → (is_token_given t r.kept m ≡ false) × (new ≡ r)
  unfolding by_tests
  was_unknown new is = by (is_token_given t r.kept m) (is_byte_right t r.kept m) refl (is ∙ receipt_is)
    where
      by : (a b : Bool) → is_token_given t r.kept m ≡ a → (Err receipts.UnknownToken, new) ≡ by_tests a b → (is_token_given t r.kept m ≡ false) × (new ≡ r)
      by true true given e = absurd (let impossible : ◌≡◌ {A = Result Received ReceiveRefusal} (Err receipts.UnknownToken) (Ok (received t value from m r.kept).0) = ap (λ (p : Result Received ReceiveRefusal × SearchRecord). p.0) e in let no_way : ⊥ = cc in no_way)
      by true false given e = absurd (let impossible : ◌≡◌ {A = Result Received ReceiveRefusal} (Err receipts.UnknownToken) (Err receipts.WrongByte) = ap (λ (p : Result Received ReceiveRefusal × SearchRecord). p.0) e in let no_way : ⊥ = cc in no_way)
      by false b given e = (given, ap (λ (p : Result Received ReceiveRefusal × SearchRecord). p.1) e)

  pub was_wrong : (new : SearchRecord) → (Err receipts.WrongByte, new) ≡ receipt t value from m r
      → (is_token_given t r.kept m ≡ true) × (is_byte_right t r.kept m ≡ false) × (new ≡ r)
  unfolding by_tests
  was_wrong new is = by (is_token_given t r.kept m) (is_byte_right t r.kept m) refl refl (is ∙ receipt_is)
    where
      by : (a b : Bool) → is_token_given t r.kept m ≡ a → is_byte_right t r.kept m ≡ b → (Err receipts.WrongByte, new) ≡ by_tests a b
          → (is_token_given t r.kept m ≡ true) × (is_byte_right t r.kept m ≡ false) × (new ≡ r)
      by true true given right e = absurd (let impossible : ◌≡◌ {A = Result Received ReceiveRefusal} (Err receipts.WrongByte) (Ok (received t value from m r.kept).0) = ap (λ (p : Result Received ReceiveRefusal × SearchRecord). p.0) e in let no_way : ⊥ = cc in no_way)
      by true false given right e = (given, right, ap (λ (p : Result Received ReceiveRefusal × SearchRecord). p.1) e)
      by false b given right e = absurd (let impossible : ◌≡◌ {A = Result Received ReceiveRefusal} (Err receipts.WrongByte) (Err receipts.UnknownToken) = ap (λ (p : Result Received ReceiveRefusal × SearchRecord). p.0) e in let no_way : ⊥ = cc in no_way)

module _ (s new : AgentSearch) (m : Member) (value : Numbers → Numbers → Option ℕ) (from : ℕ) (state : State) (task : new.task ≡ s.task)
    (limit : new.limit ≡ s.limit) where
  -- a state that is offered
  module _ (ready : IsReady s m) (fits : IsStateFor s.task state) (works : new.failed ≡ false) (was : WasReceived s.task value from state s.done new.done)
      (notes : Notes) (seen : notes ≡ after_state m.snapshot from (state.g + state.h)) where
    kept_fits : FitsUpTo (length s.done.kept.entries) (200000 * s.done.expansions) (received s.task value from state s.done.kept).1
    kept_fits =
        received_fits (length s.done.kept.entries) s.task ready.search.task value (200000 * s.done.expansions) from state s.done.kept fits.numbers
        (up s ready.search)

    at_work_after : IsAtWork new
    at_work_after =
        let work = ready.search in
        record {
          works = works;
          task = subst (λ (t : AgentTask). IsWithinLimits t) (sym task) work.task;
          limit = subst (λ (n : ℕ). n ≤ most_expansions) (sym limit) work.limit;
          within =
              subst (λ (n : ℕ). n ≤ new.limit) (ap (λ (r : SearchRecord). r.expansions) (sym was.kept))
              (subst (λ (n : ℕ). s.done.expansions ≤ n) (sym limit) work.within);
          sent = subst (λ (r : SearchRecord). length r.kept.sent ≤ 200000 * r.expansions) (sym was.kept) kept_fits.sent;
          entries = subst (λ (r : SearchRecord). All EntryFits r.kept.entries) (sym was.kept) kept_fits.entries;
        }

    pub ready_received : 1 ≤ from → from ≤ s.task.agents → IsReady new (record m { snapshot = notes })
    ready_received low high =
        let f = fits.numbers.f in
        let longer = subst (λ (r : SearchRecord). length s.done.kept.entries ≤ length r.kept.entries) (sym was.kept) kept_fits.longer in
        subst (λ (n : Notes). IsReady new (record m { snapshot = n })) (sym seen)
        (ready_state new m from (state.g + state.h) (ready_searched s new m ready at_work_after task longer) f low
        (subst (λ (t : AgentTask). from ≤ t.agents) (sym task) high))

    pub state_taken : (outs : List Out) → HasTaken (took_state value (record_of s m) from state) outs outs (record_of new (record m { snapshot = notes }))
    unfolding with_state
    state_taken outs =
        let stepped : HasStepped (without_messages (with_state value (record_of s m) from state)) outs outs (record_of new (record m { snapshot = notes })) =
        record {
          out = sym (append-nil outs);
          after = λ j. record (record_of s m) { task = task j; limit = limit j; search = was.kept j; snapshot = seen j };
        }
        in
        subst (λ (w : Result Step BadKind). HasTaken w outs outs (record_of new (record m { snapshot = notes })))
        (λ j.
        if not (sym was.given j) then Err bad.UnknownToken
        else unless_bad (not (sym was.right j)) bad.WrongByte (without_messages (with_state value (record_of s m) from state)))
        stepped

  -- a state that is refused
  same_record : new.done ≡ s.done → record_of new m ≡ record_of s m
  same_record done = λ j. record (record_of s m) { task = task j; limit = limit j; search = done j }

  pub state_unknown : (is_token_given s.task s.done.kept state ≡ false) × (new.done ≡ s.done)
      → (took_state value (record_of s m) from state ≡ Err bad.UnknownToken) × (record_of new m ≡ record_of s m)
  state_unknown was = (
    (λ j. if not (was.0 j) then Err bad.UnknownToken
        else unless_bad (not (is_byte_right s.task s.done.kept state)) bad.WrongByte (without_messages (with_state value (record_of s m) from state))),
    same_record was.1,
  )

  pub state_wrong : (is_token_given s.task s.done.kept state ≡ true) × (is_byte_right s.task s.done.kept state ≡ false) × (new.done ≡ s.done)
      → (took_state value (record_of s m) from state ≡ Err bad.WrongByte) × (record_of new m ≡ record_of s m)
  state_wrong was = (
    (λ j. if not (was.0 j) then Err bad.UnknownToken
        else unless_bad (not (was.1 j)) bad.WrongByte (without_messages (with_state value (record_of s m) from state))),
    same_record was.2,
  )
