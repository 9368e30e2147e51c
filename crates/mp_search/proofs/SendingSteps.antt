-- Steps of an expansion, one after another.
use Rattle.std.proofs.Common.{map-id, ◌≡◌, ℕ, zero, suc, ◌+◌, ◌-◌, ◌<◌, ◌≤◌, Bool, true, false, cond, List, [], ◌∷◌, ◌++◌, length, Option, Some, None, Result, Ok, Err, refl, sym, ap, subst, ◌∙◌, arith}
use Rattle.std.specs.Prelude.{slice_get, option_map, IfSome, OnOk, if◌then◌else◌}
use Rattle.std.specs.FinSet as set
use Rattle.std.specs.Option.{option_map_or}
use Rattle.std.proofs.lemmas.List.FromFn.{filter_of_map_range_with_len_more}
use Rattle.mp_sets.specs.Numbers.{Numbers, listed}
use Rattle.mp_task.specs.AgentTask.{AgentTask}
use Rattle.mp_task.specs.Met.{is_met}
use Rattle.mp_messages.specs.declared.message.State.{State}
use Rattle.mp_tokens.specs.Order.{order_of_use, place, with_set}
use Rattle.mp_store.specs.declared.entry.Entry.{Entry}
use Rattle.mp_store.specs.Record.{Record}
use Rattle.mp_store.specs.Sent.{mark_sent}
use Rattle.mp_search.specs.declared.answer.Sending.{Sending}
use Rattle.mp_search.specs.declared.states.Shown.{Shown}
use Rattle.mp_search.specs.AgentState.{AgentState, applies, same_state, successor, with_tag}
use Rattle.mp_search.specs.Concern.{is_receiver, one_if, receivers, IsFirstReceiver}
use Rattle.mp_search.specs.Expansion.{Parent, with_action, with_successor}
use Rattle.mp_search.specs.Offering.{offered_at, own_value}
use Rattle.mp_store.specs.declared.entry.Origin.TheVariants.{Own}
use Rattle.mp_task.specs.declared.act.Act.{Act}
use Rattle.std.specs.List.{filter, range_with_len}
use Rattle.mp_search.specs.Search.{sent_sets, tokens_given}
use Rattle.mp_search.specs.Sending.{is_due, message_of_entry, sending_of, sent_best, sent_entry_of, sent_if_due}
use Rattle.mp_search.specs.StateKeys.{IsMessageOf, IsSent, IsShown, KeptStates, used_after}
use Rattle.mp_search.specs.Steps.{AreStatesOf, HasSent}
use Rattle.mp_search.proofs.SentSets.{more_sets, order_more, same_entries, unsent_sets}

-- nothing is sent, and nothing else happens
pub nothing_sent : (t : AgentTask) (k : KeptStates) → AreStatesOf t k → HasSent t ([], k.kept) k k None
nothing_sent t k of = record { sent = refl; kept = refl; states = of; longer = omega arith }

-- what was not sent before counts as no sending
later_sent : (t : AgentTask) (done : List Sending × Record AgentState) (old mid new : KeptStates) (answer : Option Sending)
    → length old.kept.entries ≤ length mid.kept.entries → HasSent t done mid new answer → HasSent t done old new answer
later_sent t done old mid new answer more sent =
    record { sent = sent.sent; kept = sent.kept; states = sent.states; longer = let h = sent.longer in omega arith }

-- states whose sent sets are the same
pub same_states : (t : AgentTask) (old new : KeptStates) → AreStatesOf t old → new.publics ≡ old.publics → new.privates ≡ old.privates
    → new.used ≡ old.used → sent_sets new.kept ≡ sent_sets old.kept → AreStatesOf t new
same_states t old new of publics privates used sets = record {
  publics = publics ∙ of.publics;
  privates = privates ∙ of.privates;
  used = used ∙ of.used ∙ ap (order_of_use (set.from_list t.start_priv)) (sym sets);
}

-- ---- the state of an entry is sent

module _ (t : AgentTask) (s : AgentState) (n : ℕ) (answer : Option (ℕ × ℕ)) (old new : KeptStates) (of : AreStatesOf t old)
    (sent : IsSent n answer old new) (publics : new.publics ≡ old.publics) (privates : new.privates ≡ old.privates)
    (e : Entry AgentState) (is : slice_get old.kept.entries n ≡ Some e) where
  as_decided : sent_entry_of t s (Some n) old.kept ≡ sending_of t s e (option_map (λ x. x.0) answer, new.kept)
  unfolding sent_entry_of
  as_decided =
      ap (λ (o : Option (Entry AgentState)). option_map_or (λ (e : Entry AgentState). sending_of t s e (mark_sent same_state n old.kept)) o ([], old.kept)) is
      ∙ ap (sending_of t s e) (sym sent.marked)

  pub entries_kept : new.kept.entries ≡ old.kept.entries
  entries_kept = same_entries n old.kept e is (option_map (λ x. x.0) answer) new.kept sent.marked

  not_shorter : length old.kept.entries ≤ length new.kept.entries
  not_shorter = let same = ap (λ (es : List (Entry AgentState)). length es) entries_kept in omega arith

  pub states_unsent : answer ≡ None → AreStatesOf t new
  states_unsent none =
      let same : new.kept ≡ old.kept = unsent_sets n old.kept e is (option_map (λ x. x.0) answer) new.kept sent.marked (ap (option_map (λ (x : ℕ × ℕ). x.0)) none) in
      record {
        publics = publics ∙ of.publics;
        privates = privates ∙ of.privates;
        used =
            subst (λ (a : Option (ℕ × ℕ)). new.used ≡ used_after a e old.used) none (sent.used e is)
            ∙ of.used ∙ ap (tokens_given t) (sym same);
      }

  pub none_sent : answer ≡ None → HasSent t (sent_entry_of t s (Some n) old.kept) old new None
  none_sent none =
      let done : sent_entry_of t s (Some n) old.kept ≡ ([], new.kept) = as_decided ∙ ap (λ (a : Option (ℕ × ℕ)). sending_of t s e (option_map (λ x. x.0) a, new.kept)) none in
      record {
        sent = ap (λ (d : List Sending × Record AgentState). d.0) (sym done);
        kept = ap (λ (d : List Sending × Record AgentState). d.1) (sym done);
        states = states_unsent none;
        longer = not_shorter;
      }

  module _ (number own_token : ℕ) (some : answer ≡ Some (number, own_token)) where
    pub used_now : new.used ≡ tokens_given t new.kept
    used_now =
        subst (λ (a : Option (ℕ × ℕ)). new.used ≡ used_after a e old.used) some (sent.used e is)
        ∙ ap (λ (u : List Numbers). with_set u e.key.mine) of.used
        ∙ sym (order_more (set.from_list t.start_priv) (sent_sets old.kept) e.key.mine)
        ∙ ap (order_of_use (set.from_list t.start_priv))
        (sym (more_sets n old.kept e is (option_map (λ x. x.0) answer) new.kept sent.marked number (ap (option_map (λ (x : ℕ × ℕ). x.0)) some)))

    pub message_is : (x : Shown) (m : State) (seen : Entry AgentState) → slice_get new.kept.entries n ≡ Some seen → IsShown x seen → x.publics.size ≡ new.publics
        → IsMessageOf t number own_token x m → m ≡ message_of_entry t new.kept number e
    unfolding message_of_entry
    message_is x m seen at shown size made =
        let one : Some seen ≡ Some e = sym at ∙ ap (λ (es : List (Entry AgentState)). slice_get es n) entries_kept ∙ is in
        let same : seen ≡ e = cc in
        let token_is : own_token ≡ place (tokens_given t new.kept) e.key.mine =
        subst (λ (a : Option (ℕ × ℕ)). IfSome a (λ x. x.1 ≡ place new.used e.key.mine)) some (sent.token e is)
        ∙ ap (λ (u : List Numbers). place u e.key.mine) used_now
        in
        let sized : x.publics ≡ record { size = t.publics; members = e.key.publics } =
        λ j. record { size = (size ∙ publics ∙ of.publics) j; members = (shown.publics ∙ ap (λ (y : Entry AgentState). y.key.publics) same) j }
        in
        λ j. record {
          sent = made.sent j;
          g = (made.g ∙ shown.g ∙ ap (λ (y : Entry AgentState). y.g) same) j;
          h = (made.h ∙ shown.h ∙ ap (λ (y : Entry AgentState). y.h) same) j;
          facts = (made.facts ∙ ap listed sized) j;
          tags = (made.tags ∙ (λ i. with_tag ((shown.tags ∙ ap (λ (y : Entry AgentState). y.key.tags) same) i) t.me (record {
            token = token_is i;
            met = is_met t ((shown.mine ∙ ap (λ (y : Entry AgentState). y.key.mine) same) i);
          }))) j;
        }

    pub one_sent : (sending : Sending) → sending.state ≡ message_of_entry t new.kept number e → sending.to ≡ receivers t s
        → HasSent t (sent_entry_of t s (Some n) old.kept) old new (Some sending)
    one_sent sending is_message to =
        let done : sent_entry_of t s (Some n) old.kept ≡ (record { state = message_of_entry t new.kept number e; to = receivers t s } ∷ [], new.kept) =
        as_decided ∙ ap (λ (a : Option (ℕ × ℕ)). sending_of t s e (option_map (λ x. x.0) a, new.kept)) some
        in
        record {
          sent = (λ j. record { state = is_message j; to = to j } ∷ []) ∙ ap (λ (d : List Sending × Record AgentState). d.0) (sym done);
          kept = ap (λ (d : List Sending × Record AgentState). d.1) (sym done);
          states = record { publics = publics ∙ of.publics; privates = privates ∙ of.privates; used = used_now };
          longer = not_shorter;
        }

-- no entry, no sending
pub none_best : (t : AgentTask) (s : AgentState) (k : KeptStates) (due : Bool) → AreStatesOf t k
    → HasSent t (if due then sent_entry_of t s None k.kept else ([], k.kept)) k k None
unfolding sent_entry_of
none_best t s k true of = nothing_sent t k of
none_best t s k false of = nothing_sent t k of

-- ---- a state that an own action led to

module _ (t : AgentTask) (value : Numbers → Numbers → Option ℕ) (p : Parent) (number : ℕ) (act : Act) where
  pub successor_sent : (s reached : AgentState) (old mid new : KeptStates) (due : Bool) (answer : Option Sending)
      → reached ≡ s
      → mid.kept ≡ (offered_at t s (p.g + act.cost) (own_value t value s) (Own number p.number) old.kept).1
      → length old.kept.entries ≤ length mid.kept.entries
      → due ≡ is_due t act p.state reached
      → HasSent t (if due then sent_best t reached mid.kept else ([], mid.kept)) mid new answer
      → HasSent t (with_successor t value p number act s old.kept) old new answer
  unfolding with_successor sent_if_due
  successor_sent s reached old mid new due answer same kept_is more due_is sent =
      subst (λ (r : Record AgentState). HasSent t (sent_if_due t act p.state s r) old new answer) kept_is
      (subst (λ (x : AgentState). HasSent t (sent_if_due t act p.state x mid.kept) old new answer) same
      (later_sent t (sent_if_due t act p.state reached mid.kept) old mid new answer more
      (subst (λ (b : Bool). HasSent t (if b then sent_best t reached mid.kept else ([], mid.kept)) mid new answer) due_is sent)))

  pub action_sent : (old new : KeptStates) (answer : Option Sending) → applies act p.state ≡ true
      → HasSent t (with_successor t value p number act (successor act p.state) old.kept) old new answer
      → HasSent t (with_action t value p number act old.kept) old new answer
  unfolding with_action
  action_sent old new answer may sent =
      subst (λ (b : Bool). HasSent t (if b then with_successor t value p number act (successor act p.state) old.kept else ([], old.kept)) old new answer) (sym may) sent

-- an entry at a place inside
pub entry_inside : {X : Type 0} (xs : List X) (n : ℕ) → n < length xs → (x : X) × (slice_get xs n ≡ Some x)
entry_inside [] n h = absurd (omega arith)
entry_inside (x ∷ xs) zero h = (x, refl)
entry_inside (x ∷ xs) (suc n) h = entry_inside xs n (omega arith)

pub on_ok : {A E : Type 0} (res : Result A E) (P Q : Type 0) → OnOk res P → (P → Q) → OnOk res Q
on_ok (Ok x) P Q holds more = more holds
on_ok (Err e) P Q holds more = tt

-- the agents up to one more that pass a test
pub numbers_more : (p : ℕ → Bool) (n : ℕ) → filter p (range_with_len 1 (n + 1)) ≡ filter p (range_with_len 1 n) ++ one_if (p (n + 1)) (n + 1)
numbers_more p n =
    ap (filter p) (sym (map-id (range_with_len 1 (n + 1))))
    ∙ filter_of_map_range_with_len_more p (λ k. k) 1 n (n + 1) (omega arith)
    ∙ ap (λ xs. filter p xs ++ cond (p (n + 1)) ((n + 1) ∷ []) []) (map-id (range_with_len 1 n))

module _ (p : ℕ → Bool) where
  pub none_more : (n : ℕ) → p (n + 1) ≡ false → filter p (range_with_len 1 n) ≡ [] → filter p (range_with_len 1 (n + 1)) ≡ []
  none_more n fails none = numbers_more p n ∙ (λ j. none j ++ one_if (fails j) (n + 1))

  pub first_alone : (n : ℕ) → 1 ≤ n → p n ≡ true → filter p (range_with_len 1 (n - 1)) ≡ [] → n ∷ [] ≡ filter p (range_with_len 1 n)
  first_alone n low passes none =
      let same : n - 1 + 1 ≡ n = omega (arith, low) in
      sym
      (subst (λ (k : ℕ). filter p (range_with_len 1 k) ≡ filter p (range_with_len 1 (n - 1)) ++ one_if (p k) k) same (numbers_more p (n - 1))
      ∙ (λ j. none j ++ one_if (passes j) n))

-- the first agent that a state is for
pub first_found : (t : AgentTask) (s : AgentState) (b : ℕ) (found : Option ℕ) → b < t.agents → is_receiver t s (b + 1) ≡ true
    → filter (is_receiver t s) (range_with_len 1 b) ≡ [] → IfSome found (λ agent. agent ≡ b + 1) → IfSome found (IsFirstReceiver t s)
first_found t s b None inside passes none is = tt
first_found t s b (Some agent) inside passes none is =
    let before : b ≡ agent - 1 = omega (arith, is) in
    record {
      from_1 = omega (arith, is);
      none_before = subst (λ (k : ℕ). filter (is_receiver t s) (range_with_len 1 k) ≡ []) before none;
      is = subst (λ (k : ℕ). is_receiver t s k ≡ true) (sym is) passes;
      within = omega (arith, is, inside);
    }
