-- States that are known at a cost: what is offered of them changes nothing.
use Rattle.std.proofs.Common.{◌≡◌, ℕ, ◌+◌, ◌^◌, ◌<◌, ◌≤◌, Bool, true, false, ◌&&◌, length, get_or, Option, Some, None, refl, sym, ap, ◌∙◌, inl, inr, arith}
use Rattle.std.specs.Prelude.{nat_le, nat_lt, option_map, slice_get, if◌then◌else◌}
use Rattle.std.proofs.lemmas.Bool.{and_from, and_left, and_right, cases_Bool, cases_order, false≢true, leb-false, lt-leb}
use Rattle.std.proofs.lemmas.List.Folds.{list_any_at, list_any_none}
use Rattle.std.proofs.lemmas.Option.{same_Some, slice_get-get_or}
use Rattle.mp_list.specs.First.{IsFirst, leftmost}
use Rattle.mp_list.proofs.FirstLemmas.{found_first}
use Rattle.mp_task.specs.AgentTask.{AgentTask}
use Rattle.mp_store.specs.declared.entry.Entry.{Entry}
use Rattle.mp_store.specs.declared.entry.Offer.TheVariants as offers
use Rattle.mp_store.specs.declared.entry.Origin.{Origin}
use Rattle.mp_store.specs.Minima.{Numbered, best, is_cheaper, those}
use Rattle.mp_store.specs.Record.{Record, is_known, kept, new_entry, offered}
use Rattle.mp_store.proofs.BestKept.{best_kept}
use Rattle.mp_store.proofs.RankLemmas.{cheaper_less, cheaper_strict, those_have, those_hold}
use Rattle.mp_search.specs.declared.answer.Received.{Received}
use Rattle.mp_search.specs.declared.answer.Received.TheVariants.{Worse}
use Rattle.mp_search.specs.AgentState.{AgentState, is_goal_state, same_state}
use Rattle.mp_search.proofs.KeyedStates.{Decides-state}
use Rattle.mp_search.specs.Offering.{best_after, by_keep_rule, offered_at, offered_with}

-- what is no cheaper costs as much or more
as_much : {K : Type 0} (x y : Numbered K) → is_cheaper x y ≡ false → y.1.g ≤ x.1.g
as_much x y no_cheaper =
    elim (cases_order x.1.g y.1.g) [
      | inl same ↦ omega arith
      | inr (inl less) ↦ absurd (false≢true (sym no_cheaper ∙ cheaper_less x y less))
      | inr (inr more) ↦ omega arith
    ]

-- ---- whether a state is known at a cost is read from its best entry

module _ {K : Type 0} (same : K → K → Bool) (key : K) (r : Record K) (g : ℕ) where
  abbrev passes : Entry K → Bool
  passes e = same e.key key && nat_le e.g g

  -- some entry of the key costs g or less where the first one by cost does
  known_first : (x : Numbered K) → IsFirst is_cheaper (those (λ e. same e.key key) r.entries) x → is_known same key g r.entries ≡ nat_le x.1.g g
  known_first x first = by (nat_le x.1.g g) refl
    where
      each : nat_le x.1.g g ≡ false → (i : ℕ) (d : Entry K) → i < length r.entries → passes (get_or r.entries i d) ≡ false
      each more i d inside =
          let y = get_or r.entries i d in
          elim (cases_Bool (same y.key key)) [
            | inr other ↦ and_left (same y.key key) (nat_le y.g g) other
            | inl has ↦
                let above : g < x.1.g = leb-false x.1.g g more in
                let least : x.1.g ≤ y.g = as_much (i, y) x (first.least (i, y) (those_hold (λ e. same e.key key) r.entries i d inside has)) in
                and_right (same y.key key) (nat_le y.g g) (lt-leb y.g g (omega arith))
          ]

      by : (c : Bool) → nat_le x.1.g g ≡ c → is_known same key g r.entries ≡ c
      by true within =
          let that = those_have (λ e. same e.key key) r.entries x first.among in
          list_any_at passes r.entries x.0 x.1 that.inside (ap passes that.is ∙ and_from (same x.1.key key) (nat_le x.1.g g) that.passes within)
      by false more = list_any_none passes r.entries (each more)

  -- some entry of the key costs g or less where the best one does
  pub known_best : (n : ℕ) (e : Entry K) → best same key r ≡ Some n → slice_get r.entries n ≡ Some e → is_known same key g r.entries ≡ nat_le e.g g
  known_best n e found at = by (leftmost is_cheaper None (those (λ e. same e.key key) r.entries)) refl found
    where
      by : (o : Option (Numbered K)) → leftmost is_cheaper None (those (λ e. same e.key key) r.entries) ≡ o → option_map (λ x. x.0) o ≡ Some n
          → is_known same key g r.entries ≡ nat_le e.g g
      by None is number = absurd (let impossible : ⊥ = cc in impossible)
      by (Some x) is number =
          let first = found_first is_cheaper cheaper_strict (those (λ e. same e.key key) r.entries) x is in
          let that = those_have (λ e. same e.key key) r.entries x first.among in
          let here : slice_get r.entries x.0 ≡ Some x.1 = slice_get-get_or r.entries x.0 x.1 that.inside ∙ ap Some that.is in
          let one : x.1 ≡ e = same_Some x.1 e (sym here ∙ ap (slice_get r.entries) (same_Some x.0 n number) ∙ at) in
          known_first x first ∙ ap (λ (y : Entry K). nat_le y.g g) one

-- ---- a known state is refused

module _ (t : AgentTask) (s : AgentState) (g : ℕ) (origin : Origin) (r : Record AgentState) (known : is_known same_state s g r.entries ≡ true) where
  pub known_refused : (h : ℕ) → (Worse, r) ≡ offered_with t s g h origin r
  unfolding offered_with
  known_refused h = by (nat_lt (g + h) (2 ^ 60))
    where
      new : Entry AgentState
      new = new_entry s g h origin (is_goal_state t s)

      by : (b : Bool) → (Worse, r) ≡ (if b then by_keep_rule (offered same_state new r) else (Worse, r))
      by true = ap (λ (c : Bool). by_keep_rule (if c then (offers.Worse, r) else (offers.Kept (length r.entries), kept same_state new r))) (sym known)
      by false = refl

  -- whatever the estimate, the record stays as it was
  pub known_stays : (value : Option ℕ) → r ≡ (offered_at t s g value origin r).1
  known_stays None = refl
  known_stays (Some h) = ap (λ (x : Received × Record AgentState). x.1) (known_refused h)

-- what an offer leaves of the record, said of the state and its estimate by their other names
pub record_offered : (t : AgentTask) (seen s : AgentState) (g : ℕ) (found value : Option ℕ) (origin : Origin) (answer : Received) (old new : Record AgentState)
    → seen ≡ s → found ≡ value → (answer, new) ≡ offered_at t seen g found origin old → new ≡ (offered_at t s g value origin old).1
record_offered t seen s g found value origin answer old new same found_is offered =
    ap (λ (x : Received × Record AgentState). x.1) offered
    ∙ (λ j. (offered_at t (same j) g (found_is j) origin old).1)

-- ---- the best entry of a state after an offer of it

module _ (t : AgentTask) (s : AgentState) (g : ℕ) (origin : Origin) (r : Record AgentState) where
  best_with : (h : ℕ) → best same_state s (offered_with t s g h origin r).1 ≡ best_after (best same_state s r) (offered_with t s g h origin r).0
  unfolding offered_with
  best_with h = by (nat_lt (g + h) (2 ^ 60))
    where
      new : Entry AgentState
      new = new_entry s g h origin (is_goal_state t s)

      ruled : Bool → Received × Record AgentState
      ruled known = by_keep_rule (if known then (offers.Worse, r) else (offers.Kept (length r.entries), kept same_state new r))

      decided : (known : Bool) → is_known same_state s g r.entries ≡ known → best same_state s (ruled known).1 ≡ best_after (best same_state s r) (ruled known).0
      decided true is = refl
      decided false is = best_kept same_state new r ((Decides-state s s).1 refl) is

      ranged : Bool → Received × Record AgentState
      ranged b = if b then by_keep_rule (offered same_state new r) else (Worse, r)

      by : (b : Bool) → best same_state s (ranged b).1 ≡ best_after (best same_state s r) (ranged b).0
      by true = decided (is_known same_state s g r.entries) refl
      by false = refl

  best_at : (value : Option ℕ) → best same_state s (offered_at t s g value origin r).1 ≡ best_after (best same_state s r) (offered_at t s g value origin r).0
  best_at None = refl
  best_at (Some h) = best_with h

-- said of the state by its other name
pub best_offered : (t : AgentTask) (seen s : AgentState) (g : ℕ) (value : Option ℕ) (origin : Origin) (found : Option ℕ) (answer : Received) (old new : Record AgentState)
    → seen ≡ s → found ≡ best same_state s old → (answer, new) ≡ offered_at t seen g value origin old → best_after found answer ≡ best same_state s new
best_offered t seen s g value origin found answer old new same found_is offered =
    let whole : (answer, new) ≡ offered_at t s g value origin old = offered ∙ (λ j. offered_at t (same j) g value origin old) in
    (λ j. best_after (found_is j) (whole j).0)
    ∙ sym (best_at t s g origin old value)
    ∙ ap (λ (x : Received × Record AgentState). best same_state s x.1) (sym whole)
