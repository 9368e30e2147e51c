-- What own actions and offers do to what an agent keeps and sent, by cases: what holds where nothing changes, where an entry
-- is kept and where one is sent, and of two after one another, holds of them.
use Rattle.mp_world.proofs.Basics.{◌≡◌, ℕ, suc, ◌+◌, ◌<◌, ◌^◌, Bool, true, false, cond, List, [], ◌∷◌, ◌++◌, length, Option, Some, None, refl, sym, ap, subst, ◌∙◌, arith, nat_lt, option_map, slice_get, option_map_or, ltb-true, none-some, same_Some, slice_get-get_or}
use Rattle.mp_list.specs.First.{leftmost}
use Rattle.mp_list.proofs.FirstLemmas.{found_first}
use Rattle.mp_store.specs.Record.{offered}
use Rattle.mp_store.proofs.RankLemmas.{cheaper_strict, those_have}
use Rattle.mp_search.specs.declared.answer.Received.TheVariants as receptions
use Rattle.mp_search.proofs.KeyedStates.{Decides-state}
use Rattle.mp_world.specs.AgentWords.{Act, AgentTask}
use Rattle.mp_world.specs.SearchWords.{Numbers, Entry, Open, Kept, Worse, Origin, Own, Numbered, best, is_cheaper, those, Record, f, is_known, kept, new_entry, sent_if_new, was_sent, Sending, AgentState, applies, is_goal_state, same_state, successor, receivers, Parent}
use Rattle.mp_world.specs.SearchWords.{with_action, with_actions, with_successor, by_keep_rule, offered_at, offered_with, own_value, is_due, sending_of, sent_best, sent_entry_of, sent_if_due}
use Rattle.mp_team_states.proofs.Changes.{sending, with_number}

-- an entry is one of a state at a cost, with an estimate and an origin
pub record IsEntryOf (t : AgentTask) (s : AgentState) (cost : ℕ) (value : Option ℕ) (from : Origin) (new : Entry AgentState) : Type 0 where
  pub key : new.key ≡ s
  pub g : new.g ≡ cost
  pub h : value ≡ Some new.h
  pub origin : new.origin ≡ from
  pub goal : new.goal ≡ is_goal_state t s

-- it is kept where it is offered
pub record IsKeepable (t : AgentTask) (s : AgentState) (g : ℕ) (value : Option ℕ) (origin : Origin) (r : Record AgentState) (new : Entry AgentState)
    : Type 0 where
  pub mark : new.mark ≡ Open
  pub bounded : f new < 2 ^ 60
  pub cheaper : is_known same_state new.key new.g r.entries ≡ false
  pub is : IsEntryOf t s g value origin new

-- the best entry of a state is one of that state
best_has_key : (s : AgentState) (r : Record AgentState) (n : ℕ) (e : Entry AgentState) → best same_state s r ≡ Some n → slice_get r.entries n ≡ Some e → e.key ≡ s
best_has_key s r n e is at = by (leftmost is_cheaper None (those has_key r.entries)) refl is
  where
    has_key : Entry AgentState → Bool
    has_key e = same_state e.key s

    by : (o : Option (Numbered AgentState)) → leftmost is_cheaper None (those has_key r.entries) ≡ o → option_map (λ x. x.0) o ≡ Some n → e.key ≡ s
    by None found none = absurd (none-some n none)
    by (Some x) found some =
        let first = found_first is_cheaper cheaper_strict (those has_key r.entries) x found in
        let that = those_have has_key r.entries x first.among in
        let number : x.0 ≡ n = same_Some x.0 n some in
        let there : slice_get r.entries x.0 ≡ Some x.1 = slice_get-get_or r.entries x.0 x.1 that.inside ∙ ap Some that.is in
        let same : x.1 ≡ e = same_Some x.1 e (sym there ∙ ap (slice_get r.entries) number ∙ at) in
        ap (λ (x : Entry AgentState). x.key) (sym same) ∙ (Decides-state x.1.key s).0 that.passes

module _ (t : AgentTask) (R : Record AgentState → List Sending → Record AgentState → Type 0) where
  pub record KeepingCases : Type 0 where
    pub same : (r : Record AgentState) → R r [] r
    pub after : (r s u : Record AgentState) (a b : List Sending) → R r a s → R s b u → R r (a ++ b) u
    pub sends : (r : Record AgentState) (n : ℕ) (e : Entry AgentState) → slice_get r.entries n ≡ Some e
        → R r (sending t n r e (receivers t e.key) ∷ []) (with_number n r)

  -- an entry of an offer that may be kept
  abbrev Keeps : AgentState → ℕ → Option ℕ → Origin → Record AgentState → Type 0
  Keeps s g value origin r = (new : Entry AgentState) → IsKeepable t s g value origin r new → R r [] (kept same_state new r)

  module _ (cases : KeepingCases) where
    -- ---- an offer

    module _ (s : AgentState) (g : ℕ) (value : Option ℕ) (origin : Origin) (r : Record AgentState) (keeps : Keeps s g value origin r) where
      offer_holds : (h : ℕ) → value ≡ Some h → R r [] (offered_with t s g h origin r).1
      unfolding offered_with
      offer_holds h is = by (nat_lt (g + h) (2 ^ 60)) refl
        where
          new : Entry AgentState
          new = new_entry s g h origin (is_goal_state t s)

          chosen : (b : Bool) → is_known same_state new.key new.g r.entries ≡ b → g + h < 2 ^ 60
              → R r [] (by_keep_rule (cond b (Worse, r) (Kept (length r.entries), kept same_state new r))).1
          chosen true known bounded = cases.same r
          chosen false known bounded =
              keeps new
              (record {
                mark = refl;
                bounded = bounded;
                cheaper = known;
                is = record { key = refl; g = refl; h = is; origin = refl; goal = refl };
              })

          by : (b : Bool) → nat_lt (g + h) (2 ^ 60) ≡ b
              → R r [] (cond b (by_keep_rule (offered same_state new r)) (receptions.Worse, r)).1
          by true below = chosen (is_known same_state new.key new.g r.entries) refl (ltb-true (g + h) (2 ^ 60) below)
          by false below = cases.same r

      pub offered_holds : R r [] (offered_at t s g value origin r).1
      offered_holds = by value refl
        where
          by : (o : Option ℕ) → value ≡ o → R r [] (offered_at t s g o origin r).1
          by None is = cases.same r
          by (Some h) is = offer_holds h is

    -- ---- a state is sent

    sent_holds : (s : AgentState) (r : Record AgentState) → R r (sent_best t s r).0 (sent_best t s r).1
    unfolding sent_entry_of
    sent_holds s r = by (best same_state s r) refl
      where
        one : (n : ℕ) (e : Entry AgentState) → slice_get r.entries n ≡ Some e → e.key ≡ s → (b : Bool)
            → R r (sending_of t s e (cond b (None, r) (Some (length r.sent), with_number n r))).0
            (sending_of t s e (cond b (None, r) (Some (length r.sent), with_number n r))).1
        one n e at key true = cases.same r
        one n e at key false = subst (λ (s : AgentState). R r (sending t n r e (receivers t s) ∷ []) (with_number n r)) key (cases.sends r n e at)

        out : ℕ → Option (Entry AgentState) → List Sending × Record AgentState
        out n o = option_map_or (λ e. sending_of t s e (option_map_or (λ e. sent_if_new same_state n e r) o (None, r))) o ([], r)

        at_entry : (n : ℕ) → best same_state s r ≡ Some n → (o : Option (Entry AgentState)) → slice_get r.entries n ≡ o
            → R r (out n o).0 (out n o).1
        at_entry n is None none = cases.same r
        at_entry n is (Some e) at = one n e at (best_has_key s r n e is at) (was_sent same_state e.key e.g r)

        by : (o : Option ℕ) → best same_state s r ≡ o → R r (sent_entry_of t s o r).0 (sent_entry_of t s o r).1
        by None is = cases.same r
        by (Some n) is = at_entry n is (slice_get r.entries n) refl

    pub due_holds : (act : Act) (s reached : AgentState) (r : Record AgentState)
        → R r (sent_if_due t act s reached r).0 (sent_if_due t act s reached r).1
    unfolding sent_if_due
    due_holds act s reached r = by (is_due t act s reached)
      where
        by : (b : Bool) → R r (cond b (sent_best t reached r) ([], r)).0 (cond b (sent_best t reached r) ([], r)).1
        by true = sent_holds reached r
        by false = cases.same r

    -- ---- own actions

    module _ (value : Numbers → Numbers → Option ℕ) (parent : Parent) where
      -- what an action leads to may be kept
      abbrev KeepsAction : ℕ → Act → Type 0
      KeepsAction number act =
          (r : Record AgentState) → applies act parent.state ≡ true
          → Keeps (successor act parent.state) (parent.g + act.cost) (own_value t value (successor act parent.state)) (Own number parent.number) r

      action_holds : (number : ℕ) (act : Act) (r : Record AgentState) → KeepsAction number act
          → R r (with_action t value parent number act r).0 (with_action t value parent number act r).1
      unfolding with_action with_successor
      action_holds number act r keeps = by (applies act parent.state) refl
        where
          reached : AgentState
          reached = successor act parent.state

          offer : Record AgentState
          offer = (offered_at t reached (parent.g + act.cost) (own_value t value reached) (Own number parent.number) r).1

          out : Bool → List Sending × Record AgentState
          out b = cond b (with_successor t value parent number act reached r) ([], r)

          by : (b : Bool) → applies act parent.state ≡ b → R r (out b).0 (out b).1
          by true may =
              let last = sent_if_due t act parent.state reached offer in
              cases.after r offer last.1 [] last.0
              (offered_holds reached (parent.g + act.cost) (own_value t value reached) (Own number parent.number) r (keeps r may))
              (due_holds act parent.state reached offer)
          by false may = cases.same r

      pub actions_hold : (number : ℕ) (acts : List Act) (r : Record AgentState)
          → ((k : ℕ) (act : Act) → slice_get acts k ≡ Some act → KeepsAction (number + k) act)
          → R r (with_actions t value parent number acts r).0 (with_actions t value parent number acts r).1
      unfolding with_actions
      actions_hold number [] r each = cases.same r
      actions_hold number (act ∷ acts) r each =
          let now = with_action t value parent number act r in
          let later = with_actions t value parent (number + 1) acts now.1 in
          cases.after r now.1 later.1 now.0 later.0
          (action_holds number act r (subst (λ n. KeepsAction n act) (let e : number + 0 ≡ number = omega arith in e) (each 0 act refl)))
          (actions_hold (number + 1) acts now.1
          (λ k a at. subst (λ n. KeepsAction n a) (let e : number + suc k ≡ number + 1 + k = omega arith in e) (each (suc k) a at)))
