-- What an expansion and a receipt do to what an agent keeps and sent.
use Rattle.mp_world.proofs.Basics.{◌≡◌, ℕ, zero, suc, ◌+◌, ◌<◌, ◌^◌, ◌⊎◌, Bool, true, false, cond, List, [], ◌∷◌, Option, Some, None, refl, sym, ap, subst, ◌∙◌, inl, inr, Contains, slice_get, slice_set, option_map_or, cases_eq, false≢true, none-some, same_Some}
use Rattle.mp_list.proofs.Members.{contains_head, contains_tail}
use Rattle.mp_world.specs.AgentWords.{Act, AgentTask, State}
use Rattle.mp_world.specs.SearchWords.{Numbers, Entry, Expanded, Own, From, closed, least_open, Record, Sending, AgentState, applies, is_goal_state, successor, Parent, expanded, expanded_entry, with_action, with_actions, with_successor, offered_at, own_value}
use Rattle.mp_world.specs.SearchWords.{greater_value, received, state_of, SearchRecord, is_due, sent_best, sent_if_due}
use Rattle.mp_team_states.specs.Growing.{HasGrown}
use Rattle.mp_team_states.proofs.Growth.{grown_closed, grown_then}
use Rattle.mp_team_states.proofs.Continuing.{Continues, GoesOut, HaveFlags, WasExpanded, actions_continue, continues_same, due_continues, offered_continues}
use Rattle.mp_team_states.proofs.Members.{set_back, set_other, set_same, set_there}
use Rattle.mp_team_states.proofs.Kept.{IsKept, WasSent, best_is_sent, kept_stays, offered_is_kept, sent_stays}

-- ---- an entry is closed

module _ (n : ℕ) (e : Entry AgentState) (r : Record AgentState) (at : slice_get r.entries n ≡ Some e) where
  abbrev pub shut : Record AgentState
  shut = record { entries = slice_set r.entries n (record e { mark = Expanded }); sent = r.sent }

  pub closed_is : closed n r ≡ shut
  closed_is = ap (λ (o : Option (Entry AgentState)). option_map_or (λ (e : Entry AgentState). record r { entries = slice_set r.entries n (record e { mark = Expanded }) }) o r) at

  closed_expanded : (m : ℕ) → WasExpanded (closed n r) m → (m ≡ n) ⊎ WasExpanded r m
  closed_expanded m was = by (set_back r.entries n m (record e { mark = Expanded }) was.entry (ap (λ (x : Record AgentState). slice_get x.entries m) (sym closed_is) ∙ was.at))
    where
      by : (m ≡ n) ⊎ (slice_get r.entries m ≡ Some was.entry) → (m ≡ n) ⊎ WasExpanded r m
      by (inl same) = inl same
      by (inr old) = inr (record { entry = was.entry; at = old; is = was.is })

  closed_flags : (t : AgentTask) → HaveFlags t r → HaveFlags t (closed n r)
  closed_flags t flags = subst (HaveFlags t) (sym closed_is) (λ m x there. by m x there (cases_eq m n))
    where
      by : (m : ℕ) (x : Entry AgentState) → slice_get (slice_set r.entries n (record e { mark = Expanded })) m ≡ Some x → (m ≡ n) ⊎ (m ≡ n → ⊥) → x.goal ≡ is_goal_state t x.key
      by m x there (inl same) =
          let one : record e { mark = Expanded } ≡ x =
          set_same r.entries n (record e { mark = Expanded }) x (ap (slice_get (slice_set r.entries n (record e { mark = Expanded }))) (sym same) ∙ there)
          in
          subst (λ (x : Entry AgentState). x.goal ≡ is_goal_state t x.key) one (flags n e at)
      by m x there (inr other) = flags m x (sym (set_other r.entries n m (record e { mark = Expanded }) other) ∙ there)

  closed_still : (m : ℕ) → WasExpanded r m → WasExpanded (closed n r) m
  closed_still m was = subst (λ (x : Record AgentState). WasExpanded x m) (sym closed_is) (by (cases_eq m n))
    where
      by : (m ≡ n) ⊎ (m ≡ n → ⊥) → WasExpanded shut m
      by (inl same) = record {
        entry = record e { mark = Expanded };
        at = ap (slice_get shut.entries) same ∙ set_there r.entries n e (record e { mark = Expanded }) at;
        is = refl;
      }
      by (inr other) = record { entry = was.entry; at = set_other r.entries n m (record e { mark = Expanded }) other ∙ was.at; is = was.is }

  closed_sent : (k m : ℕ) → slice_get (closed n r).sent k ≡ Some m → slice_get r.sent k ≡ Some m
  closed_sent k m is = ap (λ (x : Record AgentState). slice_get x.sent k) (sym closed_is) ∙ is

-- What an own action leads to from a state is kept, and was sent where that is due, or it has no estimate.
abbrev pub IsOffered : AgentTask → (Numbers → Numbers → Option ℕ) → Act → AgentState → ℕ → Record AgentState → Type 0
IsOffered t value act s cost r =
    (own_value t value (successor act s) ≡ None)
    ⊎ (IsKept r (successor act s) cost × (is_due t act s (successor act s) ≡ true → WasSent r (successor act s) cost))

-- so it is with all own actions that may be applied to an entry's state
abbrev pub AreOffered : AgentTask → (Numbers → Numbers → Option ℕ) → Entry AgentState → Record AgentState → Type 0
AreOffered t value e r =
    (k : ℕ) (act : Act) → slice_get t.acts k ≡ Some act → applies act e.key ≡ true → IsOffered t value act e.key (e.g + act.cost) r

module _ (t : AgentTask) (value : Numbers → Numbers → Option ℕ) where
  offered_stays : (act : Act) (s : AgentState) (cost : ℕ) (r later : Record AgentState) → HasGrown r later → IsOffered t value act s cost r → IsOffered t value act s cost later
  offered_stays act s cost r later grown (inl none) = inl none
  offered_stays act s cost r later grown (inr there) =
      inr (kept_stays r later (successor act s) cost grown there.0, λ due. sent_stays r later (successor act s) cost grown (there.1 due))

  -- ---- an own action

  due_is_sent : (act : Act) (s reached : AgentState) (r : Record AgentState) (cost : ℕ) → IsKept r reached cost → is_due t act s reached ≡ true → WasSent (sent_if_due t act s reached r).1 reached cost
  unfolding sent_if_due
  due_is_sent act s reached r cost kept due = by (is_due t act s reached) due
    where
      by : (b : Bool) → b ≡ true → WasSent (cond b (sent_best t reached r) ([], r)).1 reached cost
      by true is = best_is_sent t reached r cost kept
      by false is = absurd (false≢true is)

  module _ (parent : Parent) (number : ℕ) (act : Act) (r : Record AgentState) where
    reached : AgentState
    reached = successor act parent.state

    offer : Record AgentState
    offer = (offered_at t reached (parent.g + act.cost) (own_value t value reached) (Own number parent.number) r).1

    action_is_offered : ((h : ℕ) → own_value t value (successor act parent.state) ≡ Some h → parent.g + act.cost + h < 2 ^ 60) → applies act parent.state ≡ true
        → IsOffered t value act parent.state (parent.g + act.cost) (with_action t value parent number act r).1
    unfolding with_action with_successor reached offer
    action_is_offered small may =
        by (applies act parent.state) may (offered_is_kept t reached (parent.g + act.cost) (Own number parent.number) r (own_value t value reached) small)
      where
        by : (b : Bool) → b ≡ true → (own_value t value reached ≡ None) ⊎ IsKept offer reached (parent.g + act.cost)
            → IsOffered t value act parent.state (parent.g + act.cost) (cond b (with_successor t value parent number act reached r) ([], r)).1
        by true is (inl none) = inl none
        by true is (inr kept) =
            let cost = parent.g + act.cost in
            let grown = (due_continues t act parent.state reached offer).grown in
            inr (
              kept_stays offer (sent_if_due t act parent.state reached offer).1 reached cost grown kept,
              λ due. due_is_sent act parent.state reached offer cost kept due,
            )
        by false is any = absurd (false≢true is)

  -- ---- all own actions

  actions_are_offered : (parent : Parent) (number : ℕ) (acts : List Act) (r : Record AgentState)
      → ((act : Act) (h : ℕ) → Contains acts act → own_value t value (successor act parent.state) ≡ Some h → parent.g + act.cost + h < 2 ^ 60)
      → (k : ℕ) (act : Act) → slice_get acts k ≡ Some act → applies act parent.state ≡ true
      → IsOffered t value act parent.state (parent.g + act.cost) (with_actions t value parent number acts r).1
  unfolding with_actions
  actions_are_offered parent number [] r small k act at may = absurd (none-some act at)
  actions_are_offered parent number (first ∷ acts) r small zero act at may =
      let now = with_action t value parent number first r in
      let later = with_actions t value parent (number + 1) acts now.1 in
      let here = action_is_offered parent number first r (λ h is. small first h (contains_head first acts) is) (ap (λ (a : Act). applies a parent.state) (same_Some first act at) ∙ may) in
      subst (λ (a : Act). IsOffered t value a parent.state (parent.g + a.cost) later.1) (same_Some first act at)
      (offered_stays first parent.state (parent.g + first.cost) now.1 later.1 (actions_continue t value parent (number + 1) acts now.1).grown here)
  actions_are_offered parent number (first ∷ acts) r small (suc k) act at may =
      actions_are_offered parent (number + 1) acts (with_action t value parent number first r).1 (λ a h there is. small a h (contains_tail first acts a there) is) k act at may

  -- ---- an expansion

  -- what an expansion leads to
  pub record HasExpanded (r : Record AgentState) (out : List Sending) (s : Record AgentState) : Type 0 where
    pub expanded : (n : ℕ) (e : Entry AgentState) → slice_get s.entries n ≡ Some e → e.mark ≡ Expanded → WasExpanded r n ⊎ AreOffered t value e s
    pub flags : HaveFlags t r → HaveFlags t s
    pub sent : (k n : ℕ) → slice_get s.sent k ≡ Some n → (slice_get r.sent k ≡ Some n) ⊎ GoesOut t s out k n

  -- what goes on from a record, where no entry is expanded
  pub gone_on : (r s : Record AgentState) (out : List Sending) → Continues t r out s → HasExpanded r out s
  gone_on r s out goes = record { expanded = λ n e at is. inl (goes.expanded n e at is); flags = goes.flags; sent = goes.sent }

  pub has_expanded : (r : SearchRecord)
      → ((n : ℕ) (e : Entry AgentState) (act : Act) (h : ℕ) → slice_get r.kept.entries n ≡ Some e → Contains t.acts act → own_value t value (successor act e.key) ≡ Some h → e.g + act.cost + h < 2 ^ 60)
      → HasExpanded r.kept (expanded t value r).0 (expanded t value r).1.kept
  unfolding expanded expanded_entry
  has_expanded r small = by (least_open r.kept)
    where
      at_entry : (n : ℕ) (e : Entry AgentState) → slice_get r.kept.entries n ≡ Some e → HasExpanded r.kept (expanded_entry t value n e r).0 (expanded_entry t value n e r).1.kept
      at_entry n e is = record {
        expanded = λ m x at mark.
            let was = goes.expanded m x at mark in
            which m x at (closed_expanded n e r.kept is m was);
        flags = λ flags. goes.flags (closed_flags n e r.kept is t flags);
        sent = λ k m given. sent_then k m (goes.sent k m given);
      }
        where
          parent : Parent
          parent = record { number = n; state = e.key; g = e.g }

          after : List Sending × Record AgentState
          after = with_actions t value parent 0 t.acts (closed n r.kept)

          goes : Continues t (closed n r.kept) after.0 after.1
          goes = actions_continue t value parent 0 t.acts (closed n r.kept)

          offers : AreOffered t value e after.1
          offers k act at may = actions_are_offered parent 0 t.acts (closed n r.kept) (λ a h there found. small n e a h is there found) k act at may

          which : (m : ℕ) (x : Entry AgentState) → slice_get after.1.entries m ≡ Some x → (m ≡ n) ⊎ WasExpanded r.kept m → WasExpanded r.kept m ⊎ AreOffered t value x after.1
          which m x at (inr old) = inl old
          which m x at (inl same) =
              let grown = grown_then r.kept (closed n r.kept) after.1 (grown_closed n r.kept) goes.grown in
              let later = grown.entries n e is in
              let one : later.0 ≡ x = same_Some later.0 x (sym later.1 ∙ ap (slice_get after.1.entries) (sym same) ∙ at) in
              let key : e.key ≡ x.key = sym later.2.key ∙ ap (λ (y : Entry AgentState). y.key) one in
              let cost : e.g ≡ x.g = sym later.2.g ∙ ap (λ (y : Entry AgentState). y.g) one in
              inr (λ k act there may.
              subst (λ (g : ℕ). IsOffered t value act x.key (g + act.cost) after.1) cost
              (subst (λ (s : AgentState). IsOffered t value act s (e.g + act.cost) after.1) key
              (offers k act there (ap (λ (s : AgentState). applies act s) key ∙ may))))

          sent_then : (k m : ℕ) → (slice_get (closed n r.kept).sent k ≡ Some m) ⊎ GoesOut t after.1 after.0 k m → (slice_get r.kept.sent k ≡ Some m) ⊎ GoesOut t after.1 after.0 k m
          sent_then k m (inl old) = inl (closed_sent n e r.kept is k m old)
          sent_then k m (inr out) = inr out

      of_entry : ℕ → Option (Entry AgentState) → List Sending × SearchRecord
      of_entry n o = option_map_or (λ e. expanded_entry t value n e r) o ([], r)

      at : (n : ℕ) (o : Option (Entry AgentState)) → slice_get r.kept.entries n ≡ o → HasExpanded r.kept (of_entry n o).0 (of_entry n o).1.kept
      at n None is = gone_on r.kept r.kept [] (continues_same t r.kept)
      at n (Some e) is = at_entry n e is

      by : (o : Option ℕ) → HasExpanded r.kept (option_map_or (λ n. of_entry n (slice_get r.kept.entries n)) o ([], r)).0 (option_map_or (λ n. of_entry n (slice_get r.kept.entries n)) o ([], r)).1.kept
      by None = gone_on r.kept r.kept [] (continues_same t r.kept)
      by (Some n) = at n (slice_get r.kept.entries n) refl

  -- the least open entry is expanded, and no other one
  pub one_expanded : (r : SearchRecord) (n : ℕ) (e : Entry AgentState) → least_open r.kept ≡ Some n → slice_get r.kept.entries n ≡ Some e
      → WasExpanded (expanded t value r).1.kept n × ((m : ℕ) → WasExpanded (expanded t value r).1.kept m → (m ≡ n) ⊎ WasExpanded r.kept m)
  unfolding expanded expanded_entry
  one_expanded r n e least is =
      subst (λ (d : List Sending × SearchRecord). WasExpanded d.1.kept n × ((m : ℕ) → WasExpanded d.1.kept m → (m ≡ n) ⊎ WasExpanded r.kept m)) (sym whole)
      (goes.still n shut_there, λ m was. closed_expanded n e r.kept is m (goes.expanded m was.entry was.at was.is))
    where
      whole : option_map_or (λ n. option_map_or (λ e. expanded_entry t value n e r) (slice_get r.kept.entries n) ([], r)) (least_open r.kept) ([], r) ≡ expanded_entry t value n e r
      whole =
          ap (λ (o : Option ℕ). option_map_or (λ n. option_map_or (λ e. expanded_entry t value n e r) (slice_get r.kept.entries n) ([], r)) o ([], r)) least
          ∙ ap (λ (o : Option (Entry AgentState)). option_map_or (λ e. expanded_entry t value n e r) o ([], r)) is

      parent : Parent
      parent = record { number = n; state = e.key; g = e.g }

      goes : Continues t (closed n r.kept) (with_actions t value parent 0 t.acts (closed n r.kept)).0 (with_actions t value parent 0 t.acts (closed n r.kept)).1
      goes = actions_continue t value parent 0 t.acts (closed n r.kept)

      shut_there : WasExpanded (closed n r.kept) n
      shut_there =
          subst (λ (x : Record AgentState). WasExpanded x n) (sym (closed_is n e r.kept is))
          (record { entry = record e { mark = Expanded }; at = set_there r.kept.entries n e (record e { mark = Expanded }) is; is = refl })

  -- what was expanded stays so
  pub still_expanded : (r : SearchRecord) (m : ℕ) → WasExpanded r.kept m → WasExpanded (expanded t value r).1.kept m
  unfolding expanded expanded_entry
  still_expanded r m was = by (least_open r.kept)
    where
      at_entry : (n : ℕ) (e : Entry AgentState) → slice_get r.kept.entries n ≡ Some e → WasExpanded (expanded_entry t value n e r).1.kept m
      at_entry n e is =
          (actions_continue t value (record { number = n; state = e.key; g = e.g }) 0 t.acts (closed n r.kept)).still m (closed_still n e r.kept is m was)

      of_entry : ℕ → Option (Entry AgentState) → List Sending × SearchRecord
      of_entry n o = option_map_or (λ e. expanded_entry t value n e r) o ([], r)

      at : (n : ℕ) (o : Option (Entry AgentState)) → slice_get r.kept.entries n ≡ o → WasExpanded (of_entry n o).1.kept m
      at n None is = was
      at n (Some e) is = at_entry n e is

      by : (o : Option ℕ) → WasExpanded (option_map_or (λ n. of_entry n (slice_get r.kept.entries n)) o ([], r)).1.kept m
      by None = was
      by (Some n) = at n (slice_get r.kept.entries n) refl

  -- ---- a receipt

  pub received_continues : (from : ℕ) (m : State) (r : Record AgentState) → Continues t r [] (received t value from m r).1
  received_continues from m r = offered_continues t (state_of t r m) m.g (From from m.sent) r (greater_value t value m.h (state_of t r m))

  pub received_is_kept : (from : ℕ) (m : State) (r : Record AgentState) → ((h : ℕ) → greater_value t value m.h (state_of t r m) ≡ Some h → m.g + h < 2 ^ 60)
      → (greater_value t value m.h (state_of t r m) ≡ None) ⊎ IsKept (received t value from m r).1 (state_of t r m) m.g
  received_is_kept from m r small = offered_is_kept t (state_of t r m) m.g (From from m.sent) r (greater_value t value m.h (state_of t r m)) small
