-- How many entries an agent keeps to which no message led: at most 200,000 for each expansion.
use Rattle.mp_world.proofs.Basics.{◌≡◌, ℕ, ◌+◌, ◌*◌, ◌≤◌, ◌^◌, ◌⊎◌, Bool, true, false, cond, List, [], ◌∷◌, ◌++◌, length, map, Option, Some, None, refl, sym, ap, subst, ◌∙◌, arith, inl, inr, Ok, nat_lt, slice_get, slice_set, sum_by, option_map_or}
use Rattle.std.proofs.lemmas.List.Sums.{sum_by-cons, sum_by_push}
use Rattle.mp_store.specs.Sent.{mark_sent}
use Rattle.mp_store.proofs.Marks.{SameButMarks, closing_marks, giving_way_marks, unmarked}
use Rattle.mp_search.specs.declared.answer.Received.TheVariants as receptions
use Rattle.mp_world.specs.AgentWords.{Act, AgentTask, State, Local, AgentRecord, local, with_search, Step, with_state}
use Rattle.mp_world.specs.SearchWords.{Numbers, Entry, Expanded, Kept, Worse, Origin, Root, Own, From, best, closed, least_open, Record, gives_way, is_known, kept, new_entry, sent_if_new, was_sent, Sending, AgentState, applies, is_goal_state, same_state, successor}
use Rattle.mp_world.specs.SearchWords.{Parent, expanded, expanded_entry, with_action, with_actions, with_successor, by_keep_rule, offered_at, offered_with, own_value, greater_value, received, state_of, SearchRecord, is_due, sending_of, sent_best, sent_entry_of}
use Rattle.mp_world.specs.SearchWords.{sent_if_due}
use Rattle.mp_team_states.proofs.WorldsGrow.{search_holds}

-- 1 for an origin that is no message
abbrev pub own_one : Origin → ℕ
own_one Root = 1
own_one (Own action parent) = 1
own_one (From agent sent) = 0

abbrev pub own_count : List (Entry AgentState) → ℕ
own_count es = sum_by (λ e. own_one e.origin) es

-- ---- marks do not count

unmarked_count : (es : List (Entry AgentState)) → own_count (map unmarked es) ≡ own_count es
unmarked_count [] = refl
unmarked_count (e ∷ es) =
    sum_by-cons (λ (e : Entry AgentState). own_one e.origin) (unmarked e) (map unmarked es)
    ∙ ap (λ (n : ℕ). own_one e.origin + n) (unmarked_count es)
    ∙ sym (sum_by-cons (λ (e : Entry AgentState). own_one e.origin) e es)

marks_count : (es others : List (Entry AgentState)) → SameButMarks es others → own_count others ≡ own_count es
marks_count es others alike = sym (unmarked_count others) ∙ ap own_count (sym alike.same) ∙ unmarked_count es

closed_count : (n : ℕ) (r : Record AgentState) → own_count (closed n r).entries ≡ own_count r.entries
closed_count n r = by (slice_get r.entries n) refl
  where
    by : (o : Option (Entry AgentState)) → slice_get r.entries n ≡ o
        → own_count (option_map_or (λ (e : Entry AgentState). record r { entries = slice_set r.entries n (record e { mark = Expanded }) }) o r).entries ≡ own_count r.entries
    by None is = refl
    by (Some e) is = marks_count r.entries (slice_set r.entries n (record e { mark = Expanded })) (closing_marks r.entries n e is)

kept_count : (new : Entry AgentState) (r : Record AgentState) → own_count (kept same_state new r).entries ≡ own_count r.entries + own_one new.origin
kept_count new r =
    sum_by_push (λ (e : Entry AgentState). own_one e.origin) (map (gives_way same_state new.key) r.entries) new
    ∙ ap (λ (n : ℕ). n + own_one new.origin) (marks_count r.entries (map (gives_way same_state new.key) r.entries) (giving_way_marks same_state new.key r.entries))

-- ---- an offer

module _ (t : AgentTask) (s : AgentState) (g : ℕ) (origin : Origin) (r : Record AgentState) where
  offered_with_count : (h : ℕ) → own_count (offered_with t s g h origin r).1.entries ≤ own_count r.entries + own_one origin
  unfolding offered_with
  offered_with_count h = by (nat_lt (g + h) (2 ^ 60))
    where
      new : Entry AgentState
      new = new_entry s g h origin (is_goal_state t s)

      chosen : (b : Bool)
          → own_count (by_keep_rule (cond b (Worse, r) (Kept (length r.entries), kept same_state new r))).1.entries ≤ own_count r.entries + own_one origin
      chosen true = omega arith
      chosen false = let same = kept_count new r in omega arith

      by : (b : Bool)
          → own_count (cond b (by_keep_rule (cond (is_known same_state new.key new.g r.entries) (Worse, r) (Kept (length r.entries), kept same_state new r))) (receptions.Worse, r)).1.entries
          ≤ own_count r.entries + own_one origin
      by true = chosen (is_known same_state new.key new.g r.entries)
      by false = omega arith

  pub offered_count : (value : Option ℕ) → own_count (offered_at t s g value origin r).1.entries ≤ own_count r.entries + own_one origin
  offered_count None = omega arith
  offered_count (Some h) = offered_with_count h

-- ---- what is sent adds no entry

mark_same : (t : AgentTask) (s : AgentState) (n : ℕ) (e : Entry AgentState) (r : Record AgentState) → (sending_of t s e (mark_sent same_state n r)).1.entries ≡ r.entries
mark_same t s n e r = by (slice_get r.entries n)
  where
    chosen : (b : Bool) → (sending_of t s e (cond b (None, r) (Some (length r.sent), record r { sent = r.sent ++ n ∷ [] }))).1.entries ≡ r.entries
    chosen true = refl
    chosen false = refl

    by : (o : Option (Entry AgentState)) → (sending_of t s e (option_map_or (λ x. sent_if_new same_state n x r) o (None, r))).1.entries ≡ r.entries
    by None = refl
    by (Some x) = chosen (was_sent same_state x.key x.g r)

entry_same : (t : AgentTask) (s : AgentState) (o : Option ℕ) (r : Record AgentState) → (sent_entry_of t s o r).1.entries ≡ r.entries
unfolding sent_entry_of
entry_same t s None r = refl
entry_same t s (Some n) r = by (slice_get r.entries n)
  where
    by : (o : Option (Entry AgentState)) → (option_map_or (λ e. sending_of t s e (mark_sent same_state n r)) o ([], r)).1.entries ≡ r.entries
    by None = refl
    by (Some e) = mark_same t s n e r

due_same : (t : AgentTask) (act : Act) (s reached : AgentState) (r : Record AgentState) → (sent_if_due t act s reached r).1.entries ≡ r.entries
unfolding sent_if_due
due_same t act s reached r = by (is_due t act s reached)
  where
    by : (b : Bool) → (cond b (sent_best t reached r) ([], r)).1.entries ≡ r.entries
    by true = entry_same t reached (best same_state reached r) r
    by false = refl

-- ---- an expansion

module _ (t : AgentTask) (value : Numbers → Numbers → Option ℕ) where
  action_count : (parent : Parent) (number : ℕ) (act : Act) (r : Record AgentState)
      → own_count (with_action t value parent number act r).1.entries ≤ own_count r.entries + 1
  unfolding with_action with_successor
  action_count parent number act r = by (applies act parent.state)
    where
      reached : AgentState
      reached = successor act parent.state

      offer : Record AgentState
      offer = (offered_at t reached (parent.g + act.cost) (own_value t value reached) (Own number parent.number) r).1

      by : (b : Bool) → own_count (cond b (with_successor t value parent number act reached r) ([], r)).1.entries ≤ own_count r.entries + 1
      by true =
          let one : own_count offer.entries ≤ own_count r.entries + 1 =
          offered_count t reached (parent.g + act.cost) (Own number parent.number) r (own_value t value reached) in
          let same = ap own_count (due_same t act parent.state reached offer) in
          omega arith
      by false = omega arith

  actions_count : (parent : Parent) (number : ℕ) (acts : List Act) (r : Record AgentState)
      → own_count (with_actions t value parent number acts r).1.entries ≤ own_count r.entries + length acts
  unfolding with_actions
  actions_count parent number [] r = omega arith
  actions_count parent number (act ∷ acts) r =
      let now = with_action t value parent number act r in
      let first = action_count parent number act r in
      let others = actions_count parent (number + 1) acts now.1 in
      omega arith

  abbrev pub HasExpanded : SearchRecord → List Sending × SearchRecord → Type 0
  HasExpanded r d =
      (d.1 ≡ r) ⊎ ((d.1.expansions ≡ r.expansions + 1) × (own_count d.1.kept.entries ≤ own_count r.kept.entries + length t.acts))

  pub expanded_count : (r : SearchRecord) → HasExpanded r (expanded t value r)
  unfolding expanded expanded_entry
  expanded_count r = by (least_open r.kept)
    where
      at_entry : (n : ℕ) (e : Entry AgentState)
          → own_count (with_actions t value (record { number = n; state = e.key; g = e.g }) 0 t.acts (closed n r.kept)).1.entries ≤ own_count r.kept.entries + length t.acts
      at_entry n e =
          let parent : Parent = record { number = n; state = e.key; g = e.g } in
          let same = closed_count n r.kept in
          let more = actions_count parent 0 t.acts (closed n r.kept) in
          omega arith

      of_entry : ℕ → Option (Entry AgentState) → List Sending × SearchRecord
      of_entry n o = option_map_or (λ e. expanded_entry t value n e r) o ([], r)

      at : (n : ℕ) (o : Option (Entry AgentState)) → HasExpanded r (of_entry n o)
      at n None = inl refl
      at n (Some e) = inr (refl, at_entry n e)

      by : (o : Option ℕ) → HasExpanded r (option_map_or (λ n. of_entry n (slice_get r.kept.entries n)) o ([], r))
      by None = inl refl
      by (Some n) = at n (slice_get r.kept.entries n)

  pub received_count : (from : ℕ) (m : State) (r : Record AgentState) → own_count (received t value from m r).1.entries ≤ own_count r.entries
  received_count from m r =
      let s = state_of t r m in
      let more : own_count (received t value from m r).1.entries ≤ own_count r.entries + 0 = offered_count t s m.g (From from m.sent) r (greater_value t value m.h s) in
      omega arith

-- ---- a step of an agent

abbrev pub HasFewOwn : AgentRecord → Type 0
HasFewOwn r = own_count r.search.kept.entries ≤ 1 + 200000 * r.search.expansions

pub local_own : (value : Numbers → Numbers → Option ℕ) (r : AgentRecord) (s : Step) → HasFewOwn r → (event : Local) (bytes : List ℕ)
    → length r.task.acts ≤ 200000 → local value r event bytes ≡ Ok s → HasFewOwn s.after
unfolding with_state
local_own value r s few event bytes acts is =
    search_holds value r event bytes (λ (s : Step). HasFewOwn s.after) (record {
      expands = λ at. by (expanded_count r.task value r.search);
      receives = λ from m at reads. let fewer = received_count r.task value from m r.search.kept in let before = few in omega arith;
      quiet = λ s quiet. same s.after.search quiet.search_is;
    }) s is
  where
    same : (x : SearchRecord) → x ≡ r.search → own_count x.kept.entries ≤ 1 + 200000 * x.expansions
    same x is = subst (λ (x : SearchRecord). own_count x.kept.entries ≤ 1 + 200000 * x.expansions) (sym is) few

    by : HasExpanded r.task value r.search (expanded r.task value r.search) → HasFewOwn (with_search r (expanded r.task value r.search)).after
    by (inl is) = same (expanded r.task value r.search).1 is
    by (inr both) = let one = both.0 in let more = both.1 in let before = few in omega arith
