-- Expansions, receipts and starts as changes of a search.
use Rattle.mp_world.proofs.Basics.{◌≡◌, ◌⊎◌, inl, inr, ℕ, ◌+◌, true, List, [], length, Option, Some, None, refl, sym, ap, subst, ◌∙◌, arith, slice_get, option_map_or, slice_get_within}
use Rattle.mp_world.specs.AgentWords.{Act, AgentTask, State}
use Rattle.mp_world.specs.SearchWords.{Numbers, Entry, Origin, Root, Own, From, IsEarlier, closed, least_open, Record, empty, kept, Sending, AgentState, applies, same_state, start_state, successor, receivers, Parent, expanded, expanded_entry, with_actions, offered_at}
use Rattle.mp_world.specs.SearchWords.{own_value, start_record, greater_value, received, state_of, SearchRecord}
use Rattle.mp_team_states.specs.Growing.{HasGrown}
use Rattle.mp_team_states.proofs.Growth.{grown_closed}
use Rattle.mp_team_states.proofs.Keeping.{actions_hold, offered_holds}
use Rattle.mp_team_states.proofs.Changes.{Changes, changes_grow, changes_then, with_number}
use Rattle.mp_team_states.proofs.Changes.Changes.{nothing, closes, keeps, sends}
pub use Rattle.mp_team_states.proofs.Keeping.{IsEntryOf}

-- ---- an offer

pub offered_changes : (Comes : Record AgentState → Entry AgentState → Type 0) (t : AgentTask) (s : AgentState) (g : ℕ) (value : Option ℕ) (origin : Origin)
    (r : Record AgentState) → IsEarlier (length r.entries) origin
    → ((new : Entry AgentState) → IsEntryOf t s g value origin new → Comes r new)
    → Changes Comes t r [] (offered_at t s g value origin r).1
offered_changes Comes t s g value origin r earlier comes =
    offered_holds t (Changes Comes t)
    (record {
      same = nothing;
      after = changes_then Comes t;
      sends = λ r n e at. sends r (with_number n r) [] n e (receivers t e.key) at (nothing (with_number n r));
    }) s g value origin r
    (λ new k.
    keeps r (kept same_state new r) [] new
    (record { mark = k.mark; bounded = k.bounded; earlier = subst (IsEarlier (length r.entries)) (sym k.is.origin) earlier; cheaper = k.cheaper })
    (comes new k.is) (nothing (kept same_state new r)))

-- ---- an expansion

-- an entry that an own action led to, from an entry that is kept, and was in the first of two records
pub record IsLedTo (t : AgentTask) (value : Numbers → Numbers → Option ℕ) (first r : Record AgentState) (new : Entry AgentState) : Type 0 where
  pub action : ℕ
  pub parent : ℕ
  pub act : Act
  pub from : Entry AgentState
  pub own : slice_get t.acts action ≡ Some act
  pub there : slice_get r.entries parent ≡ Some from
  pub old : Entry AgentState
  pub was : slice_get first.entries parent ≡ Some old
  pub same : from.g ≡ old.g
  pub may : applies act from.key ≡ true
  pub is : IsEntryOf t (successor act from.key) (from.g + act.cost) (own_value t value (successor act from.key)) (Own action parent) new

-- an entry that is expanded is one of a record
pub record IsParentIn (parent : Parent) (r : Record AgentState) : Type 0 where
  pub entry : Entry AgentState
  pub there : slice_get r.entries parent.number ≡ Some entry
  pub state : entry.key ≡ parent.state
  pub g : entry.g ≡ parent.g

parent_stays : (parent : Parent) (r s : Record AgentState) → HasGrown r s → IsParentIn parent r → IsParentIn parent s
parent_stays parent r s grown is =
    let later = grown.entries parent.number is.entry is.there in
    record { entry = later.0; there = later.1; state = later.2.key ∙ is.state; g = later.2.g ∙ is.g }

module _ (t : AgentTask) (value : Numbers → Numbers → Option ℕ) where
  abbrev pub Led : Record AgentState → Record AgentState → Entry AgentState → Type 0
  Led = IsLedTo t value

  module _ (first : Record AgentState) (parent : Parent) (begun : IsParentIn parent first) where
    abbrev FromParent : Record AgentState → List Sending → Record AgentState → Type 0
    FromParent r out s = IsParentIn parent r → Changes (Led first) t r out s

    actions_change : (r : Record AgentState) → FromParent r (with_actions t value parent 0 t.acts r).0 (with_actions t value parent 0 t.acts r).1
    actions_change r =
        actions_hold t FromParent
        (record {
          same = λ r is. nothing r;
          after = λ r s u a b one two is.
              let now = one is in
              changes_then (Led first) t r s u a b now (two (parent_stays parent r s (changes_grow (Led first) t r s a now) is));
          sends = λ r n e at is. sends r (with_number n r) [] n e (receivers t e.key) at (nothing (with_number n r));
        }) value parent 0 t.acts r
        (λ k act at r may new keep is.
        keeps r (kept same_state new r) [] new
        (record {
          mark = keep.mark;
          bounded = keep.bounded;
          earlier =
              subst (IsEarlier (length r.entries)) (sym keep.is.origin)
              (slice_get_within r.entries parent.number is.entry is.there);
          cheaper = keep.cheaper;
        })
        (led k act r (ap (slice_get t.acts) (let e : 0 + k ≡ k = omega arith in e) ∙ at) is may new keep.is)
        (nothing (kept same_state new r)))
      where
        led : (k : ℕ) (act : Act) (r : Record AgentState) → slice_get t.acts (0 + k) ≡ Some act → (is : IsParentIn parent r)
            → applies act parent.state ≡ true → (new : Entry AgentState)
            → IsEntryOf t (successor act parent.state) (parent.g + act.cost) (own_value t value (successor act parent.state)) (Own (0 + k) parent.number) new
            → IsLedTo t value first r new
        led k act r own is may new e = record {
          action = 0 + k;
          parent = parent.number;
          act = act;
          from = is.entry;
          own = own;
          there = is.there;
          old = begun.entry;
          was = begun.there;
          same = is.g ∙ sym begun.g;
          may = ap (λ (s : AgentState). applies act s) is.state ∙ may;
          is =
              subst (λ (s : AgentState). IsEntryOf t (successor act s) (is.entry.g + act.cost) (own_value t value (successor act s)) (Own (0 + k) parent.number) new) (sym is.state)
              (subst (λ (g : ℕ). IsEntryOf t (successor act parent.state) (g + act.cost) (own_value t value (successor act parent.state)) (Own (0 + k) parent.number) new) (sym is.g) e);
        }

  pub expanded_changes : (r : SearchRecord) → Changes (Led r.kept) t r.kept (expanded t value r).0 (expanded t value r).1.kept
  unfolding expanded expanded_entry
  expanded_changes r = by (least_open r.kept)
    where
      at_entry : (n : ℕ) (e : Entry AgentState) → slice_get r.kept.entries n ≡ Some e → Changes (Led r.kept) t r.kept (expanded_entry t value n e r).0 (expanded_entry t value n e r).1.kept
      at_entry n e is =
          let parent : Parent = record { number = n; state = e.key; g = e.g } in
          let after = with_actions t value parent 0 t.acts (closed n r.kept) in
          let here : IsParentIn parent r.kept = record { entry = e; there = is; state = refl; g = refl } in
          closes r.kept after.1 after.0 n
          (actions_change r.kept parent here (closed n r.kept)
          (parent_stays parent r.kept (closed n r.kept) (grown_closed n r.kept) here))

      of_entry : ℕ → Option (Entry AgentState) → List Sending × SearchRecord
      of_entry n o = option_map_or (λ e. expanded_entry t value n e r) o ([], r)

      at : (n : ℕ) (o : Option (Entry AgentState)) → slice_get r.kept.entries n ≡ o → Changes (Led r.kept) t r.kept (of_entry n o).0 (of_entry n o).1.kept
      at n None is = nothing r.kept
      at n (Some e) is = at_entry n e is

      of_least : Option ℕ → List Sending × SearchRecord
      of_least o = option_map_or (λ n. of_entry n (slice_get r.kept.entries n)) o ([], r)

      by : (o : Option ℕ) → Changes (Led r.kept) t r.kept (of_least o).0 (of_least o).1.kept
      by None = nothing r.kept
      by (Some n) = at n (slice_get r.kept.entries n) refl

  -- one entry more is expanded, or nothing happens
  pub expanded_counts : (r : SearchRecord) → ((expanded t value r).1 ≡ r) ⊎ ((expanded t value r).1.expansions ≡ r.expansions + 1)
  unfolding expanded expanded_entry
  expanded_counts r = by (least_open r.kept)
    where
      of_entry : ℕ → Option (Entry AgentState) → List Sending × SearchRecord
      of_entry n o = option_map_or (λ e. expanded_entry t value n e r) o ([], r)

      Counts : List Sending × SearchRecord → Type 0
      Counts d = (d.1 ≡ r) ⊎ (d.1.expansions ≡ r.expansions + 1)

      at : (n : ℕ) (o : Option (Entry AgentState)) → Counts (of_entry n o)
      at n None = inl refl
      at n (Some e) = inr refl

      by : (o : Option ℕ) → Counts (option_map_or (λ n. of_entry n (slice_get r.kept.entries n)) o ([], r))
      by None = inl refl
      by (Some n) = at n (slice_get r.kept.entries n)

  -- ---- a state that comes

  -- an entry of a state that a message told of, as a record knows it
  abbrev pub IsReceived : ℕ → State → Record AgentState → Record AgentState → Entry AgentState → Type 0
  IsReceived from m first r new = IsEntryOf t (state_of t first m) m.g (greater_value t value m.h (state_of t first m)) (From from m.sent) new

  pub received_changes : (from : ℕ) (m : State) (r : Record AgentState) → Changes (IsReceived from m r) t r [] (received t value from m r).1
  received_changes from m r =
      let s = state_of t r m in
      offered_changes (IsReceived from m r) t s m.g (greater_value t value m.h s) (From from m.sent) r tt (λ new e. e)

  -- ---- the start

  abbrev pub IsFirst : Record AgentState → Entry AgentState → Type 0
  IsFirst r new = IsEntryOf t (start_state t) 0 (own_value t value (start_state t)) Root new

  pub start_changes : Changes IsFirst t empty [] (start_record t value).kept
  start_changes = offered_changes IsFirst t (start_state t) 0 (own_value t value (start_state t)) Root empty tt (λ new e. e)
