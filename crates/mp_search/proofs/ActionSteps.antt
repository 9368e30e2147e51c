-- Own actions one after another, and the expansion of an entry.
use Rattle.std.proofs.Common.{Result, Ok, Err, ◌≡◌, ℕ, zero, suc, ◌+◌, ◌-◌, ◌<◌, ◌≤◌, Bool, true, false, List, [], ◌∷◌, ◌++◌, length, drop, get_or, Option, Some, None, sym, ap, ◌∙◌, inl, inr, arith}
use Rattle.std.specs.Prelude.{◌⊎◌, if◌then◌else◌, slice_get, slice_set, IfOk, IsSomeAnd}
use Rattle.std.specs.List.{cons_option}
use Rattle.std.specs.Option.{option_map_or}
use Rattle.std.proofs.lemmas.List.{append-nil, append_assoc, drop_all, drop_more, get_or-set_same}
use Rattle.std.proofs.lemmas.Option.{get_or_from_slice_get, slice_get_cases, slice_get_within}
use Rattle.std.specs.FinSet as set
use Rattle.mp_sets.specs.Numbers.{HasNoneFrom, IsLeastFrom, Numbers, SizedSet}
use Rattle.mp_task.specs.declared.act.Act.{Act}
use Rattle.mp_task.specs.AgentTask.{AgentTask}
use Rattle.mp_store.specs.declared.entry.Entry.{Entry}
use Rattle.mp_store.specs.Record.{Record}
use Rattle.mp_list.specs.declared.memory.OutOfMemory.{OutOfMemory}
use Rattle.mp_store.specs.declared.entry.Mark.TheVariants.{Expanded}
use Rattle.mp_store.specs.Minima.{closed, least_open}
use Rattle.mp_store.proofs.Popped.{least_inside}
use Rattle.mp_search.specs.declared.answer.Sending.{Sending}
use Rattle.mp_search.specs.declared.answer.ExpandRefusal.TheVariants.{AtLimit, Nothing}
use Rattle.mp_search.specs.AgentState.{AgentState, applies, successor}
use Rattle.mp_search.specs.Applying.{is_applicable_in, AreFound, HasApplied}
use Rattle.mp_search.specs.Expansion.{Parent, and_then, answered, expanded, expansion, expanded_entry, one_more, with_action, with_actions, with_successor}
use Rattle.mp_search.specs.Search.{SearchRecord, is_open_below, is_spent}
use Rattle.mp_search.specs.StateKeys.{KeptStates}
use Rattle.mp_search.specs.Steps.{AreStatesOf, HasSent}
use Rattle.mp_search.proofs.KeyedStates.{entry_told}
use Rattle.mp_search.proofs.SendingSteps.{entry_inside}

-- the items from a place inside on
drop_at : {X : Type 0} (xs : List X) (i : ℕ) (x : X) → slice_get xs i ≡ Some x → drop i xs ≡ x ∷ drop (i + 1) xs
drop_at xs i x is = drop_more xs i x (slice_get_within xs i x is) ∙ (λ j. get_or_from_slice_get xs i x x is j ∷ drop (i + 1) xs)

module _ (t : AgentTask) (value : Numbers → Numbers → Option ℕ) (p : Parent) where
  -- the actions below a number were applied: with those that are left, all is sent that is to be sent
  pub record AreApplied (i : ℕ) (out : List Sending) (old new : KeptStates) : Type 0 where
    pub sent : out ++ (with_actions t value p i (drop i t.acts) new.kept).0 ≡ (with_actions t value p 0 t.acts old.kept).0
    pub kept : (with_actions t value p i (drop i t.acts) new.kept).1 ≡ (with_actions t value p 0 t.acts old.kept).1
    pub states : AreStatesOf t new
    pub longer : length old.kept.entries ≤ length new.kept.entries

  step : (i : ℕ) (act : Act) (r : Record AgentState) → slice_get t.acts i ≡ Some act
      → with_actions t value p i (drop i t.acts) r ≡ and_then (with_action t value p i act r) (with_actions t value p (i + 1) (drop (i + 1) t.acts))
  unfolding with_actions
  step i act r is = ap (λ (acts : List Act). with_actions t value p i acts r) (drop_at t.acts i act is)

  one_applied : (i : ℕ) (act : Act) (before out : List Sending) (old k new : KeptStates) (answer : Option Sending) → AreApplied i before old k → slice_get t.acts i ≡ Some act
      → HasSent t (with_action t value p i act k.kept) k new answer → out ≡ before ++ cons_option answer [] → AreApplied (i + 1) out old new
  one_applied i act before out old k new answer applied is sent grown =
      let left = λ (r : Record AgentState). with_actions t value p (i + 1) (drop (i + 1) t.acts) r in
      let made = with_action t value p i act k.kept in
      record {
        sent =
            (λ j. (grown ∙ (λ i. before ++ sent.sent i)) j ++ (left (sent.kept j)).0)
            ∙ append_assoc before made.0 (left made.1).0
            ∙ ap (λ (d : List Sending × Record AgentState). before ++ d.0) (sym (step i act k.kept is))
            ∙ applied.sent;
        kept = ap (λ (r : Record AgentState). (left r).1) sent.kept ∙ ap (λ (d : List Sending × Record AgentState). d.1) (sym (step i act k.kept is)) ∙ applied.kept;
        states = sent.states;
        longer = let h = applied.longer in let l = sent.longer in omega arith;
      }

  nothing_left : (i : ℕ) (r : Record AgentState) → length t.acts ≤ i → with_actions t value p i (drop i t.acts) r ≡ ([], r)
  unfolding with_actions
  nothing_left i r all = ap (λ (acts : List Act). with_actions t value p i acts r) (drop_all i t.acts all)

  -- an action that may not be applied changes nothing
  passed : (i : ℕ) (r : Record AgentState) → is_applicable_in t p.state i ≡ false
      → with_actions t value p i (drop i t.acts) r ≡ with_actions t value p (i + 1) (drop (i + 1) t.acts) r
  unfolding with_action
  passed i r not = by (slice_get_cases t.acts i).1
    where
      by : ((x : Act) × (i < length t.acts) × (slice_get t.acts i ≡ Some x) × (get_or t.acts i x ≡ x)) ⊎ ((length t.acts ≤ i) × (slice_get t.acts i ≡ None))
          → with_actions t value p i (drop i t.acts) r ≡ with_actions t value p (i + 1) (drop (i + 1) t.acts) r
      by (inr past) =
          let all = past.0 in nothing_left i r all ∙ sym (nothing_left (i + 1) r (omega (arith, all)))
      by (inl there) =
          let act = there.0 in
          let is = there.2 in
          let cannot : applies act p.state ≡ false = ap (λ (o : Option Act). option_map_or (λ act. applies act p.state) o false) (sym is) ∙ not in
          let nothing : with_action t value p i act r ≡ ([], r) = ap (λ (b : Bool). if b then with_successor t value p i act (successor act p.state) r else ([], r)) cannot in
          step i act r is ∙ ap (λ (d : List Sending × Record AgentState). and_then d (with_actions t value p (i + 1) (drop (i + 1) t.acts))) nothing

  -- and so do several in a row
  all_passed : (i n : ℕ) (r : Record AgentState) → ((k : ℕ) → i ≤ k → k < i + n → is_applicable_in t p.state k ≡ false)
      → with_actions t value p i (drop i t.acts) r ≡ with_actions t value p (i + n) (drop (i + n) t.acts) r
  all_passed i zero r none = (λ j. with_actions t value p (same j) (drop (same j) t.acts) r)
    where
      same : i ≡ i + 0
      same = omega arith
  all_passed i (suc n) r none =
      passed i r (none i (omega arith) (omega arith))
      ∙ all_passed (i + 1) n r (λ k from below. none k (omega (arith, from)) (omega (arith, below)))
      ∙ (λ j. with_actions t value p (same j) (drop (same j) t.acts) r)
    where
      same : i + 1 + n ≡ i + suc n
      same = omega arith

  -- the actions up to the next one that may be applied are as good as applied
  next_applied : (i k : ℕ) (out : List Sending) (old new : KeptStates) (found : SizedSet) → AreFound t p.state found → i ≤ k
      → ((m : ℕ) → i ≤ m → m < k → set.contains found.members m ≡ false)
      → AreApplied i out old new → AreApplied k out old new
  next_applied i k out old new found are from none applied =
      let to : i + (k - i) ≡ k = omega (arith, from) in
      let same : with_actions t value p i (drop i t.acts) new.kept ≡ with_actions t value p k (drop k t.acts) new.kept =
      all_passed i (k - i) new.kept (λ m above below. sym (are.numbers m) ∙ none m above (omega (arith, below, to)))
      ∙ (λ j. with_actions t value p (to j) (drop (to j) t.acts) new.kept)
      in
      record {
        sent = ap (λ (d : List Sending × Record AgentState). out ++ d.0) (sym same) ∙ applied.sent;
        kept = ap (λ (d : List Sending × Record AgentState). d.1) (sym same) ∙ applied.kept;
        states = applied.states;
        longer = applied.longer;
      }

  -- one of them is applied
  pub found_applied : (i k : ℕ) (before out : List Sending) (old mid new : KeptStates) (found : SizedSet) (answer : Option Sending) → AreFound t p.state found
      → IsLeastFrom found.members i k → AreApplied i before old mid → HasApplied t value p k mid new answer → out ≡ before ++ cons_option answer []
      → AreApplied (k + 1) out old new
  found_applied i k before out old mid new found answer are least applied has grown =
      one_applied k has.act before out old mid new answer
      (next_applied i k before old mid found are least.above least.least applied) has.is has.sent grown

  -- where no further one may be applied, all are
  pub last_applied : (i : ℕ) (out : List Sending) (old new : KeptStates) (found : SizedSet) → AreFound t p.state found → i ≤ length t.acts
      → HasNoneFrom found.members i → AreApplied i out old new → (out, new.kept) ≡ with_actions t value p 0 t.acts old.kept
  last_applied i out old new found are inside none applied =
      let all = next_applied i (length t.acts) out old new found are inside (λ m above below. none m above) applied in
      let left = nothing_left (length t.acts) new.kept (omega arith) in
      λ j. (
        (sym (append-nil out) ∙ ap (λ (d : List Sending × Record AgentState). out ++ d.0) (sym left) ∙ all.sent) j,
        (ap (λ (d : List Sending × Record AgentState). d.1) (sym left) ∙ all.kept) j,
      )

-- ---- the least open entry

module _ (t : AgentTask) (value : Numbers → Numbers → Option ℕ) (n expansions : ℕ) (r : Record AgentState) (out : List Sending) (after : Record AgentState)
    (least : least_open r ≡ Some n) (e : Entry AgentState) (is : slice_get (closed n r).entries n ≡ Some e)
    (out_is : out ≡ (with_actions t value (record { number = n; state = e.key; g = e.g }) 0 t.acts (closed n r)).0)
    (after_is : after ≡ (with_actions t value (record { number = n; state = e.key; g = e.g }) 0 t.acts (closed n r)).1) where
  pub least_expanded : (old : Entry AgentState) → slice_get r.entries n ≡ Some old → old.key ≡ e.key → old.g ≡ e.g
      → (out, record { kept = after; expansions = expansions + 1 }) ≡ expanded t value (record { kept = r; expansions = expansions })
  unfolding expanded expanded_entry
  least_expanded old there key cost =
      let all = λ (x : Entry AgentState). with_actions t value (record { number = n; state = x.key; g = x.g }) 0 t.acts (closed n r) in
      let same : all e ≡ all old = λ j. with_actions t value (record { number = n; state = sym key j; g = sym cost j }) 0 t.acts (closed n r) in
      (λ j. (out_is j, record { kept = after_is j; expansions = expansions + 1 }))
      ∙ ap (one_more expansions) same
      ∙ ap (λ (o : Option (Entry AgentState)). option_map_or (λ x. one_more expansions (all x)) o ([], record { kept = r; expansions = expansions })) (sym there)
      ∙ ap (λ (o : Option ℕ). option_map_or (λ m. option_map_or (λ x. expanded_entry t value m x (record { kept = r; expansions = expansions })) (slice_get r.entries m) ([], record { kept = r; expansions = expansions })) o ([], record { kept = r; expansions = expansions })) (sym least)

-- ---- the entry that is expanded

-- the entry that was closed
pub closed_entry : {K : Type 0} (n : ℕ) (r : Record K) (old e : Entry K) → slice_get r.entries n ≡ Some old → slice_get (closed n r).entries n ≡ Some e → e ≡ record old { mark = Expanded }
closed_entry {K} n r old e there is =
    let after : closed n r ≡ record r { entries = slice_set r.entries n (record old { mark = Expanded }) } =
    ap (λ (o : Option (Entry K)). option_map_or (λ (e : Entry K). record r { entries = slice_set r.entries n (record e { mark = Expanded }) }) o r) there
    in
    let at : slice_get (slice_set r.entries n (record old { mark = Expanded })) n ≡ Some e = ap (λ (x : Record K). slice_get x.entries n) (sym after) ∙ is in
    sym (get_or_from_slice_get (slice_set r.entries n (record old { mark = Expanded })) n e e at)
    ∙ get_or-set_same r.entries n (record old { mark = Expanded }) e (slice_get_within r.entries n old there)

-- ---- the expansion of the entry that was closed

module _ (t : AgentTask) (value : Numbers → Numbers → Option ℕ) (n : ℕ) (r popped after : Record AgentState)
    (least : least_open r ≡ Some n) (popped_is : popped ≡ closed n r) where
  abbrev IsDone : List Sending → Entry AgentState → Type 0
  IsDone out e = (out, after) ≡ with_actions t value (record { number = n; state = e.key; g = e.g }) 0 t.acts popped

  entry_expanded : (out : List Sending) → IsSomeAnd (slice_get popped.entries n) (IsDone out) → (expansions : ℕ)
      → (out, record { kept = after; expansions = expansions + 1 }) ≡ expanded t value (record { kept = r; expansions = expansions })
  entry_expanded out done expansions =
      let told = entry_told (IsDone out) (slice_get popped.entries n) done in
      let p : Parent = record { number = n; state = told.0.key; g = told.0.g } in
      let is : slice_get (closed n r).entries n ≡ Some told.0 = ap (λ (k : Record AgentState). slice_get k.entries n) (sym popped_is) ∙ told.1 in
      let before = entry_inside r.entries n (least_inside r n least) in
      let entry = closed_entry n r before.0 told.0 before.1 is in
      least_expanded t value n expansions r out after least told.0 is
      (ap (λ (x : List Sending × Record AgentState). x.0) told.2 ∙ (λ j. (with_actions t value p 0 t.acts (popped_is j)).0))
      (ap (λ (x : List Sending × Record AgentState). x.1) told.2 ∙ (λ j. (with_actions t value p 0 t.acts (popped_is j)).1))
      before.0 before.1 (sym (ap (λ (x : Entry AgentState). x.key) entry)) (sym (ap (λ (x : Entry AgentState). x.g) entry))

  pub if_expanded : (res : Result (List Sending) OutOfMemory) → IfOk res (λ out. IsSomeAnd (slice_get popped.entries n) (IsDone out))
      → IfOk res (λ out. (expansions : ℕ)
      → (out, record { kept = after; expansions = expansions + 1 }) ≡ expanded t value (record { kept = r; expansions = expansions }))
  if_expanded (Ok out) done = entry_expanded out done
  if_expanded (Err e) done = tt

-- ---- what a search does when it is to expand

module _ (t : AgentTask) (value : Numbers → Numbers → Option ℕ) (limit : ℕ) (r : SearchRecord) where
  pub at_limit : is_spent limit r ≡ true → (Err AtLimit, r) ≡ expansion t value limit r
  unfolding expansion
  at_limit spent = ap (λ (b : Bool). if b then (Err AtLimit, r) else if is_open_below r.kept then answered (expanded t value r) else (Err Nothing, r)) (sym spent)

  pub nothing_open : is_spent limit r ≡ false → is_open_below r.kept ≡ false → (Err Nothing, r) ≡ expansion t value limit r
  unfolding expansion
  nothing_open spent none =
      ap (λ (b : Bool). if b then answered (expanded t value r) else (Err Nothing, r)) (sym none)
      ∙ ap (λ (b : Bool). if b then (Err AtLimit, r) else if is_open_below r.kept then answered (expanded t value r) else (Err Nothing, r)) (sym spent)

  pub one_expanded : (out : List Sending) (new : SearchRecord) → is_spent limit r ≡ false → is_open_below r.kept ≡ true → (out, new) ≡ expanded t value r
      → (Ok out, new) ≡ expansion t value limit r
  unfolding expansion
  one_expanded out new spent some is =
      ap answered is
      ∙ ap (λ (b : Bool). if b then answered (expanded t value r) else (Err Nothing, r)) (sym some)
      ∙ ap (λ (b : Bool). if b then (Err AtLimit, r) else if is_open_below r.kept then answered (expanded t value r) else (Err Nothing, r)) (sym spent)
