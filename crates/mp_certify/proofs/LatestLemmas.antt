-- Of the entries of a state that an agent had noted the latest one is the cheapest.
use Rattle.std.proofs.Common.{◌≡◌, ℕ, zero, suc, ◌+◌, ◌<◌, ◌≤◌, Bool, true, false, cond, not, ◌&&◌, ◌||◌, List, [], ◌∷◌, ◌++◌, length, get_or, take, drop, map, Some, slice_get, refl, sym, ap, ◌∙◌, subst, inl, inr, drop-cons, arith}
use Rattle.std.specs.Prelude.{nat_le, nat_lt}
use Rattle.std.specs.List.{AllPairs, Contains, filter, flat_map, list_all}
use Rattle.std.proofs.Math.ListN.{drop_of_length-le}
use Rattle.std.proofs.lemmas.Bool.{cases_lt, false_from_ne_true, false≢true, leb-true, le-leb}
use Rattle.std.proofs.lemmas.List.{get_or-take, get_or_default, length-take}
use Rattle.std.proofs.lemmas.Option.{get_or_from_slice_get}
use Rattle.mp_list.proofs.Bools.{same_tests}
use Rattle.mp_list.proofs.Members.{all_at, any_from, contains_head, contains_tail, some_member}
use Rattle.mp_task.specs.AgentTask.{AgentTask}
use Rattle.mp_messages.specs.declared.history.Event.{Event}
use Rattle.mp_store.specs.declared.entry.Entry.{Entry}
use Rattle.mp_search.specs.AgentState.{AgentState, same_state}
use Rattle.mp_search.proofs.KeyedStates.{Decides-state}
use Rattle.mp_reach.specs.LeadsOn.{IsAny}
use Rattle.mp_world.specs.IsRun.{IsRun}
use Rattle.mp_world.specs.Team.{team_with}
use Rattle.mp_world.specs.World.{World}
use Rattle.mp_team_states.proofs.StepsSound.{records_sound}
use Rattle.mp_team_states.specs.Expansions.{nothing_known}
use Rattle.mp_team_states.proofs.Heuristics.{knows_nothing}
use Rattle.mp_team_states.proofs.Runs.{IsInvariantFor, run_invariant}
use Rattle.mp_audit.specs.LastCut.{is_cheapest, last_bounds, noted_bounds, worth}
use Rattle.mp_audit.proofs.FirstLemmas.{item_at}
use Rattle.mp_certify.specs.Latest.{has_state, latest, latest_bounds, latest_bounds_of}

-- a later entry of a state costs less
abbrev FallsIn : List (Entry AgentState) → Type 0
FallsIn entries = AllPairs (λ e later. same_state e.key later.key ≡ true → later.g < e.g) entries

-- each item of a list passes where none fails
all_pass : {X : Type 0} (test : X → Bool) (xs : List X) → ((x : X) → Contains xs x → test x ≡ true) → list_all test xs ≡ true
all_pass test [] each = refl
all_pass test (x ∷ xs) each =
    (λ j. each x (contains_head x xs) j && list_all test xs) ∙ all_pass test xs (λ y there. each y (contains_tail x xs y there))

-- an item behind a place stands at a place
behind_at : {X : Type 0} (xs : List X) (i : ℕ) (x : X) → Contains (drop i xs) x → (k : ℕ) × (i ≤ k) × (k < length xs) × (get_or xs k x ≡ x)
behind_at xs zero x there = (there.0, omega arith, there.1, there.2)
behind_at [] (suc i) x there = absurd (let lt = there.1 in omega (arith, lt))
behind_at (y ∷ ys) (suc i) x there =
    let found = behind_at ys i x there in
    let le = found.1 in
    let lt = found.2 in
    (suc found.0, omega (arith, le), omega (arith, lt), found.3)

-- and what stands behind a place is there
there_behind : {X : Type 0} (xs : List X) (i k : ℕ) (x : X) → i ≤ k → k < length xs → get_or xs k x ≡ x → Contains (drop i xs) x
there_behind xs zero k x le lt is = (k, lt, is)
there_behind [] (suc i) k x le lt is = absurd (omega (arith, lt))
there_behind (y ∷ ys) (suc i) zero x le lt is = absurd (omega (arith, le))
there_behind (y ∷ ys) (suc i) (suc k) x le lt is = there_behind ys i k x (omega (arith, le)) (omega (arith, lt)) is

module _ (entries : List (Entry AgentState)) (falls : FallsIn entries) where
  -- whether an entry costs no more than another one of its state
  abbrev is_no_dearer : Entry AgentState → Entry AgentState → Bool
  is_no_dearer e x = not (same_state x.key e.key) || nat_le e.g x.g

  module _ (i : ℕ) (e : Entry AgentState) (within : i < length entries) (is : e ≡ get_or entries i e) where
    -- one behind it of its state is cheaper
    cheaper : (k : ℕ) (x : Entry AgentState) → i < k → k < length entries → get_or entries k x ≡ x → same_state x.key e.key ≡ true → x.g < e.g
    cheaper k x before inside at same =
        let one : get_or entries i e ≡ e = sym is in
        let states = (Decides-state x.key e.key).0 same in
        let there : get_or entries k e ≡ x = get_or_default entries k e x inside ∙ at in
        let fell = falls i k e before inside ((λ j. same_state (one j).key (there j).key) ∙ (Decides-state e.key x.key).1 (sym states)) in
        subst (λ (y : Entry AgentState). x.g < y.g) one (subst (λ (y : Entry AgentState). y.g < (get_or entries i e).g) there fell)

    -- one before it is dearer
    dearer : (k : ℕ) (x : Entry AgentState) → k < i → get_or entries k x ≡ x → same_state x.key e.key ≡ true → e.g < x.g
    dearer k x before at same =
        let there : get_or entries i x ≡ e = get_or_default entries i x e within ∙ sym is in
        let fell = falls k i x before within ((λ j. same_state (at j).key (there j).key) ∙ same) in
        subst (λ (y : Entry AgentState). e.g < y.g) at (subst (λ (y : Entry AgentState). y.g < (get_or entries k x).g) there fell)

    latest_is_cheapest : is_cheapest entries e ≡ not (has_state (drop (i + 1) entries) e)
    latest_is_cheapest = same_tests (is_cheapest entries e) (not (has_state (drop (i + 1) entries) e)) to_latest to_cheapest
      where
        to_latest : is_cheapest entries e ≡ true → not (has_state (drop (i + 1) entries) e) ≡ true
        to_latest cheapest =
            ap not (false_from_ne_true (has_state (drop (i + 1) entries) e) (λ here.
            let found = some_member (λ (x : Entry AgentState). same_state x.key e.key) (drop (i + 1) entries) here in
            let place = behind_at entries (i + 1) found.0 found.1 in
            let le = place.1 in
            let low = cheaper place.0 found.0 (omega (arith, le)) place.2 place.3 found.2 in
            let passes = all_at (is_no_dearer e) entries found.0 cheapest (place.0, place.2, place.3) in
            let least = leb-true e.g found.0.g (sym (ap (λ (b : Bool). not b || nat_le e.g found.0.g) found.2) ∙ passes) in
            absurd (omega (arith, low, least))))

        to_cheapest : not (has_state (drop (i + 1) entries) e) ≡ true → is_cheapest entries e ≡ true
        to_cheapest new = all_pass (is_no_dearer e) entries (λ x there. by x there (same_state x.key e.key) refl)
          where
            by : (x : Entry AgentState) → Contains entries x → (b : Bool) → same_state x.key e.key ≡ b → is_no_dearer e x ≡ true
            by x there false other = ap (λ (b : Bool). not b || nat_le e.g x.g) other
            by x there true same =
                let least : e.g ≤ x.g =
                elim (cases_lt there.0 i) [
                  | inl before ↦ let high = dearer there.0 x before there.2 same in omega (arith, high)
                  | inr behind ↦
                      elim (cases_lt i there.0) [
                        | inl later ↦
                            let here =
                            any_from (λ (y : Entry AgentState). same_state y.key e.key) (drop (i + 1) entries) x
                            (there_behind entries (i + 1) there.0 x (omega (arith, later)) there.1 there.2) same in
                            absurd (false≢true (ap not (sym here) ∙ new))
                        | inr past ↦
                            let place : there.0 ≡ i = omega (arith, behind, past) in
                            let one : x ≡ e = sym there.2 ∙ ap (λ (k : ℕ). get_or entries k x) place ∙ get_or_default entries i x e within ∙ sym is in
                            subst (λ (y : Entry AgentState). e.g ≤ y.g) (sym one) (omega arith)
                      ]
                ] in
                ap (λ (b : Bool). not b || nat_le e.g x.g) same ∙ le-leb e.g x.g least

  abbrev is_taken : ℕ → Entry AgentState → Bool
  is_taken cost e = nat_lt e.g cost && is_cheapest entries e

  -- what is left of the entries
  left : (cost n i : ℕ) → i + n ≡ length entries → latest cost (drop i entries) ≡ filter (is_taken cost) (drop i entries)
  left cost zero i all =
      let none : drop i entries ≡ [] = drop_of_length-le entries (omega (arith, all)) in
      ap (latest cost) none ∙ sym (ap (filter (is_taken cost)) none)
  left cost (suc n) i all =
      let within : i < length entries = omega (arith, all) in
      let item = item_at entries i within in
      let e = item.0 in
      let is : e ≡ get_or entries i e = sym (get_or_from_slice_get entries i e e item.1) in
      let next : suc i ≡ i + 1 = omega arith in
      let split : drop i entries ≡ e ∷ drop (i + 1) entries = drop-cons entries i e within ∙ (λ j. sym is j ∷ drop (next j) entries) in
      let test = ap (λ (b : Bool). nat_lt e.g cost && b) (sym (latest_is_cheapest i e within is)) in
      let later = left cost n (i + 1) (omega (arith, all)) in
      ap (latest cost) split
      ∙ (λ j. cond (test j) (e ∷ later j) (later j))
      ∙ sym (ap (filter (is_taken cost)) split)

pub latest_are_cheapest : (entries : List (Entry AgentState)) → FallsIn entries → (cost : ℕ) → latest cost entries ≡ filter (λ e. nat_lt e.g cost && is_cheapest entries e) entries
latest_are_cheapest entries falls cost = left entries falls cost (length entries) 0 (omega arith)

-- the first entries fall as all do
first_fall : (n : ℕ) (entries : List (Entry AgentState)) → FallsIn entries → FallsIn (take n entries)
first_fall n entries falls i j d before within =
    let lengths = length-take n entries in
    let low : i < n = omega (arith, before, within, lengths) in
    let high : j < n = omega (arith, within, lengths) in
    let inside : j < length entries = omega (arith, within, lengths) in
    λ same.
    let fell = falls i j d before inside ((λ k. same_state (sym (get_or-take n entries i d low) k).key (sym (get_or-take n entries j d high) k).key) ∙ same) in
    subst (λ (x : Entry AgentState). (get_or (take n entries) j d).g < x.g) (sym (get_or-take n entries i d low))
    (subst (λ (x : Entry AgentState). x.g < (get_or entries i d).g) (sym (get_or-take n entries j d high)) fell)

-- what items give is the same where each gives the same
each_same : {X Y : Type 0} (f g : X → List Y) (xs : List X) → ((i : ℕ) (x : X) → slice_get xs i ≡ Some x → f x ≡ g x) → flat_map f xs ≡ flat_map g xs
each_same f g [] same = refl
each_same f g (x ∷ xs) same = λ j. same 0 x refl j ++ each_same f g xs (λ i y there. same (suc i) y there) j

pub latest_bounds_are : (limit : ℕ) (tasks : List AgentTask) (schedule : List Event) (w : World) (cost : ℕ)
    → IsRun (team_with nothing_known limit tasks) schedule w
    → latest_bounds w cost ≡ last_bounds w cost
latest_bounds_are limit tasks schedule w cost it =
    let all : IsInvariantFor nothing_known tasks it.is_team.tasks IsAny w =
    run_invariant (team_with nothing_known limit tasks) it.is_team (knows_nothing IsAny tasks) schedule w it.leads in
    let sound = records_sound tasks it.is_team.tasks w all.team all.sound in
    each_same (latest_bounds_of w cost) (noted_bounds w cost) w.agents (λ i r there.
    let entries = r.search.kept.entries in
    ap (map (worth w cost r.task.me)) (latest_are_cheapest (take r.noted entries) (first_fall r.noted entries (sound (suc i) r there).falling) cost))
