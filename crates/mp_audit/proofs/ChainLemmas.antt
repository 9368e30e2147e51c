-- Entries are found by the places of their states.
use Rattle.std.proofs.Common.{◌≡◌, ◌≢◌, ℕ, zero, suc, ◌+◌, ◌<◌, ◌≤◌, Bool, true, false, cond, eqb, List, [], ◌∷◌, ◌++◌, length, get_or, Option, Some, slice_get, All, refl, sym, ap, ◌∙◌, subst, inl, inr, eq-eqb, eqb-true, arith}
use Rattle.std.specs.Prelude.{replicate, slice_index, slice_set}
use Rattle.std.specs.Option.{option_map_or}
use Rattle.std.proofs.lemmas.Bool.{cases_lt, false≢true}
use Rattle.std.proofs.lemmas.List.{get_or-replicate, get_or-set_other, get_or-set_same, get_or_append_left, get_or_push, length-replicate, length-set, length_push}
use Rattle.std.proofs.lemmas.Option.{same_Some, slice_get-get_or, slice_get_within}
use Rattle.mp_search.proofs.KeyedStates.{all_get}
use Rattle.mp_task.specs.AgentTask.{AgentTask}
use Rattle.mp_reach.specs.LeadsOn.{Known}
use Rattle.mp_audit.specs.declared.certificate.Bound.{Bound}
use Rattle.mp_audit.specs.declared.chains.Chains.{Chains}
use Rattle.mp_audit.specs.declared.state.JointSets.{JointSets}
use Rattle.mp_audit.specs.Audited.{known_of, same_known}
use Rattle.mp_audit.specs.Chains.{has_place, last_with, place_in, AreChained}
use Rattle.mp_audit.specs.Fits.{BoundFits}
use Rattle.mp_audit.specs.States.{known_by, sized, state_for, HasSizes, SizedState}
use Rattle.mp_audit.proofs.KnownLemmas.{known_is, known_itself}
use Rattle.mp_audit.proofs.StateLemmas.{state_is}

-- ---- the last number that passes

last_within : (test : ℕ → Bool) (n : ℕ) → last_with test n ≤ n
last_within test zero = omega arith
last_within test (suc n) = by (test n) (last_within test n)
  where
    by : (b : Bool) → last_with test n ≤ n → cond b (suc n) (last_with test n) ≤ suc n
    by true le = omega arith
    by false le = omega (arith, le)

-- none behind it passes
last_passed : (test : ℕ → Bool) (n i : ℕ) → last_with test n ≤ i → i < n → test i ≡ false
last_passed test zero i le lt = absurd (omega (arith, lt))
last_passed test (suc n) i le lt = by (test n) refl le (last_passed test n i)
  where
    by : (b : Bool) → test n ≡ b → cond b (suc n) (last_with test n) ≤ i → (last_with test n ≤ i → i < n → test i ≡ false) → test i ≡ false
    by true e le before = absurd (omega (arith, le, lt))
    by false e le before =
        elim (cases_lt i n) [
          | inl earlier ↦ before le earlier
          | inr past ↦ let here : n ≡ i = omega (arith, past, lt) in subst (λ (k : ℕ). test k ≡ false) here e
        ]

-- and it passes itself
last_passes : (test : ℕ → Bool) (n i : ℕ) → last_with test n ≡ suc i → test i ≡ true
last_passes test zero i e = absurd (omega (arith, e))
last_passes test (suc n) i e = by (test n) refl e (last_passes test n i)
  where
    by : (b : Bool) → test n ≡ b → cond b (suc n) (last_with test n) ≡ suc i → (last_with test n ≡ suc i → test i ≡ true) → test i ≡ true
    by true is e before = let here : n ≡ i = omega (arith, e) in subst (λ (k : ℕ). test k ≡ true) here is
    by false is e before = before e

last_more : (test : ℕ → Bool) (n : ℕ) (b : Bool) → test n ≡ b → last_with test (n + 1) ≡ cond b (suc n) (last_with test n)
last_more test n b e =
    let next : n + 1 ≡ suc n = omega arith in
    ap (last_with test) next ∙ ap (λ (t : Bool). cond t (suc n) (last_with test n)) e

-- ---- how an entry is found

-- From a number on no entry has a state, and the entry before it has the state's place.
pub record IsWalk (tasks : List AgentTask) (bounds : List Bound) (chains : Chains) (agent : ℕ) (state : JointSets) (number : ℕ) : Type 0 where
  pub within : number ≤ length chains.before.items
  pub passed : (i : ℕ) (b : Bound) → number ≤ i → i < length chains.before.items → slice_get bounds i ≡ Some b → known_of b ≢ known_by agent state
  pub place :
      (i : ℕ) (b : Bound) → number ≡ suc i → slice_get bounds i ≡ Some b
      → place_in (length chains.last.items) (state_for tasks b) ≡ place_in (length chains.last.items) (sized agent state)

module _ (tasks : List AgentTask) (bounds : List Bound) (chains : Chains) where
  abbrev places : ℕ
  places = length chains.last.items

  abbrev entries : ℕ
  entries = length chains.before.items

  -- the place of an entry's state
  place_at : (p i : ℕ) (b : Bound) → slice_get bounds i ≡ Some b → has_place tasks bounds places p i ≡ eqb (place_in places (state_for tasks b)) p
  place_at p i b there = ap (λ (o : Option Bound). option_map_or (λ c. eqb (place_in places (state_for tasks c)) p) o false) there

  module _ (fits : All (BoundFits tasks) bounds) (chained : AreChained tasks bounds chains) (agent : ℕ) (state : JointSets) (sizes : HasSizes tasks state) where
    -- an entry of another place has another state
    other_place : (i : ℕ) (b : Bound) → slice_get bounds i ≡ Some b → has_place tasks bounds places (place_in places (sized agent state)) i ≡ false → known_of b ≢ known_by agent state
    other_place i b there fails same =
        let fit = all_get (BoundFits tasks) bounds i b fits there in
        let is = state_is tasks agent state b fit.privates sizes same in
        false≢true (sym fails ∙ place_at (place_in places (sized agent state)) i b there
        ∙ eq-eqb (place_in places (state_for tasks b)) (place_in places (sized agent state)) (ap (place_in places) (sym is)))

    walk_from : (m number : ℕ) → m ≤ entries
        → ((i : ℕ) (b : Bound) → m ≤ i → i < entries → slice_get bounds i ≡ Some b → known_of b ≢ known_by agent state)
        → number ≡ last_with (has_place tasks bounds places (place_in places (sized agent state))) m → IsWalk tasks bounds chains agent state number
    walk_from m number le passed is =
        let test = has_place tasks bounds places (place_in places (sized agent state)) in
        let low = last_within test m in record {
          within = omega (arith, low, is, le);
          passed = λ i b behind inside there. elim (cases_lt i m) [
            | inl lt ↦ other_place i b there (last_passed test m i (omega (arith, behind, is)) lt)
            | inr past ↦ passed i b past inside there
          ];
          place = λ i b first there.
              eqb-true (place_in places (state_for tasks b)) (place_in places (sized agent state))
              (sym (place_at (place_in places (sized agent state)) i b there) ∙ last_passes test m i (sym is ∙ first));
        }

    pub walk_start : (last : List ℕ) (p number : ℕ) → last ≡ chains.last.items → p ≡ place_in (length last) (sized agent state) → p < length last → number ≡ slice_index last p
        → IsWalk tasks bounds chains agent state number
    walk_start last p number last_is p_is lt is =
        let here : p ≡ place_in places (sized agent state) = p_is ∙ ap (λ (xs : List ℕ). place_in (length xs) (sized agent state)) last_is in
        let lengths = ap length last_is in
        walk_from entries number (omega arith) (λ i b past inside. absurd (omega (arith, past, inside)))
        (is ∙ ap (λ (xs : List ℕ). slice_index xs p) last_is ∙ chained.lasts p (omega (arith, lt, lengths))
        ∙ ap (λ (q : ℕ). last_with (has_place tasks bounds places q) entries) here)

    module _ (number at : ℕ) (walk : IsWalk tasks bounds chains agent state number) (number_is : number ≡ suc at) where
      pub at_inside : at < entries
      at_inside = let within = walk.within in omega (arith, within, number_is)

      pub at_within : at < length bounds
      at_within =
          let lt = at_inside in
          let within = chained.within in
          omega (arith, lt, within)

      module _ (b : Bound) (is : b ≡ get_or bounds at b) where
        there : slice_get bounds at ≡ Some b
        there = slice_get-get_or bounds at b at_within ∙ ap (λ (x : Bound). Some x) (sym is)

        before_is : (before : List ℕ) (earlier : ℕ) → before ≡ chains.before.items → earlier ≡ slice_index before at
            → earlier ≡ last_with (has_place tasks bounds places (place_in places (sized agent state))) at
        before_is before earlier list_is is_there =
            is_there ∙ ap (λ (xs : List ℕ). slice_index xs at) list_is ∙ chained.befores at b at_inside there
            ∙ ap (λ (q : ℕ). last_with (has_place tasks bounds places q) at) (walk.place at b number_is there)

        pub walk_on : (before : List ℕ) (earlier : ℕ) → before ≡ chains.before.items → earlier ≡ slice_index before at
            → same_known (known_of b) (known_by agent state) ≡ false → IsWalk tasks bounds chains agent state earlier
        walk_on before earlier list_is is_there differs =
            let lt = at_inside in
            walk_from at earlier (omega (arith, lt)) (λ i c behind inside there_too. elim (cases_lt at i) [
              | inl later ↦ walk.passed i c (omega (arith, later, number_is)) inside there_too
              | inr past ↦
                  let here : at ≡ i = omega (arith, past, behind) in
                  let one : b ≡ c = same_Some b c (sym there ∙ ap (slice_get bounds) here ∙ there_too) in
                  λ same. false≢true (sym differs ∙ (λ j. same_known (known_of (one j)) (known_by agent state)) ∙ ap (λ (k : Known). same_known k (known_by agent state)) same ∙ known_itself (known_by agent state))
            ]) (before_is before earlier list_is is_there)

        pub walk_smaller : (before : List ℕ) (earlier : ℕ) → before ≡ chains.before.items → earlier ≡ slice_index before at → earlier < number
        walk_smaller before earlier list_is is_there =
            let low = last_within (has_place tasks bounds places (place_in places (sized agent state))) at in
            let e = before_is before earlier list_is is_there in
            omega (arith, low, e, number_is)

        pub found_here : same_known (known_of b) (known_by agent state) ≡ true → (c : Bound) → slice_get bounds at ≡ Some c → known_of c ≡ known_by agent state
        found_here same c there_too =
            let one : c ≡ b = same_Some c b (sym there_too ∙ there) in
            ap known_of one ∙ known_is (known_of b) (known_by agent state) same

-- ---- no entries, and one more

pub none_chained : (tasks : List AgentTask) (bounds : List Bound) (chains : Chains) (places : ℕ) → 0 < places
    → chains.last.items ≡ replicate places 0 → length chains.before.items ≡ 0 → AreChained tasks bounds chains
none_chained tasks bounds chains places some zeros none =
    let lengths : length chains.last.items ≡ places = ap length zeros ∙ length-replicate places 0 in
    record {
      some_place = omega (arith, some, lengths);
      within = omega (arith, none);
      lasts = λ p lt.
          ap (λ (xs : List ℕ). slice_index xs p) zeros
          ∙ get_or-replicate places p 0 0 (omega (arith, lt, lengths))
          ∙ sym (ap (last_with (has_place tasks bounds (length chains.last.items) p)) none);
      befores = λ i b lt there. absurd (omega (arith, lt, none));
    }

module _ (tasks : List AgentTask) (bounds : List Bound) (b : Bound) (chains new : Chains) (state : SizedState) (place : ℕ)
    (chained : AreChained tasks bounds chains) (there : slice_get bounds (length chains.before.items) ≡ Some b) (state_made : state ≡ state_for tasks b)
    (place_is : place ≡ place_in (length chains.last.items) state) (place_within : place < length chains.last.items)
    (before_is : new.before.items ≡ chains.before.items ++ slice_index chains.last.items place ∷ [])
    (last_is : new.last.items ≡ slice_set chains.last.items place (length chains.before.items + 1)) where
  abbrev n : ℕ
  n = length chains.before.items

  abbrev count : ℕ
  count = length chains.last.items

  counts : length new.last.items ≡ count
  counts = ap length last_is ∙ length-set chains.last.items place (n + 1)

  more : length new.before.items ≡ n + 1
  more = ap length before_is ∙ length_push chains.before.items (slice_index chains.last.items place)

  of_entry : place ≡ place_in count (state_for tasks b)
  of_entry = place_is ∙ ap (place_in count) state_made

  last_now : (p : ℕ) → p < count → slice_index new.last.items p ≡ last_with (has_place tasks bounds count p) (n + 1)
  last_now p lt = ap (λ (xs : List ℕ). slice_index xs p) last_is ∙ by (eqb place p) refl
    where
      test : (t : Bool) → eqb place p ≡ t → has_place tasks bounds count p n ≡ t
      test t e = place_at tasks bounds chains p n b there ∙ ap (λ (q : ℕ). eqb q p) (sym of_entry) ∙ e

      by : (t : Bool) → eqb place p ≡ t → slice_index (slice_set chains.last.items place (n + 1)) p ≡ last_with (has_place tasks bounds count p) (n + 1)
      by true e =
          let same : place ≡ p = eqb-true place p e in
          let next : n + 1 ≡ suc n = omega arith in
          ap (λ (q : ℕ). slice_index (slice_set chains.last.items place (n + 1)) q) (sym same)
          ∙ get_or-set_same chains.last.items place (n + 1) 0 place_within
          ∙ next
          ∙ sym (last_more (has_place tasks bounds count p) n true (test true e))
      by false e =
          get_or-set_other chains.last.items place p (n + 1) 0 (λ same. false≢true (sym e ∙ eq-eqb place p (sym same)))
          ∙ chained.lasts p lt
          ∙ sym (last_more (has_place tasks bounds count p) n false (test false e))

  before_now : (i : ℕ) (c : Bound) → i < n + 1 → slice_get bounds i ≡ Some c
      → slice_index new.before.items i ≡ last_with (has_place tasks bounds count (place_in count (state_for tasks c))) i
  before_now i c lt there_too =
      ap (λ (xs : List ℕ). slice_index xs i) before_is
      ∙ elim (cases_lt i n) [
        | inl earlier ↦
            get_or_append_left chains.before.items (slice_index chains.last.items place ∷ []) 0 i earlier
            ∙ chained.befores i c earlier there_too
        | inr past ↦
            let here : n ≡ i = omega (arith, past, lt) in
            let one : b ≡ c = same_Some b c (sym there ∙ ap (slice_get bounds) here ∙ there_too) in
            get_or_push chains.before.items (slice_index chains.last.items place) 0 i here
            ∙ chained.lasts place place_within
            ∙ (λ j. last_with (has_place tasks bounds count (of_entry j)) (here j))
            ∙ ap (λ (d : Bound). last_with (has_place tasks bounds count (place_in count (state_for tasks d))) i) one
      ]

  pub one_chained : AreChained tasks bounds new
  one_chained =
      let some = chained.some_place in
      let counted = counts in
      let grown = more in
      let inside = slice_get_within bounds n b there in
      record {
        some_place = omega (arith, some, counted);
        within = omega (arith, inside, grown);
        lasts = λ p lt.
            last_now p (omega (arith, lt, counted))
            ∙ (λ j. last_with (has_place tasks bounds (sym counted j) p) (sym grown j));
        befores = λ i c lt there_too.
            before_now i c (omega (arith, lt, grown)) there_too
            ∙ (λ j. last_with (has_place tasks bounds (sym counted j) (place_in (sym counted j) (state_for tasks c))) i);
      }
