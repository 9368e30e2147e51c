-- The chain of a plan has one time of each step, and so no packing of the plan has fewer steps.
use Rattle.std.proofs.Common.{◌≡◌, ℕ, zero, suc, ◌+◌, ◌<◌, ◌≤◌, true, ◌&&◌, ltb, List, [], ◌∷◌, ◌++◌, length, Some, refl, sym, ap, subst, ◌∙◌, arith, inl, inr, Contains}
use Rattle.std.specs.List.{flat_map, slice_get}
use Rattle.std.specs.Option.{option_map_or}
use Rattle.std.proofs.lemmas.Bool.{cases_eq, cases_lt, and_parts, and_from, ltb-true, lt-ltb}
use Rattle.std.proofs.lemmas.List.{length_push}
use Rattle.std.proofs.lemmas.List.FromFn.{length-map-range_with_len}
use Rattle.std.proofs.lemmas.List.Sorted.{Contains-permutation, IsPermutation-sym}
use Rattle.std.proofs.lemmas.Option.{none-some, same_Some, slice_get_within}
use Rattle.mp_steps.specs.Levels.{Test, times, greatest, level_at}
use Rattle.mp_steps.specs.Steps.{step_of, steps, lowest_before, chain_to, chain_of, chain}
use Rattle.mp_steps.specs.Packing.{IsPacking, IsChain}
use Rattle.mp_steps.proofs.LevelLemmas.{AreLevels}
use Rattle.mp_steps.proofs.MemberLemmas.{found, finds, item_in, item_there, item_left, item_end, in_joined, joined_has, made_at}
use Rattle.mp_steps.proofs.PackingLemmas.{IsOfLevel, in_step, step_has}

-- a number among others is the greatest
pub record HasGreatest (ls : List ℕ) (m : ℕ) : Type 0 where
  pub time : ℕ
  pub first : 1 ≤ time
  pub within : time ≤ length ls
  pub is : level_at ls time ≡ m

pub has_greatest : (ls : List ℕ) (m : ℕ) → greatest ls ≡ suc m → HasGreatest ls (suc m)
has_greatest [] m e = absurd (omega (arith, e))
has_greatest (l ∷ ls) m e =
    elim (cases_eq l (suc m)) [
      | inl same ↦ record { time = 1; first = omega arith; within = omega arith; is = same }
      | inr other ↦ later (has_greatest ls m (omega (arith, e, other)))
    ]
  where
    behind : (t : ℕ) → 1 ≤ t → level_at (l ∷ ls) (suc t) ≡ level_at ls t
    behind zero first = absurd (omega (arith, first))
    behind (suc k) first = refl

    later : HasGreatest ls (suc m) → HasGreatest (l ∷ ls) (suc m)
    later h =
        let within = h.within in
        record { time = suc h.time; first = omega arith; within = omega (arith, within); is = behind h.time h.first ∙ h.is }

module _ (interfere : Test) (n : ℕ) (ls : List ℕ) (are : AreLevels interfere n ls) where
  -- some times of the levels from 1 on, one of each, of which each interferes with the next; the last is this time
  pub record Leads (k t : ℕ) (c : List ℕ) : Type 0 where
    pub long : length c ≡ suc k
    pub each : (j x : ℕ) → slice_get c j ≡ Some x → IsOfLevel interfere n ls are x (suc j)
    pub next : (j x y : ℕ) → slice_get c j ≡ Some x → slice_get c (j + 1) ≡ Some y → (x < y) × (interfere x y ≡ true)
    pub last : slice_get c k ≡ Some t

  alone : (t : ℕ) → IsOfLevel interfere n ls are t 1 → Leads 0 t (t ∷ [])
  alone t h = record {
    long = refl;
    each = λ j x e. let at = slice_get_within (t ∷ []) j x e in each j x (omega (arith, at)) e;
    next = λ j x y e f. let at = slice_get_within (t ∷ []) (j + 1) y f in absurd (omega (arith, at));
    last = refl;
  }
    where
      each : (j x : ℕ) → j ≡ 0 → slice_get (t ∷ []) j ≡ Some x → IsOfLevel interfere n ls are x (suc j)
      each zero x none e = subst (λ y. IsOfLevel interfere n ls are y 1) (same_Some t x e) h
      each (suc j) x none e = absurd (omega (arith, none))

  longer : (k u t : ℕ) (c : List ℕ) → Leads k u c → IsOfLevel interfere n ls are t (suc (suc k)) → u < t → interfere u t ≡ true → Leads (suc k) t (c ++ t ∷ [])
  longer k u t c l h before meets = record {
    long = let grown = length_push c t in let was = l.long in omega (arith, grown, was);
    each = λ j x e. elim (cases_lt j (suc k)) [
      | inl inside ↦ l.each j x (sym (left j inside) ∙ e)
      | inr past ↦
          let lt = slice_get_within (c ++ t ∷ []) j x e in
          let grown = length_push c t in
          let was = l.long in
          let at : j ≡ suc k = omega (arith, past, lt, grown, was) in
          let same = same_Some t x (sym end ∙ ap (slice_get (c ++ t ∷ [])) (sym at) ∙ e) in
          subst (λ y. IsOfLevel interfere n ls are y (suc j)) same (subst (λ i. IsOfLevel interfere n ls are t (suc i)) (sym at) h)
    ];
    next = λ j x y e f. elim (cases_lt (j + 1) (suc k)) [
      | inl inside ↦ l.next j x y (sym (left j (omega (arith, inside))) ∙ e) (sym (left (j + 1) inside) ∙ f)
      | inr past ↦
          let lt = slice_get_within (c ++ t ∷ []) (j + 1) y f in
          let grown = length_push c t in
          let was = l.long in
          let at : j + 1 ≡ suc k = omega (arith, past, lt, grown, was) in
          let here : j ≡ k = omega (arith, at) in
          let one = same_Some u x (sym l.last ∙ ap (slice_get c) (sym here) ∙ sym (left j (omega (arith, here))) ∙ e) in
          let two = same_Some t y (sym end ∙ ap (slice_get (c ++ t ∷ [])) (sym at) ∙ f) in
          (subst (λ a. a < y) one (subst (λ b. u < b) two before), (λ i. interfere (sym one i) (sym two i)) ∙ meets)
    ];
    last = end;
  }
    where
      left : (j : ℕ) → j < suc k → slice_get (c ++ t ∷ []) j ≡ slice_get c j
      left j lt = let was = l.long in item_left c (t ∷ []) j (omega (arith, lt, was))

      end : slice_get (c ++ t ∷ []) (suc k) ≡ Some t
      end = item_end c t (suc k) l.long

  -- the lowest one before
  pub record IsBefore (k t u : ℕ) : Type 0 where
    pub is : lowest_before interfere ls n (suc k) t ≡ Some u
    pub level : IsOfLevel interfere n ls are u (suc k)
    pub before : u < t
    pub meets : interfere u t ≡ true

  pub one_before : (k t : ℕ) → IsOfLevel interfere n ls are t (suc (suc k)) → (u : ℕ) × IsBefore k t u
  one_before k t h =
      let f = are.follows t k h.first h.within h.is in
      let earlier = f.earlier in
      let within = h.within in
      let in_it = step_has interfere n ls are (suc k) f.time (record { first = f.first; within = omega (arith, earlier, within); is = f.has }) in
      let test = λ (u : ℕ). ltb u t && interfere u t in
      let one = finds test (step_of ls n (suc k)) f.time in_it (and_from (ltb f.time t) (interfere f.time t) (lt-ltb f.time t earlier) f.interferes) in
      let r = found test (step_of ls n (suc k)) one.0 one.1 in
      let parts = and_parts (ltb one.0 t) (interfere one.0 t) r.1 in
      (one.0, record { is = one.1; level = in_step interfere n ls are (suc k) one.0 r.0; before = ltb-true one.0 t parts.0; meets = parts.1 })

  pub leads : (k t : ℕ) → IsOfLevel interfere n ls are t (suc k) → Leads k t (chain_to interfere ls n k t)
  leads zero t h = alone t h
  leads (suc k) t h =
      let b = one_before k t h in
      subst (λ o. Leads (suc k) t (option_map_or (chain_to interfere ls n k) o [] ++ t ∷ [])) (sym b.1.is)
      (longer k b.0 t (chain_to interfere ls n k b.0) (leads k b.0 b.1.level) h b.1.before b.1.meets)

  -- ---- the whole chain

  whole : (k : ℕ) → greatest ls ≡ suc k → (t : ℕ) × Leads k t (chain_of interfere ls n (suc k))
  whole k e =
      let g = has_greatest ls k e in
      let long = are.long in
      let within = g.within in
      let has = step_has interfere n ls are (suc k) g.time (record { first = g.first; within = omega (arith, within, long); is = g.is }) in
      let first = item_there (step_of ls n (suc k)) 0 (some_item (step_of ls n (suc k)) g.time has) in
      let level = in_step interfere n ls are (suc k) first.0 (item_in (step_of ls n (suc k)) 0 first.0 first.1) in
      (first.0, subst (λ o. Leads k first.0 (option_map_or (chain_to interfere ls n k) o [])) (sym first.1) (leads k first.0 level))
    where
      some_item : (xs : List ℕ) (x : ℕ) → Contains xs x → 0 < length xs
      some_item xs x c = let lt = c.1 in omega (arith, lt)

  by_count : (k : ℕ) → greatest ls ≡ k → IsChain interfere (steps ls n) (chain_of interfere ls n k)
  by_count zero e = record {
    long = sym (length-map-range_with_len (step_of ls n) 1 (greatest ls) ∙ e);
    each = λ k t s at. absurd (none-some t at);
    rises = λ k t u at. absurd (none-some t at);
    interferes = λ k t u at. absurd (none-some t at);
  }
  by_count (suc k) e =
      let w = whole k e in
      let l = w.1 in
      record {
        long = l.long ∙ sym (length-map-range_with_len (step_of ls n) 1 (greatest ls) ∙ e);
        each = λ j t s at in_steps.
            let m = made_at (step_of ls n) 1 (greatest ls) j s in_steps in
            let level : suc j ≡ 1 + j = omega arith in
            subst (λ xs. Contains xs t) (sym m.1) (step_has interfere n ls are (1 + j) t (subst (IsOfLevel interfere n ls are t) level (l.each j t at)));
        rises = λ j t u at next. (l.next j t u at next).0;
        interferes = λ j t u at next. (l.next j t u at next).1;
      }

  pub is_chain : IsChain interfere (steps ls n) (chain interfere ls n)
  is_chain = by_count (greatest ls) refl

-- ---- what a chain says of packings

module _ (interfere : Test) (n : ℕ) (packing : List (List ℕ)) (c : List ℕ) (packed : IsPacking interfere n packing) (chained : IsChain interfere packing c) where
  in_times : (k t : ℕ) → slice_get c k ≡ Some t → Contains (times n) t
  in_times k t at =
      let lt = slice_get_within c k t at in
      let long = chained.long in
      let s = item_there packing k (omega (arith, lt, long)) in
      Contains-permutation (flat_map (λ s. s) packing) (times n) t
      (IsPermutation-sym (times n) (flat_map (λ s. s) packing) packed.once)
      (joined_has packing k s.0 t s.1 (chained.each k t s.0 at s.1))

  -- where a time of the chain stands in a packing
  record StandsIn (other : List (List ℕ)) (k t : ℕ) : Type 0 where
    place : ℕ
    step : List ℕ
    at : slice_get other place ≡ Some step
    has : Contains step t
    far : k ≤ place

  stands : (other : List (List ℕ)) → IsPacking interfere n other → (k t : ℕ) → slice_get c k ≡ Some t → StandsIn other k t
  stands other o zero t at =
      let i = in_joined other t (Contains-permutation (times n) (flat_map (λ s. s) other) t o.once (in_times 0 t at)) in
      record { place = i.place; step = i.list; at = i.at; has = i.has; far = omega arith }
  stands other o (suc k) t at =
      let i = in_joined other t (Contains-permutation (times n) (flat_map (λ s. s) other) t o.once (in_times (suc k) t at)) in
      let lt = slice_get_within c (suc k) t at in
      let before = item_there c k (omega (arith, lt)) in
      let r = stands other o k before.0 before.1 in
      let number : k + 1 ≡ suc k = omega arith in
      let at_next : slice_get c (k + 1) ≡ Some t = ap (slice_get c) number ∙ at in
      let earlier : r.place < i.place = o.in_order r.place i.place r.step i.list before.0 t r.at i.at r.has i.has
      (chained.rises k before.0 t before.1 at_next) (chained.interferes k before.0 t before.1 at_next) in
      let far = r.far in
      record { place = i.place; step = i.list; at = i.at; has = i.has; far = omega (arith, earlier, far) }

  pub fewest : (other : List (List ℕ)) → IsPacking interfere n other → length packing ≤ length other
  fewest other o = by (length c) refl
    where
      by : (m : ℕ) → length c ≡ m → length packing ≤ length other
      by zero e = let long = chained.long in omega (arith, e, long)
      by (suc k) e =
          let t = item_there c k (omega (arith, e)) in
          let r = stands other o k t.0 t.1 in
          let lt = slice_get_within other r.place r.step r.at in
          let far = r.far in
          let long = chained.long in
          omega (arith, lt, far, long, e)

  -- two actions of neighbouring steps that interfere
  pub record HoldsApart (s r : List ℕ) : Type 0 where
    pub time : ℕ
    pub later : ℕ
    pub first : Contains s time
    pub second : Contains r later
    pub rises : time < later
    pub meets : interfere time later ≡ true

  pub neighbours : (k : ℕ) (s r : List ℕ) → slice_get packing k ≡ Some s → slice_get packing (k + 1) ≡ Some r → HoldsApart s r
  neighbours k s r at next =
      let lt = slice_get_within packing (k + 1) r next in
      let long = chained.long in
      let t = item_there c k (omega (arith, lt, long)) in
      let u = item_there c (k + 1) (omega (arith, lt, long)) in
      record {
        time = t.0;
        later = u.0;
        first = chained.each k t.0 s t.1 at;
        second = chained.each (k + 1) u.0 r u.1 next;
        rises = chained.rises k t.0 u.0 t.1 u.1;
        meets = chained.interferes k t.0 u.0 t.1 u.1;
      }
