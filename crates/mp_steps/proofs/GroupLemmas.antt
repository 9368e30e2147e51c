-- The steps of a plan, one action more at a time.
use Rattle.std.proofs.Common.{◌≡◌, ℕ, zero, suc, ◌+◌, ◌<◌, ◌≤◌, max, Bool, true, false, cond, eqb, List, [], ◌∷◌, ◌++◌, map, length, get_or, take, set, Some, None, refl, sym, ap, subst, ◌∙◌, arith, inl, inr, Contains, append-nil}
use Rattle.std.specs.List.{range_with_len, filter, slice_get}
use Rattle.std.specs.Option.{option_map_or}
use Rattle.std.proofs.lemmas.Bool.{cases_lt, eq-eqb, ne_eqb}
use Rattle.std.proofs.lemmas.List.{get_or-map, get_or-take, take_more, take_all, length-map}
use Rattle.std.proofs.lemmas.List.Elements.{filter-append}
use Rattle.std.proofs.lemmas.List.FromFn.{length-map-range_with_len, map-range_with_len_more}
use Rattle.std.proofs.lemmas.Option.{slice_get_past, slice_get-get_or, get_or_from_slice_get}
use Rattle.mp_list.proofs.Members.{contains_head, contains_tail}
use Rattle.mp_steps.specs.declared.mark.Mark.{Mark}
use Rattle.mp_steps.specs.Levels.{Test, times, greatest, level_at, levels}
use Rattle.mp_steps.specs.Steps.{step_of, steps}
use Rattle.mp_steps.specs.Marks.{IsBest, AreMet, no_mark, levels_after, with_time}
use Rattle.mp_steps.proofs.LevelLemmas.{AreLevels, levels_are, level_kept, level_new, at_most_greatest, greatest_is, met}
use Rattle.mp_steps.proofs.MemberLemmas.{in_range, filter_none, makes_at, item_there}
use Rattle.mp_steps.proofs.PackingLemmas.{at_most_level}

-- ---- lists by a function of numbers

range_more : (a n : ℕ) → range_with_len a (suc n) ≡ range_with_len a n ++ (a + n) ∷ []
range_more a zero = ap (λ m. m ∷ []) (omega arith)
range_more a (suc n) = ap (λ xs. a ∷ xs) (range_more (a + 1) n ∙ ap (λ m. range_with_len (a + 1) n ++ m ∷ []) (omega arith))

map_same : {X : Type 0} (f g : ℕ → X) (a n : ℕ) → ((k : ℕ) → a ≤ k → k < a + n → g k ≡ f k) → map g (range_with_len a n) ≡ map f (range_with_len a n)
map_same f g a zero same = refl
map_same f g a (suc n) same =
    λ i. same a (omega arith) (omega arith) i
    ∷ map_same f g (a + 1) n (λ k low high. same k (omega (arith, low)) (omega (arith, high))) i

map_but_one : {X : Type 0} (f g : ℕ → X) (a n d : ℕ) → d < n → ((k : ℕ) → (k ≡ a + d → ⊥) → g k ≡ f k)
    → set (map f (range_with_len a n)) d (g (a + d)) ≡ map g (range_with_len a n)
map_but_one f g a zero d lt same = absurd (omega (arith, lt))
map_but_one f g a (suc n) zero lt same =
    let one : a + 0 ≡ a = omega arith in
    ap (λ m. g m ∷ map f (range_with_len (a + 1) n)) one
    ∙ ap (λ xs. g a ∷ xs) (sym (map_same f g (a + 1) n (λ k low high. same k (λ e. omega (arith, low, e)))))
map_but_one f g a (suc n) (suc d) lt same =
    let there : a + suc d ≡ (a + 1) + d = omega arith in
    ap (λ m. f a ∷ set (map f (range_with_len (a + 1) n)) d (g m)) there
    ∙ ap (λ xs. f a ∷ xs) (map_but_one f g (a + 1) n d (omega (arith, lt)) (λ k other. same k (λ e. other (e ∙ there))))
    ∙ ap (λ x. x ∷ map g (range_with_len (a + 1) n)) (sym (same a (λ e. omega (arith, e))))

filter_same : (p q : ℕ → Bool) (xs : List ℕ) → ((x : ℕ) → Contains xs x → p x ≡ q x) → filter p xs ≡ filter q xs
filter_same p q [] same = refl
filter_same p q (x ∷ xs) same =
    λ i. cond (same x (contains_head x xs) i) (x ∷ filter_same p q xs (λ y c. same y (contains_tail x xs y c)) i) (filter_same p q xs (λ y c. same y (contains_tail x xs y c)) i)

-- ---- levels, and the greatest ones of earlier actions

greatest_push : (ls : List ℕ) (l : ℕ) → greatest (ls ++ l ∷ []) ≡ max (greatest ls) l
greatest_push [] l = omega arith
greatest_push (m ∷ ls) l = let rest = greatest_push ls l in omega (arith, rest)

level_of_take : (ls : List ℕ) (k t : ℕ) → t ≤ k → level_at (take k ls) t ≡ level_at ls t
level_of_take ls k zero low = refl
level_of_take ls k (suc t) low = get_or-take k ls t 0 (omega (arith, low))

module _ (interfere : Test) (mets : List Mark) (are : AreMet interfere mets) where
  -- the greatest level of earlier actions is what the mark says
  is_greatest : (k : ℕ) (m : Mark) (ls : List ℕ) → ls ≡ take k (levels_after mets)
      → IsBest (level_at (levels_after mets)) k (λ t. interfere t (suc k)) m
      → greatest (map (met interfere ls (suc k)) (times k)) ≡ m.level
  is_greatest k m ls is best =
      elim (cases_lt m.level (greatest (map (met interfere ls (suc k)) (times k)))) [
        | inl less ↦ absurd (too_great (greatest (map (met interfere ls (suc k)) (times k))) refl less)
        | inr most ↦ elim best.there [
          | inl none ↦ omega (arith, most, none)
          | inr some ↦
              let low = some.0 in
              let high = some.1 in
              let least = at_most_greatest (met interfere ls (suc k)) 1 k m.time low (omega (arith, high)) in
              let own = ap (λ b. cond b (level_at ls m.time) 0) some.2 in
              let same = level_is m.time high in
              let there = some.3 in
              omega (arith, most, least, own, same, there)
        ]
      ]
    where
      level_is : (t : ℕ) → t ≤ k → level_at ls t ≡ level_at (levels_after mets) t
      level_is t low = ap (λ xs. level_at xs t) is ∙ level_of_take (levels_after mets) k t low

      there_is : (b : Bool) (level g : ℕ) → cond b level 0 ≡ suc g → (b ≡ true) × (level ≡ suc g)
      there_is true level g e = (refl, e)
      there_is false level g e = absurd (omega (arith, e))

      too_great : (g : ℕ) → greatest (map (met interfere ls (suc k)) (times k)) ≡ g → m.level < g → ⊥
      too_great zero e less = omega (arith, less)
      too_great (suc g) e less =
          let h = greatest_is (met interfere ls (suc k)) 1 k g e in
          let t = there_is (interfere h.at (suc k)) (level_at ls h.at) g h.is in
          let high = h.high in
          let within : h.at ≤ k = omega (arith, high) in
          let most = (best.above h.at h.low within t.0).0 in
          let same = level_is h.at within in
          let has = t.1 in
          omega (arith, less, most, same, has)

  mark_at : (k : ℕ) → k < length mets → (m : Mark) × (slice_get mets k ≡ Some m)
  mark_at k lt = item_there mets k lt

  levels_more_of : (k : ℕ) (m : Mark) → slice_get mets k ≡ Some m → levels interfere k ≡ take k (levels_after mets)
      → levels interfere (suc k) ≡ levels interfere k ++ (m.level + 1) ∷ []
  levels_more_of k m at is =
      ap (λ g. levels interfere k ++ (g + 1) ∷ []) (is_greatest k m (levels interfere k) is (are k m at))

  mark_level : (k : ℕ) (m d : Mark) → slice_get mets k ≡ Some m → k < length mets → get_or (levels_after mets) k (d.level + 1) ≡ m.level + 1
  mark_level k m d at lt =
      get_or-map (λ (x : Mark). x.level + 1) mets k d (d.level + 1) lt
      ∙ ap (λ (x : Mark). x.level + 1) (get_or_from_slice_get mets k m d at)

  front_is : (k : ℕ) → k ≤ length mets → levels interfere k ≡ take k (levels_after mets)
  front_is zero low = refl
  front_is (suc k) low =
      let m = mark_at k (omega (arith, low)) in
      let is = front_is k (omega (arith, low)) in
      let long : k < length (levels_after mets) =
      let e = length-map mets (λ (x : Mark). x.level + 1) in omega (arith, e, low) in
      let number : k + 1 ≡ suc k = omega arith in
      levels_more_of k m.0 m.1 is
      ∙ ap (λ xs. xs ++ (m.0.level + 1) ∷ []) is
      ∙ ap (λ l. take k (levels_after mets) ++ l ∷ []) (sym (mark_level k m.0 m.0 m.1 (omega (arith, low))))
      ∙ sym (take_more (levels_after mets) k (m.0.level + 1) long)
      ∙ ap (λ n. take n (levels_after mets)) number

  pub levels_more : (k : ℕ) (m : Mark) → slice_get mets k ≡ Some m → k < length mets → levels interfere (suc k) ≡ levels interfere k ++ (m.level + 1) ∷ []
  levels_more k m at lt = levels_more_of k m at (front_is k (omega (arith, lt)))

  pub levels_are_after : levels interfere (length mets) ≡ levels_after mets
  levels_are_after =
      front_is (length mets) (omega arith)
      ∙ take_all (length mets) (levels_after mets) (let e = length-map mets (λ (x : Mark). x.level + 1) in omega (arith, e))

-- ---- one action more

module _ (ls : List ℕ) (k level : ℕ) (long : length ls ≡ k) where
  abbrev more : List ℕ
  more = ls ++ level ∷ []

  own_level : level_at more (1 + k) ≡ level
  own_level = let number : 1 + k ≡ suc k = omega arith in ap (level_at more) number ∙ level_new ls level k long

  step_more : (j : ℕ) → step_of more (suc k) j ≡ step_of ls k j ++ cond (eqb level j) (suc k ∷ []) []
  step_more j =
      ap (filter (λ t. eqb (level_at more t) j)) (range_more 1 k)
      ∙ filter-append (λ t. eqb (level_at more t) j) (times k) ((1 + k) ∷ [])
      ∙ (λ i. earlier i ++ last i)
    where
      earlier : filter (λ t. eqb (level_at more t) j) (times k) ≡ step_of ls k j
      earlier = filter_same (λ t. eqb (level_at more t) j) (λ t. eqb (level_at ls t) j) (times k)
          (λ t c.
          let high = (in_range 1 k t c).1 in
          ap (λ l. eqb l j) (level_kept ls level t (omega (arith, high, long))))

      number : 1 + k ≡ suc k
      number = omega arith

      last : cond (eqb (level_at more (1 + k)) j) ((1 + k) ∷ []) [] ≡ cond (eqb level j) (suc k ∷ []) []
      last = λ i. cond (eqb (own_level i) j) (number i ∷ []) []

  step_same : (j : ℕ) → (j ≡ level → ⊥) → step_of more (suc k) j ≡ step_of ls k j
  step_same j other =
      step_more j ∙ ap (λ b. step_of ls k j ++ cond b (suc k ∷ []) []) (ne_eqb level j (λ e. other (sym e)))
      ∙ append-nil (step_of ls k j)

  step_grown : step_of more (suc k) level ≡ step_of ls k level ++ suc k ∷ []
  step_grown = step_more level ∙ ap (λ b. step_of ls k level ++ cond b (suc k ∷ []) []) (eq-eqb level level refl)

  -- the level is one of those that there are
  in_a_step : (place : ℕ) → 1 + place ≡ level → place < greatest ls → with_time (steps ls k) place (suc k) ≡ steps more (suc k)
  in_a_step place number lt =
      let there : slice_get (steps ls k) place ≡ Some (step_of ls k level) =
      makes_at (step_of ls k) 1 (greatest ls) place lt ∙ ap (λ j. Some (step_of ls k j)) number in
      let most : greatest more ≡ greatest ls = let p = greatest_push ls level in omega (arith, p, number, lt) in
      ap (λ o. option_map_or (λ s. set (steps ls k) place (s ++ suc k ∷ [])) o (steps ls k ++ (suc k ∷ []) ∷ [])) there
      ∙ ap (set (steps ls k) place) (sym step_grown ∙ ap (step_of more (suc k)) (sym number))
      ∙ map_but_one (step_of ls k) (step_of more (suc k)) 1 (greatest ls) place lt (λ j other. step_same j (λ e. other (e ∙ sym number)))
      ∙ ap (λ n. map (step_of more (suc k)) (range_with_len 1 n)) (sym most)

  -- it is the next one
  in_a_new_step : (place : ℕ) → 1 + place ≡ level → place ≡ greatest ls → with_time (steps ls k) place (suc k) ≡ steps more (suc k)
  in_a_new_step place number same =
      let past : slice_get (steps ls k) place ≡ None =
      let e = length-map-range_with_len (step_of ls k) 1 (greatest ls) in slice_get_past (steps ls k) place (omega (arith, e, same)) in
      let most : greatest more ≡ greatest ls + 1 = let p = greatest_push ls level in omega (arith, p, number, same) in
      let none : step_of ls k level ≡ [] =
      filter_none (λ t. eqb (level_at ls t) level) (times k)
      (λ t c. let b = at_most_level ls t in ne_eqb (level_at ls t) level (λ e. omega (arith, b, e, number, same))) in
      ap (λ o. option_map_or (λ s. set (steps ls k) place (s ++ suc k ∷ [])) o (steps ls k ++ (suc k ∷ []) ∷ [])) past
      ∙ (λ i. sym (map_same (step_of ls k) (step_of more (suc k)) 1 (greatest ls)
      (λ j low high. step_same j (λ e. omega (arith, high, e, number, same)))) i
      ++ (sym (step_grown ∙ ap (λ xs. xs ++ suc k ∷ []) none) i) ∷ [])
      ∙ sym (map-range_with_len_more (step_of more (suc k)) 1 (greatest ls) level (omega (arith, number, same)))
      ∙ ap (λ n. map (step_of more (suc k)) (range_with_len 1 n)) (sym most)

-- the steps with one action more
pub grouped_more : (interfere : Test) (mets : List Mark) (k : ℕ) (m : Mark) → AreMet interfere mets → slice_get mets k ≡ Some m → k < length mets
    → with_time (steps (levels interfere k) k) m.level (suc k) ≡ steps (levels interfere (suc k)) (suc k)
grouped_more interfere mets k m are at lt =
    let ls = levels interfere k in
    let next = levels_more interfere mets are k m at lt in
    let was = levels_are interfere k in
    let a = subst (AreLevels interfere (suc k)) next (levels_are interfere (suc k)) in
    let number : 1 + m.level ≡ m.level + 1 = omega arith in
    elim (cases_lt m.level (greatest ls)) [
      | inl inside ↦ in_a_step ls k (m.level + 1) was.long m.level number inside
      | inr most ↦ in_a_new_step ls k (m.level + 1) was.long m.level number (tight a most)
    ]
    ∙ ap (λ xs. steps xs (suc k)) (sym next)
  where
    tight : AreLevels interfere (suc k) (levels interfere k ++ (m.level + 1) ∷ []) → greatest (levels interfere k) ≤ m.level → m.level ≡ greatest (levels interfere k)
    tight a most = by m.level refl
      where
        by : (level : ℕ) → m.level ≡ level → m.level ≡ greatest (levels interfere k)
        by zero e = omega (arith, most, e)
        by (suc j) e =
            let was = levels_are interfere k in
            let long = was.long in
            let own = level_new (levels interfere k) (m.level + 1) k long in
            let f = a.follows (suc k) j (omega arith) (omega arith) (own ∙ (let g : m.level + 1 ≡ suc (suc j) = omega (arith, e) in g)) in
            let earlier = f.earlier in
            let kept = level_kept (levels interfere k) (m.level + 1) f.time (omega (arith, earlier, long)) in
            let has = f.has in
            let bound = at_most_level (levels interfere k) f.time in
            omega (arith, most, e, kept, has, bound)

-- the same, of the action at a place
pub grouped_at : (interfere : Test) (mets : List Mark) (k : ℕ) → AreMet interfere mets → k < length mets
    → with_time (steps (levels interfere k) k) (get_or mets k no_mark).level (k + 1) ≡ steps (levels interfere (k + 1)) (k + 1)
grouped_at interfere mets k are lt =
    let number : suc k ≡ k + 1 = omega arith in
    subst (λ n. with_time (steps (levels interfere k) k) (get_or mets k no_mark).level n ≡ steps (levels interfere n) n) number
    (grouped_more interfere mets k (get_or mets k no_mark) are (slice_get-get_or mets k no_mark lt) lt)
