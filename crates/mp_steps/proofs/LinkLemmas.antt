-- The chain of a plan by the marks of its actions.
use Rattle.std.proofs.Common.{◌≡◌, ℕ, zero, suc, ◌+◌, ◌<◌, ◌≤◌, Bool, true, false, cond, ◌&&◌, ltb, eqb, List, [], ◌∷◌, ◌++◌, length, get_or, reverse, append_assoc, Some, refl, sym, ap, ◌∙◌, arith, inl, inr, Contains}
use Rattle.std.specs.List.{range_with_len, find, filter, slice_get}
use Rattle.std.specs.Option.{option_map_or}
use Rattle.std.proofs.lemmas.Bool.{and_from, eq-eqb, lt-ltb, false≢true}
use Rattle.std.proofs.lemmas.List.{reverse-append, length-map, get_or_default, get_or-map}
use Rattle.std.proofs.lemmas.List.FromFn.{length-map-range_with_len}
use Rattle.std.proofs.lemmas.Option.{none-some, same_Some, get_or_from_slice_get}
use Rattle.mp_list.proofs.Members.{contains_cases}
use Rattle.mp_steps.specs.declared.mark.Mark.{Mark}
use Rattle.mp_steps.specs.Levels.{Test, greatest, level_at, levels}
use Rattle.mp_steps.specs.Steps.{step_of, steps, chain_to, chain_of, chain}
use Rattle.mp_steps.specs.Marks.{AreMet, levels_after, no_mark, time_before, way_to, first_time, step_before, last_time}
use Rattle.mp_steps.proofs.LevelLemmas.{AreLevels, levels_are}
use Rattle.mp_steps.proofs.MemberLemmas.{in_range, range_has, item_in, item_there, makes_at}
use Rattle.mp_steps.proofs.PackingLemmas.{IsOfLevel, in_step, step_has}
use Rattle.mp_steps.proofs.ChainLemmas.{IsBefore, one_before, has_greatest}
use Rattle.mp_steps.proofs.GroupLemmas.{levels_are_after}

-- ---- one time more of a way back

pub way_step : (mets : List Mark) (left more t : ℕ) (back : List ℕ) → left ≡ suc more
    → way_to mets left t ++ reverse back ≡ way_to mets more (time_before mets t) ++ reverse (back ++ t ∷ [])
way_step mets left more t back e =
    ap (λ n. way_to mets n t ++ reverse back) e
    ∙ append_assoc (way_to mets more (time_before mets t)) (t ∷ []) (reverse back)
    ∙ ap (λ xs. way_to mets more (time_before mets t) ++ xs) (sym (reverse-append back (t ∷ [])))

-- ---- the first of a range that passes is the lowest

lowest : (p q : ℕ → Bool) (a n u v : ℕ) → find p (filter q (range_with_len a n)) ≡ Some u
    → Contains (range_with_len a n) v → q v ≡ true → p v ≡ true → u ≤ v
lowest p q a zero u v e c h g = absurd (none-some u e)
lowest p q a (suc n) u v e c h g =
    by (q a) (p a) refl refl e (λ f there. lowest p q (a + 1) n u v f there h g)
  where
    abbrev_rest : List ℕ
    abbrev_rest = range_with_len (a + 1) n

    behind : (q a ≡ true → p a ≡ true → ⊥) → Contains (range_with_len (a + 1) n) v
    behind fails =
        elim (contains_cases a (range_with_len (a + 1) n) v c) [
          | inl here ↦ absurd (fails (ap q here ∙ h) (ap p here ∙ g))
          | inr there ↦ there
        ]

    by : (b d : Bool) → q a ≡ b → p a ≡ d → find p (cond b (a ∷ filter q abbrev_rest) (filter q abbrev_rest)) ≡ Some u
        → (find p (filter q abbrev_rest) ≡ Some u → Contains abbrev_rest v → u ≤ v) → u ≤ v
    by true true is_q is_p f rest =
        let first : a ≡ u = same_Some a u (sym (ap (λ d. cond d (Some a) (find p (filter q abbrev_rest))) is_p) ∙ f) in
        let low = (in_range a (suc n) v c).0 in
        omega (arith, first, low)
    by true false is_q is_p f rest =
        rest (sym (ap (λ d. cond d (Some a) (find p (filter q abbrev_rest))) is_p) ∙ f) (behind (λ _ x. false≢true (sym is_p ∙ x)))
    by false d is_q is_p f rest = rest f (behind (λ x _. false≢true (sym is_q ∙ x)))

-- ---- the way back is the chain

module _ (interfere : Test) (mets : List Mark) (are : AreMet interfere mets) where
  abbrev n : ℕ
  n = length mets

  abbrev ls : List ℕ
  ls = levels interfere n

  abbrev of : AreLevels interfere n ls
  of = levels_are interfere n

  -- the mark of an action that is not of the first level names the lowest one before
  before_is : (k t u : ℕ) → IsOfLevel interfere n ls of t (suc (suc k)) → IsBefore interfere n ls of k t u → time_before mets t ≡ u
  before_is k zero u h b = let first = h.first in absurd (omega (arith, first))
  before_is k (suc place) u h b =
      let within = h.within in
      let m = item_there mets place (omega (arith, within)) in
      let best = are place m.0 m.1 in
      let mark : get_or mets place no_mark ≡ m.0 = get_or_from_slice_get mets place m.0 no_mark m.1 in
      let after = levels_are_after interfere mets are in
      let own = own_level place m.0 m.1 (omega (arith, within)) in
      let level = h.is in
      let met_level : m.0.level ≡ suc k = let e = ap (λ xs. level_at xs (suc place)) after in omega (arith, e, own, level) in
      ap (λ (x : Mark). x.time) mark
      ∙ elim best.there [
        | inl none ↦ absurd (omega (arith, none, met_level))
        | inr some ↦
            let low = some.0 in
            let high = some.1 in
            let its_level : level_at ls m.0.time ≡ suc k = ap (λ xs. level_at xs m.0.time) after ∙ some.3 ∙ met_level in
            let lv = b.level in
            let before = b.before in
            let least = (best.above u lv.first (omega (arith, before)) b.meets).1
            (sym (ap (λ xs. level_at xs u) after) ∙ lv.is ∙ sym met_level) in
            let most = lowest (λ (x : ℕ). ltb x (suc place) && interfere x (suc place)) (λ x. eqb (level_at ls x) (suc k)) 1 n u m.0.time b.is
            (range_has 1 n m.0.time low (omega (arith, high, within)))
            (eq-eqb (level_at ls m.0.time) (suc k) its_level)
            (and_from (ltb m.0.time (suc place)) (interfere m.0.time (suc place)) (lt-ltb m.0.time (suc place) (omega (arith, high))) some.2) in
            omega (arith, least, most)
      ]
    where
      own_level : (place : ℕ) (m : Mark) → slice_get mets place ≡ Some m → place < length mets → level_at (levels_after mets) (suc place) ≡ m.level + 1
      own_level place m at lt =
          get_or_default (levels_after mets) place 0 (m.level + 1) (let e = length-map mets (λ (x : Mark). x.level + 1) in omega (arith, e, lt))
          ∙ get_or-map (λ (x : Mark). x.level + 1) mets place m (m.level + 1) lt
          ∙ ap (λ (x : Mark). x.level + 1) (get_or_from_slice_get mets place m m at)

  way_is : (k t : ℕ) → IsOfLevel interfere n ls of t (suc k) → way_to mets (suc k) t ≡ chain_to interfere ls n k t
  way_is zero t h = refl
  way_is (suc k) t h =
      let b = one_before interfere n ls of k t h in
      ap (λ x. way_to mets (suc k) x ++ t ∷ []) (before_is k t b.0 h b.1)
      ∙ ap (λ xs. xs ++ t ∷ []) (way_is k b.0 b.1.level)
      ∙ ap (λ o. option_map_or (chain_to interfere ls n k) o [] ++ t ∷ []) (sym b.1.is)

  by_count : (count : ℕ) → greatest ls ≡ count → way_to mets count (first_time (step_before (steps ls n) count)) ≡ chain_of interfere ls n count
  by_count zero e = refl
  by_count (suc k) e =
      let g = has_greatest ls k e in
      let long = of.long in
      let within = g.within in
      let has = step_has interfere n ls of (suc k) g.time (record { first = g.first; within = omega (arith, within, long); is = g.is }) in
      let lt = has.1 in
      let first = item_there (step_of ls n (suc k)) 0 (omega (arith, lt)) in
      let level = in_step interfere n ls of (suc k) first.0 (item_in (step_of ls n (suc k)) 0 first.0 first.1) in
      let number : 1 + k ≡ suc k = omega arith in
      let step : get_or (steps ls n) k [] ≡ step_of ls n (suc k) =
      get_or_from_slice_get (steps ls n) k (step_of ls n (suc k)) []
      (makes_at (step_of ls n) 1 (greatest ls) k (omega (arith, e)) ∙ ap (λ j. Some (step_of ls n j)) number) in
      ap (λ xs. way_to mets (suc k) (first_time xs)) step
      ∙ ap (way_to mets (suc k)) (get_or_from_slice_get (step_of ls n (suc k)) 0 first.0 0 first.1)
      ∙ way_is k first.0 level
      ∙ ap (λ o. option_map_or (chain_to interfere ls n k) o []) (sym first.1)

  pub linked_is : (given : List (List ℕ)) → given ≡ steps ls n → way_to mets (length given) (last_time given) ≡ chain interfere ls n
  linked_is given is =
      ap (λ xs. way_to mets (length xs) (last_time xs)) is
      ∙ ap (λ count. way_to mets count (first_time (step_before (steps ls n) count))) (length-map-range_with_len (step_of ls n) 1 (greatest ls))
      ∙ by_count (greatest ls) refl
