-- What actions leave at their facts, and the levels that follow from it.
use Rattle.std.proofs.Common.{◌≡◌, ℕ, zero, suc, ◌+◌, ◌<◌, ◌≤◌, Bool, true, false, cond, ◌||◌, eqb, List, [], ◌∷◌, ◌++◌, length, get_or, take, Option, Some, refl, sym, ap, subst, ◌∙◌, arith, inl, inr}
use Rattle.std.specs.List.{list_any, slice_get}
use Rattle.std.specs.Option.{option_map, option_map_or}
use Rattle.std.proofs.lemmas.Bool.{cases_lt, eqb-true}
use Rattle.std.proofs.lemmas.List.{take_more, map_push, length-map, length_push}
use Rattle.std.proofs.lemmas.Option.{same_Some, slice_get-map, slice_get_within, get_or_from_slice_get}
use Rattle.mp_steps.specs.declared.facts.FactMarks.{FactMarks}
use Rattle.mp_steps.specs.declared.mark.Mark.{Mark}
use Rattle.mp_checker.specs.Steps.{NumberedStep}
use Rattle.mp_steps.specs.declared.role.Role.{Role}
use Rattle.mp_steps.specs.declared.role.Role.TheVariants.{Needed, Added, Deleted}
use Rattle.mp_steps.specs.Levels.{level_at}
use Rattle.mp_steps.specs.Marks.{no_mark, better, IsBest, levels_after}
use Rattle.mp_steps.specs.Numbered.{is_in, facts_in, has, has_against, meets, clashes, step_at, clash_at, marks_at, mark_in, mark_against, with_mark, best_against, marked_in, marked_by, met_by}
use Rattle.mp_steps.specs.Levelled.{HasAgents, HasMarks, IsLevelled, of_agent}
use Rattle.mp_steps.proofs.LevelLemmas.{level_kept, level_new}
use Rattle.mp_steps.proofs.MarkLemmas.{twice_better, best_same, best_merge, best_over, best_without, best_with}
use Rattle.mp_steps.proofs.MemberLemmas.{item_left, item_end, item_there}

-- ---- marks that are put at facts, one after another

twice_in : (role : Role) (mark : Mark) (m : FactMarks) → with_mark role mark (with_mark role mark m) ≡ with_mark role mark m
twice_in Needed mark m = λ i. record { needed = twice_better m.needed mark i; added = m.added; deleted = m.deleted }
twice_in Added mark m = λ i. record { needed = m.needed; added = twice_better m.added mark i; deleted = m.deleted }
twice_in Deleted mark m = λ i. record { needed = m.needed; added = m.added; deleted = twice_better m.deleted mark i }

in_more : (xs : List ℕ) (x f : ℕ) → is_in (xs ++ x ∷ []) f ≡ (is_in xs f || eqb x f)
in_more [] x f = plain (eqb x f)
  where
    plain : (b : Bool) → (b || false) ≡ b
    plain true = refl
    plain false = refl
in_more (y ∷ ys) x f = ap (λ b. eqb y f || b) (in_more ys x f) ∙ regrouped (eqb y f) (is_in ys f) (eqb x f)
  where
    regrouped : (a b c : Bool) → (a || (b || c)) ≡ ((a || b) || c)
    regrouped true b c = refl
    regrouped false b c = refl

pub noted : (role : Role) (mark : Mark) (facts : List ℕ) (i : ℕ) (old mid new : ℕ → FactMarks) (put : FactMarks) → i < length facts
    → put ≡ with_mark role mark (mid (get_or facts i 0))
    → ((f : ℕ) → mid f ≡ cond (is_in (take i facts) f) (with_mark role mark (old f)) (old f))
    → ((f : ℕ) → new f ≡ cond (eqb (get_or facts i 0) f) put (mid f))
    → (f : ℕ) → new f ≡ cond (is_in (take (i + 1) facts) f) (with_mark role mark (old f)) (old f)
noted role mark facts i old mid new put lt put_is before after f =
    after f
    ∙ by (eqb x f) (is_in (take i facts) f) refl (before f)
    ∙ ap (λ b. cond b (with_mark role mark (old f)) (old f)) (sym (in_more (take i facts) x f) ∙ ap (λ xs. is_in xs f) (sym (take_more facts i 0 lt)))
  where
    x : ℕ
    x = get_or facts i 0

    by : (b d : Bool) → eqb x f ≡ b → mid f ≡ cond d (with_mark role mark (old f)) (old f)
        → cond b put (mid f) ≡ cond (d || b) (with_mark role mark (old f)) (old f)
    by true true is was = put_is ∙ ap (λ y. with_mark role mark (mid y)) (eqb-true x f is) ∙ ap (with_mark role mark) was ∙ twice_in role mark (old f)
    by true false is was = put_is ∙ ap (λ y. with_mark role mark (mid y)) (eqb-true x f is) ∙ ap (with_mark role mark) was
    by false true is was = was
    by false false is was = was

-- all marks of an action
abbrev noted_if : Role → Mark → Bool → FactMarks → FactMarks
noted_if role mark b m = cond b (with_mark role mark m) m

abbrev pick : Role → Bool → Bool → Bool → Bool
pick Needed n a d = n
pick Added n a d = a
pick Deleted n a d = d

in_role : (role : Role) (mark : Mark) (m : FactMarks) (n a d : Bool)
    → mark_in role (noted_if Deleted mark d (noted_if Added mark a (noted_if Needed mark n m)))
    ≡ cond (pick role n a d) (better (mark_in role m) mark) (mark_in role m)
in_role Needed mark m true true true = refl
in_role Needed mark m true true false = refl
in_role Needed mark m true false true = refl
in_role Needed mark m true false false = refl
in_role Needed mark m false true true = refl
in_role Needed mark m false true false = refl
in_role Needed mark m false false true = refl
in_role Needed mark m false false false = refl
in_role Added mark m true true true = refl
in_role Added mark m true true false = refl
in_role Added mark m true false true = refl
in_role Added mark m true false false = refl
in_role Added mark m false true true = refl
in_role Added mark m false true false = refl
in_role Added mark m false false true = refl
in_role Added mark m false false false = refl
in_role Deleted mark m true true true = refl
in_role Deleted mark m true true false = refl
in_role Deleted mark m true false true = refl
in_role Deleted mark m true false false = refl
in_role Deleted mark m false true true = refl
in_role Deleted mark m false true false = refl
in_role Deleted mark m false false true = refl
in_role Deleted mark m false false false = refl

-- ---- what marks say of earlier actions

module _ (level : ℕ → ℕ) (n : ℕ) (at : ℕ → Option NumberedStep) where
  against : (marks : ℕ → FactMarks) → HasMarks level n at marks → (role : Role) (f : ℕ) → IsBest level n (λ t. has_against role (at t) f) (mark_against role (marks f))
  against marks h Needed f = best_merge level n (λ t. has Added (at t) f) (λ t. has Deleted (at t) f) (marks f).added (marks f).deleted (h Added f) (h Deleted f)
  against marks h Added f = best_merge level n (λ t. has Needed (at t) f) (λ t. has Deleted (at t) f) (marks f).needed (marks f).deleted (h Needed f) (h Deleted f)
  against marks h Deleted f = best_merge level n (λ t. has Needed (at t) f) (λ t. has Added (at t) f) (marks f).needed (marks f).added (h Needed f) (h Added f)

  over : (marks : List FactMarks) → HasMarks level n at (marks_at marks) → (role : Role) (facts : List ℕ) (q : ℕ → Bool) (b : Mark) → IsBest level n q b
      → IsBest level n (λ t. q t || list_any (has_against role (at t)) facts) (best_against marks role facts b)
  unfolding best_against
  over marks h role facts q b best =
      best_over level n (λ f t. has_against role (at t) f) (λ f. mark_against role (marks_at marks f)) (against (marks_at marks) h role) q b facts best

  -- the greatest level of the earlier actions that an action clashes with
  pub met_is : (marks : List FactMarks) (agents : ℕ → Mark) (x : NumberedStep) → HasMarks level n at (marks_at marks) → HasAgents level n at agents
      → IsBest level n (λ t. clashes (at t) x)
      (best_against marks Deleted x.dels (best_against marks Added x.adds (best_against marks Needed x.needs (agents x.agent))))
  met_is marks agents x h own =
      best_same level n _ (λ t. clashes (at t) x) _
      (λ t first within. regrouped (of_agent at x.agent t) (meets (at t) Needed x) (meets (at t) Added x) (meets (at t) Deleted x))
      (over marks h Deleted x.dels (λ t. (of_agent at x.agent t || meets (at t) Needed x) || meets (at t) Added x) _
      (over marks h Added x.adds (λ t. of_agent at x.agent t || meets (at t) Needed x) _
      (over marks h Needed x.needs (of_agent at x.agent) (agents x.agent) (own x.agent))))
    where
      regrouped : (a b c d : Bool) → (((a || b) || c) || d) ≡ (a || (b || (c || d)))
      regrouped true b c d = refl
      regrouped false true c d = refl
      regrouped false false c d = refl

-- ---- one action more

module _ (level more : ℕ → ℕ) (n l : ℕ) (at : ℕ → Option NumberedStep) (x : NumberedStep) (kept : (t : ℕ) → t ≤ n → more t ≡ level t)
    (own : more (suc n) ≡ l) (is : at (suc n) ≡ Some x) where
  abbrev mark : Mark
  mark = record { level = l; time = suc n }

  with_one : (p : ℕ → Bool) (b : Mark) (passes : Bool) → p (suc n) ≡ passes → IsBest level n p b → IsBest more (suc n) p (cond passes (better b mark) b)
  with_one p b true e h = best_with level more n kept p b l own e h
  with_one p b false e h = best_without level more n kept p b e h

  pub marks_more : (old one two new : ℕ → FactMarks) → HasMarks level n at old
      → ((f : ℕ) → one f ≡ noted_if Needed mark (is_in x.needs f) (old f))
      → ((f : ℕ) → two f ≡ noted_if Added mark (is_in x.adds f) (one f))
      → ((f : ℕ) → new f ≡ noted_if Deleted mark (is_in x.dels f) (two f))
      → HasMarks more (suc n) at new
  marks_more old one two new h first second third role f =
      subst (IsBest more (suc n) (λ t. has role (at t) f))
      (sym (in_role role mark (old f) (is_in x.needs f) (is_in x.adds f) (is_in x.dels f))
      ∙ ap (mark_in role)
      (ap (λ m. noted_if Deleted mark (is_in x.dels f) (noted_if Added mark (is_in x.adds f) m)) (sym (first f))
      ∙ ap (noted_if Deleted mark (is_in x.dels f)) (sym (second f)) ∙ sym (third f)))
      (with_one (λ t. has role (at t) f) (mark_in role (old f)) (pick role (is_in x.needs f) (is_in x.adds f) (is_in x.dels f))
      (ap (λ o. has role o f) is ∙ picked role) (h role f))
    where
      picked : (r : Role) → is_in (facts_in r x) f ≡ pick r (is_in x.needs f) (is_in x.adds f) (is_in x.dels f)
      picked Needed = refl
      picked Added = refl
      picked Deleted = refl

  pub agents_more : (old new : ℕ → Mark) → HasAgents level n at old
      → ((a : ℕ) → new a ≡ cond (eqb x.agent a) (better (old x.agent) mark) (old a)) → HasAgents more (suc n) at new
  agents_more old new h changed a =
      subst (IsBest more (suc n) (of_agent at a)) (same (eqb x.agent a) refl ∙ sym (changed a))
      (with_one (of_agent at a) (old a) (eqb x.agent a) (ap (λ o. option_map_or (λ (other : NumberedStep). eqb other.agent a) o false) is) (h a))
    where
      same : (b : Bool) → eqb x.agent a ≡ b → cond b (better (old a) mark) (old a) ≡ cond b (better (old x.agent) mark) (old a)
      same true e = ap (λ k. better (old k) mark) (sym (eqb-true x.agent a e))
      same false e = refl

-- ---- levels, action by action

best_kept : (level more : ℕ → ℕ) (n : ℕ) (p : ℕ → Bool) (b : Mark) → ((t : ℕ) → t ≤ n → more t ≡ level t) → IsBest level n p b → IsBest more n p b
best_kept level more n p b kept h = record {
  above = λ t first within is.
      let r = h.above t first within is in
      let e = kept t within in
      let low = r.0 in
      (omega (arith, e, low), λ f. r.1 (sym e ∙ f));
  there = elim h.there [
    | inl none ↦ inl none
    | inr some ↦ inr (some.0, some.1, some.2, kept b.time some.1 ∙ some.3)
  ];
}

module _ (steps : List NumberedStep) (n : ℕ) (mets : List Mark) (marks : List FactMarks) (agents : List Mark) (h : IsLevelled steps n mets marks agents)
    (x : NumberedStep) (at_n : slice_get steps n ≡ Some x) where
  -- what the action meets
  abbrev pub the_met : Mark
  the_met = best_against marks Deleted x.dels (best_against marks Added x.adds (best_against marks Needed x.needs (get_or agents x.agent no_mark)))

  its_best : IsBest (level_at (levels_after mets)) n (λ t. clashes (step_at steps t) x) the_met
  its_best = met_is (level_at (levels_after mets)) n (step_at steps) marks (λ a. get_or agents a no_mark) x h.facts h.own

  its_level : (t : ℕ) → 1 ≤ t → t ≤ n → level_at (levels_after mets) t ≤ t
  its_level zero first within = absurd (omega (arith, first))
  its_level (suc k) first within =
      let long = h.long in
      let m = item_there mets k (omega (arith, within, long)) in
      let low = h.low k m.0 m.1 in
      let is : level_at (levels_after mets) (suc k) ≡ m.0.level + 1 =
      get_or_from_slice_get (levels_after mets) k (m.0.level + 1) 0
      (slice_get-map (λ (y : Mark). y.level + 1) mets k ∙ ap (option_map (λ (y : Mark). y.level + 1)) m.1) in
      omega (arith, low, is)

  pub its_low : the_met.level ≤ n
  its_low = elim its_best.there [
    | inl none ↦ omega (arith, none)
    | inr some ↦
        let e = some.3 in
        let high = some.1 in
        let l = its_level the_met.time some.0 some.1 in
        omega (arith, e, high, l)
  ]

  abbrev next : List Mark
  next = mets ++ the_met ∷ []

  after_next : levels_after next ≡ levels_after mets ++ (the_met.level + 1) ∷ []
  after_next = map_push (λ (y : Mark). y.level + 1) mets the_met

  as_many : length (levels_after mets) ≡ n
  as_many = length-map mets (λ (y : Mark). y.level + 1) ∙ h.long

  kept_level : (t : ℕ) → t ≤ n → level_at (levels_after next) t ≡ level_at (levels_after mets) t
  kept_level t within = let long = as_many in ap (λ xs. level_at xs t) after_next ∙ level_kept (levels_after mets) (the_met.level + 1) t (omega (arith, within, long))

  new_level : level_at (levels_after next) (suc n) ≡ the_met.level + 1
  new_level = ap (λ xs. level_at xs (suc n)) after_next ∙ level_new (levels_after mets) (the_met.level + 1) n as_many

  -- a place is an earlier one, or the new one
  by_place : (P : ℕ → Mark → Type 0) → ((k : ℕ) (m : Mark) → slice_get mets k ≡ Some m → P k m) → P n the_met → (k : ℕ) (m : Mark) → slice_get next k ≡ Some m → P k m
  by_place P each last k m e =
      elim (cases_lt k n) [
        | inl inside ↦ let long = h.long in each k m (sym (item_left mets (the_met ∷ []) k (omega (arith, inside, long))) ∙ e)
        | inr past ↦
            let lt = slice_get_within next k m e in
            let grown = length_push mets the_met in
            let long = h.long in
            let at : k ≡ n = omega (arith, past, lt, grown, long) in
            let same : the_met ≡ m = same_Some the_met m (sym (item_end mets the_met n h.long) ∙ ap (slice_get next) (sym at) ∙ e) in
            subst (λ j. P j m) (sym at) (subst (P n) same last)
      ]

  pub levelled_more : (one two : ℕ → FactMarks) (marks_new : List FactMarks) (agents_new : List Mark)
      → ((f : ℕ) → one f ≡ noted_if Needed (record { level = the_met.level + 1; time = suc n }) (is_in x.needs f) (marks_at marks f))
      → ((f : ℕ) → two f ≡ noted_if Added (record { level = the_met.level + 1; time = suc n }) (is_in x.adds f) (one f))
      → ((f : ℕ) → marks_at marks_new f ≡ noted_if Deleted (record { level = the_met.level + 1; time = suc n }) (is_in x.dels f) (two f))
      → ((a : ℕ) → get_or agents_new a no_mark
      ≡ cond (eqb x.agent a) (better (get_or agents x.agent no_mark) (record { level = the_met.level + 1; time = suc n })) (get_or agents a no_mark))
      → IsLevelled steps (suc n) next marks_new agents_new
  levelled_more one two marks_new agents_new first second third changed = record {
    long = let grown = length_push mets the_met in let long = h.long in omega (arith, grown, long);
    low = by_place (λ k m. m.level ≤ k) h.low its_low;
    met = by_place (λ k m. IsBest (level_at (levels_after next)) k (λ t. clash_at steps t (suc k)) m)
        (λ k m e.
        let lt = slice_get_within mets k m e in
        let long = h.long in
        best_kept (level_at (levels_after mets)) (level_at (levels_after next)) k (λ t. clash_at steps t (suc k)) m
        (λ t within. kept_level t (omega (arith, within, lt, long))) (h.met k m e))
        (best_kept (level_at (levels_after mets)) (level_at (levels_after next)) n (λ t. clash_at steps t (suc n)) the_met kept_level
        (best_same (level_at (levels_after mets)) n (λ t. clashes (step_at steps t) x) (λ t. clash_at steps t (suc n)) the_met
        (λ t first within. sym (ap (λ o. option_map_or (clashes (step_at steps t)) o false) at_n)) its_best));
    facts = marks_more (level_at (levels_after mets)) (level_at (levels_after next)) n (the_met.level + 1) (step_at steps) x kept_level new_level at_n
        (marks_at marks) one two (marks_at marks_new) h.facts first second third;
    own = agents_more (level_at (levels_after mets)) (level_at (levels_after next)) n (the_met.level + 1) (step_at steps) x kept_level new_level at_n
        (λ a. get_or agents a no_mark) (λ a. get_or agents_new a no_mark) h.own changed;
  }

-- what was kept of all actions is kept of them where one more comes
module _ (steps : List NumberedStep) (x : NumberedStep) where
  abbrev more : List NumberedStep
  more = steps ++ x ∷ []

  same_step : (t : ℕ) → t ≤ length steps → step_at steps t ≡ step_at more t
  same_step zero within = refl
  same_step (suc k) within = sym (item_left steps (x ∷ []) k (omega (arith, within)))

  same_clash : (t k : ℕ) → t ≤ length steps → k < length steps → clash_at steps t (suc k) ≡ clash_at more t (suc k)
  same_clash t k within inside =
      λ i. option_map_or (clashes (same_step t within i)) (same_step (suc k) (omega (arith, inside)) i) false

  pub levelled_before_more : (mets : List Mark) (marks : List FactMarks) (agents : List Mark)
      → IsLevelled steps (length steps) mets marks agents → IsLevelled more (length steps) mets marks agents
  levelled_before_more mets marks agents h =
      let level = level_at (levels_after mets) in
      record {
        long = h.long;
        low = h.low;
        met = λ k m e.
            let lt = slice_get_within mets k m e in
            let long = h.long in
            best_same level k (λ t. clash_at steps t (suc k)) (λ t. clash_at more t (suc k)) m
            (λ t first within. same_clash t k (omega (arith, within, lt, long)) (omega (arith, lt, long))) (h.met k m e);
        facts = λ role f.
            best_same level (length steps) (λ t. has role (step_at steps t) f) (λ t. has role (step_at more t) f) (mark_in role (marks_at marks f))
            (λ t first within. ap (λ o. has role o f) (same_step t within)) (h.facts role f);
        own = λ a.
            best_same level (length steps) (of_agent (step_at steps) a) (of_agent (step_at more) a) (get_or agents a no_mark)
            (λ t first within. ap (λ o. option_map_or (λ (other : NumberedStep). eqb other.agent a) o false) (same_step t within)) (h.own a);
      }

  pub last_of_more : slice_get more (length steps) ≡ Some x
  last_of_more = item_end steps x (length steps) refl

-- the same, of what the code makes of one action
pub levelled_next : (steps : List NumberedStep) (n : ℕ) (mets : List Mark) (marks : List FactMarks) (agents : List Mark) (x : NumberedStep) (met put : Mark)
    (marks_new : List FactMarks) (agents_new mets_new : List Mark) → IsLevelled steps n mets marks agents → slice_get steps n ≡ Some x
    → met ≡ met_by marks agents x → put.level ≡ met.level + 1 → put.time ≡ n + 1
    → ((f : ℕ) → marks_at marks_new f ≡ marked_by put x f (marks_at marks f))
    → ((a : ℕ) → get_or agents_new a no_mark ≡ cond (eqb x.agent a) (better (get_or agents x.agent no_mark) put) (get_or agents a no_mark))
    → mets_new ≡ mets ++ met ∷ [] → IsLevelled steps (n + 1) mets_new marks_new agents_new
levelled_next steps n mets marks agents x met put marks_new agents_new mets_new h at is level time facts own grown =
    let number : suc n ≡ n + 1 = omega arith in
    let the : Mark = the_met steps n mets marks agents h x at in
    let new : Mark = record { level = the.level + 1; time = suc n } in
    let made : put ≡ new = λ i. record { level = (level ∙ ap (λ (m : Mark). m.level + 1) is) i; time = (time ∙ sym number) i } in
    subst (λ k. IsLevelled steps k mets_new marks_new agents_new) number
    (subst (λ ms. IsLevelled steps (suc n) ms marks_new agents_new) (sym (grown ∙ ap (λ m. mets ++ m ∷ []) is))
    (levelled_more steps n mets marks agents h x at
    (λ f. marked_in Needed new x f (marks_at marks f))
    (λ f. marked_in Added new x f (marked_in Needed new x f (marks_at marks f)))
    marks_new agents_new (λ f. refl) (λ f. refl)
    (λ f. facts f ∙ ap (λ m. marked_by m x f (marks_at marks f)) made)
    (λ a. own a ∙ ap (λ m. cond (eqb x.agent a) (better (get_or agents x.agent no_mark) m) (get_or agents a no_mark)) made)))

-- its level is at most its place
pub met_low : (steps : List NumberedStep) (n : ℕ) (mets : List Mark) (marks : List FactMarks) (agents : List Mark) (x : NumberedStep) (met : Mark)
    → IsLevelled steps n mets marks agents → slice_get steps n ≡ Some x → met ≡ met_by marks agents x → met.level ≤ n
met_low steps n mets marks agents x met h at is =
    subst (λ (m : Mark). m.level ≤ n) (sym is) (its_low steps n mets marks agents h x at)
