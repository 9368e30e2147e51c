-- Numbered steps clash exactly as the actions of their plan interfere.
use Rattle.std.proofs.Common.{◌≡◌, ℕ, zero, suc, Bool, true, false, ◌||◌, eqb, List, [], ◌∷◌, ◌++◌, map, Option, Some, None, refl, sym, ap, subst, ◌∙◌, Contains, length}
use Rattle.std.specs.List.{list_any, slice_get}
use Rattle.std.specs.Option.{option_map, option_map_or}
use Rattle.std.specs.Cmp.{unsigned_Decides}
use Rattle.std.proofs.lemmas.List.{length-map}
use Rattle.std.proofs.lemmas.Option.{slice_get-map}
use Rattle.mp_list.proofs.Bools.{same_tests}
use Rattle.mp_list.proofs.Members.{any_from, some_member}
use Rattle.mp_joint.specs.declared.fact.NamedFact.{NamedFact}
use Rattle.mp_joint.specs.declared.plan.PlanStep.{PlanStep}
use Rattle.mp_joint.specs.Fact.{same_fact, is_among}
use Rattle.mp_joint.specs.Instance.{Instance}
use Rattle.mp_joint.specs.Plan.{Contribution, instance_of}
use Rattle.mp_checker.specs.Steps.{AreNumbered, NumberedStep, changes_fact, numbered_step}
use Rattle.mp_checker.proofs.SameNumbers.{Decides-fact}
use Rattle.mp_steps.specs.declared.role.Role.TheVariants.{Needed, Added, Deleted}
use Rattle.mp_steps.specs.Interference.{share, needs, changes, conflict, in_conflict, interfere, at_time, interfere_at}
use Rattle.mp_steps.specs.declared.mark.Mark.{Mark}
use Rattle.mp_steps.specs.Levelled.{AreMetIn}
use Rattle.mp_steps.specs.Levels.{levels}
use Rattle.mp_steps.specs.PlanSteps.{plan_chain, plan_steps}
use Rattle.mp_steps.specs.Steps.{chain, steps}
use Rattle.mp_steps.specs.Numbered.{is_in, meets, clashes, step_at, clash_at}
use Rattle.mp_steps.proofs.ExchangeLemmas.{either_side, among}

-- ---- tests over lists

any_fails : {X : Type 0} (xs : List X) → list_any (λ x. false) xs ≡ false
any_fails [] = refl
any_fails (x ∷ xs) = any_fails xs

any_either : {X : Type 0} (p q : X → Bool) (xs : List X) → list_any (λ x. p x || q x) xs ≡ (list_any p xs || list_any q xs)
any_either p q [] = refl
any_either p q (x ∷ xs) = ap (λ b. (p x || q x) || b) (any_either p q xs) ∙ mixed (p x) (q x) (list_any p xs) (list_any q xs)
  where
    mixed : (a b c d : Bool) → ((a || b) || (c || d)) ≡ ((a || c) || (b || d))
    mixed true b c d = refl
    mixed false true true d = refl
    mixed false true false d = refl
    mixed false false true d = refl
    mixed false false false d = refl

any_of_map : {X Y : Type 0} (p : Y → Bool) (f : X → Y) (xs : List X) → list_any p (map f xs) ≡ list_any (λ x. p (f x)) xs
any_of_map p f [] = refl
any_of_map p f (x ∷ xs) = ap (λ b. p (f x) || b) (any_of_map p f xs)

regrouped : (a b c d e f : Bool) → ((a || b) || ((c || f) || (d || e))) ≡ (((a || b) || (c || d)) || (e || f))
regrouped true b c d e f = refl
regrouped false true c d e f = refl
regrouped false false true d e f = refl
regrouped false false false true e true = refl
regrouped false false false true e false = refl
regrouped false false false false true true = refl
regrouped false false false false true false = refl
regrouped false false false false false true = refl
regrouped false false false false false false = refl

module _ (number : NamedFact → ℕ) where
  -- ---- facts of one number

  -- facts of two lists have one number exactly where they are one
  abbrev AreApart : List NamedFact → List NamedFact → Type 0
  AreApart fs gs = (f g : NamedFact) → Contains fs f → Contains gs g → number f ≡ number g → f ≡ g

  -- numbers of the second list that are among those of the first
  abbrev meet : List NamedFact → List NamedFact → Bool
  meet fs gs = list_any (is_in (map number fs)) (map number gs)

  met_facts : (fs gs : List NamedFact) → meet fs gs ≡ list_any (λ g. list_any (λ f. eqb (number f) (number g)) fs) gs
  met_facts fs gs =
      any_of_map (is_in (map number fs)) number gs
      ∙ ap (λ p. list_any p gs) (λ i g. any_of_map (λ n. eqb n (number g)) number fs i)

  meet_is_share : (fs gs : List NamedFact) → AreApart fs gs → meet fs gs ≡ share fs gs
  meet_is_share fs gs apart =
      same_tests (meet fs gs) (share fs gs)
      (λ h.
      let m = some_member (λ g. list_any (λ f. eqb (number f) (number g)) fs) gs (sym (met_facts fs gs) ∙ h) in
      let n = some_member (λ f. eqb (number f) (number m.0)) fs m.2 in
      let same : n.0 ≡ m.0 = apart n.0 m.0 n.1 m.1 ((unsigned_Decides (number n.0) (number m.0)).0 n.2) in
      any_from (λ f. is_among f gs) fs n.0 n.1 (subst (λ f. is_among f gs ≡ true) (sym same) (among m.0 gs m.1)))
      (λ h.
      let n = some_member (λ f. is_among f gs) fs h in
      let m = some_member (λ g. same_fact n.0 g) gs n.2 in
      let same : n.0 ≡ m.0 = (Decides-fact n.0 m.0).0 m.2 in
      met_facts fs gs
      ∙ any_from (λ g. list_any (λ f. eqb (number f) (number g)) fs) gs m.0 m.1
      (any_from (λ f. eqb (number f) (number m.0)) fs n.0 n.1 ((unsigned_Decides (number n.0) (number m.0)).1 (ap number same))))

  -- the second list's facts are changed, so that no others have their numbers
  apart_second : (o : Option Instance) (fs gs : List NamedFact) → ((f g : NamedFact) → changes_fact o g ≡ true → number f ≡ number g → f ≡ g)
      → ((g : NamedFact) → is_among g gs ≡ true → changes_fact o g ≡ true) → AreApart fs gs
  apart_second o fs gs apart are f g in_fs in_gs e = apart f g (are g (among g gs in_gs)) e

  apart_first : (o : Option Instance) (fs gs : List NamedFact) → ((f g : NamedFact) → changes_fact o g ≡ true → number f ≡ number g → f ≡ g)
      → ((f : NamedFact) → is_among f fs ≡ true → changes_fact o f ≡ true) → AreApart fs gs
  apart_first o fs gs apart are f g in_fs in_gs e = sym (apart g f (are f (among f fs in_fs)) (sym e))

  -- ---- two steps

  abbrev Apart : Option Instance → Type 0
  Apart o = (f g : NamedFact) → changes_fact o g ≡ true → number f ≡ number g → f ≡ g

  abbrev met_in_roles : NumberedStep → NumberedStep → Bool
  met_in_roles n m = meets (Some n) Needed m || (meets (Some n) Added m || meets (Some n) Deleted m)

  added_is_changed : (i : Instance) (f : NamedFact) → is_among f i.add ≡ true → changes_fact (Some i) f ≡ true
  added_is_changed i f h = either_side i.add i.del f ∙ ap (λ b. b || is_among f i.del) h

  deleted_is_changed : (i : Instance) (f : NamedFact) → is_among f i.del ≡ true → changes_fact (Some i) f ≡ true
  deleted_is_changed i f h = either_side i.add i.del f ∙ ap (λ b. is_among f i.add || b) h ∙ last (is_among f i.add)
    where
      last : (a : Bool) → (a || true) ≡ true
      last true = refl
      last false = refl

  shared_changes : (i j : Instance) → share (changes i) (needs j) ≡ (share i.add (needs j) || share i.del (needs j))
  shared_changes i j = any_front i.add i.del
    where
      any_front : (fs gs : List NamedFact) → share (fs ++ gs) (needs j) ≡ (share fs (needs j) || share gs (needs j))
      any_front [] gs = refl
      any_front (f ∷ fs) gs = ap (λ b. is_among f (needs j) || b) (any_front fs gs) ∙ grouped (is_among f (needs j)) (share fs (needs j)) (share gs (needs j))
        where
          grouped : (a b c : Bool) → (a || (b || c)) ≡ ((a || b) || c)
          grouped true b c = refl
          grouped false b c = refl

  shared_needs : (i j : Instance) → share (needs i) (changes j) ≡ (share (needs i) j.add || share (needs i) j.del)
  shared_needs i j =
      ap (λ p. list_any p (needs i)) (λ k f. either_side j.add j.del f k)
      ∙ any_either (λ f. is_among f j.add) (λ f. is_among f j.del) (needs i)

  conflict_is : (x y : PlanStep) (i j : Instance) → Apart (Some i) → Apart (Some j)
      → met_in_roles (numbered_step number x (Some i)) (numbered_step number y (Some j)) ≡ conflict i j
  conflict_is x y i j own its =
      let n = numbered_step number x (Some i) in
      let m = numbered_step number y (Some j) in
      let needed : meets (Some n) Needed m ≡ (share i.add (needs j) || share i.del (needs j)) =
      any_either (is_in n.adds) (is_in n.dels) m.needs
      ∙ (λ k. meet_is_share i.add (needs j) (apart_first (Some i) i.add (needs j) own (added_is_changed i)) k
      || meet_is_share i.del (needs j) (apart_first (Some i) i.del (needs j) own (deleted_is_changed i)) k) in
      let added : meets (Some n) Added m ≡ (share (needs i) j.add || share i.del j.add) =
      any_either (is_in n.needs) (is_in n.dels) m.adds
      ∙ (λ k. meet_is_share (needs i) j.add (apart_second (Some j) (needs i) j.add its (added_is_changed j)) k
      || meet_is_share i.del j.add (apart_first (Some i) i.del j.add own (deleted_is_changed i)) k) in
      let deleted : meets (Some n) Deleted m ≡ (share (needs i) j.del || share i.add j.del) =
      any_either (is_in n.needs) (is_in n.adds) m.dels
      ∙ (λ k. meet_is_share (needs i) j.del (apart_second (Some j) (needs i) j.del its (deleted_is_changed j)) k
      || meet_is_share i.add j.del (apart_first (Some i) i.add j.del own (added_is_changed i)) k) in
      (λ k. needed k || (added k || deleted k))
      ∙ regrouped (share i.add (needs j)) (share i.del (needs j)) (share (needs i) j.add) (share (needs i) j.del) (share i.add j.del) (share i.del j.add)
      ∙ (λ k. (sym (shared_changes i j) k || sym (shared_needs i j) k) || (share i.add j.del || share i.del j.add))

  no_facts : (xs ys zs : List ℕ) → (list_any (λ n. false) xs || (list_any (λ n. false) ys || list_any (λ n. false) zs)) ≡ false
  no_facts xs ys zs = λ i. any_fails xs i || (any_fails ys i || any_fails zs i)

  steps_meet : (x y : PlanStep) (o p : Option Instance) → Apart o → Apart p
      → met_in_roles (numbered_step number x o) (numbered_step number y p) ≡ in_conflict o p
  steps_meet x y None p own its =
      let m = numbered_step number y p in
      no_facts m.needs m.adds m.dels
  steps_meet x y (Some i) None own its = refl
  steps_meet x y (Some i) (Some j) own its = conflict_is x y i j own its

module _ (team : List Contribution) (plan : List PlanStep) (numbered : List NumberedStep) (are : AreNumbered team plan numbered) where
  abbrev step_of : PlanStep → NumberedStep
  step_of x = numbered_step are.number x (instance_of team x)

  at_own_time : (t : ℕ) → step_at numbered t ≡ option_map step_of (at_time plan t)
  at_own_time zero = refl
  at_own_time (suc place) = ap (λ ns. slice_get ns place) are.are ∙ slice_get-map step_of plan place

  apart_at : (t : ℕ) (x : PlanStep) → at_time plan t ≡ Some x → Apart are.number (instance_of team x)
  apart_at zero x at f g h e = absurd cc
  apart_at (suc place) x at f g h e = are.apart place x f g at h e

  both : (o p : Option PlanStep) → ((x : PlanStep) → o ≡ Some x → Apart are.number (instance_of team x)) → ((y : PlanStep) → p ≡ Some y → Apart are.number (instance_of team y))
      → option_map_or (clashes (option_map step_of o)) (option_map step_of p) false
      ≡ option_map_or (λ x. option_map_or (λ y. interfere team x y) p false) o false
  both None None own its = refl
  both None (Some y) own its = no_facts are.number (step_of y).needs (step_of y).adds (step_of y).dels
  both (Some x) None own its = refl
  both (Some x) (Some y) own its =
      ap (λ b. eqb x.agent y.agent || b) (steps_meet are.number x y (instance_of team x) (instance_of team y) (own x refl) (its y refl))

  pub clashes_as_plan : (t u : ℕ) → clash_at numbered t u ≡ interfere_at team plan t u
  clashes_as_plan t u =
      (λ i. option_map_or (clashes (at_own_time t i)) (at_own_time u i) false)
      ∙ both (at_time plan t) (at_time plan u) (apart_at t) (apart_at u)

  pub as_many : length numbered ≡ length plan
  as_many = ap length are.are ∙ length-map plan step_of

-- ---- what the actions of a plan met

module _ (team : List Contribution) (plan : List PlanStep) (mets : List Mark) (h : AreMetIn team plan mets) where
  same_clash : clash_at h.steps ≡ interfere_at team plan
  same_clash = λ i t u. clashes_as_plan team plan h.steps h.numbered t u i

  same_length : length mets ≡ length plan
  same_length = h.long ∙ as_many team plan h.steps h.numbered

  pub met_steps : steps (levels (clash_at h.steps) (length mets)) (length mets) ≡ plan_steps team plan
  met_steps = λ i. steps (levels (same_clash i) (same_length i)) (same_length i)

  pub met_chain : chain (clash_at h.steps) (levels (clash_at h.steps) (length mets)) (length mets) ≡ plan_chain team plan
  met_chain = λ i. chain (same_clash i) (levels (same_clash i) (same_length i)) (same_length i)
