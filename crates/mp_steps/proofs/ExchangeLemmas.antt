-- Actions that do not interfere may be done in either order.
use Rattle.std.proofs.Common.{◌≡◌, Bool, true, false, cond, not, ◌&&◌, ◌||◌, eqb, List, [], ◌∷◌, ◌++◌, Option, Some, None, refl, sym, ap, ◌∙◌, inl, inr, Contains}
use Rattle.std.specs.List.{list_all}
use Rattle.std.specs.Option.{option_and_then}
use Rattle.std.proofs.lemmas.Bool.{cases_Bool, false≢true, true≢false}
use Rattle.std.proofs.lemmas.List.Elements.{Contains-append_left, Contains-append_right}
use Rattle.mp_list.proofs.Members.{contains_head, contains_tail, any_from, some_member}
use Rattle.mp_joint.specs.declared.fact.NamedFact.{NamedFact}
use Rattle.mp_joint.specs.declared.plan.PlanStep.{PlanStep}
use Rattle.mp_joint.specs.Fact.{same_fact, is_among}
use Rattle.mp_joint.specs.Instance.{Instance, State, applies, after, successor}
use Rattle.mp_joint.specs.Plan.{Contribution, instance_of, step_after}
use Rattle.mp_checker.proofs.SameNumbers.{Decides-fact}
use Rattle.mp_steps.specs.Interference.{share, needs, changes, conflict, in_conflict, interfere}

-- ---- tests that fail

neither : (a b : Bool) → (a || b) ≡ false → (a ≡ false) × (b ≡ false)
neither true b h = absurd (true≢false h)
neither false b h = (refl, h)

pub either_side : (xs ys : List NamedFact) (f : NamedFact) → is_among f (xs ++ ys) ≡ (is_among f xs || is_among f ys)
either_side [] ys f = refl
either_side (x ∷ xs) ys f = ap (λ b. same_fact f x || b) (either_side xs ys f) ∙ regrouped (same_fact f x) (is_among f xs) (is_among f ys)
  where
    regrouped : (a b c : Bool) → (a || (b || c)) ≡ ((a || b) || c)
    regrouped true b c = refl
    regrouped false b c = refl

-- ---- facts that are not shared

pub among : (f : NamedFact) (fs : List NamedFact) → Contains fs f → is_among f fs ≡ true
among f fs c = any_from (λ g. same_fact f g) fs f c ((Decides-fact f f).1 refl)

-- no fact is in both
not_both : (f : NamedFact) (fs gs : List NamedFact) → share fs gs ≡ false → is_among f fs ≡ true → is_among f gs ≡ true → ⊥
not_both f fs gs apart in_fs in_gs =
    let m = some_member (λ g. same_fact f g) fs in_fs in
    let same : f ≡ m.0 = (Decides-fact f m.0).0 m.2 in
    false≢true (sym apart ∙ any_from (λ g. is_among g gs) fs m.0 m.1 (ap (λ g. is_among g gs) (sym same) ∙ in_gs))

not_there : (f : NamedFact) (fs gs : List NamedFact) → share fs gs ≡ false → Contains gs f → is_among f fs ≡ false
not_there f fs gs apart c =
    elim (cases_Bool (is_among f fs)) [
      | inl there ↦ absurd (not_both f fs gs apart there (among f gs c))
      | inr absent ↦ absent
    ]

not_here : (f : NamedFact) (fs gs : List NamedFact) → share fs gs ≡ false → Contains fs f → is_among f gs ≡ false
not_here f fs gs apart c =
    elim (cases_Bool (is_among f gs)) [
      | inl there ↦ absurd (not_both f fs gs apart (among f fs c) there)
      | inr absent ↦ absent
    ]

-- ---- what an instance does not change stays

stays : (a d σ : Bool) → a ≡ false → d ≡ false → (a || (σ && not d)) ≡ σ
stays true d σ h k = absurd (true≢false h)
stays false true σ h k = absurd (true≢false k)
stays false false true h k = refl
stays false false false h k = refl

unchanged : (i : Instance) (s : State) (f : NamedFact) → is_among f (changes i) ≡ false → after i s f ≡ s f
unchanged i s f h =
    let parts = neither (is_among f i.add) (is_among f i.del) (sym (either_side i.add i.del f) ∙ h) in
    stays (is_among f i.add) (is_among f i.del) (s f) parts.0 parts.1

all_same : (p q : NamedFact → Bool) (fs : List NamedFact) → ((f : NamedFact) → Contains fs f → p f ≡ q f) → list_all p fs ≡ list_all q fs
all_same p q [] each = refl
all_same p q (f ∷ fs) each =
    λ i. each f (contains_head f fs) i && all_same p q fs (λ g c. each g (contains_tail f fs g c)) i

still_applies : (i j : Instance) (s : State) → ((f : NamedFact) → Contains (needs j) f → is_among f (changes i) ≡ false) → applies j (after i s) ≡ applies j s
still_applies i j s apart =
    λ k.
    all_same (λ f. after i s f) (λ f. s f) j.positive (λ f c. unchanged i s f (apart f (Contains-append_left j.positive j.negative f c))) k
    && all_same (λ f. not (after i s f)) (λ f. not (s f)) j.negative (λ f c. ap not (unchanged i s f (apart f (Contains-append_right j.positive j.negative f c)))) k

-- ---- the state after two

either_order : (a b d e σ : Bool) → (a ≡ true → e ≡ true → ⊥) → (d ≡ true → b ≡ true → ⊥)
    → (b || ((a || (σ && not d)) && not e)) ≡ (a || ((b || (σ && not e)) && not d))
either_order true b d true σ h k = absurd (h refl refl)
either_order true true d false σ h k = refl
either_order true false d false σ h k = refl
either_order false true true e σ h k = absurd (k refl refl)
either_order false true false e σ h k = refl
either_order false false true e true h k = shut e
  where
    shut : (e : Bool) → (false && not e) ≡ ((true && not e) && false)
    shut true = refl
    shut false = refl
either_order false false true e false h k = refl
either_order false false false true true h k = refl
either_order false false false false true h k = refl
either_order false false false e false h k = refl

same_after : (i j : Instance) (s : State) → share i.add j.del ≡ false → share i.del j.add ≡ false → after j (after i s) ≡ after i (after j s)
same_after i j s add_del del_add =
    λ k f. either_order (is_among f i.add) (is_among f j.add) (is_among f i.del) (is_among f j.del) (s f)
    (not_both f i.add j.del add_del) (not_both f i.del j.add del_add) k

-- both may be applied in either order, with one state after them
both_done : (p q : Bool) (si sj t : State) (f g : State → Option State) → f si ≡ cond q (Some t) None → g sj ≡ cond p (Some t) None
    → option_and_then f (cond p (Some si) None) ≡ option_and_then g (cond q (Some sj) None)
both_done true true si sj t f g e h = e ∙ sym h
both_done true false si sj t f g e h = e
both_done false true si sj t f g e h = sym h
both_done false false si sj t f g e h = refl

instances_commute : (s : State) (i j : Instance) → conflict i j ≡ false
    → option_and_then (λ t. successor t j) (successor s i) ≡ option_and_then (λ t. successor t i) (successor s j)
instances_commute s i j apart =
    let parts = neither (share (changes i) (needs j) || share (needs i) (changes j)) (share i.add j.del || share i.del j.add) apart in
    let asked = neither (share (changes i) (needs j)) (share (needs i) (changes j)) parts.0 in
    let changed = neither (share i.add j.del) (share i.del j.add) parts.1 in
    let may_j = still_applies i j s (λ f c. not_there f (changes i) (needs j) asked.0 c) in
    let may_i = still_applies j i s (λ f c. not_here f (needs i) (changes j) asked.1 c) in
    both_done (applies i s) (applies j s) (after i s) (after j s) (after j (after i s)) (λ t. successor t j) (λ t. successor t i)
    (ap (λ b. cond b (Some (after j (after i s))) None) may_j)
    (ap (λ b. cond b (Some (after i (after j s))) None) may_i
    ∙ ap (λ t. cond (applies i s) (Some t) None) (sym (same_after i j s changed.0 changed.1)))

-- ---- steps of a plan

nowhere : {A B : Type 0} (o : Option A) → option_and_then {T = A} {U = B} (λ t. None) o ≡ None
nowhere None = refl
nowhere (Some t) = refl

options_commute : (s : State) (o p : Option Instance) → in_conflict o p ≡ false
    → option_and_then (λ t. option_and_then (successor t) p) (option_and_then (successor s) o)
    ≡ option_and_then (λ t. option_and_then (successor t) o) (option_and_then (successor s) p)
options_commute s None None apart = refl
options_commute s None (Some j) apart = sym (nowhere (successor s j))
options_commute s (Some i) None apart = nowhere (successor s i)
options_commute s (Some i) (Some j) apart = instances_commute s i j apart

pub steps_commute : (team : List Contribution) (s : State) (x y : PlanStep) → interfere team x y ≡ false
    → option_and_then (λ t. step_after team t y) (step_after team s x) ≡ option_and_then (λ t. step_after team t x) (step_after team s y)
steps_commute team s x y apart =
    options_commute s (instance_of team x) (instance_of team y)
    (neither (eqb x.agent y.agent) (in_conflict (instance_of team x) (instance_of team y)) apart).1
