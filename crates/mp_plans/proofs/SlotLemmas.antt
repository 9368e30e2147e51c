-- Steps at the places of their times are the steps of these times.
use Rattle.std.proofs.Common.{◌≡◌, refl, sym, ap, ◌∙◌, subst, ℕ, zero, suc, ◌+◌, ◌-◌, ◌<◌, ◌==◌, Bool, true, false, cond, ◌&&◌, List, [], ◌∷◌, length, map, Option, Some, None, arith}
use Rattle.std.specs.Prelude.{find, nat_le, slice_set, Result, IfOk}
use Rattle.std.specs.List.{range_with_len}
use Rattle.std.specs.Option.{option_map}
use Rattle.std.proofs.lemmas.Bool.{eq-eqb, le-leb, ne_eqb}
use Rattle.mp_joint.specs.declared.plan.PlanStep.{PlanStep}
use Rattle.mp_text.specs.Reading.{either}
use Rattle.mp_plans.specs.declared.line.TimedStep.{TimedStep}
use Rattle.mp_plans.specs.Plan.{all_there, in_order, step_at}
use Rattle.mp_plans.specs.Slots.{is_free, no_steps, placed}

either_none : (known : Option PlanStep) → either known None ≡ known
either_none None = refl
either_none (Some step) = refl

-- what stands at a time, with a step at a time more, where none stood there
abbrev with_one : (ℕ → Option PlanStep) → ℕ → PlanStep → ℕ → Option PlanStep
with_one at time step other = either (at other) (cond (time == other) (Some step) None)

-- at another time nothing changes
other_time : (known : Option PlanStep) (time other : ℕ) (step : PlanStep) → (time ≡ other → ⊥)
    → either known (cond (time == other) (Some step) None) ≡ known
other_time known time other step differs =
    let no : (time == other) ≡ false = ne_eqb time other differs in rw no (either_none known)

same_time : (time : ℕ) (step : PlanStep) → cond {A = Option PlanStep} (time == time) (Some step) None ≡ Some step
same_time time step = let yes : (time == time) ≡ true = eq-eqb time time refl in rw yes refl

-- none of the places from this one on has the time
not_there : (count first time : ℕ) (at : ℕ → Option PlanStep) (step : PlanStep) → time < first
    → map at (range_with_len first count) ≡ map (with_one at time step) (range_with_len first count)
not_there zero first time at step before = refl
not_there (suc count) first time at step before =
    let head = other_time (at first) time first step (λ e. omega (arith, e)) in
    let tail = not_there count (first + 1) time at step (omega arith) in
    rw (head, tail) refl

abbrev placed_at : List (Option PlanStep) → ℕ → PlanStep → List (Option PlanStep)
placed_at slots place step = cond (is_free slots place) (slice_set slots place (Some step)) slots

behind_first : (first : Option PlanStep) (slots : List (Option PlanStep)) (place : ℕ) (step : PlanStep)
    → placed_at (first ∷ slots) (suc place) step ≡ first ∷ placed_at slots place step
behind_first first slots place step = by (is_free slots place)
  where
    by : (test : Bool) → cond test (slice_set (first ∷ slots) (suc place) (Some step)) (first ∷ slots)
        ≡ first ∷ cond test (slice_set slots place (Some step)) slots
    by true = refl
    by false = refl

at_first : (known : Option PlanStep) (slots : List (Option PlanStep)) (step : PlanStep)
    → placed_at (known ∷ slots) zero step ≡ either known (Some step) ∷ slots
at_first None slots step = refl
at_first (Some other) slots step = refl

one_placed : (count first place : ℕ) (at : ℕ → Option PlanStep) (step : PlanStep)
    → placed_at (map at (range_with_len first count)) place step
    ≡ map (with_one at (first + place) step) (range_with_len first count)
one_placed zero first place at step = refl
one_placed (suc count) first zero at step =
    let here : first + 0 ≡ first = omega arith in
    let tail = not_there count (first + 1) first at step (omega arith) in
    let P : ℕ → Type 0 = λ t. placed_at (map at (range_with_len first (suc count))) zero step
    ≡ map (with_one at t step) (range_with_len first (suc count)) in
    subst P (sym here)
    (at_first (at first) (map at (range_with_len (first + 1) count)) step
    ∙ (λ i. either (at first) (sym (same_time first step) i) ∷ tail i))
one_placed (suc count) first (suc place) at step =
    let later : (first + 1) + place ≡ first + suc place = omega arith in
    let head = other_time (at first) ((first + 1) + place) first step (λ e. omega (arith, e)) in
    let tail = one_placed count (first + 1) place at step in
    let P : ℕ → Type 0 = λ t. placed_at (map at (range_with_len first (suc count))) (suc place) step
    ≡ map (with_one at t step) (range_with_len first (suc count)) in
    subst P later
    (behind_first (at first) (map at (range_with_len (first + 1) count)) place step
    ∙ (λ i. sym head i ∷ tail i))

-- a step at the place of its time
one_timed : (count : ℕ) (at : ℕ → Option PlanStep) (time : ℕ) (step : PlanStep)
    → cond (nat_le 1 time && is_free (map at (range_with_len 1 count)) (time - 1))
    (slice_set (map at (range_with_len 1 count)) (time - 1) (Some step)) (map at (range_with_len 1 count))
    ≡ map (with_one at time step) (range_with_len 1 count)
one_timed count at zero step = not_there count 1 0 at step (omega arith)
one_timed count at (suc place) step =
    let some : nat_le 1 (suc place) ≡ true = le-leb 1 (suc place) (omega arith) in
    let before : suc place - 1 ≡ place = omega arith in
    let behind : 1 + place ≡ suc place = omega arith in
    rw (some, before) (one_placed count 1 place at step ∙ ap (λ t. map (with_one at t step) (range_with_len 1 count)) behind)

first_of_two : (known : Option PlanStep) (test : Bool) (timed : TimedStep) (later : Option TimedStep)
    → either (either known (cond test (Some timed.step) None)) (option_map (λ t. t.step) later)
    ≡ either known (option_map (λ t. t.step) (cond test (Some timed) later))
first_of_two (Some step) test timed later = refl
first_of_two None true timed later = refl
first_of_two None false timed later = refl

placed_steps : (steps : List TimedStep) (at : ℕ → Option PlanStep) (count : ℕ)
    → placed steps (map at (range_with_len 1 count))
    ≡ map (λ time. either (at time) (step_at steps time)) (range_with_len 1 count)
placed_steps [] at count = λ i. map (λ time. sym (either_none (at time)) i) (range_with_len 1 count)
placed_steps (timed ∷ steps) at count =
    ap (placed steps) (one_timed count at timed.time timed.step)
    ∙ placed_steps steps (with_one at timed.time timed.step) count
    ∙ (λ i. map (λ time. first_of_two (at time) (timed.time == time) timed (find (λ t. t.time == time) steps) i) (range_with_len 1 count))

abbrev no_step : ℕ → Option PlanStep
no_step time = None

none_placed : (count first : ℕ) → no_steps count ≡ map no_step (range_with_len first count)
none_placed zero first = refl
none_placed (suc count) first = ap (λ xs. None ∷ xs) (none_placed count (first + 1))

all_placed : (steps : List TimedStep) (most : ℕ) → placed steps (no_steps most) ≡ map (step_at steps) (range_with_len 1 most)
all_placed steps most = ap (placed steps) (none_placed most 1) ∙ placed_steps steps no_step most

-- the steps that stand at all places are the steps in order, where there are so many
pub ordered : {E : Type 0} (found : Result (Option (List PlanStep)) E) (steps : List TimedStep) (most : ℕ) (slots : List (Option PlanStep))
    → length steps ≡ most
    → slots ≡ placed steps (no_steps most)
    → IfOk found (λ plan. plan ≡ all_there slots)
    → IfOk found (λ plan. plan ≡ in_order most steps)
ordered found steps most slots many are h =
    let enough : (length steps == most) ≡ true = eq-eqb (length steps) most many in
    let same : all_there slots ≡ in_order most steps = rw (enough, are, all_placed steps most) refl in
    let P : Option (List PlanStep) → Type 0 = λ v. IfOk found (λ plan. plan ≡ v) in
    subst P same h
