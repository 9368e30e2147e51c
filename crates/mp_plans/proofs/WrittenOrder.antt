-- The steps that the agents have of a plan, taken by their times, are the plan.
use Rattle.std.proofs.Common.{◌≡◌, refl, sym, ap, ◌∙◌, subst, ℕ, zero, suc, ◌+◌, ◌<◌, ◌≤◌, ◌==◌, Bool, true, false, true≢false, cond, List, [], ◌∷◌, length, map, filter, Option, Some, None, arith}
use Rattle.std.specs.Prelude.{find, slice_get, All}
use Rattle.std.specs.List.{range_with_len}
use Rattle.std.specs.Option.{option_map, option_or}
use Rattle.std.proofs.lemmas.Bool.{eq-eqb, eqb-true, ne_eqb}
use Rattle.std.proofs.lemmas.List.{length-append}
use Rattle.std.proofs.lemmas.List.Elements.{All-head, All-tail}
use Rattle.std.proofs.lemmas.List.Folds.{find-append}
use Rattle.mp_joint.specs.declared.plan.PlanStep.{PlanStep}
use Rattle.mp_text.specs.Again.{IsAgent}
use Rattle.mp_plans.specs.declared.line.TimedStep.{TimedStep}
use Rattle.mp_plans.specs.Plan.{all_there, in_order, step_at}
use Rattle.mp_plans.specs.Written.{IsNamedStep, is_of, steps_of, timed_steps}
use Rattle.mp_plans.proofs.WrittenAgents.{steps_of_all}

-- ---- how many there are

-- whether a step is of one of so many agents from this one on
abbrev is_within : ℕ → ℕ → TimedStep → Bool
is_within zero agent timed = false
is_within (suc more) agent timed = cond (timed.step.agent == agent) true (is_within more (agent + 1) timed)

abbrev count : (TimedStep → Bool) → List TimedStep → ℕ
count test steps = length (filter test steps)

not_before : (more agent : ℕ) (timed : TimedStep) → timed.step.agent < agent → is_within more agent timed ≡ false
not_before zero agent timed h = refl
not_before (suc more) agent timed h =
    let other : (timed.step.agent == agent) ≡ false = ne_eqb timed.step.agent agent (λ e. omega (arith, h, e)) in
    rw other (not_before more (agent + 1) timed (omega (arith, h)))

one_more : (more agent : ℕ) (timed : TimedStep) (own later all : List TimedStep) (test : Bool)
    → (timed.step.agent == agent) ≡ test → length own + length later ≡ length all
    → length (cond test (timed ∷ own) own) + length (cond (is_within more (agent + 1) timed) (timed ∷ later) later)
    ≡ length (cond (cond test true (is_within more (agent + 1) timed)) (timed ∷ all) all)
one_more more agent timed own later all true h sum =
    let none = not_before more (agent + 1) timed (let is = eqb-true timed.step.agent agent h in omega (arith, is)) in
    rw none (omega (arith, sum))
one_more more agent timed own later all false h sum = by (is_within more (agent + 1) timed)
  where
    by : (found : Bool) → length own + length (cond found (timed ∷ later) later) ≡ length (cond found (timed ∷ all) all)
    by true = omega (arith, sum)
    by false = sum

counted : (more agent : ℕ) (steps : List TimedStep)
    → count (is_of agent) steps + count (is_within more (agent + 1)) steps ≡ count (is_within (suc more) agent) steps
counted more agent [] = refl
counted more agent (timed ∷ steps) =
    one_more more agent timed (filter (is_of agent) steps) (filter (is_within more (agent + 1)) steps) (filter (is_within (suc more) agent) steps)
    (timed.step.agent == agent) refl (counted more agent steps)

none_within : (agent : ℕ) (steps : List TimedStep) → count (is_within 0 agent) steps ≡ 0
none_within agent [] = refl
none_within agent (timed ∷ steps) = none_within agent steps

as_many : (more agent : ℕ) (plan : List PlanStep)
    → length (steps_of_all more agent plan) ≡ count (is_within more agent) (timed_steps 1 plan)
as_many zero agent plan = sym (none_within agent (timed_steps 1 plan))
as_many (suc more) agent plan =
    let size = length-append (steps_of agent plan) (steps_of_all more (agent + 1) plan) in
    let rest = as_many more (agent + 1) plan in
    let all = counted more agent (timed_steps 1 plan) in
    omega (arith, size, rest, all)

is_there : (more agent : ℕ) (timed : TimedStep) → agent ≤ timed.step.agent → timed.step.agent < agent + more → is_within more agent timed ≡ true
is_there zero agent timed from below = absurd (omega (arith, from, below))
is_there (suc more) agent timed from below = by (timed.step.agent == agent) refl
    (λ other. is_there more (agent + 1) timed (omega (arith, from, other)) (omega (arith, below)))
  where
    by : (test : Bool) → (timed.step.agent == agent) ≡ test
        → ((timed.step.agent ≡ agent → ⊥) → is_within more (agent + 1) timed ≡ true)
        → cond test true (is_within more (agent + 1) timed) ≡ true
    by true h later = refl
    by false h later = later (λ e. true≢false (sym (eq-eqb timed.step.agent agent e) ∙ h))

all_within : (agents first : ℕ) (plan : List PlanStep) → All (IsNamedStep agents) plan
    → count (is_within agents 1) (timed_steps first plan) ≡ length plan
all_within agents first [] named = refl
all_within agents first (step ∷ plan) named =
    let is = All-head (IsNamedStep agents) step plan named in
    let low = is.agent.0 in
    let high = is.agent.1 in
    rw (is_there agents 1 (record { time = first; step = step }) low (omega (arith, high)))
    (ap suc (all_within agents (first + 1) plan (All-tail (IsNamedStep agents) step plan named)))

-- ---- which one there is at a time

abbrev at_time : ℕ → TimedStep → Bool
at_time time timed = timed.time == time

-- no step of an earlier time is there
no_earlier : (agent first time : ℕ) (plan : List PlanStep) → time < first
    → find (at_time time) (filter (is_of agent) (timed_steps first plan)) ≡ None
no_earlier agent first time [] h = refl
no_earlier agent first time (step ∷ plan) h = by (step.agent == agent) (no_earlier agent (first + 1) time plan (omega (arith, h)))
  where
    other : (first == time) ≡ false
    other = ne_eqb first time (λ e. omega (arith, h, e))

    by : (test : Bool) → find (at_time time) (filter (is_of agent) (timed_steps (first + 1) plan)) ≡ None
        → find (at_time time) (cond test (record { time = first; step = step } ∷ filter (is_of agent) (timed_steps (first + 1) plan)) (filter (is_of agent) (timed_steps (first + 1) plan))) ≡ None
    by true later = rw other later
    by false later = later

-- the step of an agent at a time, where it is the agent's
abbrev own_at : ℕ → ℕ → PlanStep → Option TimedStep
own_at agent time step = cond (step.agent == agent) (Some (record { time = time; step = step })) None

here : (agent first : ℕ) (step : PlanStep) (plan : List PlanStep) (test : Bool)
    → find (at_time first) (cond test (record { time = first; step = step } ∷ filter (is_of agent) (timed_steps (first + 1) plan)) (filter (is_of agent) (timed_steps (first + 1) plan)))
    ≡ cond test (Some (record { time = first; step = step })) None
here agent first step plan true = rw (eq-eqb first first refl) refl
here agent first step plan false = no_earlier agent (first + 1) first plan (omega arith)

there : (agent first time : ℕ) (step : PlanStep) (later : List TimedStep) (test : Bool) → first < time
    → find (at_time time) (cond test (record { time = first; step = step } ∷ later) later) ≡ find (at_time time) later
there agent first time step later true h = let other : (first == time) ≡ false = ne_eqb first time (λ e. omega (arith, h, e)) in rw other refl
there agent first time step later false h = refl

own_found : (agent first k : ℕ) (plan : List PlanStep) (step : PlanStep) → slice_get plan k ≡ Some step
    → find (at_time (first + k)) (filter (is_of agent) (timed_steps first plan)) ≡ own_at agent (first + k) step
own_found agent first k [] step h = absurd (cc)
own_found agent first zero (first_step ∷ plan) step h =
    let same : first_step ≡ step = cc in
    let now : first + 0 ≡ first = omega arith in
    subst (λ t. find (at_time t) (filter (is_of agent) (timed_steps first (first_step ∷ plan))) ≡ own_at agent t step) (sym now)
    (here agent first first_step plan (first_step.agent == agent) ∙ ap (own_at agent first) same)
own_found agent first (suc k) (first_step ∷ plan) step h =
    let next : (first + 1) + k ≡ first + suc k = omega arith in
    there agent first (first + suc k) first_step (filter (is_of agent) (timed_steps (first + 1) plan)) (first_step.agent == agent) (omega arith)
    ∙ subst (λ t. find (at_time t) (filter (is_of agent) (timed_steps (first + 1) plan)) ≡ own_at agent t step) next
    (own_found agent (first + 1) k plan step h)

all_found : (more agent k : ℕ) (plan : List PlanStep) (step : PlanStep) → slice_get plan k ≡ Some step
    → agent ≤ step.agent → step.agent < agent + more
    → find (at_time (1 + k)) (steps_of_all more agent plan) ≡ Some (record { time = 1 + k; step = step })
all_found zero agent k plan step h from below = absurd (omega (arith, from, below))
all_found (suc more) agent k plan step h from below =
    find-append (at_time (1 + k)) (steps_of agent plan) (steps_of_all more (agent + 1) plan)
    ∙ ap (λ o. option_or o (find (at_time (1 + k)) (steps_of_all more (agent + 1) plan))) (own_found agent 1 k plan step h)
    ∙ by (step.agent == agent) refl (λ other. all_found more (agent + 1) k plan step h (omega (arith, from, other)) (omega (arith, below)))
  where
    found : TimedStep
    found = record { time = 1 + k; step = step }

    by : (test : Bool) → (step.agent == agent) ≡ test
        → ((step.agent ≡ agent → ⊥) → find (at_time (1 + k)) (steps_of_all more (agent + 1) plan) ≡ Some found)
        → option_or (cond test (Some found) None) (find (at_time (1 + k)) (steps_of_all more (agent + 1) plan)) ≡ Some found
    by true is later = refl
    by false is later = later (λ e. true≢false (sym (eq-eqb step.agent agent e) ∙ is))

-- ---- all together

all_there_again : (first : ℕ) (steps : List TimedStep) (plan : List PlanStep)
    → ((k : ℕ) (step : PlanStep) → slice_get plan k ≡ Some step → step_at steps (first + k) ≡ Some step)
    → all_there (map (step_at steps) (range_with_len first (length plan))) ≡ Some plan
all_there_again first steps [] h = refl
all_there_again first steps (step ∷ plan) h =
    let now : first + 0 ≡ first = omega arith in
    let one : step_at steps first ≡ Some step = subst (λ t. step_at steps t ≡ Some step) now (h 0 step refl) in
    let others = all_there_again (first + 1) steps plan
    (λ k other is. let next : first + suc k ≡ (first + 1) + k = omega arith in subst (λ t. step_at steps t ≡ Some other) next (h (suc k) other is)) in
    ap (λ o. all_there (o ∷ map (step_at steps) (range_with_len (first + 1) (length plan)))) one
    ∙ ap (option_map (λ xs. step ∷ xs)) others

named_at : (agents k : ℕ) (plan : List PlanStep) (step : PlanStep) → All (IsNamedStep agents) plan → slice_get plan k ≡ Some step
    → IsAgent agents step.agent
named_at agents k [] step named h = absurd (cc)
named_at agents zero (first ∷ plan) step named h =
    let same : first ≡ step = cc in
    subst (λ s. IsAgent agents s.agent) same (All-head (IsNamedStep agents) first plan named).agent
named_at agents (suc k) (first ∷ plan) step named h = named_at agents k plan step (All-tail (IsNamedStep agents) first plan named) h

pub order_again : (agents : ℕ) (plan : List PlanStep) → All (IsNamedStep agents) plan
    → in_order (length plan) (steps_of_all agents 1 plan) ≡ Some plan
order_again agents plan named =
    let size : length (steps_of_all agents 1 plan) ≡ length plan = as_many agents 1 plan ∙ all_within agents 1 plan named in
    rw (eq-eqb (length (steps_of_all agents 1 plan)) (length plan) size)
    (all_there_again 1 (steps_of_all agents 1 plan) plan
    (λ k step is. let agent = named_at agents k plan step named is in let low = agent.0 in let high = agent.1 in
    ap (option_map (λ timed. timed.step)) (all_found agents 1 k plan step is low (omega (arith, high)))))
