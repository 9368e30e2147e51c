-- The lines of the agents' shares of a plan are read as the steps that each agent has of it.
use Rattle.std.proofs.Common.{◌≡◌, refl, sym, ap, ◌∙◌, subst, ℕ, zero, suc, ◌+◌, ◌^◌, ◌<◌, ◌≤◌, ◌==◌, Bool, true, false, cond, List, [], ◌∷◌, ◌++◌, length, drop, get_or, map, filter, Option, Some, None, Ok, append_assoc, arith}
use Rattle.std.specs.Prelude.{codes, slice_get, All}
use Rattle.std.specs.List.{cons_option, filter_map}
use Rattle.std.specs.Option.{option_map, option_map_or}
use Rattle.std.proofs.Math.Seq.{drop-append_seam}
use Rattle.std.proofs.lemmas.Bool.{eqb-true}
use Rattle.std.proofs.lemmas.List.{length-map, map-append}
use Rattle.std.proofs.lemmas.List.Elements.{All-head, All-tail}
use Rattle.mp_joint.specs.declared.plan.PlanStep.{PlanStep}
use Rattle.mp_trail.specs.declared.steps.Timed.{Timed}
use Rattle.mp_text.specs.Lines.{Text}
use Rattle.mp_text.specs.Outcome.{agent_lines, labelled, names_at, share_lines, step_line}
use Rattle.mp_text.proofs.PlainLemmas.{ArePlain}
use Rattle.mp_plans.specs.declared.line.TimedStep.{TimedStep}
use Rattle.mp_plans.specs.Lines.{step_between}
use Rattle.mp_plans.specs.Plan.{agents_of, behind_agents, own_steps}
use Rattle.mp_plans.specs.Written.{IsNamedStep, is_of, named_step, steps_of, timed_steps}
use Rattle.mp_plans.proofs.WrittenLines.{ended}
use Rattle.mp_plans.proofs.WrittenNumbers.{agent_line_again, plain_labelled}
use Rattle.mp_plans.proofs.WrittenSteps.{no_step_line, plain_step, step_line_again}

-- the line of a step at its time
abbrev pub line_of : TimedStep → Text
line_of timed = step_line timed.time timed.step

-- ---- the steps of one agent

-- no step of an agent stands in front of these lines
abbrev pub HasNoSteps : List Text → Type 0
HasNoSteps lines = (agent most last : ℕ) → own_steps agent most last lines ≡ []

-- the steps of an agent with one step more of the plan, which is the agent's or not
own_more : (agents agent most first last : ℕ) (step : PlanStep) (later : List TimedStep) (rest : List Text) (test : Bool)
    → IsNamedStep agents step → (step.agent == agent) ≡ test
    → last < first → first ≤ most → most < 2 ^ 60
    → ((before : ℕ) → before < first + 1 → own_steps agent most before (map ended (map line_of later) ++ rest) ≡ later)
    → own_steps agent most last (map ended (map line_of (cond test (record { time = first; step = step } ∷ later) later)) ++ rest)
    ≡ cond test (record { time = first; step = step } ∷ later) later
own_more agents agent most first last step later rest true is own behind within small more =
    let read = step_line_again last most first step is.action is.args (omega (arith, within, small)) behind within in
    let now : TimedStep = record { time = first; step = step } in
    let its : step_between agent last most (ended (line_of now)) ≡ Some now =
    subst (λ a. step_between a last most (ended (line_of now)) ≡ Some now) (eqb-true step.agent agent own) read in
    ap (λ o. option_map_or (λ timed. timed ∷ own_steps agent most timed.time (map ended (map line_of later) ++ rest)) o []) its
    ∙ ap (λ steps. now ∷ steps) (more first (omega arith))
own_more agents agent most first last step later rest false is other behind within small more = more last (omega (arith, behind))

-- of a plan from this time on, what an agent has of it is read, behind an earlier time
pub own_again : (agents agent most first last : ℕ) (plan : List PlanStep) (rest : List Text)
    → All (IsNamedStep agents) plan → last < first → first + length plan ≤ most + 1 → most < 2 ^ 60 → HasNoSteps rest
    → own_steps agent most last (map ended (map line_of (filter (is_of agent) (timed_steps first plan))) ++ rest)
    ≡ filter (is_of agent) (timed_steps first plan)
own_again agents agent most first last [] rest named behind within small none = none agent most last
own_again agents agent most first last (step ∷ plan) rest named behind within small none =
    own_more agents agent most first last step (filter (is_of agent) (timed_steps (first + 1) plan)) rest (step.agent == agent)
    (All-head (IsNamedStep agents) step plan named) refl behind (omega (arith, within)) small
    (λ before h. own_again agents agent most (first + 1) before plan rest (All-tail (IsNamedStep agents) step plan named) h
    (omega (arith, within)) small none)

-- ---- the lines of a share

share_more : (time : ℕ) (step : Option PlanStep) (lines : List Text) (steps : List TimedStep) → lines ≡ map line_of steps
    → cons_option (option_map (step_line time) step) lines
    ≡ map line_of (cons_option (option_map (λ s. record { time = time; step = s }) step) steps)
share_more time None lines steps h = h
share_more time (Some step) lines steps h = ap (λ ls. step_line time step ∷ ls) h

share_again : (own : List PlanStep) (share : List Timed)
    → share_lines own share ≡ map line_of (filter_map (named_step own) share)
share_again own [] = refl
share_again own (timed ∷ share) =
    share_more timed.time (slice_get own timed.action) (share_lines own share) (filter_map (named_step own) share) (share_again own share)

-- each of these shares, from that of the agent at this place on, is what the agent has of the plan
abbrev pub AreShared : List (List PlanStep) → List PlanStep → ℕ → List (List Timed) → Type 0
AreShared names plan place [] = Unit {0}
AreShared names plan place (share ∷ shares) =
    (filter_map (named_step (names_at names place)) share ≡ steps_of (place + 1) plan) × AreShared names plan (place + 1) shares

pub are_shared : (names : List (List PlanStep)) (plan : List PlanStep) (place : ℕ) (shares : List (List Timed))
    → ((k : ℕ) → k < length shares → filter_map (named_step (names_at names (place + k))) (get_or shares k []) ≡ steps_of ((place + k) + 1) plan)
    → AreShared names plan place shares
are_shared names plan place [] h = tt
are_shared names plan place (share ∷ shares) h =
    let here : place + 0 ≡ place = omega arith in (
      subst (λ p. filter_map (named_step (names_at names p)) share ≡ steps_of (p + 1) plan) here (h 0 (omega arith)),
      are_shared names plan (place + 1) shares
          (λ k lt. let there : place + suc k ≡ (place + 1) + k = omega arith in
          subst (λ p. filter_map (named_step (names_at names p)) (get_or shares k []) ≡ steps_of (p + 1) plan) there (h (suc k) (omega (arith, lt)))),
    )

-- ---- the lines of all agents

-- what so many agents have of a plan, from this one on
abbrev pub steps_of_all : ℕ → ℕ → List PlanStep → List TimedStep
steps_of_all zero agent plan = []
steps_of_all (suc more) agent plan = steps_of agent plan ++ steps_of_all more (agent + 1) plan

-- no line of an agent is one of a step
no_steps_there : (names : List (List PlanStep)) (place : ℕ) (shares : List (List Timed)) (rest : List Text)
    → HasNoSteps rest → HasNoSteps (map ended (agent_lines names place shares) ++ rest)
no_steps_there names place [] rest none = none
no_steps_there names place (share ∷ shares) rest none = λ agent most last.
    ap (λ o. option_map_or (λ timed. timed ∷ own_steps agent most timed.time (map ended (share_lines (names_at names place) share ++ agent_lines names (place + 1) shares) ++ rest)) o [])
    (no_step_line agent last most 97 (ended (labelled (codes "gent ") (place + 1))) refl)

-- one agent more, before the others
agent_more : (agents most place number : ℕ) (names : List (List PlanStep)) (plan : List PlanStep) (share : List Timed) (shares : List (List Timed)) (rest : List Text)
    → All (IsNamedStep agents) plan → length plan ≤ most → most < 2 ^ 60 → place + 1 < 2 ^ 60
    → filter_map (named_step (names_at names place)) share ≡ steps_of (place + 1) plan
    → HasNoSteps (map ended (agent_lines names (place + 1) shares) ++ rest)
    → ((n : ℕ) → agents_of (length shares) ((place + 1) + 1) most n (map ended (agent_lines names (place + 1) shares) ++ rest)
    ≡ Ok (steps_of_all (length shares) ((place + 1) + 1) plan))
    → agents_of (suc (length shares)) (place + 1) most number (map ended (agent_lines names place (share ∷ shares)) ++ rest)
    ≡ Ok (steps_of_all (suc (length shares)) (place + 1) plan)
agent_more agents most place number names plan share shares rest named within small few shared none others =
    ap (agents_of (suc (length shares)) (place + 1) most number) lines_are ∙ read
  where
    own : List TimedStep
    own = steps_of (place + 1) plan

    first : Text
    first = ended (labelled (codes "agent ") (place + 1))

    later : List Text
    later = map ended (agent_lines names (place + 1) shares) ++ rest

    behind : List Text
    behind = map ended (map line_of own) ++ later

    own_lines : share_lines (names_at names place) share ≡ map line_of own
    own_lines = share_again (names_at names place) share ∙ ap (map line_of) shared

    lines_are : map ended (agent_lines names place (share ∷ shares)) ++ rest ≡ first ∷ behind
    lines_are =
        ap (λ ls. first ∷ ls)
        (ap (λ ls. ls ++ rest) (map-append ended (share_lines (names_at names place) share) (agent_lines names (place + 1) shares))
        ∙ append_assoc (map ended (share_lines (names_at names place) share)) (map ended (agent_lines names (place + 1) shares)) rest
        ∙ ap (λ ls. map ended ls ++ later) own_lines)

    steps_are : own_steps (place + 1) most 0 behind ≡ own
    steps_are = own_again agents (place + 1) most 1 0 plan later named (omega arith) (omega (arith, within)) small none

    left : drop (length own) behind ≡ later
    left =
        let size = length-map (map line_of own) ended in
        let sized = length-map own line_of in
        let all : length own ≡ length (map ended (map line_of own)) = omega (arith, size, sized) in
        ap (λ k. drop k behind) all ∙ drop-append_seam (map ended (map line_of own)) later

    read : agents_of (suc (length shares)) (place + 1) most number (first ∷ behind) ≡ Ok (steps_of_all (suc (length shares)) (place + 1) plan)
    read = rw (agent_line_again (place + 1) few, steps_are, left, others (number + 1 + length own)) refl

pub agents_again : (agents most place number : ℕ) (names : List (List PlanStep)) (plan : List PlanStep) (shares : List (List Timed)) (rest : List Text)
    → All (IsNamedStep agents) plan → length plan ≤ most → most < 2 ^ 60 → place + length shares < 2 ^ 60
    → AreShared names plan place shares → HasNoSteps rest → ((n : ℕ) → behind_agents n rest ≡ Ok [])
    → agents_of (length shares) (place + 1) most number (map ended (agent_lines names place shares) ++ rest)
    ≡ Ok (steps_of_all (length shares) (place + 1) plan)
agents_again agents most place number names plan [] rest named within small few shared none end = end number
agents_again agents most place number names plan (share ∷ shares) rest named within small few shared none end =
    agent_more agents most place number names plan share shares rest named within small (omega (arith, few)) shared.0
    (no_steps_there names (place + 1) shares rest none)
    (λ n. agents_again agents most (place + 1) n names plan shares rest named within small (omega (arith, few)) shared.1 none end)

-- ---- no line ends early

plain_more : (agents first : ℕ) (step : PlanStep) (later : List TimedStep) (test : Bool) → IsNamedStep agents step → first < 10 ^ 64
    → ArePlain (map line_of later) → ArePlain (map line_of (cond test (record { time = first; step = step } ∷ later) later))
plain_more agents first step later true is small more = (plain_step first step is.action is.args small, more)
plain_more agents first step later false is small more = more

plain_steps : (agents first agent : ℕ) (plan : List PlanStep) → All (IsNamedStep agents) plan → first + length plan < 2 ^ 61
    → ArePlain (map line_of (filter (is_of agent) (timed_steps first plan)))
plain_steps agents first agent [] named small = tt
plain_steps agents first agent (step ∷ plan) named small =
    plain_more agents first step (filter (is_of agent) (timed_steps (first + 1) plan)) (step.agent == agent)
    (All-head (IsNamedStep agents) step plan named) (omega (arith, small))
    (plain_steps agents (first + 1) agent plan (All-tail (IsNamedStep agents) step plan named) (omega (arith, small)))

are_plain_append : (lines others : List Text) → ArePlain lines → ArePlain others → ArePlain (lines ++ others)
are_plain_append [] others h k = k
are_plain_append (line ∷ lines) others h k = (h.0, are_plain_append lines others h.1 k)

pub plain_agents : (agents place : ℕ) (names : List (List PlanStep)) (plan : List PlanStep) (shares : List (List Timed)) (rest : List Text)
    → All (IsNamedStep agents) plan → length plan < 2 ^ 60 → place + length shares < 2 ^ 60
    → AreShared names plan place shares → ArePlain rest → ArePlain (agent_lines names place shares ++ rest)
plain_agents agents place names plan [] rest named small few shared plain = plain
plain_agents agents place names plan (share ∷ shares) rest named small few shared plain =
    let own : share_lines (names_at names place) share ≡ map line_of (steps_of (place + 1) plan) =
    share_again (names_at names place) share ∙ ap (map line_of) shared.0 in
    let later = plain_agents agents (place + 1) names plan shares rest named small (omega (arith, few)) shared.1 plain in (
      plain_labelled (codes "agent ") (place + 1) refl (omega (arith, few)),
      subst ArePlain (sym (append_assoc (share_lines (names_at names place) share) (agent_lines names (place + 1) shares) rest))
          (are_plain_append (share_lines (names_at names place) share) (agent_lines names (place + 1) shares ++ rest)
          (subst ArePlain (sym own) (plain_steps agents 1 (place + 1) plan named (omega (arith, small)))) later),
    )
