-- What an outcome with a plan is written as is read as its plan and its cost.
use Rattle.std.proofs.Common.{◌≡◌, refl, ap, ◌∙◌, subst, ℕ, suc, ◌+◌, ◌^◌, ◌<◌, ◌≤◌, List, [], ◌∷◌, ◌++◌, length, get_or, map, Option, Some, None, Result, Ok, Err, append-nil, arith}
use Rattle.std.specs.Prelude.{codes, if◌then◌else◌}
use Rattle.std.specs.List.{cons_option, filter_map}
use Rattle.std.specs.Option.{option_map_or}
use Rattle.std.proofs.lemmas.List.{map-append}
use Rattle.mp_joint.specs.declared.plan.PlanStep.{PlanStep}
use Rattle.mp_messages.specs.History.{event_of, schedule}
use Rattle.mp_messages.specs.declared.history.Entry.{Entry}
use Rattle.mp_world.specs.declared.outcome.Outcome.{Outcome}
use Rattle.mp_text.specs.Lines.{Text, text_of_lines}
use Rattle.mp_text.specs.Outcome.{agent_lines, count_line, found_lines, labelled, message_bytes, message_put, messages, names_at, outcome_text}
use Rattle.mp_text.proofs.PlainLemmas.{ArePlain, plain_append}
use Rattle.mp_plans.specs.declared.line.TimedStep.{TimedStep}
use Rattle.mp_plans.specs.declared.plan.PlanText.{PlanText}
use Rattle.mp_plans.specs.Plan.{agents_of, behind_agents, in_order, labelled_then, nothing_left, own_steps, plan_in, plan_of}
use Rattle.mp_plans.specs.Written.{IsCounted, TellsPlan, named_step, steps_of}
use Rattle.mp_plans.proofs.WrittenLines.{ended, whole_again}
use Rattle.mp_plans.proofs.WrittenNumbers.{count_line_again, number_line_again, plain_labelled}
use Rattle.mp_plans.proofs.WrittenSteps.{no_step_line}
use Rattle.mp_plans.proofs.WrittenAgents.{AreShared, HasNoSteps, agents_again, are_shared, plain_agents, steps_of_all}
use Rattle.mp_plans.proofs.WrittenOrder.{order_again}

-- the plan that lines have
abbrev plan_of_lines : ℕ → List Text → Result PlanText ℕ
plan_of_lines agents lines =
    labelled_then (codes "cost ") 1
    (λ cost behind_cost. labelled_then (codes "length ") 2
    (λ most rest. plan_of cost most (agents_of agents 1 most 3 rest)) behind_cost)
    lines

read_again : (agents cost most : ℕ) (lines : List Text) (steps : List TimedStep) (plan : List PlanStep)
    → cost < 2 ^ 60 → most < 2 ^ 60 → agents_of agents 1 most 3 lines ≡ Ok steps → in_order most steps ≡ Some plan
    → plan_of_lines agents (ended (labelled (codes "cost ") cost) ∷ ended (labelled (codes "length ") most) ∷ lines)
    ≡ Ok (record { cost = cost; plan = plan })
read_again agents cost most lines steps plan cheap short read ordered =
    rw (number_line_again (codes "cost ") cost cheap, number_line_again (codes "length ") most short, read, ordered) refl

-- lines behind those of the agents that change no plan
record IsEnd (rest : List Text) : Type 0 where
  plain : ArePlain rest
  none : HasNoSteps (map ended rest)
  over : (number : ℕ) → behind_agents number (map ended rest) ≡ Ok []

abbrev lines_told : Outcome → List (List PlanStep) → ℕ → List PlanStep → List Text → List Text
lines_told outcome names cost plan rest =
    labelled (codes "cost ") cost ∷ labelled (codes "length ") (length plan) ∷ agent_lines names 0 outcome.shares ++ rest

told_again : (outcome : Outcome) (names : List (List PlanStep)) (cost : ℕ) (plan : List PlanStep) (rest : List Text)
    → TellsPlan outcome names cost plan → IsEnd rest
    → plan_in (length outcome.shares) (text_of_lines (lines_told outcome names cost plan rest))
    ≡ Ok (record { cost = cost; plan = plan })
told_again outcome names cost plan rest told end =
    ap (plan_of_lines agents) (whole_again (lines_told outcome names cost plan rest) plain ∙ lines_are)
    ∙ read_again agents cost (length plan) (map ended (agent_lines names 0 outcome.shares) ++ map ended rest) (steps_of_all agents 1 plan) plan
    told.cheap told.short
    (agents_again agents (length plan) 0 3 names plan outcome.shares (map ended rest) told.steps (omega arith) told.short (omega (arith, few)) shared end.none end.over)
    (order_again agents plan told.steps)
  where
    agents : ℕ
    agents = length outcome.shares

    few : length outcome.shares ≤ 16
    few = told.few

    cheap : cost < 2 ^ 60
    cheap = told.cheap

    short : length plan < 2 ^ 60
    short = told.short

    shared : AreShared names plan 0 outcome.shares
    shared =
        are_shared names plan 0 outcome.shares
        (λ k lt. let same : k ≡ 0 + k = omega arith in
        subst (λ p. filter_map (named_step (names_at names p)) (get_or outcome.shares k []) ≡ steps_of (p + 1) plan) same (told.shares k lt))

    plain : ArePlain (lines_told outcome names cost plan rest)
    plain = (
      plain_labelled (codes "cost ") cost refl (omega (arith, cheap)),
      (
        plain_labelled (codes "length ") (length plan) refl (omega (arith, short)),
        plain_agents agents 0 names plan outcome.shares rest told.steps told.short (omega (arith, few)) shared end.plain,
      ),
    )

    lines_are : map ended (lines_told outcome names cost plan rest)
        ≡ ended (labelled (codes "cost ") cost) ∷ ended (labelled (codes "length ") (length plan)) ∷ map ended (agent_lines names 0 outcome.shares) ++ map ended rest
    lines_are = ap (λ ls. ended (labelled (codes "cost ") cost) ∷ ended (labelled (codes "length ") (length plan)) ∷ ls) (map-append ended (agent_lines names 0 outcome.shares) rest)

-- ---- without the line that counts

nothing_behind : IsEnd []
nothing_behind = record { plain = tt; none = λ agent most last. refl; over = λ number. refl }

pub read_without_counts : (outcome : Outcome) (names : List (List PlanStep)) (cost : ℕ) (plan : List PlanStep)
    → TellsPlan outcome names cost plan
    → plan_in (length outcome.shares) (text_of_lines (labelled (codes "cost ") cost ∷ labelled (codes "length ") (length plan) ∷ agent_lines names 0 outcome.shares))
    ≡ Ok (record { cost = cost; plan = plan })
read_without_counts outcome names cost plan told =
    subst (λ ls. plan_in (length outcome.shares) (text_of_lines (labelled (codes "cost ") cost ∷ labelled (codes "length ") (length plan) ∷ ls)) ≡ Ok (record { cost = cost; plan = plan }))
    (append-nil (agent_lines names 0 outcome.shares))
    (told_again outcome names cost plan [] told nothing_behind)

-- ---- with it

fewer : {X Y : Type 0} (f : X → Option Y) (xs : List X) → length (filter_map f xs) ≤ length xs
fewer f [] = omega arith
fewer f (x ∷ xs) = by (f x) (fewer f xs)
  where
    by : (o : Option _) → length (filter_map f xs) ≤ length xs → length (cons_option o (filter_map f xs)) ≤ suc (length xs)
    by None h = omega (arith, h)
    by (Some y) h = omega (arith, h)

counts_behind : (log : List Entry) → IsCounted log → IsEnd (count_line log ∷ [])
counts_behind log counted =
    let events = fewer event_of log in
    let sent = fewer message_put log in
    let entries = counted.entries in
    let bytes = counted.bytes in
    record {
      plain = (
        plain_append (labelled (codes "events ") (length (schedule log))) (labelled (codes " messages ") (length (messages log)) ++ labelled (codes " bytes ") (message_bytes log))
            (plain_labelled (codes "events ") (length (schedule log)) refl (omega (arith, events, entries)))
            (plain_append (labelled (codes " messages ") (length (messages log))) (labelled (codes " bytes ") (message_bytes log))
            (plain_labelled (codes " messages ") (length (messages log)) refl (omega (arith, sent, entries)))
            (plain_labelled (codes " bytes ") (message_bytes log) refl (omega (arith, bytes)))),
        tt,
      );
      none = λ agent most last. ap (λ o. option_map_or (λ timed. timed ∷ own_steps agent most timed.time []) o [])
          (no_step_line agent last most 101 _ refl);
      over = λ number. ap (λ test. if test then nothing_left (number + 1) [] else Err number)
          (count_line_again (length (schedule log)) (length (messages log)) (message_bytes log) (omega (arith, events, entries)) (omega (arith, sent, entries)) bytes);
    }

pub read_whole : (outcome : Outcome) (names : List (List PlanStep)) (log : List Entry) (cost : ℕ) (plan : List PlanStep)
    → TellsPlan outcome names cost plan → IsCounted log
    → plan_in (length outcome.shares) (outcome_text outcome names log) ≡ Ok (record { cost = cost; plan = plan })
read_whole outcome names log cost plan told counted =
    ap (λ answer. plan_in (length outcome.shares) (text_of_lines (found_lines answer outcome.shares names log))) told.answer
    ∙ told_again outcome names cost plan (count_line log ∷ []) told (counts_behind log counted)
