-- The text of a plan is that of the agents' shares.
use Rattle.std.proofs.Common.{◌≡◌, ℕ, zero, suc, ◌+◌, ◌<◌, ◌≤◌, Bool, true, false, List, [], ◌∷◌, ◌++◌, length, map, take, get_or, refl, ap, sym, ◌∙◌, subst, arith, append_assoc, append-nil}
use Rattle.std.proofs.Math.Seq.{take-length, take-suc}
use Rattle.std.proofs.lemmas.Bool.{eqb-true}
use Rattle.std.proofs.lemmas.List.{length-map, length-take-le}
use Rattle.std.proofs.lemmas.List.Elements.{All-tail}
use Rattle.std.proofs.lemmas.Option.{get_or_from_slice_get, slice_get_within}
use Rattle.std.specs.Prelude.{◌==◌, filter, cond, codes, decimal, if◌then◌else◌, Some, All, Contains, slice_get}
use Rattle.std.specs.List.{cons_option, enumerate_from}
use Rattle.std.specs.Option.{option_map}
use Rattle.mp_joint.specs.declared.plan.PlanStep.{PlanStep}
use Rattle.mp_task.specs.Plan.{TaskStep}
use Rattle.mp_trail.specs.declared.steps.Timed.{Timed}
use Rattle.mp_machine.specs.AgentRecord.{AgentRecord}
use Rattle.mp_world.specs.World.{World}
use Rattle.mp_team_verdicts.specs.Shares.{AreShares, as_timed, is_own, own_steps}
use Rattle.mp_stands.specs.Numbering.{Numbering, steps_of}
use Rattle.mp_stands.specs.Plans.{AreNamed, IsNamed}
use Rattle.mp_text.specs.Lines.{Text}
use Rattle.mp_text.specs.Outcome.{agent_lines, names_at, share_lines, step_line}
use Rattle.mp_solutions.specs.PlanText.{own_lines, plan_lines}

-- what an agent's own action numbers stand for are steps of this agent
abbrev pub AreOwn : Numbering → ℕ → Type 0
AreOwn numbering agent = (step : PlanStep) → Contains (steps_of numbering agent) step → step.agent ≡ agent

-- the same of the agents of these steps
abbrev pub AreOwnOfAll : Numbering → List TaskStep → Type 0
AreOwnOfAll numbering numbers = All (λ (s : TaskStep). AreOwn numbering s.agent) numbers

-- one step more, with its time, where the step's agent is this one or not
step_more : (numbering : Numbering) (agent time : ℕ) (s : TaskStep) (step : PlanStep) (later : List (ℕ × TaskStep)) (lines : List Text) (b : Bool)
    → IsNamed numbering s step → (s.agent == agent) ≡ b
    → share_lines (steps_of numbering agent) (map as_timed later) ≡ lines
    → share_lines (steps_of numbering agent) (map as_timed (cond b ((time, s) ∷ later) later)) ≡ (if b then step_line time step ∷ [] else []) ++ lines
step_more numbering agent time s step later lines true named own rest =
    let here : slice_get (steps_of numbering agent) s.action ≡ Some step =
    subst (λ a. slice_get (steps_of numbering a) s.action ≡ Some step) (eqb-true s.agent agent own) named in
    ap (λ o. cons_option (option_map (step_line time) o) (share_lines (steps_of numbering agent) (map as_timed later))) here
    ∙ ap (λ ls. step_line time step ∷ ls) rest
step_more numbering agent time s step later lines false named own rest = rest

-- an agent's share of a plan, from this time on, has the lines of the agent's steps
own_share : (numbering : Numbering) (agent time : ℕ) (numbers : List TaskStep) (plan : List PlanStep) → AreNamed numbering numbers plan
    → AreOwnOfAll numbering numbers
    → share_lines (steps_of numbering agent) (map as_timed (filter (is_own agent) (enumerate_from time numbers))) ≡ own_lines agent time plan
own_share numbering agent time [] [] named agents = refl
own_share numbering agent time [] (step ∷ steps) named agents = absurd named
own_share numbering agent time (s ∷ ss) [] named agents = absurd named
own_share numbering agent time (s ∷ ss) (step ∷ steps) named agents =
    let among = steps_of numbering s.agent in
    let found : Contains among step = (s.action, slice_get_within among s.action step named.0, get_or_from_slice_get among s.action step step named.0) in
    let same : step.agent ≡ s.agent = agents 0 s (omega arith) step found in
    step_more numbering agent time s step (filter (is_own agent) (enumerate_from (time + 1) ss)) (own_lines agent (time + 1) steps) (s.agent == agent)
    named.0 refl (own_share numbering agent (time + 1) ss steps named.1 (All-tail (λ (x : TaskStep). AreOwn numbering x.agent) s ss agents))
    ∙ ap (λ a. (if a == agent then step_line time step ∷ [] else []) ++ own_lines agent (time + 1) steps) (sym same)

-- the lines of one agent, the one at this place
abbrev lines_at : List (List PlanStep) → ℕ → List Timed → List Text
lines_at names place share = (codes "agent " ++ decimal (place + 1)) ∷ share_lines (names_at names place) share

-- one agent more, behind the others
agent_more : (names : List (List PlanStep)) (place : ℕ) (shares : List (List Timed)) (share : List Timed)
    → agent_lines names place (shares ++ share ∷ []) ≡ agent_lines names place shares ++ lines_at names (place + length shares) share
agent_more names place [] share =
    let here : place ≡ place + 0 = omega arith in
    append-nil (lines_at names place share) ∙ ap (λ k. lines_at names k share) here
agent_more names place (first ∷ shares) share =
    let there : place + 1 + length shares ≡ place + suc (length shares) = omega arith in
    ap (λ ls. lines_at names place first ++ ls) (agent_more names (place + 1) shares share ∙ ap (λ k. agent_lines names (place + 1) shares ++ lines_at names k share) there)
    ∙ sym (append_assoc (lines_at names place first) (agent_lines names (place + 1) shares) (lines_at names (place + suc (length shares)) share))

module _
    (names : List (List PlanStep))
    (numbering : Numbering)
    (numbers : List TaskStep)
    (plan : List PlanStep)
    (shares : List (List Timed))
    (are_shares : (place : ℕ) → place < length shares → get_or shares place [] ≡ own_steps (place + 1) numbers)
    (named : AreNamed numbering numbers plan)
    (agents : AreOwnOfAll numbering numbers)
    (are_names : (place : ℕ) → place < length shares → steps_of numbering (place + 1) ≡ names_at names place)
  where
    -- the lines of the first agents
    first_agents : (n : ℕ) → n ≤ length shares → agent_lines names 0 (take n shares) ≡ plan_lines n plan
    first_agents zero le = refl
    first_agents (suc n) le =
        let lt : n < length shares = omega (arith, le) in
        let known : n ≤ length shares = omega (arith, le) in
        let taken = length-take-le n shares known in
        let place : 0 + length (take n shares) ≡ n = omega (arith, taken) in
        let share : share_lines (names_at names n) (get_or shares n []) ≡ own_lines (n + 1) 1 plan =
        (λ i. share_lines (sym (are_names n lt) i) (are_shares n lt i)) ∙ own_share numbering (n + 1) 1 numbers plan named agents in
        ap (agent_lines names 0) (take-suc shares n [] lt)
        ∙ agent_more names 0 (take n shares) (get_or shares n [])
        ∙ ap (λ k. agent_lines names 0 (take n shares) ++ lines_at names k (get_or shares n [])) place
        ∙ (λ i. first_agents n known i ++ (codes "agent " ++ decimal (n + 1)) ∷ share i)

    shares_agree : agent_lines names 0 shares ≡ plan_lines (length shares) plan
    shares_agree = ap (agent_lines names 0) (sym (take-length shares)) ∙ first_agents (length shares) (omega arith)

-- an item of a mapped list is of an item at the same place
at_place : {X Y : Type 0} (f : X → Y) (xs : List X) (place : ℕ) (d : Y) → place < length (map f xs)
    → (x : X) × (slice_get xs place ≡ Some x) × (get_or (map f xs) place d ≡ f x)
at_place f [] place d lt = absurd (omega (arith, lt))
at_place f (x ∷ xs) zero d lt = (x, refl, refl)
at_place f (x ∷ xs) (suc k) d lt = at_place f xs k d (omega (arith, lt))

-- The agents' shares of a plan have the lines of the plan's steps by names: the agents of the plan's steps have their
-- own steps for names, and the names that are told are those of the numbering.
pub texts_agree : (names : List (List PlanStep)) (numbers : List TaskStep) (plan : List PlanStep) (numbering : Numbering) (w : World)
    → AreShares w numbers → AreNamed numbering numbers plan
    → ((place : ℕ) → place < length w.agents → steps_of numbering (place + 1) ≡ names_at names place)
    → ((agent : ℕ) → 1 ≤ agent → agent ≤ length w.agents → AreOwn numbering agent)
    → agent_lines names 0 (map (λ (r : AgentRecord). r.share) w.agents) ≡ plan_lines (length w.agents) plan
texts_agree names numbers plan numbering w are_shares named are_names own =
    let share = λ (r : AgentRecord). r.share in
    let shares = map share w.agents in
    let as_many : length shares ≡ length w.agents = length-map w.agents share in
    let each : (place : ℕ) → place < length shares → get_or shares place [] ≡ own_steps (place + 1) numbers =
    λ place lt.
    let found = at_place share w.agents place [] lt in
    let next : suc place ≡ place + 1 = omega arith in
    found.2 ∙ are_shares.own (suc place) found.0 found.1 ∙ ap (λ k. own_steps k numbers) next in
    let agents : AreOwnOfAll numbering numbers =
    λ k d lt. let one = are_shares.agents k d lt in own (get_or numbers k d).agent one.from_1 one.at_most in
    shares_agree names numbering numbers plan shares each named agents (λ place lt. are_names place (subst (λ n. place < n) as_many lt))
    ∙ ap (λ n. plan_lines n plan) as_many
