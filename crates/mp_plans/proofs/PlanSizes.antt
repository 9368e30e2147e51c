-- A plan has no more steps than its text has bytes.
use Rattle.std.proofs.Common.{◌≡◌, ◌+◌, ◌≤◌, ℕ, zero, suc, Bool, true, false, List, [], ◌∷◌, length, drop, map, Option, Some, None, Result, Ok, Err, refl, subst, arith, if◌then◌else◌}
use Rattle.std.specs.Prelude.{codes, ◌==◌, IfOk, IfSome}
use Rattle.std.specs.List.{range_with_len}
use Rattle.std.specs.Option.{option_map, option_map_or}
use Rattle.std.proofs.lemmas.List.{length-append, length-drop}
use Rattle.std.proofs.lemmas.Bool.{eqb-true}
use Rattle.std.proofs.lemmas.List.FromFn.{length-map-range_with_len}
use Rattle.mp_joint.specs.declared.plan.PlanStep.{PlanStep}
use Rattle.mp_text.specs.Lines.{Text, with_first_byte}
use Rattle.mp_plans.specs.declared.line.TimedStep.{TimedStep}
use Rattle.mp_plans.specs.declared.plan.PlanText.{PlanText}
use Rattle.mp_plans.specs.Lines.{is_agent_line, is_count_line, number_line, step_between, whole_lines}
use Rattle.mp_plans.specs.Plan.{agents_of, all_there, behind_agents, in_order, labelled_then, nothing_left, own_steps, plan_in, plan_of, step_at, with_steps}

-- at most so many, where there is a value
abbrev AtMost : ℕ → Result (List TimedStep) ℕ → Type 0
AtMost most read = IfOk read (λ steps. length steps ≤ most)

abbrev Short : ℕ → Result PlanText ℕ → Type 0
Short most read = IfOk read (λ plan. length plan.plan ≤ most)

if_line : (c : Bool) (x y : Result (List TimedStep) ℕ) (most : ℕ) → AtMost most x → AtMost most y → AtMost most (if c then x else y)
if_line true x y most h k = h
if_line false x y most h k = k

-- ---- lines

first_byte : (byte : ℕ) (lines : List Text) → length (with_first_byte byte lines) ≤ suc (length lines)
first_byte byte [] = omega arith
first_byte byte (line ∷ lines) = omega arith

more_lines : (c : Bool) (x y : List Text) (n : ℕ) → length x ≤ n → length y ≤ n → length (if c then x else y) ≤ n
more_lines true x y n h k = h
more_lines false x y n h k = k

lines_within : (text : Text) → length (whole_lines text) ≤ length text
lines_within [] = omega arith
lines_within (byte ∷ text) =
    let h = lines_within text in
    let k = first_byte byte (whole_lines text) in
    more_lines (byte == 10) ((10 ∷ []) ∷ whole_lines text) (with_first_byte byte (whole_lines text)) (suc (length text))
    (omega (arith, h)) (omega (arith, h, k))

-- ---- steps

own_by : (o : Option TimedStep) (later : TimedStep → List TimedStep) (n : ℕ) → ((t : TimedStep) → length (later t) ≤ n) → length (option_map_or (λ t. t ∷ later t) o []) ≤ suc n
own_by None later n h = omega arith
own_by (Some t) later n h = let k = h t in omega (arith, k)

own_within : (agent most : ℕ) (lines : List Text) (last : ℕ) → length (own_steps agent most last lines) ≤ length lines
own_within agent most [] last = omega arith
own_within agent most (line ∷ lines) last =
    own_by (step_between agent last most line) (λ timed. own_steps agent most timed.time lines) (length lines)
    (λ timed. own_within agent most lines timed.time)

nothing_within : (number : ℕ) (lines : List Text) → AtMost 0 (nothing_left number lines)
nothing_within number [] = omega arith
nothing_within number (line ∷ lines) = tt

behind_within : (number : ℕ) (lines : List Text) → AtMost 0 (behind_agents number lines)
behind_within number [] = omega arith
behind_within number (line ∷ lines) =
    if_line (is_count_line line) (nothing_left (number + 1) lines) (Err number) 0 (nothing_within (number + 1) lines) tt

joined : (own : List TimedStep) (read : Result (List TimedStep) ℕ) (most left : ℕ) → AtMost left read → length own + left ≤ most → AtMost most (with_steps own read)
joined own (Ok later) most left h k = let l = length-append own later in omega (arith, l, h, k)
joined own (Err refused) most left h k = tt

weaker : (read : Result (List TimedStep) ℕ) (least most : ℕ) → AtMost least read → least ≤ most → AtMost most read
weaker (Ok steps) least most h k = omega (arith, h, k)
weaker (Err refused) least most h k = tt

agents_within : (more agent most number : ℕ) (lines : List Text) → AtMost (length lines) (agents_of more agent most number lines)
agents_within zero agent most number lines = weaker (behind_agents number lines) 0 (length lines) (behind_within number lines) (omega arith)
agents_within (suc more) agent most number [] = tt
agents_within (suc more) agent most number (line ∷ lines) =
    let own = own_steps agent most 0 lines in
    let few : length own ≤ length lines = own_within agent most lines 0 in
    let left = drop (length own) lines in
    let size = length-drop (length own) lines in
    if_line (is_agent_line agent line)
    (with_steps own (agents_of more (agent + 1) most (number + 1 + length own) left)) (Err number) (suc (length lines))
    (joined own (agents_of more (agent + 1) most (number + 1 + length own) left) (suc (length lines)) (length left)
    (agents_within more (agent + 1) most (number + 1 + length own) left)
    (omega (arith, few, size)))
    tt

-- ---- plans

there_more : {X : Type 0} (x : X) (rest : Option (List X)) (ys : List X) (n : ℕ) → ((zs : List X) → rest ≡ Some zs → length zs ≤ n) → option_map (λ zs. x ∷ zs) rest ≡ Some ys → length ys ≤ suc n
there_more x None ys n h f = absurd (cc)
there_more x (Some zs) ys n h f =
    let same : x ∷ zs ≡ ys = cc in
    let k = h zs refl in
    subst (λ z. length z ≤ suc n) same (omega (arith, k))

-- all that are there are as many as are looked for
there : {X : Type 0} (xs : List (Option X)) (n : ℕ) → length xs ≤ n → (ys : List X) → all_there xs ≡ Some ys → length ys ≤ n
there [] n h ys e = let same : [] ≡ ys = cc in subst (λ z. length z ≤ n) same h
there (None ∷ xs) n h ys e = absurd (cc)
there (Some x ∷ xs) zero h ys e = absurd (omega (arith, h))
there (Some x ∷ xs) (suc n) h ys e = there_more x (all_there xs) ys n (there xs n (omega (arith, h))) e

each_some : {A : Type 0} (o : Option A) (P : A → Type 0) → ((x : A) → o ≡ Some x → P x) → IfSome o P
each_some None P h = tt
each_some (Some x) P h = h x refl

all_within : (steps : List TimedStep) (most n : ℕ) → most ≤ n → IfSome (all_there (map (step_at steps) (range_with_len 1 most))) (λ plan. length plan ≤ n)
all_within steps most n h =
    let size = length-map-range_with_len (step_at steps) 1 most in
    each_some (all_there (map (step_at steps) (range_with_len 1 most))) (λ plan. length plan ≤ n)
    (λ plan is. there (map (step_at steps) (range_with_len 1 most)) n (omega (arith, size, h)) plan is)

by_count : (c : Bool) (o : Option (List PlanStep)) (P : List PlanStep → Type 0) → (c ≡ true → IfSome o P) → IfSome (if c then o else None) P
by_count true o P h = h refl
by_count false o P h = tt

ordered_within : (most : ℕ) (steps : List TimedStep) (n : ℕ) → length steps ≤ n → IfSome (in_order most steps) (λ plan. length plan ≤ n)
ordered_within most steps n h =
    by_count (length steps == most) (all_there (map (step_at steps) (range_with_len 1 most))) (λ plan. length plan ≤ n)
    (λ is. let same : length steps ≡ most = eqb-true (length steps) most is in all_within steps most n (subst (λ m. m ≤ n) same h))

as_plan : (o : Option (List PlanStep)) (cost n : ℕ) → IfSome o (λ plan. length plan ≤ n) → Short n (option_map_or (λ plan. Ok (record { cost = cost; plan = plan })) o (Err 2))
as_plan None cost n h = tt
as_plan (Some plan) cost n h = h

plan_within : (cost most : ℕ) (read : Result (List TimedStep) ℕ) (n : ℕ) → AtMost n read → Short n (plan_of cost most read)
plan_within cost most (Ok steps) n h = as_plan (in_order most steps) cost n (ordered_within most steps n h)
plan_within cost most (Err refused) n h = tt

by_label : (o : Option ℕ) (onward : ℕ → Result PlanText ℕ) (number n : ℕ) → ((k : ℕ) → Short n (onward k)) → Short n (option_map_or onward o (Err number))
by_label None onward number n h = tt
by_label (Some k) onward number n h = h k

labelled_within : (label : Text) (number : ℕ) (onward : ℕ → List Text → Result PlanText ℕ) (lines : List Text) (n : ℕ) → ((k : ℕ) (later : List Text) → length later ≤ length lines → Short n (onward k later)) → Short n (labelled_then label number onward lines)
labelled_within label number onward [] n h = tt
labelled_within label number onward (line ∷ lines) n h =
    by_label (number_line label line) (λ k. onward k lines) number n (λ k. h k lines (omega arith))

plan_in_within : (agents : ℕ) (text : Text) → Short (length text) (plan_in agents text)
plan_in_within agents text =
    let all = lines_within text in
    labelled_within (codes "cost ") 1 _ (whole_lines text) (length text)
    (λ cost behind_cost few. labelled_within (codes "length ") 2 _ behind_cost (length text)
    (λ most lines fewer. plan_within cost most (agents_of agents 1 most 3 lines) (length text)
    (weaker (agents_of agents 1 most 3 lines) (length lines) (length text) (agents_within agents 1 most 3 lines) (omega (arith, all, few, fewer)))))

-- so has the plan of a text
pub short_plan : (agents : ℕ) (text : Text) (plan : PlanText) → plan_in agents text ≡ Ok plan → length plan.plan ≤ length text
short_plan agents text plan is = subst (Short (length text)) is (plan_in_within agents text)
