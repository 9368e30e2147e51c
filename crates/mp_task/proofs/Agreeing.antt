-- What the tasks of a team that agree say of one another.
use Rattle.std.proofs.Common.{◌≡◌, ℕ, zero, suc, ◌<◌, List, [], ◌∷◌, length, map, get_or, Option, Some, None, refl, sym, ap, ◌∙◌, arith}
use Rattle.std.proofs.lemmas.List.{get_or_default, get_or-map}
use Rattle.std.proofs.lemmas.List.Elements.{All-weaker, Contains-get_or}
use Rattle.std.proofs.lemmas.List.FromFn.{get_or-range_with_len}
use Rattle.std.proofs.lemmas.Option.{none-some, slice_get_within, get_or_from_slice_get}
use Rattle.std.specs.FinSet as set
use Rattle.std.specs.List.{Contains, range_with_len, slice_get}
use Rattle.std.specs.Option.{option_and_then}
use Rattle.mp_task.specs.declared.act.Act.{Act}
use Rattle.mp_task.specs.AgentTask.{AgentTask}
use Rattle.mp_task.specs.Agreement.{Agree, AreNumbered, FitsTeam}
use Rattle.mp_task.specs.Plan.{TaskStep, task_of, act_of, public_start}

pub Contains-slice_get : {X : Type 0} (xs : List X) (k : ℕ) (x : X) → slice_get xs k ≡ Some x → Contains xs x
Contains-slice_get xs k x here = (k, slice_get_within xs k x here, get_or_from_slice_get xs k x x here)

-- tasks that agree are numbered
pub agree_numbered : (tasks : List AgentTask) → Agree tasks → AreNumbered tasks
agree_numbered tasks agree = record { numbered = agree.numbered; team = All-weaker (FitsTeam tasks) (λ t. t.agents ≡ length tasks) (λ t fit. fit.agents) tasks agree.team }

-- the task at a place is that of the agent of the next number
pub number_at : (tasks : List AgentTask) → map (λ t. t.me) tasks ≡ range_with_len 1 (length tasks) → (i : ℕ) (t : AgentTask) → i < length tasks → get_or tasks i t ≡ t → t.me ≡ suc i
number_at tasks numbered i t within is =
    let mine : get_or (map (λ (u : AgentTask). u.me) tasks) i 0 ≡ t.me = get_or-map (λ (u : AgentTask). u.me) tasks i t 0 within ∙ ap (λ u. u.me) is in
    let range = ap (λ xs. get_or xs i 0) numbered in
    let place = get_or-range_with_len 1 (length tasks) i 0 within in
    omega arith

-- the agent and the task of a step that stands for an action
pub record IsStepOf (tasks : List AgentTask) (step : TaskStep) (act : Act) : Type 0 where
  pub place : ℕ
  pub task : AgentTask
  pub agent : step.agent ≡ suc place
  pub within : place < length tasks
  pub is : get_or tasks place task ≡ task
  pub own : slice_get task.acts step.action ≡ Some act

pub step_parts : (tasks : List AgentTask) (step : TaskStep) (act : Act) → act_of tasks step ≡ Some act → IsStepOf tasks step act
step_parts tasks step act here = by step.agent refl here
  where
    found : (j : ℕ) → step.agent ≡ suc j → (m : Option AgentTask) → slice_get tasks j ≡ m → option_and_then (λ t. slice_get t.acts step.action) m ≡ Some act → IsStepOf tasks step act
    found j agent None there e = absurd (none-some act e)
    found j agent (Some u) there e = record {
      place = j;
      task = u;
      agent = agent;
      within = slice_get_within tasks j u there;
      is = get_or_from_slice_get tasks j u u there;
      own = e;
    }

    by : (agent : ℕ) → step.agent ≡ agent → option_and_then (λ t. slice_get t.acts step.action) (task_of tasks agent) ≡ Some act → IsStepOf tasks step act
    by zero agent e = absurd (none-some act e)
    by (suc j) agent e = found j agent (slice_get tasks j) refl e

-- the public start is that of each task, where all say the same
pub public_start-at : (tasks : List AgentTask) (t : AgentTask) → Contains tasks t → ((u : AgentTask) → Contains tasks u → u.start_pub ≡ t.start_pub) → public_start tasks ≡ set.from_list t.start_pub
public_start-at [] t (i, within, is) same = absurd (omega arith)
public_start-at (u ∷ us) t here same = ap set.from_list (same u (Contains-get_or (u ∷ us) 0 u (omega arith)))

-- one task alone is that of an agent
pub same_number : (tasks : List AgentTask) → map (λ t. t.me) tasks ≡ range_with_len 1 (length tasks) → (t u : AgentTask) → Contains tasks t → Contains tasks u → t.me ≡ u.me → t ≡ u
same_number tasks numbered t u here there mine =
    let a = number_at tasks numbered here.0 t here.1 here.2 in
    let b = number_at tasks numbered there.0 u there.1 there.2 in
    let place : here.0 ≡ there.0 = omega arith in
    sym here.2 ∙ ap (λ k. get_or tasks k t) place ∙ get_or_default tasks there.0 t u there.1 ∙ there.2
