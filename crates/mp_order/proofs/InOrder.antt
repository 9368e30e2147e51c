-- Each plan that solves can be put in order: the first public step is of one agent, whose private steps stay before it,
-- and the others' move behind it; private steps alone become closing groups.
use Rattle.std.proofs.Common.{◌≡◌, ℕ, zero, suc, ◌+◌, ◌<◌, ◌≤◌, Bool, true, false, cond, not, ◌&&◌, ◌||◌, List, [], ◌∷◌, ◌++◌, append_assoc, length, Option, Some, None, ◌⊎◌, inl, inr, refl, sym, ap, ◌∙◌, subst, IsSomeAnd, IsTrue, arith}
use Rattle.std.proofs.lemmas.Bool.{and_from, and_parts, eq-eqb, eqb-true, not-true, or_left, or_right}
use Rattle.std.proofs.lemmas.List.{length-append}
use Rattle.std.proofs.lemmas.List.Elements.{filter-append}
use Rattle.std.proofs.lemmas.List.Filters.{length-filter_both, sum_by-filter_both}
use Rattle.std.proofs.lemmas.List.Folds.{list_all-append}
use Rattle.std.specs.List.{Contains, filter, list_all}
use Rattle.mp_list.proofs.Members.{all_at, contains_head, contains_tail}
use Rattle.mp_runs.specs.Run.{run}
use Rattle.mp_runs.proofs.Costs.{plan_cost-append}
use Rattle.mp_runs.proofs.Runs.{run_cut, run_parts, run-none}
use Rattle.mp_sets.specs.Numbers.{holds}
use Rattle.mp_task.specs.AgentTask.{AgentTask}
use Rattle.mp_task.specs.Agreement.{AreNumbered}
use Rattle.mp_task.specs.Met.{is_met}
use Rattle.mp_task.specs.Plan.{JointState, TaskStep, SolvesFrom, private_of, after_step, goals_hold, step_cost, task_cost, team_system}
use Rattle.mp_task.proofs.Agreeing.{number_at}
use Rattle.mp_order.specs.Ordered.{IsBlock, IsOrdered}
use Rattle.mp_order.specs.Ordered.IsBlock.{by_public, by_private}
use Rattle.mp_order.specs.Ordered.IsOrdered.{closing, block}
use Rattle.mp_order.proofs.Apart.{private_run, takes_private, takes_public}
use Rattle.mp_order.proofs.Closing.{closed, numbered_by_place, passing_keeps, all_weaker}
use Rattle.mp_order.proofs.Swaps.{gathered, is_shown, of_agent, of_another, passing_all}

-- the first public step of a plan
record HasFirstPublic (tasks : List AgentTask) (plan : List TaskStep) : Type 0 where
  front : List TaskStep
  step : TaskStep
  later : List TaskStep
  is : plan ≡ front ++ step ∷ later
  hidden : list_all (λ x. not (is_shown tasks x)) front ≡ true
  shown : is_shown tasks step ≡ true

first_public : (tasks : List AgentTask) (plan : List TaskStep) → (list_all (λ x. not (is_shown tasks x)) plan ≡ true) ⊎ HasFirstPublic tasks plan
first_public tasks [] = inl refl
first_public tasks (x ∷ plan) = by (is_shown tasks x) refl (first_public tasks plan)
  where
    by : (b : Bool) → is_shown tasks x ≡ b → (list_all (λ y. not (is_shown tasks y)) plan ≡ true) ⊎ HasFirstPublic tasks plan → (list_all (λ y. not (is_shown tasks y)) (x ∷ plan) ≡ true) ⊎ HasFirstPublic tasks (x ∷ plan)
    by true is found = inr (record { front = []; step = x; later = plan; is = refl; hidden = refl; shown = is })
    by false is (inl all) = inl (and_from (not (is_shown tasks x)) _ (ap not is) all)
    by false is (inr found) =
        inr (record { front = x ∷ found.front; step = found.step; later = found.later; is = ap (λ xs. x ∷ xs) found.is; hidden = and_from (not (is_shown tasks x)) _ (ap not is) found.hidden; shown = found.shown })

-- an agent's private steps and then a public one of it are a block
one_block : (tasks : List AgentTask) (agent : ℕ) (s next : JointState) (own : List TaskStep) (step : TaskStep) → list_all (of_agent agent) own ≡ true → list_all (λ x. not (is_shown tasks x)) own ≡ true → of_agent agent step ≡ true → is_shown tasks step ≡ true → run (after_step tasks) s (own ++ step ∷ []) ≡ Some next → IsBlock tasks agent s (own ++ step ∷ []) next
one_block tasks agent s next [] step mine hidden of shown ran =
    let parts = run_parts (after_step tasks) s next step [] ran in
    let led = parts.1 ∙ sym (run-none (after_step tasks) parts.0) ∙ parts.2 in
    by_public s next step (takes_public tasks agent s next step (eqb-true step.agent agent of) shown led)
one_block tasks agent s next (x ∷ own) step mine hidden of shown ran =
    let mines = and_parts (of_agent agent x) (list_all (of_agent agent) own) mine in
    let hiddens = and_parts (not (is_shown tasks x)) (list_all (λ y. not (is_shown tasks y)) own) hidden in
    let parts = run_parts (after_step tasks) s next x (own ++ step ∷ []) ran in
    by_private s parts.0 next x (own ++ step ∷ []) (takes_private tasks agent s parts.0 x (eqb-true x.agent agent mines.0) (not-true _ hiddens.0) parts.1)
    (one_block tasks agent parts.0 next own step mines.1 hiddens.1 of shown parts.2)

-- where a plan leads to
pub record IsSolved (tasks : List AgentTask) (s : JointState) (plan : List TaskStep) : Type 0 where
  pub last : JointState
  pub ran : run (after_step tasks) s plan ≡ Some last
  pub goals : goals_hold tasks last ≡ true

pub solved : (tasks : List AgentTask) (s : JointState) (plan : List TaskStep) → SolvesFrom tasks s plan → IsSolved tasks s plan
solved tasks s plan solves = by (run (after_step tasks) s plan) refl solves
  where
    by : (o : Option JointState) → run (after_step tasks) s plan ≡ o → IsSomeAnd o (λ last. IsTrue (goals_hold tasks last)) → IsSolved tasks s plan
    by None ran none = absurd none
    by (Some last) ran goals = record { last = last; ran = ran; goals = goals }

pub solves : (tasks : List AgentTask) (s last : JointState) (plan : List TaskStep) → run (after_step tasks) s plan ≡ Some last → goals_hold tasks last ≡ true → SolvesFrom tasks s plan
solves tasks s last plan ran goals = subst (λ o. IsSomeAnd o (λ u. IsTrue (goals_hold tasks u))) (sym ran) goals

-- goals that hold for each agent hold for all
goals_from : (tasks : List AgentTask) (s : JointState) (ts : List AgentTask) → ((u : AgentTask) → Contains ts u → holds s.publics u.goal_pub ≡ true) → ((u : AgentTask) → Contains ts u → is_met u (private_of s u.me) ≡ true) → list_all (λ t. holds s.publics t.goal_pub && is_met t (private_of s t.me)) ts ≡ true
goals_from tasks s [] pubs privs = refl
goals_from tasks s (t ∷ ts) pubs privs =
    and_from (holds s.publics t.goal_pub && is_met t (private_of s t.me)) _
    (and_from (holds s.publics t.goal_pub) (is_met t (private_of s t.me)) (pubs t (contains_head t ts)) (privs t (contains_head t ts)))
    (goals_from tasks s ts (λ u here. pubs u (contains_tail t ts u here)) (λ u here. privs u (contains_tail t ts u here)))

-- an ordered plan that costs no more
pub record IsInOrder (tasks : List AgentTask) (s : JointState) (plan : List TaskStep) : Type 0 where
  pub steps : List TaskStep
  pub ordered : IsOrdered tasks s steps
  pub cheaper : task_cost tasks steps ≤ task_cost tasks plan

module _ (tasks : List AgentTask) (are : AreNumbered tasks) where
  -- where no step is public
  closing_alone : (s : JointState) (plan : List TaskStep) → list_all (λ x. not (is_shown tasks x)) plan ≡ true → IsSolved tasks s plan → IsInOrder tasks s plan
  closing_alone s plan hidden it =
      let each : (u : AgentTask) → Contains tasks u → (holds it.last.publics u.goal_pub ≡ true) × (is_met u (private_of it.last u.me) ≡ true) =
      λ u here. and_parts (holds it.last.publics u.goal_pub) (is_met u (private_of it.last u.me)) (all_at (λ t. holds it.last.publics t.goal_pub && is_met t (private_of it.last t.me)) tasks u it.goals here) in
      let numbered = numbered_by_place 1 tasks (λ i t within is. let e = number_at tasks are.numbered i t within is in omega arith) in
      let done = closed tasks 1 tasks s it.last plan (omega arith) numbered hidden it.ran (λ u here. (each u here).1) in
      let same : it.last.publics ≡ done.reached.publics = private_run tasks s it.last plan hidden it.ran ∙ sym done.publics in
      record {
        steps = done.steps;
        ordered = closing s done.reached done.steps done.groups (goals_from tasks done.reached tasks (λ u here. ap (λ p. holds p u.goal_pub) (sym same) ∙ (each u here).0) done.met);
        cheaper = done.cheaper;
      }

  may_gather : (front : List TaskStep) (step : TaskStep) → list_all (λ x. not (is_shown tasks x)) front ≡ true → list_all (λ x. of_agent step.agent x || not (is_shown tasks x)) (front ++ step ∷ []) ≡ true
  may_gather front step hidden =
      let may : TaskStep → Bool = λ x. of_agent step.agent x || not (is_shown tasks x) in
      list_all-append may front (step ∷ [])
      ∙ and_from (list_all may front) (list_all may (step ∷ []))
      (all_weaker (λ x. not (is_shown tasks x)) may (λ x h. or_right (of_agent step.agent x) (not (is_shown tasks x)) h) front hidden)
      (and_from (may step) true (or_left (of_agent step.agent step) (not (is_shown tasks step)) (eq-eqb step.agent step.agent refl)) refl)

  -- a block of the agent of the first public step, and what is left
  record HasBlock (s : JointState) (plan : List TaskStep) : Type 0 where
    agent : ℕ
    steps : List TaskStep
    later : List TaskStep
    next : JointState
    is_block : IsBlock tasks agent s steps next
    solved : SolvesFrom tasks next later
    cost : task_cost tasks steps + task_cost tasks later ≡ task_cost tasks plan
    shorter : length later < length plan

  first_block : (s : JointState) (plan : List TaskStep) → HasFirstPublic tasks plan → IsSolved tasks s plan → HasBlock s plan
  first_block s plan found it =
      let p = found.step in
      let agent = p.agent in
      let front = found.front in
      let begun = front ++ p ∷ [] in
      let own = filter (of_agent agent) front in
      let rest = filter (of_another agent) begun ++ found.later in
      let whole : plan ≡ begun ++ found.later = found.is ∙ sym (append_assoc front (p ∷ []) found.later) in
      let of : of_agent agent p ≡ true = eq-eqb agent agent refl in
      let own_is : filter (of_agent agent) begun ≡ own ++ p ∷ [] = filter-append (of_agent agent) front (p ∷ []) ∙ ap (λ b. own ++ cond b (p ∷ []) []) of in
      let ran : run (after_step tasks) s ((own ++ p ∷ []) ++ rest) ≡ Some it.last =
      ap (λ xs. run (after_step tasks) s (xs ++ rest)) (sym own_is)
      ∙ sym (gathered tasks s agent begun found.later (may_gather front p found.hidden))
      ∙ ap (run (after_step tasks) s) (sym whole)
      ∙ it.ran in
      let cut = run_cut (after_step tasks) s it.last (own ++ p ∷ []) rest ran in
      let c1 : task_cost tasks (own ++ p ∷ []) + task_cost tasks (filter (of_another agent) begun) ≡ task_cost tasks begun = ap (λ xs. task_cost tasks xs + task_cost tasks (filter (of_another agent) begun)) (sym own_is) ∙ sum_by-filter_both (of_agent agent) (of_another agent) (λ x. refl) (step_cost tasks) begun in
      let c2 : task_cost tasks rest ≡ task_cost tasks (filter (of_another agent) begun) + task_cost tasks found.later = plan_cost-append (team_system tasks) (filter (of_another agent) begun) found.later in
      let c3 : task_cost tasks plan ≡ task_cost tasks begun + task_cost tasks found.later = ap (task_cost tasks) whole ∙ plan_cost-append (team_system tasks) begun found.later in
      let l1 : length (own ++ p ∷ []) + length (filter (of_another agent) begun) ≡ length begun = ap (λ xs. length xs + length (filter (of_another agent) begun)) (sym own_is) ∙ length-filter_both (of_agent agent) (of_another agent) (λ x. refl) begun in
      let l2 : length rest ≡ length (filter (of_another agent) begun) + length found.later = length-append (filter (of_another agent) begun) found.later in
      let l3 : length plan ≡ length begun + length found.later = ap length whole ∙ length-append begun found.later in
      let l4 : length (own ++ p ∷ []) ≡ length own + 1 = length-append own (p ∷ []) in
      record {
        agent = agent;
        steps = own ++ p ∷ [];
        later = rest;
        next = cut.0;
        is_block = one_block tasks agent s cut.0 own p (passing_all (of_agent agent) front) (passing_keeps (of_agent agent) (λ x. not (is_shown tasks x)) front found.hidden) of found.shown cut.1;
        solved = solves tasks cut.0 it.last rest cut.2 it.goals;
        cost = omega arith;
        shorter = omega arith;
      }

  pub in_order : (n : ℕ) (s : JointState) (plan : List TaskStep) → length plan ≤ n → SolvesFrom tasks s plan → IsInOrder tasks s plan
  in_order zero s plan short solving = by (first_public tasks plan)
    where
      by : (list_all (λ x. not (is_shown tasks x)) plan ≡ true) ⊎ HasFirstPublic tasks plan → IsInOrder tasks s plan
      by (inl hidden) = closing_alone s plan hidden (solved tasks s plan solving)
      by (inr found) = let b = (first_block s plan found (solved tasks s plan solving)).shorter in absurd (omega arith)
  in_order (suc n) s plan short solving =
      by (first_public tasks plan) (λ t later less it. in_order n t later less it)
    where
      by : (list_all (λ x. not (is_shown tasks x)) plan ≡ true) ⊎ HasFirstPublic tasks plan → ((t : JointState) (later : List TaskStep) → length later ≤ n → SolvesFrom tasks t later → IsInOrder tasks t later) → IsInOrder tasks s plan
      by (inl hidden) again = closing_alone s plan hidden (solved tasks s plan solving)
      by (inr found) again =
          let b = first_block s plan found (solved tasks s plan solving) in
          let shorter = b.shorter in
          let rest = again b.next b.later (omega arith) b.solved in
          let c = plan_cost-append (team_system tasks) b.steps rest.steps in
          let d = b.cost in
          let e = rest.cheaper in
          record { steps = b.steps ++ rest.steps; ordered = block b.agent s b.next b.steps rest.steps b.is_block rest.ordered; cheaper = omega arith }
