-- Private steps alone: each agent's are gathered, and of them the shortest beginning is kept after which its private
-- goals hold.
use Rattle.std.proofs.Common.{◌≡◌, ℕ, suc, ◌+◌, ◌<◌, ◌≤◌, Bool, true, false, cond, not, ◌||◌, List, [], ◌∷◌, ◌++◌, append-nil, length, get_or, Some, refl, sym, ap, ◌∙◌, subst, ⊎_elim, zero-le, arith}
use Rattle.std.proofs.lemmas.Bool.{and_from, and_parts, eqb-true, false≢true, not-true, or_right}
use Rattle.std.proofs.lemmas.List.Filters.{sum_by-filter_both}
use Rattle.std.proofs.lemmas.Option.{same_Some}
use Rattle.std.specs.List.{Contains, filter, list_all}
use Rattle.mp_list.proofs.Members.{contains_cases, contains_head, contains_tail, no_member}
use Rattle.mp_runs.specs.Run.{run}
use Rattle.mp_runs.proofs.Costs.{plan_cost-append, plan_cost-cons}
use Rattle.mp_runs.proofs.Runs.{run-none, run_cut, run_parts}
use Rattle.mp_task.specs.AgentTask.{AgentTask}
use Rattle.mp_task.specs.Met.{is_met}
use Rattle.mp_task.specs.Plan.{JointState, TaskStep, private_of, after_step, step_cost, task_cost, team_system}
use Rattle.mp_order.specs.Ordered.{IsClosingGroup, AreClosingGroups}
use Rattle.mp_order.specs.Ordered.IsClosingGroup.{met, unmet}
use Rattle.mp_order.specs.Ordered.AreClosingGroups.{no_agent, first_agent}
use Rattle.mp_order.proofs.Apart.{alike_run, others_keep, own_step, same_private, takes_private, without}
use Rattle.mp_order.proofs.Swaps.{gathered, is_shown, of_agent, of_another, passing_all}

-- what all of a list pass, all pass that are kept of it
keeps_more : (p : TaskStep → Bool) (x : TaskStep) (kept : List TaskStep) (b : Bool) → p x ≡ true → list_all p kept ≡ true → list_all p (cond b (x ∷ kept) kept) ≡ true
keeps_more p x kept true is all = and_from (p x) (list_all p kept) is all
keeps_more p x kept false is all = all

pub passing_keeps : (p q : TaskStep → Bool) (xs : List TaskStep) → list_all q xs ≡ true → list_all q (filter p xs) ≡ true
passing_keeps p q [] all = refl
passing_keeps p q (x ∷ xs) all =
    let parts = and_parts (q x) (list_all q xs) all in
    keeps_more q x (filter p xs) (p x) parts.0 (passing_keeps p q xs parts.1)

pub all_weaker : (p q : TaskStep → Bool) → ((x : TaskStep) → p x ≡ true → q x ≡ true) → (xs : List TaskStep) → list_all p xs ≡ true → list_all q xs ≡ true
all_weaker p q each [] all = refl
all_weaker p q each (x ∷ xs) all =
    let parts = and_parts (p x) (list_all p xs) all in
    and_from (q x) (list_all q xs) (each x parts.0) (all_weaker p q each xs parts.1)

-- agents whose numbers rise one by one
abbrev pub AreNumberedFrom : ℕ → List AgentTask → Type 0
AreNumberedFrom n [] = Unit {0}
AreNumberedFrom n (t ∷ ts) = (t.me ≡ n) × AreNumberedFrom (suc n) ts

pub numbered_by_place : (n : ℕ) (ts : List AgentTask) → ((i : ℕ) (t : AgentTask) → i < length ts → get_or ts i t ≡ t → t.me ≡ n + i) → AreNumberedFrom n ts
numbered_by_place n [] each = tt
numbered_by_place n (t ∷ ts) each =
    let first : t.me ≡ n = let e = each 0 t (omega arith) refl in omega arith in
    (first, numbered_by_place (suc n) ts (λ i u within is. let e = each (suc i) u (omega arith) is in omega arith))

number_from : (n : ℕ) (ts : List AgentTask) (u : AgentTask) → AreNumberedFrom n ts → Contains ts u → n ≤ u.me
number_from n [] u numbered here = absurd (no_member u here)
number_from n (t ∷ ts) u numbered here =
    ⊎_elim (λ e. let same : t.me ≡ u.me = ap (λ (v : AgentTask). v.me) e in let first = numbered.0 in omega arith)
    (λ there. let later = number_from (suc n) ts u numbered.1 there in omega arith)
    (contains_cases t ts u here)

module _ (tasks : List AgentTask) where
  abbrev is_hidden : TaskStep → Bool
  is_hidden x = not (is_shown tasks x)

  -- the shortest beginning of an agent's private steps after which its private goals hold
  record IsShort (t : AgentTask) (s : JointState) (own : List TaskStep) : Type 0 where
    steps : List TaskStep
    reached : JointState
    group : IsClosingGroup tasks t s steps reached
    cheaper : task_cost tasks steps ≤ task_cost tasks own
    alike : without t.me reached ≡ without t.me s
    holds : is_met t (private_of reached t.me) ≡ true

  shortest : (t : AgentTask) (s u : JointState) (own : List TaskStep) → list_all (of_agent t.me) own ≡ true → list_all is_hidden own ≡ true → run (after_step tasks) s own ≡ Some u → is_met t (private_of u t.me) ≡ true → IsShort t s own
  shortest t s u [] mine hidden ran goals =
      let here = ap (λ v. is_met t (private_of v t.me)) (same_Some s u (sym (run-none (after_step tasks) s) ∙ ran)) ∙ goals in
      record { steps = []; reached = s; group = met s here; cheaper = zero-le; alike = refl; holds = here }
  shortest t s u (x ∷ own) mine hidden ran goals =
      let mines = and_parts (of_agent t.me x) (list_all (of_agent t.me) own) mine in
      let hiddens = and_parts (is_hidden x) (list_all is_hidden own) hidden in
      let parts = run_parts (after_step tasks) s u x own ran in
      by (is_met t (private_of s t.me)) refl parts.0 mines.0 (not-true _ hiddens.0) parts.1 (shortest t parts.0 u own mines.1 hiddens.1 parts.2 goals)
    where
      by : (b : Bool) → is_met t (private_of s t.me) ≡ b → (next : JointState) → of_agent t.me x ≡ true → is_shown tasks x ≡ false → after_step tasks s x ≡ Some next → IsShort t next own → IsShort t s (x ∷ own)
      by true is next of hides led later = record { steps = []; reached = s; group = met s is; cheaper = zero-le; alike = refl; holds = is }
      by false is next of hides led later =
          let takes = takes_private tasks t.me s next x (eqb-true x.agent t.me of) hides led in
          let a = plan_cost-cons (team_system tasks) x later.steps in
          let b = plan_cost-cons (team_system tasks) x own in
          let c = later.cheaper in
          record {
            steps = x ∷ later.steps;
            reached = later.reached;
            group = unmet s next later.reached x later.steps (λ e. false≢true (sym is ∙ e)) takes later.group;
            cheaper = omega arith;
            alike = later.alike ∙ own_step tasks t.me s next x of hides led;
            holds = later.holds;
          }

  -- an agent's private steps lead to a state that differs in its own private facts alone
  own_run : (agent : ℕ) (s u : JointState) (own : List TaskStep) → list_all (of_agent agent) own ≡ true → list_all is_hidden own ≡ true → run (after_step tasks) s own ≡ Some u → without agent u ≡ without agent s
  own_run agent s u [] mine hidden ran = ap (without agent) (sym (same_Some s u (sym (run-none (after_step tasks) s) ∙ ran)))
  own_run agent s u (x ∷ own) mine hidden ran =
      let mines = and_parts (of_agent agent x) (list_all (of_agent agent) own) mine in
      let hiddens = and_parts (is_hidden x) (list_all is_hidden own) hidden in
      let parts = run_parts (after_step tasks) s u x own ran in
      own_run agent parts.0 u own mines.1 hiddens.1 parts.2 ∙ own_step tasks agent s parts.0 x mines.0 (not-true _ hiddens.0) parts.1

  -- closing groups in place of private steps
  pub record IsClosed (n : ℕ) (ts : List AgentTask) (s : JointState) (plan : List TaskStep) : Type 0 where
    pub steps : List TaskStep
    pub reached : JointState
    pub groups : AreClosingGroups tasks ts s steps reached
    pub cheaper : task_cost tasks steps ≤ task_cost tasks plan
    pub publics : reached.publics ≡ s.publics
    pub met : (u : AgentTask) → Contains ts u → is_met u (private_of reached u.me) ≡ true
    pub lower : (a : ℕ) → 1 ≤ a → a < n → private_of reached a ≡ private_of s a

  parts_cost : (agent : ℕ) (plan : List TaskStep) → task_cost tasks (filter (of_agent agent) plan) + task_cost tasks (filter (of_another agent) plan) ≡ task_cost tasks plan
  parts_cost agent plan = sum_by-filter_both (of_agent agent) (of_another agent) (λ x. refl) (step_cost tasks) plan

  -- one agent's group before the others'
  with_group : (n : ℕ) (t : AgentTask) (ts : List AgentTask) (s : JointState) (own others plan : List TaskStep) → 1 ≤ n → t.me ≡ n → task_cost tasks own + task_cost tasks others ≡ task_cost tasks plan → (short : IsShort t s own) → IsClosed (suc n) ts short.reached others → IsClosed n (t ∷ ts) s plan
  with_group n t ts s own others plan from_1 number cost short later =
      let a = plan_cost-append (team_system tasks) short.steps later.steps in
      let b = short.cheaper in
      let c = later.cheaper in
      let mine : private_of later.reached t.me ≡ private_of short.reached t.me = later.lower t.me (omega arith) (omega arith) in
      let first : is_met t (private_of later.reached t.me) ≡ true = ap (is_met t) mine ∙ short.holds in
      record {
        steps = short.steps ++ later.steps;
        reached = later.reached;
        groups = first_agent t ts s short.reached later.reached short.steps later.steps short.group later.groups;
        cheaper = omega arith;
        publics = later.publics ∙ ap (λ (u : JointState). u.publics) short.alike;
        met = λ u here. ⊎_elim (λ e. subst (λ (v : AgentTask). is_met v (private_of later.reached v.me) ≡ true) e first) (λ there. later.met u there) (contains_cases t ts u here);
        lower = λ k above below. later.lower k above (omega arith) ∙ same_private t.me k s short.reached (λ e. absurd (omega arith)) short.alike;
      }

  -- an agent's steps before the others', and of them the shortest beginning alone
  record IsParted (t : AgentTask) (s last : JointState) (plan : List TaskStep) : Type 0 where
    short : IsShort t s (filter (of_agent t.me) plan)
    end : JointState
    runs : run (after_step tasks) short.reached (filter (of_another t.me) plan) ≡ Some end
    alike : without t.me end ≡ without t.me last

  own_first : (agent : ℕ) (s last : JointState) (plan : List TaskStep) → list_all is_hidden plan ≡ true → run (after_step tasks) s plan ≡ Some last → run (after_step tasks) s (filter (of_agent agent) plan ++ filter (of_another agent) plan) ≡ Some last
  own_first agent s last plan hidden ran =
      let may = all_weaker is_hidden (λ x. of_agent agent x || is_hidden x) (λ x h. or_right (of_agent agent x) (is_hidden x) h) plan hidden in
      ap (λ xs. run (after_step tasks) s (filter (of_agent agent) plan ++ xs)) (sym (append-nil (filter (of_another agent) plan)))
      ∙ sym (gathered tasks s agent plan [] may)
      ∙ ap (run (after_step tasks) s) (append-nil plan)
      ∙ ran

  short_alike : (t : AgentTask) (s u : JointState) (own : List TaskStep) (short : IsShort t s own) → list_all (of_agent t.me) own ≡ true → list_all is_hidden own ≡ true → run (after_step tasks) s own ≡ Some u → without t.me short.reached ≡ without t.me u
  short_alike t s u own short mine hidden ran = short.alike ∙ sym (own_run t.me s u own mine hidden ran)

  parted : (t : AgentTask) (s last : JointState) (plan : List TaskStep) → 1 ≤ t.me → list_all is_hidden plan ≡ true → run (after_step tasks) s plan ≡ Some last → is_met t (private_of last t.me) ≡ true → IsParted t s last plan
  parted t s last plan from_1 hidden ran goals =
      let own = filter (of_agent t.me) plan in
      let others = filter (of_another t.me) plan in
      let cut = run_cut (after_step tasks) s last own others (own_first t.me s last plan hidden ran) in
      let own_hidden = passing_keeps (of_agent t.me) is_hidden plan hidden in
      let mine = passing_all (of_agent t.me) plan in
      let not_mine = passing_all (of_another t.me) plan in
      let met_there : is_met t (private_of cut.0 t.me) ≡ true = ap (is_met t) (sym (others_keep tasks t.me from_1 cut.0 last others not_mine cut.2)) ∙ goals in
      let short = shortest t s cut.0 own mine own_hidden cut.1 met_there in
      let again = alike_run tasks t.me from_1 cut.0 last short.reached others not_mine cut.2 (short_alike t s cut.0 own short mine own_hidden cut.1) in
      record { short = short; end = again.end; runs = again.runs; alike = again.alike }

  pub closed : (n : ℕ) (ts : List AgentTask) (s last : JointState) (plan : List TaskStep) → 1 ≤ n → AreNumberedFrom n ts → list_all is_hidden plan ≡ true → run (after_step tasks) s plan ≡ Some last → ((u : AgentTask) → Contains ts u → is_met u (private_of last u.me) ≡ true) → IsClosed n ts s plan
  closed n [] s last plan from_1 numbered hidden ran goals =
      record { steps = []; reached = s; groups = no_agent s; cheaper = zero-le; publics = refl; met = λ u here. absurd (no_member u here); lower = λ k above below. refl }
  closed n (t ∷ ts) s last plan from_1 numbered hidden ran goals =
      let number : t.me ≡ n = numbered.0 in
      let others = filter (of_another t.me) plan in
      let it = parted t s last plan (omega arith) hidden ran (goals t (contains_head t ts)) in
      let later = closed (suc n) ts it.short.reached it.end others (omega arith) numbered.1 (passing_keeps (of_another t.me) is_hidden plan hidden) it.runs (λ u there.
      let high = number_from (suc n) ts u numbered.1 there in
      ap (is_met u) (same_private t.me u.me last it.end (λ e. absurd (omega arith)) it.alike) ∙ goals u (contains_tail t ts u there)) in
      with_group n t ts s (filter (of_agent t.me) plan) others plan from_1 number (parts_cost t.me plan) it.short later
