-- What the parts of an ordered plan are, said of their lists of steps.
use Rattle.std.proofs.Common.{◌≡◌, ◌≢◌, ℕ, Bool, true, List, [], ◌∷◌, ◌++◌, All, Some, refl, sym, ap, ◌∙◌, subst, IsTrue, IsSomeAnd}
use Rattle.std.proofs.lemmas.Bool.{and_parts, not-true}
use Rattle.std.proofs.lemmas.List.Elements.{All-cons, All-contains, All-nil}
use Rattle.std.proofs.lemmas.Option.{same_Some}
use Rattle.std.specs.List.{Contains}
use Rattle.mp_runs.specs.Run.{run}
use Rattle.mp_runs.proofs.Runs.{run-none, run_parts}
use Rattle.mp_sets.specs.Numbers.{holds}
use Rattle.mp_task.specs.declared.act.Act.{Act}
use Rattle.mp_task.specs.declared.act.Far.{Far}
use Rattle.mp_task.specs.AgentTask.{AgentTask}
use Rattle.mp_task.specs.Agreement.{FitsTeam, IsTeamMember}
use Rattle.mp_task.specs.Met.{is_met}
use Rattle.mp_task.specs.Plan.{JointState, TaskStep, act_of, after_step, private_of}
use Rattle.mp_task.specs.Public.{is_public, is_private, part_of}
use Rattle.mp_task.proofs.Agreeing.{Contains-slice_get, number_at, step_parts}
use Rattle.mp_order.specs.Ordered.{TakesStep, IsBlock, IsClosingGroup}
use Rattle.mp_order.specs.Ordered.IsBlock.{by_public, by_private}
use Rattle.mp_order.specs.Ordered.IsClosingGroup.{met, unmet}
use Rattle.mp_order.specs.Steps.{IsPrivateStep, ArePrivateThenPublic}
use Rattle.mp_order.proofs.Solving.{step_leads}
use Rattle.mp_order.proofs.Swaps.{publics_stay}

kind_of_step : (tasks : List AgentTask) (agent : ℕ) (passes : Act → Bool) (s reached : JointState) (step : TaskStep) → TakesStep tasks agent passes s step reached → (step.agent ≡ agent) × IsSomeAnd (act_of tasks step) (λ act. IsTrue (passes act))
kind_of_step tasks agent passes s reached step takes = (takes.by, subst (λ o. IsSomeAnd o (λ act. IsTrue (passes act))) (sym takes.is) takes.kind)

module _ (tasks : List AgentTask) where
  pub block_steps : (agent : ℕ) (s reached : JointState) (steps : List TaskStep) → IsBlock tasks agent s steps reached → ArePrivateThenPublic tasks agent steps
  block_steps agent s reached steps (by_public _ _ step takes) =
      record { front = []; last = step; are = refl; privates = All-nil (IsPrivateStep tasks agent); public = kind_of_step tasks agent is_public s reached step takes }
  block_steps agent s reached steps (by_private _ next _ step others takes later) =
      let rest = block_steps agent next reached others later in
      record {
        front = step ∷ rest.front;
        last = rest.last;
        are = ap (λ xs. step ∷ xs) rest.are;
        privates = All-cons (IsPrivateStep tasks agent) step rest.front (kind_of_step tasks agent is_private s next step takes) rest.privates;
        public = rest.public;
      }

  pub group_steps : (t : AgentTask) (s reached : JointState) (steps : List TaskStep) → IsClosingGroup tasks t s steps reached → All (IsPrivateStep tasks t.me) steps
  group_steps t s reached steps (met _ goals) = All-nil (IsPrivateStep tasks t.me)
  group_steps t s reached steps (unmet _ next _ step others goals takes later) =
      All-cons (IsPrivateStep tasks t.me) step others (kind_of_step tasks t.me is_private s next step takes) (group_steps t next reached others later)

  pub group_goals : (t : AgentTask) (s reached : JointState) (steps : List TaskStep) → IsClosingGroup tasks t s steps reached → is_met t (private_of reached t.me) ≡ true
  group_goals t s reached steps (met _ goals) = goals
  group_goals t s reached steps (unmet _ next _ step others goals takes later) = group_goals t next reached others later

  -- a group has no step left where the goals hold
  pub no_fewer : (t : AgentTask) (s reached early : JointState) (steps front later : List TaskStep) → IsClosingGroup tasks t s steps reached → steps ≡ front ++ later → run (after_step tasks) s front ≡ Some early → is_met t (private_of early t.me) ≡ true → later ≡ []
  no_fewer t s reached early steps [] later (met _ goals) is ran holds = sym is
  no_fewer t s reached early steps (x ∷ front) later (met _ goals) is ran holds = absurd (cc)
  no_fewer t s reached early steps [] later (unmet _ next _ step others goals takes rest) is ran holds =
      absurd (goals (ap (λ u. is_met t (private_of u t.me)) (same_Some s early (sym (run-none (after_step tasks) s) ∙ ran)) ∙ holds))
  no_fewer t s reached early steps (x ∷ front) later (unmet _ next _ step others goals takes rest) is ran holds =
      let head : step ≡ x = cc in
      let tail : others ≡ front ++ later = cc in
      let parts = run_parts (after_step tasks) s early x front ran in
      let same : parts.0 ≡ next = same_Some parts.0 next (sym parts.1 ∙ ap (after_step tasks s) (sym head) ∙ step_leads tasks t.me is_private s next step takes) in
      no_fewer t next reached early others front later rest tail (ap (λ u. run (after_step tasks) u front) (sym same) ∙ parts.2) holds

  -- the public action of a block, whose public preconditions hold before the block
  pub record HasPublic (agent : ℕ) (s : JointState) : Type 0 where
    pub step : TaskStep
    pub act : Act
    pub by : step.agent ≡ agent
    pub is : act_of tasks step ≡ Some act
    pub public : is_public act ≡ true
    pub may : holds s.publics act.pre_pub ≡ true

  pub block_public : (agent : ℕ) (s reached : JointState) (steps : List TaskStep) → IsBlock tasks agent s steps reached → HasPublic agent s
  block_public agent s reached steps (by_public _ _ step takes) =
      record { step = step; act = takes.act; by = takes.by; is = takes.is; public = takes.kind; may = (and_parts (holds s.publics takes.act.pre_pub) (holds (private_of s agent) takes.act.pre_priv) takes.may).0 }
  block_public agent s reached steps (by_private _ next _ step others takes later) =
      let rest = block_public agent next reached others later in
      let same : next.publics ≡ s.publics = ap (λ (u : JointState). u.publics) takes.leads ∙ publics_stay s agent takes.act (not-true _ takes.kind) in
      record { step = rest.step; act = rest.act; by = rest.by; is = rest.is; public = rest.public; may = ap (λ p. holds p rest.act.pre_pub) (sym same) ∙ rest.may }

  -- which is known to each other agent
  pub known_to_others : (agent : ℕ) (t : AgentTask) (s reached : JointState) (steps : List TaskStep) → IsTeamMember tasks t → t.me ≢ agent → IsBlock tasks agent s steps reached → (part : Far) × Contains t.far part × (part.by ≡ agent) × (holds s.publics part.pre ≡ true)
  known_to_others agent t s reached steps member other is_block =
      let it = block_public agent s reached steps is_block in
      let of = step_parts tasks it.step it.act it.is in
      let u = of.task in
      let number : u.me ≡ agent = number_at tasks member.agree.numbered of.place u of.within of.is ∙ sym of.agent ∙ it.by in
      let part = part_of agent it.act in
      let among : Contains t.far part = ((All-contains (FitsTeam tasks) tasks t member.agree.team member.in_team).far.exact part).1 (record {
        other = u;
        in_team = (of.place, of.within, of.is);
        another = λ e. other (sym e ∙ number);
        act = it.act;
        own = Contains-slice_get u.acts it.step.action it.act of.own;
        public = it.public;
        is = ap (λ a. part_of a it.act) (sym number);
      }) in
      (part, among, refl, it.may)
