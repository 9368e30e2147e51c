-- The starts match, and where states match both have goals or neither has.
use Rattle.std.proofs.Common.{◌≡◌, ℕ, zero, suc, ◌-◌, ◌<◌, ◌==◌, List, true, not, ◌&&◌, map, length, eqb, inl, inr, refl, ap, sym, ◌∙◌, subst, arith, get_or, Option, Some}
use Rattle.std.proofs.lemmas.Bool.{and_parts, and_from, eq-eqb}
use Rattle.std.proofs.lemmas.List.{get_or-map}
use Rattle.std.proofs.lemmas.Option.{none-some, same_Some, slice_get_within, slice_get_cases}
use Rattle.std.specs.FinSet as set
use Rattle.std.specs.List.{filter, list_all, list_any, range_with_len}
use Rattle.std.specs.Option.{option_map_or}
use Rattle.std.specs.Prelude.{Contains}
use Rattle.mp_list.proofs.Bools.{same_tests}
use Rattle.mp_list.proofs.Members.{all_at}
use Rattle.mp_sets.specs.Numbers as numbers
use Rattle.mp_sets.specs.Numbers.{Numbers}
use Rattle.mp_forms.specs.declared.factor.Factor.{Factor}
use Rattle.mp_typing.proofs.Passing.{taken_passes, taken_from_passes}
use Rattle.mp_joint.specs.declared.fact.SignedFact.{SignedFact}
use Rattle.mp_joint.specs.Fact.{plain, complement}
use Rattle.mp_joint.specs.FactorContribution.{team_of}
use Rattle.mp_joint.specs.Instance.{State, holds, all_true, none_true}
use Rattle.mp_joint.specs.Plan as joint
use Rattle.mp_joint.specs.Plan.{joint_goal, joint_never}
use Rattle.mp_task.specs.AgentTask.{AgentTask}
use Rattle.mp_task.specs.Met.{is_met}
use Rattle.mp_task.specs.Plan as task
use Rattle.mp_task.specs.Plan.{JointState, task_of, private_of, goals_hold}
use Rattle.mp_task.proofs.Agreeing.{Contains-slice_get, number_at, public_start-at}
use Rattle.mp_task.proofs.JointStates.{start_is_joint}
use Rattle.mp_stands.specs.Numbering.{Numbering, privates_of}
use Rattle.mp_stands.specs.Stands.{AreTrueAtStart, is_known_to, Stands}
use Rattle.mp_stands.specs.Touched.{factor_of, goals}
use Rattle.mp_stands.proofs.MemberLists.{all_from, Decides-number}
use Rattle.mp_stands.proofs.Owners.{IsFactOf, owner_is}
use Rattle.mp_stands.proofs.Counted.{counted_had, goal_had}
use Rattle.mp_stands.proofs.NamedNumbers.{Fits, numbers_hold}
use Rattle.mp_stands.proofs.Signed.{signed_cases, among_plain, among_complement}
use Rattle.mp_stands.proofs.States.{Matches}

-- the task of an agent
pub record HasTask (tasks : List AgentTask) (agent : ℕ) : Type 0 where
  pub task : AgentTask
  pub there : Contains tasks task
  pub me : task.me ≡ agent
  pub is : task_of tasks task.me ≡ Some task

pub task_at : (team : List Factor) (tasks : List AgentTask) (agent : ℕ) (factor : Factor) → map (λ t. t.me) tasks ≡ range_with_len 1 (length tasks) → length tasks ≡ length team → factor_of team agent ≡ Some factor → HasTask tasks agent
task_at team tasks zero factor numbered long at = absurd (none-some factor at)
task_at team tasks (suc k) factor numbered long at =
    let within : k < length tasks = omega (arith, slice_get_within team k factor at, long) in
    elim ((slice_get_cases tasks k).1) [
      | inl found ↦
          let me = number_at tasks numbered k found.0 found.1 found.3 in
          record { task = found.0; there = (k, found.1, found.3); me = me; is = ap (task_of tasks) me ∙ found.2 }
      | inr past ↦ absurd (omega (arith, within, past.0))
    ]

true_at_start : (team : List Factor) (table : List SignedFact) (start : List ℕ) → AreTrueAtStart team table start
    → Fits table (set.from_list start) (holds (joint.joint_start (team_of team)))
true_at_start team table start are = record {
  each = λ n x here.
      set.contains-from_list_nat start n
      ∙ same_tests (list_any (λ y. eqb y n) start) (holds (joint.joint_start (team_of team)) x)
      (λ h.
      let is = (are n).0 ((Decides-number start n).0 h) in
      subst (λ (y : SignedFact). holds (joint.joint_start (team_of team)) y ≡ true) (same_Some is.0 x (sym is.1 ∙ here)) is.2)
      (λ h. (Decides-number start n).1 ((are n).1 (x, here, h)));
}

known : (agent : ℕ) (factor : Factor) (x : SignedFact) → IsFactOf agent factor x.fact → is_known_to agent x ≡ true
known agent factor x of =
    elim (owner_is agent factor x.fact of) [
      | inl public ↦ ap (λ (o : Option ℕ). option_map_or (λ owner. owner == agent) o true) public
      | inr mine ↦ ap (λ (o : Option ℕ). option_map_or (λ owner. owner == agent) o true) mine ∙ eq-eqb agent agent refl
    ]

module _ (team : List Factor) (numbering : Numbering) (tasks : List AgentTask) (stands : Stands team numbering tasks) where
  pub starts_match : Matches team numbering tasks (task.joint_start tasks) (joint.joint_start (team_of team))
  starts_match = record {
    joint = start_is_joint tasks;
    publics = record {
      each = λ n x here.
          let had = counted_had team x ((stands.counted.exact x).0 (Contains-slice_get numbering.publics n x here)).1 in
          let its = task_at team tasks had.has.agent had.has.factor stands.agree.numbered stands.one_each had.has.at in
          let same = public_start-at tasks its.task its.there (λ u there. (stands.agree.alike u its.task there its.there).start_pub) in
          ap (λ (s : Numbers). set.contains s n) same
          ∙ (true_at_start team numbering.publics its.task.start_pub (stands.tasks_stand its.task its.there).start_pub).each n x here;
    };
    privates = λ t there.
        let number = number_at tasks stands.agree.numbered there.0 t there.1 there.2 in
        let place : t.me - 1 ≡ there.0 = omega (arith, number) in
        let start : AgentTask → Numbers = λ u. set.from_list u.start_priv in
        let mine : private_of (task.joint_start tasks) t.me ≡ set.from_list t.start_priv =
        ap (λ k. get_or (map start tasks) k set.empty) place ∙ get_or-map start tasks there.0 t set.empty there.1 ∙ ap start there.2 in
        subst (λ (s : Numbers). Fits (privates_of numbering t.me) s (holds (joint.joint_start (team_of team)))) (sym mine)
        (true_at_start team (privates_of numbering t.me) t.start_priv (stands.tasks_stand t there).start_priv);
    statics = λ agent factor f at of static. refl;
  }

  module _ (state : JointState) (s : State) (m : Matches team numbering tasks state s) where
    -- the goals that a task has a number for
    own_goals : (t : AgentTask) → Contains tasks t
        → (numbers.holds state.publics t.goal_pub && is_met t (private_of state t.me)) ≡ list_all (holds s) (filter (is_known_to t.me) (goals team))
    own_goals t there =
        numbers_hold (holds s) numbering.publics (privates_of numbering t.me) (filter (is_known_to t.me) (goals team)) t.goal_pub t.goal_priv
        state.publics (private_of state t.me) (stands.tasks_stand t there).goal m.publics (m.privates t there)

    all_goals : goals_hold tasks state ≡ true → (x : SignedFact) → Contains (goals team) x → holds s x ≡ true
    all_goals all x here =
        let had = goal_had team x here in
        let its = task_at team tasks had.has.agent had.has.factor stands.agree.numbered stands.one_each had.has.at in
        let t = its.task in
        let is_known : is_known_to t.me x ≡ true = ap (λ n. is_known_to n x) its.me ∙ known had.has.agent had.has.factor x had.has.of in
        all_at (holds s) (filter (is_known_to t.me) (goals team)) x
        (sym (own_goals t its.there) ∙ all_at (λ (u : AgentTask). numbers.holds state.publics u.goal_pub && is_met u (private_of state u.me)) tasks t all its.there)
        (taken_from_passes (is_known_to t.me) (goals team) x here is_known)

    goals_named : joint.is_goal (team_of team) s ≡ true → (x : SignedFact) → Contains (goals team) x → holds s x ≡ true
    goals_named all x here =
        let parts = and_parts (all_true s (joint_goal (team_of team))) (none_true s (joint_never (team_of team))) all in
        elim (signed_cases (joint_goal (team_of team)) (joint_never (team_of team)) x here) [
          | inl found ↦ subst (λ (y : SignedFact). holds s y ≡ true) found.2 (all_at s (joint_goal (team_of team)) found.0 parts.0 found.1)
          | inr found ↦ subst (λ (y : SignedFact). holds s y ≡ true) found.2 (all_at (λ f. not (s f)) (joint_never (team_of team)) found.0 parts.1 found.1)
        ]

    pub same_goals : goals_hold tasks state ≡ joint.is_goal (team_of team) s
    same_goals = same_tests (goals_hold tasks state) (joint.is_goal (team_of team) s)
        (λ all.
        and_from (all_true s (joint_goal (team_of team))) (none_true s (joint_never (team_of team)))
        (all_from s (joint_goal (team_of team)) (λ f here. all_goals all (plain f) (among_plain (joint_goal (team_of team)) (joint_never (team_of team)) f here)))
        (all_from (λ f. not (s f)) (joint_never (team_of team)) (λ f here. all_goals all (complement f) (among_complement (joint_goal (team_of team)) (joint_never (team_of team)) f here))))
        (λ all. all_from (λ (t : AgentTask). numbers.holds state.publics t.goal_pub && is_met t (private_of state t.me)) tasks (λ t there.
        own_goals t there
        ∙ all_from (holds s) (filter (is_known_to t.me) (goals team)) (λ x here. goals_named all x (taken_passes (is_known_to t.me) (goals team) x here).0)))
