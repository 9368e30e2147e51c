-- An own action may be applied where its instance may, and afterwards the states match again.
use Rattle.std.proofs.Common.{◌≡◌, ℕ, ◌-◌, ◌<◌, List, not, ◌&&◌, ◌||◌, eqb, length, inl, inr, ap, sym, ◌∙◌, subst, arith, Option, Some, None}
use Rattle.std.proofs.lemmas.Bool.{cases_eq}
use Rattle.std.proofs.lemmas.List.{get_or-set_same, get_or-set_other, length-set}
use Rattle.std.proofs.lemmas.Option.{none-some}
use Rattle.std.specs.FinSet as set
use Rattle.std.specs.List.{list_any}
use Rattle.std.specs.Prelude.{Contains}
use Rattle.mp_sets.specs.Numbers.{Numbers, after}
use Rattle.mp_sets.proofs.NumbersLemmas.{contains-after}
use Rattle.mp_forms.specs.declared.factor.Factor.{Factor}
use Rattle.mp_joint.specs.declared.fact.SignedFact.{SignedFact}
use Rattle.mp_joint.specs.declared.plan.PlanStep.{PlanStep}
use Rattle.mp_joint.specs.Instance as named
use Rattle.mp_joint.specs.Instance.{Instance, State, holds}
use Rattle.mp_task.specs.declared.act.Act.{Act}
use Rattle.mp_task.specs.AgentTask.{AgentTask}
use Rattle.mp_task.specs.Plan.{JointState, applies, after_act, private_of}
use Rattle.mp_task.proofs.Agreeing.{Contains-slice_get, number_at}
use Rattle.mp_stands.specs.Numbering.{Numbering, AreNumbersOf, privates_of}
use Rattle.mp_stands.specs.Stands.{AreCounted, IsActionOf, Stands}
use Rattle.mp_stands.specs.Touched.{factor_of, needed, added, deleted, IsGrounded}
use Rattle.mp_stands.proofs.Contributed.{IsSound, grounded_is_sound}
use Rattle.mp_stands.proofs.Counted.{counted_had}
use Rattle.mp_stands.proofs.NamedNumbers.{Fits, swapped, Decides-named, numbers_hold}
use Rattle.mp_stands.proofs.States.{Matches, same_needs}
use Rattle.mp_stands.proofs.After.{holds_after, statics_stay, others_stay}

-- an own action of a task stands for an instance of a step
pub record IsOwnAction (team : List Factor) (numbering : Numbering) (tasks : List AgentTask) (t : AgentTask) (act : Act) (step : PlanStep) (factor : Factor) (i : Instance) : Type 0 where
  pub task : Contains tasks t
  pub agent : step.agent ≡ t.me
  pub grounded : IsGrounded team step factor i
  pub action : IsActionOf team numbering factor t.me act i

-- a set after an instance, of a table of one owner beside one of another
fits_after : (team : List Factor) (agent : ℕ) (factor : Factor) (i : Instance) → factor_of team agent ≡ Some factor → IsSound agent factor i
    → (s : State) (owner other : Option ℕ) (table others : List SignedFact) (add other_add del other_del : List ℕ) (old : Numbers)
    → (owner ≡ other → ⊥) → AreCounted team owner table → AreCounted team other others
    → AreNumbersOf table others (added team factor i) add other_add
    → AreNumbersOf table others (deleted team factor i) del other_del
    → Fits table old (holds s) → Fits table (after old del add) (holds (named.after i s))
fits_after team agent factor i at sound s owner other table others add other_add del other_del old differ counted away adds dels fits = record {
  each = λ n x here.
      contains-after old del add n
      ∙ ap (λ b. (b && not (list_any (λ y. eqb y n) del)) || list_any (λ y. eqb y n) add) (fits.each n x here)
      ∙ holds_after team agent factor i at sound s x (counted_had team x ((counted.exact x).0 (Contains-slice_get table n x here)).1)
      (list_any (λ y. eqb y n) add) (list_any (λ y. eqb y n) del)
      (Decides-named team owner other table others (added team factor i) add other_add differ counted away adds n x here)
      (Decides-named team owner other table others (deleted team factor i) del other_del differ counted away dels n x here);
}

module _ (team : List Factor) (numbering : Numbering) (tasks : List AgentTask) (stands : Stands team numbering tasks)
    (t : AgentTask) (act : Act) (step : PlanStep) (factor : Factor) (i : Instance) (own : IsOwnAction team numbering tasks t act step factor i) where
  has_factor : factor_of team t.me ≡ Some factor
  has_factor = ap (factor_of team) (sym own.agent) ∙ own.grounded.factor_is

  is_sound : IsSound t.me factor i
  is_sound = subst (λ n. IsSound n factor i) own.agent (grounded_is_sound team step factor i own.grounded)

  pub both_apply : (numbers : JointState) (s : State) → Matches team numbering tasks numbers s
      → applies act numbers.publics (private_of numbers t.me) ≡ named.applies i s
  both_apply numbers s m =
      numbers_hold (holds s) numbering.publics (privates_of numbering t.me) (needed team factor i) act.pre_pub act.pre_priv numbers.publics (private_of numbers t.me)
      own.action.pre m.publics (m.privates t own.task)
      ∙ same_needs team t.me factor i s has_factor is_sound m.statics own.grounded.suits

  publics_after : (numbers : JointState) (s : State) → Matches team numbering tasks numbers s
      → Fits numbering.publics (after numbers.publics act.del_pub act.add_pub) (holds (named.after i s))
  publics_after numbers s m =
      fits_after team t.me factor i has_factor is_sound s None (Some t.me) numbering.publics (privates_of numbering t.me)
      act.add_pub act.add_priv act.del_pub act.del_priv numbers.publics (none-some t.me) stands.counted (stands.tasks_stand t own.task).counted
      own.action.add own.action.del m.publics

  own_after : (numbers : JointState) (s : State) → Matches team numbering tasks numbers s
      → Fits (privates_of numbering t.me) (after (private_of numbers t.me) act.del_priv act.add_priv) (holds (named.after i s))
  own_after numbers s m =
      fits_after team t.me factor i has_factor is_sound s (Some t.me) None (privates_of numbering t.me) numbering.publics
      act.add_priv act.add_pub act.del_priv act.del_pub (private_of numbers t.me) (λ e. none-some t.me (sym e)) (stands.tasks_stand t own.task).counted stands.counted
      (swapped numbering.publics (privates_of numbering t.me) (added team factor i) act.add_pub act.add_priv own.action.add)
      (swapped numbering.publics (privates_of numbering t.me) (deleted team factor i) act.del_pub act.del_priv own.action.del)
      (m.privates t own.task)

  privates_after : (numbers : JointState) (s : State) → Matches team numbering tasks numbers s → (u : AgentTask) → Contains tasks u
      → Fits (privates_of numbering u.me) (private_of (after_act numbers t.me act) u.me) (holds (named.after i s))
  privates_after numbers s m u there =
      let new = after (private_of numbers t.me) act.del_priv act.add_priv in
      let mine = number_at tasks stands.agree.numbered own.task.0 t own.task.1 own.task.2 in
      let its = number_at tasks stands.agree.numbered there.0 u there.1 there.2 in
      elim (cases_eq u.me t.me) [
        | inl same ↦
            let has_set : t.me - 1 < length numbers.privates = omega (arith, mine, m.joint, own.task.1) in
            let is : private_of (after_act numbers t.me act) t.me ≡ new = get_or-set_same numbers.privates (t.me - 1) new set.empty has_set in
            subst (λ n. Fits (privates_of numbering n) (private_of (after_act numbers t.me act) n) (holds (named.after i s))) (sym same)
            (subst (λ numbers. Fits (privates_of numbering t.me) numbers (holds (named.after i s))) (sym is) (own_after numbers s m))
        | inr another ↦
            let is : private_of (after_act numbers t.me act) u.me ≡ private_of numbers u.me =
            get_or-set_other numbers.privates (t.me - 1) (u.me - 1) new set.empty (λ e. another (omega (arith, mine, its, e))) in
            record {
              each = λ n x here.
                  ap (λ numbers. set.contains numbers n) is ∙ (m.privates u there).each n x here
                  ∙ others_stay team t.me factor i has_factor is_sound s x u.me
                  (((stands.tasks_stand u there).counted.exact x).0 (Contains-slice_get (privates_of numbering u.me) n x here)).0 another;
            }
      ]

  pub matches_after : (numbers : JointState) (s : State) → Matches team numbering tasks numbers s
      → Matches team numbering tasks (after_act numbers t.me act) (named.after i s)
  matches_after numbers s m = record {
    joint = length-set numbers.privates (t.me - 1) (after (private_of numbers t.me) act.del_priv act.add_priv) ∙ m.joint;
    publics = publics_after numbers s m;
    privates = privates_after numbers s m;
    statics = statics_stay team t.me factor i has_factor is_sound s m.statics;
  }
