-- A private action of one agent changes places with any action of another agent.
use Rattle.std.proofs.Common.{◌≡◌, ◌≢◌, ℕ, ◌-◌, Bool, true, false, cond, not, ◌&&◌, ◌||◌, eqb, List, [], ◌∷◌, ◌++◌, Option, Some, None, refl, sym, ap, ◌∙◌, arith}
use Rattle.std.proofs.Math.ListN.{set as set_at}
use Rattle.std.proofs.lemmas.Bool.{and_from, and_parts, eqb-true, not-false, not-true, false≢true}
use Rattle.std.proofs.lemmas.List.{get_or-set_other, nil_from_length, set_comm}
use Rattle.std.specs.FinSet as set
use Rattle.std.specs.List.{filter, list_all}
use Rattle.std.specs.Option.{option_and_then, option_map_or}
use Rattle.mp_runs.specs.Run.{run}
use Rattle.mp_runs.proofs.Runs.{run-append, run-cons, run-more, run-one}
use Rattle.mp_sets.specs.Numbers.{holds, after}
use Rattle.mp_sets.proofs.NumbersLemmas.{after-none}
use Rattle.mp_task.specs.declared.act.Act.{Act}
use Rattle.mp_task.specs.AgentTask.{AgentTask}
use Rattle.mp_task.specs.Plan.{JointState, TaskStep, act_of, private_of, applies, after_act, after_if_applies, after_step}
use Rattle.mp_task.specs.Public.{is_public}
use Rattle.mp_task.proofs.Agreeing.{step_parts}

-- a private action has no public fact
pub record HasNoPublic (act : Act) : Type 0 where
  pub pre : act.pre_pub ≡ []
  pub add : act.add_pub ≡ []
  pub del : act.del_pub ≡ []

pub private_act : (act : Act) → is_public act ≡ false → HasNoPublic act
private_act act hidden =
    let all = and_parts _ _ (not-false _ hidden) in
    let others = and_parts _ _ all.1 in
    record {
      pre = nil_from_length act.pre_pub (eqb-true _ 0 all.0);
      add = nil_from_length act.add_pub (eqb-true _ 0 others.0);
      del = nil_from_length act.del_pub (eqb-true _ 0 others.1);
    }

-- so that it leaves the public facts as they are
pub publics_stay : (s : JointState) (agent : ℕ) (act : Act) → is_public act ≡ false → (after_act s agent act).publics ≡ s.publics
publics_stay s agent act hidden =
    let none = private_act act hidden in
    (λ i. after s.publics (none.del i) (none.add i)) ∙ after-none s.publics

-- and an agent's action leaves the others' private facts as they are
pub private_stays : (s : JointState) (agent other : ℕ) (act : Act) → other - 1 ≢ agent - 1 → private_of (after_act s agent act) other ≡ private_of s other
private_stays s agent other act apart = get_or-set_other s.privates (agent - 1) (other - 1) _ set.empty apart

-- whether a step stands for a public action
abbrev pub is_shown : List AgentTask → TaskStep → Bool
is_shown tasks step = option_map_or is_public (act_of tasks step) false

-- whether it is one of an agent
abbrev pub of_agent : ℕ → TaskStep → Bool
of_agent agent step = eqb step.agent agent

abbrev pub of_another : ℕ → TaskStep → Bool
of_another agent step = not (eqb step.agent agent)

nothing : {A B : Type 0} (o : Option A) → option_and_then {T = A} {U = B} (λ t. None) o ≡ None
nothing None = refl
nothing (Some t) = refl

-- two steps that may be taken in either order
both_ways : {S : Type 0} (p q : Bool) (sx sy u : S) (f g : S → Option S) → f sx ≡ cond q (Some u) None → g sy ≡ cond p (Some u) None → option_and_then f (cond p (Some sx) None) ≡ option_and_then g (cond q (Some sy) None)
both_ways true true sx sy u f g e h = e ∙ sym h
both_ways true false sx sy u f g e h = e
both_ways false true sx sy u f g e h = sym h
both_ways false false sx sy u f g e h = refl

acts_swap : (s : JointState) (i j : ℕ) (a b : Act) → i - 1 ≢ j - 1 → is_public a ≡ false → option_and_then (λ t. after_if_applies t j b) (after_if_applies s i a) ≡ option_and_then (λ t. after_if_applies t i a) (after_if_applies s j b)
acts_swap s i j a b apart hidden =
    let sx = after_act s i a in
    let sy = after_act s j b in
    let none = private_act a hidden in
    let back : j - 1 ≢ i - 1 = λ e. apart (sym e) in
    let pub_x : sx.publics ≡ s.publics = publics_stay s i a hidden in
    let priv_x : private_of sx j ≡ private_of s j = private_stays s i j a back in
    let priv_y : private_of sy i ≡ private_of s i = private_stays s j i b apart in
    let may_b : applies b sx.publics (private_of sx j) ≡ applies b s.publics (private_of s j) = (λ k. applies b (pub_x k) (priv_x k)) in
    let may_a : applies a sy.publics (private_of sy i) ≡ applies a s.publics (private_of s i) =
    (λ k. holds sy.publics (none.pre k) && holds (priv_y k) a.pre_priv) ∙ (λ k. holds s.publics (sym none.pre k) && holds (private_of s i) a.pre_priv) in
    let same_pub : (after_act sx j b).publics ≡ (after_act sy i a).publics = (λ k. after (pub_x k) b.del_pub b.add_pub) ∙ sym (publics_stay sy i a hidden) in
    let same_priv : (after_act sx j b).privates ≡ (after_act sy i a).privates =
    (λ k. set_at sx.privates (j - 1) (after (priv_x k) b.del_priv b.add_priv))
    ∙ set_comm s.privates (i - 1) (j - 1) _ _ apart
    ∙ (λ k. set_at sy.privates (i - 1) (after (sym priv_y k) a.del_priv a.add_priv)) in
    let same : after_act sx j b ≡ after_act sy i a = (λ k. record { publics = same_pub k; privates = same_priv k }) in
    both_ways (applies a s.publics (private_of s i)) (applies b s.publics (private_of s j)) sx sy (after_act sx j b) (λ t. after_if_applies t j b) (λ t. after_if_applies t i a)
    (ap (λ p. cond p (Some (after_act sx j b)) None) may_b)
    (ap (λ p. cond p (Some (after_act sy i a)) None) may_a ∙ ap (λ u. cond (applies a s.publics (private_of s i)) (Some u) None) (sym same))

-- two steps of different agents that stand for actions have different places
pub apart : (tasks : List AgentTask) (x y : TaskStep) (a b : Act) → act_of tasks x ≡ Some a → act_of tasks y ≡ Some b → x.agent ≢ y.agent → x.agent - 1 ≢ y.agent - 1
apart tasks x y a b is_x is_y other same =
    let p = step_parts tasks x a is_x in
    let q = step_parts tasks y b is_y in
    let first = p.agent in
    let second = q.agent in
    other (omega arith)

passing_more : (p : TaskStep → Bool) (x : TaskStep) (passing : List TaskStep) (b : Bool) → p x ≡ b → list_all p passing ≡ true → list_all p (cond b (x ∷ passing) passing) ≡ true
passing_more p x passing true is all = and_from (p x) (list_all p passing) is all
passing_more p x passing false is all = all

pub passing_all : (p : TaskStep → Bool) (xs : List TaskStep) → list_all p (filter p xs) ≡ true
passing_all p [] = refl
passing_all p (x ∷ xs) = passing_more p x (filter p xs) (p x) refl (passing_all p xs)

module _ (tasks : List AgentTask) where
  steps_swap : (s : JointState) (x y : TaskStep) → is_shown tasks x ≡ false → x.agent ≢ y.agent → option_and_then (λ t. after_step tasks t y) (after_step tasks s x) ≡ option_and_then (λ t. after_step tasks t x) (after_step tasks s y)
  steps_swap s x y hidden other = by (act_of tasks x) (act_of tasks y) refl refl
    where
      by : (a b : Option Act) → act_of tasks x ≡ a → act_of tasks y ≡ b → option_and_then (λ t. option_and_then (after_if_applies t y.agent) b) (option_and_then (after_if_applies s x.agent) a) ≡ option_and_then (λ t. option_and_then (after_if_applies t x.agent) a) (option_and_then (after_if_applies s y.agent) b)
      by None None is_x is_y = refl
      by None (Some b) is_x is_y = sym (nothing (after_if_applies s y.agent b))
      by (Some a) None is_x is_y = nothing (after_if_applies s x.agent a)
      by (Some a) (Some b) is_x is_y =
          acts_swap s x.agent y.agent a b (apart tasks x y a b is_x is_y other) (sym (ap (λ o. option_map_or is_public o false) is_x) ∙ hidden)

  abbrev runs : JointState → List TaskStep → Option JointState
  runs s steps = run (after_step tasks) s steps

  pair : (s : JointState) (x y : TaskStep) → runs s (x ∷ y ∷ []) ≡ option_and_then (λ t. after_step tasks t y) (after_step tasks s x)
  pair s x y = run-more (after_step tasks) s (x ∷ []) y ∙ ap (option_and_then (λ t. after_step tasks t y)) (run-one (after_step tasks) s x)

  swap : (s : JointState) (x y : TaskStep) (later : List TaskStep) → is_shown tasks x ≡ false → x.agent ≢ y.agent → runs s (x ∷ y ∷ later) ≡ runs s (y ∷ x ∷ later)
  swap s x y later hidden other =
      run-append (after_step tasks) s (x ∷ y ∷ []) later
      ∙ ap (option_and_then (λ t. runs t later)) (pair s x y ∙ steps_swap s x y hidden other ∙ sym (pair s y x))
      ∙ sym (run-append (after_step tasks) s (y ∷ x ∷ []) later)

  same_later : (s : JointState) (x : TaskStep) (xs ys : List TaskStep) → ((t : JointState) → runs t xs ≡ runs t ys) → runs s (x ∷ xs) ≡ runs s (x ∷ ys)
  same_later s x xs ys each =
      run-cons (after_step tasks) s x xs ∙ (λ i. option_and_then (λ t. each t i) (after_step tasks s x)) ∙ sym (run-cons (after_step tasks) s x ys)

  other_agent : (agent : ℕ) (x y : TaskStep) → of_agent agent x ≡ false → of_agent agent y ≡ true → x.agent ≢ y.agent
  other_agent agent x y ne is same = false≢true (sym ne ∙ ap (λ a. eqb a agent) same ∙ is)

  -- a private step moves behind steps of another agent
  moves_back : (s : JointState) (agent : ℕ) (x : TaskStep) (own later : List TaskStep) → is_shown tasks x ≡ false → of_agent agent x ≡ false → list_all (of_agent agent) own ≡ true → runs s (x ∷ (own ++ later)) ≡ runs s (own ++ x ∷ later)
  moves_back s agent x [] later hidden another all = refl
  moves_back s agent x (y ∷ own) later hidden another all =
      let parts = and_parts (of_agent agent y) (list_all (of_agent agent) own) all in
      swap s x y (own ++ later) hidden (other_agent agent x y another parts.0)
      ∙ same_later s y (x ∷ (own ++ later)) (own ++ x ∷ later) (λ t. moves_back t agent x own later hidden another parts.1)

  -- where the other agents' steps are private, an agent's own may be taken before them
  pub gathered : (s : JointState) (agent : ℕ) (steps later : List TaskStep) → list_all (λ x. of_agent agent x || not (is_shown tasks x)) steps ≡ true → runs s (steps ++ later) ≡ runs s (filter (of_agent agent) steps ++ (filter (of_another agent) steps ++ later))
  gathered s agent [] later all = refl
  gathered s agent (x ∷ steps) later all =
      let parts = and_parts (of_agent agent x || not (is_shown tasks x)) (list_all (λ y. of_agent agent y || not (is_shown tasks y)) steps) all in
      by (of_agent agent x) refl parts.0 (λ t. gathered t agent steps later parts.1)
    where
      by : (b : Bool) → of_agent agent x ≡ b → (b || not (is_shown tasks x)) ≡ true → ((t : JointState) → runs t (steps ++ later) ≡ runs t (filter (of_agent agent) steps ++ (filter (of_another agent) steps ++ later))) → runs s (x ∷ (steps ++ later)) ≡ runs s (cond b (x ∷ filter (of_agent agent) steps) (filter (of_agent agent) steps) ++ (cond (not b) (x ∷ filter (of_another agent) steps) (filter (of_another agent) steps) ++ later))
      by true is any each = same_later s x (steps ++ later) (filter (of_agent agent) steps ++ (filter (of_another agent) steps ++ later)) each
      by false is hidden each =
          same_later s x (steps ++ later) (filter (of_agent agent) steps ++ (filter (of_another agent) steps ++ later)) each
          ∙ moves_back s agent x (filter (of_agent agent) steps) (filter (of_another agent) steps ++ later) (not-true _ hidden) is (passing_all (of_agent agent) steps)
