-- Plans that are not ordered: where a private step stands before another agent's, and where a closing group goes on.
use Rattle.std.proofs.Common.{◌≡◌, ◌≢◌, ℕ, true, false, not, List, [], ◌∷◌, ◌++◌, Some, refl, sym, ap, ◌∙◌, subst, arith}
use Rattle.std.proofs.lemmas.Bool.{and_parts, false≢true, not-true}
use Rattle.std.proofs.lemmas.Option.{same_Some}
use Rattle.std.specs.FinSet as set
use Rattle.std.specs.List.{list_all}
use Rattle.std.specs.Option.{option_map_or}
use Rattle.mp_sets.proofs.NumbersLemmas.{contains-after}
use Rattle.mp_task.specs.AgentTask.{AgentTask}
use Rattle.mp_task.specs.Met.{is_met}
use Rattle.mp_task.specs.Plan.{JointState, TaskStep, after_act, after_step, joint_start, private_of}
use Rattle.mp_task.specs.Public.{is_public, is_private}
use Rattle.mp_order.specs.Examples.{privately, cook, waiter, cook_and_waiter, washing, resting, collecting, unordered, meal_out}
use Rattle.mp_order.specs.Ordered.{TakesStep, IsBlock, IsClosingGroup, AreClosingGroups, IsOrdered}
use Rattle.mp_order.specs.Ordered.IsBlock.{by_public, by_private}
use Rattle.mp_order.specs.Ordered.IsClosingGroup.{met, unmet}
use Rattle.mp_order.specs.Ordered.AreClosingGroups.{no_agent, first_agent}
use Rattle.mp_order.specs.Ordered.IsOrdered.{closing, block}
use Rattle.mp_order.proofs.Solving.{step_leads}
use Rattle.mp_order.proofs.Swaps.{is_shown}

module _ (tasks : List AgentTask) where
  public_is_shown : (agent : ℕ) (s reached : JointState) (step : TaskStep) → TakesStep tasks agent is_public s step reached → is_shown tasks step ≡ true
  public_is_shown agent s reached step takes = ap (λ o. option_map_or is_public o false) takes.is ∙ takes.kind

  -- the first step of a block is its agent's
  block_agent : (agent : ℕ) (s reached : JointState) (steps later : List TaskStep) (x : TaskStep) (xs : List TaskStep) → IsBlock tasks agent s steps reached → steps ++ later ≡ x ∷ xs → x.agent ≡ agent
  block_agent agent s reached steps later x xs (by_public _ _ step takes) is = let first : step ≡ x = cc in ap (λ (y : TaskStep). y.agent) (sym first) ∙ takes.by
  block_agent agent s reached steps later x xs (by_private _ next _ step others takes rest) is = let first : step ≡ x = cc in ap (λ (y : TaskStep). y.agent) (sym first) ∙ takes.by

  -- after a private one comes another of the same agent
  block_goes_on : (agent : ℕ) (s reached : JointState) (steps later : List TaskStep) (x y : TaskStep) (xs : List TaskStep) → IsBlock tasks agent s steps reached → steps ++ later ≡ x ∷ y ∷ xs → is_shown tasks x ≡ false → x.agent ≡ y.agent
  block_goes_on agent s reached steps later x y xs (by_public _ _ step takes) is hidden =
      let first : step ≡ x = cc in
      absurd (false≢true (sym hidden ∙ ap (is_shown tasks) (sym first) ∙ public_is_shown agent s reached step takes))
  block_goes_on agent s reached steps later x y xs (by_private _ next _ step others takes rest) is hidden =
      let first : step ≡ x = cc in
      let tail : others ++ later ≡ y ∷ xs = cc in
      ap (λ (z : TaskStep). z.agent) (sym first) ∙ takes.by ∙ sym (block_agent agent next reached others later y xs rest tail)

  -- a block has a public step
  no_block : (agent : ℕ) (s reached : JointState) (steps later plan : List TaskStep) → IsBlock tasks agent s steps reached → steps ++ later ≡ plan → list_all (λ x. not (is_shown tasks x)) plan ≡ true → ⊥
  no_block agent s reached steps later [] (by_public _ _ step takes) is hidden = cc
  no_block agent s reached steps later [] (by_private _ next _ step others takes rest) is hidden = cc
  no_block agent s reached steps later (x ∷ xs) (by_public _ _ step takes) is hidden =
      let first : step ≡ x = cc in
      let parts = and_parts (not (is_shown tasks x)) (list_all (λ y. not (is_shown tasks y)) xs) hidden in
      false≢true (sym (not-true _ parts.0) ∙ ap (is_shown tasks) (sym first) ∙ public_is_shown agent s reached step takes)
  no_block agent s reached steps later (x ∷ xs) (by_private _ next _ step others takes rest) is hidden =
      let tail : others ++ later ≡ xs = cc in
      let parts = and_parts (not (is_shown tasks x)) (list_all (λ y. not (is_shown tasks y)) xs) hidden in
      no_block agent next reached others later xs rest tail parts.1

  -- the first step of a closing group is its agent's
  group_agent : (t : AgentTask) (s reached : JointState) (group later : List TaskStep) (x : TaskStep) (xs : List TaskStep) → IsClosingGroup tasks t s group reached → group ++ later ≡ x ∷ xs → is_met t (private_of s t.me) ≡ false → x.agent ≡ t.me
  group_agent t s reached group later x xs (met _ goals) is none = absurd (false≢true (sym none ∙ goals))
  group_agent t s reached group later x xs (unmet _ next _ step others goals takes rest) is none =
      let first : step ≡ x = cc in
      ap (λ (y : TaskStep). y.agent) (sym first) ∙ takes.by

  groups_agent : (t : AgentTask) (ts who : List AgentTask) (s reached : JointState) (plan : List TaskStep) (x : TaskStep) (xs : List TaskStep) → AreClosingGroups tasks who s plan reached → who ≡ t ∷ ts → plan ≡ x ∷ xs → is_met t (private_of s t.me) ≡ false → x.agent ≡ t.me
  groups_agent t ts who s reached plan x xs (no_agent _) is first none = cc
  groups_agent t ts who s reached plan x xs (first_agent u us _ next _ group groups now later) is first none =
      let same : u ≡ t = cc in
      group_agent t s next group groups x xs (subst (λ v. IsClosingGroup tasks v s group next) same now) first none

  -- a group is empty where the goals hold
  group_empty : (t : AgentTask) (s reached : JointState) (group : List TaskStep) → IsClosingGroup tasks t s group reached → is_met t (private_of s t.me) ≡ true → (reached ≡ s) × (group ≡ [])
  group_empty t s reached group (met _ goals) holds = (refl, refl)
  group_empty t s reached group (unmet _ next _ step others goals takes rest) holds = absurd (goals holds)

  -- and it ends after a step that makes them hold
  group_ends : (t : AgentTask) (s s1 reached : JointState) (group later : List TaskStep) (x : TaskStep) (xs : List TaskStep) → IsClosingGroup tasks t s group reached → group ++ later ≡ x ∷ xs → is_met t (private_of s t.me) ≡ false → after_step tasks s x ≡ Some s1 → is_met t (private_of s1 t.me) ≡ true → (reached ≡ s1) × (later ≡ xs)
  group_ends t s s1 reached group later x xs (met _ goals) is none led holds = absurd (false≢true (sym none ∙ goals))
  group_ends t s s1 reached group later x xs (unmet _ next _ step others goals takes rest) is none led holds =
      let first : step ≡ x = cc in
      let tail : others ++ later ≡ xs = cc in
      let same : next ≡ s1 = same_Some next s1 (sym (step_leads tasks t.me is_private s next step takes) ∙ ap (after_step tasks s) first ∙ led) in
      let empty = group_empty t next reached others rest (ap (λ v. is_met t (private_of v t.me)) same ∙ holds) in
      (empty.0 ∙ same, ap (λ ys. ys ++ later) (sym empty.1) ∙ tail)

  groups_end : (t u : AgentTask) (ts who : List AgentTask) (s s1 reached : JointState) (plan : List TaskStep) (x y : TaskStep) (xs : List TaskStep) → AreClosingGroups tasks who s plan reached → who ≡ t ∷ u ∷ ts → plan ≡ x ∷ y ∷ xs → is_met t (private_of s t.me) ≡ false → after_step tasks s x ≡ Some s1 → is_met t (private_of s1 t.me) ≡ true → is_met u (private_of s1 u.me) ≡ false → y.agent ≡ u.me
  groups_end t u ts who s s1 reached plan x y xs (no_agent _) is first none led holds unmet_1 = cc
  groups_end t u ts who s s1 reached plan x y xs (first_agent v vs _ next _ group groups now later) is first none led holds unmet_1 =
      let same : v ≡ t = cc in
      let others : vs ≡ u ∷ ts = cc in
      let ends = group_ends t s s1 next group groups x (y ∷ xs) (subst (λ w. IsClosingGroup tasks w s group next) same now) first none led holds in
      groups_agent u ts vs next reached groups y xs later others ends.1 (ap (λ w. is_met u (private_of w u.me)) ends.0 ∙ unmet_1)

-- a private step stands before one of another agent, and it is not the first agent's, whose private goals don't hold
stands_before : (t : AgentTask) (ts : List AgentTask) (s : JointState) (plan : List TaskStep) (x y : TaskStep) (xs : List TaskStep) → IsOrdered (t ∷ ts) s plan → plan ≡ x ∷ y ∷ xs → is_shown (t ∷ ts) x ≡ false → x.agent ≢ y.agent → is_met t (private_of s t.me) ≡ false → x.agent ≢ t.me → ⊥
stands_before t ts s plan x y xs (closing _ reached _ groups goals) is hidden other none another =
    another (groups_agent (t ∷ ts) t ts (t ∷ ts) s reached plan x (y ∷ xs) groups refl is none)
stands_before t ts s plan x y xs (block agent _ next steps later now rest) is hidden other none another =
    other (block_goes_on (t ∷ ts) agent s next steps later x y xs now is hidden)

pub unordered_is_not : IsOrdered cook_and_waiter (joint_start cook_and_waiter) unordered → ⊥
unordered_is_not it =
    stands_before cook (waiter ∷ []) (joint_start cook_and_waiter) unordered _ _ _ it refl refl (λ e. omega (arith, e)) (simp set.contains-from_list_nat refl) (λ e. omega (arith, e))

pub falling_is_not : IsOrdered cook_and_waiter meal_out (collecting ∷ resting ∷ []) → ⊥
falling_is_not it =
    stands_before cook (waiter ∷ []) meal_out (collecting ∷ resting ∷ []) collecting resting [] it refl refl (λ e. omega (arith, e)) (simp set.contains-from_list_nat refl) (λ e. omega (arith, e))

-- no step is public, and after the first one, which makes the first agent's private goals hold, comes one that is not
-- the second agent's, whose private goals don't hold
goes_on : (t u : AgentTask) (ts : List AgentTask) (s s1 : JointState) (plan : List TaskStep) (x y : TaskStep) (xs : List TaskStep) → IsOrdered (t ∷ u ∷ ts) s plan → plan ≡ x ∷ y ∷ xs → list_all (λ z. not (is_shown (t ∷ u ∷ ts) z)) plan ≡ true → is_met t (private_of s t.me) ≡ false → after_step (t ∷ u ∷ ts) s x ≡ Some s1 → is_met t (private_of s1 t.me) ≡ true → is_met u (private_of s1 u.me) ≡ false → y.agent ≢ u.me → ⊥
goes_on t u ts s s1 plan x y xs (closing _ reached _ groups goals) is hidden none led holds unmet_1 other =
    other (groups_end (t ∷ u ∷ ts) t u ts (t ∷ u ∷ ts) s s1 reached plan x y xs groups refl is none led holds unmet_1)
goes_on t u ts s s1 plan x y xs (block agent _ next steps later now rest) is hidden none led holds unmet_1 other =
    no_block (t ∷ u ∷ ts) agent s next steps later plan now refl hidden

pub longer_is_not : IsOrdered cook_and_waiter meal_out (resting ∷ washing ∷ collecting ∷ []) → ⊥
longer_is_not it =
    goes_on cook waiter [] meal_out (after_act meal_out 1 (privately 1)) (resting ∷ washing ∷ collecting ∷ []) resting washing (collecting ∷ []) it refl refl
    (simp set.contains-from_list_nat refl) refl (simp (contains-after, set.contains-from_list_nat) refl) (simp set.contains-from_list_nat refl) (λ e. omega (arith, e))
