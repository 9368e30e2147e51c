-- A verdict decides where no agent has anything to expand and no state was under way.
use Rattle.mp_world.proofs.Basics.{◌≡◌, ℕ, zero, suc, ◌+◌, ◌≤◌, Bool, true, false, ◌&&◌, List, [], ◌∷◌, map, Option, Some, None, refl, sym, ap, subst, ◌∙◌, arith, ◌⊎◌, inl, inr, nat_le, not, if◌then◌else◌, slice_get, and_from, eq-eqb, false≢true, leb-false, lt-ltb}
use Rattle.mp_world.proofs.Basics.{ltb-true, none-some, same_Some}
use Rattle.mp_task.proofs.Agreeing.{Contains-slice_get}
use Rattle.mp_world.specs.AgentWords.{Findings, least_of, lesser, by_costs, first_from, is_cost, least_f, least_goal, lowest_agent, proved, spent_or_on, unproved, verdict_of, Proved, NoPlan, Spent, Continue}
use Rattle.mp_world.specs.SearchWords.{is_below_bound}
use Rattle.mp_world.proofs.LocalCases.{not_false}
use Rattle.mp_team_snapshots.proofs.Leasts.{lesser_none}
use Rattle.mp_team_verdicts.proofs.Least.{IsAtMost, least_at_most}
use Rattle.mp_team_verdicts.proofs.Complete.{other_false}

-- Findings of an agent that may not expand: none of its open entries is worth it, or it is spent. No state was counted.
pub record FoundNothingToDo (f : Findings) : Type 0 where
  pub none_counted : f.under_way ≡ None
  pub idle : (not f.spent && is_below_bound f.least f.goal) ≡ false

-- an item of a list with a cost
record HasCost (cost : Findings → Option ℕ) (fs : List Findings) (c : ℕ) : Type 0 where
  place : ℕ
  item : Findings
  there : slice_get fs place ≡ Some item
  is : cost item ≡ Some c

lesser_some : (a b : Option ℕ) (c : ℕ) → lesser a b ≡ Some c → (a ≡ Some c) ⊎ (b ≡ Some c)
lesser_some None b c is = inr is
lesser_some (Some x) None c is = inl is
lesser_some (Some x) (Some y) c is = by (nat_le x y) is
  where
    by : (t : Bool) → (if t then Some x else Some y) ≡ Some c → (Some x ≡ Some c) ⊎ (Some y ≡ Some c)
    by true e = inl e
    by false e = inr e

-- the least cost is that of an item
attained : (cost : Findings → Option ℕ) (fs : List Findings) (c : ℕ) → least_of (map cost fs) ≡ Some c → HasCost cost fs c
attained cost [] c is = absurd (none-some c is)
attained cost (f ∷ fs) c is = by (lesser_some (cost f) (least_of (map cost fs)) c is) (attained cost fs c)
  where
    by : (cost f ≡ Some c) ⊎ (least_of (map cost fs) ≡ Some c) → (least_of (map cost fs) ≡ Some c → HasCost cost fs c)
        → HasCost cost (f ∷ fs) c
    by (inl here) more = record { place = 0; item = f; there = refl; is = here }
    by (inr later) more =
        let x = more later in
        record { place = suc x.place; item = x.item; there = x.there; is = x.is }

-- the number of some agent that passes a test
record IsListed (number : ℕ) (test : Findings → Bool) (fs : List Findings) : Type 0 where
  agent : ℕ
  is : first_from number test fs ≡ Some agent

lowest_there : (test : Findings → Bool) (fs : List Findings) (number k : ℕ) (x : Findings) → slice_get fs k ≡ Some x → test x ≡ true
    → IsListed number test fs
lowest_there test [] number k x there passes = absurd (none-some x there)
lowest_there test (f ∷ fs) number k x there passes =
    by (test f) refl k there (λ k there. lowest_there test fs (number + 1) k x there passes)
  where
    by : (b : Bool) → test f ≡ b → (k : ℕ) → slice_get (f ∷ fs) k ≡ Some x
        → ((k : ℕ) → slice_get fs k ≡ Some x → IsListed (number + 1) test fs)
        → IsListed number test (f ∷ fs)
    by true test_f k there more = record { agent = number; is = rw test_f refl }
    by false test_f zero there more =
        absurd (false≢true (sym test_f ∙ ap test (same_Some f x there) ∙ passes))
    by false test_f (suc k) there more =
        let later = more k there in
        record { agent = later.agent; is = rw test_f later.is }

module _ (fs : List Findings) (all : (k : ℕ) (x : Findings) → slice_get fs k ≡ Some x → FoundNothingToDo x) where
  -- a least goal is proved
  goal_proved : (c : ℕ) → least_goal fs ≡ Some c → proved c (lowest_agent (λ x. is_cost c x.goal) fs) ≡ Continue → ⊥
  goal_proved c least is =
      let x = attained (λ f. f.goal) fs c least in
      let listed = lowest_there (λ f. is_cost c f.goal) fs 1 x.place x.item x.there (ap (is_cost c) x.is ∙ eq-eqb c c refl) in
      let impossible : Proved listed.agent c ≡ Continue = sym (ap (proved c) listed.is) ∙ is in
      cc

  -- the agent of a least entry below all goals is spent
  entry_spent : (f : ℕ) → least_f fs ≡ Some f
      → ((k : ℕ) (x : Findings) → slice_get fs k ≡ Some x → is_below_bound (Some f) x.goal ≡ true)
      → unproved fs f ≡ Continue → ⊥
  entry_spent f least below is =
      let x = attained (λ y. lesser y.least y.under_way) fs f least in
      let nothing = all x.place x.item x.there in
      let own : x.item.least ≡ Some f = sym (lesser_none x.item.least) ∙ ap (lesser x.item.least) (sym nothing.none_counted) ∙ x.is in
      let idle : (is_below_bound x.item.least x.item.goal && not x.item.spent) ≡ false =
      turned (not x.item.spent) (is_below_bound x.item.least x.item.goal) nothing.idle in
      let spent : x.item.spent ≡ true =
      not_false x.item.spent (other_false (is_below_bound x.item.least x.item.goal) (not x.item.spent) idle
      (ap (λ o. is_below_bound o x.item.goal) own ∙ below x.place x.item x.there)) in
      let passes : (x.item.spent && is_cost f x.item.least) ≡ true =
      and_from x.item.spent (is_cost f x.item.least) spent (ap (is_cost f) own ∙ eq-eqb f f refl) in
      let listed = lowest_there (λ y. y.spent && is_cost f y.least) fs 1 x.place x.item x.there passes in
      let impossible : Spent listed.agent ≡ Continue = sym (ap spent_or_on listed.is) ∙ is in
      cc
    where
      turned : (a b : Bool) → (a && b) ≡ false → (b && a) ≡ false
      turned true true is = is
      turned true false is = refl
      turned false true is = refl
      turned false false is = refl

  below_goals : (f : ℕ) (goal : Option ℕ) → least_goal fs ≡ goal → is_below_bound (Some f) goal ≡ true
      → (k : ℕ) (x : Findings) → slice_get fs k ≡ Some x → is_below_bound (Some f) x.goal ≡ true
  below_goals f goal least below k x there = by x.goal refl goal least below
    where
      by : (o : Option ℕ) → x.goal ≡ o → (goal : Option ℕ) → least_goal fs ≡ goal → is_below_bound (Some f) goal ≡ true
          → is_below_bound (Some f) o ≡ true
      by None is goal least below = refl
      by (Some c) is goal least below =
          let most : IsAtMost c (least_goal fs) =
          least_at_most (λ y. y.goal) c fs x (Contains-slice_get fs k x there)
          (subst (IsAtMost c) (sym is) (let same : c ≤ c = omega arith in same)) in
          within goal (subst (IsAtMost c) least most) below
        where
          within : (goal : Option ℕ) → IsAtMost c goal → is_below_bound (Some f) goal ≡ true → is_below_bound (Some f) (Some c) ≡ true
          within None most below = absurd most
          within (Some d) most below =
              let less = ltb-true f d below in
              lt-ltb f c (omega arith)

  -- the verdict is not that the search goes on
  pub decides : verdict_of fs ≡ Continue → ⊥
  decides is = by (least_goal fs) refl (least_f fs) refl is
    where
      by : (goal : Option ℕ) → least_goal fs ≡ goal → (f : Option ℕ) → least_f fs ≡ f → by_costs fs goal f ≡ Continue → ⊥
      by None goal None f is = let impossible : NoPlan ≡ Continue = is in cc
      by None goal (Some x) f is = entry_spent x f (below_goals x None goal refl) is
      by (Some c) goal None f is = goal_proved c goal is
      by (Some c) goal (Some x) f is = either (nat_le c x) refl is
        where
          either : (b : Bool) → nat_le c x ≡ b
              → (if b then proved c (lowest_agent (λ y. is_cost c y.goal) fs) else unproved fs x) ≡ Continue → ⊥
          either true test is = goal_proved c goal is
          either false test is =
              let less = leb-false c x test in
              entry_spent x f (below_goals x (Some c) goal (lt-ltb x c less)) is
