-- The worked teams: which plans solve and what they cost, that the tasks agree, and that they no longer do where a part
-- is missing, doubled, or names another agent.
use Rattle.std.proofs.Common.{◌≡◌, ◌≢◌, ◌≤◌, true, false, List, [], ◌∷◌, length, All, refl, sym, ap, ◌∙◌, ⊎_elim, arith}
use Rattle.std.proofs.lemmas.List.Elements.{All-cons}
use Rattle.std.proofs.lemmas.List.Kept.{AllPairs-cons}
use Rattle.std.specs.FinSet as set
use Rattle.std.specs.List.{Contains, AllPairs}
use Rattle.mp_list.proofs.Members.{contains_head, contains_tail, contains_cases, contains_one}
use Rattle.mp_runs.specs.Run.{run}
use Rattle.mp_runs.specs.System.{IsPlanFrom, plan_cost}
use Rattle.mp_sets.proofs.NumbersLemmas.{contains-after}
use Rattle.mp_sets.proofs.SetLemmas.{contains-numbers_below}
use Rattle.mp_task.specs.declared.act.Far.{Far}
use Rattle.mp_task.specs.AgentTask.{AgentTask}
use Rattle.mp_task.specs.Agreement.{Agree, FitsTeam, SayAlike}
use Rattle.mp_task.specs.Examples.{dropped, lifted, laid, rung, left, right, bell, two, three, careful, hasty}
use Rattle.mp_task.specs.Met.{met_at_start}
use Rattle.mp_task.specs.Plan.{TaskSolves, task_cost}
use Rattle.mp_task.specs.Projected.{projected_state}
use Rattle.mp_task.specs.Seen.{seen_system}
use Rattle.mp_task.proofs.Disagreeing.{has_part, is_due, doubled_part, parts_rise}
use Rattle.mp_task.proofs.FarLists.{parts_in, parts_of_others, others_are_exact}

pub careful_solves : TaskSolves (two (lifted ∷ laid ∷ [])) careful
unfolding run
careful_solves = simp (contains-after, set.contains-from_list_nat) refl

pub careful_costs_4 : task_cost (two (lifted ∷ laid ∷ [])) careful ≡ 4
careful_costs_4 = refl

-- what is not lifted can't be laid
pub hasty_fails : ¬ TaskSolves (two (lifted ∷ laid ∷ [])) hasty
unfolding run
hasty_fails h = simp (contains-after, set.contains-from_list_nat) at h

-- the right one's projected problem: what is dropped is lifted and laid
abbrev right_one : AgentTask
right_one = right 2 (true ∷ true ∷ []) (dropped ∷ [])

abbrev left_one : AgentTask
left_one = left 2 (true ∷ true ∷ []) (lifted ∷ laid ∷ [])

pub seen_by_the_right_one : IsPlanFrom (seen_system right_one) (projected_state right_one (set.from_list []) (set.from_list [])) (2 ∷ 0 ∷ 1 ∷ [])
unfolding run
seen_by_the_right_one = simp (contains-after, set.contains-from_list_nat, contains-numbers_below) refl

pub seen_by_the_right_one_costs_3 : plan_cost (seen_system right_one) (2 ∷ 0 ∷ 1 ∷ []) ≡ 3
seen_by_the_right_one_costs_3 = refl

-- the left one's: for all that it sees, it is laid at once
pub seen_by_the_left_one : IsPlanFrom (seen_system left_one) (projected_state left_one (set.from_list []) (set.from_list (0 ∷ []))) (3 ∷ [])
unfolding run
seen_by_the_left_one = simp (contains-after, set.contains-from_list_nat, contains-numbers_below) refl

-- lists of at most three
no_items : {X : Type 0} (P : X → Type 0) → All P []
no_items P = λ k d h. absurd (omega arith)

one_pair : {X : Type 0} (R : X → X → Type 0) (a : X) → AllPairs R (a ∷ [])
one_pair R a = λ i j d lt within. absurd (omega arith)

pair : {X : Type 0} (R : X → X → Type 0) (a b : X) → R a b → AllPairs R (a ∷ b ∷ [])
pair R a b r = AllPairs-cons R a (b ∷ []) (All-cons (R a) b [] r (no_items (R a))) (one_pair R b)

triple : {X : Type 0} (R : X → X → Type 0) (a b c : X) → R a b → R a c → R b c → AllPairs R (a ∷ b ∷ c ∷ [])
triple R a b c r s t = AllPairs-cons R a (b ∷ c ∷ []) (All-cons (R a) b (c ∷ []) r (All-cons (R a) c [] s (no_items (R a)))) (pair R b c t)

by_differs : (a b : Far) → (a.by ≡ b.by → ⊥) → a ≢ b
by_differs a b ne e = ne (ap (λ p. p.by) e)

lifted-laid : lifted ≢ laid
lifted-laid e = let same = ap (λ p. length p.pre) e in absurd (omega arith)

-- a team whose tasks say the same of the public facts as the first one
alike_to_first : (tasks : List AgentTask) (first : AgentTask) → ((t : AgentTask) → Contains tasks t → SayAlike t first) → (t u : AgentTask) → Contains tasks t → Contains tasks u → SayAlike t u
alike_to_first tasks first each t u here there =
    let a = each t here in
    let b = each u there in
    record { publics = a.publics ∙ sym b.publics; start_pub = a.start_pub ∙ sym b.start_pub; goal_pub = a.goal_pub ∙ sym b.goal_pub }

same_as : (v t first : AgentTask) → v ≡ t → SayAlike v first → SayAlike t first
same_as v t first e say = record {
  publics = ap (λ u. u.publics) (sym e) ∙ say.publics;
  start_pub = ap (λ u. u.start_pub) (sym e) ∙ say.start_pub;
  goal_pub = ap (λ u. u.goal_pub) (sym e) ∙ say.goal_pub;
}

abbrev team_of_two : List AgentTask
team_of_two = two (lifted ∷ laid ∷ [])

left_of_two : FitsTeam team_of_two left_one
unfolding parts_of_others parts_in
left_of_two = record {
  agents = refl;
  met = refl;
  far = record {
    exact = others_are_exact team_of_two 1;
    once = pair (λ a b. a ≢ b) lifted laid lifted-laid;
    by_agent = pair (λ a b. a.by ≤ b.by) lifted laid (omega arith);
  };
}

right_of_two : FitsTeam team_of_two right_one
unfolding parts_of_others parts_in
right_of_two = record {
  agents = refl;
  met = refl;
  far = record {
    exact = others_are_exact team_of_two 2;
    once = one_pair (λ a b. a ≢ b) dropped;
    by_agent = one_pair (λ a b. a.by ≤ b.by) dropped;
  };
}

pub two_agree : Agree (two (lifted ∷ laid ∷ []))
two_agree = record {
  numbered = refl;
  team = All-cons (FitsTeam team_of_two) left_one (right_one ∷ []) left_of_two (All-cons (FitsTeam team_of_two) right_one [] right_of_two (no_items (FitsTeam team_of_two)));
  alike = alike_to_first team_of_two left_one (λ t here.
      ⊎_elim (λ e. same_as left_one t left_one e (record { publics = refl; start_pub = refl; goal_pub = refl }))
      (λ later. same_as right_one t left_one (sym (contains_one right_one t later)) (record { publics = refl; start_pub = refl; goal_pub = refl }))
      (contains_cases left_one (right_one ∷ []) t here));
}

-- the team of three
abbrev team_of_three : List AgentTask
team_of_three = three (lifted ∷ laid ∷ rung ∷ [])

abbrev left_of_three : AgentTask
left_of_three = left 3 (true ∷ true ∷ false ∷ []) (lifted ∷ laid ∷ rung ∷ [])

abbrev right_of_three : AgentTask
right_of_three = right 3 (true ∷ true ∷ false ∷ []) (dropped ∷ rung ∷ [])

abbrev bell_of_three : AgentTask
bell_of_three = bell 3 (true ∷ true ∷ false ∷ []) (dropped ∷ lifted ∷ laid ∷ [])

-- the bell is not rung at the start
met_of_three : met_at_start team_of_three ≡ true ∷ true ∷ false ∷ []
met_of_three = simp set.contains-from_list_nat refl

left_fits_three : FitsTeam team_of_three left_of_three
unfolding parts_of_others parts_in
left_fits_three = record {
  agents = refl;
  met = sym met_of_three;
  far = record {
    exact = others_are_exact team_of_three 1;
    once = triple (λ a b. a ≢ b) lifted laid rung lifted-laid (by_differs lifted rung (λ e. omega (arith, e))) (by_differs laid rung (λ e. omega (arith, e)));
    by_agent = triple (λ a b. a.by ≤ b.by) lifted laid rung (omega arith) (omega arith) (omega arith);
  };
}

right_fits_three : FitsTeam team_of_three right_of_three
unfolding parts_of_others parts_in
right_fits_three = record {
  agents = refl;
  met = sym met_of_three;
  far = record {
    exact = others_are_exact team_of_three 2;
    once = pair (λ a b. a ≢ b) dropped rung (by_differs dropped rung (λ e. omega (arith, e)));
    by_agent = pair (λ a b. a.by ≤ b.by) dropped rung (omega arith);
  };
}

bell_fits_three : FitsTeam team_of_three bell_of_three
unfolding parts_of_others parts_in
bell_fits_three = record {
  agents = refl;
  met = sym met_of_three;
  far = record {
    exact = others_are_exact team_of_three 3;
    once = triple (λ a b. a ≢ b) dropped lifted laid (by_differs dropped lifted (λ e. omega (arith, e))) (by_differs dropped laid (λ e. omega (arith, e))) lifted-laid;
    by_agent = triple (λ a b. a.by ≤ b.by) dropped lifted laid (omega arith) (omega arith) (omega arith);
  };
}

pub three_agree : Agree (three (lifted ∷ laid ∷ rung ∷ []))
three_agree =
    let same : SayAlike left_of_three left_of_three = record { publics = refl; start_pub = refl; goal_pub = refl } in
    let right_same : SayAlike right_of_three left_of_three = record { publics = refl; start_pub = refl; goal_pub = refl } in
    let bell_same : SayAlike bell_of_three left_of_three = record { publics = refl; start_pub = refl; goal_pub = refl } in
    record {
      numbered = refl;
      team =
          All-cons (FitsTeam team_of_three) left_of_three (right_of_three ∷ bell_of_three ∷ []) left_fits_three
          (All-cons (FitsTeam team_of_three) right_of_three (bell_of_three ∷ []) right_fits_three
          (All-cons (FitsTeam team_of_three) bell_of_three [] bell_fits_three (no_items (FitsTeam team_of_three))));
      alike = alike_to_first team_of_three left_of_three (λ t here.
          ⊎_elim (λ e. same_as left_of_three t left_of_three e same)
          (λ later. ⊎_elim (λ e. same_as right_of_three t left_of_three e right_same) (λ last. same_as bell_of_three t left_of_three (sym (contains_one bell_of_three t last)) bell_same) (contains_cases right_of_three (bell_of_three ∷ []) t later))
          (contains_cases left_of_three (right_of_three ∷ bell_of_three ∷ []) t here));
    }

-- Where the left one's parts are others, the tasks do not agree.
left_in_two : (far : List Far) → Contains (two far) (left 2 (true ∷ true ∷ []) far)
left_in_two far = (0, omega arith, refl)

left_in_three : (far : List Far) → Contains (three far) (left 3 (true ∷ true ∷ false ∷ []) far)
left_in_three far = (0, omega arith, refl)

two_have : (far : List Far) (p : Far) → Agree (two far) → (Contains (lifted ∷ laid ∷ []) p → Contains far p) × (Contains far p → Contains (lifted ∷ laid ∷ []) p)
unfolding parts_of_others parts_in
two_have far p agree =
    let here = left_in_two far in
    (has_part (two far) (left 2 (true ∷ true ∷ []) far) p agree here, is_due (two far) (left 2 (true ∷ true ∷ []) far) p agree here)

three_have : (far : List Far) (p : Far) → Agree (three far) → (Contains (lifted ∷ laid ∷ rung ∷ []) p → Contains far p) × (Contains far p → Contains (lifted ∷ laid ∷ rung ∷ []) p)
unfolding parts_of_others parts_in
three_have far p agree =
    let here = left_in_three far in
    (has_part (three far) (left 3 (true ∷ true ∷ false ∷ []) far) p agree here, is_due (three far) (left 3 (true ∷ true ∷ false ∷ []) far) p agree here)

-- a part that is none of some
not_one : (p q : Far) → q ≢ p → Contains (q ∷ []) p → ⊥
not_one p q ne here = ne (sym (contains_one q p here))

not_next : (p q : Far) (ps : List Far) → q ≢ p → (Contains ps p → ⊥) → Contains (q ∷ ps) p → ⊥
not_next p q ps ne none here = ⊎_elim ne none (contains_cases q ps p here)

pub two_without_one : Agree (two (laid ∷ [])) → ⊥
two_without_one agree = not_one lifted laid (λ e. lifted-laid (sym e)) ((two_have (laid ∷ []) lifted agree).0 (contains_head lifted (laid ∷ [])))

pub two_with_one_twice : Agree (two (lifted ∷ laid ∷ laid ∷ [])) → ⊥
two_with_one_twice = doubled_part (two (lifted ∷ laid ∷ laid ∷ [])) (left 2 (true ∷ true ∷ []) (lifted ∷ laid ∷ laid ∷ [])) (lifted ∷ []) [] [] laid (left_in_two (lifted ∷ laid ∷ laid ∷ [])) refl

pub two_with_another_agent : Agree (two (record lifted { by = 1 } ∷ laid ∷ [])) → ⊥
two_with_another_agent agree =
    let p : Far = record lifted { by = 1 } in
    not_next p lifted (laid ∷ []) (by_differs lifted p (λ e. omega (arith, e))) (not_one p laid (by_differs laid p (λ e. omega (arith, e)))) ((two_have (p ∷ laid ∷ []) p agree).1 (contains_head p (laid ∷ [])))

pub three_without_one : Agree (three (lifted ∷ laid ∷ [])) → ⊥
three_without_one agree =
    not_next rung lifted (laid ∷ []) (by_differs lifted rung (λ e. omega (arith, e))) (not_one rung laid (by_differs laid rung (λ e. omega (arith, e))))
    ((three_have (lifted ∷ laid ∷ []) rung agree).0 (contains_tail lifted (laid ∷ rung ∷ []) rung (contains_tail laid (rung ∷ []) rung (contains_head rung []))))

pub three_with_one_twice : Agree (three (lifted ∷ laid ∷ lifted ∷ rung ∷ [])) → ⊥
three_with_one_twice = doubled_part (three (lifted ∷ laid ∷ lifted ∷ rung ∷ [])) (left 3 (true ∷ true ∷ false ∷ []) (lifted ∷ laid ∷ lifted ∷ rung ∷ [])) [] (laid ∷ []) (rung ∷ []) lifted (left_in_three (lifted ∷ laid ∷ lifted ∷ rung ∷ [])) refl

pub three_with_another_agent : Agree (three (lifted ∷ record laid { by = 3 } ∷ rung ∷ [])) → ⊥
three_with_another_agent agree =
    let p : Far = record laid { by = 3 } in
    not_next p lifted (laid ∷ rung ∷ []) (by_differs lifted p (λ e. omega (arith, e)))
    (not_next p laid (rung ∷ []) (by_differs laid p (λ e. omega (arith, e))) (not_one p rung (λ e. let same = ap (λ q. length q.pre) e in omega arith)))
    ((three_have (lifted ∷ p ∷ rung ∷ []) p agree).1 (contains_tail lifted (p ∷ rung ∷ []) p (contains_head p (rung ∷ []))))

-- nor where the agents do not rise, or a delete is left that is an add too
pub three_with_agents_falling : Agree (three (rung ∷ lifted ∷ laid ∷ [])) → ⊥
three_with_agents_falling = parts_rise (three (rung ∷ lifted ∷ laid ∷ [])) (left 3 (true ∷ true ∷ false ∷ []) (rung ∷ lifted ∷ laid ∷ [])) [] [] (laid ∷ []) rung lifted (left_in_three (rung ∷ lifted ∷ laid ∷ [])) refl (omega arith)

pub three_with_an_added_delete : Agree (three (lifted ∷ laid ∷ record rung { del = 0 ∷ 1 ∷ [] } ∷ [])) → ⊥
three_with_an_added_delete agree =
    let p : Far = record rung { del = 0 ∷ 1 ∷ [] } in
    not_next p lifted (laid ∷ rung ∷ []) (by_differs lifted p (λ e. omega (arith, e)))
    (not_next p laid (rung ∷ []) (by_differs laid p (λ e. omega (arith, e))) (not_one p rung (λ e. let same = ap (λ q. length q.del) e in omega arith)))
    ((three_have (lifted ∷ laid ∷ p ∷ []) p agree).1 (contains_tail lifted (laid ∷ p ∷ []) p (contains_tail laid (p ∷ []) p (contains_head p []))))
