-- The task of an agent from the table of the team's public facts and from what its tasks have in common, and what these
-- have to fulfil.
use Rattle.std.specs.Prelude.{◌≡◌, ℕ, ◌<◌, ◌≤◌, ◌==◌, not, true, List, All, length, map, filter, slice_index_or}
use Rattle.std.specs.Cmp.Lexicographic.{slice_cmp}
use Rattle.std.specs.List.{enumerate_from, flat_map}
use Rattle.std.specs.List.Sorted.{IsStrictlyIncreasing, IsStrictlySortedBy}
use Rattle.std.specs.Ordering.{nat_cmp}
use Rattle.mp_typing.specs.Places.{numbers_where}
use Rattle.mp_joint.specs.Fact.{Text, is_listed}
use Rattle.mp_task.specs.declared.act.Act.{Act}
use Rattle.mp_task.specs.declared.act.Far.{Far}
use Rattle.mp_task.specs.AgentTask.{AgentTask}
use Rattle.mp_task.specs.Limits.{AllLess, FarFits}
use Rattle.mp_views.specs.declared.view.Part.{Part}
use Rattle.mp_views.specs.declared.view.View.{View}
use Rattle.mp_grounder.specs.declared.grounded.Ground.{Ground}
use Rattle.mp_grounder.specs.Limits.{KeepsLimits}
use Rattle.mp_split.specs.declared.common.Common.{Common}
use Rattle.mp_split.specs.TaskOf.{act_in, far_in, is_goal, is_true}

-- the public parts of an agent's actions, by the places of their texts in a table
abbrev pub parts_in : List Text → ℕ × View → List Far
parts_in table (agent, view) = map (far_in table agent) view.acts

-- what the tasks have in common, from the table, the initial facts that are shown, and what each agent shows
abbrev pub common_of : List Text → List Text → List View → Common
common_of table init views = record {
  start = numbers_where 0 (is_true init) table;
  goals = numbers_where 0 (is_goal views) table;
  met = map (λ v. v.met) views;
  parts = flat_map (parts_in table) (enumerate_from 1 views);
}

-- the parts of other agents' actions
abbrev pub of_others : ℕ → List Far → List Far
of_others me parts = filter (λ p. not (p.by == me)) parts

-- an own action, by the numbers at its places
abbrev pub act_at : List ℕ → Act → Act
act_at numbers act = record act {
  pre_pub = map (λ n. slice_index_or numbers n 0) act.pre_pub;
  add_pub = map (λ n. slice_index_or numbers n 0) act.add_pub;
  del_pub = map (λ n. slice_index_or numbers n 0) act.del_pub;
}

-- the number at each place is that place
abbrev pub ArePlaces : List ℕ → Type 0
ArePlaces numbers = (n : ℕ) → n < length numbers → slice_index_or numbers n 0 ≡ n

-- the task of an agent of a team with so many public facts that has these own actions and parts of the others' actions
abbrev pub task_from : ℕ → Common → Ground → List Act → List Far → AgentTask
task_from publics common g acts far = record {
  me = g.me;
  agents = length common.met;
  publics = publics;
  privates = g.privates;
  start_pub = common.start;
  start_priv = g.start;
  goal_pub = common.goals;
  goal_priv = g.goal_priv;
  acts = acts;
  far = far;
  met = common.met;
}

abbrev pub task_with : List Text → Common → Ground → AgentTask
task_with table common g =
    task_from (length table) common g (map (act_in table g.publics) g.acts) (of_others g.me common.parts)

-- texts that a table has, in the order of their bytes, each once
pub record AreOf (table texts : List Text) : Type 0 where
  pub rise : IsStrictlySortedBy (slice_cmp nat_cmp) texts
  pub there : All (λ t. is_listed t table ≡ true) texts

-- the public part of an action has texts of a table, and costs at most 16,000,000
pub record PartFits (table : List Text) (part : Part) : Type 0 where
  pub pre : AreOf table part.pre
  pub add : AreOf table part.add
  pub del : AreOf table part.del
  pub cost : part.cost ≤ 16000000

-- what the agents of a team show fits their table of public facts, and keeps the limits of the program
pub record ShowsFit (table : List Text) (views : List View) : Type 0 where
  pub agents : length views ≤ 16
  pub few : length table ≤ 1048560
  pub rise : IsStrictlySortedBy (slice_cmp nat_cmp) table
  pub parts : All (λ v. All (PartFits table) v.acts) views

-- the numbers of an action's public facts rise
pub record ActRises (act : Act) : Type 0 where
  pub pre : IsStrictlyIncreasing act.pre_pub
  pub add : IsStrictlyIncreasing act.add_pub
  pub del : IsStrictlyIncreasing act.del_pub

-- the grounded factor of an agent of a team of so many has its public facts in the order of their texts, and its numbers are
-- those of facts that it has
pub record IsReady (agents : ℕ) (g : Ground) : Type 0 where
  pub from_1 : 1 ≤ g.me
  pub in_team : g.me ≤ agents
  pub rise : IsStrictlySortedBy (slice_cmp nat_cmp) g.publics
  pub acts : All ActRises g.acts
  pub limits : KeepsLimits g

-- these are the table and what is in common of a team to which the agent of this grounded factor belongs
pub record IsOfTeam (table : List Text) (common : Common) (g : Ground) : Type 0 where
  pub agents : length common.met ≤ 16
  pub few : length table ≤ 1048560
  pub rise : IsStrictlySortedBy (slice_cmp nat_cmp) table
  pub start : AllLess (length table) common.start
  pub goals : AllLess (length table) common.goals
  pub parts : All (FarFits (length common.met) (length table)) common.parts
  pub number_of_others : length (of_others g.me common.parts) ≤ 3000000
  pub publics : AreOf table g.publics
  pub ready : IsReady (length common.met) g
