-- The task of an agent: a function of its own grounded factor and of what all agents show.
use Rattle.std.specs.Prelude.{ℕ, ◌-◌, ◌==◌, Bool, not, List, [], map, length, take, drop, codes, if◌then◌else◌}
use Rattle.std.specs.List.{enumerate_from, flat_map, list_any}
use Rattle.std.specs.Str.{bytes_eq}
use Rattle.mp_typing.specs.Places.{numbers_where}
use Rattle.mp_joint.specs.Fact.{Text, is_listed}
use Rattle.mp_task.specs.declared.act.Act.{Act}
use Rattle.mp_task.specs.declared.act.Far.{Far}
use Rattle.mp_task.specs.AgentTask.{AgentTask}
use Rattle.mp_views.specs.declared.view.Part.{Part}
use Rattle.mp_views.specs.declared.view.View.{View}
use Rattle.mp_views.specs.Sorted.{sorted_once}
use Rattle.mp_grounder.specs.declared.grounded.Ground.{Ground}
use Rattle.mp_grounder.specs.Places.{text_places_in}
use Rattle.mp_split.specs.Closed.{texts_at}

-- what the agents of a team show: their public initial facts together, and what each shows after grounding
pub record Shown : Type 0 where
  pub init : List Text
  pub views : List View

-- The public facts and complements of all agents, in the order of their bytes. Their places are their numbers for all
-- agents alike.
abbrev pub table : Shown → List Text
table shown = sorted_once (flat_map (λ v. v.facts) shown.views)

abbrev pub numbers : Shown → List Text → List ℕ
numbers shown texts = text_places_in (table shown) texts

-- the text of a complement, and the text of the fact whose complement it is
abbrev pub is_complement : Text → Bool
is_complement text = bytes_eq (take 6 text) (codes "(not (")

abbrev pub complemented : Text → Text
complemented text = take (length text - 6) (drop 5 text)

-- a fact is true at the start where an agent shows it, and a complement where no agent shows its fact
abbrev pub is_true : List Text → Text → Bool
is_true init text =
    if is_complement text then not (is_listed (complemented text) init) else is_listed text init

-- some agent has it as a goal
abbrev pub is_goal : List View → Text → Bool
is_goal views text = list_any (λ v. is_listed text v.goals) views

-- an own action, by the places of its public texts in a table
abbrev pub act_in : List Text → List Text → Act → Act
act_in table own act = record act {
  pre_pub = text_places_in table (texts_at own act.pre_pub);
  add_pub = text_places_in table (texts_at own act.add_pub);
  del_pub = text_places_in table (texts_at own act.del_pub);
}

-- with the team's numbers for its public facts
abbrev pub numbered_act : Shown → List Text → Act → Act
numbered_act shown own act = act_in (table shown) own act

-- the public part of an agent's action, by the places of its texts in a table
abbrev pub far_in : List Text → ℕ → Part → Far
far_in table agent part = record {
  by = agent;
  pre = text_places_in table part.pre;
  add = text_places_in table part.add;
  del = text_places_in table part.del;
  cost = part.cost;
}

-- with the team's numbers
abbrev pub far_part : Shown → ℕ → Part → Far
far_part shown agent part = far_in (table shown) agent part

-- what another agent shows of its actions; an agent knows its own ones
abbrev pub parts_for : Shown → ℕ → ℕ × View → List Far
parts_for shown me (agent, view) = if agent == me then [] else map (far_part shown agent) view.acts

abbrev pub task_of : Shown → Ground → AgentTask
task_of shown g = record {
  me = g.me;
  agents = length shown.views;
  publics = length (table shown);
  privates = g.privates;
  start_pub = numbers_where 0 (is_true shown.init) (table shown);
  start_priv = g.start;
  goal_pub = numbers_where 0 (is_goal shown.views) (table shown);
  goal_priv = g.goal_priv;
  acts = map (numbered_act shown g.publics) g.acts;
  far = flat_map (parts_for shown g.me) (enumerate_from 1 shown.views);
  met = map (λ v. v.met) shown.views;
}
