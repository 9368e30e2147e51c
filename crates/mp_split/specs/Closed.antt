-- What an agent shows of its factor after grounding: its public part (MA-STRIPS, Brafman and Domshlak 2008).
use Rattle.std.specs.Prelude.{ℕ, ◌==◌, Bool, not, List, [], map, filter, slice_index_or}
use Rattle.std.specs.List.{list_all, list_any}
use Rattle.mp_task.specs.declared.act.Act.{Act}
use Rattle.mp_task.specs.Public.{is_public}
use Rattle.mp_joint.specs.Fact.{Text}
use Rattle.mp_views.specs.declared.view.Part.{Part}
use Rattle.mp_views.specs.declared.view.View.{View}
use Rattle.mp_views.specs.Parts.{sorted_parts}
use Rattle.mp_grounder.specs.declared.grounded.Ground.{Ground}

-- the texts at some places of a list
abbrev pub texts_at : List Text → List ℕ → List Text
texts_at table places = map (λ n. slice_index_or table n []) places

abbrev pub is_number_in : List ℕ → ℕ → Bool
is_number_in numbers n = list_any (λ m. m == n) numbers

-- the public part of an own action: a delete that is also an add is left out
abbrev pub part_of : List Text → Act → Part
part_of table act = record {
  cost = act.cost;
  pre = texts_at table act.pre_pub;
  add = texts_at table act.add_pub;
  del = texts_at table (filter (λ n. not (is_number_in act.add_pub n)) act.del_pub);
}

-- the private goals of an agent hold at the start
abbrev pub is_met : Ground → Bool
is_met g = list_all (is_number_in g.start) g.goal_priv

-- what the agent shows: its public facts and goals, whether its private goals hold at the start, and the public parts of
-- its public actions
abbrev pub closed_view : Ground → View
closed_view g = record {
  facts = g.publics;
  goals = texts_at g.publics g.goal_pub;
  met = is_met g;
  acts = sorted_parts (map (part_of g.publics) (filter is_public g.acts));
}
