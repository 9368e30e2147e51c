-- The grounded factor of an agent stands for what its files say by names (STRIPS; MA-STRIPS, Brafman and Domshlak 2008).
use Rattle.std.specs.Prelude.{◌≡◌, ℕ, List, map, length}
use Rattle.mp_forms.specs.declared.factor.Factor.{Factor}
use Rattle.mp_joint.specs.declared.fact.SignedFact.{SignedFact}
use Rattle.mp_joint.specs.Fact.{Text}
use Rattle.mp_joint.specs.Grounded.{Setting}
use Rattle.mp_joint.specs.Instance.{holds}
use Rattle.mp_lifting.specs.declared.view.OpenView.{OpenView}
use Rattle.mp_lifting.specs.Views.{setting_of}
use Rattle.mp_typing.specs.Places.{numbers_where}
use Rattle.mp_task.specs.declared.act.Act.{Act}
use Rattle.mp_views.specs.Public.{public_texts}
use Rattle.mp_ground_laws.specs.Counted.{counted_facts, named_goals, signed_cmp}
use Rattle.mp_ground_laws.specs.Grounding.{GroundedInstance, grounded, grounded_instance}
use Rattle.mp_ground_laws.specs.Listing.{IsListing}
use Rattle.mp_ground_laws.specs.Named.{step_of}
use Rattle.mp_grounder.specs.declared.grounded.Ground.{Ground}
use Rattle.mp_grounder.specs.Places.{places_in, public_places_in, is_private}

-- the instances of an agent's factor by names, in the order of the file and then of objects
abbrev pub instances_by_name : ℕ → Factor → Setting → List GroundedInstance
instances_by_name agent factor setting = map (grounded_instance setting) (grounded agent factor setting)

-- an instance with the places of its facts in these lists
abbrev pub act_of : List SignedFact → List Text → GroundedInstance → Act
act_of privates publics i = record {
  pre_pub = public_places_in publics i.pre;
  pre_priv = places_in privates i.pre;
  add_pub = public_places_in publics i.add;
  add_priv = places_in privates i.add;
  del_pub = public_places_in publics i.del;
  del_priv = places_in privates i.del;
  cost = i.cost;
}

-- what an agent knows where it grounds its factor: its own files and what all agents have shown
pub record Known : Type 0 where
  pub me : ℕ
  pub factor : Factor
  pub view : OpenView

abbrev pub setting : Known → Setting
setting k = setting_of k.me k.factor k.view

abbrev pub counted : Known → List SignedFact
counted k = counted_facts k.me k.factor (setting k)

-- A grounded factor is that of what an agent knows. The private facts stand in their order and the public ones in the
-- order of their texts, each once, and exactly those that an instance touches or a goal names; the actions are the
-- instances, one by one.
pub record IsGrounded (k : Known) (g : Ground) : Type 0 where
  pub me : g.me ≡ k.me
  pub private_facts : List SignedFact
  pub listed : IsListing (signed_cmp k.factor) is_private (counted k) private_facts
  pub privates : g.privates ≡ length private_facts
  pub publics : g.publics ≡ public_texts (counted k)
  pub start : g.start ≡ numbers_where 0 (holds (setting k).start) private_facts
  pub goal_pub : g.goal_pub ≡ public_places_in g.publics (named_goals k.me k.factor)
  pub goal_priv : g.goal_priv ≡ places_in private_facts (named_goals k.me k.factor)
  pub acts : g.acts ≡ map (act_of private_facts g.publics) (instances_by_name k.me k.factor (setting k))
  pub steps : map (step_of k.me k.factor) g.steps ≡ map (λ i. i.step) (instances_by_name k.me k.factor (setting k))
