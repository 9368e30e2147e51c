-- The task of an agent stands for its factor, but for what is public and true at the start.
use Rattle.std.proofs.Common.{◌≡◌, ℕ, ◌+◌, List, map, filter, length, All, Some, None, slice_get, sym, ap, ◌∙◌, subst}
use Rattle.std.proofs.lemmas.List.{length-map}
use Rattle.std.specs.Prelude.{Contains}
use Rattle.mp_forms.specs.declared.factor.Factor.{Factor}
use Rattle.mp_task.specs.AgentTask.{AgentTask}
use Rattle.mp_joint.specs.declared.fact.SignedFact.{SignedFact}
use Rattle.mp_lifting.specs.Texts.{signed_text}
use Rattle.mp_stands.specs.Numbering.{Numbering, AreNumbersOf, AreNumbersFor, privates_of}
use Rattle.mp_stands.specs.Stands.{AreCounted, AreActionsOf, AreTrueAtStart, is_known_to}
use Rattle.mp_stands.specs.Touched.{goals}
use Rattle.mp_stands.proofs.MemberLists.{has_place}
use Rattle.mp_list.proofs.Members.{from_map}
use Rattle.mp_ground_laws.specs.Checked.{IsChecked}
use Rattle.mp_grounder.specs.declared.grounded.Ground.{Ground}
use Rattle.mp_split.specs.TaskOf.{task_of}
use Rattle.mp_split.specs.Team.{AreGrounded, shown_by}
use Rattle.mp_stands.specs.Numbered.{IsNumberingOf}
use Rattle.mp_stands.proofs.Acts.{are_actions}
use Rattle.mp_stands.proofs.Goals.{goal_numbers, private_start}
use Rattle.mp_stands.proofs.Own.{privates_counted}
use Rattle.mp_stands.proofs.Tables.{facts_counted, has_factor, IsPublicOfOne}

pub record StandsForOwn (team : List Factor) (numbering : Numbering) (t : AgentTask) : Type 0 where
  pub publics : t.publics ≡ length numbering.publics
  pub privates : t.privates ≡ length (privates_of numbering t.me)
  pub counted : AreCounted team (Some t.me) (privates_of numbering t.me)
  pub acts : AreActionsOf team numbering t.me t.acts
  pub start_priv : AreTrueAtStart team (privates_of numbering t.me) t.start_priv
  pub goal : AreNumbersFor numbering t.me (filter (is_known_to t.me) (goals team)) t.goal_pub t.goal_priv

module _ (team : List Factor) (grounds : List Ground) (all : All IsChecked team) (are : AreGrounded team grounds) (numbering : Numbering)
    (is : IsNumberingOf team grounds numbering) where
  abbrev pub shown_publics : (x : SignedFact) → Contains numbering.publics x → IsPublicOfOne team grounds all are x
  shown_publics x found = let both = is.public x found in record { public = both.0; counted_by = both.1 }

  pub publics_counted : AreCounted team None numbering.publics
  publics_counted = facts_counted team grounds all are numbering.publics is.texts shown_publics

  one_stands : (place : ℕ) (factor : Factor) (g : Ground) → slice_get team place ≡ Some factor → slice_get grounds place ≡ Some g
      → StandsForOwn team numbering (task_of (shown_by team grounds) g)
  one_stands place factor g at ground_at =
      let own = is.own place factor g at ground_at in
      let grounded = own.grounded in
      let me : place + 1 ≡ g.me = sym grounded.me in
      let t = task_of (shown_by team grounds) g in
      record {
        publics = ap length (sym is.texts) ∙ length-map numbering.publics signed_text;
        privates = grounded.privates ∙ ap length own.privates_are ∙ ap (λ m. length (privates_of numbering m)) me;
        counted =
            subst (λ m. AreCounted team (Some m) (privates_of numbering m)) me
            (subst (AreCounted team (Some (place + 1))) own.privates_are (privates_counted team all place factor g at grounded));
        acts =
            subst (λ m. AreActionsOf team numbering m t.acts) me (are_actions team grounds all are numbering is place factor g at ground_at);
        start_priv =
            subst (λ m. AreTrueAtStart team (privates_of numbering m) g.start) me
            (subst (λ ps. AreTrueAtStart team ps g.start) own.privates_are (private_start team grounds all are place factor g at grounded));
        goal =
            subst (λ m. AreNumbersFor numbering m (filter (is_known_to m) (goals team)) t.goal_pub g.goal_priv) me
            (subst (λ ps. AreNumbersOf numbering.publics ps (filter (is_known_to (place + 1)) (goals team)) t.goal_pub g.goal_priv) own.privates_are
            (goal_numbers team grounds all are numbering.publics is.texts shown_publics place factor g at grounded));
      }

  pub task_stands : (t : AgentTask) → Contains (map (task_of (shown_by team grounds)) grounds) t → StandsForOwn team numbering t
  task_stands t found =
      let from = from_map (task_of (shown_by team grounds)) grounds t found in
      let p = has_place grounds from.0 from.1 in
      let factor = has_factor team grounds p.0 from.0 are.one_each p.1 in
      subst (StandsForOwn team numbering) from.2 (one_stands p.0 factor.0 from.0 factor.1 p.1)
