-- The actions of an agent's task stand for its grounded steps.
use Rattle.std.proofs.Common.{◌≡◌, ℕ, ◌+◌, List, [], ◌∷◌, map, length, ◌++◌, All, Some, slice_get, refl, sym, ap, ◌∙◌, subst}
use Rattle.std.proofs.lemmas.List.{length-map}
use Rattle.std.proofs.lemmas.List.Elements.{Contains-append_left, Contains-append_right}
use Rattle.std.proofs.lemmas.Option.{slice_get-map, same_Some}
use Rattle.std.specs.List.{flat_map}
use Rattle.std.specs.Option.{option_map}
use Rattle.std.specs.Prelude.{Contains}
use Rattle.mp_forms.specs.declared.factor.Factor.{Factor}
use Rattle.mp_task.specs.declared.act.Act.{Act}
use Rattle.mp_task.proofs.Agreeing.{Contains-slice_get}
use Rattle.mp_joint.specs.declared.fact.SignedFact.{SignedFact}
use Rattle.mp_joint.specs.declared.plan.PlanStep.{PlanStep}
use Rattle.mp_joint.specs.Grounded.{Setting}
use Rattle.mp_joint.specs.Instance.{Instance}
use Rattle.mp_stands.specs.Numbering.{Numbering, AreNumbersOf, privates_of, steps_of}
use Rattle.mp_stands.specs.Stands.{AreActionsOf, IsActionOf}
use Rattle.mp_stands.specs.Touched as levels
use Rattle.mp_stands.specs.Touched.{factor_of, IsGrounded as IsGroundedStep}
use Rattle.mp_stands.proofs.MemberLists.{mapped}
use Rattle.mp_list.proofs.Members.{to_map, from_map}
use Rattle.mp_ground_laws.specs.Checked.{IsChecked}
use Rattle.mp_ground_laws.specs.Counted.{named_goals, touched_by}
use Rattle.mp_ground_laws.specs.Grounding.{GroundedStep, GroundedInstance, grounded, grounded_instance}
use Rattle.mp_grounder.specs.declared.grounded.Ground.{Ground}
use Rattle.mp_grounder.specs.Grounded.{act_of, counted}
use Rattle.mp_grounder.specs.Places.{places_in, public_places_in}
use Rattle.mp_split.specs.Closed.{texts_at}
use Rattle.mp_split.specs.TaskOf.{numbered_act, numbers}
use Rattle.mp_split.specs.Team.{AreGrounded, known_at, shown_by}
use Rattle.mp_stands.specs.Knowing.{known_setting}
use Rattle.mp_stands.specs.Numbered.{AreOwnNumbers, IsNumberingOf}
use Rattle.mp_stands.proofs.GroundedSteps.{IsAgent, to_team, from_team, same_needed, same_added, same_deleted}
use Rattle.mp_stands.proofs.JoinedLists.{in_parts}
use Rattle.mp_stands.proofs.Made.{itself}
use Rattle.mp_stands.proofs.TaskNumbers.{are_numbers}
use Rattle.mp_stands.proofs.Once.{AreOnce, once_pairs, once_map}
use Rattle.mp_stands.proofs.Own.{agent, checked}
use Rattle.mp_stands.proofs.DistinctSteps.{steps_once}
use Rattle.mp_stands.proofs.Tables.{IsPublicOfOne}

pub map_twice : {X Y Z : Type 0} (f : Y → Z) (g : X → Y) (xs : List X) → map f (map g xs) ≡ map (λ x. f (g x)) xs
map_twice f g [] = refl
map_twice f g (x ∷ xs) = ap (λ ys. f (g x) ∷ ys) (map_twice f g xs)

module _ (team : List Factor) (grounds : List Ground) (all : All IsChecked team) (are : AreGrounded team grounds) (numbering : Numbering)
    (is : IsNumberingOf team grounds numbering)
    (place : ℕ) (factor : Factor) (g : Ground) (at : slice_get team place ≡ Some factor) (ground_at : slice_get grounds place ≡ Some g) where
  abbrev pub own : AreOwnNumbers (known_at team place factor) g (privates_of numbering (place + 1)) (steps_of numbering (place + 1))
  own = is.own place factor g at ground_at

  pub of_publics : (x : SignedFact) → Contains numbering.publics x → IsPublicOfOne team grounds all are x
  of_publics x found = let both = is.public x found in record { public = both.0; counted_by = both.1 }

  abbrev setting : Setting
  setting = known_setting team (place + 1) factor

  abbrev steps : List GroundedStep
  steps = grounded (place + 1) factor setting

  has_agent : IsAgent team (place + 1) factor
  has_agent = record { all = all; at = agent team all place factor g at own.grounded }

  -- ---- the facts of a grounded step are counted

  counts : (s : GroundedStep) → Contains steps s → (x : SignedFact) → Contains (touched_by (grounded_instance setting s)) x
      → Contains (counted (known_at team place factor)) x
  counts s listed x touched =
      let instances = map (grounded_instance setting) steps in
      Contains-append_left (flat_map touched_by instances) (named_goals (place + 1) factor) x
      (in_parts touched_by instances (grounded_instance setting s) x (to_map (grounded_instance setting) steps s listed) touched)

  abbrev shown_texts : List SignedFact → List (List ℕ)
  shown_texts facts = texts_at g.publics (public_places_in g.publics facts)

  have_numbers : (facts others : List SignedFact) → facts ≡ others → ((x : SignedFact) → Contains facts x → Contains (counted (known_at team place factor)) x)
      → AreNumbersOf numbering.publics (privates_of numbering (place + 1)) others (numbers (shown_by team grounds) (shown_texts facts))
      (places_in own.grounded.private_facts facts)
  have_numbers facts others same each =
      subst (λ fs. AreNumbersOf numbering.publics (privates_of numbering (place + 1)) fs (numbers (shown_by team grounds) (shown_texts facts))
      (places_in own.grounded.private_facts facts)) same
      (subst (λ ps. AreNumbersOf numbering.publics ps facts (numbers (shown_by team grounds) (shown_texts facts)) (places_in own.grounded.private_facts facts))
      own.privates_are
      (are_numbers team grounds all are numbering.publics is.texts of_publics place factor g at ground_at own.grounded facts each))

  -- ---- one action

  abbrev act_for : GroundedStep → Act
  act_for s = numbered_act (shown_by team grounds) g.publics (act_of own.grounded.private_facts g.publics (grounded_instance setting s))

  is_action : (s : GroundedStep) → Contains steps s → IsActionOf team numbering factor (place + 1) (act_for s) s.instance
  is_action s listed =
      let i = grounded_instance setting s in
      record {
        pre = have_numbers i.pre (levels.needed team factor s.instance) (same_needed team (place + 1) factor s.instance)
            (λ x found. counts s listed x (Contains-append_left (i.pre ++ i.add) i.del x (Contains-append_left i.pre i.add x found)));
        add = have_numbers i.add (levels.added team factor s.instance) (same_added team (place + 1) factor s.instance)
            (λ x found. counts s listed x (Contains-append_left (i.pre ++ i.add) i.del x (Contains-append_right i.pre i.add x found)));
        del = have_numbers i.del (levels.deleted team factor s.instance) (same_deleted team (place + 1) factor s.instance)
            (λ x found. counts s listed x (Contains-append_right (i.pre ++ i.add) i.del x found));
        cost = refl;
      }

  -- ---- all actions

  pub acts_are : map (numbered_act (shown_by team grounds) g.publics) g.acts ≡ map act_for steps
  acts_are =
      ap (map (numbered_act (shown_by team grounds) g.publics)) own.grounded.acts
      ∙ map_twice (numbered_act (shown_by team grounds) g.publics) (act_of own.grounded.private_facts g.publics) (map (grounded_instance setting) steps)
      ∙ map_twice (λ i. numbered_act (shown_by team grounds) g.publics (act_of own.grounded.private_facts g.publics i)) (grounded_instance setting) steps

  abbrev step_in : GroundedStep → PlanStep
  step_in s = s.step

  steps_are : steps_of numbering (place + 1) ≡ map step_in steps
  steps_are = sym own.steps_are ∙ own.grounded.steps ∙ map_twice (λ (i : GroundedInstance). i.step) (grounded_instance setting) steps

  stand_at : (n : ℕ) (act : Act) (step : PlanStep) → slice_get (map act_for steps) n ≡ Some act → slice_get (map step_in steps) n ≡ Some step
      → (f : Factor) × (i : Instance) × IsGroundedStep team step f i × IsActionOf team numbering f (place + 1) act i
  stand_at n act step act_at step_at =
      let found = mapped step_in (slice_get steps n) step (sym (slice_get-map step_in steps n) ∙ step_at) in
      let s = found.0 in
      let listed = Contains-slice_get steps n s found.1 in
      let made : act_for s ≡ act = same_Some (act_for s) act (sym (slice_get-map act_for steps n ∙ ap (option_map act_for) found.1) ∙ act_at) in (
        factor,
        s.instance,
        subst (λ t. IsGroundedStep team t factor s.instance) found.2 (to_team team (place + 1) factor has_agent s listed).is,
        subst (λ a. IsActionOf team numbering factor (place + 1) a s.instance) made (is_action s listed),
      )

  listed_step : (step : PlanStep) (f : Factor) (i : Instance) → step.agent ≡ place + 1 → IsGroundedStep team step f i → Contains (map step_in steps) step
  listed_step step f i mine h =
      let factors : f ≡ factor = same_Some f factor (sym h.factor_is ∙ ap (factor_of team) mine ∙ has_agent.at) in
      let s : GroundedStep = record { step = step; instance = i } in
      to_map step_in steps s
      (from_team team (place + 1) factor has_agent s (record { mine = mine; is = subst (λ o. IsGroundedStep team step o i) factors h }))

  pub are_actions : AreActionsOf team numbering (place + 1) (map (numbered_act (shown_by team grounds) g.publics) g.acts)
  are_actions =
      let there : steps_of numbering (place + 1) ≡ map step_in steps = steps_are in
      record {
        one_each = ap length steps_are ∙ length-map steps step_in ∙ sym (length-map steps act_for) ∙ ap length (sym acts_are);
        once =
            once_pairs itself (steps_of numbering (place + 1))
            (subst (AreOnce itself) (sym there)
            (once_map itself step_in steps (steps_once (place + 1) factor setting (checked team all place factor g at own.grounded))));
        own = λ step found.
            let from = from_map step_in steps step (subst (λ xs. Contains xs step) there found) in
            ap (λ (t : PlanStep). t.agent) (sym from.2) ∙ (to_team team (place + 1) factor has_agent from.0 from.1).mine;
        all = λ step f i mine h. subst (λ xs. Contains xs step) (sym there) (listed_step step f i mine h);
        stand = λ n act step act_at step_at.
            stand_at n act step (ap (λ xs. slice_get xs n) (sym acts_are) ∙ act_at) (ap (λ xs. slice_get xs n) (sym there) ∙ step_at);
      }
