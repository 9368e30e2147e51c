-- The steps that an agent grounds are the team's grounded steps of that agent.
use Rattle.std.proofs.Common.{◌≡◌, ℕ, true, not, ◌&&◌, ◌||◌, List, map, filter, ◌++◌, All, Some, None, if◌then◌else◌, refl, sym, ap, ◌∙◌, subst}
use Rattle.std.proofs.lemmas.List.Elements.{All-contains}
use Rattle.std.proofs.lemmas.Option.{option_and_then_some, same_Some}
use Rattle.std.proofs.lemmas.Slice.Eq.{bytes_eq-Decides}
use Rattle.std.specs.List.{find}
use Rattle.std.specs.Option.{option_map}
use Rattle.std.specs.Prelude.{Contains, option_and_then}
use Rattle.std.specs.Str.{bytes_eq}
use Rattle.mp_forms.specs.declared.atom_values.Atom.{Atom}
use Rattle.mp_forms.specs.declared.schema_values.Schema.{Schema}
use Rattle.mp_forms.specs.declared.factor.Factor.{Factor}
use Rattle.mp_joint.specs.declared.fact.NamedFact.{NamedFact}
use Rattle.mp_joint.specs.declared.plan.PlanStep.{PlanStep}
use Rattle.mp_joint.specs.Fact.{Text, plain, complement, is_among}
use Rattle.mp_joint.specs.FactorContribution.{privates_of, may_stand_for, instance_with, instance_of_schema, instance_at, factor_contribution, team_of}
use Rattle.mp_joint.specs.Grounded as named
use Rattle.mp_joint.specs.Grounded.{Setting}
use Rattle.mp_joint.specs.Grounding.{asked_atoms, negated_atoms, fact_of, cost_of}
use Rattle.mp_joint.specs.Instance.{Instance}
use Rattle.mp_joint.specs.Plan.{Contribution, contribution_of, instance_of}
use Rattle.mp_stands.specs.Touched as levels
use Rattle.mp_stands.specs.Touched.{factor_of, IsGrounded}
use Rattle.mp_stands.proofs.Contributed.{contribution_is}
use Rattle.mp_stands.proofs.MemberLists.{found_in, chosen, mapped}
use Rattle.mp_list.proofs.Members.{from_flat_map}
use Rattle.mp_stands.proofs.Owners.{factor_in_team}
use Rattle.mp_bindings.specs.Bindings.{product}
use Rattle.mp_ground_laws.specs.Checked.{IsChecked}
use Rattle.mp_ground_laws.specs.Grounding.{GroundedStep, members_by_name, step_with, grounded_at, grounded_of, grounded}
use Rattle.mp_ground_laws.proofs.Parts.{IsAtom, IsSchema, parts_of}
use Rattle.mp_stands.specs.Knowing.{known_setting}
use Rattle.mp_stands.proofs.JoinedLists.{all_same, from_given, in_given, in_parts, found_passes}
use Rattle.mp_stands.proofs.Named.{AreStanding, are_standing, is_choice, atom_declared}
use Rattle.mp_stands.proofs.Once.{distinct_once, found_once}
use Rattle.mp_stands.proofs.Shown.{same_changed, same_negated}
use Rattle.mp_stands.proofs.Starting.{same_start}

-- ---- what the agent knows of predicates is so in the team

pub statics : (team : List Factor) (me : ℕ) (factor : Factor) (p : Text) → (known_setting team me factor).is_static p ≡ (levels.setting_of team factor).is_static p
statics team me factor p = ap not (same_changed p team factor)

pub negateds : (team : List Factor) (me : ℕ) (factor : Factor) (p : Text) → (known_setting team me factor).is_negated p ≡ (levels.setting_of team factor).is_negated p
negateds team me factor p = same_negated p team factor

pub same_needed : (team : List Factor) (me : ℕ) (factor : Factor) (i : Instance) → named.needed (known_setting team me factor) i ≡ levels.needed team factor i
same_needed team me factor i = λ j.
    map plain (filter (λ (f : NamedFact). not (statics team me factor f.predicate j)) i.positive)
    ++ map complement (filter (λ (f : NamedFact). not (statics team me factor f.predicate j)) i.negative)

pub same_added : (team : List Factor) (me : ℕ) (factor : Factor) (i : Instance) → named.added (known_setting team me factor) i ≡ levels.added team factor i
same_added team me factor i = λ j.
    map plain i.add ++ map complement (filter (λ (f : NamedFact). negateds team me factor f.predicate j && not (is_among f i.add)) i.del)

pub same_deleted : (team : List Factor) (me : ℕ) (factor : Factor) (i : Instance) → named.deleted (known_setting team me factor) i ≡ levels.deleted team factor i
same_deleted team me factor i = λ j.
    map plain i.del ++ map complement (filter (λ (f : NamedFact). negateds team me factor f.predicate j) i.add)

-- ---- an instance of an action

pub record IsMade (me : ℕ) (factor : Factor) (schema : Schema) (objects : List Text) (i : Instance) : Type 0 where
  pub may : may_stand_for factor schema.params objects ≡ true
  pub cost : ℕ
  pub is : instance_with me factor schema objects cost ≡ i

made : (me : ℕ) (factor : Factor) (schema : Schema) (objects : List Text) (i : Instance) → instance_of_schema me factor objects schema ≡ Some i
    → IsMade me factor schema objects i
made me factor schema objects i h =
    let cost = cost_of factor.problem.metric factor.problem.values schema.params objects schema.increases in
    let parts = chosen (may_stand_for factor schema.params objects) (option_map (instance_with me factor schema objects) cost) i h in
    let of = mapped (instance_with me factor schema objects) cost i parts.1 in
    record { may = parts.0; cost = of.0; is = of.2 }

-- what is known of an agent of a team of checked factors
pub record IsAgent (team : List Factor) (me : ℕ) (factor : Factor) : Type 0 where
  pub all : All IsChecked team
  pub at : factor_of team me ≡ Some factor

pub is_checked : (team : List Factor) (me : ℕ) (factor : Factor) → IsAgent team me factor → IsChecked factor
is_checked team me factor agent = All-contains IsChecked team factor agent.all (factor_in_team team me factor agent.at)

module _ (team : List Factor) (me : ℕ) (factor : Factor) (agent : IsAgent team me factor) where
  abbrev known : Setting
  known = known_setting team me factor

  abbrev so : Setting
  so = levels.setting_of team factor

  of_schema : (schema : Schema) → Contains factor.domain.schemas schema → IsSchema factor schema
  of_schema schema listed = All-contains (IsSchema factor) factor.domain.schemas schema (parts_of factor (is_checked team me factor agent).no_fault).schemas listed

  module _ (schema : Schema) (objects : List Text) (of : IsSchema factor schema) (stand : AreStanding factor schema.params objects) where
    abbrev fact : Atom → NamedFact
    fact a = fact_of me (privates_of factor) schema.params objects a

    started : (a : Atom) → IsAtom schema.params factor a → known.start (fact a) ≡ so.start (fact a)
    started a is =
        same_start team me factor a.word.name _ agent.all agent.at (is_checked team me factor agent)
        (atom_declared factor schema.params objects a stand is)

    with_suits : (cost : ℕ) → named.suits_start known (instance_with me factor schema objects cost) ≡ named.suits_start so (instance_with me factor schema objects cost)
    with_suits cost =
        let positive = all_same (λ f. not (named.is_static_fact known f) || known.start f) (λ f. not (named.is_static_fact so f) || so.start f) fact
        (IsAtom schema.params factor) (asked_atoms schema.pre)
        (λ a is j. not (statics team me factor a.word.name j) || started a is j) of.pre.asked in
        let negative = all_same (λ f. not (named.is_static_fact known f && known.start f)) (λ f. not (named.is_static_fact so f && so.start f)) fact
        (IsAtom schema.params factor) (negated_atoms schema.pre)
        (λ a is j. not (statics team me factor a.word.name j && started a is j)) of.pre.negated in
        λ j. positive j && negative j

  same_suits : (schema : Schema) (objects : List Text) (i : Instance) → Contains factor.domain.schemas schema → IsMade me factor schema objects i
      → named.suits_start known i ≡ named.suits_start so i
  same_suits schema objects i listed is =
      subst (λ j. named.suits_start known j ≡ named.suits_start so j) is.is
      (with_suits schema objects (of_schema schema listed) (are_standing factor schema.params objects is.may) is.cost)

  -- the instance of a step of the agent
  instance_is : (step : PlanStep) → step.agent ≡ me → instance_of (team_of team) step ≡ instance_at me factor step.action step.args
  instance_is step mine =
      ap (λ n. option_and_then (λ (c : Contribution). c.instance_at step.action step.args) (contribution_of (team_of team) n)) mine
      ∙ ap (option_and_then (λ (c : Contribution). c.instance_at step.action step.args))
      (contribution_is team me ∙ ap (option_map (factor_contribution me)) agent.at)

  found_schema : (schema : Schema) → Contains factor.domain.schemas schema → find (λ (s : Schema). bytes_eq s.word.name schema.word.name) factor.domain.schemas ≡ Some schema
  found_schema schema listed =
      found_once (λ (s : Schema). s.word.name) factor.domain.schemas schema
      (distinct_once (λ (s : Schema). s.word.name) factor.domain.schemas (parts_of factor (is_checked team me factor agent).no_fault).actions) listed

  pub record IsTeams (g : GroundedStep) : Type 0 where
    pub mine : g.step.agent ≡ me
    pub is : IsGrounded team g.step factor g.instance

  -- what the agent grounds, at these objects
  given : (schema : Schema) (objects : List Text) (g : GroundedStep) → Contains factor.domain.schemas schema → grounded_at me factor known schema objects ≡ Some g
      → IsTeams g
  given schema objects g listed h =
      option_and_then_some (step_with known (record { agent = me; action = schema.word.name; args = objects })) (instance_of_schema me factor objects schema) g h (λ i at kept.
      let step : PlanStep = record { agent = me; action = schema.word.name; args = objects } in
      let parts = chosen (named.suits_start known i) (Some (record { step = step; instance = i })) g kept in
      subst IsTeams (same_Some (record { step = step; instance = i }) g parts.1)
      (record {
        mine = refl;
        is = record {
          factor_is = agent.at;
          instance_is = instance_is step refl ∙ ap (option_and_then (instance_of_schema me factor objects)) (found_schema schema listed) ∙ at;
          suits = sym (same_suits schema objects i listed (made me factor schema objects i at)) ∙ parts.0;
        };
      }))

  pub to_team : (g : GroundedStep) → Contains (grounded me factor known) g → IsTeams g
  to_team g found =
      let of = from_flat_map (grounded_of me factor known) factor.domain.schemas g found in
      let at = from_given (grounded_at me factor known of.0) (product (map (members_by_name factor) of.0.params)) g of.2 in
      given of.0 at.0 g of.1 at.2

  pub from_team : (g : GroundedStep) → IsTeams g → Contains (grounded me factor known) g
  from_team g h =
      let i = g.instance in
      let args = g.step.args in
      option_and_then_some (instance_of_schema me factor args) (find (λ (s : Schema). bytes_eq s.word.name g.step.action) factor.domain.schemas) i
      (sym (instance_is g.step h.mine) ∙ h.is.instance_is) (λ schema there at.
      let listed = found_in (λ (s : Schema). bytes_eq s.word.name g.step.action) factor.domain.schemas schema there in
      let called : schema.word.name ≡ g.step.action =
      (bytes_eq-Decides schema.word.name g.step.action).0 (found_passes (λ (s : Schema). bytes_eq s.word.name g.step.action) factor.domain.schemas schema there) in
      let is = made me factor schema args i at in
      let suits : named.suits_start known i ≡ true = same_suits schema args i listed is ∙ h.is.suits in
      let step : PlanStep = record { agent = me; action = schema.word.name; args = args } in
      let same : ◌≡◌ {A = GroundedStep} (record { step = step; instance = i }) g =
      λ j. record { step = record { agent = sym h.mine j; action = called j; args = args }; instance = i } in
      let kept : grounded_at me factor known schema args ≡ Some g =
      ap (option_and_then (step_with known step)) at
      ∙ ap (λ b. if b then Some (record { step = step; instance = i }) else None) suits ∙ ap Some same in
      in_parts (grounded_of me factor known) factor.domain.schemas schema g listed
      (in_given (grounded_at me factor known schema) (product (map (members_by_name factor) schema.params)) args g
      (is_choice factor schema.params args is.may) kept))
