-- One step of one agent: what its factor in numbers says, and what that says by names.
use Rattle.std.proofs.Common.{◌≡◌, ℕ, suc, ◌+◌, ◌≤◌, Bool, true, false, cond, not, ◌||◌, ◌&&◌, List, [], ◌∷◌, ◌++◌, map, length, All, Option, Some, None, if◌then◌else◌, refl, sym, ap, subst, ◌∙◌, arith, inl, inr}
use Rattle.std.specs.List.{position_from, find, flat_map}
use Rattle.std.specs.Option.{option_map, option_map_or}
use Rattle.std.specs.Prelude.{slice_get, option_and_then, Result, Ok, Err, IfOk, IfSome}
use Rattle.std.specs.Str.{bytes_eq}
use Rattle.std.proofs.lemmas.Bool.{cases_Bool}
use Rattle.std.proofs.lemmas.List.{length-map}
use Rattle.std.proofs.lemmas.Option.{same_Some, none-some, slice_get-map, slice_get_within, get_or_from_slice_get}
use Rattle.mp_forms.specs.Limits.{SchemaFits, ProblemFits, names_of_atom}
use Rattle.mp_forms.specs.declared.typed_values.Typed.{Typed}
use Rattle.mp_forms.specs.declared.schema_values.Schema.{Schema}
use Rattle.mp_forms.specs.declared.factor.Factor.{Factor}
use Rattle.mp_sexp.specs.Numbers.{place_in}
use Rattle.mp_sexp.proofs.Places.{is_name}
use Rattle.mp_joint.specs.declared.plan.PlanStep.{PlanStep}
use Rattle.mp_joint.specs.declared.fact.SignedFact.{SignedFact}
use Rattle.mp_joint.specs.Fact.{Text}
use Rattle.mp_joint.specs.FactorContribution.{privates_of, declared_objects, may_stand_for, instance_with, instance_of_schema, instance_at}
use Rattle.mp_joint.specs.Grounding.{cost_of}
use Rattle.mp_joint.specs.Instance.{Instance, State}
use Rattle.mp_lifting.specs.Vocabulary.{declared_names}
use Rattle.mp_plan_verdict.specs.Written.{signed_facts, asked_at}
use Rattle.mp_checker.specs.declared.fact.FactNumbers.{FactNumbers}
use Rattle.mp_checker.specs.declared.factor.AgentFactor.TheInside.{Inside}
use Rattle.mp_checker.specs.declared.numbered.NumberedAction.{NumberedAction}
use Rattle.mp_checker.specs.declared.numbered.ObjectNumber.{ObjectNumber}
use Rattle.mp_checker.specs.AgentFields.{agent_view, IsNumbered}
use Rattle.mp_checker.specs.AgentView.{AgentView, Covers, AreKnown, names_of, agent_of, factor_of}
use Rattle.mp_checker.specs.At.{fact_at, is_true, is_one_of, named_state}
use Rattle.mp_checker.specs.Costs.{HasValues, cost_at}
use Rattle.mp_checker.specs.Numbering.{object_number, member_flags, numbered_action}
use Rattle.mp_lifting.specs.Privates.{private_in}
use Rattle.mp_checker.specs.Standing.{are_flagged, numbers_at}
use Rattle.mp_checker.specs.Taken.{IsBound, IsFailing, IsDone, failing}
use Rattle.mp_checker.specs.Words.{names_of_schema, names_of_value, names_of_factor}
use Rattle.mp_checker.proofs.CoversLemmas.{covers_left, covers_right}
use Rattle.mp_checker.proofs.CostLemmas.{cost_is, cost_small}
use Rattle.mp_checker.proofs.FailingLemmas.{state_after}
use Rattle.mp_checker.proofs.StandingLemmas.{all_flagged, all_there, as_many, numbers_are, known_in_team}

-- ---- what is kept, of what contracts see

pub record HasNumbers (v : AgentView) (f : Inside) : Type 0 where
  pub covers : Covers (names_of v) (names_of_factor (factor_of v))
  pub privates : private_in f.privates ≡ privates_of (factor_of v)
  pub objects : f.objects ≡ declared_names (declared_objects (factor_of v))
  pub numbers : f.numbers ≡ map (object_number (names_of v) (privates_of (factor_of v))) f.objects
  pub action_names : f.action_names ≡ map (λ (s : Schema). s.word.name) (factor_of v).domain.schemas
  pub actions : f.actions ≡ map (numbered_action (names_of v) (factor_of v)) (factor_of v).domain.schemas
  pub values : HasValues (names_of v) f.values.entries (factor_of v).problem.values

pub has_numbers : (f : Inside) (v : AgentView) → agent_view f ≡ v → IsNumbered f → HasNumbers v f
has_numbers f v is n =
    subst (λ w. HasNumbers w f) is (record {
      covers = n.covers;
      privates = n.privates;
      objects = n.objects;
      numbers = n.numbers;
      action_names = n.action_names;
      actions = n.actions;
      values = n.values;
    })

abbrev objects_of_factor : Factor → List Text
objects_of_factor factor = map (λ (o : Typed). o.word.name) factor.domain.constants ++ map (λ (o : Typed). o.word.name) factor.problem.objects

pub schemas_covered : (names : List Text) (factor : Factor) → Covers names (names_of_factor factor) → Covers names (flat_map names_of_schema factor.domain.schemas)
schemas_covered names factor c =
    let schemas = objects_of_factor factor ++ flat_map names_of_schema factor.domain.schemas in
    let init = schemas ++ flat_map names_of_atom factor.problem.init in
    covers_right names (objects_of_factor factor) (flat_map names_of_schema factor.domain.schemas)
    (covers_left names schemas (flat_map names_of_atom factor.problem.init)
    (covers_left names init (flat_map names_of_value factor.problem.values) c))

values_covered : (names : List Text) (factor : Factor) → Covers names (names_of_factor factor) → Covers names (flat_map names_of_value factor.problem.values)
values_covered names factor c =
    covers_right names (objects_of_factor factor ++ flat_map names_of_schema factor.domain.schemas ++ flat_map names_of_atom factor.problem.init)
    (flat_map names_of_value factor.problem.values) c

-- ---- results and options

pub if_ok : {A E : Type 0} (P Q : A → Type 0) (r : Result A E) → ((x : A) → P x → Q x) → IfOk r P → IfOk r Q
if_ok P Q (Ok x) f h = f x h
if_ok P Q (Err e) f h = tt

pub if_some : (P : ℕ → Type 0) (o : Option ℕ) → ((n : ℕ) → o ≡ Some n → P n) → IfSome o P
if_some P None f = tt
if_some P (Some n) f = f n refl

-- ---- an action by its name

named_none : (name : Text) (schemas : List Schema) (n : ℕ) → position_from (is_name name) n (map (λ (s : Schema). s.word.name) schemas) ≡ None
    → find (λ (s : Schema). bytes_eq s.word.name name) schemas ≡ None
named_none name [] n h = refl
named_none name (s ∷ ss) n h =
    elim (cases_Bool (bytes_eq s.word.name name)) [
      | inl same ↦
          let no = sym h ∙ ap (λ b. cond b (Some n) (position_from (is_name name) (n + 1) (map (λ (s : Schema). s.word.name) ss))) same in
          absurd (none-some n no)
      | inr other ↦
          rw other (named_none name ss (n + 1)
          (sym (ap (λ b. cond b (Some n) (position_from (is_name name) (n + 1) (map (λ (s : Schema). s.word.name) ss))) other) ∙ h))
    ]

pub record IsNamed (name : Text) (schemas : List Schema) (from place : ℕ) : Type 0 where
  pub behind : ℕ
  pub schema : Schema
  pub is : place ≡ from + behind
  pub at : slice_get schemas behind ≡ Some schema
  pub first : find (λ (s : Schema). bytes_eq s.word.name name) schemas ≡ Some schema

named_some : (name : Text) (schemas : List Schema) (n place : ℕ) → position_from (is_name name) n (map (λ (s : Schema). s.word.name) schemas) ≡ Some place
    → IsNamed name schemas n place
named_some name [] n place h = absurd (none-some place h)
named_some name (s ∷ ss) n place h =
    elim (cases_Bool (bytes_eq s.word.name name)) [
      | inl same ↦
          let e = same_Some n place (sym (ap (λ b. cond b (Some n) (position_from (is_name name) (n + 1) (map (λ (t : Schema). t.word.name) ss))) same) ∙ h) in
          let here = ap (λ b. cond b (Some s) (find (λ (t : Schema). bytes_eq t.word.name name) ss)) same in
          record { behind = 0; schema = s; is = omega (arith, e); at = refl; first = here }
      | inr other ↦
          let r = named_some name ss (n + 1) place
          (sym (ap (λ b. cond b (Some n) (position_from (is_name name) (n + 1) (map (λ (t : Schema). t.word.name) ss))) other) ∙ h) in
          let e = r.is in
          let next = ap (λ b. cond b (Some s) (find (λ (t : Schema). bytes_eq t.word.name name) ss)) other ∙ r.first in
          record { behind = suc r.behind; schema = r.schema; is = omega (arith, e); at = r.at; first = next }
    ]

pub no_such_action : (factor : Factor) (action_names : List Text) (name : Text) → action_names ≡ map (λ (s : Schema). s.word.name) factor.domain.schemas
    → place_in action_names name ≡ None → find (λ (s : Schema). bytes_eq s.word.name name) factor.domain.schemas ≡ None
no_such_action factor action_names name are h = named_none name factor.domain.schemas 0 (ap (λ ns. place_in ns name) (sym are) ∙ h)

pub an_action : (factor : Factor) (action_names : List Text) (name : Text) (place : ℕ) → action_names ≡ map (λ (s : Schema). s.word.name) factor.domain.schemas
    → place_in action_names name ≡ Some place → IsNamed name factor.domain.schemas 0 place
an_action factor action_names name place are h = named_some name factor.domain.schemas 0 place (ap (λ ns. place_in ns name) (sym are) ∙ h)

pub stands_there : (name : Text) (schemas : List Schema) (place : ℕ) (n : IsNamed name schemas 0 place) → slice_get schemas place ≡ Some n.schema
stands_there name schemas place n =
    let e : place ≡ n.behind = let i = n.is in omega (arith, i) in
    ap (slice_get schemas) e ∙ n.at

-- of the schema at that place
pub is_found : (name : Text) (schemas : List Schema) (place : ℕ) (s : Schema) → IsNamed name schemas 0 place → slice_get schemas place ≡ Some s
    → find (λ (t : Schema). bytes_eq t.word.name name) schemas ≡ Some s
is_found name schemas place s n at =
    n.first ∙ ap Some (same_Some n.schema s (sym (stands_there name schemas place n) ∙ at))

pub fits_there : (schemas : List Schema) (place : ℕ) (s : Schema) → All SchemaFits schemas → slice_get schemas place ≡ Some s → SchemaFits s
fits_there schemas place s all at = subst SchemaFits (get_or_from_slice_get schemas place s s at) (all place s (slice_get_within schemas place s at))

pub action_there : (names : List Text) (factor : Factor) (actions : List NumberedAction) (place : ℕ) (s : Schema) (a : NumberedAction)
    → actions ≡ map (numbered_action names factor) factor.domain.schemas → slice_get factor.domain.schemas place ≡ Some s → slice_get actions place ≡ Some a
    → a ≡ numbered_action names factor s
action_there names factor actions place s a are at here =
    same_Some a (numbered_action names factor s)
    (sym here ∙ ap (λ (as' : List NumberedAction). slice_get as' place) are
    ∙ slice_get-map (numbered_action names factor) factor.domain.schemas place ∙ ap (option_map (numbered_action names factor)) at)

pub action_not_past : (names : List Text) (factor : Factor) (actions : List NumberedAction) (place : ℕ) (s : Schema)
    → actions ≡ map (numbered_action names factor) factor.domain.schemas → slice_get factor.domain.schemas place ≡ Some s → slice_get actions place ≡ None → ⊥
action_not_past names factor actions place s are at none =
    none-some (numbered_action names factor s)
    (sym none ∙ ap (λ (as' : List NumberedAction). slice_get as' place) are
    ∙ slice_get-map (numbered_action names factor) factor.domain.schemas place ∙ ap (option_map (numbered_action names factor)) at)

-- ---- what an instance costs

abbrev costs : Option Instance → Option ℕ
costs o = option_map (λ (i : Instance). i.cost) o

pub stands : (v : AgentView) (f : Inside) (schema : Schema) (objects : List Text) (members : List (List Bool)) (answer : Bool) → HasNumbers v f
    → members ≡ map (member_flags (factor_of v)) schema.params → answer ≡ are_flagged f.objects members objects
    → answer ≡ may_stand_for (factor_of v) schema.params objects
stands v f schema objects members answer n are is =
    is ∙ (λ i. are_flagged (n.objects i) (are i) objects) ∙ all_flagged (factor_of v) schema.params objects

pub no_instance : (v : AgentView) (schema : Schema) (objects : List Text) (answer : Bool) → answer ≡ may_stand_for (factor_of v) schema.params objects → answer ≡ false
    → None ≡ costs (instance_of_schema (agent_of v) (factor_of v) objects schema)
no_instance v schema objects answer is fails =
    let cost = cost_of (factor_of v).problem.metric (factor_of v).problem.values schema.params objects schema.increases in
    sym (ap (λ b. costs (if b then option_map (instance_with (agent_of v) (factor_of v) schema objects) cost else None)) (sym is ∙ fails))

own_cost : (agent : ℕ) (factor : Factor) (schema : Schema) (objects : List Text) (o : Option ℕ) → costs (option_map (instance_with agent factor schema objects) o) ≡ o
own_cost agent factor schema objects None = refl
own_cost agent factor schema objects (Some c) = refl

-- what the objects are in numbers
pub bound_by : (v : AgentView) (f : Inside) (schema : Schema) (objects : List Text) (members : List (List Bool)) (args : List ObjectNumber) → HasNumbers v f
    → members ≡ map (member_flags (factor_of v)) schema.params → are_flagged f.objects members objects ≡ true → args ≡ numbers_at f.objects f.numbers objects
    → IsBound (names_of v) (factor_of v) schema.params objects args
bound_by v f schema objects members args n are flagged given =
    let number = object_number (names_of v) (privates_of (factor_of v)) in
    let there = all_there f.objects members objects flagged in
    record {
      long = as_many f.objects members objects flagged ∙ ap length are ∙ length-map schema.params (member_flags (factor_of v));
      are = given ∙ ap (λ ns. numbers_at f.objects ns objects) n.numbers ∙ numbers_are f.objects number objects there;
      known = known_in_team (names_of v) (factor_of v) objects n.covers (subst (λ os. AreKnown os objects) n.objects there);
    }

pub instance_costs : (v : AgentView) (f : Inside) (schema : Schema) (objects : List Text) (action : NumberedAction) (args : List ObjectNumber) (answer : Bool) (cost : Option ℕ)
    → HasNumbers v f → action ≡ numbered_action (names_of v) (factor_of v) schema → answer ≡ may_stand_for (factor_of v) schema.params objects → answer ≡ true
    → IsBound (names_of v) (factor_of v) schema.params objects args → cost ≡ cost_at f.values.entries args action.amounts
    → cost ≡ costs (instance_of_schema (agent_of v) (factor_of v) objects schema)
instance_costs v f schema objects action args answer cost n is standing passes b given =
    let factor = factor_of v in
    let whole = cost_of factor.problem.metric factor.problem.values schema.params objects schema.increases in
    given ∙ (λ i. cost_at f.values.entries (b.are i) (is i).amounts)
    ∙ cost_is (names_of v) (privates_of factor) factor.problem.metric schema objects f.values.entries factor.problem.values b.long n.values
    (values_covered (names_of v) factor n.covers)
    ∙ sym (own_cost (agent_of v) factor schema objects whole)
    ∙ ap (λ c. costs (if c then option_map (instance_with (agent_of v) factor schema objects) whole else None)) (sym (sym standing ∙ passes))

cost_there : (agent : ℕ) (factor : Factor) (schema : Schema) (objects : List Text) (test : Bool) (o : Option ℕ) (n : ℕ)
    → costs (if test then option_map (instance_with agent factor schema objects) o else None) ≡ Some n → o ≡ Some n
cost_there agent factor schema objects false o n h = absurd (none-some n h)
cost_there agent factor schema objects true None n h = absurd (none-some n h)
cost_there agent factor schema objects true (Some c) n h = h

pub instance_small : (v : AgentView) (schema : Schema) (objects : List Text) (cost : Option ℕ) (n : ℕ) → ProblemFits (factor_of v).problem → SchemaFits schema
    → cost ≡ costs (instance_of_schema (agent_of v) (factor_of v) objects schema) → cost ≡ Some n → n ≤ 16000000
instance_small v schema objects cost n problem fits is some =
    let factor = factor_of v in
    cost_small factor.problem.values factor.problem.metric schema objects n problem.costs fits.costs fits.increases
    (cost_there (agent_of v) factor schema objects (may_stand_for factor schema.params objects)
    (cost_of factor.problem.metric factor.problem.values schema.params objects schema.increases) n (sym is ∙ some))

-- ---- a step

with_cost : (agent : ℕ) (factor : Factor) (schema : Schema) (objects : List Text) (test : Bool) (o : Option ℕ) (n : ℕ)
    → Some n ≡ costs (if test then option_map (instance_with agent factor schema objects) o else None)
    → (if test then option_map (instance_with agent factor schema objects) o else None) ≡ Some (instance_with agent factor schema objects n)
with_cost agent factor schema objects false o n h = absurd (none-some n (sym h))
with_cost agent factor schema objects true None n h = absurd (none-some n (sym h))
with_cost agent factor schema objects true (Some c) n h =
    ap (λ m. Some (instance_with agent factor schema objects m)) (same_Some c n (sym h))

pub the_instance : (agent : ℕ) (factor : Factor) (schema : Schema) (step : PlanStep) (n : ℕ)
    → find (λ (s : Schema). bytes_eq s.word.name step.action) factor.domain.schemas ≡ Some schema
    → Some n ≡ costs (instance_of_schema agent factor step.args schema)
    → instance_at agent factor step.action step.args ≡ Some (instance_with agent factor schema step.args n)
the_instance agent factor schema step n found costs_is =
    ap (option_and_then (instance_of_schema agent factor step.args)) found
    ∙ with_cost agent factor schema step.args (may_stand_for factor schema.params step.args)
    (cost_of factor.problem.metric factor.problem.values schema.params step.args schema.increases) n costs_is

asked_is : (agent : ℕ) (factor : Factor) (schema : Schema) (step : PlanStep)
    → find (λ (s : Schema). bytes_eq s.word.name step.action) factor.domain.schemas ≡ Some schema
    → asked_at agent factor step.action step.args ≡ signed_facts agent factor schema.params step.args schema.pre
asked_is agent factor schema step found =
    ap (λ (o : Option Schema). option_map_or (λ (s : Schema). signed_facts agent factor s.params step.args s.pre) o []) found

pub step_fails : (agent : ℕ) (factor : Factor) (s : State) (schema : Schema) (step : PlanStep) (n : ℕ) (first : Option SignedFact) (x : SignedFact)
    → find (λ (t : Schema). bytes_eq t.word.name step.action) factor.domain.schemas ≡ Some schema
    → Some n ≡ costs (instance_of_schema agent factor step.args schema)
    → first ≡ failing s (signed_facts agent factor schema.params step.args schema.pre) → first ≡ Some x → IsFailing agent factor s step x
step_fails agent factor s schema step n first x found costs_is h some = record {
  instance = instance_with agent factor schema step.args n;
  is = the_instance agent factor schema step n found costs_is;
  first = ap (failing s) (asked_is agent factor schema step found) ∙ sym h ∙ some;
}

pub step_done : (names : List Text) (agent own : ℕ) (factor : Factor) (schema : Schema) (step : PlanStep) (n : ℕ) (first : Option SignedFact) (args : List ObjectNumber)
    (action : NumberedAction) (old new : List FactNumbers)
    → find (λ (t : Schema). bytes_eq t.word.name step.action) factor.domain.schemas ≡ Some schema
    → Some n ≡ costs (instance_of_schema agent factor step.args schema) → n ≤ 16000000
    → first ≡ failing (named_state names old) (signed_facts agent factor schema.params step.args schema.pre) → first ≡ None
    → Covers names (names_of_schema schema) → IsBound names factor schema.params step.args args → action ≡ numbered_action names factor schema → own ≡ agent
    → ((f : FactNumbers) → is_true new f ≡ (is_one_of (map (fact_at own args) action.add) f || (is_true old f && not (is_one_of (map (fact_at own args) action.del) f))))
    → IsDone agent factor (named_state names old) (named_state names new) step n
step_done names agent own factor schema step n first args action old new found costs_is small h none c b are same changed = record {
  instance = instance_with agent factor schema step.args n;
  is = the_instance agent factor schema step n found costs_is;
  none = ap (failing (named_state names old)) (asked_is agent factor schema step found) ∙ sym h ∙ none;
  after = state_after names agent factor schema step.args args n action old new c b are
      (subst (λ a. (f : FactNumbers) → is_true new f
      ≡ (is_one_of (map (fact_at a args) action.add) f || (is_true old f && not (is_one_of (map (fact_at a args) action.del) f)))) same changed);
  costs = refl;
  small = small;
}
