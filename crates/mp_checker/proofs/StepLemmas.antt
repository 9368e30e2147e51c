-- Steps in numbers: of an action, of a team, and of a plan.
use Rattle.std.proofs.Common.{◌≡◌, ℕ, suc, zero, ◌+◌, ◌<◌, ◌≤◌, Bool, true, false, cond, not, ◌||◌, ◌&&◌, List, [], ◌∷◌, ◌++◌, map, length, get_or, take, Option, Some, None, refl, sym, ap, subst, ◌∙◌, inl, inr}
use Rattle.std.specs.Prelude.{filter, slice_get, option_and_then}
use Rattle.std.specs.List.{list_all, flat_map}
use Rattle.std.specs.Option.{option_map}
use Rattle.std.proofs.lemmas.Bool.{false≢true, cases_Bool}
use Rattle.std.proofs.lemmas.List.{map-append, take_all}
use Rattle.std.proofs.lemmas.Option.{same_Some, none-some}
use Rattle.mp_forms.specs.Limits.{names_of_atom}
use Rattle.mp_forms.specs.declared.factor.Factor.{Factor}
use Rattle.mp_forms.specs.declared.literal.Literal.{Literal}
use Rattle.mp_forms.specs.declared.schema_values.Schema.{Schema}
use Rattle.mp_forms.specs.declared.typed_values.Typed.{Typed}
use Rattle.mp_joint.specs.declared.fact.NamedFact.{NamedFact}
use Rattle.mp_joint.specs.declared.plan.PlanStep.{PlanStep}
use Rattle.mp_joint.specs.Fact.{Text, same_fact, is_among}
use Rattle.mp_joint.specs.FactorContribution.{privates_of, facts_of, factor_contribution, instance_with, instance_at, instance_of_schema, team_of}
use Rattle.mp_joint.specs.Instance.{Instance}
use Rattle.mp_joint.specs.Plan.{Contribution, instance_of}
use Rattle.mp_plan_verdict.specs.Written.{factor_of as factor_at}
use Rattle.mp_lifting.proofs.Growing.{one_more}
use Rattle.mp_checker.specs.declared.fact.FactNumbers.{FactNumbers}
use Rattle.mp_checker.specs.declared.numbered.NumberedAction.{NumberedAction}
use Rattle.mp_checker.specs.declared.numbered.NumberedLiteral.{NumberedLiteral}
use Rattle.mp_checker.specs.declared.numbered.ObjectNumber.{ObjectNumber}
use Rattle.mp_checker.specs.declared.room.StepPlaces.{StepPlaces}
use Rattle.mp_checker.specs.declared.taken.Taken.{Taken}
use Rattle.mp_checker.specs.declared.taken.Taken.TheVariants.{NoAction, Fails, Done}
use Rattle.mp_checker.specs.AgentView.{AgentView, views_from, at_agent, names_of, agent_of, factor_of}
use Rattle.mp_checker.specs.At.{fact_at, numbers_of, is_true}
use Rattle.mp_checker.specs.Found.{IsActionOf}
use Rattle.mp_checker.specs.Numbering.{object_number, numbered_literal}
use Rattle.mp_checker.specs.Places.{place, ArePlaces, HasGrown, AreAsked, asked_in, asked_facts}
use Rattle.mp_checker.specs.Stepped.{AreFactsAt, IsStepped, step_in}
use Rattle.mp_checker.specs.Steps.{AreNumbered, NumberedStep, changes_fact, in_numbers, numbered_step}
use Rattle.mp_checker.specs.Taken.{IfDone, IsBound}
use Rattle.mp_checker.proofs.AtomsAt.{atom_at, atoms_at, known_facts}
use Rattle.mp_checker.proofs.CoversLemmas.{covers_left, covers_right}
use Rattle.mp_checker.proofs.PlaceLemmas.{joined_places, places_stay, same_place}
use Rattle.mp_checker.proofs.SameNumbers.{Decides-fact, IsKnown, AreKnownFacts, same_known}
use Rattle.mp_checker.proofs.TakenLemmas.{the_instance}
use Rattle.mp_checker.proofs.TeamLemmas.{view_of, part_of}

-- ---- facts among others

-- one of two lists has it
among_either : (g : NamedFact) (fs gs : List NamedFact) (P : Type 0) → is_among g (fs ++ gs) ≡ true
    → (is_among g fs ≡ true → P) → (is_among g gs ≡ true → P) → P
among_either g [] gs P h left right = right h
among_either g (f ∷ fs) gs P h left right =
    elim (cases_Bool (same_fact g f)) [
      | inl same ↦ left (ap (λ b. b || is_among g fs) same)
      | inr other ↦
          among_either g fs gs P (sym (ap (λ b. b || is_among g (fs ++ gs)) other) ∙ h)
          (λ k. left (ap (λ b. b || is_among g fs) other ∙ k)) right
    ]

known_among : (names : List Text) (g : NamedFact) (fs : List NamedFact) → AreKnownFacts names fs → is_among g fs ≡ true → IsKnown names g
known_among names g [] known h = absurd (false≢true h)
known_among names g (f ∷ fs) known h =
    elim (cases_Bool (same_fact g f)) [
      | inl same ↦ subst (IsKnown names) (sym ((Decides-fact g f).0 same)) known.0
      | inr other ↦ known_among names g fs known.1 (sym (ap (λ b. b || is_among g fs) other) ∙ h)
    ]

there_among : (names : List Text) (facts : List FactNumbers) (g : NamedFact) (fs : List NamedFact)
    → list_all (is_true facts) (map (numbers_of names) fs) ≡ true → is_among g fs ≡ true → is_true facts (numbers_of names g) ≡ true
there_among names facts g [] all h = absurd (false≢true h)
there_among names facts g (f ∷ fs) all h =
    elim (cases_Bool (is_true facts (numbers_of names f))) [
      | inl there ↦
          elim (cases_Bool (same_fact g f)) [
            | inl same ↦ subst (λ x. is_true facts (numbers_of names x) ≡ true) (sym ((Decides-fact g f).0 same)) there
            | inr other ↦
                there_among names facts g fs (sym (ap (λ b. b && list_all (is_true facts) (map (numbers_of names) fs)) there) ∙ all)
                (sym (ap (λ b. b || is_among g fs) other) ∙ h)
          ]
      | inr missing ↦ absurd (false≢true (sym (ap (λ b. b && list_all (is_true facts) (map (numbers_of names) fs)) missing) ∙ all))
    ]

-- ---- a step of an agent

-- what literals ask for, or else against, in numbers and by names
asked_named : (names : List Text) (agent : ℕ) (factor : Factor) (params : List Typed) (objects : List Text) (positive : Bool) (ls : List Literal) → length objects ≡ length params
    → asked_facts agent (map (object_number names (privates_of factor)) objects) positive (map (numbered_literal names (privates_of factor) params) ls)
    ≡ map (numbers_of names) (facts_of agent factor params objects (map (λ (l : Literal). l.atom) (filter (λ (l : Literal). cond positive l.positive (not l.positive)) ls)))
asked_named names agent factor params objects positive [] long = refl
asked_named names agent factor params objects positive (l ∷ ls) long =
    let args = map (object_number names (privates_of factor)) objects in
    let numbered = numbered_literal names (privates_of factor) params in
    let p = λ (k : Literal). cond positive k.positive (not k.positive) in
    let rest = asked_named names agent factor params objects positive ls long in
    let first = atom_at names agent (privates_of factor) params objects l.atom long in
    elim (cases_Bool (cond positive l.positive (not l.positive))) [
      | inl passes ↦
          ap (λ b. map (λ (k : NumberedLiteral). fact_at agent args k.atom) (cond b (numbered l ∷ filter (asked_in positive) (map numbered ls)) (filter (asked_in positive) (map numbered ls)))) passes
          ∙ (λ i. first i ∷ rest i)
          ∙ sym (ap (λ b. map (numbers_of names) (facts_of agent factor params objects (map (λ (k : Literal). k.atom) (cond b (l ∷ filter p ls) (filter p ls))))) passes)
      | inr fails ↦
          ap (λ b. map (λ (k : NumberedLiteral). fact_at agent args k.atom) (cond b (numbered l ∷ filter (asked_in positive) (map numbered ls)) (filter (asked_in positive) (map numbered ls)))) fails
          ∙ rest
          ∙ sym (ap (λ b. map (numbers_of names) (facts_of agent factor params objects (map (λ (k : Literal). k.atom) (cond b (l ∷ filter p ls) (filter p ls))))) fails)
    ]

abbrev costs : Option Instance → Option ℕ
costs o = option_map (λ (i : Instance). i.cost) o

-- its facts have these places
pub facts_there : (old new : List FactNumbers) (agent number : ℕ) (args : List ObjectNumber) (action : NumberedAction) (places : StepPlaces) (needs against : List ℕ)
    → agent ≡ number → HasGrown old new → AreAsked old agent args action.pre needs against → places.needs.items ≡ needs → places.against.items ≡ against
    → ArePlaces new (map (fact_at number args) action.add) places.adds.items → ArePlaces new (map (fact_at number args) action.del) places.dels.items
    → AreFactsAt new number args action (step_in agent places)
facts_there old new agent number args action places needs against same g a n m adds dels =
    let b = subst (λ x. AreAsked old x args action.pre needs against) same a in
    record {
      by = same;
      needs =
          subst (ArePlaces new (asked_facts number args true action.pre ++ asked_facts number args false action.pre)) (sym (λ i. n i ++ m i))
          (places_stay old new (asked_facts number args true action.pre ++ asked_facts number args false action.pre) (needs ++ against) g
          (joined_places old (asked_facts number args true action.pre) (asked_facts number args false action.pre) needs against b.positive b.negative));
      adds = adds;
      dels = dels;
    }

pub if_done : (P Q : Type 0) (taken : Taken) → (P → Q) → IfDone taken P → IfDone taken Q
if_done P Q NoAction f h = tt
if_done P Q (Fails x) f h = tt
if_done P Q (Done cost) f h = f h

pub a_step : (v : AgentView) (own : ℕ) (schema : Schema) (action : NumberedAction) (step : PlanStep) (args : List ObjectNumber) (cost : ℕ) (facts : List FactNumbers) (n : NumberedStep)
    → IsActionOf v step.action schema action → own ≡ agent_of v → IsBound (names_of v) (factor_of v) schema.params step.args args
    → Some cost ≡ costs (instance_of_schema (agent_of v) (factor_of v) step.args schema) → AreFactsAt facts own args action n
    → IsStepped (names_of v) facts (agent_of v) (instance_at (agent_of v) (factor_of v) step.action step.args) n
a_step v own schema action step args cost facts n a same b paid h =
    let names = names_of v in
    let agent = agent_of v in
    let factor = factor_of v in
    let params = schema.params in
    let objects = step.args in
    let f = subst (λ x. AreFactsAt facts x args action n) same h in
    let asked : (positive : Bool) → asked_facts agent args positive action.pre
    ≡ map (numbers_of names) (facts_of agent factor params objects (map (λ (l : Literal). l.atom) (filter (λ (l : Literal). cond positive l.positive (not l.positive)) schema.pre))) =
    λ positive. (λ i. asked_facts agent (b.are i) positive (a.numbered i).pre) ∙ asked_named names agent factor params objects positive schema.pre b.long in
    let adds : map (fact_at agent args) action.add ≡ map (numbers_of names) (facts_of agent factor params objects schema.add) =
    (λ i. map (fact_at agent (b.are i)) (a.numbered i).add) ∙ atoms_at names agent factor params objects schema.add b.long in
    let dels : map (fact_at agent args) action.del ≡ map (numbers_of names) (facts_of agent factor params objects schema.del) =
    (λ i. map (fact_at agent (b.are i)) (a.numbered i).del) ∙ atoms_at names agent factor params objects schema.del b.long in
    let known_adds = known_facts names agent factor params objects schema.add b.known
    (covers_left names (flat_map names_of_atom schema.add) (flat_map names_of_atom schema.del) a.covers) in
    let known_dels = known_facts names agent factor params objects schema.del b.known
    (covers_right names (flat_map names_of_atom schema.add) (flat_map names_of_atom schema.del) a.covers) in
    let i = instance_with agent factor schema objects cost in
    subst (λ o. IsStepped names facts agent o n) (sym (the_instance agent factor schema step cost a.first paid)) (record {
      by = f.by;
      needs =
          subst (λ these. ArePlaces facts these n.needs)
          ((λ j. asked true j ++ asked false j) ∙ sym (map-append (numbers_of names) i.positive i.negative)) f.needs;
      adds = subst (λ these. ArePlaces facts these n.adds) adds f.adds;
      dels = subst (λ these. ArePlaces facts these n.dels) dels f.dels;
      apart = λ x g h e.
          same_known names x g
          (among_either g i.add i.del (IsKnown names g) h (known_among names g i.add known_adds) (known_among names g i.del known_dels)) e;
    })

-- ---- a step of a team

abbrev at_factor : PlanStep → Option Factor → Option Instance
at_factor step o =
    option_and_then (λ (c : Contribution). c.instance_at step.action step.args) (option_map (λ (f : Factor). factor_contribution step.agent f) o)

pub instance_in_team : (factors : List Factor) (step : PlanStep) → instance_of (team_of factors) step ≡ at_factor step (factor_at factors step.agent)
instance_in_team factors step = ap (option_and_then (λ (c : Contribution). c.instance_at step.action step.args)) (part_of step.agent factors)

view_there : (names : List Text) (factors : List Factor) (team : List AgentView) (agent : ℕ) → team ≡ views_from names 1 factors
    → at_agent team agent ≡ option_map (λ (f : Factor). (names, agent, f)) (factor_at factors agent)
view_there names factors team agent is = ap (λ (t : List AgentView). at_agent t agent) is ∙ view_of names agent factors

a_factor : (o : Option Factor) (names : List Text) (step : PlanStep) (v : AgentView) (facts : List FactNumbers) (n : NumberedStep)
    → option_map (λ (f : Factor). (names, step.agent, f)) o ≡ Some v
    → IsStepped (names_of v) facts (agent_of v) (instance_at (agent_of v) (factor_of v) step.action step.args) n
    → IsStepped names facts step.agent (at_factor step o) n
a_factor None names step v facts n is h = absurd (none-some v is)
a_factor (Some f) names step v facts n is h =
    subst (λ (w : AgentView). IsStepped (names_of w) facts (agent_of w) (instance_at (agent_of w) (factor_of w) step.action step.args) n)
    (sym (same_Some (names, step.agent, f) v is)) h

pub an_agent : (names : List Text) (factors : List Factor) (team : List AgentView) (step : PlanStep) (v : AgentView) (facts : List FactNumbers) (n : NumberedStep)
    → team ≡ views_from names 1 factors → at_agent team step.agent ≡ Some v
    → IsStepped (names_of v) facts (agent_of v) (instance_at (agent_of v) (factor_of v) step.action step.args) n
    → IsStepped names facts step.agent (instance_of (team_of factors) step) n
an_agent names factors team step v facts n is at h =
    subst (λ o. IsStepped names facts step.agent o n) (sym (instance_in_team factors step))
    (a_factor (factor_at factors step.agent) names step v facts n (sym (view_there names factors team step.agent is) ∙ at) h)

-- numbered by its agent
pub of_agent : (names : List Text) (facts : List FactNumbers) (agent own : ℕ) (o : Option Instance) (places : StepPlaces)
    → IsStepped names facts agent o (step_in own places) → IsStepped names facts agent o (step_in agent places)
of_agent names facts agent own o places s = subst (λ a. IsStepped names facts agent o (step_in a places)) s.by s

-- ---- the steps of a plan

abbrev pub AreStepped : List Text → List FactNumbers → List Contribution → List PlanStep → List NumberedStep → Type 0
AreStepped names facts team [] [] = Unit {0}
AreStepped names facts team [] (n ∷ ns) = ⊥
AreStepped names facts team (x ∷ xs) [] = ⊥
AreStepped names facts team (x ∷ xs) (n ∷ ns) =
    IsStepped names facts x.agent (instance_of team x) n × AreStepped names facts team xs ns

step_stays : (names : List Text) (old new : List FactNumbers) (agent : ℕ) (o : Option Instance) (n : NumberedStep) → HasGrown old new
    → IsStepped names old agent o n → IsStepped names new agent o n
step_stays names old new agent o n g s = record {
  by = s.by;
  needs = places_stay old new _ n.needs g s.needs;
  adds = places_stay old new _ n.adds g s.adds;
  dels = places_stay old new _ n.dels g s.dels;
  apart = s.apart;
}

steps_stay : (names : List Text) (old new : List FactNumbers) (team : List Contribution) (xs : List PlanStep) (ns : List NumberedStep) → HasGrown old new
    → AreStepped names old team xs ns → AreStepped names new team xs ns
steps_stay names old new team [] [] g s = tt
steps_stay names old new team [] (n ∷ ns) g s = s
steps_stay names old new team (x ∷ xs) [] g s = s
steps_stay names old new team (x ∷ xs) (n ∷ ns) g s = (
  step_stays names old new x.agent (instance_of team x) n g s.0,
  steps_stay names old new team xs ns g s.1,
)

one_step : (names : List Text) (facts : List FactNumbers) (team : List Contribution) (xs : List PlanStep) (ns : List NumberedStep) (x : PlanStep) (n : NumberedStep)
    → AreStepped names facts team xs ns → IsStepped names facts x.agent (instance_of team x) n → AreStepped names facts team (xs ++ x ∷ []) (ns ++ n ∷ [])
one_step names facts team [] [] x n s last = (last, tt)
one_step names facts team [] (m ∷ ms) x n s last = absurd s
one_step names facts team (y ∷ ys) [] x n s last = absurd s
one_step names facts team (y ∷ ys) (m ∷ ms) x n s last = (s.0, one_step names facts team ys ms x n s.1 last)

pub step_more : (names : List Text) (old new : List FactNumbers) (team : List Contribution) (plan : List PlanStep) (i : ℕ) (x : PlanStep) (made : List NumberedStep) (n : NumberedStep)
    → i < length plan → x ≡ get_or plan i x → HasGrown old new → AreStepped names old team (take i plan) made
    → IsStepped names new x.agent (instance_of team x) n → AreStepped names new team (take (i + 1) plan) (made ++ n ∷ [])
step_more names old new team plan i x made n lt is g so_far s =
    subst (λ xs. AreStepped names new team xs (made ++ n ∷ [])) (sym (one_more plan i x lt is))
    (one_step names new team (take i plan) made x n (steps_stay names old new team (take i plan) made g so_far) s)

-- ---- a number for each fact

abbrev number_among : List Text → List FactNumbers → NamedFact → ℕ
number_among names facts f = place facts (numbers_of names f)

mapped_places : (names : List Text) (facts : List FactNumbers) (fs : List NamedFact) → map (place facts) (map (numbers_of names) fs) ≡ map (number_among names facts) fs
mapped_places names facts [] = refl
mapped_places names facts (f ∷ fs) = ap (λ ns. number_among names facts f ∷ ns) (mapped_places names facts fs)

numbers_there : (names : List Text) (facts : List FactNumbers) (these : Instance → List NamedFact) (o : Option Instance)
    → map (place facts) (in_numbers (numbers_of names) these o) ≡ in_numbers (number_among names facts) these o
numbers_there names facts these None = refl
numbers_there names facts these (Some i) = mapped_places names facts (these i)

is_numbered : (names : List Text) (facts : List FactNumbers) (x : PlanStep) (o : Option Instance) (n : NumberedStep) → IsStepped names facts x.agent o n
    → n ≡ numbered_step (number_among names facts) x o
is_numbered names facts x o n s =
    let needs = s.needs.are ∙ numbers_there names facts (λ i. i.positive ++ i.negative) o in
    let adds = s.adds.are ∙ numbers_there names facts (λ i. i.add) o in
    let dels = s.dels.are ∙ numbers_there names facts (λ i. i.del) o in
    λ i. record { agent = s.by i; needs = needs i; adds = adds i; dels = dels i }

are_numbered : (names : List Text) (facts : List FactNumbers) (team : List Contribution) (xs : List PlanStep) (ns : List NumberedStep) → AreStepped names facts team xs ns
    → ns ≡ map (λ (x : PlanStep). numbered_step (number_among names facts) x (instance_of team x)) xs
are_numbered names facts team [] [] s = refl
are_numbered names facts team [] (n ∷ ns) s = absurd s
are_numbered names facts team (x ∷ xs) [] s = absurd s
are_numbered names facts team (x ∷ xs) (n ∷ ns) s =
    λ i. is_numbered names facts x (instance_of team x) n s.0 i ∷ are_numbered names facts team xs ns s.1 i

changed_there : (names : List Text) (facts : List FactNumbers) (agent : ℕ) (o : Option Instance) (n : NumberedStep) (g : NamedFact) → IsStepped names facts agent o n
    → changes_fact o g ≡ true → is_true facts (numbers_of names g) ≡ true
changed_there names facts agent None n g s h = absurd (false≢true h)
changed_there names facts agent (Some i) n g s h =
    among_either g i.add i.del (is_true facts (numbers_of names g) ≡ true) h
    (there_among names facts g i.add s.adds.there) (there_among names facts g i.del s.dels.there)

apart_at : (names : List Text) (facts : List FactNumbers) (team : List Contribution) (xs : List PlanStep) (ns : List NumberedStep) (k : ℕ) (x : PlanStep) (f g : NamedFact)
    → AreStepped names facts team xs ns → slice_get xs k ≡ Some x → changes_fact (instance_of team x) g ≡ true
    → number_among names facts f ≡ number_among names facts g → f ≡ g
apart_at names facts team [] ns k x f g s at h e = absurd (none-some x at)
apart_at names facts team (y ∷ ys) [] k x f g s at h e = absurd s
apart_at names facts team (y ∷ ys) (n ∷ ns) zero x f g s at h e =
    let changes = subst (λ z. changes_fact (instance_of team z) g ≡ true) (sym (same_Some y x at)) h in
    s.0.apart f g changes
    (same_place facts (numbers_of names f) (numbers_of names g) (changed_there names facts y.agent (instance_of team y) n g s.0 changes) e)
apart_at names facts team (y ∷ ys) (n ∷ ns) (suc k) x f g s at h e = apart_at names facts team ys ns k x f g s.1 at h e

pub steps_numbered : (names : List Text) (facts : List FactNumbers) (team : List Contribution) (plan : List PlanStep) (made : List NumberedStep) (i : ℕ) → length plan ≤ i
    → AreStepped names facts team (take i plan) made → AreNumbered team plan made
steps_numbered names facts team plan made i past h =
    let s = subst (λ xs. AreStepped names facts team xs made) (take_all i plan past) h in
    record {
      number = number_among names facts;
      are = are_numbered names facts team plan made s;
      apart = λ k x f g at changes e. apart_at names facts team plan made k x f g s at changes e;
    }
