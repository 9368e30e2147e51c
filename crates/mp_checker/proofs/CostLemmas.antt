-- The cost of an action in numbers is that of its instance by names, and is small.
use Rattle.std.proofs.Common.{◌≡◌, ℕ, ◌+◌, ◌*◌, ◌≤◌, Bool, true, false, cond, List, [], ◌∷◌, map, length, All, Option, Some, None, if◌then◌else◌, refl, sym, ap, subst, ◌∙◌, arith, inl, inr}
use Rattle.std.specs.List.{find, flat_map}
use Rattle.std.specs.Map.{lookup}
use Rattle.std.specs.Option.{option_map}
use Rattle.std.specs.Prelude.{option_and_then}
use Rattle.std.proofs.lemmas.Bool.{cases_Bool}
use Rattle.std.proofs.lemmas.List.Elements.{All-head, All-tail}
use Rattle.std.proofs.lemmas.Option.{same_Some, none-some}
use Rattle.mp_forms.specs.Limits.{IsAllowedIncrease, name_of_term}
use Rattle.mp_forms.specs.Numbers.{greatest_cost}
use Rattle.mp_forms.specs.declared.typed_values.Typed.{Typed}
use Rattle.mp_forms.specs.declared.atom_values.Term.{Term}
use Rattle.mp_forms.specs.declared.atom_values.Term.TheVariants as terms
use Rattle.mp_forms.specs.declared.effect_values.Increase.{Increase}
use Rattle.mp_forms.specs.declared.effect_values.Increase.TheVariants.{Number, Function}
use Rattle.mp_forms.specs.declared.init_values.Value.{Value}
use Rattle.mp_forms.specs.declared.schema_values.Schema.{Schema}
use Rattle.mp_sexp.specs.Numbers.{number_in}
use Rattle.mp_joint.specs.declared.fact.NamedFact.{NamedFact}
use Rattle.mp_joint.specs.Fact.{Text, Privates}
use Rattle.mp_joint.specs.Grounding.{objects_of, gives, amount_of, total_of, cost_of}
use Rattle.mp_checker.specs.declared.fact.FactNumbers.{FactNumbers}
use Rattle.mp_checker.specs.AgentView.{Covers}
use Rattle.mp_checker.specs.At.{function_at, numbers_of}
use Rattle.mp_checker.specs.Costs.{HasValues, numbers_of_value, value_in, amount_at, cost_at}
use Rattle.mp_checker.specs.Keys.{same_numbers}
use Rattle.mp_checker.specs.Numbering.{object_number, numbered_atom, amount, amounts, is_total_cost}
use Rattle.mp_checker.specs.Words.{names_of_value}
use Rattle.mp_checker.proofs.AtomsAt.{function_of, function_at_objects, known_function}
use Rattle.mp_checker.proofs.CoversLemmas.{covers_left, covers_right}
use Rattle.mp_checker.proofs.SameNumbers.{same_as_value}

-- ---- values

-- a function at objects, by names
abbrev applied : Text → List Text → NamedFact
applied function objects = record { owner = None; predicate = function; args = objects }

ground_objects : (names : List Text) (ts : List Term) → map (λ (t : Term). number_in names (name_of_term t)) ts ≡ map (number_in names) (objects_of [] [] ts)
ground_objects names [] = refl
ground_objects names (terms.Variable w ∷ ts) = ap (λ ns. number_in names w.name ∷ ns) (ground_objects names ts)
ground_objects names (terms.Object w ∷ ts) = ap (λ ns. number_in names w.name ∷ ns) (ground_objects names ts)

value_numbers : (names : List Text) (v : Value) → numbers_of_value names v ≡ numbers_of names (function_of v.of)
value_numbers names v = λ i. record { owner = None; symbol = number_in names v.of.word.name; objects = ground_objects names v.of.terms i }

found_by : (test : Bool) (v : Value) (o p : Option Value) → option_map (λ (w : Value). w.cost) o ≡ option_map (λ (w : Value). w.cost) p
    → option_map (λ (w : Value). w.cost) (cond test (Some v) o) ≡ option_map (λ (w : Value). w.cost) (cond test (Some v) p)
found_by true v o p h = refl
found_by false v o p h = h

same_value : (names : List Text) (function : Text) (objects : List Text) (values : List Value) → Covers names (flat_map names_of_value values)
    → value_in names values (numbers_of names (applied function objects)) ≡ option_map (λ (w : Value). w.cost) (find (gives function objects) values)
same_value names function objects [] c = refl
same_value names function objects (v ∷ vs) c =
    let f = applied function objects in
    let rest = same_value names function objects vs (covers_right names (names_of_value v) (flat_map names_of_value vs) c) in
    let known = known_function names v.of (covers_left names (names_of_value v) (flat_map names_of_value vs) c) in
    let tests : same_numbers (numbers_of_value names v) (numbers_of names f) ≡ gives function objects v =
    ap (λ (x : FactNumbers). same_numbers x (numbers_of names f)) (value_numbers names v) ∙ same_as_value names f (function_of v.of) known in
    ap (λ b. option_map (λ (w : Value). w.cost) (cond b (Some v) (find (λ (w : Value). same_numbers (numbers_of_value names w) (numbers_of names f)) vs))) tests
    ∙ found_by (gives function objects v) v _ _ rest

-- ---- amounts

amount_is : (names : List Text) (privates : Privates) (params : List Typed) (objects : List Text) (entries : List (FactNumbers × ℕ)) (values : List Value) (i : Increase)
    → length objects ≡ length params → HasValues names entries values → Covers names (flat_map names_of_value values)
    → amount_at entries (map (object_number names privates) objects) (amount names privates params i) ≡ amount_of values params objects i
amount_is names privates params objects entries values (Number n) long has c = refl
amount_is names privates params objects entries values (Function f) long has c =
    elim (cases_Bool (is_total_cost f)) [
      | inl total ↦ rw total refl
      | inr other ↦
          let objects' = objects_of params objects f.terms in
          let found : lookup (same_numbers (function_at (map (object_number names privates) objects) (numbered_atom names privates params f))) entries
          ≡ option_map (λ (w : Value). w.cost) (find (gives f.word.name objects') values) =
          ap (λ (x : FactNumbers). lookup (same_numbers x) entries) (function_at_objects names privates params objects f long)
          ∙ has (numbers_of names (applied f.word.name objects')) ∙ same_value names f.word.name objects' values c in
          rw other found
    ]

total_is : (names : List Text) (privates : Privates) (params : List Typed) (objects : List Text) (entries : List (FactNumbers × ℕ)) (values : List Value) (is' : List Increase)
    → length objects ≡ length params → HasValues names entries values → Covers names (flat_map names_of_value values)
    → cost_at entries (map (object_number names privates) objects) (map (amount names privates params) is') ≡ total_of values params objects is'
total_is names privates params objects entries values [] long has c = refl
total_is names privates params objects entries values (i ∷ is') long has c =
    let here = amount_is names privates params objects entries values i long has c in
    let rest = total_is names privates params objects entries values is' long has c in
    λ j. option_and_then (λ a. option_map (λ r. a + r) (rest j)) (here j)

-- with and without a metric
pub cost_is : (names : List Text) (privates : Privates) (metric : Bool) (schema : Schema) (objects : List Text) (entries : List (FactNumbers × ℕ)) (values : List Value)
    → length objects ≡ length schema.params → HasValues names entries values → Covers names (flat_map names_of_value values)
    → cost_at entries (map (object_number names privates) objects) (amounts names privates metric schema)
    ≡ cost_of metric values schema.params objects schema.increases
cost_is names privates true schema objects entries values long has c = total_is names privates schema.params objects entries values schema.increases long has c
cost_is names privates false schema objects entries values long has c = refl

-- ---- costs are small

abbrev IsLow : Value → Type 0
IsLow v = v.cost ≤ greatest_cost

low_value : (test : Value → Bool) (values : List Value) (n : ℕ) → All IsLow values → option_map (λ (w : Value). w.cost) (find test values) ≡ Some n → n ≤ greatest_cost
low_value test [] n low h = absurd (none-some n h)
low_value test (v ∷ vs) n low h =
    elim (cases_Bool (test v)) [
      | inl passes ↦
          let is : v.cost ≡ n = same_Some v.cost n (sym (ap (λ b. option_map (λ (w : Value). w.cost) (cond b (Some v) (find test vs))) passes) ∙ h) in
          subst (λ m. m ≤ greatest_cost) is (All-head IsLow v vs low)
      | inr fails ↦
          low_value test vs n (All-tail IsLow v vs low) (sym (ap (λ b. option_map (λ (w : Value). w.cost) (cond b (Some v) (find test vs))) fails) ∙ h)
    ]

low_amount : (values : List Value) (params : List Typed) (objects : List Text) (i : Increase) (n : ℕ) → All IsLow values → IsAllowedIncrease i
    → amount_of values params objects i ≡ Some n → n ≤ greatest_cost
low_amount values params objects (Number m) n low allowed h = subst (λ k. k ≤ greatest_cost) (same_Some m n h) allowed
low_amount values params objects (Function f) n low allowed h =
    elim (cases_Bool (is_total_cost f)) [
      | inl total ↦
          absurd (none-some n (sym (ap (λ b. if b then None else option_map (λ (w : Value). w.cost) (find (gives f.word.name (objects_of params objects f.terms)) values)) total) ∙ h))
      | inr other ↦
          low_value (gives f.word.name (objects_of params objects f.terms)) values n low
          (sym (ap (λ b. if b then None else option_map (λ (w : Value). w.cost) (find (gives f.word.name (objects_of params objects f.terms)) values)) other) ∙ h)
    ]

-- a sum of two parts
record IsSum (o rest : Option ℕ) (n : ℕ) : Type 0 where
  first : ℕ
  others : ℕ
  first_is : o ≡ Some first
  others_are : rest ≡ Some others
  sum : first + others ≡ n

parts : (o rest : Option ℕ) (n : ℕ) → option_and_then (λ a. option_map (λ r. a + r) rest) o ≡ Some n → IsSum o rest n
parts None rest n h = absurd (none-some n h)
parts (Some a) None n h = absurd (none-some n h)
parts (Some a) (Some r) n h = record { first = a; others = r; first_is = refl; others_are = refl; sum = same_Some (a + r) n h }

low_total : (values : List Value) (params : List Typed) (objects : List Text) (is' : List Increase) (n : ℕ) → All IsLow values → All IsAllowedIncrease is'
    → total_of values params objects is' ≡ Some n → n ≤ length is' * 1000000
low_total values params objects [] n low allowed h = let e = same_Some 0 n h in omega (arith, e)
low_total values params objects (i ∷ is') n low allowed h =
    let p = parts (amount_of values params objects i) (total_of values params objects is') n h in
    let here : p.first ≤ 1000000 = low_amount values params objects i p.first low (All-head IsAllowedIncrease i is' allowed) p.first_is in
    let rest = low_total values params objects is' p.others low (All-tail IsAllowedIncrease i is' allowed) p.others_are in
    let sum = p.sum in
    omega (arith, here, rest, sum)

pub cost_small : (values : List Value) (metric : Bool) (schema : Schema) (objects : List Text) (n : ℕ) → All IsLow values → All IsAllowedIncrease schema.increases
    → length schema.increases ≤ 16 → cost_of metric values schema.params objects schema.increases ≡ Some n → n ≤ 16000000
cost_small values true schema objects n low allowed few h =
    let most = low_total values schema.params objects schema.increases n low allowed h in
    omega (arith, most, few)
cost_small values false schema objects n low allowed few h = let e = same_Some 1 n h in omega (arith, e)
