-- The cost of an action in numbers is that of its instance by names.
use Rattle.mp_ground_laws.proofs.Basics.{◌≡◌, ℕ, ◌+◌, Bool, true, false, cond, not, List, [], ◌∷◌, map, filter, All, Option, Some, refl, sym, ap, ◌∙◌, subst, inl, inr, cases_Bool, All-head, All-tail, bytes_eq-Decides, and_from, and_parts, eq-eqb, eqb-true, name_at, name_at_number, same_tests}
use Rattle.mp_ground_laws.proofs.Basics.{find, option_map, option_and_then, bytes_eq, Typed, Increase, Number, Function, Value, Schema, Factor, is_named, number_in, Text, cost_of, GroundValue, ground_value}
use Rattle.mp_ground_laws.proofs.Basics.{is_total_cost, lifted_amount, amounts_of, vocabulary_of, same_atom, cost_at, named_objects, IsBinding}
use Rattle.std.proofs.lemmas.Bool.{and_left, both_ways, false_from_ne_true}
use Rattle.std.proofs.lemmas.Slice.Eq.{slice_eq-Decides}
use Rattle.std.specs.Prelude.{codes}
use Rattle.mp_joint.specs.Grounding.{objects_of, gives, amount_of, total_of}
use Rattle.mp_instances.specs.Costs.{amount_at}
use Rattle.mp_ground_laws.proofs.Atoms.{AreNumbers, terms_stand, ground_terms_stand}
use Rattle.mp_ground_laws.proofs.Facts.{objects_distinct}
use Rattle.mp_ground_laws.proofs.Numbered.{numbers_again}
use Rattle.mp_ground_laws.proofs.Parts.{IsUsed, IsIncrease, IsValue, signature_names}

abbrev is_other : Value → Bool
is_other v = not (is_total_cost v.of)

-- the values of a factor in numbers
abbrev pub values_in : Factor → List Value → List GroundValue
values_in factor values = map (ground_value (vocabulary_of factor)) (filter is_other values)

-- the total cost is no value of another function
no_total : (v : Value) (function : Text) (args : List Text) → is_total_cost v.of ≡ true → bytes_eq function (codes "total-cost") ≡ false → gives function args v ≡ false
no_total v function args total other =
    and_left (bytes_eq v.of.word.name function) _ (false_from_ne_true _ (λ same.
    both_ways _ other (subst (λ n. bytes_eq n (codes "total-cost") ≡ true) ((bytes_eq-Decides v.of.word.name function).0 same) total)))

found_by : (test : Bool) (v : Value) (g : GroundValue) (values : Option Value) (ground' : Option GroundValue) → g.cost ≡ v.cost
    → option_map (λ (w : GroundValue). w.cost) ground' ≡ option_map (λ (w : Value). w.cost) values
    → option_map (λ (w : GroundValue). w.cost) (cond test (Some g) ground') ≡ option_map (λ (w : Value). w.cost) (cond test (Some v) values)
found_by true v g values ground' same rest = ap Some same
found_by false v g values ground' same rest = rest

module _ (factor : Factor) (function : Text) (numbers : List ℕ) (args : List Text)
    (named : is_named (vocabulary_of factor).functions function ≡ true) (n : AreNumbers (vocabulary_of factor).objects numbers args) where
  -- a value in numbers is that of this function at these objects
  abbrev is_of : GroundValue → Bool
  is_of w = same_atom w.of (record { symbol = number_in (vocabulary_of factor).functions function; args = numbers })

  -- a value is that of a function at objects in numbers where it is by names
  same_value : (v : Value) → IsUsed (signature_names factor.domain.functions) [] factor v.of
      → is_of (ground_value (vocabulary_of factor) v) ≡ gives function args v
  same_value v used =
      let functions = (vocabulary_of factor).functions in
      let objects = (vocabulary_of factor).objects in
      let m = ground_terms_stand factor v.of.terms used.terms in
      let of_args = slice_eq-Decides bytes_eq-Decides (objects_of [] [] v.of.terms) args _ refl in
      same_tests _ _
      (λ h. let parts = and_parts _ _ h in and_from _ _
      ((bytes_eq-Decides v.of.word.name function).1
      (sym (name_at_number functions v.of.word.name used.named) ∙ ap (name_at functions) (eqb-true _ _ parts.0) ∙ name_at_number functions function named))
      (of_args.1 (sym m.are ∙ ap (map (name_at objects)) ((bytes_eq-Decides _ numbers).0 parts.1) ∙ n.are)))
      (λ h. let parts = and_parts _ _ h in and_from _ _
      (eq-eqb _ _ (ap (number_in functions) ((bytes_eq-Decides v.of.word.name function).0 parts.0)))
      ((bytes_eq-Decides _ numbers).1
      (sym (numbers_again objects _ (objects_distinct factor) m.range) ∙ ap (map (number_in objects)) (m.are ∙ of_args.0 parts.1 ∙ sym n.are)
      ∙ numbers_again objects numbers (objects_distinct factor) n.range)))

  found_value : (values : List Value) → bytes_eq function (codes "total-cost") ≡ false → All (IsValue factor) values
      → option_map (λ (w : GroundValue). w.cost) (find is_of (values_in factor values)) ≡ option_map (λ (w : Value). w.cost) (find (gives function args) values)
  found_value [] other h = refl
  found_value (v ∷ vs) other h =
      let rest = found_value vs other (All-tail (IsValue factor) v vs h) in
      elim (cases_Bool (is_total_cost v.of)) [
        | inl total ↦ rw (total, no_total v function args total other) rest
        | inr declared ↦
            let g = ground_value (vocabulary_of factor) v in
            let left : values_in factor (v ∷ vs) ≡ g ∷ values_in factor vs = rw declared refl in
            ap (λ ws. option_map (λ (w : GroundValue). w.cost) (find is_of ws)) left
            ∙ ap (λ b. option_map (λ (w : GroundValue). w.cost) (cond b (Some g) (find is_of (values_in factor vs))))
            (same_value v (All-head (IsValue factor) v vs h declared))
            ∙ found_by (gives function args v) v g (find (gives function args) vs) (find is_of (values_in factor vs)) refl rest
      ]

same_amount : (factor : Factor) (values : List Value) (params : List Typed) (objects : List ℕ) (i : Increase) → IsBinding factor params objects
    → All (IsValue factor) values → IsIncrease params factor i
    → amount_at (values_in factor values) objects (lifted_amount (vocabulary_of factor) params i) ≡ amount_of values params (named_objects factor objects) i
same_amount factor values params objects (Number cost) b h is = refl
same_amount factor values params objects (Function f) b h is =
    elim (cases_Bool (is_total_cost f)) [
      | inl total ↦ rw total refl
      | inr other ↦
          let used = is other in
          let n = terms_stand factor params objects f.terms b used.terms in
          rw other (found_value factor f.word.name _ _ used.named n values other h)
    ]

same_total : (factor : Factor) (values : List Value) (params : List Typed) (objects : List ℕ) (increases : List Increase) → IsBinding factor params objects
    → All (IsValue factor) values → All (IsIncrease params factor) increases
    → cost_at (values_in factor values) objects (map (lifted_amount (vocabulary_of factor) params) increases) ≡ total_of values params (named_objects factor objects) increases
same_total factor values params objects [] b h all = refl
same_total factor values params objects (i ∷ is') b h all =
    let here = same_amount factor values params objects i b h (All-head (IsIncrease params factor) i is' all) in
    let rest = same_total factor values params objects is' b h (All-tail (IsIncrease params factor) i is' all) in
    λ j. option_and_then (λ a. option_map (λ r. a + r) (rest j)) (here j)

-- with and without a metric
pub same_cost : (factor : Factor) (values : List Value) (metric : Bool) (s : Schema) (objects : List ℕ) → IsBinding factor s.params objects
    → All (IsValue factor) values → All (IsIncrease s.params factor) s.increases
    → cost_at (values_in factor values) objects (amounts_of (vocabulary_of factor) metric s) ≡ cost_of metric values s.params (named_objects factor objects) s.increases
same_cost factor values true s objects b h all = same_total factor values s.params objects s.increases b h all
same_cost factor values false s objects b h all = refl
