-- A map that has the first value of each function, while values are added.
use Rattle.std.proofs.Common.{◌≡◌, ℕ, Bool, true, false, cond, List, [], ◌∷◌, ◌++◌, Option, Some, None, refl, sym, ap, subst, ◌∙◌}
use Rattle.std.specs.List.{find}
use Rattle.std.specs.Map.{lookup}
use Rattle.std.specs.Option.{is_some, option_or, option_map}
use Rattle.std.proofs.lemmas.List.Folds.{find-append}
use Rattle.mp_forms.specs.declared.init_values.Value.{Value}
use Rattle.mp_joint.specs.Fact.{Text}
use Rattle.mp_checker.specs.declared.fact.FactNumbers.{FactNumbers}
use Rattle.mp_checker.specs.Costs.{HasValues, value_in, numbers_of_value}
use Rattle.mp_checker.specs.Keys.{same_numbers}
use Rattle.mp_checker.proofs.SameNumbers.{Decides-numbers}

or_first : (o : Option Value) (v : Value) (t : Bool) → option_map (λ (w : Value). w.cost) (option_or o (cond t (Some v) None)) ≡ option_or (option_map (λ (w : Value). w.cost) o) (cond t (Some v.cost) None)
or_first None v true = refl
or_first None v false = refl
or_first (Some w) v t = refl

value_more : (names : List Text) (values : List Value) (v : Value) (f : FactNumbers)
    → value_in names (values ++ v ∷ []) f ≡ option_or (value_in names values f) (cond (same_numbers (numbers_of_value names v) f) (Some v.cost) None)
value_more names values v f =
    ap (option_map (λ (w : Value). w.cost)) (find-append (λ (w : Value). same_numbers (numbers_of_value names w) f) values (v ∷ []))
    ∙ or_first (find (λ (w : Value). same_numbers (numbers_of_value names w) f) values) v (same_numbers (numbers_of_value names v) f)

not_some : (o : Option ℕ) → is_some o ≡ false → o ≡ None
not_some None h = refl
not_some (Some n) h = cc

keeps : (o other : Option ℕ) → is_some o ≡ true → o ≡ option_or o other
keeps None other h = cc
keeps (Some n) other h = refl

of_none : (o : Option ℕ) → o ≡ option_or o None
of_none None = refl
of_none (Some n) = refl

known_by : (names : List Text) (values : List Value) (v : Value) (f : FactNumbers) (t : Bool) → same_numbers (numbers_of_value names v) f ≡ t
    → is_some (value_in names values (numbers_of_value names v)) ≡ true
    → value_in names values f ≡ option_or (value_in names values f) (cond t (Some v.cost) None)
known_by names values v f true e there =
    keeps _ _ (subst (λ g. is_some (value_in names values g) ≡ true) ((Decides-numbers (numbers_of_value names v) f).0 e) there)
known_by names values v f false e there = of_none _

new_by : (names : List Text) (values : List Value) (v : Value) (f : FactNumbers) (t : Bool) → same_numbers (numbers_of_value names v) f ≡ t
    → is_some (value_in names values (numbers_of_value names v)) ≡ false
    → cond t (Some v.cost) (value_in names values f) ≡ option_or (value_in names values f) (cond t (Some v.cost) None)
new_by names values v f true e none =
    ap (λ o. option_or o (Some v.cost))
    (sym (not_some _ (subst (λ g. is_some (value_in names values g) ≡ false) ((Decides-numbers (numbers_of_value names v) f).0 e) none)))
new_by names values v f false e none = of_none _

-- a function that has a value keeps it
pub known : (names : List Text) (entries : List (FactNumbers × ℕ)) (values : List Value) (v : Value)
    → HasValues names entries values → is_some (lookup (same_numbers (numbers_of_value names v)) entries) ≡ true
    → HasValues names entries (values ++ v ∷ [])
known names entries values v h there f =
    h f ∙ known_by names values v f (same_numbers (numbers_of_value names v) f) refl (ap is_some (sym (h (numbers_of_value names v))) ∙ there)
    ∙ sym (value_more names values v f)

-- one that has none gets this one
pub added : (names : List Text) (entries more : List (FactNumbers × ℕ)) (values : List Value) (v : Value)
    → HasValues names entries values → is_some (lookup (same_numbers (numbers_of_value names v)) entries) ≡ false
    → ((f : FactNumbers) → lookup (same_numbers f) more ≡ cond (same_numbers (numbers_of_value names v) f) (Some v.cost) (lookup (same_numbers f) entries))
    → HasValues names more (values ++ v ∷ [])
added names entries more values v h none changed f =
    changed f ∙ ap (cond (same_numbers (numbers_of_value names v) f) (Some v.cost)) (h f)
    ∙ new_by names values v f (same_numbers (numbers_of_value names v) f) refl (ap is_some (sym (h (numbers_of_value names v))) ∙ none)
    ∙ sym (value_more names values v f)
