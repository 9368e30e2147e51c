-- A map that has the first value of each function, while values are added.
use Rattle.mp_instances.proofs.Basics.{◌≡◌, ℕ, Bool, true, false, cond, List, [], ◌∷◌, ◌++◌, Option, Some, None, refl, sym, ap, subst, ◌∙◌, Bor, lookup, is_some, option_map, GroundAtom, same_atom, fact_of, equal, HasValues}
use Rattle.std.specs.List.{find}
use Rattle.std.specs.Option.{option_or}
use Rattle.std.proofs.lemmas.List.Folds.{find-append}
use Rattle.mp_lifted.specs.declared.lifted.GroundValue.{GroundValue}
use Rattle.mp_instances.specs.Costs.{value_of}
use Rattle.mp_sexp.proofs.Places.{not_some, of_none, of_some}

or_first : (o : Option GroundValue) (v : GroundValue) (t : Bool) → option_map (λ v. v.cost) (option_or o (cond t (Some v) None)) ≡ option_or (option_map (λ v. v.cost) o) (cond t (Some v.cost) None)
or_first None v true = refl
or_first None v false = refl
or_first (Some w) v t = refl

value_more : (values : List GroundValue) (v : GroundValue) (a : GroundAtom) → value_of (values ++ v ∷ []) a ≡ option_or (value_of values a) (cond (same_atom v.of a) (Some v.cost) None)
value_more values v a =
    ap (option_map (λ v. v.cost)) (find-append (λ v. same_atom v.of a) values (v ∷ []))
    ∙ or_first (find (λ v. same_atom v.of a) values) v (same_atom v.of a)

known_by : (values : List GroundValue) (v : GroundValue) (a : GroundAtom) (t : Bool) → same_atom v.of a ≡ t → is_some (value_of values v.of) ≡ true → value_of values a ≡ option_or (value_of values a) (cond t (Some v.cost) None)
known_by values v a true e there = of_some _ _ (subst (λ b. is_some (value_of values b) ≡ true) (equal v.of a e) there)
known_by values v a false e there = of_none _

new_by : (values : List GroundValue) (v : GroundValue) (a : GroundAtom) (t : Bool) → same_atom v.of a ≡ t → is_some (value_of values v.of) ≡ false → cond t (Some v.cost) (value_of values a) ≡ option_or (value_of values a) (cond t (Some v.cost) None)
new_by values v a true e none =
    ap (λ o. option_or o (Some v.cost)) (sym (not_some _ (subst (λ b. is_some (value_of values b) ≡ false) (equal v.of a e) none)))
new_by values v a false e none = of_none _

-- a function that has a value keeps it
pub known : (entries : List ((ℕ × Bor (List ℕ)) × ℕ)) (values : List GroundValue) (v : GroundValue)
    → HasValues entries values → is_some (lookup (λ key. same_atom v.of (fact_of key)) entries) ≡ true → HasValues entries (values ++ v ∷ [])
known entries values v h there a =
    h a ∙ known_by values v a (same_atom v.of a) refl (ap is_some (sym (h v.of)) ∙ there) ∙ sym (value_more values v a)

-- one that has none gets this one
pub added : (entries more : List ((ℕ × Bor (List ℕ)) × ℕ)) (values : List GroundValue) (v : GroundValue)
    → HasValues entries values → is_some (lookup (λ key. same_atom v.of (fact_of key)) entries) ≡ false
    → ((a : GroundAtom) → lookup (λ key. same_atom a (fact_of key)) more ≡ cond (same_atom v.of a) (Some v.cost) (lookup (λ key. same_atom a (fact_of key)) entries))
    → HasValues more (values ++ v ∷ [])
added entries more values v h none changed a =
    changed a ∙ ap (cond (same_atom v.of a) (Some v.cost)) (h a)
    ∙ new_by values v a (same_atom v.of a) refl (ap is_some (sym (h v.of)) ∙ none) ∙ sym (value_more values v a)
