-- The facts that an agent counts are its own or public, and their texts tell them.
use Rattle.std.proofs.Common.{◌≡◌, ℕ, Bool, true, false, List, [], ◌∷◌, map, All, Option, Some, None, is_none, refl, sym, ap, ◌∙◌, subst}
use Rattle.std.proofs.lemmas.Bool.{and_from, false≢true}
use Rattle.std.proofs.lemmas.List.Elements.{All-head, All-tail, All-contains}
use Rattle.std.specs.List.{list_all}
use Rattle.std.specs.Prelude.{Contains}
use Rattle.mp_forms.specs.declared.factor.Factor.{Factor}
use Rattle.mp_sexp.specs.Numbers.{name_at}
use Rattle.mp_joint.specs.declared.fact.NamedFact.{NamedFact}
use Rattle.mp_joint.specs.declared.fact.SignedFact.{SignedFact}
use Rattle.mp_joint.specs.Fact.{is_listed}
use Rattle.mp_lifting.specs.declared.view.OpenView.{OpenView}
use Rattle.mp_lifting.specs.Factors.{lifted_factor}
use Rattle.mp_lifting.specs.Texts.{signed_text}
use Rattle.mp_lifting.specs.Views.{setting_of}
use Rattle.mp_lifting.specs.Vocabulary.{vocabulary_of}
use Rattle.mp_instances.specs.Instances.{instances}
use Rattle.mp_ground_facts.specs.Touched.{counted}
use Rattle.mp_list.proofs.Members.{from_map}
use Rattle.mp_stands.proofs.Owners.{IsFactOf}
use Rattle.mp_ground_laws.specs.Checked.{IsChecked}
use Rattle.mp_ground_laws.specs.Counted.{counted_facts}
use Rattle.mp_ground_laws.specs.Numbered.{signed_fact, IsObject, IsOfFactor}
use Rattle.mp_ground_laws.proofs.Counted.{all_counted}
use Rattle.mp_ground_laws.proofs.Numbered.{named_at}
use Rattle.mp_ground_laws.proofs.Ordered.{counted_stand}
use Rattle.mp_stands.specs.Declared.{AreDeclared}
use Rattle.mp_stands.proofs.Words.{AreSpelled, text_tells, complement_tells, not_both}

-- a fact of an agent, or the complement of one, whose names the agent's factor declares
pub record IsOwn (me : ℕ) (factor : Factor) (x : SignedFact) : Type 0 where
  pub of : IsFactOf me factor x.fact
  pub declared : AreDeclared factor x.fact.predicate x.fact.args

objects_listed : (factor : Factor) (ns : List ℕ) → All (IsObject factor) ns
    → list_all (λ a. is_listed a (vocabulary_of factor).objects) (map (name_at (vocabulary_of factor).objects) ns) ≡ true
objects_listed factor [] h = refl
objects_listed factor (n ∷ ns) h =
    let names = (vocabulary_of factor).objects in
    and_from (is_listed (name_at names n) names) (list_all (λ a. is_listed a names) (map (name_at names) ns))
    (named_at names n (All-head (IsObject factor) n ns h)) (objects_listed factor ns (All-tail (IsObject factor) n ns h))

pub counted_own : (me : ℕ) (factor : Factor) (view : OpenView) (x : SignedFact) → IsChecked factor
    → Contains (counted_facts me factor (setting_of me factor view)) x → IsOwn me factor x
counted_own me factor view x checked found =
    let all = counted (lifted_factor factor view) (instances (lifted_factor factor view)) in
    let from = from_map (signed_fact me factor) all x (subst (λ xs. Contains xs x) (sym (counted_stand me factor view checked)) found) in
    let is = All-contains (IsOfFactor factor view) all from.0 (all_counted factor view checked) from.1 in
    subst (IsOwn me factor) from.2
    (record {
      of = record { rule = refl };
      declared = record {
        predicate_is = named_at (vocabulary_of factor).predicates from.0.predicate is.range.symbol;
        args_are = objects_listed factor from.0.objects is.range.args;
      };
    })

-- ---- texts of public facts

abbrev pub IsTold : SignedFact → Type 0
IsTold x = AreSpelled x.fact.predicate x.fact.args

same_public : (f g : NamedFact) → f.owner ≡ None → g.owner ≡ None → f.predicate ≡ g.predicate → f.args ≡ g.args → f ≡ g
same_public f g p q predicates args =
    let owners : f.owner ≡ g.owner = p ∙ sym q in
    λ i. record { owner = owners i; predicate = predicates i; args = args i }

-- public facts and complements with the same text are the same
pub signed_tells : (x y : SignedFact) → x.fact.owner ≡ None → y.fact.owner ≡ None → IsTold x → IsTold y → signed_text x ≡ signed_text y → x ≡ y
signed_tells x y p q told told_too same = by x.positive y.positive x.fact y.fact p q told told_too same
  where
    by : (a b : Bool) (f g : NamedFact) → f.owner ≡ None → g.owner ≡ None → AreSpelled f.predicate f.args → AreSpelled g.predicate g.args
        → signed_text (record { positive = a; fact = f }) ≡ signed_text (record { positive = b; fact = g })
        → ◌≡◌ {A = SignedFact} (record { positive = a; fact = f }) (record { positive = b; fact = g })
    by true true f g p q told told_too same =
        let are = text_tells f.predicate g.predicate f.args g.args told told_too same in
        ap (λ h. record { positive = true; fact = h }) (same_public f g p q are.predicates are.args)
    by true false f g p q told told_too same = absurd (not_both f.predicate g.predicate f.args g.args told same)
    by false true f g p q told told_too same = absurd (not_both g.predicate f.predicate g.args f.args told_too (sym same))
    by false false f g p q told told_too same =
        let are = text_tells f.predicate g.predicate f.args g.args told told_too (complement_tells _ _ same) in
        ap (λ h. record { positive = false; fact = h }) (same_public f g p q are.predicates are.args)

pub nobody : (o : Option ℕ) → is_none o ≡ true → o ≡ None
nobody None h = refl
nobody (Some n) h = absurd (false≢true h)
