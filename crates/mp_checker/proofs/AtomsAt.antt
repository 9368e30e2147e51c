-- Atoms in numbers where objects stand for the parameters are the facts by names in numbers.
use Rattle.std.proofs.Common.{◌≡◌, ℕ, suc, ◌+◌, Bool, true, false, cond, not, ◌||◌, List, [], ◌∷◌, map, length, get_or, ltb, Option, Some, None, if◌then◌else◌, refl, ap, subst, ◌∙◌, arith}
use Rattle.std.specs.List.{list_any, position_or_len, flat_map}
use Rattle.std.specs.Option.{option_map_or}
use Rattle.std.specs.Str.{bytes_eq}
use Rattle.std.proofs.lemmas.Bool.{lt-ltb}
use Rattle.std.proofs.lemmas.Bool.Decides.{nat_tests}
use Rattle.mp_forms.specs.Limits.{name_of_term, names_of_atom}
use Rattle.mp_forms.specs.declared.typed_values.Typed.{Typed}
use Rattle.mp_forms.specs.declared.atom_values.Term.{Term}
use Rattle.mp_forms.specs.declared.atom_values.Term.TheVariants as terms
use Rattle.mp_forms.specs.declared.atom_values.Atom.{Atom}
use Rattle.mp_forms.specs.declared.factor.Factor.{Factor}
use Rattle.mp_sexp.specs.Numbers.{is_named, number_in}
use Rattle.mp_joint.specs.declared.fact.NamedFact.{NamedFact}
use Rattle.mp_joint.specs.Fact.{Text, Privates, is_listed}
use Rattle.mp_joint.specs.FactorContribution.{privates_of, facts_of}
use Rattle.mp_joint.specs.Grounding.{standing_for, object_of, objects_of, fact_of}
use Rattle.mp_checker.specs.declared.numbered.ObjectNumber.{ObjectNumber}
use Rattle.mp_checker.specs.declared.numbered.TermNumber.{TermNumber}
use Rattle.mp_checker.specs.declared.numbered.TermNumber.TheVariants.{Parameter, Object}
use Rattle.mp_checker.specs.AgentView.{Covers, AreKnown}
use Rattle.mp_checker.specs.At.{nothing, object_at, fact_at, function_at, numbers_of}
use Rattle.mp_checker.specs.Numbering.{parameter_in, object_number, term_number, numbered_atom}
use Rattle.mp_checker.proofs.CoversLemmas.{covers_left, covers_right, covers_head, covers_tail}
use Rattle.mp_checker.proofs.SameNumbers.{IsKnown, AreKnownFacts}

-- ---- terms

longer : (a b : ℕ) → ltb (1 + a) (suc b) ≡ ltb a b
longer a b = grind (arith, nat_tests)

abbrev chosen : Option ℕ → ObjectNumber → TermNumber
chosen place object = option_map_or (λ k. Parameter k) place (Object object)

behind : (a : ObjectNumber) (as' : List ObjectNumber) (x : ObjectNumber) (r : ℕ) (test : Bool)
    → object_at (a ∷ as') (chosen (cond test (Some (1 + r)) None) x) ≡ object_at as' (chosen (cond test (Some r) None) x)
behind a as' x r true = let e : suc r ≡ 1 + r = omega arith in subst (λ n. get_or (a ∷ as') n nothing ≡ get_or as' r nothing) e refl
behind a as' x r false = refl

first_or_later : (a : ObjectNumber) (as' : List ObjectNumber) (x : ObjectNumber) (r n : ℕ) (test : Bool)
    → object_at (a ∷ as') (chosen (cond (ltb (cond (not test) (1 + r) 0) (suc n)) (Some (cond (not test) (1 + r) 0)) None) x)
    ≡ (if test then a else object_at as' (chosen (cond (ltb r n) (Some r) None) x))
first_or_later a as' x r n true =
    ap (λ b. object_at (a ∷ as') (chosen (cond b (Some 0) None) x)) (lt-ltb 0 (suc n) (omega arith))
first_or_later a as' x r n false =
    ap (λ b. object_at (a ∷ as') (chosen (cond b (Some (1 + r)) None) x)) (longer r n) ∙ behind a as' x r (ltb r n)

if_same : {X : Type 0} (f : Text → X) (test : Bool) (o rest : Text) (x : X) → x ≡ f rest → (if test then f o else x) ≡ f (if test then o else rest)
if_same f true o rest x e = refl
if_same f false o rest x e = e

variable_at : (names : List Text) (privates : Privates) (params : List Typed) (objects : List Text) (v : Text) → length objects ≡ length params
    → object_at (map (object_number names privates) objects) (chosen (parameter_in params v) (object_number names privates v))
    ≡ object_number names privates (standing_for params objects v)
variable_at names privates [] [] v long = refl
variable_at names privates [] (o ∷ os) v long = absurd (omega (arith, long))
variable_at names privates (p ∷ ps) [] v long = absurd (omega (arith, long))
variable_at names privates (p ∷ ps) (o ∷ os) v long =
    let on = object_number names privates in
    let test = bytes_eq p.word.name v in
    let r = position_or_len (λ (q : Typed). bytes_eq q.word.name v) ps in
    let rest = variable_at names privates ps os v (omega (arith, long)) in
    first_or_later (on o) (map on os) (on v) r (length ps) test
    ∙ if_same on test o (standing_for ps os v) _ rest

pub term_at : (names : List Text) (privates : Privates) (params : List Typed) (objects : List Text) (t : Term) → length objects ≡ length params
    → object_at (map (object_number names privates) objects) (term_number names privates params t)
    ≡ object_number names privates (object_of params objects t)
term_at names privates params objects (terms.Variable w) long = variable_at names privates params objects w.name long
term_at names privates params objects (terms.Object w) long = refl

-- ---- atoms

objects_at : (names : List Text) (privates : Privates) (params : List Typed) (objects : List Text) (ts : List Term) → length objects ≡ length params
    → map (λ (t : TermNumber). (object_at (map (object_number names privates) objects) t).number) (map (term_number names privates params) ts)
    ≡ map (number_in names) (objects_of params objects ts)
objects_at names privates params objects [] long = refl
objects_at names privates params objects (t ∷ ts) long =
    λ i. (term_at names privates params objects t long i).number ∷ objects_at names privates params objects ts long i

private_at : (names : List Text) (privates : Privates) (params : List Typed) (objects : List Text) (ts : List Term) → length objects ≡ length params
    → list_any (λ (t : TermNumber). (object_at (map (object_number names privates) objects) t).private) (map (term_number names privates params) ts)
    ≡ list_any (λ a. is_listed a privates.objects) (objects_of params objects ts)
private_at names privates params objects [] long = refl
private_at names privates params objects (t ∷ ts) long =
    λ i. (term_at names privates params objects t long i).private || private_at names privates params objects ts long i

pub atom_at : (names : List Text) (agent : ℕ) (privates : Privates) (params : List Typed) (objects : List Text) (a : Atom) → length objects ≡ length params
    → fact_at agent (map (object_number names privates) objects) (numbered_atom names privates params a)
    ≡ numbers_of names (fact_of agent privates params objects a)
atom_at names agent privates params objects a long =
    λ i. record {
      owner = if is_listed a.word.name privates.predicates || private_at names privates params objects a.terms long i then Some agent else None;
      symbol = number_in names a.word.name;
      objects = objects_at names privates params objects a.terms long i;
    }

pub atoms_at : (names : List Text) (agent : ℕ) (factor : Factor) (params : List Typed) (objects : List Text) (as' : List Atom) → length objects ≡ length params
    → map (fact_at agent (map (object_number names (privates_of factor)) objects)) (map (numbered_atom names (privates_of factor) params) as')
    ≡ map (numbers_of names) (facts_of agent factor params objects as')
atoms_at names agent factor params objects [] long = refl
atoms_at names agent factor params objects (a ∷ as') long =
    λ i. atom_at names agent (privates_of factor) params objects a long i ∷ atoms_at names agent factor params objects as' long i

pub function_at_objects : (names : List Text) (privates : Privates) (params : List Typed) (objects : List Text) (a : Atom) → length objects ≡ length params
    → function_at (map (object_number names privates) objects) (numbered_atom names privates params a)
    ≡ numbers_of names (record { owner = None; predicate = a.word.name; args = objects_of params objects a.terms })
function_at_objects names privates params objects a long =
    λ i. record { owner = None; symbol = number_in names a.word.name; objects = objects_at names privates params objects a.terms long i }

-- ---- their names are known

known_if : (names : List Text) (test : Bool) (o rest : Text) → is_named names o ≡ true → is_named names rest ≡ true
    → is_named names (if test then o else rest) ≡ true
known_if names true o rest h k = h
known_if names false o rest h k = k

known_standing : (names : List Text) (params : List Typed) (objects : List Text) (v : Text) → AreKnown names objects → is_named names v ≡ true
    → is_named names (standing_for params objects v) ≡ true
known_standing names [] objects v known h = h
known_standing names (p ∷ ps) [] v known h = h
known_standing names (p ∷ ps) (o ∷ os) v known h =
    known_if names (bytes_eq p.word.name v) o (standing_for ps os v) known.0 (known_standing names ps os v known.1 h)

known_term : (names : List Text) (params : List Typed) (objects : List Text) (t : Term) → AreKnown names objects → is_named names (name_of_term t) ≡ true
    → is_named names (object_of params objects t) ≡ true
known_term names params objects (terms.Variable w) known h = known_standing names params objects w.name known h
known_term names params objects (terms.Object w) known h = h

known_terms : (names : List Text) (params : List Typed) (objects : List Text) (ts : List Term) → AreKnown names objects → Covers names (map name_of_term ts)
    → AreKnown names (objects_of params objects ts)
known_terms names params objects [] known c = tt
known_terms names params objects (t ∷ ts) known c = (
  known_term names params objects t known (covers_head names (map name_of_term ts) (name_of_term t) c),
  known_terms names params objects ts known (covers_tail names (map name_of_term ts) (name_of_term t) c),
)

pub known_fact : (names : List Text) (agent : ℕ) (privates : Privates) (params : List Typed) (objects : List Text) (a : Atom) → AreKnown names objects
    → Covers names (names_of_atom a) → IsKnown names (fact_of agent privates params objects a)
known_fact names agent privates params objects a known c = record {
  predicate = covers_head names (map name_of_term a.terms) a.word.name c;
  args = known_terms names params objects a.terms known (covers_tail names (map name_of_term a.terms) a.word.name c);
}

pub known_facts : (names : List Text) (agent : ℕ) (factor : Factor) (params : List Typed) (objects : List Text) (as' : List Atom) → AreKnown names objects
    → Covers names (flat_map names_of_atom as') → AreKnownFacts names (facts_of agent factor params objects as')
known_facts names agent factor params objects [] known c = tt
known_facts names agent factor params objects (a ∷ as') known c = (
  known_fact names agent (privates_of factor) params objects a known (covers_left names (names_of_atom a) (flat_map names_of_atom as') c),
  known_facts names agent factor params objects as' known (covers_right names (names_of_atom a) (flat_map names_of_atom as') c),
)

-- the function of a value, by names
abbrev pub function_of : Atom → NamedFact
function_of a = record { owner = None; predicate = a.word.name; args = objects_of [] [] a.terms }

pub known_function : (names : List Text) (a : Atom) → Covers names (names_of_atom a) → IsKnown names (function_of a)
known_function names a c = record {
  predicate = covers_head names (map name_of_term a.terms) a.word.name c;
  args = known_terms names [] [] a.terms tt (covers_tail names (map name_of_term a.terms) a.word.name c);
}
