-- Atoms in numbers stand for the facts by names that the atoms of the files become.
use Rattle.mp_ground_laws.proofs.Basics.{arith, ◌≡◌, ℕ, ◌+◌, suc, ◌<◌, Bool, true, false, cond, not, ◌||◌, List, [], ◌∷◌, map, filter, length, get_or, All, if◌then◌else◌, refl, sym, ◌∙◌, subst}
use Rattle.mp_ground_laws.proofs.Basics.{All-head, All-tail, list_any, bytes_eq, name_of_term, Typed, Term, Variable, Object, Atom, Factor, is_named, name_at, number_in, name_at_number, swapped, is_declared, NamedFact, Text, privates_of, facts_of}
use Rattle.mp_ground_laws.proofs.Basics.{fact_of, GroundAtom, ground_atom, parameter_in, lifted_term, lifted_atom, lifted_where, vocabulary_of, object_at, atom_at, atoms_at, named_objects, named_fact, IsBinding, IsInRange}
use Rattle.std.proofs.lemmas.List.Elements.{All-filter, All-map, All-weaker}
use Rattle.std.proofs.lemmas.Simd.{map-map}
use Rattle.mp_sexp.proofs.NamesAt.{number_below}
use Rattle.mp_typing.specs.Lookups.{objects_of as declared_objects, is_object}
use Rattle.mp_joint.specs.Fact.{named}
use Rattle.mp_joint.specs.Grounding.{standing_for, object_of, objects_of}
use Rattle.mp_lifting.proofs.DeclaredNames.{first_named}
use Rattle.mp_ground_laws.proofs.Distinct.{names_in}
use Rattle.mp_ground_laws.proofs.Lists.{filter_of_map, map_where}
use Rattle.mp_ground_laws.proofs.Numbered.{IsPlace}
use Rattle.mp_ground_laws.proofs.Parts.{IsDeclared, IsAtom}

-- ---- what stands for what

-- a number is in range, and stands for this
pub record Stands {X Y : Type 0} (IsIn : X → Type 0) (name : X → Y) (number : X) (named' : Y) : Type 0 where
  pub range : IsIn number
  pub is : name number ≡ named'

-- numbers are in range, and stand one by one for these
pub record AllStand {X Y : Type 0} (IsIn : X → Type 0) (name : X → Y) (numbers : List X) (names : List Y) : Type 0 where
  pub range : All IsIn numbers
  pub are : map name numbers ≡ names

all_stand : {W X Y : Type 0} {IsIn : X → Type 0} {name : X → Y} (P : W → Type 0) (number : W → X) (named' : W → Y) (ws : List W)
    → {numbers : List X} → numbers ≡ map number ws → ((w : W) → P w → Stands IsIn name (number w) (named' w)) → All P ws
    → AllStand IsIn name numbers (map named' ws)
all_stand {IsIn = IsIn} {name = name} P number named' ws same each h =
    subst (λ ns. AllStand IsIn name ns (map named' ws)) (sym same) (record {
      range = All-map IsIn number ws (All-weaker P _ (λ w is. (each w is).range) ws h);
      are = map-map name number ws ∙ map_where P (λ w. name (number w)) named' ws h (λ w is. (each w is).is);
    })

-- ---- terms

abbrev pub IsNumber : List Text → ℕ → Text → Type 0
IsNumber names number name = Stands (IsPlace names) (name_at names) number name

abbrev pub AreNumbers : List Text → List ℕ → List Text → Type 0
AreNumbers names numbers texts = AllStand (IsPlace names) (name_at names) numbers texts

first_or_later : (names : List Text) (test more : Bool) (o : ℕ) (os : List ℕ) (k : ℕ) (rest : Text) → o < length names → (test || more) ≡ true
    → (more ≡ true → IsNumber names (get_or os k 0) rest)
    → IsNumber names (get_or (o ∷ os) (cond (not test) (1 + k) 0) 0) (if test then name_at names o else rest)
first_or_later names true more o os k rest within h later = record { range = within; is = refl }
first_or_later names false more o os k rest within h later =
    subst (λ n. IsNumber names (get_or (o ∷ os) n 0) rest) (let e : suc k ≡ 1 + k = omega arith in e) (later h)

variable_stands : (names : List Text) (params : List Typed) (objects : List ℕ) (v : Text) → length objects ≡ length params → All (IsPlace names) objects
    → list_any (λ (p : Typed). bytes_eq p.word.name v) params ≡ true
    → IsNumber names (get_or objects (parameter_in params v) 0) (standing_for params (map (name_at names) objects) v)
variable_stands names [] objects v long range h = absurd (cc)
variable_stands names (p ∷ ps) [] v long range h = absurd (omega (arith, long))
variable_stands names (p ∷ ps) (o ∷ os) v long range h =
    first_or_later names (bytes_eq p.word.name v) (list_any (λ (q : Typed). bytes_eq q.word.name v) ps) o os (parameter_in ps v)
    (standing_for ps (map (name_at names) os) v) (All-head (IsPlace names) o os range) h
    (variable_stands names ps os v (omega (arith, long)) (All-tail (IsPlace names) o os range))

known_by : (name : Text) (ts : List Typed) → is_named (names_in ts) name ≡ list_any (λ (o : Typed). bytes_eq o.word.name name) ts
known_by name [] = refl
known_by name (t ∷ ts) = λ i. swapped name t.word.name i || known_by name ts i

-- a declared object has a number
pub object_stands : (factor : Factor) (name : Text) → is_object (declared_objects factor) name ≡ true
    → is_named (vocabulary_of factor).objects name ≡ true
unfolding is_object
object_stands factor name h = first_named (declared_objects factor) name ∙ known_by name (declared_objects factor) ∙ h

number_stands : (factor : Factor) (name : Text) → is_object (declared_objects factor) name ≡ true
    → IsNumber (vocabulary_of factor).objects (number_in (vocabulary_of factor).objects name) name
number_stands factor name h =
    let there = object_stands factor name h in
    record { range = number_below _ name there; is = name_at_number _ name there }

term_stands : (factor : Factor) (params : List Typed) (objects : List ℕ) → IsBinding factor params objects → (t : Term) → IsDeclared params factor t
    → IsNumber (vocabulary_of factor).objects (object_at objects (lifted_term (vocabulary_of factor) params t)) (object_of params (named_objects factor objects) t)
unfolding is_declared
term_stands factor params objects b (Variable w) h = variable_stands (vocabulary_of factor).objects params objects w.name b.long b.range h
term_stands factor params objects b (Object w) h = number_stands factor w.name h

ground_term_stands : (factor : Factor) (t : Term) → IsDeclared [] factor t
    → IsNumber (vocabulary_of factor).objects (number_in (vocabulary_of factor).objects (name_of_term t)) (object_of [] [] t)
unfolding is_declared
ground_term_stands factor (Variable w) h = absurd (cc)
ground_term_stands factor (Object w) h = number_stands factor w.name h

-- the terms of an atom where objects stand for the parameters
pub terms_stand : (factor : Factor) (params : List Typed) (objects : List ℕ) (terms : List Term) → IsBinding factor params objects
    → All (IsDeclared params factor) terms
    → AreNumbers (vocabulary_of factor).objects (map (object_at objects) (map (lifted_term (vocabulary_of factor) params) terms)) (objects_of params (named_objects factor objects) terms)
terms_stand factor params objects terms b h =
    all_stand (IsDeclared params factor) _ _ terms (map-map (object_at objects) (lifted_term (vocabulary_of factor) params) terms)
    (term_stands factor params objects b) h

pub ground_terms_stand : (factor : Factor) (terms : List Term) → All (IsDeclared [] factor) terms
    → AreNumbers (vocabulary_of factor).objects (map (number_in (vocabulary_of factor).objects) (map name_of_term terms)) (objects_of [] [] terms)
ground_terms_stand factor terms h =
    all_stand (IsDeclared [] factor) _ _ terms (map-map (number_in (vocabulary_of factor).objects) name_of_term terms) (ground_term_stands factor) h

-- ---- atoms

-- an atom is in range, and stands for a fact
abbrev pub IsFact : ℕ → Factor → GroundAtom → NamedFact → Type 0
IsFact agent factor a f = Stands (IsInRange factor) (named_fact agent factor) a f

abbrev pub AreFacts : ℕ → Factor → List GroundAtom → List NamedFact → Type 0
AreFacts agent factor atoms facts = AllStand (IsInRange factor) (named_fact agent factor) atoms facts

module _ (agent : ℕ) (factor : Factor) where
  from_numbers : (predicate : Text) (numbers : List ℕ) (args : List Text)
      → is_named (vocabulary_of factor).predicates predicate ≡ true → AreNumbers (vocabulary_of factor).objects numbers args
      → IsFact agent factor (record { symbol = number_in (vocabulary_of factor).predicates predicate; args = numbers }) (named agent (privates_of factor) predicate args)
  from_numbers predicate numbers args h n = record {
    range = record { symbol = number_below (vocabulary_of factor).predicates predicate h; args = n.range };
    is = λ i. named agent (privates_of factor) (name_at_number (vocabulary_of factor).predicates predicate h i) (n.are i);
  }

  pub atom_stands : (params : List Typed) (objects : List ℕ) (a : Atom) → IsBinding factor params objects → IsAtom params factor a
      → IsFact agent factor (atom_at objects (lifted_atom (vocabulary_of factor) params a)) (fact_of agent (privates_of factor) params (named_objects factor objects) a)
  atom_stands params objects a b h = from_numbers a.word.name _ _ h.named (terms_stand factor params objects a.terms b h.terms)

  pub atoms_stand : (params : List Typed) (objects : List ℕ) (atoms : List Atom) → IsBinding factor params objects → All (IsAtom params factor) atoms
      → AreFacts agent factor (atoms_at objects (map (lifted_atom (vocabulary_of factor) params) atoms)) (facts_of agent factor params (named_objects factor objects) atoms)
  atoms_stand params objects atoms b h =
      all_stand (IsAtom params factor) _ _ atoms (map-map (atom_at objects) (lifted_atom (vocabulary_of factor) params) atoms)
      (λ a is. atom_stands params objects a b is) h

  pub ground_atoms_stand : (atoms : List Atom) → All (IsAtom [] factor) atoms
      → AreFacts agent factor (map (ground_atom (vocabulary_of factor)) atoms) (facts_of agent factor [] [] atoms)
  ground_atoms_stand atoms h =
      all_stand (IsAtom [] factor) _ _ atoms refl (λ a is. from_numbers a.word.name _ _ is.named (ground_terms_stand factor a.terms is.terms)) h

  -- those of which the predicate passes a test
  pub some_stand : (params : List Typed) (objects : List ℕ) (test : Text → Bool) (atoms : List Atom) → IsBinding factor params objects
      → All (IsAtom params factor) atoms
      → AreFacts agent factor (atoms_at objects (lifted_where (vocabulary_of factor) test params atoms))
      (filter (λ (f : NamedFact). test f.predicate) (facts_of agent factor params (named_objects factor objects) atoms))
  some_stand params objects test atoms b h =
      subst (λ fs. AreFacts agent factor (atoms_at objects (lifted_where (vocabulary_of factor) test params atoms)) fs)
      (sym (filter_of_map (fact_of agent (privates_of factor) params (named_objects factor objects)) (λ (f : NamedFact). test f.predicate) atoms))
      (atoms_stand params objects _ b (All-filter (λ (a : Atom). test a.word.name) (IsAtom params factor) atoms h))
