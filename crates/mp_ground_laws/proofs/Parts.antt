-- What the checks say of the names in a factor: which are declared.
use Rattle.mp_ground_laws.proofs.Basics.{◌≡◌, ℕ, Bool, true, false, ◌||◌, ◌&&◌, not, List, [], ◌∷◌, ◌++◌, map, length, All, Option, Some, None, slice_get, if◌then◌else◌, refl, sym, ap, subst, eqb-true, All-nil, All-cons}
use Rattle.mp_ground_laws.proofs.Basics.{get_or_from_slice_get, All-map, find, flat_map, option_map, bytes_eq, File, Word, Typed, Signature, Term, Atom, Literal, Increase, Number, Function, Value, Schema, Factor, is_named, swapped}
use Rattle.mp_ground_laws.proofs.Basics.{is_declared, Text, asked_atoms, negated_atoms, is_total_cost}
use Rattle.std.specs.Option.{is_none}
use Rattle.std.proofs.lemmas.Option.{slice_get_within}
use Rattle.std.proofs.lemmas.List.Elements.{All-filter}
use Rattle.mp_ground_laws.proofs.NoFaults.{none_in_both, not_else}
use Rattle.mp_forms.specs.declared.files.File.TheVariants as files
use Rattle.mp_typing.specs.Lookups.{arity_of}
use Rattle.mp_typing.specs.Uses.{term_faults, applied_faults, called_faults, atom_faults, literal_faults, function_faults, increase_faults}
use Rattle.mp_typing.specs.CheckFaults.{check_faults, declared_faults, schema_faults, problem_faults, value_faults}
use Rattle.mp_ground_laws.proofs.Distinct.{AreDistinct, declared_distinct}

abbrev pub signature_names : List Signature → List Text
signature_names ss = map (λ s. s.word.name) ss

abbrev pub IsDeclared : List Typed → Factor → Term → Type 0
IsDeclared params factor term = is_declared params factor term ≡ true

-- the first word of an atom is one of these names, and its terms are declared
pub record IsUsed (names : List Text) (params : List Typed) (factor : Factor) (atom : Atom) : Type 0 where
  pub named : is_named names atom.word.name ≡ true
  pub terms : All (IsDeclared params factor) atom.terms

abbrev pub IsAtom : List Typed → Factor → Atom → Type 0
IsAtom params factor atom = IsUsed (signature_names factor.domain.predicates) params factor atom

-- a function: the total cost need not be declared
abbrev pub IsFunction : List Typed → Factor → Atom → Type 0
IsFunction params factor atom =
    is_total_cost atom ≡ false → IsUsed (signature_names factor.domain.functions) params factor atom

abbrev pub IsIncrease : List Typed → Factor → Increase → Type 0
IsIncrease params factor (Number cost) = Unit {0}
IsIncrease params factor (Function function) = IsFunction params factor function

abbrev pub IsValue : Factor → Value → Type 0
IsValue factor value = IsFunction [] factor value.of

-- ---- lists of faults that are empty

-- many that have no fault
all_used : {X Y : Type 0} (P : X → Type 0) (faults : X → List Y) (xs : List X) → ((x : X) → faults x ≡ [] → P x) → flat_map faults xs ≡ [] → All P xs
all_used P faults [] each h = All-nil P
all_used P faults (x ∷ xs) each h =
    let none = none_in_both h in
    All-cons P x xs (each x none.0) (all_used P faults xs each none.1)

none_in_four : {X : Type 0} {as' bs cs ds : List X} → as' ++ bs ++ cs ++ ds ≡ [] → (as' ≡ []) × (bs ≡ []) × (cs ≡ []) × (ds ≡ [])
none_in_four h =
    let three = none_in_both h in
    let two = none_in_both three.0 in
    let first = none_in_both two.0 in
    (first.0, first.1, two.1, three.1)

-- ---- one atom

named_by : (test later : Bool) (s : Signature) (o : Option Signature) (n : ℕ) → option_map (λ (t : Signature). length t.params) (if test then Some s else o) ≡ Some n
    → (option_map (λ (t : Signature). length t.params) o ≡ Some n → later ≡ true) → (test || later) ≡ true
named_by true later s o n h k = refl
named_by false later s o n h k = k h

-- a name with a number of parameters is declared
has_arity : (name : Text) (ss : List Signature) (n : ℕ) → arity_of ss name ≡ Some n → is_named (signature_names ss) name ≡ true
unfolding arity_of
has_arity name [] n h = absurd (cc)
has_arity name (s ∷ ss) n h =
    subst (λ test. (test || is_named (signature_names ss) name) ≡ true) (swapped s.word.name name)
    (named_by (bytes_eq s.word.name name) (is_named (signature_names ss) name) s (find (λ (t : Signature). bytes_eq t.word.name name) ss) n h (has_arity name ss n))

module _ (file : File) (params : List Typed) (factor : Factor) where
  applied_right : (word' : Word) (count : ℕ) (o : Option ℕ) → applied_faults file word' count o ≡ [] → o ≡ Some count
  unfolding applied_faults
  applied_right word' count None h = absurd (cc)
  applied_right word' count (Some n) h = ap Some (sym (eqb-true count n (not_else _ h).0))

  applied_used : (ss : List Signature) (atom : Atom) → applied_faults file atom.word (length atom.terms) (arity_of ss atom.word.name) ≡ []
      → flat_map (term_faults file params factor) atom.terms ≡ [] → IsUsed (signature_names ss) params factor atom
  unfolding term_faults
  applied_used ss atom of_word of_terms = record {
    named = has_arity atom.word.name ss (length atom.terms) (applied_right atom.word (length atom.terms) (arity_of ss atom.word.name) of_word);
    terms = all_used (IsDeclared params factor) (term_faults file params factor) atom.terms (λ t none. (not_else _ none).0) of_terms;
  }

  atom_used : (atom : Atom) → atom_faults file params factor atom ≡ [] → IsAtom params factor atom
  unfolding atom_faults
  atom_used atom h = let none = none_in_both h in applied_used factor.domain.predicates atom none.0 none.1

  function_used : (f : Atom) → function_faults file params factor f ≡ [] → IsFunction params factor f
  unfolding function_faults called_faults
  function_used f h other =
      let none = none_in_both h in
      let arity = arity_of factor.domain.functions f.word.name in
      applied_used factor.domain.functions f
      (subst (λ b. (if b && is_none arity then [] else applied_faults file f.word (length f.terms) arity) ≡ []) other none.0) none.1

  increase_used : (i : Increase) → increase_faults file params factor i ≡ [] → IsIncrease params factor i
  unfolding increase_faults
  increase_used (Number cost) h = tt
  increase_used (Function f) h = function_used f h

-- ---- literals

abbrev pub AtomOf : (Atom → Type 0) → Literal → Type 0
AtomOf P l = P l.atom

pub record AreUsed (params : List Typed) (factor : Factor) (literals : List Literal) : Type 0 where
  pub all : All (AtomOf (IsAtom params factor)) literals
  pub asked : All (IsAtom params factor) (asked_atoms literals)
  pub negated : All (IsAtom params factor) (negated_atoms literals)

literals_used : (file : File) (params : List Typed) (factor : Factor) (ls : List Literal) → flat_map (literal_faults file params factor) ls ≡ []
    → AreUsed params factor ls
unfolding literal_faults
literals_used file params factor ls h =
    let all = all_used (AtomOf (IsAtom params factor)) (literal_faults file params factor) ls (λ l. atom_used file params factor l.atom) h in
    record {
      all = all;
      asked = All-map (IsAtom params factor) (λ (l : Literal). l.atom) _ (All-filter (λ (l : Literal). l.positive) (AtomOf (IsAtom params factor)) ls all);
      negated = All-map (IsAtom params factor) (λ (l : Literal). l.atom) _ (All-filter (λ (l : Literal). not l.positive) (AtomOf (IsAtom params factor)) ls all);
    }

-- ---- an action, and a factor

pub record IsSchema (factor : Factor) (s : Schema) : Type 0 where
  pub pre : AreUsed s.params factor s.pre
  pub add : All (IsAtom s.params factor) s.add
  pub del : All (IsAtom s.params factor) s.del
  pub increases : All (IsIncrease s.params factor) s.increases

schema_used : (factor : Factor) (s : Schema) → schema_faults factor s ≡ [] → IsSchema factor s
unfolding schema_faults
schema_used factor s h =
    let none = none_in_both h in
    let parts = none_in_four none.0 in
    record {
      pre = literals_used files.Domain s.params factor s.pre parts.1;
      add = all_used (IsAtom s.params factor) _ s.add (atom_used files.Domain s.params factor) parts.2;
      del = all_used (IsAtom s.params factor) _ s.del (atom_used files.Domain s.params factor) parts.3;
      increases = all_used (IsIncrease s.params factor) _ s.increases (increase_used files.Domain s.params factor) none.1;
    }

-- what is known of a factor in which nothing is wrong
pub record HasParts (factor : Factor) : Type 0 where
  pub predicates : AreDistinct (signature_names factor.domain.predicates)
  pub actions : AreDistinct (map (λ (s : Schema). s.word.name) factor.domain.schemas)
  pub schemas : All (IsSchema factor) factor.domain.schemas
  pub init : All (IsAtom [] factor) factor.problem.init
  pub values : All (IsValue factor) factor.problem.values
  pub goals : AreUsed [] factor factor.problem.goals

pub parts_of : (factor : Factor) → check_faults factor.domain factor.problem ≡ [] → HasParts factor
unfolding check_faults declared_faults problem_faults value_faults
parts_of factor h =
    let four = none_in_four h in
    let declared = none_in_four four.1 in
    let problem = none_in_four four.3 in
    record {
      predicates = declared_distinct files.Domain (λ (s : Signature). s.word) factor.domain.predicates declared.1;
      actions = declared_distinct files.Domain (λ (s : Schema). s.word) factor.domain.schemas declared.3;
      schemas = all_used (IsSchema factor) _ factor.domain.schemas (schema_used factor) four.2;
      init = all_used (IsAtom [] factor) _ factor.problem.init (atom_used files.Problem [] factor) problem.1;
      values = all_used (IsValue factor) _ factor.problem.values (λ v. function_used files.Problem [] factor v.of) problem.2;
      goals = literals_used files.Problem [] factor factor.problem.goals problem.3;
    }

-- an action at a place
pub schema_at : (factor : Factor) → HasParts factor → (place : ℕ) (s : Schema) → slice_get factor.domain.schemas place ≡ Some s → IsSchema factor s
schema_at factor parts place s at =
    subst (IsSchema factor) (get_or_from_slice_get factor.domain.schemas place s s at)
    (parts.schemas place s (slice_get_within factor.domain.schemas place s at))
