-- What words, atoms, conditions, typed lists and signatures say is written in their tree.
use Rattle.mp_forms.proofs.Basics.{Bool, true, false, List, [], ◌∷◌, All, codes, flat_map, All-nil, All-cons, All-head, All-tail, All-append, Place, Node, Word, Signature, Term, Variable, Object, Atom, Literal, Shape, fault_at, place_of, parts}
use Rattle.mp_forms.proofs.Basics.{rest_of, is_list, is_name_word, is_variable_word, is_word, conjuncts, is_negation, Reading, Says, misshapen, said, each, word_at, name_rule, variable_rule}
use Rattle.mp_forms.proofs.Basics.{object_rule, term_rule, applied_rule, atom_rule, negated_rule, condition_rule, Listing, Declared, with_type, with_item, with_block, is_dash, typed_from, type_first, typed_rule, type_rule, typed_of, variables}
use Rattle.mp_forms.proofs.Basics.{names, objects, declared_predicate, declared_function, signature_rule}
use Rattle.std.specs.Prelude.{◌&&◌}
use Rattle.mp_forms.specs.Faults.{unsupported_fault}
use Rattle.mp_forms.specs.Parts.{is_fixed_word}
use Rattle.mp_forms.specs.Reading.{unsupported}
use Rattle.mp_forms.specs.Rules.Atoms.{predicate_rule, applied, applied_members}
use Rattle.mp_forms.specs.Rules.Conditions.{literal, literal_rule}
use Rattle.mp_forms.specs.Rules.Typed.{block_members, block_rule, either_members, plain, with_blocks}
use Rattle.mp_forms.specs.Rules.Signatures.{signature_of, signature_members, signatures}
use Rattle.mp_forms.proofs.GivesLemmas.{Gives, Any, To, gives_says, gives_wrong, gives_if, gives_where, gives_said, gives_both, gives_besides, gives_each, gives_alone}
use Rattle.mp_forms.proofs.TreeWords.{InTree, in_parts, in_rest, in_conjuncts, word_in_tree, variable_in_tree}
use Rattle.mp_forms.proofs.Basics.{Typed, Use, as_name, as_variable, object_uses, parameter_uses, signature_uses, term_use, atom_uses, literal_uses, IsTaken, All-map, map, words_of}
use Rattle.std.specs.Prelude.{Contains}
use Rattle.mp_forms.proofs.TreeWords.{all_in_first, all_in_second}

pub all_flat : {X Y : Type 0} (P : Y → Type 0) (f : X → List Y) (xs : List X) → All (λ x. All P (f x)) xs → All P (flat_map f xs)
all_flat P f [] all = All-nil P
all_flat P f (x ∷ xs) all =
    All-append P (f x) (flat_map f xs) (All-head (λ y. All P (f y)) x xs all) (all_flat P f xs (All-tail (λ y. All P (f y)) x xs all))

pub flat_all : {X Y : Type 0} (P : Y → Type 0) (f : X → List Y) (xs : List X) → All P (flat_map f xs) → All (λ x. All P (f x)) xs
flat_all P f [] all = All-nil (λ x. All P (f x))
flat_all P f (x ∷ xs) all =
    All-cons (λ y. All P (f y)) x xs (all_in_first P (f x) (flat_map f xs) all) (flat_all P f xs (all_in_second P (f x) (flat_map f xs) all))

-- ---- a typed list, by what holds of its items, types and blocks

pub record Listed {X T : Type 0} (In : Node → Type 0) (P : X → Type 0) (Q : T → Type 0) (listing : Listing X T) : Type 0 where
  pub item : (n : Node) → In n → Gives (To Q P) (listing.item n)
  pub type : (n : Node) → In n → Gives Q (listing.type n)
  pub untyped : Q listing.untyped
  pub block : (n : Node) → In n → Gives (All P) (listing.block n)

module _ {X T : Type 0} (In : Node → Type 0) (P : X → Type 0) (Q : T → Type 0) (listing : Listing X T) (listed : Listed In P Q listing) where
  abbrev Declares : Declared X T → Type 0
  Declares d = Q d.type × All P d.items

  mutual
    unfolding typed_from type_first

    from_gives : (whole : Place) (is_behind_item : Bool) (ns : List Node) → All In ns → Gives Declares (typed_from listing whole is_behind_item ns)
    from_gives whole is_behind_item [] all = gives_says Declares record { type = listing.untyped; items = [] } (listed.untyped, All-nil P)
    from_gives whole is_behind_item (n ∷ ns) all =
        let here = All-head In n ns all in
        let others = All-tail In n ns all in
        gives_if Declares (is_behind_item && is_dash n) _ _ (λ dash. type_gives whole ns others)
        (λ no_dash. gives_if Declares (listing.is_block n) _ _
        (λ is. gives_both (All P) Declares Declares (with_block listing.untyped) (listing.block n) (typed_from listing whole false ns)
        (λ xs d of ds. (listed.untyped, All-append P xs d.items of ds.1)) (listed.block n here) (from_gives whole false ns others))
        (λ other. gives_both (To Q P) Declares Declares with_item (listing.item n) (typed_from listing whole listing.takes_type ns)
        (λ make d of ds. (ds.0, All-cons P (make d.type) d.items (of d.type ds.0) ds.1)) (listed.item n here)
        (from_gives whole listing.takes_type ns others)))

    type_gives : (whole : Place) (ns : List Node) → All In ns → Gives Declares (type_first listing whole ns)
    type_gives whole [] all = gives_wrong Declares _ []
    type_gives whole (n ∷ ns) all =
        gives_both Q Declares Declares with_type (listing.type n) (typed_from listing whole false ns) (λ type d of ds. (of, ds.1))
        (listed.type n (All-head In n ns all)) (from_gives whole false ns (All-tail In n ns all))

  pub typed_gives : (whole : Place) (ns : List Node) → All In ns → Gives (All P) (typed_rule listing whole ns)
  unfolding typed_rule
  typed_gives whole ns all =
      gives_said Declares (All P) (λ declared. declared.items) (typed_from listing whole false ns) (λ d ds. ds.1) (from_gives whole false ns all)

  block_by : (whole : Place) (ns : List Node) → All In ns → Gives (All P) (block_members listing whole ns)
  block_by whole [] all = gives_wrong (All P) _ []
  block_by whole (n ∷ ns) all =
      gives_if (All P) (is_word (codes ":private") n) (typed_rule listing whole ns) (misshapen (place_of n))
      (λ is. typed_gives whole ns (All-tail In n ns all)) (λ other. gives_wrong (All P) _ [])

  block_gives : (parts_in : (n : Node) → In n → All In (parts n)) (n : Node) → In n → Gives (All P) (block_rule listing n)
  unfolding block_rule
  block_gives parts_in n all = block_by (place_of n) (parts n) (parts_in n all)

-- ---- forms without costs

module _ (tree : Node) where
  abbrev W : Word → Type 0
  W = Contains (words_of tree)

  abbrev In : Node → Type 0
  In = InTree W

  abbrev P : Use → Type 0
  P = IsTaken tree

  abbrev Name : Word → Type 0
  Name w = P (as_name w)

  abbrev IsVar : Word → Type 0
  IsVar w = P (as_variable w)

  pub name_gives : (n : Node) → In n → Gives Name (name_rule n)
  unfolding name_rule
  name_gives n all = gives_where Name (is_name_word n) (word_at n) (fault_at (place_of n) Shape) (λ is. word_in_tree W n is all)

  pub variable_gives : (n : Node) → In n → Gives IsVar (variable_rule n)
  unfolding variable_rule
  variable_gives n all = gives_where IsVar (is_variable_word n) (word_at n) (fault_at (place_of n) Shape) (λ is. variable_in_tree W n is all)

  -- ---- atoms and conditions

  abbrev IsTerm : Term → Type 0
  IsTerm term = P (term_use term)

  abbrev IsAtom : Atom → Type 0
  IsAtom atom = All P (atom_uses atom)

  abbrev IsLiteral : Literal → Type 0
  IsLiteral literal = All P (literal_uses literal)

  pub object_gives : (n : Node) → In n → Gives IsTerm (object_rule n)
  object_gives n all = gives_said Name IsTerm Object (name_rule n) (λ w of. of) (name_gives n all)

  pub term_gives : (n : Node) → In n → Gives IsTerm (term_rule n)
  unfolding term_rule
  term_gives n all =
      gives_if IsTerm (is_variable_word n) (Says (Variable (word_at n))) (object_rule n)
      (λ is. gives_says IsTerm (Variable (word_at n)) (variable_in_tree W n is all)) (λ other. object_gives n all)

  predicate_gives : (n : Node) → In n → Gives Name (predicate_rule n)
  unfolding predicate_rule
  predicate_gives n all =
      gives_if Name (is_fixed_word n) (unsupported n) (name_rule n) (λ is. gives_wrong Name (unsupported_fault n) []) (λ other. name_gives n all)

  module _ (name : Node → Reading Word) (term : Node → Reading Term) (names_give : (n : Node) → In n → Gives Name (name n))
      (terms_give : (n : Node) → In n → Gives IsTerm (term n)) where
    applied_by : (whole : Place) (ns : List Node) → All In ns → Gives IsAtom (applied_members name term whole ns)
    applied_by whole [] all = gives_wrong IsAtom _ []
    applied_by whole (n ∷ ns) all =
        gives_both Name (All IsTerm) IsAtom applied (name n) (each term ns) (λ w ts of each_of. All-cons P (as_name w) (map term_use ts) of (All-map P term_use ts each_of))
        (names_give n (All-head In n ns all)) (gives_each In IsTerm term terms_give ns (All-tail In n ns all))

    pub applied_gives : (n : Node) → In n → Gives IsAtom (applied_rule name term n)
    unfolding applied_rule
    applied_gives n all = applied_by (place_of n) (parts n) (in_parts W n all)

  pub atom_gives : (n : Node) → In n → Gives IsAtom (atom_rule n)
  atom_gives = applied_gives predicate_rule term_rule predicate_gives term_gives

  pub negated_gives : (n : Node) → In n → Gives IsAtom (negated_rule n)
  unfolding negated_rule
  negated_gives n all = gives_alone In IsAtom atom_rule atom_gives (place_of n) (rest_of (parts n)) (in_rest W (parts n) (in_parts W n all))

  literal_gives : (n : Node) → In n → Gives IsLiteral (literal_rule n)
  unfolding literal_rule
  literal_gives n all =
      gives_if IsLiteral (is_negation n) (said (literal false) (negated_rule n)) (said (literal true) (atom_rule n))
      (λ is. gives_said IsAtom IsLiteral (literal false) (negated_rule n) (λ a of. of) (negated_gives n all))
      (λ other. gives_said IsAtom IsLiteral (literal true) (atom_rule n) (λ a of. of) (atom_gives n all))

  pub condition_gives : (n : Node) → In n → Gives (All IsLiteral) (condition_rule n)
  unfolding condition_rule
  condition_gives n all = gives_each In IsLiteral literal_rule literal_gives (conjuncts n) (in_conjuncts W n all)

  -- ---- typed lists

  either_by : (whole : Place) (ns : List Node) → All In ns → Gives (All Name) (either_members whole ns)
  either_by whole [] all = gives_wrong (All Name) _ []
  either_by whole (n ∷ ns) all =
      gives_besides (All Name) _ (each name_rule ns) (λ x e. gives_each In Name name_rule name_gives ns (All-tail In n ns all))

  pub type_of_gives : (n : Node) → In n → Gives (All Name) (type_rule n)
  unfolding type_rule
  type_of_gives n all =
      gives_if (All Name) (is_list n) (either_members (place_of n) (parts n)) (said (λ word. word ∷ []) (name_rule n))
      (λ is. either_by (place_of n) (parts n) (in_parts W n all))
      (λ other. gives_said Name (All Name) (λ word. word ∷ []) (name_rule n) (λ w of. All-cons Name w [] of (All-nil Name)) (name_gives n all))

  abbrev IsObject : Typed → Type 0
  IsObject typed = All P (object_uses typed)

  abbrev IsParam : Typed → Type 0
  IsParam typed = All P (parameter_uses typed)

  plain_listed : (u : Word → Use) (private : Bool) (rule : Node → Reading Word) → ((n : Node) → In n → Gives (λ (w : Word). P (u w)) (rule n))
      → Listed In (λ (t : Typed). All P (u t.word ∷ map as_name t.types)) (All Name) (plain private rule)
  plain_listed u private rule gives =
      let Is : Typed → Type 0 = λ (t : Typed). All P (u t.word ∷ map as_name t.types) in record {
        item = λ n all. gives_said (λ (w : Word). P (u w)) (To (All Name) Is) (typed_of private) (rule n)
            (λ w of types each_of. All-cons P (u w) (map as_name types) of (All-map P as_name types each_of)) (gives n all);
        type = type_of_gives;
        untyped = All-nil Name;
        block = λ n all. gives_wrong (All Is) _ [];
      }

  pub variables_listed : Listed In IsParam (All Name) variables
  variables_listed = plain_listed as_variable false variable_rule variable_gives

  pub names_listed : (private : Bool) → Listed In IsObject (All Name) (names private)
  names_listed private = plain_listed as_name private name_rule name_gives

  pub objects_listed : Listed In IsObject (All Name) objects
  objects_listed = record {
    item = (names_listed false).item;
    type = type_of_gives;
    untyped = All-nil Name;
    block = block_gives In IsObject (All Name) (names true) (names_listed true) (in_parts W);
  }

  -- ---- signatures

  abbrev IsSignature : Signature → Type 0
  IsSignature signature = All P (signature_uses signature)

  pub declared_predicate_gives : (n : Node) → In n → Gives Name (declared_predicate n)
  unfolding declared_predicate
  declared_predicate_gives n all =
      gives_if Name (is_fixed_word n) (misshapen (place_of n)) (name_rule n) (λ is. gives_wrong Name _ []) (λ other. name_gives n all)

  pub declared_function_gives : (n : Node) → In n → Gives Name (declared_function n)
  unfolding declared_function
  declared_function_gives n all =
      gives_if Name (is_word (codes "total-cost") n) (name_rule n) (declared_predicate n) (λ is. name_gives n all) (λ other. declared_predicate_gives n all)

  module _ (name : Node → Reading Word) (names_give : (n : Node) → In n → Gives Name (name n)) where
    signature_by : (private : Bool) (whole : Place) (ns : List Node) → All In ns → Gives IsSignature (signature_members private name whole ns)
    signature_by private whole [] all = gives_wrong IsSignature _ []
    signature_by private whole (n ∷ ns) all =
        gives_both Name (All IsParam) IsSignature (signature_of private) (name n) (typed_rule variables whole ns)
        (λ w ts of each_of. All-cons P (as_name w) (flat_map parameter_uses ts) of (all_flat P parameter_uses ts each_of)) (names_give n (All-head In n ns all))
        (typed_gives In IsParam (All Name) variables variables_listed whole ns (All-tail In n ns all))

    item_gives : (private : Bool) (n : Node) → In n → Gives (To {X = Unit {0}} Any IsSignature) (said (λ signature type. signature) (signature_rule private name n))
    unfolding signature_rule
    item_gives private n all =
        gives_said IsSignature (To {X = Unit {0}} Any IsSignature) (λ signature type. signature) (signature_rule private name n) (λ s of type any. of)
        (signature_by private (place_of n) (parts n) (in_parts W n all))

    signatures_listed : (takes_number private : Bool) → Listed In IsSignature Any (signatures takes_number private name)
    signatures_listed takes_number private = record {
      item = item_gives private;
      type = λ n all x e. tt;
      untyped = tt;
      block = λ n all. gives_wrong (All IsSignature) _ [];
    }

    pub blocks_listed : (takes_number : Bool)
        → Listed In IsSignature Any (with_blocks (signatures takes_number false name) (signatures takes_number true name))
    blocks_listed takes_number = record {
      item = item_gives false;
      type = λ n all x e. tt;
      untyped = tt;
      block = block_gives In IsSignature Any (signatures takes_number true name) (signatures_listed takes_number true) (in_parts W);
    }
