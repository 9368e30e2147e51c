-- Typed lists (PDDL 2.1): items, behind which may stand `-` and their type. Lists of factored PDDL may hold blocks of
-- private items.
use Rattle.std.specs.Prelude.{◌&&◌, ◌||◌, Bool, true, false, List, [], ◌∷◌, ◌++◌, if◌then◌else◌, codes}
use Rattle.mp_sexp.specs.declared.tree.Place.{Place}
use Rattle.mp_sexp.specs.Node.{Node}
use Rattle.mp_forms.specs.declared.word.Word.{Word}
use Rattle.mp_forms.specs.declared.typed_values.Typed.{Typed}
use Rattle.mp_forms.specs.Parts.{is_word, place_of, parts, is_list}
use Rattle.mp_forms.specs.Reading.{Reading, Says, misshapen, said, both, besides, each, keyword}
use Rattle.mp_forms.specs.Rules.Words.{name_rule, variable_rule}

-- ---- lists of any items X with any types T

pub record Listing (X T : Type 0) : Type 0 where
  -- an item, which is known in full with its type
  pub item : Node → Reading (T → X)
  -- whether `-` and a type may stand behind an item, what is a type, and the type where there is none
  pub takes_type : Bool
  pub type : Node → Reading T
  pub untyped : T
  -- what is no item, as a block of items, and what it declares; no type stands behind it
  pub is_block : Node → Bool
  pub block : Node → Reading (List X)

-- what the members of a list declare from some member on, and the type of an item that stands before them: the next
-- one, as far as no block and no end stands before it
pub record Declared (X T : Type 0) : Type 0 where
  pub type : T
  pub items : List X

abbrev pub with_type : {X T : Type 0} → T → Declared X T → Declared X T
with_type type behind = record { type = type; items = behind.items }

abbrev pub with_item : {X T : Type 0} → (T → X) → Declared X T → Declared X T
with_item item behind = record { type = behind.type; items = item behind.type ∷ behind.items }

abbrev pub with_block : {X T : Type 0} → T → List X → Declared X T → Declared X T
with_block untyped block behind = record { type = untyped; items = block ++ behind.items }

-- `-`
abbrev pub is_dash : Node → Bool
is_dash node = is_word (codes "-") node

unfoldable mutual
  -- members of the list at this place, where an item stands before them that takes a type, or not
  pub typed_from : {X T : Type 0} → Listing X T → Place → Bool → List Node → Reading (Declared X T)
  typed_from listing whole is_behind_item [] = Says record { type = listing.untyped; items = [] }
  typed_from listing whole is_behind_item (n ∷ ns) =
      if is_behind_item && is_dash n then type_first listing whole ns
      else (if listing.is_block n then both (with_block listing.untyped) (listing.block n) (typed_from listing whole false ns)
      else both with_item (listing.item n) (typed_from listing whole listing.takes_type ns))

  -- and where `-` stands before them
  pub type_first : {X T : Type 0} → Listing X T → Place → List Node → Reading (Declared X T)
  type_first listing whole [] = misshapen whole
  type_first listing whole (n ∷ ns) = both with_type (listing.type n) (typed_from listing whole false ns)

-- the members of a typed list in the list at this place
unfoldable pub typed_rule : {X T : Type 0} → Listing X T → Place → List Node → Reading (List X)
typed_rule listing whole nodes = said (λ declared. declared.items) (typed_from listing whole false nodes)

-- ---- private blocks

abbrev pub block_members : {X T : Type 0} → Listing X T → Place → List Node → Reading (List X)
block_members listing whole [] = misshapen whole
block_members listing whole (head ∷ members) =
    if is_word (codes ":private") head then typed_rule listing whole members else misshapen (place_of head)

-- `(:private ITEM ..)`
unfoldable pub block_rule : {X T : Type 0} → Listing X T → Node → Reading (List X)
block_rule listing node = block_members listing (place_of node) (parts node)

-- a listing in which blocks of private items may stand
abbrev pub with_blocks : {X T : Type 0} → Listing X T → Listing X T → Listing X T
with_blocks public private = record {
  item = public.item;
  takes_type = public.takes_type;
  type = public.type;
  untyped = public.untyped;
  is_block = public.is_block;
  block = block_rule private;
}

-- ---- names and variables

abbrev pub either_members : Place → List Node → Reading (List Word)
either_members whole [] = misshapen whole
either_members whole (head ∷ names) = besides (keyword (codes "either") head) (each name_rule names)

-- TYPE: a name, or `(either NAME ..)`
unfoldable pub type_rule : Node → Reading (List Word)
type_rule node =
    if is_list node then either_members (place_of node) (parts node) else said (λ word. word ∷ []) (name_rule node)

-- what is declared by a word of these types; none means `object`
abbrev pub typed_of : Bool → Word → List Word → Typed
typed_of private word types = record { word = word; types = types; private = private }

-- a list, or `-`, in the place of a word
abbrev pub is_no_word : Node → Bool
is_no_word node = is_list node || is_dash node

-- words by this rule, without blocks
abbrev pub plain : Bool → (Node → Reading Word) → Listing Typed (List Word)
plain private rule = record {
  item = λ node. said (typed_of private) (rule node);
  takes_type = true;
  type = type_rule;
  untyped = [];
  is_block = is_no_word;
  block = λ node. misshapen (place_of node);
}

-- TYPED-VARIABLES
abbrev pub variables : Listing Typed (List Word)
variables = plain false variable_rule

-- TYPED, in a private block or not
abbrev pub names : Bool → Listing Typed (List Word)
names private = plain private name_rule

-- OBJECTS: TYPED, and what is written in brackets is a block
abbrev pub objects : Listing Typed (List Word)
objects = with_blocks (names false) (names true)
