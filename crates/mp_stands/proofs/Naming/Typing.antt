-- Types and objects with their words' places left aside: which objects are of a type.
use Rattle.std.proofs.Common.{◌≡◌, ℕ, zero, suc, ◌+◌, ◌||◌, List, [], ◌∷◌, ◌++◌, map, filter, length, Option, Some, None, refl, ap, ◌∙◌}
use Rattle.std.specs.Prelude.{◌==◌, slice_get}
use Rattle.std.specs.Str.{bytes_eq}
use Rattle.std.proofs.lemmas.List.{length-map}
use Rattle.mp_forms.specs.declared.word.Word.{Word}
use Rattle.mp_forms.specs.declared.typed_values.Typed.{Typed}
use Rattle.mp_typing.specs.ByType.{listed_by}
use Rattle.mp_typing.specs.Names.{names_of, is_among, has_any}
use Rattle.mp_typing.specs.IsA.{object_name}
use Rattle.mp_typing.specs.Under.{directly_under, is_of_type, lower, with_lower}
unfoldable use Rattle.mp_typing.specs.Under.{found_after, with_types}
use Rattle.mp_joint.specs.Fact.{Text}
use Rattle.mp_ground_laws.proofs.Lists.{filter_of_map}
use Rattle.mp_stands.specs.Renaming.{kept_word, kept_typed, renamed_typed}
use Rattle.mp_stands.proofs.Naming.Lists.{any_of_map, map_of_map}

listed_same : (item : List ℕ) (words : List Word) (name : List ℕ) → listed_by item (map kept_word words) name ≡ listed_by item words name
listed_same item words name =
    ap (map (λ (w : Word). item))
    (filter_of_map kept_word (λ (w : Word). bytes_eq w.name name) words)
    ∙ map_of_map (λ (w : Word). item) kept_word (filter (λ (w : Word). bytes_eq w.name name) words)

pub kept_names : (words : List Word) → names_of (map kept_word words) ≡ names_of words
kept_names words = map_of_map (λ (w : Word). w.name) kept_word words

under_same : (declared : List Typed) (name : List ℕ) → directly_under (map kept_typed declared) name ≡ directly_under declared name
under_same [] name = refl
under_same (t ∷ ts) name =
    ap (λ (ns : List (List ℕ)). ns ++ directly_under (map kept_typed ts) name) (listed_same t.word.name t.types name)
    ∙ ap (λ (ns : List (List ℕ)). listed_by t.word.name t.types name ++ ns) (under_same ts name)

next_same : (declared : List Typed) (found : List (List ℕ)) (o : Option (List ℕ)) → with_lower (map kept_typed declared) found o ≡ with_lower declared found o
next_same declared found None = refl
next_same declared found (Some name) = ap (with_types found) (under_same declared name)

found_same : (declared : List Typed) (tops : List (List ℕ)) (n : ℕ) → found_after (map kept_typed declared) tops n ≡ found_after declared tops n
unfolding found_after
found_same declared tops zero = refl
found_same declared tops (suc n) =
    ap (λ (ns : List (List ℕ)). with_lower (map kept_typed declared) ns (slice_get ns n)) (found_same declared tops n)
    ∙ next_same declared (found_after declared tops n) (slice_get (found_after declared tops n) n)

all_same : (declared : List Typed) (tops : List (List ℕ)) → lower (map kept_typed declared) tops ≡ lower declared tops
all_same declared tops =
    ap (λ n. found_after (map kept_typed declared) tops (length tops + n)) (length-map declared kept_typed)
    ∙ found_same declared tops (length tops + length declared)

-- an object by another name is of the same types
pub type_same : (other : Text → Text) (declared : List Typed) (asked : List (List ℕ)) (object : Typed)
    → is_of_type (map kept_typed declared) asked (renamed_typed other object) ≡ is_of_type declared asked object
type_same other declared asked object =
    ap (λ found. length asked == 0 || (is_among found object_name || has_any found (map kept_word object.types))) (all_same declared asked)
    ∙ ap (λ b. length asked == 0 || (is_among (lower declared asked) object_name || b))
    (any_of_map (λ (w : Word). is_among (lower declared asked) w.name) kept_word object.types)
