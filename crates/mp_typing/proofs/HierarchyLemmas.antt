-- The numbers that are answered are those of the objects that are of an asked type.
use Rattle.mp_typing.proofs.Basics.{◌≡◌, ℕ, zero, suc, ◌<◌, true, false, ◌||◌, ◌==◌, List, [], ◌∷◌, length, Some, refl, sym, subst, ◌∙◌, arith, zero-add, ◌↔◌, Contains, slice_get, flat_map, range_with_len, IsStrictlyIncreasing}
use Rattle.mp_typing.proofs.Basics.{or_left, or_right, from_flat_map, to_flat_map, Typed, is_among, has_any, object_name, Members, items_of, places_of, lower, HasObjects}
use Rattle.mp_typing.proofs.ByTypeLemmas.{in_places, to_places}
use Rattle.mp_typing.proofs.Lists.{any_from_name, among_from_contains, contains_from_among, some_name}
use Rattle.mp_typing.proofs.Placing.{members_pass}
use Rattle.mp_typing.proofs.RangeLemmas.{in_range, range_rises}
use Rattle.mp_list.proofs.Bools.{or_all}
use Rattle.std.proofs.lemmas.Bool.{or_parts}
use Rattle.std.proofs.lemmas.Option.{slice_get_within}

-- an item is at each place of a list
item_at : (ts : List Typed) (i : ℕ) → i < length ts → (t : Typed) × (slice_get ts i ≡ Some t)
item_at [] i lt = absurd (omega (arith, lt))
item_at (t ∷ ts) zero lt = (t, refl)
item_at (t ∷ ts) (suc i) lt = item_at ts i (omega (arith, lt))

-- where every object is wanted
pub are_all : (declared objects : List Typed) (asked : List (List ℕ)) (numbers : List ℕ) (count : ℕ) → count ≡ length objects
    → numbers ≡ range_with_len 0 count → (length asked == 0 || is_among (lower declared asked) object_name) ≡ true
    → Members declared objects asked numbers
are_all declared objects asked numbers count counted is all =
    let none = length asked == 0 in
    let object = is_among (lower declared asked) object_name in
    members_pass declared objects asked numbers (subst IsStrictlyIncreasing (sym is) (range_rises count))
    (λ place. (
      (λ found.
          let lt = (in_range count place).0 (subst (λ (ns : List ℕ). Contains ns place) is found) in
          let (t, at) = item_at objects place (omega (arith, lt, counted)) in
          let any = has_any (lower declared asked) t.types in (
            t,
            at,
            sym (or_all none object any) ∙ or_left (none || object) any all,
          )),
      (λ p.
          let (t, at, ok) = p in
          let lt = slice_get_within objects place t at in
          subst (λ (ns : List ℕ). Contains ns place) (sym is) ((in_range count place).1 (omega (arith, lt, counted)))),
    ))

-- where those are wanted that are listed with types that are found
pub are_listed : (declared objects : List Typed) (asked : List (List ℕ)) (entries : List (List ℕ × List ℕ)) (found : List (List ℕ)) (numbers : List ℕ)
    → HasObjects objects entries → found ≡ lower declared asked
    → IsStrictlyIncreasing numbers × ((place : ℕ) → Contains numbers place ↔ Contains (flat_map (items_of entries) found) place)
    → (length asked == 0 || is_among (lower declared asked) object_name) ≡ false → Members declared objects asked numbers
are_listed declared objects asked entries found' numbers listed same' (rising, are') some =
    let found = lower declared asked in
    let are : (place : ℕ) → Contains numbers place ↔ Contains (flat_map (items_of entries) found) place =
    subst (λ (ns : List (List ℕ)). (place : ℕ) → Contains numbers place ↔ Contains (flat_map (items_of entries) ns) place) same' are' in
    let none = length asked == 0 in
    let object = is_among found object_name in
    members_pass declared objects asked numbers rising
    (λ place. (
      (λ there.
          let (name, among, inside) = from_flat_map (items_of entries) found place ((are place).0 there) in
          let (i, t, is, at, typed) = in_places 0 objects name place (subst (λ (ps : List ℕ). Contains ps place) (listed name) inside) in
          let same : i ≡ place = omega (arith, is) in
          let any = any_from_name found t.types name typed (among_from_contains found name among) in
          (t, subst (λ (j : ℕ). slice_get objects j ≡ Some t) same at, or_right none (object || has_any found t.types) (or_right object (has_any found t.types) any))),
      (λ p.
          let (t, at, ok) = p in
          let (typed_none, no_object) = or_parts none object some in
          let any : has_any found t.types ≡ true = rw (typed_none, no_object) at ok in
          let (name, typed, among) = some_name found t.types any in
          let there : Contains (items_of entries name) place =
          subst (λ (ps : List ℕ). Contains ps place) (sym (listed name))
          (subst (Contains (places_of 0 objects name)) (zero-add place) (to_places 0 objects name place t at typed)) in
          (are place).1 (to_flat_map (items_of entries) found name place (contains_from_among found name among) there)),
    ))
