-- The numbered facts, by their names, are a listing of the counted ones.
use Rattle.mp_ground_laws.proofs.Basics.{◌≡◌, ℕ, Bool, List, [], ◌∷◌, map, filter, All, sym, ◌∙◌, subst, arith, All-map, All-tail, Factor, SignedFact, OpenView, lifted_factor, setting_of, instances}
use Rattle.mp_ground_laws.proofs.Basics.{GroundFact, fact_cmp, counted, IsChecked, counted_facts, signed_cmp, signed_fact, IsOfFactor}
use Rattle.std.proofs.Common.{Less}
use Rattle.std.proofs.lemmas.List.Elements.{All-contains, All-from_recursion, Contains-get_or, recursion_from_All}
use Rattle.std.proofs.lemmas.List.Kept.{IsStrictlySortedBy-filter}
use Rattle.std.specs.List.Sorted.{IsStrictlySortedBy}
use Rattle.std.specs.Prelude.{Contains}
use Rattle.mp_ground_laws.specs.Listing.{IsListing}
use Rattle.mp_ground_laws.specs.Numbered.{AreNumbered}
use Rattle.mp_ground_laws.proofs.Counted.{all_counted}
use Rattle.mp_ground_laws.proofs.Ordered.{counted_stand, same_order}
use Rattle.mp_ground_laws.proofs.Parts.{HasParts, parts_of}
use Rattle.mp_list.proofs.Members.{from_map, to_map}
use Rattle.mp_typing.proofs.Passing.{taken_from_passes, taken_passes}

-- ---- members

-- lists with the same members have the same images
same_images : {X Y : Type 0} (f : X → Y) (xs ys : List X) → ((x : X) → Contains xs x → Contains ys x) → (y : Y) → Contains (map f xs) y → Contains (map f ys) y
same_images f xs ys each y found =
    let from = from_map f xs y found in
    subst (Contains (map f ys)) from.2 (to_map f ys from.0 (each from.0 from.1))

-- ---- facts that rise in numbers rise by name

rising_names : (agent : ℕ) (factor : Factor) (view : OpenView) (fs : List GroundFact) → HasParts factor → All (IsOfFactor factor view) fs
    → IsStrictlySortedBy fact_cmp fs → IsStrictlySortedBy (signed_cmp factor) (map (signed_fact agent factor) fs)
unfolding IsStrictlySortedBy
rising_names agent factor view [] parts all h = tt
rising_names agent factor view (f ∷ fs) parts all h =
    let rest = All-tail (IsOfFactor factor view) f fs all in
    let name = signed_fact agent factor in
    let behind : All (λ g. signed_cmp factor (name f) (name g) ≡ Less) fs =
    λ k d less. same_order agent factor view f _ parts (all 0 f (omega arith)) (rest k d less) ∙ All-from_recursion (λ g. fact_cmp f g ≡ Less) fs h.0 k d less in
    (recursion_from_All _ (map name fs) (All-map (λ y. signed_cmp factor (name f) y ≡ Less) name fs behind), rising_names agent factor view fs parts rest h.1)

-- ---- the listing

of_factor : (factor : Factor) (view : OpenView) (facts : List GroundFact) → IsChecked factor → AreNumbered factor view facts → All (IsOfFactor factor view) facts
of_factor factor view facts checked h k d less =
    All-contains (IsOfFactor factor view) _ _ (all_counted factor view checked) ((h.exact _).0 (Contains-get_or facts k d less))

pub listed : (agent : ℕ) (factor : Factor) (view : OpenView) (facts : List GroundFact) (test : SignedFact → Bool) → IsChecked factor → AreNumbered factor view facts
    → IsListing (signed_cmp factor) test (counted_facts agent factor (setting_of agent factor view)) (filter test (map (signed_fact agent factor) facts))
listed agent factor view facts test checked h =
    let all = counted (lifted_factor factor view) (instances (lifted_factor factor view)) in
    let named = map (signed_fact agent factor) facts in
    let same = counted_stand agent factor view checked in
    record {
      rising = IsStrictlySortedBy-filter (signed_cmp factor) test named
          (rising_names agent factor view facts (parts_of factor checked.no_fault) (of_factor factor view facts checked h) h.rising);
      exact = λ x. (
        λ found.
            let from = taken_passes test named x found in
            (subst (λ xs. Contains xs x) same (same_images (signed_fact agent factor) facts all (λ f. (h.exact f).0) x from.0), from.1),
        λ found.
            taken_from_passes test named x (same_images (signed_fact agent factor) all facts (λ f. (h.exact f).1) x (subst (λ xs. Contains xs x) (sym same) found.0)) found.1,
      );
    }
