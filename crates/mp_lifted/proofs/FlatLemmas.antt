-- Flat bindings: with one more, those before it keep their objects.
use Rattle.mp_lifted.proofs.Basics.{◌≡◌, ℕ, ◌+◌, ◌-◌, List, [], ◌∷◌, ◌++◌, All, length, map, drop, take, refl, ap, ◌∙◌, arith, map-append, take_all, Head}
use Rattle.std.proofs.lemmas.List.{drop_at, drop-append-le, take-append-le, length-drop}
use Rattle.std.proofs.lemmas.List.Elements.{All-head, All-tail}
use Rattle.mp_lifted.specs.Flat.{with_objects, IsWithin}

one_kept : (objects new : List ℕ) (head : Head) → IsWithin (length objects) head → with_objects (objects ++ new) head ≡ with_objects objects head
one_kept objects new head within =
    let same = ap (take (head.end - head.start)) (drop-append-le head.start objects new (omega (arith, within.0, within.1)))
    ∙ take-append-le (head.end - head.start) (drop head.start objects) new (omega (arith, within.1, length-drop head.start objects)) in
    λ i. record { action = head.action; objects = same i; cost = head.cost }

all_kept : (objects new : List ℕ) (heads : List Head) → All (IsWithin (length objects)) heads
    → map (with_objects (objects ++ new)) heads ≡ map (with_objects objects) heads
all_kept objects new [] within = refl
all_kept objects new (head ∷ heads) within =
    let one = one_kept objects new head (All-head (IsWithin (length objects)) head heads within) in
    let rest = all_kept objects new heads (All-tail (IsWithin (length objects)) head heads within) in
    λ i. one i ∷ rest i

-- a head of objects that are added behind the others
abbrev pub added : ℕ → ℕ → List ℕ → List ℕ → Head
added action cost objects new =
    record { action = action; start = length objects; end = length objects + length new; cost = cost }

pub one_more : (action cost : ℕ) (objects new : List ℕ) (heads : List Head) → All (IsWithin (length objects)) heads
    → map (with_objects (objects ++ new)) (heads ++ added action cost objects new ∷ [])
    ≡ map (with_objects objects) heads ++ record { action = action; objects = new; cost = cost } ∷ []
one_more action cost objects new heads within =
    let all : take (length objects + length new - length objects) (drop (length objects) (objects ++ new)) ≡ new =
    ap (take (length objects + length new - length objects)) (drop_at objects new (length objects) refl)
    ∙ take_all (length objects + length new - length objects) new (omega arith) in
    map-append (with_objects (objects ++ new)) heads (added action cost objects new ∷ [])
    ∙ (λ i. all_kept objects new heads within i ++ record { action = action; objects = all i; cost = cost } ∷ [])
