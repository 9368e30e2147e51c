-- Lines of a log whose area grows, and lists from a place on.
use Rattle.std.proofs.Common.{◌≡◌, ℕ, suc, ◌+◌, ◌-◌, ◌<◌, ◌≤◌, List, [], ◌∷◌, ◌++◌, length, get_or, take, drop, Some, slice_get, refl, ap, ◌∙◌, add-one, arith}
use Rattle.std.specs.List.{slice_range}
use Rattle.std.specs.Option.{option_map}
use Rattle.std.proofs.Math.Seq.{drop-cons}
use Rattle.std.proofs.lemmas.List.{drop-append-le, length-drop, take-append-le}
use Rattle.std.proofs.lemmas.List.Elements.{All-head, All-tail}
use Rattle.std.proofs.lemmas.Option.{get_or_from_slice_get, slice_get-map, slice_get_read, slice_get_within}
use Rattle.mp_messages.specs.declared.history.Entry.TheVariants.{Put, Took}
use Rattle.mp_messages.specs.declared.lines.Line.{Line}
use Rattle.mp_messages.specs.declared.lines.Line.TheVariants as line
use Rattle.mp_messages.specs.LogFields.{AreInside, IsInside, entries_in, entry_in}

-- a part of an area stays when bytes follow
part_stays : (area more : List ℕ) (a b : ℕ) → a ≤ b → b ≤ length area → slice_range (area ++ more) a b ≡ slice_range area a b
part_stays area more a b order inside =
    ap (λ xs. take (b - a) xs) (drop-append-le a area more (omega arith))
    ∙ take-append-le (b - a) (drop a area) more (let long = length-drop a area in omega arith)

entry_stays : (area more : List ℕ) (l : Line) → IsInside (length area) l → entry_in (area ++ more) l ≡ entry_in area l
entry_stays area more (line.Act agent kind) inside = refl
entry_stays area more (line.Put from to p) inside = ap (λ (bytes : List ℕ). Put from to bytes) (part_stays area more p.start p.end inside.0 inside.1)
entry_stays area more (line.Took by from p) inside = ap (λ (bytes : List ℕ). Took by from bytes) (part_stays area more p.start p.end inside.0 inside.1)

pub entries_stay : (area more : List ℕ) (ls : List Line) → AreInside area ls → entries_in (area ++ more) ls ≡ entries_in area ls
entries_stay area more [] inside = refl
entries_stay area more (l ∷ ls) inside =
    let here = All-head (IsInside (length area)) l ls inside in
    λ j. entry_stays area more l here j ∷ entries_stay area more ls (All-tail (IsInside (length area)) l ls inside) j

-- a list from a place on begins with its item there
pub dropped : {X : Type 0} (xs : List X) (i : ℕ) (x : X) → slice_get xs i ≡ Some x → drop i xs ≡ x ∷ drop (i + 1) xs
dropped xs i x is =
    rw add-one (drop-cons xs i x (slice_get_within xs i x is) ∙ (λ j. get_or_from_slice_get xs i x x is j ∷ drop (suc i) xs))

-- what the line at a place shows
pub seen_at : (area : List ℕ) (ls : List Line) (at : ℕ) (l : Line) → at < length ls → l ≡ get_or ls at l
    → slice_get (entries_in area ls) at ≡ Some (entry_in area l)
seen_at area ls at l inside read =
    slice_get-map (entry_in area) ls at ∙ ap (option_map (entry_in area)) (slice_get_read ls (length ls) at l refl inside read)
