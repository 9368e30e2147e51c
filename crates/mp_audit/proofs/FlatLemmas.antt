-- Lists that lie one behind another: which one stands in a place, some of them, and one more.
use Rattle.std.proofs.Common.{◌≡◌, ℕ, zero, suc, ◌+◌, ◌-◌, ◌<◌, ◌≤◌, List, [], ◌∷◌, ◌++◌, length, take, drop, slice_get, Some, All, refl, sym, ap, ◌∙◌, subst, arith, length-append, length-drop}
use Rattle.std.proofs.lemmas.List.{drop_at, take_all, take-append-le, drop-append-le}
use Rattle.std.proofs.lemmas.List.Elements.{All-take, All-drop, All-push}
use Rattle.std.proofs.lemmas.Option.{slice_get_within, get_or_from_slice_get}
use Rattle.std.specs.Prelude.{slice_index, slice_range}
use Rattle.std.specs.List.Sorted.{IsStrictlyIncreasing}
use Rattle.mp_audit.specs.Flat.{cut, start_at, AreCut, AreWithin, FillsAll}

pub length_cut : (start : ℕ) (ends numbers : List ℕ) → length (cut start ends numbers) ≡ length ends
length_cut start [] numbers = refl
length_cut start (end ∷ ends) numbers = ap suc (length_cut end ends numbers)

pub place_within : (start : ℕ) (ends numbers : List ℕ) (k n : ℕ) → length (cut start ends numbers) ≡ n → k < n → k < length ends
place_within start ends numbers k n is h = omega (arith, length_cut start ends numbers)

-- where a list begins, the one before it ends
pub start_next : (end : ℕ) (ends : List ℕ) (k : ℕ) → start_at end ends k ≡ slice_index (end ∷ ends) k
start_next end ends zero = refl
start_next end ends (suc k) = refl

pub start_behind : (start : ℕ) (ends : List ℕ) (k : ℕ) → start_at start ends (k + 1) ≡ slice_index ends k
start_behind start ends k =
    let next : k + 1 ≡ suc k = omega arith in
    ap (start_at start ends) next

-- the list in a place
pub list_at : (start : ℕ) (ends numbers : List ℕ) (k : ℕ) → k < length ends → slice_get (cut start ends numbers) k ≡ Some (slice_range numbers (start_at start ends k) (slice_index ends k))
list_at start [] numbers k h = absurd (omega arith)
list_at start (end ∷ ends) numbers zero h = refl
list_at start (end ∷ ends) numbers (suc k) h =
    let next : slice_get (cut end ends numbers) k ≡ Some (slice_range numbers (start_at end ends k) (slice_index ends k)) = list_at end ends numbers k (omega arith) in
    next ∙ ap (λ (from : ℕ). Some (slice_range numbers from (slice_index ends k))) (start_next end ends k)

pub list_behind : (start : ℕ) (ends numbers : List ℕ) (k : ℕ) → k + 1 < length ends → slice_get (cut start ends numbers) (k + 1) ≡ Some (slice_range numbers (slice_index ends k) (slice_index ends (k + 1)))
list_behind start ends numbers k h =
    list_at start ends numbers (k + 1) h ∙ ap (λ (from : ℕ). Some (slice_range numbers from (slice_index ends (k + 1)))) (start_behind start ends k)

-- it lies in the numbers
pub start_within : (start : ℕ) (ends : List ℕ) (size : ℕ) → AreWithin start ends size → start ≤ size
start_within start [] size within = within
start_within start (end ∷ ends) size within =
    let later : end ≤ size = start_within end ends size within.1 in
    let first : start ≤ end = within.0 in
    omega arith

pub within_at : (start : ℕ) (ends : List ℕ) (size k : ℕ) → k < length ends → AreWithin start ends size → (start_at start ends k ≤ slice_index ends k) × (slice_index ends k ≤ size)
within_at start [] size k h within = absurd (omega arith)
within_at start (end ∷ ends) size zero h within = (within.0, start_within end ends size within.1)
within_at start (end ∷ ends) size (suc k) h within =
    let next = within_at end ends size k (omega arith) within.1 in
    (subst (λ (from : ℕ). from ≤ slice_index ends k) (start_next end ends k) next.0, next.1)

pub within_behind : (start : ℕ) (ends : List ℕ) (size k : ℕ) → k + 1 < length ends → AreWithin start ends size → (slice_index ends k ≤ slice_index ends (k + 1)) × (slice_index ends (k + 1) ≤ size)
within_behind start ends size k h within =
    let at = within_at start ends size (k + 1) h within in
    (subst (λ (from : ℕ). from ≤ slice_index ends (k + 1)) (start_behind start ends k) at.0, at.1)

-- and rises
pub rising_at : (lists : List (List ℕ)) (k : ℕ) (list : List ℕ) → All IsStrictlyIncreasing lists → slice_get lists k ≡ Some list → IsStrictlyIncreasing list
rising_at lists k list rise is =
    subst IsStrictlyIncreasing (get_or_from_slice_get lists k list [] is) (rise k [] (slice_get_within lists k list is))

-- ---- some of the lists

first_cut : (start : ℕ) (ends numbers : List ℕ) (count : ℕ) → take count (cut start ends numbers) ≡ cut start (take count ends) numbers
first_cut start ends numbers zero = refl
first_cut start [] numbers (suc count) = refl
first_cut start (end ∷ ends) numbers (suc count) = ap (λ (lists : List (List ℕ)). slice_range numbers start end ∷ lists) (first_cut end ends numbers count)

none_left : (start : ℕ) (count : ℕ) (numbers : List ℕ) → take count [] ≡ cut start (take count []) numbers
none_left start zero numbers = refl
none_left start (suc count) numbers = refl

pub part_cut : (start : ℕ) (ends numbers : List ℕ) (first count : ℕ) → take count (drop first (cut start ends numbers)) ≡ cut (start_at start ends first) (take count (drop first ends)) numbers
part_cut start ends numbers zero count = first_cut start ends numbers count
part_cut start [] numbers (suc first) count = none_left (slice_index [] first) count numbers
part_cut start (end ∷ ends) numbers (suc first) count =
    part_cut end ends numbers first count
    ∙ ap (λ (from : ℕ). cut from (take count (drop first ends)) numbers) (start_next end ends first)

first_within : (start : ℕ) (ends : List ℕ) (size count : ℕ) → AreWithin start ends size → AreWithin start (take count ends) size
first_within start ends size zero within = start_within start ends size within
first_within start [] size (suc count) within = within
first_within start (end ∷ ends) size (suc count) within = (within.0, first_within end ends size count within.1)

part_within : (start : ℕ) (ends : List ℕ) (size first count : ℕ) → first ≤ length ends → AreWithin start ends size → AreWithin (start_at start ends first) (take count (drop first ends)) size
part_within start ends size zero count h within = first_within start ends size count within
part_within start [] size (suc first) count h within = absurd (omega arith)
part_within start (end ∷ ends) size (suc first) count h within =
    subst (λ (from : ℕ). AreWithin from (take count (drop first ends)) size) (start_next end ends first)
    (part_within end ends size first count (omega arith) within.1)

pub part_is_cut : (start : ℕ) (ends numbers : List ℕ) (first count : ℕ) → first ≤ length ends → AreCut start ends numbers → AreCut (start_at start ends first) (take count (drop first ends)) numbers
part_is_cut start ends numbers first count h are = record {
  within = part_within start ends (length numbers) first count h are.within;
  rise =
      subst (All IsStrictlyIncreasing) (part_cut start ends numbers first count)
      (All-take IsStrictlyIncreasing count (drop first (cut start ends numbers)) (All-drop IsStrictlyIncreasing first (cut start ends numbers) are.rise));
}

-- ---- one list more

-- what a list has stays where numbers follow
range_kept : (numbers more : List ℕ) (start end : ℕ) → start ≤ end → end ≤ length numbers → slice_range (numbers ++ more) start end ≡ slice_range numbers start end
range_kept numbers more start end h k =
    let room : end - start ≤ length (drop start numbers) = omega (arith, length-drop start numbers) in
    let cut_off : drop start (numbers ++ more) ≡ drop start numbers ++ more = drop-append-le start numbers more (omega arith) in
    ap (take (end - start)) cut_off ∙ take-append-le (end - start) (drop start numbers) more room

range_added : (numbers more : List ℕ) (start end : ℕ) → start ≡ length numbers → end ≡ length numbers + length more → slice_range (numbers ++ more) start end ≡ more
range_added numbers more start end h k =
    let room : length more ≤ end - start = omega arith in
    let cut_off : drop start (numbers ++ more) ≡ more = drop_at numbers more start (sym h) in
    ap (take (end - start)) cut_off ∙ take_all (end - start) more room

pub cut_push : (start : ℕ) (ends numbers list : List ℕ) (end : ℕ) → end ≡ length numbers + length list → AreWithin start ends (length numbers) → start_at start ends (length ends) ≡ length numbers → cut start (ends ++ end ∷ []) (numbers ++ list) ≡ cut start ends numbers ++ list ∷ []
cut_push start [] numbers list end is within all = ap (λ (added : List ℕ). added ∷ []) (range_added numbers list start end all is)
cut_push start (next ∷ ends) numbers list end is within all =
    let kept = range_kept numbers list start next within.0 (start_within next ends (length numbers) within.1) in
    let later = cut_push next ends numbers list end is within.1 (start_next next ends (length ends) ∙ all) in
    ap (λ (first : List ℕ). first ∷ cut next (ends ++ end ∷ []) (numbers ++ list)) kept
    ∙ ap (λ (others : List (List ℕ)). slice_range numbers start next ∷ others) later

within_push : (start : ℕ) (ends : List ℕ) (size end : ℕ) → size ≤ end → AreWithin start ends size → AreWithin start (ends ++ end ∷ []) end
within_push start [] size end h within = (let first : start ≤ size = within in omega arith, omega arith)
within_push start (next ∷ ends) size end h within = (within.0, within_push next ends size end h within.1)

last_push : (start : ℕ) (ends : List ℕ) (end : ℕ) → start_at start (ends ++ end ∷ []) (length (ends ++ end ∷ [])) ≡ end
last_push start [] end = refl
last_push start (next ∷ ends) end = sym (start_next next (ends ++ end ∷ []) (length (ends ++ end ∷ []))) ∙ last_push next ends end

pub fills_push : (ends numbers list : List ℕ) (end : ℕ) → end ≡ length numbers + length list → IsStrictlyIncreasing list → FillsAll ends numbers → FillsAll (ends ++ end ∷ []) (numbers ++ list)
fills_push ends numbers list end is rises fills =
    let size : end ≡ length (numbers ++ list) = is ∙ sym (length-append numbers list) in
    record {
      are_cut = record {
        within =
            subst (AreWithin 0 (ends ++ end ∷ [])) size
            (within_push 0 ends (length numbers) end (omega arith) fills.are_cut.within);
        rise =
            subst (All IsStrictlyIncreasing) (sym (cut_push 0 ends numbers list end is fills.are_cut.within fills.all))
            (All-push IsStrictlyIncreasing (cut 0 ends numbers) list fills.are_cut.rise rises);
      };
      all = last_push 0 ends end ∙ size;
    }
