-- Numbers and the queue of a table that is being settled.
use Rattle.std.proofs.Common.{◌≡◌, ℕ, ◌+◌, ◌-◌, ◌^◌, ◌<◌, ◌≤◌, min, Some, option_map, List, ◌∷◌, Contains, IsTrue, sym, ap, ◌∙◌, subst, ⊎_elim, arith}
use Rattle.std.proofs.lemmas.Bool.{cases_eq, cases_order, cases_lt}
use Rattle.std.specs.List.Sorted.{IsPermutation}
use Rattle.std.specs.Prelude.{bit_and, bit_or}
use Rattle.mp_estimates.specs.Estimates.{AtMost, Values}
use Rattle.mp_estimates.specs.Laws.Order.{AtMost-trans, plus-mono}
use Rattle.mp_estimates.proofs.LoweringLemmas.{known-none, known-some, popped_quiet}
use Rattle.mp_pdb.specs.declared.moves.Move.{Move}
use Rattle.mp_pdb.specs.Moves.{after_move, has_all}
use Rattle.mp_estimates.specs.Lowering.{unknown, known, number_at, Key, key, HaveFallen}
use Rattle.mp_pdb.specs.Table.{AreLow, IsServed, AreReached}
use Rattle.mp_pdb.proofs.MaskLemmas.{and_twice}
use Rattle.mp_pdb.proofs.PartLemmas.{greatest_below}

-- an entry that is out of date was none
pub served_stale : (numbers : List ℕ) (queue rest : List Key) (cost x : ℕ) (move : Move) (mask : ℕ) → IsPermutation queue (key cost x ∷ rest) → (number_at numbers x ≡ cost → ⊥) → IsServed numbers queue move mask → IsServed numbers rest move mask
served_stale numbers queue rest cost x move mask popped other served ready still =
    served ready (popped_quiet numbers queue rest cost x (after_move move mask) popped (λ e f. other (sym (ap (number_at numbers) e) ∙ f)) still)

-- a set has been settled, and the sets before it have been reached
pub served_settled : (size : ℕ) (numbers : List ℕ) (queue rest : List Key) (cost x : ℕ) (new : List ℕ) (after : List Key) (move : Move) (mask : ℕ) → IsPermutation queue (key cost x ∷ rest) → number_at numbers x ≡ cost → HaveFallen numbers rest new after → AreReached size new move x (move.cost + cost) → mask < size → IsServed numbers queue move mask → IsServed new after move mask
served_settled size numbers queue rest cost x new after move mask popped is fallen reached within served ready still = ⊎_elim
    (λ e.
    let low = reached mask within ready e in
    let same = (fallen.quiet (after_move move mask) still).0 in
    let at = ap (number_at numbers) e in
    omega arith)
    (λ ne.
    let calm = fallen.quiet (after_move move mask) still in
    let before = served ready (popped_quiet numbers queue rest cost x (after_move move mask) popped (λ e _. ne e) calm.1) in
    let same = calm.0 in
    let lower = fallen.lower mask in
    omega arith)
    (cases_eq (after_move move mask) x)

-- values that moves keep low are at most the numbers by a move
pub low_by_move : (size : ℕ) (moves : List Move) (values : Values) (move : Move) (mask to number cost : ℕ) → AreLow size moves values → Contains moves move → mask < size → IsTrue (has_all mask move.pre) → after_move move mask ≡ to → AtMost (values to) (known number) → cost ≡ min (move.cost + number) unknown → AtMost (values mask) (known cost)
low_by_move size moves values move mask to number cost low among within ready leads below is = ⊎_elim
    (λ small.
    let same : cost ≡ move.cost + number = omega arith in
    subst (AtMost (values mask)) (sym (known-some cost (omega arith) ∙ ap Some same))
    (AtMost-trans (values mask) (option_map (λ c. move.cost + c) (values to)) (Some (move.cost + number))
    (subst (λ n. AtMost (values mask) (option_map (λ c. move.cost + c) (values n))) leads (low mask move among within ready))
    (subst (λ o. AtMost (option_map (λ c. move.cost + c) (values to)) (option_map (λ c. move.cost + c) o)) (known-some number (omega arith))
    (plus-mono move.cost (values to) (known number) below))))
    (λ great. subst (AtMost (values mask)) (sym (known-none cost (omega arith))) tt)
    (cases_lt (move.cost + number) unknown)

-- the parts of a mask are gone through

pub done_more : (free fixed part cost : ℕ) (old new : List ℕ) → part < 2 ^ 16 → bit_and part free ≡ part → ((x : ℕ) → number_at new x ≤ number_at old x) → number_at new (bit_or fixed part) ≤ cost → ((p : ℕ) → bit_and p free ≡ p → part < p → number_at old (bit_or fixed p) ≤ cost) → (p : ℕ) → bit_and p free ≡ p → bit_and (part - 1) free < p → number_at new (bit_or fixed p) ≤ cost
done_more free fixed part cost old new small part_is lower lowered done p is_part less = ⊎_elim
    (λ e. subst (λ q. number_at new (bit_or fixed q) ≤ cost) (sym e) lowered)
    (λ other. ⊎_elim
    (λ below. absurd (let le = greatest_below 16 free part p small part_is is_part below in omega arith))
    (λ above. let before = done p is_part above in let now = lower (bit_or fixed p) in omega arith)
    other)
    (cases_order p part)

pub done_all : (free fixed part cost : ℕ) (old new : List ℕ) (mask : ℕ) → part ≡ 0 → ((x : ℕ) → number_at new x ≤ number_at old x) → number_at new (bit_or fixed part) ≤ cost → ((p : ℕ) → bit_and p free ≡ p → part < p → number_at old (bit_or fixed p) ≤ cost) → number_at new (bit_or fixed (bit_and mask free)) ≤ cost
done_all free fixed part cost old new mask none lower lowered done = ⊎_elim
    (λ e. subst (λ q. number_at new (bit_or fixed q) ≤ cost) (none ∙ sym e) lowered)
    (λ some. let before = done (bit_and mask free) (and_twice mask free) (omega arith) in let now = lower (bit_or fixed (bit_and mask free)) in omega arith)
    (cases_eq (bit_and mask free) 0)
