-- Faults are in a strict and total order, so that the earliest of some is their first.
use Rattle.mp_factor.proofs.Basics.{◌≡◌, ℕ, zero, suc, Bool, true, false, List, [], ◌∷◌, ◌++◌, Some, refl, arith, sym, ap, ◌∙◌, if◌then◌else◌, is_lt, nat_cmp, ordering_then, slice_cmp, Fault, FaultKind, Shape, Parameters, Cost}
use Rattle.mp_factor.proofs.Basics.{IsFirst, earlier_of, earliest_of}
use Rattle.std.proofs.Common.{⊎_elim}
use Rattle.std.specs.Prelude.{Contains}
use Rattle.std.proofs.lemmas.List.Elements.{Contains-append_cases, Contains-append_left, Contains-append_right}
use Rattle.mp_list.specs.First.{IsStrictOrder, IsTotal, leftmost}
use Rattle.mp_list.proofs.Orders.{is_less, strict_on, total_on, numbers_strict, numbers_total}
use Rattle.mp_list.proofs.FirstLemmas.{found_first}
use Rattle.mp_list.proofs.OneFirst.{first_is_one}
use Rattle.mp_forms.proofs.Fronts.{by_fronts}
use Rattle.mp_forms.specs.declared.fault.FaultKind.TheVariants.{Unsupported}
use Rattle.mp_forms.specs.Faults.{rank_of, order_of, is_earlier}

abbrev kind_of : ℕ → FaultKind
kind_of zero = Shape
kind_of (suc zero) = Unsupported
kind_of (suc (suc zero)) = Parameters
kind_of (suc (suc (suc n))) = Cost

kind_of-rank : (k : FaultKind) → kind_of (rank_of k) ≡ k
kind_of-rank k = grind arith

abbrev fault_of : List ℕ → Fault → Fault
fault_of (line ∷ column ∷ rank ∷ word) other =
    record { place = record { line = line; column = column }; kind = kind_of rank; word = word }
fault_of _ other = other

of_order : (a b : Fault) → fault_of (order_of a) b ≡ a
of_order a b = grind (arith, kind_of-rank)

apart : (a b : Fault) → order_of a ≡ order_of b → a ≡ b
apart a b e = sym (of_order a a) ∙ ap (λ (ns : List ℕ). fault_of ns a) e ∙ of_order b a

pub strict : IsStrictOrder is_earlier
unfolding is_earlier
strict = strict_on order_of (is_less (slice_cmp nat_cmp)) numbers_strict

total : IsTotal is_earlier
unfolding is_earlier
total = total_on order_of (is_less (slice_cmp nat_cmp)) numbers_total apart

-- the numbers that faults are compared by, without the word
abbrev pub numbers_of : Fault → List ℕ
numbers_of fault = fault.place.line ∷ fault.place.column ∷ rank_of fault.kind ∷ []

-- the numbers are compared, and then the words
pub earlier_by : (a b : Fault) → is_earlier a b
    ≡ is_lt (ordering_then (slice_cmp nat_cmp (numbers_of a) (numbers_of b)) (slice_cmp nat_cmp a.word b.word))
unfolding is_earlier
earlier_by a b = ap is_lt (by_fronts (numbers_of a) (numbers_of b) a.word b.word refl)

pub one_first : (faults : List Fault) (a b : Fault) → IsFirst faults a → IsFirst faults b → a ≡ b
one_first = first_is_one is_earlier total

-- ---- the earliest of some

leftmost_is : (fault : Fault) (others : List Fault) → leftmost is_earlier (Some fault) others ≡ Some (earliest_of fault others)
unfolding earlier_of
leftmost_is fault [] = refl
leftmost_is fault (f ∷ fs) = leftmost_is (if is_earlier f fault then f else fault) fs

pub earliest_first : (fault : Fault) (others : List Fault) → IsFirst (fault ∷ others) (earliest_of fault others)
earliest_first fault others = found_first is_earlier strict (fault ∷ others) (earliest_of fault others) (leftmost_is fault others)

-- of the first of some faults and that of others the earlier one is the first of all
earlier_first : (fs gs : List Fault) (f g : Fault) (b : Bool) → is_earlier g f ≡ b → IsFirst fs f → IsFirst gs g → IsFirst (fs ++ gs) (if b then g else f)
earlier_first fs gs f g true earlier first second =
    record {
      among = Contains-append_right fs gs g second.among;
      least = λ (other : Fault) (found : Contains (fs ++ gs) other).
          ⊎_elim (λ here. strict.passes other f g (first.least other here) (strict.turns g f earlier)) (second.least other)
          (Contains-append_cases fs gs other found);
    }
earlier_first fs gs f g false behind first second =
    record {
      among = Contains-append_left fs gs f first.among;
      least = λ (other : Fault) (found : Contains (fs ++ gs) other).
          ⊎_elim (first.least other) (λ there. strict.passes other g f (second.least other there) behind)
          (Contains-append_cases fs gs other found);
    }

pub earliest_append : (f g : Fault) (fs gs : List Fault) → earliest_of f (fs ++ g ∷ gs) ≡ earlier_of (earliest_of f fs) (earliest_of g gs)
unfolding earlier_of
earliest_append f g fs gs =
    let a = earliest_of f fs in
    let b = earliest_of g gs in
    one_first (f ∷ fs ++ g ∷ gs) (earliest_of f (fs ++ g ∷ gs)) (earlier_of a b) (earliest_first f (fs ++ g ∷ gs))
    (earlier_first (f ∷ fs) (g ∷ gs) a b (is_earlier b a) refl (earliest_first f fs) (earliest_first g gs))

pub earlier_assoc : (a b c : Fault) → earlier_of (earlier_of a b) c ≡ earlier_of a (earlier_of b c)
earlier_assoc a b c = earliest_append a b [] (c ∷ [])
