-- Faults are in a strict and total order, so that the earliest of some is their first.
use Rattle.mp_typing.proofs.Basics.{◌≡◌, ℕ, zero, suc, List, ◌∷◌, refl, sym, ap, ◌∙◌, is_lt, nat_cmp, ordering_then, slice_cmp, File, Domain, Fault, FaultKind, WrongDomain, Unknown, Arity, Twice}
use Rattle.mp_typing.proofs.Basics.{is_earlier, order_by, IsFirst}
use Rattle.mp_list.specs.First.{IsStrictOrder, IsTotal}
use Rattle.mp_list.proofs.Orders.{is_less, strict_on, total_on, numbers_strict, numbers_total}
use Rattle.mp_list.proofs.OneFirst.{first_is_one}
use Rattle.mp_forms.proofs.Fronts.{by_fronts}
use Rattle.mp_forms.specs.declared.files.File.TheVariants.{Problem}
use Rattle.mp_typing.specs.Faults.{rank_of, file_rank_of, order_of}

-- ---- the order

kind_of : ℕ → FaultKind
kind_of zero = WrongDomain
kind_of (suc zero) = Unknown
kind_of (suc (suc zero)) = Arity
kind_of (suc (suc (suc n))) = Twice

kind_of-rank : (k : FaultKind) → kind_of (rank_of k) ≡ k
unfolding kind_of
kind_of-rank WrongDomain = refl
kind_of-rank Unknown = refl
kind_of-rank Arity = refl
kind_of-rank Twice = refl

file_of : ℕ → File
file_of zero = Domain
file_of (suc n) = Problem

file_of-rank : (f : File) → file_of (file_rank_of f) ≡ f
unfolding file_of
file_of-rank Domain = refl
file_of-rank Problem = refl

-- the fault that is compared by these numbers
abbrev fault_by : List ℕ → Fault → Fault
fault_by (stage ∷ file ∷ line ∷ column ∷ rank ∷ name) other =
    record { kind = kind_of rank; found = record { file = file_of file; at = record { line = line; column = column }; name = name } }
fault_by _ other = other

of_order : (a b : Fault) → fault_by (order_of a) b ≡ a
of_order a b = rw (kind_of-rank a.kind, file_of-rank a.found.file) refl

apart : (a b : Fault) → order_of a ≡ order_of b → a ≡ b
apart a b e = sym (of_order a a) ∙ ap (λ (ns : List ℕ). fault_by ns a) e ∙ of_order b a

pub strict : IsStrictOrder is_earlier
unfolding is_earlier
strict = strict_on order_of (is_less (slice_cmp nat_cmp)) numbers_strict

total : IsTotal is_earlier
unfolding is_earlier
total = total_on order_of (is_less (slice_cmp nat_cmp)) numbers_total apart

-- ---- the first fault

pub one_first : (faults : List Fault) (a b : Fault) → IsFirst faults a → IsFirst faults b → a ≡ b
one_first = first_is_one is_earlier total

-- ---- two faults compared

-- the numbers are compared, and then the names
pub earlier_by : (a b : Fault) → is_earlier a b
    ≡ is_lt (ordering_then (slice_cmp nat_cmp (order_by a.kind a.found.file a.found.at) (order_by b.kind b.found.file b.found.at)) (slice_cmp nat_cmp a.found.name b.found.name))
unfolding is_earlier
earlier_by a b =
    ap is_lt (by_fronts (order_by a.kind a.found.file a.found.at) (order_by b.kind b.found.file b.found.at) a.found.name b.found.name refl)
