-- Which of the facts that were met are true.
use Rattle.std.specs.Prelude.{ℕ, ◌≡◌, Bool, false, List, filter, slice_index_or}
use Rattle.mp_checker.specs.declared.fact.FactNumbers.{FactNumbers}
use Rattle.mp_checker.specs.declared.facts.Facts.{Facts}
use Rattle.mp_checker.specs.At.{is_true}
use Rattle.mp_checker.specs.Places.{place}

-- whether a number is marked; none past the end is
abbrev pub is_marked : List Bool → ℕ → Bool
is_marked marks number = slice_index_or marks number false

-- those of these facts whose numbers are marked
abbrev pub marked : List FactNumbers → List Bool → List FactNumbers
marked known marks = filter (λ f. is_marked marks (place known f)) known

-- the facts that are true
unfoldable pub true_facts : Facts → List FactNumbers
true_facts facts = marked facts.known.keys facts.marks.items

-- the same facts are true
abbrev pub HaveStayed : Facts → Facts → Type 0
HaveStayed old new = (f : FactNumbers) → is_true (true_facts new) f ≡ is_true (true_facts old) f
