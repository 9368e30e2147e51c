-- Of some items one alone is the first by an order that is total, and it is the one that is found.
use Rattle.std.proofs.Common.{◌≡◌, Bool, List, Option, Some, None, refl, ap}
use Rattle.mp_list.specs.First.{IsFirst, IsStrictOrder, IsTotal, leftmost}
use Rattle.mp_list.proofs.FirstLemmas.{found_first, nothing_found, none_first}

pub first_is_one : {X : Type 0} (before : X → X → Bool) → IsTotal before → (items : List X) (a b : X)
    → IsFirst before items a → IsFirst before items b → a ≡ b
first_is_one before total items a b f g = total a b (g.least a f.among) (f.least b g.among)

found_by : {X : Type 0} (before : X → X → Bool) → IsStrictOrder before → IsTotal before → (items : List X) (first : X)
    → (answer : Option X) → leftmost before None items ≡ answer → IsFirst before items first → answer ≡ Some first
found_by before order total items first None e is = absurd (none_first before items first (nothing_found before items e) is)
found_by before order total items first (Some f) e is =
    ap Some (first_is_one before total items f first (found_first before order items f e) is)

-- the first is what is found
pub first_found : {X : Type 0} (before : X → X → Bool) → IsStrictOrder before → IsTotal before → (items : List X) (first : X)
    → IsFirst before items first → leftmost before None items ≡ Some first
first_found before order total items first is = found_by before order total items first (leftmost before None items) refl is
