-- Places of nodes that are changed: one is emptied, one is filled, and two lists of places become one.
use Rattle.std.proofs.Common.{◌≡◌, ◌⊎◌, inl, inr, ℕ, zero, suc, ◌<◌, [], ◌∷◌, length, get_or, set, Some, None, refl, sym, ap, ◌∙◌, arith}
use Rattle.std.specs.Prelude.{Option}
use Rattle.std.specs.Option.{option_map}
use Rattle.std.proofs.lemmas.Option.{none-some}
use Rattle.mp_nodes.specs.Nodes.{Orders, SeenNode, node_at, orders}
use Rattle.mp_team.specs.Joined.{either_node, either_nodes}
use Rattle.mp_team.specs.Kept.{AreKept, HasOrders, Places, orders_at}

-- ---- two lists of places

pub either_length : (ns ms : Places) → length (either_nodes ns ms) ≡ length ns
either_length [] ms = refl
either_length (n ∷ ns) [] = refl
either_length (n ∷ ns) (m ∷ ms) = ap suc (either_length ns ms)

each_either : (ns ms : Places) → length ms ≡ length ns → (k : ℕ)
    → get_or (either_nodes ns ms) k None ≡ either_node (get_or ns k None) (get_or ms k None)
each_either [] [] same k = refl
each_either [] (m ∷ ms) same k = absurd (omega arith)
each_either (n ∷ ns) [] same k = absurd (omega arith)
each_either (n ∷ ns) (m ∷ ms) same zero = refl
each_either (n ∷ ns) (m ∷ ms) same (suc k) = each_either ns ms (omega arith) k

pub either_at : (ns ms : Places) → length ms ≡ length ns → (agent : ℕ)
    → node_at (either_nodes ns ms) agent ≡ either_node (node_at ns agent) (node_at ms agent)
either_at ns ms same zero = refl
either_at ns ms same (suc k) = each_either ns ms same k

some_one : (x y : Option SeenNode) (o : Orders) → (option_map orders x ≡ Some o) ⊎ (option_map orders y ≡ Some o)
    → (other : Orders) × (option_map orders (either_node x y) ≡ Some other)
some_one (Some n) y o e = (orders n, refl)
some_one None y o (inl e) = absurd (none-some o e)
some_one None y o (inr e) = (o, e)

which_one : (x y : Option SeenNode) (o : Orders) → option_map orders (either_node x y) ≡ Some o
    → (option_map orders x ≡ Some o) ⊎ (option_map orders y ≡ Some o)
which_one (Some n) y o e = inl e
which_one None y o e = inr e

-- the agents of both are kept
pub either_kept : (ns ms : Places) → length ms ≡ length ns → AreKept (ns ∷ ms ∷ []) (either_nodes ns ms ∷ [])
either_kept ns ms same = record { there = λ agent h. forth agent h.0 h.1; orders = back }
  where
    pair : (agent : ℕ) (o : Orders) → HasOrders agent o (ns ∷ ms ∷ []) → (orders_at ns agent ≡ Some o) ⊎ (orders_at ms agent ≡ Some o)
    pair agent o (inl e) = inl e
    pair agent o (inr (inl e)) = inr e
    pair agent o (inr (inr h)) = absurd h

    forth : (agent : ℕ) (o : Orders) → HasOrders agent o (ns ∷ ms ∷ [])
        → (other : Orders) × HasOrders agent other (either_nodes ns ms ∷ [])
    forth agent o h =
        let one = some_one (node_at ns agent) (node_at ms agent) o (pair agent o h) in
        (one.0, inl (ap (option_map orders) (either_at ns ms same agent) ∙ one.1))

    unpair : (agent : ℕ) (o : Orders) → (orders_at ns agent ≡ Some o) ⊎ (orders_at ms agent ≡ Some o) → HasOrders agent o (ns ∷ ms ∷ [])
    unpair agent o (inl e) = inl e
    unpair agent o (inr e) = inr (inl e)

    back : (agent : ℕ) (o : Orders) → HasOrders agent o (either_nodes ns ms ∷ []) → HasOrders agent o (ns ∷ ms ∷ [])
    back agent o (inr h) = absurd h
    back agent o (inl e) = unpair agent o
        (which_one (node_at ns agent) (node_at ms agent) o (sym (ap (option_map orders) (either_at ns ms same agent)) ∙ e))

-- ---- both, place by place

-- those for the first so many places, and of the first for the others
abbrev pub either_first : ℕ → Places → Places → Places
either_first zero ns ms = ns
either_first (suc i) [] ms = []
either_first (suc i) (n ∷ ns) [] = n ∷ ns
either_first (suc i) (n ∷ ns) (m ∷ ms) = either_node n m ∷ either_first i ns ms

pub one_more : (i : ℕ) (ns ms : Places) → i < length ns → i < length ms
    → either_first (suc i) ns ms ≡ set (either_first i ns ms) i (either_node (get_or ns i None) (get_or ms i None))
one_more i [] ms low high = absurd (omega arith)
one_more i (n ∷ ns) [] low high = absurd (omega arith)
one_more zero (n ∷ ns) (m ∷ ms) low high = refl
one_more (suc i) (n ∷ ns) (m ∷ ms) low high = ap (λ l. either_node n m ∷ l) (one_more i ns ms (omega arith) (omega arith))

pub not_yet : (i : ℕ) (ns ms : Places) → get_or (either_first i ns ms) i None ≡ get_or ns i None
not_yet zero ns ms = refl
not_yet (suc i) [] ms = refl
not_yet (suc i) (n ∷ ns) [] = refl
not_yet (suc i) (n ∷ ns) (m ∷ ms) = not_yet i ns ms

pub at_end : (ns ms : Places) → length ms ≡ length ns → either_first (length ns) ns ms ≡ either_nodes ns ms
at_end [] [] same = refl
at_end [] (m ∷ ms) same = absurd (omega arith)
at_end (n ∷ ns) [] same = absurd (omega arith)
at_end (n ∷ ns) (m ∷ ms) same = ap (λ l. either_node n m ∷ l) (at_end ns ms (omega arith))

pub first_length : (i : ℕ) (ns ms : Places) → length (either_first i ns ms) ≡ length ns
first_length zero ns ms = refl
first_length (suc i) [] ms = refl
first_length (suc i) (n ∷ ns) [] = refl
first_length (suc i) (n ∷ ns) (m ∷ ms) = ap suc (first_length i ns ms)
