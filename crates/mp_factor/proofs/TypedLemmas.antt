-- Typed lists, as a loop reads them: group by group, where the items of a group have one type.
use Rattle.mp_factor.proofs.Basics.{◌≡◌, ℕ, suc, ◌+◌, ◌<◌, ◌≤◌, Bool, true, false, ◌&&◌, ◌||◌, List, [], ◌∷◌, ◌++◌, map, length, take, drop, Result, Ok, Err, refl, sym, ◌∙◌, arith, ◌==◌}
use Rattle.mp_factor.proofs.Basics.{if◌then◌else◌, IfOk, eqb-true, append-nil, append_assoc, Place, Tree, Node, node_of, nodes_in, Fault, Word, Typed, Reading, misshapen, said, each, found_in, both_found, said_found, more_found}
use Rattle.mp_factor.proofs.Basics.{second_found, group_size, items_found, AreBehindItems, Listing, Declared, typed_of, is_dash, with_type, with_item, with_block, typed_from, type_first, typed_rule}
use Rattle.mp_factor.specs.FoundForms.{ends, group_found}
use Rattle.mp_factor.proofs.FirstLemmas.{earlier_assoc}
use Rattle.mp_factor.proofs.FoundLemmas.{found_both, found_said, found_each, begins}
use Rattle.std.proofs.Common.{None, Some, cond, ltb, not}
use Rattle.std.proofs.lemmas.Bool.{ltb-false, or_parts}
use Rattle.std.proofs.lemmas.List.Sums.{prefix_len-le-length}
use Rattle.std.specs.List.{position, position_or_len}
use Rattle.std.specs.Prelude.{unwrap_or}

-- ---- one member

item_from : {X T : Type 0} → (l : Listing X T) (whole : Place) (b : Bool) (n : Node) (ns : List Node)
    → (b && is_dash n) ≡ false → l.is_block n ≡ false
    → found_in (typed_from l whole b (n ∷ ns)) ≡ both_found with_item (found_in (l.item n)) (found_in (typed_from l whole l.takes_type ns))
unfolding typed_from
item_from l whole b n ns no_dash no_block = rw (no_dash, no_block) (found_both with_item (l.item n) (typed_from l whole l.takes_type ns))

pub block_from : {X T : Type 0} → (l : Listing X T) (whole : Place) (n : Node) (ns : List Node) → l.is_block n ≡ true
    → found_in (typed_from l whole false (n ∷ ns)) ≡ both_found (with_block l.untyped) (found_in (l.block n)) (found_in (typed_from l whole false ns))
unfolding typed_from
block_from l whole n ns block = rw block (found_both (with_block l.untyped) (l.block n) (typed_from l whole false ns))

pub type_from : {X T : Type 0} → (l : Listing X T) (whole : Place) (n : Node) (ns : List Node)
    → found_in (type_first l whole (n ∷ ns)) ≡ both_found with_type (found_in (l.type n)) (found_in (typed_from l whole false ns))
unfolding type_first
type_from l whole n ns = found_both with_type (l.type n) (typed_from l whole false ns)

pub dash_from : {X T : Type 0} → (l : Listing X T) (whole : Place) (n : Node) (ns : List Node) → (l.takes_type && is_dash n) ≡ true
    → found_in (typed_from l whole l.takes_type (n ∷ ns)) ≡ found_in (type_first l whole ns)
unfolding typed_from
dash_from l whole n ns dash = rw dash refl

block_behind : {X T : Type 0} → (l : Listing X T) (whole : Place) (n : Node) (ns : List Node) → (l.takes_type && is_dash n) ≡ false → l.is_block n ≡ true
    → found_in (typed_from l whole l.takes_type (n ∷ ns)) ≡ both_found (with_block l.untyped) (found_in (l.block n)) (found_in (typed_from l whole false ns))
unfolding typed_from
block_behind l whole n ns no_dash block = rw (no_dash, block) (found_both (with_block l.untyped) (l.block n) (typed_from l whole false ns))

untyped_block : {X T : Type 0} → (u : T) (b : Result (List X) Fault) (r : Result (Declared X T) Fault)
    → both_found with_type (Ok u) (both_found (with_block u) b r) ≡ both_found (with_block u) b r
untyped_block u b r = grind arith

or_right : (a b : Bool) → a ≡ false → (a || b) ≡ true → b ≡ true
or_right a b e or = grind arith

-- the items before a block, and before the end, have no type
pub none_from : {X T : Type 0} → (l : Listing X T) (whole : Place) (n : Node) (ns : List Node) → (l.takes_type && is_dash n) ≡ false → ends l n ≡ true
    → both_found with_type (Ok l.untyped) (found_in (typed_from l whole false (n ∷ ns))) ≡ found_in (typed_from l whole l.takes_type (n ∷ ns))
none_from l whole n ns no_dash ended = grind (arith, or_right, block_from, untyped_block, block_behind)

pub end_from : {X T : Type 0} → (l : Listing X T) (whole : Place)
    → both_found with_type (Ok l.untyped) (found_in (typed_from l whole false [])) ≡ found_in (typed_from l whole l.takes_type [])
unfolding typed_from
end_from l whole = refl

pub missing_from : {X T : Type 0} → (l : Listing X T) (whole : Place)
    → both_found with_type (found_in {X = T} (misshapen whole)) (found_in (typed_from l whole false [])) ≡ found_in (type_first l whole [])
unfolding typed_from type_first
missing_from l whole = refl

-- ---- a group

-- items, and what is declared behind them
abbrev pub items_with : {X T : Type 0} → List (T → X) → Declared X T → Declared X T
items_with makes behind = record { type = behind.type; items = map (λ make. make behind.type) makes ++ behind.items }

none_with : {X T : Type 0} → (r : Result (Declared X T) Fault) → both_found items_with (Ok []) r ≡ r
none_with r = grind arith

one_with : {X T : Type 0} → (m : Result (T → X) Fault) (ms : Result (List (T → X)) Fault) (r : Result (Declared X T) Fault)
    → both_found with_item m (both_found items_with ms r) ≡ both_found items_with (both_found (λ x xs. x ∷ xs) m ms) r
one_with m ms r = grind (arith, earlier_assoc)

group_by : {X T : Type 0} → (l : Listing X T) (whole : Place) (t : Node) (ts : List Node) (k : ℕ) (b : Bool) → ends l t ≡ b
    → found_in (typed_from l whole l.takes_type ts)
    ≡ both_found items_with (found_in (each l.item (take k ts))) (found_in (typed_from l whole l.takes_type (drop k ts)))
    → found_in (typed_from l whole l.takes_type (t ∷ ts))
    ≡ both_found items_with (found_in (each l.item (take (if b then 0 else suc k) (t ∷ ts))))
    (found_in (typed_from l whole l.takes_type (drop (if b then 0 else suc k) (t ∷ ts))))
unfolding each
group_by l whole t ts k true e shorter = grind (arith, none_with)
group_by l whole t ts k false e shorter = grind (arith, or_parts, item_from, one_with, found_each)

-- the members of a list as far as they are items of one type
group_from : {X T : Type 0} → (l : Listing X T) (whole : Place) (ts : List Node)
    → found_in (typed_from l whole l.takes_type ts)
    ≡ both_found items_with (found_in (each l.item (take (group_size l ts) ts)))
    (found_in (typed_from l whole l.takes_type (drop (group_size l ts) ts)))
unfolding each
group_from l whole [] = sym (none_with (found_in (typed_from l whole l.takes_type [])))
group_from l whole (t ∷ ts) = group_by l whole t ts (group_size l ts) (ends l t) refl (group_from l whole ts)

-- an item, and the others of its group
pub group_first : {X T : Type 0} → (l : Listing X T) (whole : Place) (n : Node) (ts : List Node) (k : ℕ) → l.is_block n ≡ false → k ≡ group_size l ts
    → found_in (typed_from l whole false (n ∷ ts))
    ≡ both_found items_with (found_in (each l.item (n ∷ take k ts))) (found_in (typed_from l whole l.takes_type (drop k ts)))
group_first l whole n ts k no_block is = grind (arith, item_from l whole false n ts refl, group_from l whole ts, one_with, found_each)

ended_by : {X T : Type 0} → (l : Listing X T) (t : Node) (ts : List Node) (k : ℕ) (b : Bool) → ends l t ≡ b
    → AreBehindItems l (drop k ts) → AreBehindItems l (drop (if b then 0 else suc k) (t ∷ ts))
ended_by l t ts k b e ended = grind arith

-- what stands behind a group
pub behind_group : {X T : Type 0} → (l : Listing X T) (ts : List Node) → AreBehindItems l (drop (group_size l ts) ts)
behind_group l [] = tt
behind_group l (t ∷ ts) = ended_by l t ts (group_size l ts) (ends l t) refl (behind_group l ts)

-- ---- a group is read

-- the items of a group and its type, behind others
pub group_more : {X T : Type 0} → (s : Result (List X) Fault) (ms : Result (List (T → X)) Fault) (t : Result T Fault) (r : Result (Declared X T) Fault)
    → more_found (more_found s (group_found ms t)) (items_found r)
    ≡ more_found s (items_found (both_found items_with ms (both_found with_type t r)))
group_more s ms t r = grind (arith, earlier_assoc, append_assoc)

-- a block is read
pub block_more : {X T : Type 0} → (untyped : T) (s : Result (List X) Fault) (b : Result (List X) Fault) (r : Result (Declared X T) Fault)
    → more_found (more_found s b) (items_found r) ≡ more_found s (items_found (both_found (with_block untyped) b r))
block_more untyped s b r = grind (arith, earlier_assoc, append_assoc)

typed_both : {X T : Type 0} → (t : T) (m : Result (T → X) Fault) (ms : Result (List (T → X)) Fault)
    → both_found (λ x xs. x ∷ xs) (said_found (λ make. make t) m) (said_found (λ makes. map (λ make. make t) makes) ms)
    ≡ said_found (λ makes. map (λ make. make t) makes) (both_found (λ x xs. x ∷ xs) m ms)
typed_both t m ms = grind arith

-- an item of this type
abbrev pub of_type : {X T : Type 0} → (Node → Reading (T → X)) → T → Node → Reading X
of_type item t n = said (λ make. make t) (item n)

-- the items of one type
pub each_typed : {X T : Type 0} → (item : Node → Reading (T → X)) (t : T) (ns : List Node)
    → found_in (each (λ n. said (λ make. make t) (item n)) ns) ≡ said_found (λ makes. map (λ make. make t) makes) (found_in (each item ns))
unfolding each
each_typed item t [] = refl
each_typed item t (n ∷ ns) = grind (arith, found_both, found_said, each_typed item t ns, typed_both)

group_of : {X T : Type 0} → (t : T) (ms : Result (List (T → X)) Fault)
    → said_found (λ makes. map (λ make. make t) makes) ms ≡ group_found ms (Ok t)
group_of t ms = grind arith

-- a group of a type that is found
pub right_group : {X T : Type 0} → (s : Result (List X) Fault) (ms : Result (List (T → X)) Fault) (t : T) (type : Result T Fault) (all : Result (List X) Fault)
    → all ≡ more_found s (said_found (λ makes. map (λ make. make t) makes) ms) → type ≡ Ok t → all ≡ more_found s (group_found ms type)
right_group s ms t type all is_all is_right = rw (is_all, is_right, group_of t ms) refl

wrong_type : {X T : Type 0} → (s : Result (List X) Fault) (ms : Result (List (T → X)) Fault) (u : T) (f : Fault)
    → second_found {X = List X} {Y = List X} (more_found s (said_found (λ makes. map (λ make. make u) makes) ms)) (Err f)
    ≡ more_found s (group_found ms (Err f))
wrong_type s ms u f = grind (arith, earlier_assoc)

-- a group of a type that is wrong
pub wrong_group : {X T : Type 0} → (s : Result (List X) Fault) (ms : Result (List (T → X)) Fault) (u : T) (f : Fault) (type : Result T Fault)
    → (untyped all : Result (List X) Fault)
    → all ≡ second_found {X = List X} {Y = List X} untyped (Err f) → untyped ≡ more_found s (said_found (λ makes. map (λ make. make u) makes) ms) → type ≡ Err f
    → all ≡ more_found s (group_found ms type)
wrong_group s ms u f type untyped all is_all is_untyped is_wrong = rw (is_all, is_untyped, is_wrong) (wrong_type s ms u f)

-- ---- how many items there are

picked : (k n : ℕ) (b : Bool) → ltb k n ≡ b → k ≤ n → unwrap_or (cond b (Some k) None) n ≡ k
picked k n b e le = grind (arith, ltb-false)

one_on : (b : Bool) (k n : ℕ) → k ≡ n → cond (not b) (1 + k) 0 ≡ (if b then 0 else suc n)
one_on b k n same = grind arith

size_at : {X T : Type 0} → (l : Listing X T) (ts : List Tree) → position_or_len (λ t. ends l (node_of t)) ts ≡ group_size l (nodes_in ts)
size_at l [] = refl
size_at l (t ∷ ts) = one_on (ends l (node_of t)) _ _ (size_at l ts)

found_size : {X T : Type 0} → (l : Listing X T) (ts : List Tree)
    → unwrap_or (position (λ t. ends l (node_of t)) ts) (length ts) ≡ position_or_len (λ t. ends l (node_of t)) ts
found_size l ts =
    let size = position_or_len (λ t. ends l (node_of t)) ts in
    picked size (length ts) (ltb size (length ts)) refl (prefix_len-le-length (λ t. not (ends l (node_of t))) ts)

pub size_is : {X T : Type 0} → (l : Listing X T) (ts : List Tree)
    → unwrap_or (position (λ t. ends l (node_of t)) ts) (length ts) ≡ group_size l (nodes_in ts)
size_is l ts = found_size l ts ∙ size_at l ts

pub size_within : {X T : Type 0} → (l : Listing X T) (ts : List Tree)
    → unwrap_or (position (λ t. ends l (node_of t)) ts) (length ts) ≤ length ts
size_within l ts = omega (arith, found_size l ts, prefix_len-le-length (λ t. not (ends l (node_of t))) ts)

-- ---- the whole list

pub typed_begins : {X T : Type 0} → (l : Listing X T) (whole : Place) (ns : List Node)
    → more_found (Ok []) (items_found (found_in (typed_from l whole false ns))) ≡ found_in (typed_rule l whole ns)
unfolding typed_rule
typed_begins l whole ns = grind (arith, begins, found_said)

pub typed_ends : {X T : Type 0} → (l : Listing X T) (whole : Place) (a r : Result (List X) Fault) (ns : List Node) → ns ≡ []
    → more_found a (items_found (found_in (typed_from l whole false ns))) ≡ r → a ≡ r
unfolding typed_from
typed_ends l whole a r ns none so_far = grind (arith, append-nil)

pub some_left : (ts : List Tree) (is_empty : Bool) → is_empty ≡ (length ts == 0) → is_empty ≡ false → 0 < length ts
some_left ts is_empty is e = grind arith

pub none_left : (ts : List Tree) (is_empty : Bool) → is_empty ≡ (length ts == 0) → is_empty ≡ true → nodes_in ts ≡ []
none_left [] is_empty is e = refl
none_left (t ∷ ts) is_empty is e = grind (arith, eqb-true)

-- ---- items by their types

found_typed : (private : Bool) (types : List Word) (r : Reading Word)
    → said_found (λ word. typed_of private word types) (found_in r) ≡ said_found {X = List Word → Typed} {Y = Typed} (λ make. make types) (found_in (said (typed_of private) r))
unfolding said
found_typed private types r = grind arith

-- a word that is declared with these types
pub declared_item : {E : Type 0} → (private : Bool) (types : List Word) (r : Reading Word) (word : Result Word Fault) (o : Result (Result Typed Fault) E)
    → word ≡ found_in r → IfOk o (λ found. found ≡ said_found (λ word. typed_of private word types) word)
    → IfOk o (λ found. found ≡ said_found {X = List Word → Typed} {Y = Typed} (λ make. make types) (found_in (said (typed_of private) r)))
declared_item private types r word o is declared = grind (arith, found_typed)

found_untyped : {X : Type 0} → (u : Unit {0}) (r : Reading X) → found_in r ≡ said_found {X = Unit {0} → X} {Y = X} (λ make. make u) (found_in (said (λ s type. s) r))
unfolding said
found_untyped u r = grind arith

-- an item without a type
pub untyped_item : {X E : Type 0} → (u : Unit {0}) (r : Reading X) (o : Result (Result X Fault) E)
    → IfOk o (λ found. found ≡ found_in r)
    → IfOk o (λ found. found ≡ said_found {X = Unit {0} → X} {Y = X} (λ make. make u) (found_in (said (λ s type. s) r)))
untyped_item u r o read = grind (arith, found_untyped)
