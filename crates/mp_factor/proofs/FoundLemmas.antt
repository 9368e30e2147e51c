-- What is found where readings are put together.
use Rattle.mp_factor.proofs.Basics.{◌≡◌, ℕ, ◌+◌, ◌<◌, ◌≤◌, List, [], ◌∷◌, ◌++◌, length, get_or, drop, map, Result, Ok, Err, refl, subst, drop-cons, add-one, arith, drop_of_length-le, append_assoc}
use Rattle.mp_factor.proofs.Basics.{append-nil, Node, Fault, IsFirst, Reading, Says, Wrong, faults_in, said, both, each, all_right, earliest_of, found_in, both_found, said_found, more_found, second_found, nothing_found}
use Rattle.mp_factor.proofs.FirstLemmas.{earliest_append, earliest_first, earlier_assoc}

pub pair_said : {X Y Z : Type 0} → (f : X → Y → Z) (a : Result X Fault) (b : Result Y Fault)
    → said_found (λ (p : X × Y). f p.0 p.1) (both_found (λ (x : X) (y : Y). (x, y)) a b) ≡ both_found f a b
pair_said f a b = grind arith

pub found_both : {X Y Z : Type 0} → (join : X → Y → Z) (a : Reading X) (b : Reading Y)
    → found_in (both join a b) ≡ both_found join (found_in a) (found_in b)
unfolding both
found_both join a b = grind (arith, append-nil, earliest_append)

pub found_said : {X Y : Type 0} → (of : X → Y) (a : Reading X) → found_in (said of a) ≡ said_found of (found_in a)
unfolding said
found_said of a = grind arith

-- ---- a value that grows

-- what a value is with one item more, and with several
pub record Grows {S X : Type 0} (push : S → X → S) (join : S → List X → S) : Type 0 where
  pub pushed : (s : S) (x : X) (xs : List X) → join (push s x) xs ≡ join s (x ∷ xs)
  pub done : (s : S) → join s [] ≡ s

pub one_more : {S X : Type 0} → (push : S → X → S) (join : S → List X → S) → Grows push join
    → (a : Result S Fault) (x : Result X Fault) (rest : Result (List X) Fault)
    → both_found join (both_found push a x) rest ≡ both_found join a (both_found (λ x xs. x ∷ xs) x rest)
one_more push join grows a x rest = grind (arith, earlier_assoc, grows.pushed)

pub none_more : {S X : Type 0} → (push : S → X → S) (join : S → List X → S) → Grows push join → (a : Result S Fault) → both_found join a (Ok []) ≡ a
none_more push join grows a = grind (arith, grows.done)

pub lists : {X : Type 0} → Grows {S = List X} {X = X} (λ xs x. xs ++ x ∷ []) (λ xs ys. xs ++ ys)
lists = record { pushed = λ s x xs. append_assoc s (x ∷ []) xs; done = λ s. append-nil s }

pub found_each : {A X : Type 0} → (rule : A → Reading X) (a : A) (as' : List A)
    → found_in (each rule (a ∷ as')) ≡ both_found (λ x xs. x ∷ xs) (found_in (rule a)) (found_in (each rule as'))
unfolding each
found_each rule a as' = found_both (λ x xs. x ∷ xs) (rule a) (each rule as')

-- ---- what is found of a reading is its first fault

pub found_wrong : {X : Type 0} → (r : Reading X) (f : Fault) → found_in r ≡ Err f → IsFirst (faults_in r) f
found_wrong (Says x) f e = grind arith
found_wrong (Wrong g gs) f e = let same : earliest_of g gs ≡ f = cc in subst (IsFirst (g ∷ gs)) same (earliest_first g gs)

pub found_says : {X : Type 0} → (r : Reading X) (x : X) → found_in r ≡ Ok x → r ≡ Says x
found_says r x e = grind arith

-- ---- a loop

pub drop_next : {A : Type 0} → (xs : List A) (i : ℕ) (x : A) → i < length xs → x ≡ get_or xs i x → drop i xs ≡ x ∷ drop (i + 1) xs
drop_next xs i x lt is = rw (drop-cons xs i x, ← is, add-one) refl

-- one item is read
pub goes_on : {A S X : Type 0} → (f : A → Node) (rule : Node → Reading X) (push : S → X → S) (join : S → List X → S) → Grows push join
    → (a a' whole : Result S Fault) (item : Result X Fault) (xs : List A) (i : ℕ) (x : A)
    → i < length xs → x ≡ get_or xs i x
    → item ≡ found_in (rule (f x))
    → a' ≡ both_found push a item
    → both_found join a (found_in (each rule (map f (drop i xs)))) ≡ whole
    → both_found join a' (found_in (each rule (map f (drop (i + 1) xs)))) ≡ whole
goes_on f rule push join grows a a' whole item xs i x lt is read more so_far =
    let known = rw (drop_next xs i x lt is, found_each) at so_far in
    rw (more, read, one_more push join grows) known

-- all items are read
pub ends : {A S X : Type 0} → (f : A → Node) (rule : Node → Reading X) (push : S → X → S) (join : S → List X → S) → Grows push join
    → (a whole : Result S Fault) (xs : List A) (i : ℕ)
    → length xs ≤ i → both_found join a (found_in (each rule (map f (drop i xs)))) ≡ whole → a ≡ whole
unfolding each
ends f rule push join grows a whole xs i le so_far = grind (arith, drop_of_length-le, none_more)

pub begins : {X : Type 0} → (r : Result (List X) Fault) → more_found (Ok []) r ≡ r
begins r = grind arith

-- ---- a loop that says nothing

pub second_assoc : {X Y Z : Type 0} → (a : Result X Fault) (b : Result Y Fault) (c : Result Z Fault)
    → second_found (second_found a b) c ≡ second_found a (second_found b c)
second_assoc a b c = grind (arith, earlier_assoc)

pub nothing_second : (a : Result (Unit {0}) Fault) → second_found a nothing_found ≡ a
nothing_second a = grind arith

pub found_all_right : {A : Type 0} → (rule : A → Reading (Unit {0})) (a : A) (as' : List A)
    → found_in (all_right rule (a ∷ as')) ≡ second_found (found_in (rule a)) (found_in (all_right rule as'))
unfolding all_right
found_all_right rule a as' = found_both (λ x y. y) (rule a) (all_right rule as')

-- one item is looked at
pub checks_on : {A B : Type 0} → (f : A → B) (rule : B → Reading (Unit {0})) (a a' whole item : Result (Unit {0}) Fault) (xs : List A) (i : ℕ) (x : A)
    → i < length xs → x ≡ get_or xs i x
    → item ≡ found_in (rule (f x))
    → a' ≡ second_found a item
    → second_found a (found_in (all_right rule (map f (drop i xs)))) ≡ whole
    → second_found a' (found_in (all_right rule (map f (drop (i + 1) xs)))) ≡ whole
checks_on f rule a a' whole item xs i x lt is read more so_far =
    let known = rw (drop_next xs i x lt is, found_all_right) at so_far in
    rw (more, read, second_assoc) known

pub checks_end : {A B : Type 0} → (f : A → B) (rule : B → Reading (Unit {0})) (a whole : Result (Unit {0}) Fault) (xs : List A) (i : ℕ)
    → length xs ≤ i → second_found a (found_in (all_right rule (map f (drop i xs)))) ≡ whole → a ≡ whole
unfolding all_right
checks_end f rule a whole xs i le so_far = grind (arith, drop_of_length-le, nothing_second)

pub checks_begin : (r : Result (Unit {0}) Fault) → second_found nothing_found r ≡ r
checks_begin r = grind arith

-- ---- part after part

-- the function of what is read first, and its next argument
pub with_first : {X Y : Type 0} → (f : X → Y) (a : Result X Fault) → both_found (λ f x. f x) (Ok f) a ≡ said_found f a
with_first f a = grind arith

pub with_next : {P X Y : Type 0} → (g : P → X → Y) (p : Result P Fault) (a : Result X Fault)
    → both_found (λ f x. f x) (said_found g p) a ≡ said_found (λ (q : P × X). g q.0 q.1) (both_found (λ a b. (a, b)) p a)
with_next g p a = grind arith

-- what is said of the second of two
pub said_second : {X Y Z : Type 0} → (of : Y → Z) (a : Result X Fault) (b : Result Y Fault)
    → said_found of (second_found a b) ≡ second_found a (said_found of b)
said_second of a b = grind arith
