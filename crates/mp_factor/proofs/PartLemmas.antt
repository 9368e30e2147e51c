-- A record of what is read part after part.
use Rattle.mp_factor.proofs.Basics.{◌≡◌, Result, ◌∙◌, Fault, Reading, Says, found_in, both_found, said_found}
use Rattle.mp_forms.specs.Reading.{◌with◌}
use Rattle.mp_factor.proofs.FoundLemmas.{found_both, with_first, with_next}

-- two findings as a pair
abbrev pub paired : {X Y : Type 0} → Result X Fault → Result Y Fault → Result (X × Y) Fault
paired a b = both_found (λ x y. (x, y)) a b

pub paired_as : {X Y : Type 0} → (o : Result (X × Y) Fault) (p p' : Result X Fault) (a a' : Result Y Fault)
    → o ≡ paired p a → p ≡ p' → a ≡ a' → o ≡ paired p' a'
paired_as o p p' a a' is first second = cc

with_more : {P X Y : Type 0} → (g : P → X → Y) (r : Reading (X → Y)) (p : Result P Fault) (a : Reading X) → found_in r ≡ said_found g p
    → found_in (r with a) ≡ said_found (λ (q : P × X). g q.0 q.1) (paired p (found_in a))
with_more g r p a is = rw (found_both, is) (with_next g p (found_in a))

with_one : {A Z : Type 0} → (f : A → Z) (a : Reading A) → found_in (Says f with a) ≡ said_found f (found_in a)
with_one f a = found_both (λ f x. f x) (Says f) a ∙ with_first f (found_in a)

with_two : {A B Z : Type 0} → (f : A → B → Z) (a : Reading A) (b : Reading B)
    → found_in (Says f with a with b) ≡ said_found (λ (q : A × B). f q.0 q.1) (paired (found_in a) (found_in b))
with_two f a b = with_more f (Says f with a) (found_in a) b (with_one f a)

with_three : {A B C Z : Type 0} → (f : A → B → C → Z) (a : Reading A) (b : Reading B) (c : Reading C)
    → found_in (Says f with a with b with c)
    ≡ said_found (λ (q : (A × B) × C). f q.0.0 q.0.1 q.1) (paired (paired (found_in a) (found_in b)) (found_in c))
with_three {A} {B} {C} f a b c =
    with_more (λ (q : A × B). f q.0 q.1) (Says f with a with b) (paired (found_in a) (found_in b)) c (with_two f a b)

with_four : {A B C D Z : Type 0} → (f : A → B → C → D → Z) (a : Reading A) (b : Reading B) (c : Reading C) (d : Reading D)
    → found_in (Says f with a with b with c with d)
    ≡ said_found (λ (q : ((A × B) × C) × D). f q.0.0.0 q.0.0.1 q.0.1 q.1)
    (paired (paired (paired (found_in a) (found_in b)) (found_in c)) (found_in d))
with_four {A} {B} {C} {D} f a b c d =
    with_more (λ (q : (A × B) × C). f q.0.0 q.0.1 q.1) (Says f with a with b with c)
    (paired (paired (found_in a) (found_in b)) (found_in c)) d (with_three f a b c)

pub with_five : {A B C D E Z : Type 0} → (f : A → B → C → D → E → Z) (a : Reading A) (b : Reading B) (c : Reading C) (d : Reading D) (e : Reading E)
    → found_in (Says f with a with b with c with d with e)
    ≡ said_found (λ (q : (((A × B) × C) × D) × E). f q.0.0.0.0 q.0.0.0.1 q.0.0.1 q.0.1 q.1)
    (paired (paired (paired (paired (found_in a) (found_in b)) (found_in c)) (found_in d)) (found_in e))
with_five {A} {B} {C} {D} {E} f a b c d e =
    with_more (λ (q : ((A × B) × C) × D). f q.0.0.0 q.0.0.1 q.0.1 q.1) (Says f with a with b with c with d)
    (paired (paired (paired (found_in a) (found_in b)) (found_in c)) (found_in d)) e (with_four f a b c d)

pub with_six : {A B C D E F Z : Type 0} → (f : A → B → C → D → E → F → Z) (a : Reading A) (b : Reading B) (c : Reading C) (d : Reading D) (e : Reading E) (g : Reading F)
    → found_in (Says f with a with b with c with d with e with g)
    ≡ said_found (λ (q : ((((A × B) × C) × D) × E) × F). f q.0.0.0.0.0 q.0.0.0.0.1 q.0.0.0.1 q.0.0.1 q.0.1 q.1)
    (paired (paired (paired (paired (paired (found_in a) (found_in b)) (found_in c)) (found_in d)) (found_in e)) (found_in g))
with_six {A} {B} {C} {D} {E} {F} f a b c d e g =
    with_more (λ (q : (((A × B) × C) × D) × E). f q.0.0.0.0 q.0.0.0.1 q.0.0.1 q.0.1 q.1) (Says f with a with b with c with d with e)
    (paired (paired (paired (paired (found_in a) (found_in b)) (found_in c)) (found_in d)) (found_in e)) g (with_five f a b c d e)
