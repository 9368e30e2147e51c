-- What holds of all that a reading may say.
use Rattle.mp_forms.proofs.Basics.{◌≡◌, ℕ, ◌≤◌, zero, suc, Bool, true, false, List, [], ◌∷◌, All, length, drop, refl, ap, subst, arith, if◌then◌else◌, filter, All-nil, All-cons, All-head, All-tail, All-filter, Place, Node, Fault, Reading, Says}
use Rattle.mp_forms.proofs.Basics.{Wrong, said, both, each, alone, wanted, of_first, once, all_right, at_most}

abbrev pub Gives : {X : Type 0} → (X → Type 0) → Reading X → Type 0
Gives {X} P reading = (x : X) → reading ≡ Says x → P x

-- nothing is asked of what is said
abbrev pub Any : {X : Type 0} → X → Type 0
Any x = Unit {0}

pub gives_any : {X : Type 0} (r : Reading X) → Gives Any r
gives_any r x e = tt

pub gives_says : {X : Type 0} (P : X → Type 0) (y : X) → P y → Gives P (Says y)
gives_says P y p x e = let same : y ≡ x = cc in subst P same p

pub gives_wrong : {X : Type 0} (P : X → Type 0) (f : Fault) (fs : List Fault) → Gives P (Wrong f fs)
gives_wrong P f fs x e = absurd (let impossible : ⊥ = cc in impossible)

pub gives_if : {X : Type 0} (P : X → Type 0) (b : Bool) (r s : Reading X) → (b ≡ true → Gives P r) → (b ≡ false → Gives P s)
    → Gives P (if b then r else s)
gives_if P true r s one other = one refl
gives_if P false r s one other = other refl

-- one thing is said by a test, else nothing
pub gives_where : {X : Type 0} (P : X → Type 0) (b : Bool) (y : X) (f : Fault) → (b ≡ true → P y) → Gives P (if b then Says y else Wrong f [])
gives_where P b y f holds = gives_if P b (Says y) (Wrong f []) (λ is. gives_says P y (holds is)) (λ other. gives_wrong P f [])

pub gives_said : {X Y : Type 0} (P : X → Type 0) (Q : Y → Type 0) (of : X → Y) (r : Reading X) → ((x : X) → P x → Q (of x)) → Gives P r → Gives Q (said of r)
unfolding said
gives_said P Q of (Says x) holds gives y e = let same : of x ≡ y = cc in subst Q same (holds x (gives x refl))
gives_said P Q of (Wrong f fs) holds gives y e = absurd (let impossible : ⊥ = cc in impossible)

pub gives_both : {X Y Z : Type 0} (P : X → Type 0) (Q : Y → Type 0) (R : Z → Type 0) (join : X → Y → Z) (a : Reading X) (b : Reading Y)
    → ((x : X) (y : Y) → P x → Q y → R (join x y)) → Gives P a → Gives Q b → Gives R (both join a b)
unfolding both
gives_both P Q R join (Says x) (Says y) holds one other z e =
    let same : join x y ≡ z = cc in subst R same (holds x y (one x refl) (other y refl))
gives_both P Q R join (Says x) (Wrong g gs) holds one other z e = absurd (let impossible : ⊥ = cc in impossible)
gives_both P Q R join (Wrong f fs) b holds one other z e = absurd (let impossible : ⊥ = cc in impossible)

-- the second is read where nothing is wrong with the first
pub gives_besides : {X Y : Type 0} (Q : Y → Type 0) (a : Reading X) (b : Reading Y) → ((x : X) → a ≡ Says x → Gives Q b) → Gives Q (both (λ x y. y) a b)
unfolding both
gives_besides Q (Says x) (Says y) gives z e = let same : y ≡ z = cc in gives x refl z (ap Says same)
gives_besides Q (Says x) (Wrong g gs) gives z e = absurd (let impossible : ⊥ = cc in impossible)
gives_besides Q (Wrong f fs) b gives z e = absurd (let impossible : ⊥ = cc in impossible)

-- a function that leads from the one to the other
abbrev pub To : {X Y : Type 0} → (X → Type 0) → (Y → Type 0) → (X → Y) → Type 0
To {X} P R f = (x : X) → P x → R (f x)

-- a function and its next argument
pub gives_with : {X Y : Type 0} (Q : X → Type 0) (R : Y → Type 0) (f : Reading (X → Y)) (a : Reading X)
    → Gives (To Q R) f → Gives Q a → Gives R (both (λ g x. g x) f a)
gives_with Q R f a function argument = gives_both (To Q R) Q R (λ g x. g x) f a (λ g x leads q. leads x q) function argument

-- ---- lists of what something holds of

module _ {A X : Type 0} (In : A → Type 0) (P : X → Type 0) (rule : A → Reading X) (one : (a : A) → In a → Gives P (rule a)) where
  pub gives_each : (as' : List A) → All In as' → Gives (All P) (each rule as')
  unfolding each
  gives_each [] all = gives_says (All P) [] (All-nil P)
  gives_each (a ∷ as') all =
      gives_both P (All P) (All P) (λ x xs. x ∷ xs) (rule a) (each rule as') (λ x xs p ps. All-cons P x xs p ps)
      (one a (All-head In a as' all)) (gives_each as' (All-tail In a as' all))

  first_gives : (missing : Reading X) (as' : List A) → Gives P missing → All In as' → Gives P (of_first rule missing as')
  first_gives missing [] without all = without
  first_gives missing (a ∷ as') without all = one a (All-head In a as' all)

  pub gives_once : (test : A → Bool) (place : A → Place) (missing : Reading X) (as' : List A) → Gives P missing → All In as'
      → Gives P (once test place rule missing as')
  unfolding once
  gives_once test place missing as' without all =
      gives_besides P _ (of_first rule missing (filter test as')) (λ x e. first_gives missing (filter test as') without (All-filter test In as' all))

module _ {X : Type 0} (In : Node → Type 0) (P : X → Type 0) (rule : Node → Reading X) (one : (n : Node) → In n → Gives P (rule n)) where
  pub gives_alone : (whole : Place) (ns : List Node) → All In ns → Gives P (alone rule whole ns)
  unfolding alone
  gives_alone whole [] all = gives_wrong P _ []
  gives_alone whole (n ∷ ns) all = gives_besides P _ (rule n) (λ x e. one n (All-head In n ns all))

  pub gives_wanted : (whole : Place) (ns : List Node) → All In ns → Gives P (wanted rule whole ns)
  unfolding wanted
  gives_wanted whole [] all = gives_wrong P _ []
  gives_wanted whole (n ∷ ns) all = one n (All-head In n ns all)

-- ---- what is counted

-- where nothing is wrong, there is nothing that is always wrong
pub none_wrong : {A : Type 0} (f : A → Fault) (xs : List A) (x : Unit {0}) → all_right (λ a. Wrong (f a) []) xs ≡ Says x → xs ≡ []
unfolding all_right both
none_wrong f [] x e = refl
none_wrong f (a ∷ as') x e = absurd (let impossible : ⊥ = cc in impossible)

-- so there are at most so many
pub few : {A : Type 0} (most : ℕ) (test : A → Bool) (f : A → Fault) (xs : List A) (x : Unit {0}) → at_most most test (λ a. Wrong (f a) []) xs ≡ Says x
    → length (filter test xs) ≤ most
unfolding at_most
few {A} most test f xs x e = behind_none most (filter test xs) (none_wrong f (drop most (filter test xs)) x e)
  where
    behind_none : (n : ℕ) (as' : List A) → drop n as' ≡ [] → length as' ≤ n
    behind_none n [] e = omega arith
    behind_none zero (a ∷ as') e = absurd (let impossible : ⊥ = cc in impossible)
    behind_none (suc n) (a ∷ as') e = let le = behind_none n as' e in omega (arith, le)
