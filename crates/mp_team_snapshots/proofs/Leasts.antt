-- The least of costs that may be missing, where one cost more comes.
use Rattle.mp_world.proofs.Basics.{◌≡◌, ◌≢◌, ℕ, zero, suc, ◌+◌, ◌≤◌, Bool, true, false, List, [], ◌∷◌, ◌++◌, map, Option, Some, None, refl, sym, ap, ◌∙◌, arith, ◌==◌, filter, nat_le, not, if◌then◌else◌, range_with_len, eqb-false, eqb-true, leb-false, leb-true}
use Rattle.mp_world.proofs.Basics.{map-append}
use Rattle.std.specs.Prelude.{min}
use Rattle.mp_world.specs.AgentWords.{least_of, lesser, others}

-- ---- the lesser of two

pub lesser_none : (a : Option ℕ) → lesser a None ≡ a
lesser_none None = refl
lesser_none (Some a) = refl

lesser_some : (a b : ℕ) → lesser (Some a) (Some b) ≡ Some (min a b)
lesser_some a b = by (nat_le a b) refl
  where
    by : (test : Bool) → nat_le a b ≡ test → (if test then Some a else Some b) ≡ Some (min a b)
    by true is = let low = leb-true a b is in ap Some (omega arith)
    by false is = let high = leb-false a b is in ap Some (omega arith)

pub lesser_flipped : (a b : Option ℕ) → lesser a b ≡ lesser b a
lesser_flipped None None = refl
lesser_flipped None (Some b) = refl
lesser_flipped (Some a) None = refl
lesser_flipped (Some a) (Some b) = lesser_some a b ∙ ap Some (omega arith) ∙ sym (lesser_some b a)

pub lesser_regrouped : (a b c : Option ℕ) → lesser (lesser a b) c ≡ lesser a (lesser b c)
lesser_regrouped None b c = refl
lesser_regrouped (Some a) None c = refl
lesser_regrouped (Some a) (Some b) None = lesser_none (lesser (Some a) (Some b))
lesser_regrouped (Some a) (Some b) (Some c) =
    ap (λ x. lesser x (Some c)) (lesser_some a b) ∙ lesser_some (min a b) c ∙ ap Some (omega arith)
    ∙ sym (lesser_some a (min b c)) ∙ ap (lesser (Some a)) (sym (lesser_some b c))

-- ---- one cost more

pub least_more : (costs : List (Option ℕ)) (c : Option ℕ) → least_of (costs ++ c ∷ []) ≡ lesser (least_of costs) c
least_more [] c = lesser_none c
least_more (d ∷ ds) c = ap (lesser d) (least_more ds c) ∙ sym (lesser_regrouped d (least_of ds) c)

pub least_pushed : {X : Type 0} (cost : X → Option ℕ) (xs : List X) (x : X)
    → least_of (map cost (xs ++ x ∷ [])) ≡ lesser (least_of (map cost xs)) (cost x)
least_pushed cost xs x = ap least_of (map-append cost xs (x ∷ [])) ∙ least_more (map cost xs) (cost x)

pub least_nothing : (g : ℕ → Option ℕ) → ((i : ℕ) → g i ≡ None) → (is : List ℕ) → least_of (map g is) ≡ None
least_nothing g none [] = refl
least_nothing g none (i ∷ is) = ap (λ c. lesser c (least_of (map g is))) (none i) ∙ least_nothing g none is

pub least_again : (g h : ℕ → Option ℕ) → ((i : ℕ) → h i ≡ g i) → (is : List ℕ)
    → least_of (map h is) ≡ least_of (map g is)
least_again g h same [] = refl
least_again g h same (i ∷ is) = λ k. lesser (same i k) (least_again g h same is k)

module _ (a : ℕ) (g h : ℕ → Option ℕ) (elsewhere : (i : ℕ) → i ≢ a → h i ≡ g i) where
  -- an agent that is not among these
  least_absent : (is : List ℕ) → filter (λ i. i == a) is ≡ [] → least_of (map h is) ≡ least_of (map g is)
  least_absent [] none = refl
  least_absent (i ∷ is) none = by (i == a) refl none (least_absent is)
    where
      by : (test : Bool) → (i == a) ≡ test
          → (if test then i ∷ filter (λ j. j == a) is else filter (λ j. j == a) is) ≡ []
          → (filter (λ j. j == a) is ≡ [] → least_of (map h is) ≡ least_of (map g is))
          → least_of (map h (i ∷ is)) ≡ least_of (map g (i ∷ is))
      by true test none more = absurd (let impossible : ⊥ = cc in impossible)
      by false test none more = λ k. lesser (elsewhere i (eqb-false i a test) k) (more none k)

  -- the cost of one of them is the lesser of what it was and another cost
  pub least_once : (f : Option ℕ) → h a ≡ lesser (g a) f → (is : List ℕ) → filter (λ i. i == a) is ≡ a ∷ []
      → least_of (map h is) ≡ lesser (least_of (map g is)) f
  least_once f here [] once = absurd (let impossible : ⊥ = cc in impossible)
  least_once f here (i ∷ is) once = by (i == a) refl once (least_once f here is)
    where
      by : (test : Bool) → (i == a) ≡ test
          → (if test then i ∷ filter (λ j. j == a) is else filter (λ j. j == a) is) ≡ a ∷ []
          → (filter (λ j. j == a) is ≡ a ∷ [] → least_of (map h is) ≡ lesser (least_of (map g is)) f)
          → least_of (map h (i ∷ is)) ≡ lesser (least_of (map g (i ∷ is))) f
      by true test once more =
          let none : filter (λ j. j == a) is ≡ [] = cc in
          let same : i ≡ a = eqb-true i a test in
          (λ k. lesser (h (same k)) (least_absent is none k))
          ∙ ap (λ c. lesser c (least_of (map g is))) here
          ∙ lesser_regrouped (g a) f (least_of (map g is))
          ∙ ap (lesser (g a)) (lesser_flipped f (least_of (map g is)))
          ∙ sym (lesser_regrouped (g a) (least_of (map g is)) f)
          ∙ ap (λ j. lesser (lesser (g j) (least_of (map g is))) f) (sym same)
      by false test once more =
          (λ k. lesser (elsewhere i (eqb-false i a test) k) (more once k))
          ∙ sym (lesser_regrouped (g i) (least_of (map g is)) f)

-- costs of all others of a team that are equal have one least
pub least_others : (me agents : ℕ) (g h : ℕ → Option ℕ) → ((i : ℕ) → 1 ≤ i → i ≤ agents → i ≢ me → h i ≡ g i)
    → least_of (map h (others me agents)) ≡ least_of (map g (others me agents))
least_others me agents g h same = in_range 1 agents (omega arith) (omega arith)
  where
    in_range : (a m : ℕ) → 1 ≤ a → a + m ≤ agents + 1
        → least_of (map h (filter (λ i. not (i == me)) (range_with_len a m)))
        ≡ least_of (map g (filter (λ i. not (i == me)) (range_with_len a m)))
    in_range a zero low high = refl
    in_range a (suc m) low high = by (a == me) refl (in_range (a + 1) m (omega arith) (omega arith))
      where
        by : (test : Bool) → (a == me) ≡ test
            → least_of (map h (filter (λ i. not (i == me)) (range_with_len (a + 1) m)))
            ≡ least_of (map g (filter (λ i. not (i == me)) (range_with_len (a + 1) m)))
            → least_of (map h (filter (λ i. not (i == me)) (range_with_len a (suc m))))
            ≡ least_of (map g (filter (λ i. not (i == me)) (range_with_len a (suc m))))
        by true test more = rw test more
        by false test more = rw test (λ k. lesser (same a low (omega arith) (eqb-false a me test) k) (more k))
