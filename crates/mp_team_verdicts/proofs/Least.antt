-- The least of costs that may be missing is at most each of them.
use Rattle.mp_world.proofs.Basics.{◌≡◌, ℕ, ◌≤◌, Bool, true, false, List, [], ◌∷◌, map, Option, Some, None, refl, sym, subst, arith, inl, inr, Contains, IsSomeAnd, if◌then◌else◌, nat_le, leb-false, leb-true}
use Rattle.mp_list.proofs.Members.{contains_cases, no_member}
use Rattle.mp_world.specs.AgentWords.{least_of, lesser}

-- a cost is there, and it is at most this
abbrev pub IsAtMost : ℕ → Option ℕ → Type 0
IsAtMost n o = IsSomeAnd o (λ x. x ≤ n)

-- an option is there and is this one
pub at_most_is : (n x : ℕ) (o : Option ℕ) → o ≡ Some x → IsAtMost n o → x ≤ n
at_most_is n x o is most = subst (IsAtMost n) is most

pub none_at_most : (n : ℕ) (o : Option ℕ) → o ≡ None → IsAtMost n o → ⊥
none_at_most n o is most = subst (IsAtMost n) is most

pub some_at_most : (n x : ℕ) (o : Option ℕ) → Some x ≡ o → x ≤ n → IsAtMost n o
some_at_most n x o is most = subst (IsAtMost n) is most

pub lesser_first : (n : ℕ) (a b : Option ℕ) → IsAtMost n a → IsAtMost n (lesser a b)
lesser_first n None b most = absurd most
lesser_first n (Some a) None most = most
lesser_first n (Some a) (Some b) most = by (nat_le a b) refl
  where
    by : (test : Bool) → nat_le a b ≡ test → IsAtMost n (if test then Some a else Some b)
    by true is = most
    by false is = let less = leb-false a b is in omega arith

pub lesser_second : (n : ℕ) (a b : Option ℕ) → IsAtMost n b → IsAtMost n (lesser a b)
lesser_second n None b most = most
lesser_second n (Some a) None most = absurd most
lesser_second n (Some a) (Some b) most = by (nat_le a b) refl
  where
    by : (test : Bool) → nat_le a b ≡ test → IsAtMost n (if test then Some a else Some b)
    by true is = let less = leb-true a b is in omega arith
    by false is = most

-- the least of what is said of some items is at most what is said of one
pub least_at_most : {X : Type 0} (cost : X → Option ℕ) (n : ℕ) (xs : List X) (x : X) → Contains xs x → IsAtMost n (cost x) → IsAtMost n (least_of (map cost xs))
least_at_most cost n [] x found most = absurd (no_member x found)
least_at_most cost n (y ∷ ys) x found most =
    elim (contains_cases y ys x found) [
      | inl here ↦ lesser_first n (cost y) (least_of (map cost ys)) (subst (λ z. IsAtMost n (cost z)) (sym here) most)
      | inr there ↦ lesser_second n (cost y) (least_of (map cost ys)) (least_at_most cost n ys x there most)
    ]

pub at_most_more : (n m : ℕ) (o : Option ℕ) → n ≤ m → IsAtMost n o → IsAtMost m o
at_most_more n m None within most = absurd most
at_most_more n m (Some x) within most = omega arith
