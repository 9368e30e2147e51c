-- The order of open entries, and the first one of them.
use Rattle.std.proofs.Common.{◌≡◌, ℕ, ◌+◌, ◌<◌, Bool, true, false, cond, not, ◌&&◌, eqb, filter, List, [], ◌∷◌, length, map, get_or, Option, Some, None, All, Ordering, Less, Equal, Greater, refl, sym, ap, subst, ◌∙◌, arith, inl, inr}
use Rattle.std.specs.Prelude.{◌⊎◌, Contains, nat_le}
use Rattle.std.specs.BinaryHeap.{IsUpperBound}
use Rattle.std.specs.List.{enumerate_from}
use Rattle.std.specs.Ordering.{is_eq, is_lt, nat_cmp, ordering_then}
use Rattle.std.specs.Cmp.{IsTotalOrder, nat_cmp_total, on_total, then_total, unsigned_tied}
use Rattle.std.proofs.lemmas.Bool.{and_parts, eqb-true, false≢true, lt-ltb}
use Rattle.std.proofs.lemmas.Bool.Decides.{nat_tests}
use Rattle.std.specs.declared.cmp.Reverse.{Reverse}
use Rattle.std.proofs.lemmas.List.{get_or_default}
use Rattle.std.proofs.lemmas.List.Elements.{All-cons, All-contains, All-contains_itself, All-filter, All-nil, filter_passes}
use Rattle.std.proofs.lemmas.List.FromFn.{get_or-enumerate_from, length-enumerate_from}
use Rattle.mp_list.specs.First.{IsFirst, IsStrictOrder, IsTotal, leftmost}
use Rattle.mp_list.proofs.FirstLemmas.{found_first, none_first, nothing_found}
use Rattle.mp_list.proofs.Members.{contains_cases, contains_head, contains_tail, no_member}
use Rattle.mp_list.proofs.Orders.{strict_from_total, total_from_exact}
use Rattle.mp_store.specs.declared.entry.Entry.{Entry}
use Rattle.mp_store.specs.declared.rank.Rank.{Rank}
use Rattle.mp_store.specs.Minima.{Numbered, cheaper_cmp, first_open, is_cheaper, is_nearer, nearer_cmp, those}
use Rattle.mp_store.specs.OpenFields.{from_first}
use Rattle.mp_store.specs.Ranks.{first_rank, is_sooner, rank_cmp, rank_of}
use Rattle.mp_store.specs.Record.{f, is_open}
use Rattle.mp_list.proofs.Members.{to_map}

pub rank_total : IsTotalOrder rank_cmp
rank_total = then_total (on_total (λ q. q.f) nat_cmp_total) (then_total (on_total (λ q. q.h) nat_cmp_total) (on_total (λ q. q.number) nat_cmp_total))

both_tie : (p q : Ordering) → is_eq (ordering_then p q) ≡ (is_eq p && is_eq q)
both_tie Less q = refl
both_tie Equal q = refl
both_tie Greater q = refl

-- ranks tie where their parts are the same
rank_tie : (p q : Rank) → is_eq (rank_cmp p q) ≡ (eqb p.f q.f && (eqb p.h q.h && eqb p.number q.number))
rank_tie p q =
    both_tie (nat_cmp p.f q.f) (ordering_then (nat_cmp p.h q.h) (nat_cmp p.number q.number))
    ∙ (λ j. unsigned_tied p.f q.f j && (both_tie (nat_cmp p.h q.h) (nat_cmp p.number q.number) ∙ (λ t. unsigned_tied p.h q.h t && unsigned_tied p.number q.number t)) j)

same_rank : (p q : Rank) → rank_cmp p q ≡ Equal → p ≡ q
same_rank p q e =
    let parts = and_parts (eqb p.f q.f) (eqb p.h q.h && eqb p.number q.number) (sym (rank_tie p q) ∙ ap is_eq e) in
    let others = and_parts (eqb p.h q.h) (eqb p.number q.number) parts.1 in
    let same_f = eqb-true p.f q.f parts.0 in
    let same_h = eqb-true p.h q.h others.0 in
    let same_number = eqb-true p.number q.number others.1 in
    (λ j. record { f = same_f j; h = same_h j; number = same_number j })

pub sooner_strict : IsStrictOrder is_sooner
sooner_strict = strict_from_total rank_cmp rank_total

-- ranks of which none comes before the other are the same
sooner_total : IsTotal is_sooner
sooner_total = total_from_exact rank_cmp rank_total same_rank

-- ---- entries with their numbers

pub member_passes : {X : Type 0} (p : X → Bool) (xs : List X) (x : X) → Contains (filter p xs) x → Contains xs x × (p x ≡ true)
member_passes {X} p xs x found = (
  All-contains (Contains xs) (filter p xs) x (All-filter p (Contains xs) xs (All-contains_itself xs)) found,
  All-contains (λ (y : X). p y ≡ true) (filter p xs) x (filter_passes p xs) found,
)

pub member_kept : {X : Type 0} (p : X → Bool) (xs : List X) (x : X) → Contains xs x → p x ≡ true → Contains (filter p xs) x
member_kept p [] x found passes = absurd (no_member x found)
member_kept {X} p (y ∷ ys) x found passes =
    by (p y) refl (contains_cases y ys x found) (λ there. member_kept p ys x there passes)
  where
    by : (b : Bool) → p y ≡ b → (y ≡ x) ⊎ Contains ys x → (Contains ys x → Contains (filter p ys) x) → Contains (cond b (y ∷ filter p ys) (filter p ys)) x
    by true e (inl here) rest = subst (Contains (y ∷ filter p ys)) here (contains_head y (filter p ys))
    by true e (inr there) rest = contains_tail y (filter p ys) x (rest there)
    by false e (inl here) rest = absurd (false≢true (sym e ∙ ap p here ∙ passes))
    by false e (inr there) rest = rest there

module _ {K : Type 0} where
  -- the entries that pass a test, with their numbers
  pub record IsThat (p : Entry K → Bool) (es : List (Entry K)) (x : Numbered K) : Type 0 where
    pub inside : x.0 < length es
    pub is : get_or es x.0 x.1 ≡ x.1
    pub passes : p x.1 ≡ true

  pub those_have : (p : Entry K → Bool) (es : List (Entry K)) (x : Numbered K) → Contains (those p es) x → IsThat p es x
  those_have p es x found =
      let member = member_passes (λ (y : Numbered K). p y.1) (enumerate_from 0 es) x found in
      let k = member.0.0 in
      let inside : k < length es = let len = length-enumerate_from 0 es in let h = member.0.1 in omega arith in
      let at : (0 + k, get_or es k x.1) ≡ x = sym (get_or-enumerate_from 0 es k x inside) ∙ member.0.2 in
      let number : k ≡ x.0 = (let e : k ≡ 0 + k = omega arith in e) ∙ ap (λ (y : Numbered K). y.0) at in
      record {
        inside = subst (λ n. n < length es) number inside;
        is = ap (λ n. get_or es n x.1) (sym number) ∙ ap (λ (y : Numbered K). y.1) at;
        passes = member.1;
      }

  pub those_hold : (p : Entry K → Bool) (es : List (Entry K)) (n : ℕ) (d : Entry K) → n < length es → p (get_or es n d) ≡ true → Contains (those p es) (n, get_or es n d)
  those_hold p es n d inside passes =
      member_kept (λ (y : Numbered K). p y.1) (enumerate_from 0 es) (n, get_or es n d) (
        n,
        let len = length-enumerate_from 0 es in omega arith,
        get_or-enumerate_from 0 es n (n, get_or es n d) inside
            ∙ (λ j. ((let e : 0 + n ≡ n = omega arith in e) j, get_or_default es n (get_or es n d) d inside j)),
      )
      passes

-- ---- the first of some items, where those that are level with it are the same

pub first_of : {X : Type 0} (before : X → X → Bool) → IsStrictOrder before → (items : List X) (x : X) → IsFirst before items x
    → ((y : X) → Contains items y → before y x ≡ false → before x y ≡ false → y ≡ x) → leftmost before None items ≡ Some x
first_of {X} before order items x is level = by (leftmost before None items) refl
  where
    by : (o : Option X) → leftmost before None items ≡ o → o ≡ Some x
    by None e = absurd (none_first before items x (nothing_found before items e) is)
    by (Some y) e =
        let first = found_first before order items y e in
        ap Some (level y first.among (is.least y first.among) (first.least x is.among))

none_of : {X : Type 0} (items : List X) → ((x : X) → Contains items x → ⊥) → items ≡ []
none_of [] none = refl
none_of (x ∷ xs) none = absurd (none x (contains_head x xs))

pub none_found : {X : Type 0} (before : X → X → Bool) (items : List X) → ((x : X) → Contains items x → ⊥) → leftmost before None items ≡ None
none_found before items none = ap (leftmost before None) (none_of items none)

-- ---- the least open entry

nearer_strict : {K : Type 0} → IsStrictOrder (is_nearer {K = K})
nearer_strict = strict_from_total nearer_cmp (then_total (on_total (λ x. f x.1) nat_cmp_total) (then_total (on_total (λ x. x.1.h) nat_cmp_total) (on_total (λ x. x.0) nat_cmp_total)))

pub first_open_found : {K : Type 0} (es : List (Entry K)) (n : ℕ) (d : Entry K) → n < length es → is_open (get_or es n d).mark ≡ true
    → ((x : Numbered K) → IsThat (λ e. is_open e.mark) es x → is_sooner (rank_of x) (rank_of (n, get_or es n d)) ≡ false)
    → first_open es ≡ Some (n, get_or es n d)
first_open_found {K} es n d inside waiting least =
    let e = get_or es n d in
    first_of is_nearer nearer_strict (those (λ e. is_open e.mark) es) (n, e)
    (record {
      among = those_hold (λ e. is_open e.mark) es n d inside waiting;
      least = λ x found. least x (those_have (λ e. is_open e.mark) es x found);
    })
    (λ x found h k.
    let that = those_have (λ e. is_open e.mark) es x found in
    let number : x.0 ≡ n = ap (λ (q : Rank). q.number) (sooner_total (rank_of x) (rank_of (n, e)) h k) in
    (λ j. (number j, (sym that.is ∙ get_or_default es x.0 x.1 d that.inside ∙ ap (λ k. get_or es k d) number) j)))

pub first_open_none : {K : Type 0} (es : List (Entry K)) → ((x : Numbered K) → IsThat (λ e. is_open e.mark) es x → ⊥) → first_open es ≡ None
first_open_none es none = none_found is_nearer (those (λ e. is_open e.mark) es) (λ x found. none x (those_have (λ e. is_open e.mark) es x found))

-- ---- the first rank

pub first_rank_is : (ranks : List Rank) (q : Rank) → IsFirst is_sooner ranks q → first_rank ranks ≡ Some q
first_rank_is ranks q is = first_of is_sooner sooner_strict ranks q is (λ p found h k. sooner_total p q h k)

none_sooner : (x : Reverse Rank) (xs : List (Reverse Rank)) → IsUpperBound from_first x xs → All (λ (q : Rank). is_sooner q x.0 ≡ false) (map (λ (y : Reverse Rank). y.0) xs)
none_sooner x [] h = All-nil (λ (q : Rank). is_sooner q x.0 ≡ false)
none_sooner x (y ∷ ys) h = All-cons (λ (q : Rank). is_sooner q x.0 ≡ false) y.0 (map (λ (z : Reverse Rank). z.0) ys) h.0 (none_sooner x ys h.1)

-- what is on top of a heap
pub top_is_first : (x : Reverse Rank) (xs : List (Reverse Rank)) → Contains xs x → IsUpperBound from_first x xs → first_rank (map (λ (y : Reverse Rank). y.0) xs) ≡ Some x.0
top_is_first x xs among above =
    let ranks = map (λ (y : Reverse Rank). y.0) xs in
    first_rank_is ranks x.0 (record {
      among = to_map (λ (y : Reverse Rank). y.0) xs x among;
      least = λ q found. All-contains (λ (p : Rank). is_sooner p x.0 ≡ false) ranks q (none_sooner x xs above) found;
    })

-- ---- the cheapest entry

pub cheaper_strict : {K : Type 0} → IsStrictOrder (is_cheaper {K = K})
cheaper_strict = strict_from_total cheaper_cmp (then_total (on_total (λ x. x.1.g) nat_cmp_total) (on_total (λ x. x.0) nat_cmp_total))

pub cheaper_less : {K : Type 0} (x y : Numbered K) → x.1.g < y.1.g → is_cheaper x y ≡ true
cheaper_less x y less = ap (λ b. is_lt (ordering_then (cond b Less (cond (eqb x.1.g y.1.g) Equal Greater)) (nat_cmp x.0 y.0))) (lt-ltb x.1.g y.1.g less)

-- an entry of a higher number is cheaper where it costs less
pub cheaper_later : {K : Type 0} (x y : Numbered K) → x.0 < y.0 → is_cheaper y x ≡ not (nat_le x.1.g y.1.g)
cheaper_later x y later = by x.1.g y.1.g x.0 y.0 later
  where
    by : (a b m n : ℕ) → m < n → is_lt (ordering_then (nat_cmp b a) (nat_cmp n m)) ≡ not (nat_le a b)
    by a b m n h = grind (arith, nat_tests)
