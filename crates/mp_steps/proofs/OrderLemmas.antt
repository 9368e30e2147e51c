-- Writing the steps one after another, each in any order, leads where the plan leads.
use Rattle.std.proofs.Common.{◌≡◌, ℕ, zero, suc, ◌+◌, ◌<◌, ◌≤◌, false, cond, eqb, List, [], ◌∷◌, ◌++◌, map, Option, refl, sym, ap, subst, ◌∙◌, arith, inl, inr, Contains, IsPermutation}
use Rattle.std.specs.List.{range_with_len, flat_map, sum_by}
use Rattle.std.specs.Option.{option_and_then}
use Rattle.std.proofs.lemmas.Bool.{cases_eq, cases_Bool, eq-eqb, ne_eqb}
use Rattle.std.proofs.lemmas.List.Elements.{Contains-append_cases, Contains-append_left, Contains-append_right}
use Rattle.std.proofs.lemmas.List.Sums.{sum_by-cons, sum_by-append}
use Rattle.std.proofs.lemmas.List.Sorted.{IsPermutation-refl, IsPermutation-sym, IsPermutation-trans, IsPermutation-append, Contains-permutation, sum_by-IsPermutation}
use Rattle.mp_list.proofs.Members.{contains_head, contains_tail, contains_cases, no_member}
use Rattle.mp_runs.specs.Run.{run}
use Rattle.mp_runs.proofs.Runs.{run-append, run-cons, run-more, run-one}
use Rattle.mp_steps.specs.Levels.{Test, times, greatest, level_at}
use Rattle.mp_steps.specs.Steps.{step_of, steps}
use Rattle.mp_steps.specs.Packing.{WritesOut}
use Rattle.mp_steps.proofs.LevelLemmas.{AreLevels}
use Rattle.mp_steps.proofs.MemberLemmas.{in_range}
use Rattle.mp_steps.proofs.PackingLemmas.{in_step, are_packed}

-- ---- how often a time stands in a list

abbrev count : ℕ → List ℕ → ℕ
count t xs = sum_by (λ y. cond (eqb y t) 1 0) xs

counted : (x : ℕ) (xs : List ℕ) → 1 ≤ count x xs → Contains xs x
counted x [] h = absurd (omega (arith, h))
counted x (y ∷ ys) h =
    elim (cases_eq y x) [
      | inl same ↦ subst (Contains (y ∷ ys)) same (contains_head y ys)
      | inr other ↦
          let none = ap {B = ℕ} (λ b. cond b 1 0) (ne_eqb y x other) in
          let all = sum_by-cons (λ z. cond (eqb z x) 1 0) y ys in
          contains_tail y ys x (counted x ys (omega (arith, h, none, all)))
    ]

counts : (x : ℕ) (xs : List ℕ) → Contains xs x → 1 ≤ count x xs
counts x [] c = absurd (no_member x c)
counts x (y ∷ ys) c =
    let all = sum_by-cons (λ z. cond (eqb z x) 1 0) y ys in
    elim (contains_cases y ys x c) [
      | inl here ↦ let one = ap {B = ℕ} (λ b. cond b 1 0) (eq-eqb y x here) in omega (arith, one, all)
      | inr there ↦ let rest = counts x ys there in omega (arith, rest, all)
    ]

-- a list cut where a member first stands in it
record IsCut (x : ℕ) (q : List ℕ) : Type 0 where
  before : List ℕ
  behind : List ℕ
  is : q ≡ before ++ x ∷ behind
  new : (y : ℕ) → Contains before y → y ≡ x → ⊥

cut_at : (x : ℕ) (q : List ℕ) → Contains q x → IsCut x q
cut_at x [] c = absurd (no_member x c)
cut_at x (y ∷ ys) c =
    elim (cases_eq y x) [
      | inl same ↦ record { before = []; behind = ys; is = ap (λ z. z ∷ ys) same; new = λ z in_none. absurd (no_member z in_none) }
      | inr other ↦
          elim (contains_cases y ys x c) [
            | inl here ↦ absurd (other here)
            | inr there ↦ later y ys other (cut_at x ys there)
          ]
    ]
  where
    later : (y : ℕ) (ys : List ℕ) → (y ≡ x → ⊥) → IsCut x ys → IsCut x (y ∷ ys)
    later y ys other r = record {
      before = y ∷ r.before;
      behind = r.behind;
      is = ap (λ zs. y ∷ zs) r.is;
      new = λ z c same. elim (contains_cases y r.before z c) [
        | inl here ↦ other (here ∙ same)
        | inr there ↦ r.new z there same
      ];
    }

-- ---- lists that rise, and lists along which levels never fall

abbrev IsRising : List ℕ → Type 0
IsRising [] = Unit {0}
IsRising (x ∷ xs) = ((y : ℕ) → Contains xs y → x < y) × IsRising xs

rising : (a n : ℕ) → IsRising (range_with_len a n)
rising a zero = tt
rising a (suc n) = ((λ y c. let low = (in_range (a + 1) n y c).0 in omega (arith, low)), rising (a + 1) n)

abbrev NeverFalls : (ℕ → ℕ) → List ℕ → Type 0
NeverFalls level [] = Unit {0}
NeverFalls level (x ∷ xs) = ((y : ℕ) → Contains xs y → level x ≤ level y) × NeverFalls level xs

module _ (level : ℕ → ℕ) where
  never_falls : (xs ys : List ℕ) → NeverFalls level xs → NeverFalls level ys
      → ((x y : ℕ) → Contains xs x → Contains ys y → level x ≤ level y) → NeverFalls level (xs ++ ys)
  never_falls [] ys first second across = second
  never_falls (x ∷ xs) ys first second across = (
    λ y c. elim (Contains-append_cases xs ys y c) [
      | inl own ↦ first.0 y own
      | inr other ↦ across x y (contains_head x xs) other
    ],
    never_falls xs ys first.1 second (λ z y in_xs in_ys. across z y (contains_tail x xs z in_xs) in_ys),
  )

  same_levels : (a : ℕ) (xs : List ℕ) → ((x : ℕ) → Contains xs x → level x ≡ a) → NeverFalls level xs
  same_levels a [] all = tt
  same_levels a (x ∷ xs) all = (
    λ y c.
        let one = all x (contains_head x xs) in
        let other = all y (contains_tail x xs y c) in
        omega (arith, one, other),
    same_levels a xs (λ y c. all y (contains_tail x xs y c)),
  )

  without : (u : List ℕ) (x : ℕ) (w : List ℕ) → NeverFalls level (u ++ x ∷ w)
      → ((y : ℕ) → Contains u y → level y ≤ level x) × NeverFalls level (u ++ w)
  without [] x w h = ((λ y c. absurd (no_member y c)), h.1)
  without (z ∷ u) x w h =
      let r = without u x w h.1 in (
        λ y c. elim (contains_cases z u y c) [
          | inl here ↦ subst (λ k. level k ≤ level x) here (h.0 x (Contains-append_right u (x ∷ w) x (contains_head x w)))
          | inr there ↦ r.0 y there
        ],
        (
          λ y c. elim (Contains-append_cases u w y c) [
            | inl first ↦ h.0 y (Contains-append_left u (x ∷ w) y first)
            | inr second ↦ h.0 y (Contains-append_right u (x ∷ w) y (contains_tail x w y second))
          ],
          r.1,
        ),
      )

-- ---- orders

module _ (interfere : Test) (n : ℕ) (ls : List ℕ) (are : AreLevels interfere n ls) where
  record IsWritten (a : ℕ) (lists : List (List ℕ)) (order : List ℕ) : Type 0 where
    same : IsPermutation (flat_map (λ s. s) lists) order
    least : (t : ℕ) → Contains order t → a ≤ level_at ls t
    falls : NeverFalls (level_at ls) order

  written : (a m : ℕ) (order : List ℕ) → WritesOut (map (step_of ls n) (range_with_len a m)) order
      → IsWritten a (map (step_of ls n) (range_with_len a m)) order
  written a zero order is =
      subst (IsWritten a []) (sym is)
      (record { same = IsPermutation-refl []; least = λ t c. absurd (no_member t c); falls = tt })
  written a (suc m) order (front, later, own, rest, is) =
      let r = written (a + 1) m later rest in
      let others = map (step_of ls n) (range_with_len (a + 1) m) in
      let level : (t : ℕ) → Contains front t → level_at ls t ≡ a =
      λ t c. (in_step interfere n ls are a t (Contains-permutation front (step_of ls n a) t (IsPermutation-sym (step_of ls n a) front own) c)).is in
      subst (IsWritten a (step_of ls n a ∷ others)) (sym is)
      (record {
        same = IsPermutation-append (step_of ls n a) front (flat_map (λ s. s) others) later own r.same;
        least = λ t c. elim (Contains-append_cases front later t c) [
          | inl first ↦ let e = level t first in omega (arith, e)
          | inr second ↦ let low = r.least t second in omega (arith, low)
        ];
        falls = never_falls (level_at ls) front later (same_levels (level_at ls) a front level) r.falls
            (λ x y in_front in_later.
            let e = level x in_front in
            let low = r.least y in_later in
            omega (arith, e, low));
      })

  module _ {S : Type 0} (after : S → ℕ → Option S) where
    -- what does not interfere may be done in either order
    abbrev pub Commutes : Type 0
    Commutes =
        (s : S) (t u : ℕ) → 1 ≤ t → t < u → u ≤ n → interfere t u ≡ false
        → option_and_then (λ w. after w u) (after s t) ≡ option_and_then (λ w. after w t) (after s u)

    pair : (s : S) (t u : ℕ) → run after s (t ∷ u ∷ []) ≡ option_and_then (λ w. after w u) (after s t)
    pair s t u = run-more after s (t ∷ []) u ∙ ap (option_and_then (λ w. after w u)) (run-one after s t)

    same_later : (s : S) (x : ℕ) (xs ys : List ℕ) → ((t : S) → run after t xs ≡ run after t ys) → run after s (x ∷ xs) ≡ run after s (x ∷ ys)
    same_later s x xs ys each = run-cons after s x xs ∙ (λ i. option_and_then (λ t. each t i) (after s x)) ∙ sym (run-cons after s x ys)

    swap : Commutes → (s : S) (t u : ℕ) (later : List ℕ) → 1 ≤ t → t < u → u ≤ n → interfere t u ≡ false → run after s (u ∷ t ∷ later) ≡ run after s (t ∷ u ∷ later)
    swap commutes s t u later first before within apart =
        run-append after s (u ∷ t ∷ []) later
        ∙ ap (option_and_then (λ w. run after w later)) (pair s u t ∙ sym (commutes s t u first before within apart) ∙ sym (pair s t u))
        ∙ sym (run-append after s (t ∷ u ∷ []) later)

    -- where an earlier action interferes with none of these, it may be done before them
    to_front : Commutes → (u : List ℕ) (x : ℕ) (w : List ℕ) (s : S) → 1 ≤ x
        → ((y : ℕ) → Contains u y → (x < y) × (y ≤ n) × (interfere x y ≡ false))
        → run after s (u ++ x ∷ w) ≡ run after s (x ∷ (u ++ w))
    to_front commutes [] x w s first all = refl
    to_front commutes (y ∷ u) x w s first all =
        let own = all y (contains_head y u) in
        same_later s y (u ++ x ∷ w) (x ∷ (u ++ w)) (λ t. to_front commutes u x w t first (λ z c. all z (contains_tail y u z c)))
        ∙ swap commutes s x y (u ++ w) first own.0 own.1 own.2

    reordered : Commutes → (p q : List ℕ) → ((t : ℕ) → count t q ≡ count t p) → IsRising p → ((t : ℕ) → Contains p t → (1 ≤ t) × (t ≤ n))
        → NeverFalls (level_at ls) q → (s : S) → run after s q ≡ run after s p
    reordered commutes [] [] same rises within falls s = refl
    reordered commutes [] (y ∷ ys) same rises within falls s =
        let has = counts y (y ∷ ys) (contains_head y ys) in
        let none = same y in
        absurd (omega (arith, has, none))
    reordered commutes (x ∷ xs) q same rises within falls s =
        let own = counts x (x ∷ xs) (contains_head x xs) in
        let both = same x in
        let cut = cut_at x q (counted x q (omega (arith, own, both))) in
        let u = cut.before in
        let w = cut.behind in
        let parts = without (level_at ls) u x w (subst (NeverFalls (level_at ls)) cut.is falls) in
        let here = within x (contains_head x xs) in
        let all : (y : ℕ) → Contains u y → (x < y) × (y ≤ n) × (interfere x y ≡ false) =
        λ y c.
        let in_q = counts y q (subst (λ zs. Contains zs y) (sym cut.is) (Contains-append_left u (x ∷ w) y c)) in
        let equal = same y in
        let in_p = counted y (x ∷ xs) (omega (arith, in_q, equal)) in
        elim (contains_cases x xs y in_p) [
          | inl same_one ↦ absurd (cut.new y c (sym same_one))
          | inr behind ↦
              let before = rises.0 y behind in
              let far = within y in_p in (
                before,
                far.1,
                elim (cases_Bool (interfere x y)) [
                  | inl meets ↦
                      let up = are.rises x y here.0 before far.1 meets in
                      let down = parts.0 y c in
                      absurd (omega (arith, up, down))
                  | inr apart ↦ apart
                ],
              )
        ] in
        let fewer : (t : ℕ) → count t (u ++ w) ≡ count t xs =
        λ t.
        let one = λ (y : ℕ). cond (eqb y t) 1 0 in
        let a = same t in
        let b = ap (count t) cut.is in
        let c = sum_by-append one u (x ∷ w) in
        let d = sum_by-cons one x w in
        let e = sum_by-cons one x xs in
        let f = sum_by-append one u w in
        omega (arith, a, b, c, d, e, f) in
        ap (run after s) cut.is
        ∙ to_front commutes u x w s here.0 all
        ∙ same_later s x (u ++ w) xs
        (λ t. reordered commutes xs (u ++ w) fewer rises.1 (λ y c. within y (contains_tail x xs y c)) parts.1 t)

    pub order_is_permutation : (order : List ℕ) → WritesOut (steps ls n) order → IsPermutation (times n) order
    order_is_permutation order h =
        IsPermutation-trans (times n) (flat_map (λ s. s) (steps ls n)) order (are_packed interfere n ls are).once (written 1 (greatest ls) order h).same

    pub order_leads_there : Commutes → (order : List ℕ) → WritesOut (steps ls n) order → (s : S) → run after s order ≡ run after s (times n)
    order_leads_there commutes order h s =
        reordered commutes (times n) order
        (λ t. sum_by-IsPermutation (λ y. cond (eqb y t) 1 0) (times n) order (order_is_permutation order h))
        (rising 1 n)
        (λ t c.
        let r = in_range 1 n t c in
        let high = r.1 in
        (r.0, omega (arith, high)))
        (written 1 (greatest ls) order h).falls s
