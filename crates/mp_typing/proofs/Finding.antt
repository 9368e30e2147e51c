-- The types that are found along the declarations are the tops and all types under them.
use Rattle.mp_typing.proofs.Basics.{◌≡◌, ℕ, zero, suc, zero-add, ◌+◌, ◌<◌, ◌≤◌, List, [], ◌∷◌, ◌++◌, length, get_or, take, Option, Some, None, ◌⊎◌, refl, sym, ap, subst, ◌∙◌, arith, inl, inr, append_assoc, Contains, slice_get, Decides, cases_Bool, or_cases, or_left, or_right}
use Rattle.mp_typing.proofs.Basics.{append-nil, length-append, take_more, list_any-append, Contains-append_left, Contains-push, Contains-push_cases, bytes_eq, contains_cases, contains_head, contains_one, contains_tail, no_member, Typed, is_among, DeclaredUnder, IsA, IsUnderOne, same, step, through_object, object_name}
use Rattle.std.proofs.Common.{◌-◌}
use Rattle.mp_typing.proofs.Basics.{directly_under, found_after, lies_under, lower, with_lower, with_type, with_types}
use Rattle.mp_typing.proofs.ByTypeLemmas.{has_under, is_under}
use Rattle.mp_typing.proofs.Lists.{among_from_contains, contains_from_among}
use Rattle.mp_typing.proofs.Lowering.{is_outside, outside, outside_lt}
use Rattle.std.proofs.lemmas.Bool.{cases_lt}
use Rattle.std.proofs.lemmas.List.{get_or_append_left}
use Rattle.std.proofs.lemmas.List.Sums.{count_by-le-length}
use Rattle.std.proofs.lemmas.Option.{get_or_from_slice_get, same_Some, slice_get-get_or, slice_get_past, slice_get_within}

pub member_at : {X : Type 0} (xs : List X) (i : ℕ) (x : X) → slice_get xs i ≡ Some x → Contains xs x
member_at xs i x at = (i, slice_get_within xs i x at, get_or_from_slice_get xs i x x at)

-- ---- types more

-- one list begins with another
abbrev Begins : List (List ℕ) → List (List ℕ) → Type 0
Begins before after = (more : List (List ℕ)) × (after ≡ before ++ more)

begins_on : (a b c : List (List ℕ)) → Begins a b → Begins b c → Begins a c
begins_on a b c (some, first) (more, next) = (some ++ more, next ∙ ap (λ (xs : List (List ℕ)). xs ++ more) first ∙ append_assoc a some more)

kept : (before after : List (List ℕ)) → Begins before after → (name : List ℕ) → Contains before name → Contains after name
kept before after (more, is) name found = rw is (Contains-append_left before more name found)

-- a type that is there, or is new
one_begins : (found : List (List ℕ)) (name : List ℕ) → Begins found (with_type found name)
one_begins found name =
    elim (cases_Bool (is_among found name)) [
      | inl there ↦ rw there ([], sym (append-nil found))
      | inr absent ↦ rw absent (name ∷ [], refl)
    ]

one_has : (found : List (List ℕ)) (name : List ℕ) → Contains (with_type found name) name
one_has found name =
    elim (cases_Bool (is_among found name)) [
      | inl there ↦ rw there (contains_from_among found name there)
      | inr absent ↦ rw absent (Contains-push found name)
    ]

one_from : (found : List (List ℕ)) (name other : List ℕ) → Contains (with_type found name) other → Contains found other ⊎ (name ≡ other)
one_from found name other has =
    elim (cases_Bool (is_among found name)) [
      | inl there ↦ inl (rw there at has)
      | inr absent ↦ Contains-push_cases found name other (rw absent at has)
    ]

types_begin : (found names : List (List ℕ)) → Begins found (with_types found names)
unfolding with_types
types_begin found [] = ([], sym (append-nil found))
types_begin found (n ∷ ns) =
    begins_on found (with_type found n) (with_types (with_type found n) ns) (one_begins found n) (types_begin (with_type found n) ns)

types_have : (found names : List (List ℕ)) (name : List ℕ) → Contains names name → Contains (with_types found names) name
unfolding with_types
types_have found [] name there = absurd (no_member name there)
types_have found (n ∷ ns) name there =
    elim (contains_cases n ns name there) [
      | inl here ↦
          kept (with_type found n) (with_types (with_type found n) ns) (types_begin (with_type found n) ns) name (subst (Contains (with_type found n)) here (one_has found n))
      | inr later ↦ types_have (with_type found n) ns name later
    ]

types_from : (found names : List (List ℕ)) (name : List ℕ) → Contains (with_types found names) name → Contains found name ⊎ Contains names name
unfolding with_types
types_from found [] name has = inl has
types_from found (n ∷ ns) name has =
    elim (types_from (with_type found n) ns name has) [
      | inl before ↦ elim (one_from found n name before) [
        | inl old ↦ inl old
        | inr here ↦ inr (subst (Contains (n ∷ ns)) here (contains_head n ns))
      ]
      | inr later ↦ inr (contains_tail n ns name later)
    ]

-- the last one
pub types_push : (found names : List (List ℕ)) (name : List ℕ) → with_types found (names ++ name ∷ []) ≡ with_type (with_types found names) name
unfolding with_types
types_push found [] name = refl
types_push found (n ∷ ns) name = types_push (with_type found n) ns name

pub types_more : (found names now : List (List ℕ)) (i : ℕ) (name : List ℕ) → i < length names → name ≡ get_or names i name
    → now ≡ with_type (with_types found (take i names)) name → now ≡ with_types found (take (i + 1) names)
types_more found names now i name lt is more =
    more ∙ sym (ap (with_types found) (take_more names i name lt ∙ ap (λ (n : List ℕ). take i names ++ n ∷ []) (sym is)) ∙ types_push found (take i names) name)

-- ---- how many are found

types_long : (found names : List (List ℕ)) → length (with_types found names) ≤ length found + length names
unfolding with_types
types_long found [] = omega arith
types_long found (n ∷ ns) =
    let rest = types_long (with_type found n) ns in
    let one : length (with_type found n) ≤ length found + 1 =
    elim (cases_Bool (is_among found n)) [
      | inl there ↦ rw there (omega arith)
      | inr absent ↦ rw absent (omega (arith, length-append found (n ∷ [])))
    ] in
    omega (arith, one, rest)

-- a declared type that is found is one outside no more
one_counted : (declared : List Typed) (found : List (List ℕ)) (name : List ℕ) (t : Typed) → Contains declared t → t.word.name ≡ name
    → length (with_type found name) + outside (with_type found name) declared ≤ length found + outside found declared
one_counted declared found name t listed named =
    elim (cases_Bool (is_among found name)) [
      | inl there ↦ rw there (omega arith)
      | inr absent ↦
          let after : List (List ℕ) = found ++ name ∷ [] in
          let less = outside_lt found after
          (λ q h. list_any-append (bytes_eq q) found (name ∷ []) ∙ or_left (is_among found q) (is_among (name ∷ []) q) h) declared t listed
          (ap (is_among found) named ∙ absent) (ap (is_among after) named ∙ among_from_contains after name (Contains-push found name)) in
          let longer = length-append found (name ∷ []) in
          rw absent (omega (arith, less, longer))
    ]

types_counted : (declared : List Typed) (found names : List (List ℕ))
    → ((name : List ℕ) → Contains names name → (t : Typed) × Contains declared t × (t.word.name ≡ name))
    → length (with_types found names) + outside (with_types found names) declared ≤ length found + outside found declared
unfolding with_types
types_counted declared found [] all = omega arith
types_counted declared found (n ∷ ns) all =
    let (t, listed, named) = all n (contains_head n ns) in
    let one = one_counted declared found n t listed named in
    let rest = types_counted declared (with_type found n) ns (λ name later. all name (contains_tail n ns name later)) in
    omega (arith, one, rest)

-- ---- the search

-- what is found once so many were looked at: the tops, types under them, and what is directly under those looked at
record IsFoundSoFar (declared : List Typed) (tops : List (List ℕ)) (n : ℕ) (found : List (List ℕ)) : Type 0 where
  has_tops : (name : List ℕ) → Contains tops name → Contains found name
  under : (name : List ℕ) → Contains found name → IsUnderOne declared tops name
  few : length found + outside found declared ≤ length tops + length declared
  looked : (i : ℕ) (name sub : List ℕ) → i < n → slice_get found i ≡ Some name → DeclaredUnder declared sub name → Contains found sub

begun : (declared : List Typed) (tops : List (List ℕ)) → IsFoundSoFar declared tops 0 (with_types [] tops)
begun declared tops =
    record {
      has_tops = types_have [] tops;
      under = λ name found. elim (types_from [] tops name found) [
        | inl none ↦ absurd (no_member name none)
        | inr top ↦ record { top = name; among = top; under = same }
      ];
      few = (let one = types_long [] tops in let two = count_by-le-length (is_outside (with_types [] tops)) declared in omega (arith, one, two));
      looked = λ i name sub lt at d. absurd (omega (arith, lt));
    }

looks : (declared : List Typed) (tops : List (List ℕ)) (n : ℕ) (found : List (List ℕ)) (o : Option (List ℕ)) → slice_get found n ≡ o
    → IsFoundSoFar declared tops n found → IsFoundSoFar declared tops (suc n) (with_lower declared found o)
looks declared tops n found None at s =
    record {
      has_tops = s.has_tops;
      under = s.under;
      few = s.few;
      looked = λ i name sub lt there d. elim (cases_lt i n) [
        | inl below ↦ s.looked i name sub below there d
        | inr last ↦ absurd (let here : i ≡ n = omega (arith, lt, last) in let no : None ≡ Some name = sym at ∙ ap (slice_get found) (sym here) ∙ there in cc)
      ];
    }
looks declared tops n found (Some m) at s =
    let more = directly_under declared m in
    let after = with_types found more in
    let begins = types_begin found more in
    let mine = member_at found n m at in
    record {
      has_tops = λ name top. kept found after begins name (s.has_tops name top);
      under = λ name there. elim (types_from found more name there) [
        | inl old ↦ s.under name old
        | inr new ↦ let of = s.under m mine in record { top = of.top; among = of.among; under = step (is_under declared m name new) of.under }
      ];
      few = (let less = types_counted declared found more (λ name new. let d = is_under declared m name new in (d.declaration, d.listed, d.lower)) in
          let so_far = s.few in
          omega (arith, less, so_far));
      looked = λ i name sub lt there d.
          let inside : i < length found = let b = slice_get_within found n m at in omega (arith, b, lt) in
          let same = sym (ap (λ (ns : List (List ℕ)). get_or ns i name) begins.1 ∙ get_or_append_left found begins.0 name i inside) ∙ get_or_from_slice_get after i name name there in
          let was : slice_get found i ≡ Some name = slice_get-get_or found i name inside ∙ ap Some same in
          elim (cases_lt i n) [
            | inl below ↦ kept found after begins sub (s.looked i name sub below was d)
            | inr last ↦
                let here : i ≡ n = omega (arith, lt, last) in
                let is : name ≡ m = same_Some name m (sym was ∙ ap (slice_get found) here ∙ at) in
                types_have found more sub (has_under declared m sub (rw is at d))
          ];
    }

found_so_far : (declared : List Typed) (tops : List (List ℕ)) (n : ℕ) → IsFoundSoFar declared tops n (found_after declared tops n)
unfolding found_after
found_so_far declared tops zero = begun declared tops
found_so_far declared tops (suc n) =
    looks declared tops n (found_after declared tops n) (slice_get (found_after declared tops n) n) refl (found_so_far declared tops n)

-- one more was looked at
pub looked_on : (declared : List Typed) (tops now : List (List ℕ)) (n : ℕ)
    → now ≡ with_lower declared (found_after declared tops n) (slice_get (found_after declared tops n) n) → now ≡ found_after declared tops (n + 1)
unfolding found_after
looked_on declared tops now n is = let next : suc n ≡ n + 1 = omega arith in is ∙ ap (found_after declared tops) next

pub none_looked_at : (declared : List Typed) (tops : List (List ℕ)) → with_types [] tops ≡ found_after declared tops 0
unfolding found_after
none_looked_at declared tops = refl

-- once each that is found was looked at, no more are found
no_more : (declared : List Typed) (tops : List (List ℕ)) (n more : ℕ) → length (found_after declared tops n) ≤ n → found_after declared tops (more + n) ≡ found_after declared tops n
unfolding found_after
no_more declared tops n zero all = ap (found_after declared tops) (zero-add n)
no_more declared tops n (suc more) all =
    let none = slice_get_past (found_after declared tops n) (more + n) (omega (arith, all)) in
    let next : suc more + n ≡ suc (more + n) = omega arith in
    rw (next, no_more declared tops n more all, none) refl

pub all_looked_at : (declared : List Typed) (tops : List (List ℕ)) (n : ℕ) → n ≤ length tops + length declared → length (found_after declared tops n) ≤ n → found_after declared tops n ≡ lower declared tops
all_looked_at declared tops n within all =
    let left : ℕ = length tops + length declared - n in
    let whole : left + n ≡ length tops + length declared = omega (arith, within) in
    sym (no_more declared tops n left all) ∙ ap (found_after declared tops) whole

-- ---- all that is found

all_found : (declared : List Typed) (tops : List (List ℕ)) → IsFoundSoFar declared tops (length tops + length declared) (lower declared tops)
all_found declared tops = found_so_far declared tops (length tops + length declared)

pub tops_found : (declared : List Typed) (tops : List (List ℕ)) (name : List ℕ) → Contains tops name → Contains (lower declared tops) name
tops_found declared tops = (all_found declared tops).has_tops

pub found_under : (declared : List Typed) (tops : List (List ℕ)) (name : List ℕ) → Contains (lower declared tops) name → IsUnderOne declared tops name
found_under declared tops = (all_found declared tops).under

closed : (declared : List Typed) (tops : List (List ℕ)) (sub middle : List ℕ) → DeclaredUnder declared sub middle
    → Contains (lower declared tops) middle → Contains (lower declared tops) sub
closed declared tops sub middle d there =
    let s = all_found declared tops in
    let (i, lt, is) = there in
    let few = s.few in
    s.looked i middle sub (omega (arith, lt, few)) (slice_get-get_or (lower declared tops) i middle lt ∙ ap Some is) d

-- a type under one that is found is found, or `object` is
pub reaches : (declared : List Typed) (tops : List (List ℕ)) {sub sup : List ℕ} → IsA declared sub sup → Contains (lower declared tops) sup
    → Contains (lower declared tops) sub ⊎ Contains (lower declared tops) object_name
reaches declared tops (same {name = n}) there = inl there
reaches declared tops (step {sub = s} {middle = m} down up) there =
    elim (reaches declared tops up there) [
      | inl found ↦ inl (closed declared tops s m down found)
      | inr object ↦ inr object
    ]
reaches declared tops (through_object {sub = s} up) there =
    elim (reaches declared tops up there) [
      | inl object ↦ inr object
      | inr object ↦ inr object
    ]

pub lies_under_decides : (declared : List Typed) (tops : List (List ℕ)) (name : List ℕ) → Decides (lies_under declared tops name) (IsUnderOne declared tops name)
lies_under_decides declared tops name =
    let found = lower declared tops in (
      (λ h. elim (or_cases (is_among found name) (is_among found object_name) h) [
        | inl there ↦ found_under declared tops name (contains_from_among found name there)
        | inr object ↦
            let of = found_under declared tops object_name (contains_from_among found object_name object) in
            record { top = of.top; among = of.among; under = through_object of.under }
      ]),
      (λ of. elim (reaches declared tops of.under (tops_found declared tops of.top of.among)) [
        | inl there ↦ or_left (is_among found name) (is_among found object_name) (among_from_contains found name there)
        | inr object ↦ or_right (is_among found name) (is_among found object_name) (among_from_contains found object_name object)
      ]),
    )

-- the types that lie under one
pub under_one : (declared : List Typed) (sub sup : List ℕ) → Decides (lies_under declared (sup ∷ []) sub) (IsA declared sub sup)
under_one declared sub sup =
    let d = lies_under_decides declared (sup ∷ []) sub in (
      (λ h. let of = d.0 h in subst (IsA declared sub) (contains_one sup of.top of.among) of.under),
      (λ is. d.1 record { top = sup; among = contains_head sup []; under = is }),
    )
