-- How many declarations are of other types than those that are found.
use Rattle.mp_typing.proofs.Basics.{◌≡◌, ℕ, ◌<◌, ◌≤◌, Bool, true, false, not, cond, List, get_or, refl, arith, inl, inr, cases_Bool, Contains, Typed, is_among}
use Rattle.std.specs.Prelude.{remove}
use Rattle.std.specs.List.{count_by}
use Rattle.std.proofs.lemmas.List.Sums.{sum_by-le-sum_by, sum_by-remove}

-- each name of the first list is in the second
abbrev pub Keeps : List (List ℕ) → List (List ℕ) → Type 0
Keeps before after = (name : List ℕ) → is_among before name ≡ true → is_among after name ≡ true

-- a declaration counts where it is of another type
abbrev pub is_outside : List (List ℕ) → Typed → Bool
is_outside names t = not (is_among names t.word.name)

abbrev pub outside : List (List ℕ) → List Typed → ℕ
outside names declared = count_by (is_outside names) declared

abbrev counts : List (List ℕ) → Typed → ℕ
counts names t = cond (is_outside names t) 1 0

-- more names leave no more outside
counts_le : (before after : List (List ℕ)) → Keeps before after → (t : Typed) → counts after t ≤ counts before t
counts_le before after keeps t =
    elim (cases_Bool (is_among before t.word.name)) [
      | inl old ↦ rw (keeps t.word.name old) (omega arith)
      | inr new ↦ rw new (elim (cases_Bool (is_among after t.word.name)) [
        | inl in_now ↦ rw in_now (omega arith)
        | inr out_now ↦ rw out_now (omega arith)
      ])
    ]

-- and fewer, where a declared type is new
pub outside_lt : (before after : List (List ℕ)) → Keeps before after → (declared : List Typed) (t : Typed) → Contains declared t
    → is_among before t.word.name ≡ false → is_among after t.word.name ≡ true → outside after declared < outside before declared
outside_lt before after keeps declared t (i, lt, is) was now =
    let others = sum_by-le-sum_by (counts after) (counts before) (remove declared i) (counts_le before after keeps) in
    let all_before = sum_by-remove (counts before) declared i t lt in
    let all_after = sum_by-remove (counts after) declared i t lt in
    let one : counts before (get_or declared i t) ≡ 1 = rw (is, was) refl in
    let none : counts after (get_or declared i t) ≡ 0 = rw (is, now) refl in
    omega (arith, others, all_before, all_after, one, none)
