-- Times of a share, and noted actions whose backs rise.
use Rattle.std.proofs.Common.{◌≡◌, ℕ, ◌+◌, ◌-◌, ◌<◌, ◌≤◌, Bool, true, false, ltb, List, [], ◌∷◌, ◌++◌, length, map, get_or, reverse, Some, All, AllPairs, refl, sym, ap, ◌∙◌, arith, inl, inr}
use Rattle.std.specs.Prelude.{◌⊎◌, slice_get}
use Rattle.std.specs.List.{range_with_len}
use Rattle.std.proofs.lemmas.Bool.{cases_eq, cases_lt, lt-ltb, ltb-true}
use Rattle.std.proofs.lemmas.List.{get_or-append_right, get_or_append_left, get_or-map, get_or-reverse, length-append, length-map, length-reverse, map-append, reverse-append}
use Rattle.std.proofs.lemmas.List.Folds.{list_all_at}
use Rattle.std.proofs.lemmas.List.FromFn.{get_or-range_with_len}
use Rattle.std.proofs.lemmas.List.Sums.{AllPass-from_list_all, list_all-from_AllPass}
use Rattle.std.proofs.lemmas.Option.{get_or_from_slice_get, slice_get_within}
use Rattle.mp_trail.specs.declared.steps.Noted.{Noted}
use Rattle.mp_trail.specs.declared.steps.Timed.{Timed}
use Rattle.mp_trail.specs.Share.{IsRising, fits, share, timed}

-- an action past the end of a list
abbrev nothing : Noted
nothing = record { action = 0; back = 0 }

-- ---- backs below a limit

below_at : (limit : ℕ) (xs : List Noted) (i : ℕ) (d : Noted) → fits limit xs ≡ true → i < length xs → (get_or xs i d).back < limit
below_at limit xs i d below inside =
    ltb-true (get_or xs i d).back limit (AllPass-from_list_all (λ n. ltb n.back limit) xs below i d inside)

below_all : (limit : ℕ) (xs : List Noted) → ((i : ℕ) (d : Noted) → i < length xs → (get_or xs i d).back < limit) → fits limit xs ≡ true
below_all limit xs below =
    list_all-from_AllPass (λ n. ltb n.back limit) xs (λ i d inside. lt-ltb (get_or xs i d).back limit (below i d inside))

-- the last action tells of all
pub last_tells : (limit : ℕ) (xs : List Noted) (last : Noted) → IsRising xs → slice_get xs (length xs - 1) ≡ Some last
    → ltb last.back limit ≡ fits limit xs
last_tells limit xs last rising found = by (ltb last.back limit) refl
  where
    at : (d : Noted) → get_or xs (length xs - 1) d ≡ last
    at d = get_or_from_slice_get xs (length xs - 1) last d found

    inside : length xs - 1 < length xs
    inside = slice_get_within xs (length xs - 1) last found

    up_to : (i : ℕ) (d : Noted) → i < length xs → (get_or xs i d).back ≤ last.back
    up_to i d within =
        elim (cases_eq i (length xs - 1)) [
          | inl is ↦ omega (arith, ap (λ k. (get_or xs k d).back) is, ap (λ (n : Noted). n.back) (at d))
          | inr other ↦
              omega (arith, rising i (length xs - 1) d (omega (arith, other, within)) inside, ap (λ (n : Noted). n.back) (at d))
        ]

    by : (b : Bool) → ltb last.back limit ≡ b → b ≡ fits limit xs
    by true is =
        sym (below_all limit xs (λ i d within. omega (arith, up_to i d within, ltb-true last.back limit is)))
    by false is =
        sym (list_all_at (λ n. ltb n.back limit) xs (length xs - 1) nothing inside
        (ap (λ (n : Noted). ltb n.back limit) (at nothing) ∙ is))

-- ---- a walk's backs after those of earlier ones

backs_at : (back : ℕ) (ys : List Noted) (i : ℕ) (d : Noted) → map (λ n. n.back) ys ≡ range_with_len back (length ys) → i < length ys
    → (get_or ys i d).back ≡ back + i
backs_at back ys i d backs inside =
    sym (get_or-map (λ n. n.back) ys i d 0 inside)
    ∙ ap (λ (ns : List ℕ). get_or ns i 0) backs
    ∙ get_or-range_with_len back (length ys) i 0 inside

pub rising_on : (back : ℕ) (xs ys : List Noted) → IsRising xs → fits back xs ≡ true
    → map (λ n. n.back) ys ≡ range_with_len back (length ys) → IsRising (xs ++ ys)
rising_on back xs ys rising below backs i j d before inside = by (cases_lt j (length xs)) (cases_lt i (length xs))
  where
    len : length (xs ++ ys) ≡ length xs + length ys
    len = length-append xs ys

    early : (k : ℕ) → k < length xs → (get_or (xs ++ ys) k d).back ≡ (get_or xs k d).back
    early k within = ap (λ (n : Noted). n.back) (get_or_append_left xs ys d k within)

    late : (k : ℕ) → length xs ≤ k → k < length (xs ++ ys) → (get_or (xs ++ ys) k d).back ≡ back + (k - length xs)
    late k behind within =
        ap (λ (n : Noted). n.back) (get_or-append_right xs ys (length xs) k d refl behind)
        ∙ backs_at back ys (k - length xs) d backs (omega (arith, len, behind, within))

    by : (j < length xs) ⊎ (length xs ≤ j) → (i < length xs) ⊎ (length xs ≤ i) → (get_or (xs ++ ys) i d).back < (get_or (xs ++ ys) j d).back
    by (inl j_early) (inl i_early) = omega (arith, early i i_early, early j j_early, rising i j d before j_early)
    by (inl j_early) (inr i_late) = absurd (omega (arith, j_early, i_late, before))
    by (inr j_late) (inl i_early) = omega (arith, early i i_early, late j j_late inside, below_at back xs i d below i_early)
    by (inr j_late) (inr i_late) =
        omega (arith, late i i_late (omega (arith, before, inside)), late j j_late inside, before, i_late)

-- after a walk all backs are below the one that it has reached
pub fits_on : (back : ℕ) (xs ys : List Noted) → fits back xs ≡ true
    → map (λ n. n.back) ys ≡ range_with_len back (length ys) → fits (back + length ys) (xs ++ ys) ≡ true
fits_on back xs ys below backs = below_all (back + length ys) (xs ++ ys) at
  where
    at : (i : ℕ) (d : Noted) → i < length (xs ++ ys) → (get_or (xs ++ ys) i d).back < back + length ys
    at i d inside =
        elim (cases_lt i (length xs)) [
          | inl early ↦
              omega (arith, ap (λ (n : Noted). n.back) (get_or_append_left xs ys d i early), below_at back xs i d below early)
          | inr late ↦
              let within : i - length xs < length ys = omega (arith, length-append xs ys, late, inside) in
              omega (
                arith,
                ap (λ (n : Noted). n.back) (get_or-append_right xs ys (length xs) i d refl late),
                backs_at back ys (i - length xs) d backs within,
                within,
              )
        ]

-- ---- times

share_len : (plan : ℕ) (xs : List Noted) → length (share plan xs) ≡ length xs
share_len plan xs = length-reverse (map (timed plan) xs) ∙ length-map xs (timed plan)

time_at : (plan : ℕ) (xs : List Noted) (k : ℕ) (d : Timed) → k < length (share plan xs)
    → (get_or (share plan xs) k d).time ≡ plan - (get_or xs (length xs - 1 - k) nothing).back
time_at plan xs k d inside =
    let len : length (map (timed plan) xs) ≡ length xs = length-map xs (timed plan) in
    let within : k < length xs = omega (arith, share_len plan xs, inside) in
    ap (λ (t : Timed). t.time)
    (get_or-reverse (map (timed plan) xs) k d (omega (arith, len, within))
    ∙ ap (λ n. get_or (map (timed plan) xs) (n - 1 - k) d) len
    ∙ get_or-map (timed plan) xs (length xs - 1 - k) nothing d (omega (arith, within)))

pub times_rise : (plan : ℕ) (xs : List Noted) → IsRising xs → fits plan xs ≡ true
    → AllPairs (λ (a later : Timed). a.time < later.time) (share plan xs)
times_rise plan xs rising below i j d before inside =
    let len = share_len plan xs in
    omega (
      arith,
      time_at plan xs i d (omega (arith, before, inside)),
      time_at plan xs j d inside,
      rising (length xs - 1 - j) (length xs - 1 - i) nothing (omega (arith, len, before, inside)) (omega (arith, len, before, inside)),
      below_at plan xs (length xs - 1 - i) nothing below (omega (arith, len, before, inside)),
    )

pub times_within : (plan : ℕ) (xs : List Noted) → fits plan xs ≡ true
    → All (λ (t : Timed). (1 ≤ t.time) × (t.time ≤ plan)) (share plan xs)
times_within plan xs below k d inside =
    let at = time_at plan xs k d inside in
    let small = below_at plan xs (length xs - 1 - k) nothing below (omega (arith, share_len plan xs, inside)) in
    (omega (arith, at, small), omega (arith, at))

-- the share of one action more
pub share_more : (plan : ℕ) (xs : List Noted) (x : Noted) → share plan (xs ++ x ∷ []) ≡ timed plan x ∷ share plan xs
share_more plan xs x = ap reverse (map-append (timed plan) xs (x ∷ [])) ∙ reverse-append (map (timed plan) xs) (timed plan x ∷ [])
