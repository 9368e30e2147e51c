-- Items that are taken one by one, each from the place behind those that were taken.
use Rattle.std.proofs.Common.{◌≡◌, sym, ap, ◌∙◌, ℕ, ◌+◌, ◌-◌, ◌<◌, ◌≤◌, List, [], ◌∷◌, ◌++◌, length, slice_get, take, Some, None, length-append, arith, inl, inr}
use Rattle.std.proofs.lemmas.List.{take_all, take_more}
use Rattle.std.proofs.lemmas.Option.{get_or_from_slice_get, none-some, slice_get_cases, slice_get_within}

module _ {X : Type 0} (xs made : List X) (so_far : made ≡ take (length made) xs) where
  -- one item more
  module _ (x : X) (more : List X) (there : slice_get xs (length made) ≡ Some x) (is : more ≡ made ++ x ∷ []) where
    within : length made < length xs
    within = slice_get_within xs (length made) x there

    one_longer : length more ≡ length made + 1
    one_longer = ap (λ (ys : List X). length ys) is ∙ length-append made (x ∷ [])

    pub one_more_taken : more ≡ take (length more) xs
    one_more_taken =
        is ∙ ap (λ (ys : List X). ys ++ x ∷ []) so_far
        ∙ ap (λ (y : X). take (length made) xs ++ y ∷ []) (sym (get_or_from_slice_get xs (length made) x x there))
        ∙ sym (take_more xs (length made) x within)
        ∙ ap (λ (n : ℕ). take n xs) (sym one_longer)

    pub fewer_left : length xs - length more < length xs - length made
    fewer_left = omega (arith, within, one_longer)

  pub all_taken : slice_get xs (length made) ≡ None → made ≡ xs
  all_taken none =
      let over : length xs ≤ length made =
      elim (slice_get_cases xs (length made)).1 [
        | inl there ↦ absurd (none-some there.0 (sym none ∙ there.2))
        | inr past ↦ past.0
      ] in
      so_far ∙ take_all (length made) xs over
