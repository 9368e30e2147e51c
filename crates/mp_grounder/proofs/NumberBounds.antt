-- The number of a name is at most the count of the names.
use Rattle.mp_grounder.proofs.Basics.{arith, ◌≡◌, ℕ, ◌+◌, ◌≤◌, Bool, List, [], ◌∷◌, length, inl, inr, option_map_or, bytes_eq, cases_Bool, number_in}
use Rattle.std.specs.List.{position_from}

within_count : {X : Type 0} (test : X → Bool) (from n : ℕ) (xs : List X) → n ≡ from + length xs → option_map_or (λ place. place) (position_from test from xs) n ≤ n
within_count test from n [] h = omega arith
within_count test from n (x ∷ xs) h =
    elim (cases_Bool (test x)) [
      | inl here ↦ rw here (omega arith)
      | inr apart ↦ rw apart (within_count test (from + 1) n xs (omega arith))
    ]

pub number_within : (names : List (List ℕ)) (name : List ℕ) → number_in names name ≤ length names
unfolding number_in
number_within names name = within_count (λ n. bytes_eq n name) 0 (length names) names (omega arith)
