-- The kinds of words of PDDL.
use Rattle.std.specs.Prelude.{ℕ, ◌==◌, ◌&&◌, Bool, false, List, [], ◌∷◌}
use Rattle.std.specs.List.{list_all}
use Rattle.mp_forms.specs.Words.{begins_with_letter, is_name_byte}

-- a letter and then letters, digits, `-` and `_`
unfoldable pub is_name : List ℕ → Bool
is_name w = begins_with_letter w && list_all is_name_byte w

-- `?` and a name
unfoldable pub is_variable : List ℕ → Bool
is_variable [] = false
is_variable (b ∷ bs) = b == 63 && is_name bs
