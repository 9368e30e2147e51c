-- A search by marks: how marks grow, and that all that they lead to gets marked.
use Rattle.std.specs.Prelude.{◌≡◌, ◌⊎◌, ℕ, zero, suc, ◌+◌, ◌*◌, ◌≤◌, Bool, true, false, List, [], ◌∷◌, length, Contains, slice_index_or, if◌then◌else◌}
use Rattle.mp_lmcut.specs.Marks.{MarkLists}

abbrev pub is_marked : List Bool → ℕ → Bool
is_marked flags x = slice_index_or flags x false

-- how many are not marked
unfoldable pub unmarked : List Bool → ℕ
unmarked [] = zero
unmarked (flag ∷ flags) = if flag then unmarked flags else suc (unmarked flags)

-- a measure that falls
abbrev pub weight : MarkLists → ℕ
weight m = 2 * unmarked m.flags + length m.todo

-- Marks have grown: only such facts are marked as were, or as are of a kind and are to do now.
pub record HasGrown (Such : ℕ → Type 0) (before after : MarkLists) : Type 0 where
  pub sized : length after.flags ≡ length before.flags
  pub kept : (x : ℕ) → is_marked before.flags x ≡ true → is_marked after.flags x ≡ true
  pub still : (x : ℕ) → Contains before.todo x → Contains after.todo x
  pub only :
      (x : ℕ)
      → is_marked after.flags x ≡ true
      → (is_marked before.flags x ≡ true) ⊎ (Such x × Contains after.todo x)
  pub known :
      ((x : ℕ) → Contains before.todo x → is_marked before.flags x ≡ true)
      → (x : ℕ)
      → Contains after.todo x
      → is_marked after.flags x ≡ true
  pub lighter : weight after ≤ weight before

-- What is marked is of a kind, and what it leads to is marked, unless it is to do.
pub record IsReaching (Such : ℕ → Type 0) (Follows : ℕ → List Bool → Type 0) (m : MarkLists) : Type 0 where
  pub sound : (x : ℕ) → is_marked m.flags x ≡ true → Such x
  pub known : (x : ℕ) → Contains m.todo x → is_marked m.flags x ≡ true
  pub followed : (x : ℕ) → is_marked m.flags x ≡ true → Follows x m.flags ⊎ Contains m.todo x
