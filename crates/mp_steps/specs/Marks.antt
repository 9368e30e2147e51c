-- The greatest level of some actions, and the first action that has it.
use Rattle.std.specs.Prelude.{◌≡◌, ◌≤◌, ◌⊎◌, ℕ, zero, suc, ◌+◌, ◌==◌, ◌&&◌, ◌||◌, nat_lt, Bool, true, List, [], ◌++◌, ◌∷◌, map, length, Some, slice_get, slice_index_or, slice_set, if◌then◌else◌}
use Rattle.std.specs.Option.{option_map_or}
use Rattle.mp_steps.specs.declared.mark.Mark.{Mark}
use Rattle.mp_steps.specs.Levels.{Test, level_at}

abbrev pub no_mark : Mark
no_mark = record { level = 0; time = 0 }

-- the one of the greater level, and of one level the earlier one
abbrev pub better : Mark → Mark → Mark
better first second =
    if nat_lt first.level second.level || (first.level == second.level && nat_lt second.time first.time) then second else first

-- of the first actions, so many, that pass a test this is the greatest level, and the first time that has it
pub record IsBest (level : ℕ → ℕ) (count : ℕ) (passes : ℕ → Bool) (best : Mark) : Type 0 where
  pub above :
      (t : ℕ) → 1 ≤ t → t ≤ count → passes t ≡ true
      → (level t ≤ best.level) × (level t ≡ best.level → best.time ≤ t)
  pub there :
      (best.level ≡ 0)
      ⊎ ((1 ≤ best.time) × (best.time ≤ count) × (passes best.time ≡ true) × (level best.time ≡ best.level))

-- levels, where these are the greatest ones of the earlier actions that interfere
abbrev pub levels_after : List Mark → List ℕ
levels_after mets = map (λ m. m.level + 1) mets

-- for each action the greatest level of the earlier actions that interfere with it, and the first such action
abbrev pub AreMet : Test → List Mark → Type 0
AreMet interfere mets =
    (place : ℕ) (met : Mark) → slice_get mets place ≡ Some met
    → IsBest (level_at (levels_after mets)) place (λ t. interfere t (suc place)) met

-- with one time more in the step at a place, or in a new step behind the others
abbrev pub with_time : List (List ℕ) → ℕ → ℕ → List (List ℕ)
with_time steps place time =
    option_map_or (λ s. slice_set steps place (s ++ time ∷ [])) (slice_get steps place) (steps ++ (time ∷ []) ∷ [])

-- the time before a time
abbrev pub time_before : List Mark → ℕ → ℕ
time_before mets zero = 0
time_before mets (suc place) = (slice_index_or mets place no_mark).time

-- the last so many times of a way back, up to this time
abbrev pub way_to : List Mark → ℕ → ℕ → List ℕ
way_to mets zero t = []
way_to mets (suc more) t = way_to mets more (time_before mets t) ++ t ∷ []

-- the first of some times, and 0 where there is none
abbrev pub first_time : List ℕ → ℕ
first_time times = slice_index_or times 0 0

-- the step before this place
abbrev pub step_before : List (List ℕ) → ℕ → List ℕ
step_before steps zero = []
step_before steps (suc place) = slice_index_or steps place []

-- the first time of the last step, and 0 where there is none
abbrev pub last_time : List (List ℕ) → ℕ
last_time steps = first_time (step_before steps (length steps))
