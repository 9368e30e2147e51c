-- How entries are found by their states: each state has a place, and the entries whose states have one place are chained.
use Rattle.std.specs.Prelude.{◌≡◌, ◌≢◌, ℕ, zero, suc, ◌%◌, ◌==◌, ◌<◌, ◌≤◌, Bool, false, List, length, Option, Some, None, slice_get, slice_index, fold, if◌then◌else◌}
use Rattle.std.specs.Option.{option_map_or}
use Rattle.std.specs.List.{flat_map}
use Rattle.std.specs.Hash as fed
use Rattle.std.specs.Hash.FoldHasher as folding
use Rattle.mp_sets.specs.Compared.{sized_writes}
use Rattle.mp_task.specs.AgentTask.{AgentTask}
use Rattle.mp_reach.specs.LeadsOn.{Known}
use Rattle.mp_audit.specs.declared.certificate.Bound.{Bound}
use Rattle.mp_audit.specs.declared.chains.Chains.{Chains}
use Rattle.mp_audit.specs.Audited.{known_of}
use Rattle.mp_audit.specs.States.{state_for, SizedState}

-- the place of a state among so many: that of the hash of its agent and its sets
unfoldable pub place_in : ℕ → SizedState → ℕ
place_in places x =
    let agent = fold folding.write folding.initial (fed.u16 x.agent) in
    let publics = fold folding.write agent (sized_writes x.publics) in
    folding.finish (fold folding.write publics (flat_map sized_writes x.privates)) % places

-- whether an entry's state has a place
abbrev pub has_place : List AgentTask → List Bound → ℕ → ℕ → ℕ → Bool
has_place tasks bounds places p i = option_map_or (λ b. place_in places (state_for tasks b) == p) (slice_get bounds i) false

-- the last of the first n numbers that passes, counted from 1, or 0 where none does
abbrev pub last_with : (ℕ → Bool) → ℕ → ℕ
last_with test zero = 0
last_with test (suc n) = if test n then suc n else last_with test n

-- The first entries are chained: each place tells the last one of them whose state has it, and each of these entries the one
-- before it that has the same place.
pub record AreChained (tasks : List AgentTask) (bounds : List Bound) (chains : Chains) : Type 0 where
  pub some_place : 0 < length chains.last.items
  pub within : length chains.before.items ≤ length bounds
  pub lasts :
      (p : ℕ) → p < length chains.last.items
      → slice_index chains.last.items p ≡ last_with (has_place tasks bounds (length chains.last.items) p) (length chains.before.items)
  pub befores :
      (i : ℕ) (b : Bound) → i < length chains.before.items → slice_get bounds i ≡ Some b
      → slice_index chains.before.items i
      ≡ last_with (has_place tasks bounds (length chains.last.items) (place_in (length chains.last.items) (state_for tasks b))) i

-- an entry among the first n has this state in the search of this agent, or none of them has
abbrev pub IsFound : List Bound → ℕ → Known → Option ℕ → Type 0
IsFound bounds n k (Some i) = (i < n) × ((b : Bound) → slice_get bounds i ≡ Some b → known_of b ≡ k)
IsFound bounds n k None = (i : ℕ) (b : Bound) → i < n → slice_get bounds i ≡ Some b → known_of b ≢ k
