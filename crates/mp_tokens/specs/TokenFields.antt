-- A table of the program as the plain table that contracts see.
use Rattle.std.specs.Prelude.{ℕ, ◌<◌, List, length, map, All}
use Rattle.mp_sets.specs.Numbers.{Numbers}
use Rattle.mp_tokens.specs.Order.{set_at, AreDifferent}
use Rattle.mp_tokens.specs.SetRows.{sets_of, AreSetRows}
use Rattle.mp_tokens.specs.Table.{TokenTable}
use Rattle.mp_tokens.specs.declared.tokens.Tokens.TheInside.{Inside}

-- the sets at these places
abbrev pub sets_at : List Numbers → List ℕ → List Numbers
sets_at sets places = map (set_at sets) places

abbrev pub token_table : Inside → TokenTable
token_table t =
    record { size = t.size; sets = sets_of t.size t.sets; used = sets_at (sets_of t.size t.sets) t.order.keys }

pub record IsTable (t : Inside) : Type 0 where
  pub rows : AreSetRows t.size t.sets
  pub different : AreDifferent (sets_of t.size t.sets)
  pub known : All (λ i. i < length t.sets) t.order.keys
