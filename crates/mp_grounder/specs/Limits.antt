-- The counts of grounding that are limited, by names, and what is answered where one passes its limit.
use Rattle.std.specs.Prelude.{◌≤◌, ◌+◌, ℕ, length, All}
use Rattle.std.specs.Set.{distinct_count}
use Rattle.mp_task.specs.Limits.{ActFits, AllLess}
use Rattle.mp_ground_laws.specs.Grounding.{grounded}
use Rattle.mp_ground_laws.specs.Tried.{tries as tries_of}
use Rattle.mp_grounder.specs.declared.refusal.GroundRefusal.{GroundRefusal}
use Rattle.mp_grounder.specs.declared.grounded.Ground.{Ground}
use Rattle.mp_grounder.specs.Grounded.{Known, counted, setting}
use Rattle.mp_grounder.specs.Places.{same_signed}
use Rattle.mp_grounder.specs.Refusals.{IsRefusedAt}

-- the tried bindings
abbrev pub tries : Known → ℕ
tries k = tries_of k.me k.factor (setting k)

-- the ground actions
abbrev pub actions : Known → ℕ
actions k = length (grounded k.me k.factor (setting k))

-- the facts and complements that these touch or goals name, each once
abbrev pub facts : Known → ℕ
facts k = distinct_count same_signed (counted k)

-- no count passes its limit
pub record IsWithin (k : Known) : Type 0 where
  pub tries : tries k ≤ 50000000
  pub actions : actions k ≤ 200000
  pub facts : facts k ≤ 65535

-- the refusal of what an agent grounds
abbrev pub IsRefusedBy : Known → GroundRefusal → Type 0
IsRefusedBy k refusal = IsRefusedAt k.me (tries k) (actions k) (facts k) refusal

-- a grounded factor keeps the limits of the program, and its numbers are those of facts that it has
pub record KeepsLimits (g : Ground) : Type 0 where
  pub facts : length g.publics + g.privates ≤ 65535
  pub start : AllLess g.privates g.start
  pub goal_pub : AllLess (length g.publics) g.goal_pub
  pub goal_priv : AllLess g.privates g.goal_priv
  pub number_of_acts : length g.acts ≤ 200000
  pub acts : All (ActFits (length g.publics) g.privates) g.acts
