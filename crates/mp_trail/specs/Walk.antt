-- How a plan is walked back within one agent: MAD-A* (Nissim and Brafman 2014) traces a plan back over the agents, from
-- the goal to the initial state. Each action on the way is noted with the number of actions that come after it.
use Rattle.std.specs.Prelude.{ℕ, zero, suc, ◌+◌, List, [], ◌∷◌, slice_get}
use Rattle.std.specs.Option.{option_map_or}
use Rattle.mp_store.specs.declared.entry.Origin.TheVariants.{Root, Own, From}
use Rattle.mp_store.specs.declared.entry.Origin.{Origin}
use Rattle.mp_store.specs.Record.{Record}
use Rattle.mp_trail.specs.declared.steps.Noted.{Noted}
use Rattle.mp_trail.specs.declared.steps.Walked.{Walked}
use Rattle.mp_trail.specs.declared.steps.Walked.TheVariants.{Root as AtRoot, Hop}

pub record Walk : Type 0 where
  -- the own actions on the way, in the order of the walk: the last one of the plan first
  pub noted : List Noted
  pub end : Walked

-- a walk that ends where it began
abbrev pub ended : Walked → Walk
ended end = record { noted = []; end = end }

-- a walk that an own action comes before
abbrev pub noting : Noted → Walk → Walk
noting n rest = record { noted = n ∷ rest.noted; end = rest.end }

-- A walk that has met an origin, with the number of actions that come after. Before an own action it goes on at the
-- entry that the action led from.
abbrev pub walk_from : (ℕ → ℕ → Walk) → Origin → ℕ → Walk
walk_from onward Root back = ended (AtRoot back)
walk_from onward (Own action parent) back = noting (record { action = action; back = back }) (onward parent (back + 1))
walk_from onward (From agent sent) back = ended (Hop agent sent back)

-- how many actions come after the state where a walk ends
abbrev pub back_at : Walked → ℕ
back_at (AtRoot length) = length
back_at (Hop agent sent back) = back

module _ {K : Type 0} where
  -- the origin of the entry of a number
  abbrev pub origin_of : Record K → ℕ → Origin
  origin_of r number = option_map_or (λ e. e.origin) (slice_get r.entries number) Root

  -- the walk over at most so many entries
  unfoldable pub walk_within : ℕ → Record K → ℕ → ℕ → Walk
  walk_within zero r number back = ended (AtRoot back)
  walk_within (suc entries) r number back = walk_from (walk_within entries r) (origin_of r number) back

  -- The walk from the entry of a number. An own action's origin is an earlier entry, so that it meets at most the
  -- entries up to this one.
  abbrev pub walk : Record K → ℕ → ℕ → Walk
  walk r number back = walk_within (number + 1) r number back
