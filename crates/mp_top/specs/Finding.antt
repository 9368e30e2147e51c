-- What is asked of whoever lets the agents of a team search until all have ended.
use Rattle.std.specs.Prelude.{◌≤◌, List, length, Result, IfOk, IfErr, OnOk}
use Rattle.mp_forms.specs.declared.factor.Factor.{Factor}
use Rattle.mp_world.specs.Team.{most_expansions}
use Rattle.mp_grounder.specs.declared.refusal.GroundRefusal.{GroundRefusal}
use Rattle.mp_solutions.specs.Solution.{IsFoundOn}
use Rattle.mp_solutions.specs.declared.solution.Solution.{Solution}
use Rattle.mp_solve.specs.Refused.{AreWithin}
use Rattle.mp_split.specs.Team.{IsFirstRefusal}
use Rattle.mp_top.specs.Asked.{values_of}
use Rattle.mp_top.specs.declared.decision.Search.{Search}
use Rattle.mp_top.specs.declared.finding.Workers.{Workers}

-- this holds where a team has 1 to 16 agents, each of which may expand 1 to 10,000,000 entries
abbrev pub WhereItMaySearch : List Factor → Search → Type 0 → Type 0
WhereItMaySearch team s P = 1 ≤ s.limit → s.limit ≤ most_expansions → 1 ≤ length team → length team ≤ 16 → P

-- What comes of a search: something that is found, on one thread alone where that is asked for, by a team whose sizes keep
-- the limits; or the refusal of the first agent whose factor is not grounded.
abbrev pub ComesOfSearch : List Factor → Search → Workers → Result Solution GroundRefusal → Type 0
ComesOfSearch team s workers r =
    IfOk r (IsFoundOn (values_of s.heuristic) s.limit team workers.one)
    × OnOk r (AreWithin team)
    × IfErr r (IsFirstRefusal team)
