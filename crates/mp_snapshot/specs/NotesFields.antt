-- A snapshot of the program as the notes that contracts see.
use Rattle.std.specs.Prelude.{◌≤◌}
use Rattle.mp_snapshot.specs.declared.snapshot.Snapshot.TheInside.{Inside}
use Rattle.mp_snapshot.specs.Notes.{Notes}

abbrev pub notes : Inside → Notes
notes s = record { me = s.me; agents = s.agents; number = s.number; marked = s.marked; reported = s.reported; found = s.found }

pub record IsOfTeam (s : Inside) : Type 0 where
  pub agents : s.agents ≤ 16
  pub me : s.me ≤ s.agents
