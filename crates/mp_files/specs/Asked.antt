-- The files of a team as a source is asked for them.
use Rattle.std.specs.Prelude.{List, [], ◌∷◌}
use Rattle.std.specs.List.{flat_map}
use Rattle.mp_joint.specs.Fact.{Text}
use Rattle.mp_outside.specs.Acts.{FileAsked}
use Rattle.mp_files.specs.File.{longest_file}
use Rattle.mp_files.specs.Team.{Two}

-- a factor file
abbrev pub file_asked : Text → FileAsked
file_asked name = record { name = name; longest = longest_file }

-- an agent's domain and then its problem
abbrev pub two_asked : Two → List FileAsked
two_asked names = file_asked names.domain ∷ file_asked names.problem ∷ []

-- those of all agents, one agent after another
abbrev pub team_asked : List Two → List FileAsked
team_asked names = flat_map two_asked names
