-- What was read of the texts of a team.
use Rattle.mp_files.specs.declared.said.AgentParts.{AgentParts}
use Rattle.mp_files.specs.File.{Parts}

-- the parts of the code
abbrev pub parts_of : AgentParts → Parts
parts_of parts = record { domain = parts.domain; problem = parts.problem }
