-- The team of a request, and what its texts lead to.
use Rattle.std.specs.Prelude.{◌≡◌, List, map, Option, Some, Result, Ok, Err, IfSome, option_map}
use Rattle.mp_forms.specs.declared.factor.Factor.{Factor}
use Rattle.mp_outside.specs.Source.{Files as Held}
use Rattle.mp_files.specs.Team.{FoundTwo, IsReadTeam, ReadsMade, ReadsTeam, found_in_memory, found_under}
use Rattle.mp_files.specs.declared.refusal.Refusal.{Refusal as FilesRefusal}
use Rattle.mp_top.specs.Asked.{Texts}
use Rattle.mp_top.specs.Asked.Texts.{in_files, made}

-- The texts of a team lead to its factors, or to their first refusal. Where the source does not tell what it holds, nothing
-- is said of files.
abbrev pub LeadsTo : Option Held → Texts → Result (List Factor) FilesRefusal → Type 0
LeadsTo held (in_files names) found = IfSome held (λ files. ReadsTeam files names found)
LeadsTo held (made names texts) found = ReadsMade texts found

abbrev pub IsTeam : Option Held → Texts → List Factor → Type 0
IsTeam held texts team = LeadsTo held texts (Ok team)

abbrev pub IsTextRefused : Option Held → Texts → FilesRefusal → Type 0
IsTextRefused held texts r = LeadsTo held texts (Err r)

-- these are the factors of the texts of a team, as they were read or made
abbrev pub IsReadFor : Option Held → Texts → List Factor → Type 0
IsReadFor held (in_files names) team = IsReadTeam held names team
IsReadFor held (made names texts) team = ReadsMade texts (Ok team)

-- ---- For what is said of two requests.

-- What is found for the agents of a request: under the names of files, where the source tells what it holds, or made.
abbrev pub found_for : Option Held → Texts → Option (List FoundTwo)
found_for held (in_files names) = option_map (λ files. map (found_under files) names) held
found_for held (made names texts) = Some (map found_in_memory texts)

-- the same is found for the agents of two requests
pub record IsFoundForBoth (held other : Option Held) (texts its : Texts) : Type 0 where
  pub found : List FoundTwo
  pub one : found_for held texts ≡ Some found
  pub two : found_for other its ≡ Some found
