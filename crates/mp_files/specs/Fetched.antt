-- What was fetched of the files of a team.
use Rattle.std.specs.Prelude.{◌≡◌, ◌≤◌, ℕ, List, length, Option, Some, IfSome, Ok}
use Rattle.mp_joint.specs.Fact.{Text}
use Rattle.mp_outside.specs.Source.{Files}
use Rattle.mp_files.specs.declared.fetched.AgentFiles.{AgentFiles}
use Rattle.mp_files.specs.declared.fetched.AgentTexts.{AgentTexts}
use Rattle.mp_files.specs.File.{longest_file}
use Rattle.mp_files.specs.Reading.{AreRead, Each}
use Rattle.mp_files.specs.Team.{FetchesTwo, Two}

-- names and texts of the code
abbrev pub names_of : AgentFiles → Two
names_of files = record { domain = files.domain.now; problem = files.problem.now }

abbrev pub texts_of : AgentTexts → Two
texts_of texts = record { domain = texts.domain.items; problem = texts.problem.items }

-- where the source tells, this is the text of the file
abbrev pub IsTextOf : Option Files → Text → Text → Type 0
IsTextOf held name text = IfSome held (λ files. files name ≡ Some text)

-- texts that are not too long
pub record IsShort (texts : Two) : Type 0 where
  pub domain : length texts.domain ≤ longest_file
  pub problem : length texts.problem ≤ longest_file

-- where the source tells, these are the texts of an agent's files
abbrev pub IsFetched : Option Files → ℕ → Two → Two → Type 0
IsFetched held agent names texts = IfSome held (λ files. FetchesTwo files agent names (Ok texts))

-- where the source tells, these are the texts of the files of the first agents
abbrev pub AreFetched : Option Files → List Two → List Two → Type 0
AreFetched held names texts = IfSome held (λ files. AreRead (FetchesTwo files) names texts)

-- and these those of all agents
abbrev pub AreAllFetched : Option Files → List Two → List Two → Type 0
AreAllFetched held names texts = IfSome held (λ files. Each (FetchesTwo files) names (Ok texts))
