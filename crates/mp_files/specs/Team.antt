-- What the files of a team lead to, in the one order of refusals: each file, an agent's domain and then its
-- problem, is looked for and measured; then each text is read and its shape looked at; then names, numbers of
-- terms and declarations of each agent's factor are checked.
use Rattle.std.specs.Prelude.{◌≡◌, ℕ, List, length, Option, Some, Ok, Err, IfSome}
use Rattle.mp_forms.specs.declared.factor.Factor.{Factor}
use Rattle.mp_forms.specs.declared.files.File.TheVariants as file
use Rattle.mp_joint.specs.Fact.{Text}
use Rattle.mp_outside.specs.Source.{Files}
use Rattle.mp_files.specs.Reading.{Reading, Each, Gives, Then}
use Rattle.mp_files.specs.File.{Checks, Fetches, Parts, SaysDomain, SaysProblem, file_of}
use Rattle.mp_files.specs.declared.refusal.Refusal.{Refusal}

-- something of an agent's domain, and of its problem
pub record Two : Type 0 where
  pub domain : Text
  pub problem : Text

-- what is found of an agent's domain and of its problem leads to the two texts
abbrev pub FindsTwo : ℕ → Option Text → Option Text → Reading Two
FindsTwo agent domain_found problem_found =
    Then (Fetches domain_found (file_of agent file.Domain))
    (λ domain. Then (Fetches problem_found (file_of agent file.Problem))
    (λ problem. Gives (record { domain = domain; problem = problem })))

-- what is found for an agent: a text for its domain, and for its problem, or none
pub record FoundTwo : Type 0 where
  pub domain : Option Text
  pub problem : Option Text

-- under the names of its files
abbrev pub found_under : Files → Two → FoundTwo
found_under files names = record { domain = files names.domain; problem = files names.problem }

-- as texts in memory
abbrev pub found_in_memory : Two → FoundTwo
found_in_memory texts = record { domain = Some texts.domain; problem = Some texts.problem }

-- the names of an agent's files lead to their texts
abbrev pub FetchesTwo : Files → ℕ → Two → Reading Two
FetchesTwo files agent names = FindsTwo agent (files names.domain) (files names.problem)

-- an agent's texts in memory lead to themselves, unless one is too long
abbrev pub MeasuresTwo : ℕ → Two → Reading Two
MeasuresTwo agent texts = FindsTwo agent (Some texts.domain) (Some texts.problem)

-- an agent's texts lead to what they say
abbrev pub Says : ℕ → Two → Reading Parts
Says agent texts =
    Then (SaysDomain (file_of agent file.Domain) texts.domain)
    (λ domain. Then (SaysProblem (file_of agent file.Problem) texts.problem)
    (λ problem. Gives (record { domain = domain; problem = problem })))

-- the texts of a team lead to its factors
abbrev pub ReadsTexts : List Two → Reading (List Factor)
ReadsTexts texts = Then (Each Says texts) (λ parts. Each Checks parts)

-- the files of these names lead to the factors of a team
abbrev pub ReadsTeam : Files → List Two → Reading (List Factor)
ReadsTeam files names = Then (Each (FetchesTwo files) names) ReadsTexts

-- These are the factors of some texts, an agent's two for each name: where the source tells what it holds, of what it holds under
-- the names.
pub record IsReadTeam (held : Option Files) (names : List Two) (team : List Factor) : Type 0 where
  pub texts : List Two
  pub fetched : IfSome held (λ files. Each (FetchesTwo files) names (Ok texts))
  pub one_each : length texts ≡ length names
  pub reads : ReadsTexts texts (Ok team)

-- the texts of a team in memory lead to its factors
abbrev pub ReadsMade : List Two → Reading (List Factor)
ReadsMade texts = Then (Each MeasuresTwo texts) ReadsTexts

-- what is found for the agents of a team leads to its factors
abbrev pub ReadsFound : List FoundTwo → Reading (List Factor)
ReadsFound found = Then (Each (λ agent two. FindsTwo agent two.domain two.problem) found) ReadsTexts

abbrev pub HoldsTeam : Files → List Two → List Factor → Type 0
HoldsTeam files names team = ReadsTeam files names (Ok team)

-- the first refusal of files, by what they hold
abbrev pub IsFirst : Files → List Two → Refusal → Type 0
IsFirst files names r = ReadsTeam files names (Err r)
