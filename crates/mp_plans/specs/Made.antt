-- What is told of a problem that was made: its files, where they are asked for, and what its team found.
use Rattle.std.specs.Prelude.{ℕ, ◌+◌, ◌/◌, ◌%◌, ◌==◌, List, [], ◌∷◌, ◌++◌, codes, decimal, if◌then◌else◌}
use Rattle.mp_text.specs.Lines.{Text, text_of_lines}
use Rattle.mp_text.specs.Outcome.{labelled}
use Rattle.mp_world.specs.declared.answer.Answer.{Answer}
use Rattle.mp_world.specs.declared.answer.Answer.TheVariants.{Nothing, Solved, Unsolvable, Undecided}

-- `agents S`, and the cost and the length of the plan, or that there is none or none was found; nothing has no line
abbrev pub made_lines : ℕ → Answer → List Text
made_lines size Nothing = []
made_lines size (Solved cost steps) =
    labelled (codes "agents ") size ∷ labelled (codes "cost ") cost ∷ labelled (codes "length ") steps ∷ []
made_lines size Unsolvable = labelled (codes "agents ") size ∷ codes "unsolvable" ∷ []
made_lines size Undecided = labelled (codes "agents ") size ∷ codes "undecided" ∷ []

abbrev pub made_text : ℕ → Answer → Text
made_text size answer = text_of_lines (made_lines size answer)

-- the line before a file: whose it is, and which of the two
abbrev pub heading : ℕ → Text → Text
heading agent kind = codes ";; agent " ++ (decimal agent ++ (kind ++ 10 ∷ []))

-- a domain stands at an even place, and a problem behind it
abbrev pub kind_of : ℕ → Text
kind_of place = if place % 2 == 0 then codes " domain" else codes " problem"

-- the files from this place on, each behind the line that tells whose it is
abbrev pub shown_from : ℕ → List Text → Text
shown_from place [] = []
shown_from place (file ∷ files) =
    (heading (place / 2 + 1) (kind_of place) ++ file) ++ shown_from (place + 1) files

-- the files of a team: for each agent its domain and then its problem
abbrev pub shown_text : List Text → Text
shown_text files = shown_from 0 files
