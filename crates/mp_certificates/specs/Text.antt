-- Certificates as texts: the cost, and behind it each entry.
use Rattle.std.specs.Prelude.{ℕ, List, [], ◌∷◌, ◌++◌, map, codes, decimal}
use Rattle.std.specs.List.{flat_map}
use Rattle.mp_audit.specs.declared.certificate.Bound.{Bound}
use Rattle.mp_audit.specs.declared.certificate.Certificate.{Certificate}
use Rattle.mp_text.specs.Lines.{Text, text_of_lines}
use Rattle.mp_text.specs.Outcome.{labelled}

-- a number behind a blank
abbrev pub blank_number : ℕ → Text
blank_number number = 32 ∷ decimal number

-- numbers, with a blank between each two
abbrev pub spaced : List ℕ → Text
spaced [] = []
spaced (number ∷ numbers) = decimal number ++ flat_map blank_number numbers

-- `[N N ..]`: facts between brackets
abbrev pub facts_text : List ℕ → Text
facts_text facts = 91 ∷ (spaced facts ++ 93 ∷ [])

-- facts behind a blank
abbrev pub blank_facts : List ℕ → Text
blank_facts facts = 32 ∷ facts_text facts

-- `I B [N ..] [N ..] ..`: the agent of an entry, its bound, its public facts, and the private facts of each agent
abbrev pub entry_line : Bound → Text
entry_line b = decimal b.agent ++ (32 ∷ (decimal b.bound ++ flat_map blank_facts (b.publics ∷ b.privates)))

-- `bound C`
abbrev pub cost_line : ℕ → Text
cost_line cost = labelled (codes "bound ") cost

-- the lines of entries
abbrev pub entries_text : List Bound → Text
entries_text bounds = text_of_lines (map entry_line bounds)

-- the line of the cost, and behind it those of the entries in their order
abbrev pub certificate_text : Certificate → Text
certificate_text certificate = text_of_lines (cost_line certificate.cost ∷ map entry_line certificate.bounds)
