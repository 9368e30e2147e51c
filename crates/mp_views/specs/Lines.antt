-- Views as texts: a line for each thing that is shown, each with a line feed.
use Rattle.std.specs.Prelude.{Bool, List, [], ◌∷◌, ◌++◌, map, codes, decimal, if◌then◌else◌}
use Rattle.std.specs.List.{flat_map}
use Rattle.mp_joint.specs.Fact.{Text}
use Rattle.mp_lifting.specs.declared.view.OpenView.{OpenView}
use Rattle.mp_views.specs.declared.view.Part.{Part}
use Rattle.mp_views.specs.declared.view.View.{View}

-- a word before each text
abbrev pub labelled : Text → List Text → List Text
labelled label texts = map (λ text. label ++ text) texts

-- each of these behind one space
abbrev pub spaced : List Text → Text
spaced texts = flat_map (λ text. 32 ∷ text) texts

-- `act C pre FACTS add FACTS del FACTS`
abbrev pub part_line : Part → Text
part_line part =
    codes "act " ++ (decimal part.cost ++ (codes " pre" ++ (spaced part.pre ++ (codes " add"
    ++ (spaced part.add ++ (codes " del" ++ spaced part.del))))))

abbrev pub met_line : Bool → Text
met_line met = if met then codes "met yes" else codes "met no"

abbrev pub open_lines : OpenView → List Text
open_lines view =
    labelled (codes "changed ") view.changed
    ++ (labelled (codes "negated ") view.negated ++ labelled (codes "init ") view.init)

abbrev pub closed_lines : View → List Text
closed_lines view =
    labelled (codes "fact ") view.facts
    ++ (labelled (codes "goal ") view.goals
    ++ (met_line view.met ∷ map part_line view.acts))

-- lines, each with a line feed behind it
abbrev pub text_of_lines : List Text → Text
text_of_lines lines = flat_map (λ line. line ++ (10 ∷ [])) lines

-- what an agent shows of itself: what it shows before grounding, and then what it shows after it
abbrev pub view_text : OpenView → View → Text
view_text before after = text_of_lines (open_lines before ++ closed_lines after)
