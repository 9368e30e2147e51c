-- The lines of a text that was made of plain lines.
use Rattle.std.proofs.Common.{◌≡◌, refl, ap, ◌∙◌, ◌==◌, false, List, [], ◌∷◌, ◌++◌, map}
use Rattle.std.specs.List.{list_all}
use Rattle.std.proofs.lemmas.Bool.{and_parts, not-true}
use Rattle.mp_text.specs.Lines.{Text, text_of_lines}
use Rattle.mp_text.specs.Reading.{is_within_line}
use Rattle.mp_text.proofs.PlainLemmas.{ArePlain, IsPlain}
use Rattle.mp_plans.specs.Lines.{whole_lines}

-- a line with the line feed that ends it
abbrev pub ended : Text → Text
ended line = line ++ 10 ∷ []

whole_first : (line text : Text) → IsPlain line → whole_lines (ended line ++ text) ≡ ended line ∷ whole_lines text
whole_first [] text h = refl
whole_first (byte ∷ line) text h =
    let p = and_parts (is_within_line byte) (list_all is_within_line line) h in
    let no : (byte == 10) ≡ false = not-true (byte == 10) p.0 in
    rw (no, whole_first line text p.1) refl

-- the lines of a text of plain lines are these
pub whole_again : (lines : List Text) → ArePlain lines → whole_lines (text_of_lines lines) ≡ map ended lines
whole_again [] h = refl
whole_again (line ∷ lines) h =
    whole_first line (text_of_lines lines) h.0 ∙ ap (λ ls. ended line ∷ ls) (whole_again lines h.1)
