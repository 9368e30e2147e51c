-- Texts and their lines.
use Rattle.std.specs.Prelude.{ℕ, ◌==◌, List, [], ◌∷◌, ◌++◌, if◌then◌else◌}
use Rattle.std.specs.List.{flat_map}

-- a text, or a line of one, as its bytes
abbrev pub Text : Type 0
Text = List ℕ

-- these lines, each with a line feed at its end
abbrev pub text_of_lines : List Text → Text
text_of_lines lines = flat_map (λ line. line ++ 10 ∷ []) lines

-- the first line with one more byte at its front
abbrev pub with_first_byte : ℕ → List Text → List Text
with_first_byte byte [] = (byte ∷ []) ∷ []
with_first_byte byte (line ∷ lines) = (byte ∷ line) ∷ lines

-- The lines of a text, without their line feeds. Each line feed ends a line, and the last line may
-- lack it: bytes after the last line feed are one more line.
abbrev pub lines_of : Text → List Text
lines_of [] = []
lines_of (byte ∷ text) =
    if byte == 10 then [] ∷ lines_of text else with_first_byte byte (lines_of text)
