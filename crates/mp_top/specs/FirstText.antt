-- The texts of the files that stand before those of the agents.
use Rattle.std.specs.Prelude.{◌≡◌, ◌≤◌, ℕ, List, [], ◌∷◌, length, slice_get, Option, Some, IfSome, IsSomeAnd, unwrap_or}
use Rattle.mp_joint.specs.Fact.{Text}
use Rattle.mp_outside.specs.Acts.{FileAsked}
use Rattle.mp_outside.specs.Source.{Files}

-- what a file holds, where the source tells, and no longer than it may be
abbrev pub IsTextOf : Option Files → FileAsked → Text → Type 0
IsTextOf held file text = IfSome held (λ files. files file.name ≡ Some text) × (length text ≤ file.longest)

-- such a text of each of these files
abbrev pub AreTextsOf : Option Files → List FileAsked → List Text → Type 0
AreTextsOf held [] [] = Unit {0}
AreTextsOf held [] (text ∷ texts) = ⊥
AreTextsOf held (file ∷ files) [] = ⊥
AreTextsOf held (file ∷ files) (text ∷ texts) = IsTextOf held file text × AreTextsOf held files texts

-- all of these files are there and fit
abbrev pub HaveTexts : Option Files → List FileAsked → Type 0
HaveTexts held files = (texts : List Text) × AreTextsOf held files texts

-- the text at a place, and nothing where there is none
abbrev pub text_at : List Text → ℕ → Text
text_at texts place = unwrap_or (slice_get texts place) []

-- the source tells that it holds this text under a name
abbrev pub IsHeld : Option Files → Text → Text → Type 0
IsHeld held name text = IsSomeAnd held (λ files. files name ≡ Some text)
