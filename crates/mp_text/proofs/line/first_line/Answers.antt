use Rattle.std.proofs.Common.{◌≡◌, ◌-◌, ◌≤◌, ◌<◌, ◌==◌, false, refl, arith, ℕ, [], ◌∷◌, length, take, drop, sym, ◌∙◌, ap}
use Rattle.mp_text.specs.Lines.{Text, lines_of}
use Rattle.mp_text.proofs.LineLemmas.{cut_of}
use Rattle.mp_text.specs.Reading.{first_length}
use Rattle.mp_text.proofs.line.first_line.Goals as goal

-- what follows the first line, without the line feed before it
lines-cut : (text line rest : Text) (n : ℕ) → false ≡ (length text == 0) → n ≡ first_length text → line ≡ take n text → rest ≡ drop n text
    → lines_of text ≡ line ∷ lines_of (drop 1 rest)
lines-cut text line rest n h is front back = rw (front, back, is, cut_of text h)

nothing : (rest : Text) → length rest < 1 → drop 1 rest ≡ rest
nothing [] h = refl
nothing (byte ∷ rest) h = absurd (omega (arith, h))

take-whole : (rest : Text) (n : ℕ) → n ≡ length rest → take n rest ≡ rest
take-whole [] n h = rw h
take-whole (byte ∷ rest) n h = rw (h, take-whole rest (length rest) refl)

later : (rest : Text) → 1 ≤ length rest → take (length rest - 1) (drop 1 rest) ≡ drop 1 rest
later [] h = refl
later (byte ∷ rest) h = take-whole rest _ (omega arith)

pub returns-in-empty-clause-lines : goal.returns-in-empty-clause-lines
returns-in-empty-clause-lines c =
    lines-cut _ _ _ _ c.if-is_empty.ensures c.first_length-length.ensures.value c.split_at.ensures.front c.split_at.ensures.back
    ∙ ap (λ rest. c.split_at.result.0.now ∷ lines_of rest) (nothing _ c.in-empty.len_below)

pub returns-in-len1-up-clause-lines : goal.returns-in-len1-up-clause-lines
returns-in-len1-up-clause-lines c =
    lines-cut _ _ _ _ c.if-is_empty.ensures c.first_length-length.ensures.value c.split_at.ensures.front c.split_at.ensures.back
    ∙ ap (λ rest. c.split_at.result.0.now ∷ lines_of rest) (sym (later _ c.in-len1-up.len_at_least))
