-- What stands between the brackets of a text.
use Rattle.mp_lifting.proofs.Basics.{arith, ◌≡◌, ℕ, ◌+◌, ◌-◌, ◌<◌, ◌≤◌, suc, true, false, [], ◌∷◌, ◌++◌, length, take, drop, get_or, refl, sym, ap, ◌∙◌, inl, inr, cases_Bool, bytes_eq-Decides, drop_more, Text}
use Rattle.std.proofs.Common.{length-append}
use Rattle.std.proofs.lemmas.List.{take-append-drop, drop_all}
use Rattle.mp_lifting.specs.Factors.{between_brackets, has_brackets}

-- the text that a text with brackets is
abbrev whole : Text → Text
whole text = 40 ∷ between_brackets text ++ 41 ∷ []

fails : (text : Text) → (whole text ≡ text → ⊥) → has_brackets text ≡ false
fails text differs =
    elim (cases_Bool (has_brackets text)) [
      | inl same ↦ absurd (differs ((bytes_eq-Decides (whole text) text).0 same))
      | inr other ↦ other
    ]

long : (text : Text) → length (whole text) ≡ length (between_brackets text) + 2
long text = omega (arith, length-append (between_brackets text) (41 ∷ []))

last : (inner : Text) → get_or (40 ∷ inner ++ 41 ∷ []) (suc (length inner)) 0 ≡ 41
last [] = refl
last (x ∷ xs) = last xs

pub short : (text : Text) → length text < 2 → has_brackets text ≡ false
short text h = fails text (λ is. let n = long text in let m = ap length is in omega arith)

pub begins_otherwise : (text : Text) → (get_or text 0 0 ≡ 40 → ⊥) → has_brackets text ≡ false
begins_otherwise text differs = fails text (λ is. differs (sym (ap (λ t. get_or t 0 0) is)))

pub ends_otherwise : (text : Text) (at : ℕ) → at + 1 ≡ length text → (get_or text at 0 ≡ 41 → ⊥) → has_brackets text ≡ false
ends_otherwise text at end differs =
    fails text (λ is.
    let n = long text in
    let m = ap length is in
    let place : at ≡ suc (length (between_brackets text)) = omega arith in
    differs (ap (λ k. get_or text k 0) place ∙ sym (ap (λ t. get_or t (suc (length (between_brackets text))) 0) is) ∙ last (between_brackets text)))

split : (text : Text) (n at : ℕ) → length text ≡ n + 2 → at ≡ n + 1 → get_or text 0 0 ≡ 40 → get_or text at 0 ≡ 41
    → 40 ∷ take n (drop 1 text) ++ 41 ∷ [] ≡ text
split [] n at len place first end = absurd (omega arith)
split (x ∷ xs) n at len place first end =
    let is : x ≡ 40 = first in
    let place_in : at ≡ suc n = omega arith in
    let there : get_or xs n 0 ≡ 41 = ap (λ k. get_or (x ∷ xs) k 0) (sym place_in) ∙ end in
    let within : n < length xs = omega arith in
    let past : length xs ≤ n + 1 = omega arith in
    let behind : drop n xs ≡ 41 ∷ [] = drop_more xs n 0 within ∙ ap (λ y. y ∷ drop (n + 1) xs) there ∙ ap (λ ys. 41 ∷ ys) (drop_all (n + 1) xs past) in
    ap (λ ys. 40 ∷ take n xs ++ ys) (sym behind) ∙ ap (λ ys. 40 ∷ ys) (take-append-drop n xs) ∙ ap (λ y. y ∷ xs) (sym is)

pub both : (text : Text) (at : ℕ) → 2 ≤ length text → at + 1 ≡ length text → get_or text 0 0 ≡ 40 → get_or text at 0 ≡ 41 → has_brackets text ≡ true
both text at h end first closing =
    (bytes_eq-Decides (whole text) text).1 (split text (length text - 2) at (omega arith) (omega arith) first closing)
