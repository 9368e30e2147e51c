-- Spellings of facts, and letters that are folded.
use Rattle.mp_views.proofs.Basics.{◌≡◌, Bool, true, false, cond, ◌&&◌, List, [], ◌∷◌, ◌++◌, refl, sym, ap, ◌∙◌, append-nil, folded, Text, spaced}
use Rattle.std.proofs.Common.{ℕ, ◌+◌, leb, append_assoc}
use Rattle.std.specs.List.{join_with_byte}
use Rattle.std.proofs.lemmas.Bool.{leb-true}
use Rattle.std.proofs.lemmas.List.Elements.{All-head, All-tail}
use Rattle.mp_sexp.specs.Bytes.{folded_byte}
use Rattle.mp_sexp.specs.Name.{IsCapital, HasNoCapitals}
use Rattle.mp_lifting.specs.Texts.{bracketed}

same_byte : (b : ℕ) → (IsCapital b → ⊥) → folded_byte b ≡ b
same_byte b small = by (leb 65 b) (leb b 90) refl refl
  where
    by : (x y : Bool) → leb 65 b ≡ x → leb b 90 ≡ y → cond (x && y) (b + 32) b ≡ b
    by true true p q = absurd (small (leb-true 65 b p, leb-true b 90 q))
    by true false p q = refl
    by false y p q = refl

-- bytes without a capital letter are not changed
pub folded_same : (bytes : List ℕ) → HasNoCapitals bytes → folded bytes ≡ bytes
folded_same [] small = refl
folded_same (b ∷ bytes) small = λ i.
    same_byte b (All-head (λ c. IsCapital c → ⊥) b bytes small) i ∷ folded_same bytes (All-tail (λ c. IsCapital c → ⊥) b bytes small) i

pub folded_append : (xs ys : List ℕ) → folded (xs ++ ys) ≡ folded xs ++ folded ys
folded_append [] ys = refl
folded_append (x ∷ xs) ys = ap (λ (zs : List ℕ). folded_byte x ∷ zs) (folded_append xs ys)

-- names with a space between each two: the first one, and the others behind one space each
joined_spaced : (name : Text) (names : List Text) → join_with_byte 32 (name ∷ names) ≡ name ++ spaced names
joined_spaced name [] = sym (append-nil name)
joined_spaced name (n ∷ names) = ap (λ (t : Text). name ++ 32 ∷ t) (joined_spaced n names)

-- a text that has grown by the parts of a fact
pub bracketed_grows : (text name : Text) (names : List Text) → (((text ++ 40 ∷ []) ++ name) ++ spaced names) ++ 41 ∷ [] ≡ text ++ bracketed (name ∷ names)
bracketed_grows text name names =
    let all = spaced names in
    ap (λ (t : Text). t ++ 41 ∷ []) (append_assoc (text ++ 40 ∷ []) name all ∙ append_assoc text (40 ∷ []) (name ++ all))
    ∙ append_assoc text (40 ∷ (name ++ all)) (41 ∷ [])
    ∙ ap (λ (t : Text). text ++ ((40 ∷ t) ++ 41 ∷ [])) (sym (joined_spaced name names))

pub ruleset fact_steps = (folded_append, bracketed_grows)
