-- Texts tell the names that they are made of, since names have neither spaces nor brackets.
use Rattle.std.proofs.Common.{arith, ◌≡◌, ℕ, ◌+◌, ◌-◌, ◌==◌, suc, Bool, true, false, ◌&&◌, List, [], ◌∷◌, ◌++◌, length, take, drop, All, refl, sym, ap, ◌∙◌, subst, inl, inr, length-append}
use Rattle.std.proofs.lemmas.Bool.{cases_Bool, and_parts, and_from, or_from, eqb-true, true≢false}
use Rattle.std.proofs.lemmas.List.{take_all, take-append-le, append_cancel_left, append_cancel_right}
use Rattle.std.proofs.lemmas.List.Elements.{All-nil, All-cons}
use Rattle.std.proofs.lemmas.List.Folds.{list_any-append}
use Rattle.std.proofs.lemmas.List.Splits.{slice_split_none, slice_split_at}
use Rattle.std.proofs.lemmas.Slice.Eq.{bytes_eq-Decides, slice_eq-Decides}
use Rattle.std.specs.Cmp.Lexicographic.{pointwise}
use Rattle.std.specs.List.{join_with_byte, slice_split, list_all, list_any}
use Rattle.std.specs.Prelude.{codes}
use Rattle.std.specs.Str.{bytes_eq}
use Rattle.mp_list.proofs.Bools.{same_tests}
use Rattle.mp_forms.specs.Words.{is_name_byte}
use Rattle.mp_joint.specs.Fact.{Text}
use Rattle.mp_lifting.specs.Texts.{bracketed}

-- ---- bytes of names

abbrev pub IsSpelling : Text → Type 0
IsSpelling name = list_all is_name_byte name ≡ true

-- the bytes of a predicate and of objects
pub record AreSpelled (predicate : Text) (args : List Text) : Type 0 where
  pub predicate_is : IsSpelling predicate
  pub args_are : list_all (list_all is_name_byte) args ≡ true

-- a byte that no name has
other_byte : (c b : ℕ) → is_name_byte c ≡ false → is_name_byte b ≡ true → (b == c) ≡ false
other_byte c b none h =
    elim (cases_Bool (b == c)) [
      | inl same ↦ absurd (true≢false (sym (subst (λ d. is_name_byte d ≡ true) (eqb-true b c same) h) ∙ none))
      | inr other ↦ other
    ]

-- ---- words of a text

abbrev is_space : ℕ → Bool
is_space b = b == 32

abbrev NotSpace : ℕ → Type 0
NotSpace b = is_space b ≡ false

no_space : (name : Text) → IsSpelling name → All NotSpace name
no_space [] h = All-nil NotSpace
no_space (b ∷ bs) h =
    let parts = and_parts (is_name_byte b) (list_all is_name_byte bs) h in
    All-cons NotSpace b bs (other_byte 32 b refl parts.0) (no_space bs parts.1)

words_of_joined : (name : Text) (names : List Text) → IsSpelling name → list_all (list_all is_name_byte) names ≡ true
    → slice_split is_space (join_with_byte 32 (name ∷ names)) ≡ name ∷ names
words_of_joined name [] h rest = slice_split_none is_space name (no_space name h)
words_of_joined name (other ∷ names) h rest =
    let parts = and_parts (list_all is_name_byte other) (list_all (list_all is_name_byte) names) rest in
    slice_split_at is_space name 32 (join_with_byte 32 (other ∷ names)) (no_space name h) refl
    ∙ ap (λ ws. name ∷ ws) (words_of_joined other names parts.0 parts.1)

-- what stands between the brackets
abbrev between : Text → Text
between text = take (length text - 2) (drop 1 text)

inner : (m : Text) → between (40 ∷ m ++ 41 ∷ []) ≡ m
inner m =
    let long : length (40 ∷ m ++ 41 ∷ []) ≡ suc (length m + 1) = ap suc (length-append m (41 ∷ [])) in
    let count : length (40 ∷ m ++ 41 ∷ []) - 2 ≡ length m = omega (arith, long) in
    ap (λ n. take n (m ++ 41 ∷ [])) count
    ∙ take-append-le (length m) m (41 ∷ []) (omega arith) ∙ take_all (length m) m (omega arith)

words_again : (predicate : Text) (args : List Text) → AreSpelled predicate args
    → slice_split is_space (between (bracketed (predicate ∷ args))) ≡ predicate ∷ args
words_again predicate args h =
    ap (slice_split is_space) (inner (join_with_byte 32 (predicate ∷ args))) ∙ words_of_joined predicate args h.predicate_is h.args_are

-- ---- equal texts

pub record AreSame (p q : Text) (xs ys : List Text) : Type 0 where
  pub predicates : p ≡ q
  pub args : xs ≡ ys

abbrev first_word : List Text → Text
first_word [] = []
first_word (w ∷ ws) = w

pub text_tells : (p q : Text) (xs ys : List Text) → AreSpelled p xs → AreSpelled q ys → bracketed (p ∷ xs) ≡ bracketed (q ∷ ys) → AreSame p q xs ys
text_tells p q xs ys h k same =
    let words : ◌≡◌ {A = List Text} (p ∷ xs) (q ∷ ys) =
    sym (words_again p xs h) ∙ ap (λ t. slice_split is_space (between t)) same ∙ words_again q ys k in
    record { predicates = ap first_word words; args = ap (drop 1) words }

Decides-args : (xs ys : List Text) → (pointwise bytes_eq xs ys ≡ true → xs ≡ ys) × (xs ≡ ys → pointwise bytes_eq xs ys ≡ true)
Decides-args xs ys = slice_eq-Decides bytes_eq-Decides xs ys (pointwise bytes_eq xs ys) refl

-- texts are the same where the names are
pub same_text : (p q : Text) (xs ys : List Text) → AreSpelled p xs → AreSpelled q ys
    → (bytes_eq p q && pointwise bytes_eq xs ys) ≡ bytes_eq (bracketed (p ∷ xs)) (bracketed (q ∷ ys))
same_text p q xs ys h k =
    let one = bracketed (p ∷ xs) in
    let other = bracketed (q ∷ ys) in
    same_tests (bytes_eq p q && pointwise bytes_eq xs ys) (bytes_eq one other)
    (λ same.
    let parts = and_parts (bytes_eq p q) (pointwise bytes_eq xs ys) same in
    let names : p ≡ q = (bytes_eq-Decides p q).0 parts.0 in
    let args : xs ≡ ys = (Decides-args xs ys).0 parts.1 in
    (bytes_eq-Decides one other).1 (λ i. bracketed (names i ∷ args i)))
    (λ same.
    let are = text_tells p q xs ys h k ((bytes_eq-Decides one other).0 same) in
    and_from (bytes_eq p q) (pointwise bytes_eq xs ys) ((bytes_eq-Decides p q).1 are.predicates) ((Decides-args xs ys).1 are.args))

-- ---- complements

-- the text of a complement, where this is the text of its fact
abbrev pub complement_text : Text → Text
complement_text text = codes "(not " ++ text ++ codes ")"

pub complement_tells : (s t : Text) → complement_text s ≡ complement_text t → s ≡ t
complement_tells s t same = append_cancel_left (codes "(not ") s t (append_cancel_right (codes "(not " ++ s) (codes "(not " ++ t) (codes ")") same)

-- a byte that no name has, and that is no space, is not among joined names
pub no_byte : (c : ℕ) (name : Text) → is_name_byte c ≡ false → IsSpelling name → list_any (λ b. b == c) name ≡ false
no_byte c [] none h = refl
no_byte c (b ∷ bs) none h =
    let parts = and_parts (is_name_byte b) (list_all is_name_byte bs) h in
    or_from (b == c) (list_any (λ d. d == c) bs) (other_byte c b none parts.0) (no_byte c bs none parts.1)

pub not_joined : (c : ℕ) (name : Text) (names : List Text) → is_name_byte c ≡ false → (32 == c) ≡ false → IsSpelling name
    → list_all (list_all is_name_byte) names ≡ true → list_any (λ b. b == c) (join_with_byte 32 (name ∷ names)) ≡ false
not_joined c name [] none space h rest = no_byte c name none h
not_joined c name (other ∷ names) none space h rest =
    let parts = and_parts (list_all is_name_byte other) (list_all (list_all is_name_byte) names) rest in
    let later = join_with_byte 32 (other ∷ names) in
    list_any-append (λ b. b == c) name (32 ∷ later)
    ∙ or_from (list_any (λ b. b == c) name) (list_any (λ b. b == c) (32 ∷ later)) (no_byte c name none h)
    (or_from (32 == c) (list_any (λ b. b == c) later) space (not_joined c other names none space parts.0 parts.1))

-- whether a bracket is opened behind the first byte
abbrev pub opens_again : Text → Bool
opens_again text = list_any (λ b. b == 40) (drop 1 text)

pub opened_once : (p : Text) (xs : List Text) → AreSpelled p xs → opens_again (bracketed (p ∷ xs)) ≡ false
opened_once p xs h =
    list_any-append (λ b. b == 40) (join_with_byte 32 (p ∷ xs)) (41 ∷ [])
    ∙ or_from (list_any (λ b. b == 40) (join_with_byte 32 (p ∷ xs))) false (not_joined 40 p xs refl refl h.predicate_is h.args_are) refl

opened_twice : (p : Text) (xs : List Text) → opens_again (complement_text (bracketed (p ∷ xs))) ≡ true
opened_twice p xs = refl

-- no complement has the text of a fact
pub not_both : (p q : Text) (xs ys : List Text) → AreSpelled p xs → bracketed (p ∷ xs) ≡ complement_text (bracketed (q ∷ ys)) → ⊥
not_both p q xs ys h same = true≢false (sym (opened_twice q ys) ∙ ap opens_again (sym same) ∙ opened_once p xs h)
