-- A map that has the number of the first entry of each name, while entries are added.
use Rattle.mp_typing.proofs.Basics.{◌≡◌, ℕ, Bool, true, false, cond, List, [], ◌∷◌, ◌++◌, map, Option, Some, None, refl, sym, ap, ◌∙◌, inl, inr, cases_Bool, if◌then◌else◌, lookup, is_some, option_or, bytes_eq, Entry, number_of, SameNumbers}
use Rattle.mp_sexp.proofs.Places.{equal, not_some, of_none, of_some, swapped}

-- the entries that a map has
abbrev pub entries_of : List (List ℕ × ℕ) → List Entry
entries_of es = map (λ (e : List ℕ × ℕ). record { name = e.0; number = e.1 }) es

-- the map's number is that of the first entry
pub looked_up : (name : List ℕ) (es : List (List ℕ × ℕ)) → lookup (λ (k : List ℕ). bytes_eq name k) es ≡ number_of name (entries_of es)
unfolding number_of
looked_up name [] = refl
looked_up name (e ∷ es) = rw (swapped name e.0, looked_up name es) refl

-- the number that an entry gives a name
abbrev pub alone : Entry → List ℕ → Option ℕ
alone e name = if bytes_eq e.name name then Some e.number else None

pub moves_in : (b : Bool) (n : ℕ) (x y : Option ℕ) → (if b then Some n else option_or x y) ≡ option_or (if b then Some n else x) y
moves_in true n x y = refl
moves_in false n x y = refl

pub number_push : (name : List ℕ) (es : List Entry) (e : Entry) → number_of name (es ++ e ∷ []) ≡ option_or (number_of name es) (alone e name)
unfolding number_of
number_push name [] e = refl
number_push name (x ∷ xs) e =
    ap (λ (o : Option ℕ). if bytes_eq x.name name then Some x.number else o) (number_push name xs e)
    ∙ moves_in (bytes_eq x.name name) x.number (number_of name xs) (alone e name)

-- an entry of a name that has a number changes no number
pub known : (name : List ℕ) (n : ℕ) (es : List Entry) → is_some (number_of name es) ≡ true → SameNumbers es (es ++ record { name = name; number = n } ∷ [])
known name n es some q =
    rw (number_push q es record { name = name; number = n }) (elim (cases_Bool (bytes_eq name q)) [
      | inl same ↦ rw same (of_some (number_of q es) (Some n) (rw (equal name q same) at some))
      | inr other ↦ rw other (of_none (number_of q es))
    ])

-- a name that has no number yet gets one
pub added : (name : List ℕ) (n : ℕ) (es fs : List Entry) → is_some (number_of name es) ≡ false
    → ((q : List ℕ) → number_of q fs ≡ cond (bytes_eq name q) (Some n) (number_of q es))
    → SameNumbers fs (es ++ record { name = name; number = n } ∷ [])
added name n es fs none changed q =
    rw (changed q, number_push q es record { name = name; number = n }) (elim (cases_Bool (bytes_eq name q)) [
      | inl same ↦ rw (same, not_some (number_of q es) (rw (equal name q same) at none)) refl
      | inr other ↦ rw other (of_none (number_of q es))
    ])

-- a number that is put in place of another, and then the other again
pub restored : (name q : List ℕ) (n f : ℕ) (es : List Entry) → number_of name es ≡ Some f
    → cond (bytes_eq name q) (Some f) (cond (bytes_eq name q) (Some n) (number_of q es)) ≡ number_of q es
restored name q n f es there =
    elim (cases_Bool (bytes_eq name q)) [
      | inl same ↦ rw same (sym (rw (equal name q same) at there))
      | inr other ↦ rw other refl
    ]
