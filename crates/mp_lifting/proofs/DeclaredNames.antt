-- Names that are declared, one declaration after another.
use Rattle.mp_lifting.proofs.Basics.{◌≡◌, Bool, true, false, ◌||◌, List, [], ◌∷◌, ◌++◌, map, refl, sym, ap, ◌∙◌, inl, inr, cases_Bool, map-append, bytes_eq-Decides, Typed, Text, declared_names}
use Rattle.std.specs.Str.{bytes_eq}
use Rattle.mp_sexp.specs.Numbers.{is_named}
use Rattle.mp_typing.specs.ObjectList.{others, first_declared}
use Rattle.mp_typing.proofs.Listing.{with_new, with_old}

abbrev names_in : List Typed → List Text
names_in declared = map (λ o. o.word.name) declared

-- a name stands among those of other names where it stands among all
kept : (n name : Text) (ts : List Typed) → bytes_eq name n ≡ false → is_named (names_in (others n ts)) name ≡ is_named (names_in ts) name
kept n name [] apart = refl
kept n name (t ∷ ts) apart =
    elim (cases_Bool (bytes_eq t.word.name n)) [
      | inl same ↦
          let out : others n (t ∷ ts) ≡ others n ts = rw same refl in
          let is : t.word.name ≡ n = (bytes_eq-Decides t.word.name n).0 same in
          let no : bytes_eq name t.word.name ≡ false = ap (bytes_eq name) is ∙ apart in
          ap (λ (us : List Typed). is_named (names_in us) name) out ∙ kept n name ts apart
          ∙ sym (ap (λ (b : Bool). b || is_named (names_in ts) name) no)
      | inr other ↦
          let stays : others n (t ∷ ts) ≡ t ∷ others n ts = rw other refl in
          ap (λ (us : List Typed). is_named (names_in us) name) stays
          ∙ ap (λ (b : Bool). bytes_eq name t.word.name || b) (kept n name ts apart)
    ]

-- the first declarations have the names of all
pub first_named : (ts : List Typed) (name : Text) → is_named (declared_names ts) name ≡ is_named (names_in ts) name
unfolding first_declared
first_named [] name = refl
first_named (t ∷ ts) name =
    elim (cases_Bool (bytes_eq name t.word.name)) [
      | inl here ↦
          ap (λ (b : Bool). b || is_named (names_in (others t.word.name (first_declared ts))) name) here
          ∙ sym (ap (λ (b : Bool). b || is_named (names_in ts) name) here)
      | inr apart ↦
          ap (λ (b : Bool). bytes_eq name t.word.name || b) (kept t.word.name name (first_declared ts) apart ∙ first_named ts name)
    ]

-- nothing is declared
pub none_named : [] ≡ declared_names []
unfolding first_declared
none_named = refl

-- a new name is put behind the others
pub named_new : (ds : List Typed) (t : Typed) (names new : List Text) → names ≡ declared_names ds → is_named names t.word.name ≡ false
    → new ≡ names ++ t.word.name ∷ [] → new ≡ declared_names (ds ++ t ∷ [])
named_new ds t names new so_far absent is =
    let first = sym (first_named ds t.word.name) ∙ sym (ap (λ (ns : List Text). is_named ns t.word.name) so_far) ∙ absent in
    is ∙ ap (λ (ns : List Text). ns ++ t.word.name ∷ []) so_far
    ∙ sym (ap names_in (with_new ds t first) ∙ map-append (λ (o : Typed). o.word.name) (first_declared ds) (t ∷ []))

-- and one that is there changes nothing
pub named_old : (ds : List Typed) (t : Typed) (names : List Text) → names ≡ declared_names ds → is_named names t.word.name ≡ true
    → names ≡ declared_names (ds ++ t ∷ [])
named_old ds t names so_far there =
    let first = sym (first_named ds t.word.name) ∙ sym (ap (λ (ns : List Text). is_named ns t.word.name) so_far) ∙ there in
    so_far ∙ sym (ap names_in (with_old ds t first))
