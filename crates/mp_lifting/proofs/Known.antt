-- Names that a vocabulary has, one after another.
use Rattle.mp_lifting.proofs.Basics.{◌≡◌, ℕ, ◌+◌, ◌<◌, Bool, true, false, ◌&&◌, List, [], ◌∷◌, ◌++◌, map, length, get_or, drop, Bor, Option, Some, None, sym, ap, ◌∙◌, append_assoc, if◌then◌else◌, drop_more, cond_some, number_in}
use Rattle.mp_lifting.proofs.Basics.{Text, is_listed, GroundAtom, Vocabulary}
use Rattle.std.specs.List.{list_all}
use Rattle.std.specs.Option.{is_some, option_map_or}
use Rattle.mp_sexp.specs.Numbers.{place_in}
use Rattle.mp_sexp.proofs.Places.{has_place}
use Rattle.mp_lifting.specs.Factors.{can_be_named, named_atom}

-- a name that is found is listed, and its place is its number
pub found_listed : (names : List Text) (name : Text) (k : ℕ) → place_in names name ≡ Some k → is_listed name names ≡ true
found_listed names name k is = sym (has_place name 0 names) ∙ ap is_some is

pub found_number : (names : List Text) (name : Text) (k : ℕ) → place_in names name ≡ Some k → number_in names name ≡ k
unfolding number_in
found_number names name k is = ap (λ o. option_map_or (λ place. place) o (length names)) is

-- and one that isn't is not
pub not_listed : (names : List Text) (name : Text) → place_in names name ≡ None → is_listed name names ≡ false
not_listed names name is = sym (has_place name 0 names) ∙ ap is_some is

-- numbers, and behind them those of more names, where all are listed
abbrev pub numbered : List Text → List ℕ → List Text → Option (List ℕ)
numbered names numbers words =
    if list_all (λ w. is_listed w names) words then Some (numbers ++ map (number_in names) words) else None

pub numbered_one : (names : List Text) (numbers : List ℕ) (word : Text) (words : List Text) (k : ℕ) → place_in names word ≡ Some k
    → numbered names (numbers ++ k ∷ []) words ≡ numbered names numbers (word ∷ words)
numbered_one names numbers word words k is =
    let all = list_all (λ w. is_listed w names) words in
    let rest = map (number_in names) words in
    ap (λ (ns : List ℕ). if all then Some ns else None) (append_assoc numbers (k ∷ []) rest)
    ∙ ap (λ (n : ℕ). if all then Some (numbers ++ n ∷ rest) else None) (sym (found_number names word k is))
    ∙ ap (λ (b : Bool). if b && all then Some (numbers ++ number_in names word ∷ rest) else None) (sym (found_listed names word k is))

pub numbered_none : (names : List Text) (numbers : List ℕ) (word : Text) (words : List Text) → place_in names word ≡ None
    → numbered names numbers (word ∷ words) ≡ None
numbered_none names numbers word words is =
    ap (λ (b : Bool). if b && list_all (λ w. is_listed w names) words then Some (numbers ++ number_in names word ∷ map (number_in names) words) else None)
    (not_listed names word is)

-- ---- in a loop over borrowed words

abbrev texts : List (Bor Text) → List Text
texts words = map (λ (w : Bor Text). w.now) words

next : (words : List (Bor Text)) (i : ℕ) (d : Bor Text) → i < length words → texts (drop i words) ≡ (get_or words i d).now ∷ texts (drop (i + 1) words)
next words i d lt = ap texts (drop_more words i d lt)

pub numbers_absent : (names : List Text) (numbers : List ℕ) (words : List (Bor Text)) (i : ℕ) (d : Bor Text) (o : Option ℕ) → i < length words
    → o ≡ place_in names (get_or words i d).now → o ≡ None → numbered names numbers (texts (drop i words)) ≡ None
numbers_absent names numbers words i d o lt found none =
    ap (numbered names numbers) (next words i d lt) ∙ numbered_none names numbers (get_or words i d).now (texts (drop (i + 1) words)) (sym found ∙ none)

pub numbers_found : (names : List Text) (numbers new : List ℕ) (words : List (Bor Text)) (i : ℕ) (d : Bor Text) (o : Option ℕ) (k s : ℕ) → i < length words
    → o ≡ place_in names (get_or words i d).now → o ≡ Some k → s ≡ k → new ≡ numbers ++ s ∷ []
    → numbered names new (texts (drop (i + 1) words)) ≡ numbered names numbers (texts (drop i words))
numbers_found names numbers new words i d o k s lt found is same grown =
    ap (λ (ns : List ℕ). numbered names ns (texts (drop (i + 1) words))) (grown ∙ ap (λ (n : ℕ). numbers ++ n ∷ []) same)
    ∙ numbered_one names numbers (get_or words i d).now (texts (drop (i + 1) words)) k (sym found ∙ is)
    ∙ sym (ap (numbered names numbers) (next words i d lt))

-- ---- a predicate and objects

abbrev pub named : Vocabulary → Text → List Text → Option GroundAtom
named v predicate objects =
    if can_be_named v (predicate ∷ objects) then Some (named_atom v (predicate ∷ objects)) else None

abbrev atom_at : ℕ → List ℕ → GroundAtom
atom_at symbol args = record { symbol = symbol; args = args }

pub absent_atom : (v : Vocabulary) (predicate : Text) (objects : List Text) (o : Option ℕ) → o ≡ place_in v.predicates predicate → o ≡ None
    → None ≡ named v predicate objects
absent_atom v predicate objects o found none =
    sym (ap (λ (b : Bool). if b && list_all (λ w. is_listed w v.objects) objects then Some (named_atom v (predicate ∷ objects)) else None)
    (not_listed v.predicates predicate (sym found ∙ none)))

pub found_atom : (v : Vocabulary) (predicate : Text) (objects : List Text) (o : Option ℕ) (k s : ℕ) (made : Option (List ℕ)) (args : List ℕ)
    → o ≡ place_in v.predicates predicate → o ≡ Some k → s ≡ k
    → made ≡ (if list_all (λ w. is_listed w v.objects) objects then Some (map (number_in v.objects) objects) else None) → made ≡ Some args
    → Some (atom_at s args) ≡ named v predicate objects
found_atom v predicate objects o k s made args found is same numbers given =
    let place = sym found ∙ is in
    let all = cond_some (list_all (λ w. is_listed w v.objects) objects) (map (number_in v.objects) objects) args (sym numbers ∙ given) in
    let whole = named_atom v (predicate ∷ objects) in
    sym (ap (λ (b : Bool). if b && list_all (λ w. is_listed w v.objects) objects then Some whole else None) (found_listed v.predicates predicate k place)
    ∙ ap (λ (b : Bool). if b then Some whole else None) all.0
    ∙ ap (λ (n : ℕ). Some (atom_at n (map (number_in v.objects) objects))) (found_number v.predicates predicate k place ∙ sym same)
    ∙ ap (λ (ns : List ℕ). Some (atom_at s ns)) all.1)
