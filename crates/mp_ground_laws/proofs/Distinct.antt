-- Lists of names of which none comes twice, and that declared predicates and objects are such lists.
use Rattle.mp_ground_laws.proofs.Basics.{◌≡◌, Bool, true, false, not, List, [], ◌∷◌, ◌++◌, map, filter, refl, ◌∙◌, subst, inl, inr, cases_Bool, or_left, or_right, bytes_eq-Decides, bytes_eq, File, Word, Typed, is_named, swapped, fault_at, first_declared}
use Rattle.mp_ground_laws.proofs.Basics.{repeated_faults, Text}
use Rattle.std.proofs.lemmas.Bool.{both_ways, cond_both, false_from_ne_true, or_from, or_parts}
use Rattle.std.proofs.lemmas.List.Folds.{list_any-append}
use Rattle.mp_list.specs.Repeats.{repeats_behind, if_repeated, is_among_keys}
use Rattle.mp_typing.specs.declared.fault.FaultKind.TheVariants.{Twice}
use Rattle.mp_typing.specs.ObjectList.{others}

abbrev pub AreDistinct : List Text → Type 0
AreDistinct [] = Unit {0}
AreDistinct (n ∷ ns) = (is_named ns n ≡ false) × AreDistinct ns

-- ---- some of the items

absent_in_some : {X : Type 0} (name : X → Text) (test : X → Bool) (n : Text) (xs : List X) → is_named (map name xs) n ≡ false
    → is_named (map name (filter test xs)) n ≡ false
absent_in_some name test n [] h = refl
absent_in_some name test n (x ∷ xs) h =
    let parts = or_parts (bytes_eq n (name x)) (is_named (map name xs) n) h in
    let rest = absent_in_some name test n xs parts.1 in
    cond_both (test x) _ _ (λ ys. is_named (map name ys) n ≡ false) (λ _. or_from _ _ parts.0 rest) (λ _. rest)

some_distinct : {X : Type 0} (name : X → Text) (test : X → Bool) (xs : List X) → AreDistinct (map name xs) → AreDistinct (map name (filter test xs))
some_distinct name test [] h = tt
some_distinct name test (x ∷ xs) h =
    let rest = some_distinct name test xs h.1 in
    cond_both (test x) _ _ (λ ys. AreDistinct (map name ys)) (λ _. (absent_in_some name test (name x) xs h.0, rest)) (λ _. rest)

-- ---- first declarations

abbrev pub names_in : List Typed → List Text
names_in declared = map (λ o. o.word.name) declared

not_other : (n : Text) (ts : List Typed) → is_named (names_in (others n ts)) n ≡ false
not_other n [] = refl
not_other n (t ∷ ts) =
    elim (cases_Bool (bytes_eq t.word.name n)) [
      | inl same ↦ rw same (not_other n ts)
      | inr other ↦ rw other (or_from _ _ (swapped n t.word.name ∙ other) (not_other n ts))
    ]

pub first_distinct : (ts : List Typed) → AreDistinct (names_in (first_declared ts))
unfolding first_declared
first_distinct [] = tt
first_distinct (t ∷ ts) = (
  not_other t.word.name (first_declared ts),
  some_distinct (λ (o : Typed). o.word.name) (λ (o : Typed). not (bytes_eq o.word.name t.word.name)) (first_declared ts) (first_distinct ts),
)

-- ---- items of which none repeats the name of an earlier one

alone : {X : Type 0} (test : Bool) (x : X) (rest : List X) → if_repeated test x ++ rest ≡ [] → (test ≡ false) × (rest ≡ [])
alone true x rest h = absurd (cc)
alone false x rest h = (refl, h)

-- neither has one of them the name of another, nor one of some earlier names
distinct_behind : {X : Type 0} (name : X → Text) (keys : List Text) (xs : List X) → repeats_behind bytes_eq name keys xs ≡ []
    → AreDistinct (map name xs) × ((n : Text) → is_among_keys bytes_eq keys n ≡ true → is_named (map name xs) n ≡ false)
unfolding repeats_behind
distinct_behind name keys [] h = (tt, λ n among. refl)
distinct_behind name keys (x ∷ xs) h =
    let parts = alone (is_among_keys bytes_eq keys (name x)) x _ h in
    let rest = distinct_behind name (keys ++ name x ∷ []) xs parts.1 in
    let more = λ (n : Text). list_any-append (λ (k : Text). bytes_eq k n) keys (name x ∷ []) in
    let itself = (bytes_eq-Decides (name x) (name x)).1 refl in (
      (rest.1 (name x) (more (name x) ∙ or_right _ _ (or_left (bytes_eq (name x) (name x)) false itself)), rest.0),
      λ n among. or_from _ _
          (false_from_ne_true (bytes_eq n (name x)) (λ same.
          both_ways _ parts.0 (subst (λ m. is_among_keys bytes_eq keys m ≡ true) ((bytes_eq-Decides n (name x)).0 same) among)))
          (rest.1 n (more n ∙ or_left _ _ among)),
    )

nothing_mapped : {X Y : Type 0} (f : X → Y) (xs : List X) → map f xs ≡ [] → xs ≡ []
nothing_mapped f [] h = refl
nothing_mapped f (x ∷ xs) h = absurd (cc)

pub declared_distinct : {X : Type 0} (file : File) (word_of : X → Word) (xs : List X) → repeated_faults file word_of xs ≡ []
    → AreDistinct (map (λ (x : X). (word_of x).name) xs)
unfolding repeated_faults
declared_distinct file word_of xs h =
    (distinct_behind (λ x. (word_of x).name) [] xs (nothing_mapped (λ x. fault_at Twice file (word_of x)) _ h)).0
