-- Facts and the texts that spell them.
use Rattle.mp_ground_laws.proofs.Basics.{arith, ◌≡◌, ℕ, ◌+◌, ◌-◌, ◌==◌, suc, Bool, true, false, not, ◌&&◌, ◌||◌, List, [], ◌∷◌, ◌++◌, map, filter, length, take, All, Option, Some, None, if◌then◌else◌, refl, sym, ap, ◌∙◌, subst}
use Rattle.mp_ground_laws.proofs.Basics.{cons_option, list_all, bytes_eq, and_parts, and_from, eqb-true, true≢false, take_all, All-nil, All-cons, All-head, All-tail, All-map, All-append, bytes_eq-Decides, same_tests, Typed}
use Rattle.mp_ground_laws.proofs.Basics.{Signature, Factor, name_at, number_in, first_declared, Text, GroundAtom, known_atoms, fact_text, vocabulary_of, same_atom, is_among, name_at_number, IsChecked, named_objects, named_fact, IsInRange}
use Rattle.std.proofs.Common.{length-append}
use Rattle.std.specs.Prelude.{IsTrue}
use Rattle.std.specs.List.{join_with_byte, slice_split}
use Rattle.std.proofs.lemmas.List.{take-append-le}
use Rattle.std.proofs.lemmas.List.Splits.{join_with_byte-slice_split, slice_split_none, slice_split_at}
use Rattle.mp_forms.specs.Kinds.{is_name}
use Rattle.mp_forms.specs.Words.{is_name_byte, begins_with_letter}
use Rattle.mp_forms.specs.Uses.{IsName}
use Rattle.mp_forms.proofs.TakenFiles.{predicates_named, constants_named, objects_named}
use Rattle.mp_joint.specs.Fact.{is_listed}
use Rattle.mp_lifting.specs.Factors.{between_brackets, has_brackets, words_of, can_be_named, named_atom, known_atom}
use Rattle.mp_lifting.specs.Texts.{bracketed}
use Rattle.mp_ground_laws.proofs.Facts.{atom_again}
use Rattle.std.proofs.lemmas.Bool.{both_ways, false_from_ne_true}
use Rattle.std.proofs.lemmas.List.Elements.{All-filter, All-weaker}
use Rattle.std.proofs.lemmas.List.Folds.{map_fixed}
use Rattle.std.proofs.lemmas.List.Sums.{AllPass-from_list_all, list_all-from_AllPass}
use Rattle.std.proofs.lemmas.Simd.{map-map}
use Rattle.mp_ground_laws.proofs.Numbered.{named_at}
use Rattle.mp_ground_laws.proofs.Parts.{HasParts}
use Rattle.mp_lifted.proofs.Keeping.{equal, itself}

-- ---- words of a text

abbrev is_space : ℕ → Bool
is_space b = b == 32

abbrev NotSpace : ℕ → Type 0
NotSpace b = is_space b ≡ false

abbrev pub HasNoSpace : Text → Type 0
HasNoSpace name = All NotSpace name

-- a name with others behind it
abbrev joined : Text → List Text → Text
joined name names = join_with_byte 32 (name ∷ names)

words_of_joined : (name : Text) (names : List Text) → All HasNoSpace (name ∷ names) → slice_split is_space (joined name names) ≡ name ∷ names
words_of_joined name [] h = slice_split_none is_space name (All-head HasNoSpace name [] h)
words_of_joined name (other ∷ names) h =
    slice_split_at is_space name 32 (joined other names) (All-head HasNoSpace name (other ∷ names) h) refl
    ∙ ap (λ ws. name ∷ ws) (words_of_joined other names (All-tail HasNoSpace name (other ∷ names) h))

inner : (m : Text) → between_brackets (40 ∷ m ++ 41 ∷ []) ≡ m
inner m =
    let long : length (40 ∷ m ++ 41 ∷ []) ≡ suc (length m + 1) = ap suc (length-append m (41 ∷ [])) in
    let count : length (40 ∷ m ++ 41 ∷ []) - 2 ≡ length m = omega (arith, long) in
    ap (λ n. take n (m ++ 41 ∷ [])) count
    ∙ take-append-le (length m) m (41 ∷ []) (omega arith) ∙ take_all (length m) m (omega arith)

-- the words of a text with brackets spell it
spelled : (t : Text) → has_brackets t ≡ true → bracketed (words_of t) ≡ t
spelled t h =
    ap (λ m. 40 ∷ m ++ 41 ∷ []) (join_with_byte-slice_split 32 (between_brackets t))
    ∙ (bytes_eq-Decides (40 ∷ between_brackets t ++ 41 ∷ []) t).0 h

record IsSpelled (t : Text) (names : List Text) : Type 0 where
  brackets : has_brackets t ≡ true
  words : words_of t ≡ names

spells : (name : Text) (names : List Text) → All HasNoSpace (name ∷ names) → IsSpelled (bracketed (name ∷ names)) (name ∷ names)
spells name names h =
    let m = joined name names in
    let within : between_brackets (40 ∷ m ++ 41 ∷ []) ≡ m = inner m in
    record {
      brackets = (bytes_eq-Decides (40 ∷ between_brackets (40 ∷ m ++ 41 ∷ []) ++ 41 ∷ []) (40 ∷ m ++ 41 ∷ [])).1 (ap (λ k. 40 ∷ k ++ 41 ∷ []) within);
      words = ap (slice_split is_space) within ∙ words_of_joined name names h;
    }

-- ---- names have no space

byte_not_space : (b : ℕ) → is_name_byte b ≡ true → NotSpace b
byte_not_space b h =
    false_from_ne_true (is_space b) (λ space. both_ways (is_name_byte 32) refl (subst (λ c. is_name_byte c ≡ true) (eqb-true b 32 space) h))

name_not_space : (name : Text) → IsTrue (is_name name) → HasNoSpace name
unfolding is_name
name_not_space name h =
    All-weaker (λ b. is_name_byte b ≡ true) NotSpace byte_not_space name
    (AllPass-from_list_all is_name_byte name ((and_parts (begins_with_letter name) (list_all is_name_byte name) h).1))

predicates_spaceless : (factor : Factor) → IsChecked factor → All HasNoSpace (vocabulary_of factor).predicates
predicates_spaceless factor h =
    All-map HasNoSpace (λ (s : Signature). s.word.name) factor.domain.predicates
    (All-weaker (λ (s : Signature). IsName s.word) _ (λ s. name_not_space s.word.name) factor.domain.predicates
    (predicates_named factor.domain h.domain_names))

all_first : (P : Typed → Type 0) (ts : List Typed) → All P ts → All P (first_declared ts)
unfolding first_declared
all_first P [] h = All-nil P
all_first P (t ∷ ts) h =
    All-cons P t (filter (λ (o : Typed). not (bytes_eq o.word.name t.word.name)) (first_declared ts)) (All-head P t ts h)
    (All-filter (λ (o : Typed). not (bytes_eq o.word.name t.word.name)) P (first_declared ts) (all_first P ts (All-tail P t ts h)))

objects_spaceless : (factor : Factor) → IsChecked factor → All HasNoSpace (vocabulary_of factor).objects
objects_spaceless factor h =
    let all = factor.domain.constants ++ factor.problem.objects in
    All-map HasNoSpace (λ (o : Typed). o.word.name) (first_declared all)
    (All-weaker (λ (o : Typed). IsName o.word) _ (λ o. name_not_space o.word.name) (first_declared all)
    (all_first (λ (o : Typed). IsName o.word) all
    (All-append (λ (o : Typed). IsName o.word) factor.domain.constants factor.problem.objects
    (constants_named factor.domain h.domain_names) (objects_named factor.problem h.problem_names))))

names_again : (names texts : List Text) → list_all (λ o. is_listed o names) texts ≡ true → map (name_at names) (map (number_in names) texts) ≡ texts
names_again names ts h =
    map-map (name_at names) (number_in names) ts
    ∙ map_fixed _ ts (λ k d less. name_at_number names _ (AllPass-from_list_all (λ o. is_listed o names) ts h k d less))

-- ---- the facts that texts spell

abbrev is_option : GroundAtom → Option GroundAtom → Bool
is_option a None = false
is_option a (Some b) = same_atom a b

-- the atom's own text spells it
own_text : (agent : ℕ) (factor : Factor) (a : GroundAtom) → IsChecked factor → HasParts factor → IsInRange factor a
    → is_option a (known_atom (vocabulary_of factor) (fact_text (named_fact agent factor a))) ≡ true
own_text agent factor a checked parts range =
    let voc = vocabulary_of factor in
    let predicate = name_at voc.predicates a.symbol in
    let args = named_objects factor a.args in
    let spaceless = All-map HasNoSpace (name_at voc.objects) a.args (λ k d less. objects_spaceless factor checked _ [] (range.args k d less)) in
    let s = spells predicate args (All-cons HasNoSpace predicate args (predicates_spaceless factor checked a.symbol [] range.symbol) spaceless) in
    let listed = list_all-from_AllPass (λ o. is_listed o voc.objects) args
    (All-map (λ o. is_listed o voc.objects ≡ true) (name_at voc.objects) a.args (λ k d less. named_at voc.objects _ (range.args k d less))) in
    ap (λ b. is_option a (if b then Some (named_atom voc (words_of (bracketed (predicate ∷ args)))) else None))
    (and_from _ _ s.brackets (ap (can_be_named voc) s.words ∙ and_from _ _ (named_at voc.predicates a.symbol range.symbol) listed))
    ∙ ap (same_atom a) (ap (named_atom voc) s.words ∙ atom_again agent factor a parts range) ∙ itself a

-- and a text that spells it is its own
by_words : (agent : ℕ) (factor : Factor) (words : List Text) → can_be_named (vocabulary_of factor) words ≡ true
    → fact_text (named_fact agent factor (named_atom (vocabulary_of factor) words)) ≡ bracketed words
by_words agent factor [] h = absurd (true≢false (sym h))
by_words agent factor (p ∷ os) h =
    let voc = vocabulary_of factor in
    let parts = and_parts (is_listed p voc.predicates) (list_all (λ o. is_listed o voc.objects) os) h in
    λ i. bracketed (name_at_number voc.predicates p parts.0 i ∷ names_again voc.objects os parts.1 i)

of_spelled : (agent : ℕ) (factor : Factor) (a : GroundAtom) (t : Text) (test : Bool) → (has_brackets t && can_be_named (vocabulary_of factor) (words_of t)) ≡ test
    → is_option a (if test then Some (named_atom (vocabulary_of factor) (words_of t)) else None) ≡ true
    → fact_text (named_fact agent factor a) ≡ t
of_spelled agent factor a t true e h =
    let parts = and_parts (has_brackets t) (can_be_named (vocabulary_of factor) (words_of t)) e in
    ap (λ b. fact_text (named_fact agent factor b)) (equal a (named_atom (vocabulary_of factor) (words_of t)) h)
    ∙ by_words agent factor (words_of t) parts.1 ∙ spelled t parts.0
of_spelled agent factor a t false e h = absurd (true≢false (sym h))

one_text : (agent : ℕ) (factor : Factor) (a : GroundAtom) (t : Text) → IsChecked factor → HasParts factor → IsInRange factor a
    → is_option a (known_atom (vocabulary_of factor) t) ≡ bytes_eq (fact_text (named_fact agent factor a)) t
one_text agent factor a t checked parts range =
    let text = fact_text (named_fact agent factor a) in
    same_tests (is_option a (known_atom (vocabulary_of factor) t)) (bytes_eq text t)
    (λ h. (bytes_eq-Decides text t).1 (of_spelled agent factor a t (has_brackets t && can_be_named (vocabulary_of factor) (words_of t)) refl h))
    (λ h. subst (λ u. is_option a (known_atom (vocabulary_of factor) u) ≡ true) ((bytes_eq-Decides text t).0 h) (own_text agent factor a checked parts range))

among_option : (a : GroundAtom) (o : Option GroundAtom) (rest : List GroundAtom) → is_among a (cons_option o rest) ≡ (is_option a o || is_among a rest)
among_option a None rest = refl
among_option a (Some b) rest = refl

-- an atom is among those that texts spell where its text is among them
pub known_texts : (agent : ℕ) (factor : Factor) (a : GroundAtom) (ts : List Text) → IsChecked factor → HasParts factor → IsInRange factor a
    → is_among a (known_atoms (vocabulary_of factor) ts) ≡ is_listed (fact_text (named_fact agent factor a)) ts
known_texts agent factor a [] checked parts range = refl
known_texts agent factor a (t ∷ ts) checked parts range =
    among_option a (known_atom (vocabulary_of factor) t) (known_atoms (vocabulary_of factor) ts)
    ∙ (λ i. one_text agent factor a t checked parts range i || known_texts agent factor a ts checked parts range i)
