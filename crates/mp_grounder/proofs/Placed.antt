-- The numbers of some facts, as places of facts in lists: of private facts in the list of these, of public ones in the list
-- of their texts.
use Rattle.mp_grounder.proofs.Basics.{arith, ◌≡◌, ℕ, ◌+◌, ◌-◌, ◌<◌, ◌≤◌, Bool, true, false, not, nat_lt, List, [], ◌∷◌, map, filter, take, drop, get_or, Option, Some, None, slice_get, refl, sym, ap, ◌∙◌, subst, Less, Contains}
use Rattle.mp_grounder.proofs.Basics.{slice_cmp, list_any, AllByRecursion, IsStrictlySortedBy, option_map, nat_cmp, bytes_eq, ltb-true, lt-ltb, slice_get-map, slice_get_within, none-some, same_Some, bytes_eq-Decides, any_from}
use Rattle.mp_grounder.proofs.Basics.{some_member, number_in, sorted_by, Text, numbers_where, taken_passes, taken_from_passes}
use Rattle.std.specs.Ordering.{is_eq}
use Rattle.std.proofs.lemmas.Bool.{ltb-false, not-true}
use Rattle.std.proofs.lemmas.List.{length-take}
use Rattle.std.proofs.lemmas.Map.Text.{is_eq-slice_cmp}
use Rattle.std.proofs.lemmas.Option.{slice_get-get_or, get_or_from_slice_get}
use Rattle.mp_sexp.specs.Numbers.{is_named}
use Rattle.mp_sexp.proofs.NamesAt.{name_at_number, number_below}
use Rattle.mp_grounder.proofs.Members.{get_taken, get_dropped}
use Rattle.mp_list.proofs.Members.{to_map, from_map}
use Rattle.mp_ground_laws.proofs.Distinct.{AreDistinct}
use Rattle.mp_ground_laws.proofs.Numbered.{number_at}
use Rattle.mp_typing.proofs.Placing.{passing_place, place_passes}
use Rattle.mp_grounder.proofs.Rising.{sorted_places}
use Rattle.mp_typing.proofs.Finding.{member_at}

-- ---- lists at places

pub mapped_at : {X Y : Type 0} (f : X → Y) (xs : List X) (n : ℕ) (x : X) → slice_get xs n ≡ Some x → slice_get (map f xs) n ≡ Some (f x)
mapped_at f xs n x h = slice_get-map f xs n ∙ ap (option_map f) h

pub at_mapped : {X Y : Type 0} (f : X → Y) (xs : List X) (n : ℕ) (y : Y) → slice_get (map f xs) n ≡ Some y → (x : X) × (slice_get xs n ≡ Some x) × (f x ≡ y)
at_mapped {X} {Y} f xs n y h = by (slice_get xs n) refl
  where
    by : (o : Option X) → slice_get xs n ≡ o → (x : X) × (slice_get xs n ≡ Some x) × (f x ≡ y)
    by None e = absurd (none-some y (sym (slice_get-map f xs n ∙ ap (option_map f) e) ∙ h))
    by (Some x) e = (x, e, same_Some (f x) y (sym (slice_get-map f xs n ∙ ap (option_map f) e) ∙ h))

-- ---- facts with numbers

-- the facts of a list, which have their places as numbers
pub record HaveNumbers {F : Type 0} (facts : List F) (number : F → ℕ) : Type 0 where
  pub numbered : (f : F) → Contains facts f → slice_get facts (number f) ≡ Some f
  pub once : (f : F) (i j : ℕ) → slice_get facts i ≡ Some f → slice_get facts j ≡ Some f → i ≡ j

module _ {F S : Type 0} (facts : List F) (number : F → ℕ) (have : HaveNumbers facts number) (m : ℕ) (name : F → S) where
  -- names are the same where the facts are
  pub record AreTold (same : S → S → Bool) : Type 0 where
    pub apart : (f g : F) → Contains facts f → Contains facts g → same (name f) (name g) ≡ true → f ≡ g
    pub itself : (f : F) → same (name f) (name f) ≡ true

  -- of some facts, those among the first ones
  pub first_places : (same : S → S → Bool) → AreTold same → (xs : List F) → ((x : F) → Contains xs x → Contains facts x)
      → sorted_by nat_cmp (filter (λ n. nat_lt n m) (map number xs))
      ≡ numbers_where 0 (λ y. list_any (λ z. same y z) (map name xs)) (map name (take m facts))
  first_places same told xs each =
      sorted_places (λ y. list_any (λ z. same y z) (map name xs)) (map name (take m facts)) (filter (λ n. nat_lt n m) (map number xs))
      (λ n found.
      let taken = taken_passes (λ k. nat_lt k m) (map number xs) n found in
      let from = from_map number xs n taken.0 in
      let x = from.0 in
      let less : n < m = ltb-true n m taken.1 in
      let at : slice_get facts n ≡ Some x = ap (slice_get facts) (sym from.2) ∙ have.numbered x (each x from.1) in (
        name x,
        mapped_at name (take m facts) n x (get_taken m n facts less ∙ at),
        any_from (λ z. same (name x) z) (map name xs) (name x) (to_map name xs x from.1) (told.itself x),
      ))
      (λ n y at passes.
      let from = at_mapped name (take m facts) n y at in
      let f = from.0 in
      let less : n < m = omega (arith, slice_get_within (take m facts) n f from.1, length-take m facts) in
      let there : slice_get facts n ≡ Some f = sym (get_taken m n facts less) ∙ from.1 in
      let some = some_member (λ z. same y z) (map name xs) passes in
      let of = from_map name xs some.0 some.1 in
      let x = of.0 in
      let is : f ≡ x = told.apart f x (member_at facts n f there) (each x of.1) ((λ i. same (from.2 i) (of.2 i)) ∙ some.2) in
      let here : number x ≡ n = have.once x (number x) n (have.numbered x (each x of.1)) (there ∙ ap Some is) in
      taken_from_passes (λ k. nat_lt k m) (map number xs) n (subst (Contains (map number xs)) here (to_map number xs x of.1)) (lt-ltb n m less))

-- the places of those among the first facts that pass a test, told by their names
pub first_passing : {F S : Type 0} (facts : List F) (m : ℕ) (name : F → S) (test : F → Bool) (told : S → Bool)
    → ((f : F) → Contains facts f → test f ≡ told (name f))
    → sorted_by nat_cmp (filter (λ n. nat_lt n m) (numbers_where 0 test facts)) ≡ numbers_where 0 told (map name (take m facts))
first_passing facts m name test told same =
    sorted_places told (map name (take m facts)) (filter (λ n. nat_lt n m) (numbers_where 0 test facts))
    (λ n found.
    let taken = taken_passes (λ k. nat_lt k m) (numbers_where 0 test facts) n found in
    let less : n < m = ltb-true n m taken.1 in
    let (f, at, passes) = place_passes test facts n taken.0 in
    (name f, mapped_at name (take m facts) n f (get_taken m n facts less ∙ at), sym (same f (member_at facts n f at)) ∙ passes))
    (λ n y at passes.
    let from = at_mapped name (take m facts) n y at in
    let f = from.0 in
    let less : n < m = omega (arith, slice_get_within (take m facts) n f from.1, length-take m facts) in
    let there : slice_get facts n ≡ Some f = sym (get_taken m n facts less) ∙ from.1 in
    let passed : test f ≡ true = same f (member_at facts n f there) ∙ ap told from.2 ∙ passes in
    taken_from_passes (λ k. nat_lt k m) (numbers_where 0 test facts) n (passing_place test facts n f there passed) (lt-ltb n m less))

-- ---- texts in order

behind_differs : (t : Text) (ts : List Text) → AllByRecursion (λ u. slice_cmp nat_cmp t u ≡ Less) ts → is_named ts t ≡ false
behind_differs t [] h = refl
behind_differs t (u ∷ us) h =
    let differs : bytes_eq t u ≡ false = sym (is_eq-slice_cmp t u) ∙ ap is_eq h.0 in
    rw differs (behind_differs t us h.1)

-- texts that rise differ
pub rising_differ : (ts : List Text) → IsStrictlySortedBy (slice_cmp nat_cmp) ts → AreDistinct ts
unfolding IsStrictlySortedBy
rising_differ [] h = tt
rising_differ (t ∷ ts) h = (behind_differs t ts h.0, rising_differ ts h.1)

-- a text at its number
pub text_at_number : (texts : List Text) (t : Text) → is_named texts t ≡ true → slice_get texts (number_in texts t) ≡ Some t
text_at_number texts t h =
    slice_get-get_or texts (number_in texts t) [] (number_below texts t h) ∙ ap Some (name_at_number texts t h)

pub number_at_text : (texts : List Text) (n : ℕ) (t : Text) → AreDistinct texts → slice_get texts n ≡ Some t → number_in texts t ≡ n
number_at_text texts n t once at =
    ap (number_in texts) (sym (get_or_from_slice_get texts n t [] at)) ∙ number_at texts n once (slice_get_within texts n t at)

-- ---- those of some facts that are not among the first ones

module _ {F S : Type 0} (facts : List F) (number : F → ℕ) (have : HaveNumbers facts number) (m : ℕ) (name : F → S) (text : S → Text) (test : S → Bool) where
  abbrev pub texts : List Text
  texts = map (λ f. text (name f)) (drop m facts)

  -- the place of a text in a list, for a fact by its number
  abbrev pub place : List Text → ℕ → ℕ
  place publics n = get_or (map (number_in publics) texts) (n - m) 0

  -- a test tells them
  abbrev pub TellsLater : Type 0
  TellsLater = (f : F) → Contains facts f → test (name f) ≡ not (nat_lt (number f) m)

  -- a list in order has their texts
  pub record HaveTexts (publics : List Text) : Type 0 where
    pub rise : IsStrictlySortedBy (slice_cmp nat_cmp) publics
    pub same : (t : Text) → is_named publics t ≡ is_named texts t

  text_at : (x : F) → Contains facts x → m ≤ number x → slice_get texts (number x - m) ≡ Some (text (name x))
  text_at x there le =
      let at : slice_get (drop m facts) (number x - m) ≡ Some x =
      get_dropped m (number x - m) facts ∙ ap (slice_get facts) (let e : m + (number x - m) ≡ number x = omega (arith, le) in e) ∙ have.numbered x there in
      mapped_at (λ f. text (name f)) (drop m facts) (number x - m) x at

  place_of : (publics : List Text) (x : F) → Contains facts x → m ≤ number x → place publics (number x) ≡ number_in publics (text (name x))
  place_of publics x there le =
      get_or_from_slice_get (map (number_in publics) texts) (number x - m) (number_in publics (text (name x))) 0
      (mapped_at (number_in publics) texts (number x - m) (text (name x)) (text_at x there le))

  in_texts : (publics : List Text) → HaveTexts publics → (x : F) → Contains facts x → m ≤ number x → is_named publics (text (name x)) ≡ true
  in_texts publics h x there le =
      let t = text (name x) in
      h.same t ∙ any_from (λ u. bytes_eq t u) texts t (member_at texts (number x - m) t (text_at x there le)) ((bytes_eq-Decides t t).1 refl)

  pub later_places : (publics : List Text) → HaveTexts publics → TellsLater → (xs : List F) → ((x : F) → Contains xs x → Contains facts x)
      → sorted_by nat_cmp (map (place publics) (filter (λ n. not (nat_lt n m)) (map number xs)))
      ≡ numbers_where 0 (λ t. list_any (λ u. bytes_eq t u) (map text (filter test (map name xs)))) publics
  later_places publics h tells xs each =
      let chosen = filter test (map name xs) in
      sorted_places (λ t. list_any (λ u. bytes_eq t u) (map text chosen)) publics (map (place publics) (filter (λ n. not (nat_lt n m)) (map number xs)))
      (λ p found.
      let from = from_map (place publics) (filter (λ n. not (nat_lt n m)) (map number xs)) p found in
      let taken = taken_passes (λ n. not (nat_lt n m)) (map number xs) from.0 from.1 in
      let of = from_map number xs from.0 taken.0 in
      let x = of.0 in
      let t = text (name x) in
      let later : not (nat_lt (number x) m) ≡ true = ap (λ n. not (nat_lt n m)) of.2 ∙ taken.1 in
      let le : m ≤ number x = ltb-false (number x) m (not-true _ later) in
      let is : number_in publics t ≡ p = sym (place_of publics x (each x of.1) le) ∙ ap (place publics) of.2 ∙ from.2 in
      let named = in_texts publics h x (each x of.1) le in (
        t,
        ap (slice_get publics) (sym is) ∙ text_at_number publics t named,
        any_from (λ u. bytes_eq t u) (map text chosen) t
            (to_map text chosen (name x) (taken_from_passes test (map name xs) (name x) (to_map name xs x of.1) (tells x (each x of.1) ∙ later)))
            ((bytes_eq-Decides t t).1 refl),
      ))
      (λ p t at passes.
      let some = some_member (λ u. bytes_eq t u) (map text chosen) passes in
      let of_text = from_map text chosen some.0 some.1 in
      let taken = taken_passes test (map name xs) of_text.0 of_text.1 in
      let of = from_map name xs of_text.0 taken.0 in
      let x = of.0 in
      let later : not (nat_lt (number x) m) ≡ true = sym (tells x (each x of.1)) ∙ ap test of.2 ∙ taken.1 in
      let le : m ≤ number x = ltb-false (number x) m (not-true _ later) in
      let is : text (name x) ≡ t = ap text of.2 ∙ of_text.2 ∙ sym ((bytes_eq-Decides t some.0).0 some.2) in
      let here : place publics (number x) ≡ p =
      place_of publics x (each x of.1) le ∙ ap (number_in publics) is ∙ number_at_text publics p t (rising_differ publics h.rise) at in
      subst (Contains (map (place publics) (filter (λ n. not (nat_lt n m)) (map number xs)))) here
      (to_map (place publics) (filter (λ n. not (nat_lt n m)) (map number xs)) (number x)
      (taken_from_passes (λ n. not (nat_lt n m)) (map number xs) (number x) (to_map number xs x of.1) later)))
