-- As many bindings are tried in numbers as by names.
use Rattle.mp_ground_laws.proofs.Basics.{arith, ◌≡◌, ℕ, suc, ◌+◌, ◌-◌, ◌≤◌, Bool, List, [], ◌∷◌, map, filter, length, take, All, refl, sym, ap, ◌∙◌, length-map, All-nil}
use Rattle.mp_ground_laws.proofs.Basics.{All-cons, All-head, All-tail, All-map, flat_map, list_all, Text, Typed, Schema, Factor, name_at, instance_with, suits_start}
use Rattle.mp_ground_laws.proofs.Basics.{OpenView, lifted_factor, members_of, setting_of, vocabulary_of, product, IsChecked, members_by_name}
use Rattle.mp_ground_laws.proofs.Basics.{named_objects, numbered_action, IsObject}
use Rattle.std.proofs.lemmas.List.{length-take, take-map}
use Rattle.std.proofs.lemmas.List.Concat.{length-flat_map}
use Rattle.std.proofs.lemmas.List.Elements.{All-take}
use Rattle.std.proofs.lemmas.List.Folds.{flat_map-map, fold-map, list_all-map}
use Rattle.std.proofs.lemmas.List.Sums.{sum-map}
use Rattle.std.proofs.lemmas.Simd.{map-map}
use Rattle.std.specs.List.{sum, sum_by}
use Rattle.mp_bindings.specs.Bindings.{beginnings, passes, is_tried, tried}
use Rattle.mp_instances.specs.Counts as numbered
use Rattle.mp_instances.specs.Instances as numbers
use Rattle.mp_ground_laws.specs.Tried.{cut_to, suits_so_far, tried_of, tries}
use Rattle.mp_ground_laws.proofs.Choosing.{IsChoice, products_are_choices, products_named}
use Rattle.mp_ground_laws.proofs.Lists.{filter_of_map, filter_where, list_all_where, map_where}
use Rattle.mp_ground_laws.proofs.Parts.{IsSchema, HasParts, parts_of}
use Rattle.mp_ground_laws.proofs.Suiting.{suits_cut}

-- ---- beginnings

beginnings_of_map : {X Y : Type 0} (f : X → Y) (xs : List X) → beginnings (map f xs) ≡ map (map f) (beginnings xs)
unfolding beginnings
beginnings_of_map f [] = refl
beginnings_of_map f (x ∷ xs) =
    ap (λ rest. (f x ∷ []) ∷ map (λ front. f x ∷ front) rest) (beginnings_of_map f xs)
    ∙ ap (λ rest. (f x ∷ []) ∷ rest) (map-map (λ front. f x ∷ front) (map f) (beginnings xs) ∙ sym (map-map (map f) (λ front. x ∷ front) (beginnings xs)))

-- they are no longer than the list, and have items of it alone
beginnings_within : {X : Type 0} (P : X → Type 0) (xs : List X) → All P xs → All (λ front. All P front × (length front ≤ length xs)) (beginnings xs)
unfolding beginnings
beginnings_within P [] all = All-nil (λ front. All P front × (length front ≤ 0))
beginnings_within P (x ∷ xs) all =
    let here = All-head P x xs all in
    let rest = beginnings_within P xs (All-tail P x xs all) in
    All-cons (λ front. All P front × (length front ≤ suc (length xs))) (x ∷ []) _ (All-cons P x [] here (All-nil P), omega arith)
    (All-map (λ front. All P front × (length front ≤ suc (length xs))) (λ front. x ∷ front) (beginnings xs)
    (λ k d less. let within = rest k d less in let short = within.1 in (All-cons P x _ here within.0, omega (arith, short))))

-- where a test says of images what another says of lists no longer than this one, an image is tried where the list is
same_tried : {X Y : Type 0} (f : X → Y) (P : X → Type 0) (test : List Y → Bool) (other : List X → Bool) (xs : List X) → All P xs
    → ((ys : List X) → All P ys → length ys ≤ length xs → test (map f ys) ≡ other ys) → is_tried test (map f xs) ≡ is_tried other xs
unfolding is_tried passes
same_tried f P test other xs all agree =
    let front = take (length xs - 1) xs in
    let long = length-take (length xs - 1) xs in
    ap (λ n. list_all test (beginnings (take (n - 1) (map f xs)))) (length-map xs f)
    ∙ ap (λ ys. list_all test (beginnings ys)) (take-map f (length xs - 1) xs)
    ∙ ap (list_all test) (beginnings_of_map f front) ∙ list_all-map test (map f) (beginnings front)
    ∙ list_all_where (λ ys. All P ys × (length ys ≤ length front)) _ other (beginnings front)
    (beginnings_within P front (All-take P (length xs - 1) xs all))
    (λ ys within. let short = within.1 in agree ys within.0 (omega (arith, short, long)))

-- ---- counts

sum_where : {X : Type 0} (P : X → Type 0) (f g : X → ℕ) (xs : List X) → All P xs → ((x : X) → P x → f x ≡ g x) → sum_by f xs ≡ sum_by g xs
sum_where P f g xs all same = sym (sum-map f xs) ∙ ap sum (map_where P f g xs all same) ∙ sum-map g xs

-- how many are tried, by the first parameters that have objects
tried_by_fronts : {X Y : Type 0} (test : List Y → Bool) (members : X → List Y) (xs : List X)
    → length (tried test (map members xs)) ≡ sum_by (λ front. length (filter (is_tried test) (product (map members front)))) (beginnings xs)
unfolding tried
tried_by_fronts test members xs =
    ap (λ fronts. length (flat_map (λ front. filter (is_tried test) (product front)) fronts)) (beginnings_of_map members xs)
    ∙ ap length (flat_map-map (λ front. filter (is_tried test) (product front)) (map members) (beginnings xs))
    ∙ length-flat_map (λ front. filter (is_tried test) (product (map members front))) (beginnings xs)

-- ---- all actions

module _ (agent : ℕ) (factor : Factor) (view : OpenView) (checked : IsChecked factor) (parts : HasParts factor) (s : Schema) (h : IsSchema factor s) where
  abbrev test : List Text → Bool
  test objects = suits_so_far agent factor (setting_of agent factor view) s objects

  abbrev other : List ℕ → Bool
  other objects = numbers.suits (lifted_factor factor view) (numbered_action factor view s) objects

  -- those with objects for the first parameters
  tried_front : (params : List Typed) → length params ≤ length s.params
      → length (filter (is_tried other) (product (map (members_of factor) params)))
      ≡ length (filter (is_tried test) (product (map (members_by_name factor) params)))
  tried_front params few =
      let bindings = product (map (members_of factor) params) in
      sym (ap (λ xss. length (filter (is_tried test) xss)) (products_named factor params)
      ∙ ap length (filter_of_map (named_objects factor) (is_tried test) bindings)
      ∙ length-map _ (named_objects factor)
      ∙ ap length (filter_where (IsChoice factor params) _ (is_tried other) bindings (products_are_choices factor params)
      (λ b c. let long = c.binding.long in
      same_tried (name_at (vocabulary_of factor).objects) (IsObject factor) test other b c.binding.range
      (λ ys range short.
      ap (λ m. suits_start (setting_of agent factor view) (instance_with agent factor (cut_to m s) (named_objects factor ys) 0)) (length-map ys _)
      ∙ sym (suits_cut agent factor view s ys checked parts h range (omega (arith, long, short, few)) 0)))))

  tried_of_one : numbered.tries_of (lifted_factor factor view) (numbered_action factor view s) ≡ length (tried_of agent factor (setting_of agent factor view) s)
  tried_of_one =
      tried_by_fronts other (members_of factor) s.params
      ∙ sum_where (λ front. All (λ _. Unit {0}) front × (length front ≤ length s.params)) _ _ (beginnings s.params)
      (beginnings_within (λ _. Unit {0}) s.params (λ _ _ _. tt)) (λ params within. tried_front params within.1)
      ∙ sym (tried_by_fronts test (members_by_name factor) s.params)

pub same_tries : (agent : ℕ) (factor : Factor) (view : OpenView) → IsChecked factor
    → numbered.tries (lifted_factor factor view) ≡ tries agent factor (setting_of agent factor view)
same_tries agent factor view checked =
    let parts = parts_of factor checked.no_fault in
    fold-map (λ n a. n + numbered.tries_of (lifted_factor factor view) a) (numbered_action factor view) 0 factor.domain.schemas
    ∙ sum_where (IsSchema factor) _ _ factor.domain.schemas parts.schemas (tried_of_one agent factor view checked parts)
