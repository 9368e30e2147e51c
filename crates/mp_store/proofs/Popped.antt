-- The least open entry is one of those that are kept.
use Rattle.std.proofs.Common.{◌≡◌, ℕ, ◌<◌, Bool, true, false, cond, List, [], ◌∷◌, length, Option, Some, None, sym, ap, subst, ◌∙◌, refl}
use Rattle.std.specs.Prelude.{slice_get, slice_set, option_map, Contains, IfSome}
use Rattle.std.specs.Option.{option_map_or}
use Rattle.std.proofs.lemmas.List.{length-set}
use Rattle.mp_list.specs.First.{earlier, leftmost}
use Rattle.mp_list.proofs.Members.{contains_head, contains_tail}
use Rattle.mp_store.specs.declared.entry.Entry.{Entry}
use Rattle.mp_store.specs.declared.entry.Mark.TheVariants.{Expanded}
use Rattle.mp_store.specs.Minima.{Numbered, popped, closed, first_open, is_nearer, least_open, those}
use Rattle.mp_store.specs.Record.{Record, is_open}
use Rattle.mp_store.proofs.RankLemmas.{those_have}

-- what is found is one of the items

leftmost_keeps : {X : Type 0} (P : X → Type 0) (before : X → X → Bool) (known : X) (xs : List X) → P known → ((x : X) → Contains xs x → P x)
    → (f : X) → leftmost before (Some known) xs ≡ Some f → P f
leftmost_keeps P before known [] here all f is = subst P (let same : known ≡ f = cc in same) here
leftmost_keeps {X} P before known (x ∷ xs) here all f is =
    leftmost_keeps P before (earlier before (Some known) x) xs (by (before x known)) (λ y found. all y (contains_tail x xs y found)) f is
  where
    by : (b : Bool) → P (cond b x known)
    by true = all x (contains_head x xs)
    by false = here

leftmost_among : {X : Type 0} (P : X → Type 0) (before : X → X → Bool) (xs : List X) → ((x : X) → Contains xs x → P x)
    → (f : X) → leftmost before None xs ≡ Some f → P f
leftmost_among P before [] all f is = absurd (let impossible : ⊥ = cc in impossible)
leftmost_among P before (x ∷ xs) all f is = leftmost_keeps P before x xs (all x (contains_head x xs)) (λ y found. all y (contains_tail x xs y found)) f is

pub least_inside : {K : Type 0} (r : Record K) (n : ℕ) → least_open r ≡ Some n → n < length r.entries
least_inside {K} r n least = by (first_open r.entries) refl least
  where
    by : (o : Option (Numbered K)) → first_open r.entries ≡ o → option_map (λ x. x.0) o ≡ Some n → n < length r.entries
    by None found e = absurd (let impossible : ⊥ = cc in impossible)
    by (Some x) found e =
        let inside =
        leftmost_among (λ (y : Numbered K). y.0 < length r.entries) is_nearer (those (λ e. is_open e.mark) r.entries)
        (λ y among. (those_have (λ e. is_open e.mark) r.entries y among).inside) x found
        in
        let number : x.0 ≡ n = cc in
        subst (λ m. m < length r.entries) number inside

closed_length : {K : Type 0} (n : ℕ) (r : Record K) → length (closed n r).entries ≡ length r.entries
closed_length {K} n r = by (slice_get r.entries n)
  where
    by : (o : Option (Entry K)) → length (option_map_or (λ (e : Entry K). record r { entries = slice_set r.entries n (record e { mark = Expanded }) }) o r).entries ≡ length r.entries
    by None = refl
    by (Some e) = length-set r.entries n (record e { mark = Expanded })

module _ {K : Type 0} (r : Record K) (n : ℕ) (o : Option ℕ) (new : Record K) (pops : (o, new) ≡ popped r) (some : o ≡ Some n) where
  pub popped_least : least_open r ≡ Some n
  popped_least = sym (ap (λ (x : Option ℕ × Record K). x.0) pops) ∙ some

  pub popped_kept : new ≡ closed n r
  popped_kept =
      ap (λ (x : Option ℕ × Record K). x.1) pops ∙ ap (λ (o : Option ℕ). option_map_or (λ n. closed n r) o r) popped_least

  pub popped_inside : n < length new.entries
  popped_inside =
      subst (λ (m : ℕ). n < m) (sym (ap (λ (k : Record K). length k.entries) popped_kept ∙ closed_length n r)) (least_inside r n popped_least)

-- and so it is where there is one
pub popped_among : {K : Type 0} (r : Record K) (o : Option ℕ) (new : Record K) → (o, new) ≡ popped r → IfSome o (λ n. n < length new.entries)
popped_among r None new pops = tt
popped_among r (Some n) new pops = popped_inside r n (Some n) new pops refl
