-- The near side: it has the state, goes on, and has nothing else.
use Rattle.std.proofs.Common.{◌≡◌, ℕ, Bool, true, false, not, eqb, ◌||◌, List, get_or, All, refl, sym, ap, ◌∙◌}
use Rattle.std.proofs.lemmas.Bool.{and_from, eqb-true, not-true, not_from_false}
use Rattle.std.proofs.lemmas.List.Elements.{All-filter, All-map, filter_passes}
use Rattle.std.specs.FinSet as set
use Rattle.std.specs.List.{filter, list_all, list_any}
use Rattle.mp_sets.specs.Numbers.{Numbers}
use Rattle.mp_sets.proofs.NumbersLemmas.{All_at, among_itself}
use Rattle.mp_task.specs.Strips.{Operator}
use Rattle.mp_estimates.specs.Estimates.{Values}
use Rattle.mp_relaxed.specs.Values.{adds}
use Rattle.mp_lmcut.specs.Cut.{all_valued, avoiding, edge, in_zone, is_near, possible, support}
use Rattle.mp_lmcut.specs.Sides.{Supports}
use Rattle.mp_lmcut.specs.Laws.Lists.{All_filtered, All_mapped, any_filtered}
use Rattle.mp_lmcut.specs.Laws.Leading.{leads_on, leads_only, leads_to_start}
use Rattle.mp_lmcut.specs.Laws.Supports.{IsSupport, supported}
use Rattle.mp_lmcut.specs.Laws.Supports.IsSupport.{none, one}

-- a support that passes a test is all of the list that it stands in
pub support_passes : (v : Values) (pre : List ℕ) (x : ℕ) (p : ℕ → Bool) → Supports v pre x → p x ≡ true → list_all p (support v pre) ≡ true
support_passes v pre x p sup passes = by (supported v pre)
  where
    by : IsSupport v pre (support v pre) → list_all p (support v pre) ≡ true
    by (none e is) = ap (list_all p) is
    by (one y is member value) =
        let here : eqb y x ≡ true = first (eqb y x) (sym (ap (list_any (λ z. eqb z x)) is) ∙ sup) in
        ap (list_all p) is ∙ and_from (p y) true (ap p (eqb-true y x here) ∙ passes) refl
      where
        first : (b : Bool) → (b || false) ≡ true → b ≡ true
        first true h = refl
        first false h = h

module _ (v : Values) (os : List Operator) (goals : List ℕ) (s : Numbers) where
  abbrev zone : ℕ → Bool
  zone = in_zone v os goals

  abbrev near : ℕ → Bool
  near = is_near v os goals s

  abbrev Keeps : (ℕ → Bool) → Operator → Type 0
  Keeps p o = list_all p o.pre ≡ true → (x : ℕ) → adds o x ≡ true → p x ≡ true

  abbrev outward : Operator → Operator
  outward o = edge (support v o.pre) (filter (λ x. not (zone x)) o.add)

  -- what an operator adds outside the zone passes a test where its support does
  abbrev pub Forward : (ℕ → Bool) → Operator → Type 0
  Forward p o =
      all_valued v o.pre ≡ true
      → list_all p (support v o.pre) ≡ true
      → (y : ℕ)
      → adds o y ≡ true
      → zone y ≡ false
      → p y ≡ true

  pub near_start : (x : ℕ) → set.contains s x ≡ true → near x ≡ true
  unfolding is_near
  near_start x member = leads_to_start (avoiding zone v os) s x member

  near_steps : All (λ o. all_valued v o.pre ≡ true → Keeps near (outward o)) os
  unfolding is_near
  near_steps =
      All_filtered (λ o. Keeps near (outward o)) (λ o. all_valued v o.pre) os
      (All_mapped (Keeps near) outward (possible v os) (leads_on (avoiding zone v os) s))

  pub near_forward : All (Forward near) os
  near_forward = λ k d lt valued ready y adding out.
      near_steps k d lt valued ready y (any_filtered (λ x. not (zone x)) y (get_or os k d).add adding (not_from_false (zone y) out))

  pub near_least : (p : ℕ → Bool) → ((x : ℕ) → set.contains s x ≡ true → p x ≡ true) → All (Forward p) os → (x : ℕ) → near x ≡ true → p x ≡ true
  unfolding is_near
  near_least p start forward x h = leads_only (avoiding zone v os) s p start goes_on x h
    where
      goes_on : All (Keeps p) (avoiding zone v os)
      goes_on =
          All-map (Keeps p) outward (possible v os)
          (λ i d lt ready y adding.
          let o : Operator = get_or (possible v os) i d in
          let out : not (zone y) ≡ true = All_at (λ z. not (zone z) ≡ true) (filter (λ z. not (zone z)) o.add) y (filter_passes (λ z. not (zone z)) o.add) adding in
          let own : adds o y ≡ true = All_at (λ z. adds o z ≡ true) (filter (λ z. not (zone z)) o.add) y (All-filter (λ z. not (zone z)) (λ z. adds o z ≡ true) o.add (among_itself o.add)) adding in
          let valued : all_valued v o.pre ≡ true = filter_passes (λ q. all_valued v q.pre) os i d lt in
          All-filter (λ q. all_valued v q.pre) (Forward p) os forward i d lt valued ready y own (not-true (zone y) out))
