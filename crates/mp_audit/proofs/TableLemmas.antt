-- Which entries repeat an earlier one, as a loop over the entries finds it; and the bound of an entry that is found.
use Rattle.std.proofs.Common.{◌≡◌, ℕ, suc, ◌+◌, ◌<◌, ◌≤◌, Bool, true, false, List, [], ◌∷◌, ◌++◌, length, map, get_or, take, drop, Option, Some, None, slice_get, All, refl, sym, ap, ◌∙◌, subst, drop-cons, inl, inr, arith}
use Rattle.std.proofs.Math.ListN.{drop_of_length-le}
use Rattle.std.specs.List.{enumerate_from}
use Rattle.std.specs.Prelude.{option_map}
use Rattle.std.proofs.lemmas.Bool.{false_from_ne_true}
use Rattle.std.proofs.lemmas.List.{map-append, take_more}
use Rattle.std.proofs.lemmas.Option.{same_Some, slice_get-get_or}
use Rattle.mp_list.specs.Repeats.{is_among_keys, if_repeated, repeats_behind}
use Rattle.mp_list.proofs.Members.{any_from, some_member}
use Rattle.mp_search.proofs.KeyedStates.{all_get}
use Rattle.mp_task.specs.AgentTask.{AgentTask}
use Rattle.mp_task.proofs.Agreeing.{Contains-slice_get}
use Rattle.mp_reach.specs.LeadsOn.{Known}
use Rattle.mp_audit.specs.declared.certificate.Bound.{Bound}
use Rattle.mp_audit.specs.declared.verdict.AuditVerdict.TheVariants.{Double}
use Rattle.mp_audit.specs.Audited.{bound_of, known_of, same_known}
use Rattle.mp_audit.specs.Chains.{IsFound}
use Rattle.mp_audit.specs.Failures.{doubles}
use Rattle.mp_audit.specs.Fits.{most, BoundFits}
use Rattle.mp_audit.proofs.BoundLemmas.{bound_of_entry, entry_or_none}
use Rattle.mp_audit.proofs.DoubleLemmas.{earlier_known, key, once_from_none, stands_before}
use Rattle.mp_audit.proofs.FirstLemmas.{item_at}
use Rattle.mp_audit.proofs.KnownLemmas.{known_is, known_itself}

-- the entries from a place on that repeat an earlier one
abbrev pub repeats_from : List Bound → ℕ → List (ℕ × Bound)
repeats_from bounds i = repeats_behind same_known key (map known_of (take i bounds)) (enumerate_from (i + 1) (drop i bounds))

module _ (bounds : List Bound) (i : ℕ) (b : Bound) (lt : i < length bounds) (is : b ≡ get_or bounds i b) where
  known_more : map known_of (take (i + 1) bounds) ≡ map known_of (take i bounds) ++ known_of b ∷ []
  known_more =
      ap (map known_of) (take_more bounds i b lt ∙ ap (λ (c : Bound). take i bounds ++ c ∷ []) (sym is)) ∙ map-append known_of (take i bounds) (b ∷ [])

  abbrev among : Bool
  among = is_among_keys same_known (map known_of (take i bounds)) (known_of b)

  split : repeats_from bounds i ≡ if_repeated among (i + 1, b) ++ repeats_from bounds (i + 1)
  unfolding repeats_behind
  split =
      let next : suc i ≡ i + 1 = omega arith in
      let one : repeats_from bounds i ≡ if_repeated among (i + 1, b)
      ++ repeats_behind same_known key (map known_of (take i bounds) ++ known_of b ∷ []) (enumerate_from (i + 1 + 1) (drop (suc i) bounds)) =
      rw (drop-cons bounds i b lt, ← is) refl in
      one
      ∙ ap (λ (ks : List Known). if_repeated among (i + 1, b) ++ repeats_behind same_known key ks (enumerate_from (i + 1 + 1) (drop (suc i) bounds))) (sym known_more)
      ∙ ap (λ (n : ℕ). if_repeated among (i + 1, b) ++ repeats_behind same_known key (map known_of (take (i + 1) bounds)) (enumerate_from (i + 1 + 1) (drop n bounds))) next

  -- an entry whose state no earlier one has
  pub no_repeat : IsFound bounds i (known_of b) None → repeats_from bounds (i + 1) ≡ repeats_from bounds i
  no_repeat none =
      let new : among ≡ false = false_from_ne_true among (λ here.
      let found = some_member (λ (k : Known). same_known k (known_of b)) (map known_of (take i bounds)) here in
      let earlier = stands_before bounds i b found.0 (omega (arith, lt)) found.1 in
      let before = earlier.1 in
      none earlier.0 (get_or bounds earlier.0 b) earlier.1 (slice_get-get_or bounds earlier.0 b (omega (arith, before, lt)))
      (earlier.2 ∙ known_is found.0 (known_of b) found.2)) in
      sym (split ∙ ap (λ (t : Bool). if_repeated t (i + 1, b) ++ repeats_from bounds (i + 1)) new)

  -- and the first whose state an earlier one has
  pub repeat : (at : ℕ) → IsFound bounds i (known_of b) (Some at) → repeats_from bounds i ≡ repeats_from bounds 0 → slice_get (doubles bounds) 0 ≡ Some (Double (i + 1))
  repeat at found so_far =
      let before = found.0 in
      let one = found.1 (get_or bounds at b) (slice_get-get_or bounds at b (omega (arith, before, lt))) in
      let there : among ≡ true =
      any_from (λ (k : Known). same_known k (known_of b)) (map known_of (take i bounds)) (known_of (get_or bounds at b))
      (earlier_known bounds at i b found.0 lt)
      (ap (λ (k : Known). same_known k (known_of b)) one ∙ known_itself (known_of b)) in
      let all : repeats_from bounds 0 ≡ (i + 1, b) ∷ repeats_from bounds (i + 1) =
      sym so_far ∙ split ∙ ap (λ (t : Bool). if_repeated t (i + 1, b) ++ repeats_from bounds (i + 1)) there in
      ap (λ (rs : List (ℕ × Bound)). slice_get (map (λ (numbered : ℕ × Bound). Double numbered.0) rs) 0) all

-- where all entries are looked at, none repeats an earlier one
pub all_once : (bounds : List Bound) (i : ℕ) → length bounds ≤ i → repeats_from bounds i ≡ repeats_from bounds 0 → doubles bounds ≡ []
unfolding repeats_behind
all_once bounds i past so_far =
    let none : repeats_from bounds 0 ≡ [] =
    sym so_far ∙ ap (λ (bs : List Bound). repeats_behind same_known key (map known_of (take i bounds)) (enumerate_from (i + 1) bs)) (drop_of_length-le bounds past) in
    ap (map (λ (numbered : ℕ × Bound). Double numbered.0)) none

-- the state of the next entry, as it is looked for
pub looked_for : (bounds : List Bound) (o : Option ℕ) (n i : ℕ) (k l : Known) → n ≡ i → k ≡ l → IsFound bounds n k o → IsFound bounds i l o
looked_for bounds o n i k l count known found = subst (λ (m : ℕ). IsFound bounds m l o) count (subst (λ (m : Known). IsFound bounds n m o) known found)

-- ---- the bound of a state, where its entry is found

module _ (tasks : List AgentTask) (bounds : List Bound) (fits : All (BoundFits tasks) bounds) (k : Known) (place n : ℕ) (found : IsFound bounds (length bounds) k (Some place))
    (is : option_map (λ b. b.bound) (slice_get bounds place) ≡ Some n) where
  bound_is : (b : Bound) → slice_get bounds place ≡ Some b → b.bound ≡ n
  bound_is b there = same_Some b.bound n (ap (option_map (λ (c : Bound). c.bound)) (sym there) ∙ is)

  pub found_bound : doubles bounds ≡ [] → n ≡ bound_of bounds k
  found_bound once =
      let item = item_at bounds place found.0 in
      sym (bound_is item.0 item.1)
      ∙ sym (bound_of_entry bounds item.0 (once_from_none bounds once) (Contains-slice_get bounds place item.0 item.1))
      ∙ ap (bound_of bounds) (found.1 item.0 item.1)

  pub small_bound : n ≤ most
  small_bound =
      let item = item_at bounds place found.0 in
      subst (λ (m : ℕ). m ≤ most) (bound_is item.0 item.1) (all_get (BoundFits tasks) bounds place item.0 fits item.1).small

pub missing_bound : (bounds : List Bound) (k : Known) → IsFound bounds (length bounds) k None → 0 ≡ bound_of bounds k
missing_bound bounds k none =
    elim (entry_or_none bounds k) [
      | inl has ↦
          let place = has.there in
          absurd (none place.0 has.entry place.1 (slice_get-get_or bounds place.0 has.entry place.1 ∙ ap (λ (b : Bound). Some b) place.2) has.of)
      | inr nothing ↦ sym nothing
    ]
