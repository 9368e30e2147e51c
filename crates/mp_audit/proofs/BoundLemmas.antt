-- The bound of a joint state is that of an entry, or nothing.
use Rattle.std.proofs.Common.{◌≡◌, ◌≢◌, suc, Bool, true, false, cond, List, [], ◌∷◌, Some, refl, ap, ◌∙◌, subst, arith, inl, inr, ◌⊎◌}
use Rattle.std.proofs.lemmas.Bool.{false_from_ne_true}
use Rattle.std.specs.Prelude.{find}
use Rattle.std.specs.Option.{option_map_or}
use Rattle.std.specs.List.{AllPairs, Contains}
use Rattle.mp_list.proofs.Members.{contains_head, contains_tail, contains_cases, no_member}
use Rattle.mp_reach.specs.LeadsOn.{Known}
use Rattle.mp_audit.specs.declared.certificate.Bound.{Bound}
use Rattle.mp_audit.specs.Audited.{bound_of, known_of, same_known}
use Rattle.mp_audit.proofs.KnownLemmas.{known_is, known_itself}

-- an entry that has a joint state, with the bound that the state has
pub record HasBound (bounds : List Bound) (k : Known) : Type 0 where
  pub entry : Bound
  pub there : Contains bounds entry
  pub of : known_of entry ≡ k
  pub bound : bound_of bounds k ≡ entry.bound

-- a state has the bound of an entry, or 0
pub entry_or_none : (bounds : List Bound) (k : Known) → HasBound bounds k ⊎ (bound_of bounds k ≡ 0)
entry_or_none [] k = inr refl
entry_or_none (b ∷ bs) k = by (same_known (known_of b) k) refl (entry_or_none bs k)
  where
    by : (test : Bool) → same_known (known_of b) k ≡ test → HasBound bs k ⊎ (bound_of bs k ≡ 0) → HasBound (b ∷ bs) k ⊎ (bound_of (b ∷ bs) k ≡ 0)
    by true e later = inl (record {
      entry = b;
      there = contains_head b bs;
      of = known_is (known_of b) k e;
      bound = ap (λ (t : Bool). option_map_or (λ (x : Bound). x.bound) (cond t (Some b) (find (λ x. same_known (known_of x) k) bs)) 0) e;
    })
    by false e later =
        let same : bound_of (b ∷ bs) k ≡ bound_of bs k =
        ap (λ (t : Bool). option_map_or (λ (x : Bound). x.bound) (cond t (Some b) (find (λ x. same_known (known_of x) k) bs)) 0) e in
        elim later [
          | inl has ↦ inl (record { entry = has.entry; there = contains_tail b bs has.entry has.there; of = has.of; bound = same ∙ has.bound })
          | inr none ↦ inr (same ∙ none)
        ]

-- where no two entries have one joint state, each has its own bound
pub bound_of_entry : (bounds : List Bound) (b : Bound) → AllPairs (λ x y. known_of x ≢ known_of y) bounds → Contains bounds b → bound_of bounds (known_of b) ≡ b.bound
bound_of_entry [] b once here = absurd (no_member b here)
bound_of_entry (x ∷ xs) b once here =
    elim (contains_cases x xs b here) [
      | inl is ↦ first is
      | inr later ↦ behind later (bound_of_entry xs b rest later)
    ]
  where
    first : x ≡ b → bound_of (x ∷ xs) (known_of b) ≡ b.bound
    first is =
        let passes : same_known (known_of x) (known_of b) ≡ true =
        ap (λ (y : Bound). same_known (known_of y) (known_of b)) is ∙ known_itself (known_of b) in
        ap (λ (t : Bool). option_map_or (λ (y : Bound). y.bound) (cond t (Some x) (find (λ y. same_known (known_of y) (known_of b)) xs)) 0) passes ∙ ap (λ (y : Bound). y.bound) is

    rest : AllPairs (λ y z. known_of y ≢ known_of z) xs
    rest i j d before within = once (suc i) (suc j) d (omega arith) (omega arith)

    behind : Contains xs b → bound_of xs (known_of b) ≡ b.bound → bound_of (x ∷ xs) (known_of b) ≡ b.bound
    behind later others =
        let other : known_of x ≢ known_of b =
        subst (λ (y : Bound). known_of x ≢ known_of y) later.2 (once 0 (suc later.0) b (omega arith) (let lt = later.1 in omega arith)) in
        let fails : same_known (known_of x) (known_of b) ≡ false =
        false_from_ne_true (same_known (known_of x) (known_of b)) (λ e. other (known_is (known_of x) (known_of b) e)) in
        ap (λ (t : Bool). option_map_or (λ (y : Bound). y.bound) (cond t (Some x) (find (λ y. same_known (known_of y) (known_of b)) xs)) 0) fails ∙ others
