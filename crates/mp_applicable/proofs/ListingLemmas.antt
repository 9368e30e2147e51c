-- Actions in the lists of facts.
use Rattle.std.proofs.Common.{◌≡◌, ℕ, ◌+◌, ◌<◌, ◌≤◌, List, [], ◌∷◌, ◌++◌, length, get_or, Some, Contains, refl, sym, ◌∙◌, subst, inl, inr, ⊎_elim, get_or-set_same, get_or-set_other, arith}
use Rattle.std.specs.Prelude.{slice_get}
use Rattle.std.proofs.Math.ListN.{set as set_at}
use Rattle.std.proofs.lemmas.Bool.{cases_eq}
use Rattle.std.proofs.lemmas.List.{length-set, get_or_default}
use Rattle.std.proofs.lemmas.List.Elements.{Contains-push, Contains-append_left}
use Rattle.std.proofs.lemmas.Option.{slice_get_within}
use Rattle.mp_task.specs.declared.act.Act.{Act}
use Rattle.mp_task.specs.AgentTask.{AgentTask}
use Rattle.mp_applicable.specs.Listing.{ActionLists, AreListsOf, HasTaken, IsListed, IsListedToo, IsUnder}

-- a list of numbers takes one more at its end
pub taken_at : (old : List (List ℕ)) (fact number : ℕ) (list more : List ℕ) → fact < length old → list ≡ get_or old fact list → more ≡ list ++ number ∷ []
    → HasTaken old fact number (set_at old fact more)
taken_at old fact number list more inside at e = record {
  as_many = length-set old fact more;
  kept = λ x k h. ⊎_elim
      (λ same. subst (λ z. Contains (get_or (set_at old fact more) z []) k) (sym same)
      (subst (λ l. Contains l k) (sym now) (Contains-append_left (get_or old fact []) (number ∷ []) k (subst (λ z. Contains (get_or old z []) k) same h))))
      (λ other. subst (λ l. Contains l k) (sym (get_or-set_other old fact x more [] other)) h)
      (cases_eq x fact);
  taken = subst (λ l. Contains l number) (sym now) (Contains-push (get_or old fact []) number);
}
  where
    was : get_or old fact [] ≡ list
    was = get_or_default old fact [] list inside ∙ sym at

    now : get_or (set_at old fact more) fact [] ≡ get_or old fact [] ++ number ∷ []
    now = get_or-set_same old fact more [] inside ∙ e ∙ (λ j. sym was j ++ number ∷ [])

under_kept : (old new : List (List ℕ)) (fact number : ℕ) → HasTaken old fact number new → (facts : List ℕ) (k : ℕ) → IsUnder old facts k → IsUnder new facts k
under_kept old new fact number taken facts k under = record {
  fact = under.fact;
  needed = under.needed;
  listed = taken.kept under.fact k under.listed;
}

under_taken : (old new : List (List ℕ)) (fact number : ℕ) → HasTaken old fact number new → (facts : List ℕ) → Contains facts fact → IsUnder new facts number
under_taken old new fact number taken facts needed = record { fact = fact; needed = needed; listed = taken.taken }

module _ (number fact : ℕ) (act : Act) (old : ActionLists) where
  -- an action is listed under a public fact
  pub under_public : (new : List (List ℕ)) → Contains act.pre_pub fact → HasTaken old.publics fact number new
      → IsListedToo number act old (record old { publics = new })
  under_public new needed taken = record {
    publics = taken.as_many;
    privates = refl;
    kept = λ k a was. elim was [
      | inl free ↦ inl free
      | inr (inl public) ↦ inr (inl (under_kept old.publics new fact number taken a.pre_pub k public))
      | inr (inr private) ↦ inr (inr private)
    ];
    listed = inr (inl (under_taken old.publics new fact number taken act.pre_pub needed));
  }

  -- under a private one
  pub under_private : (new : List (List ℕ)) → Contains act.pre_priv fact → HasTaken old.privates fact number new
      → IsListedToo number act old (record old { privates = new })
  under_private new needed taken = record {
    publics = refl;
    privates = taken.as_many;
    kept = λ k a was. elim was [
      | inl free ↦ inl free
      | inr (inl public) ↦ inr (inl public)
      | inr (inr private) ↦ inr (inr (under_kept old.privates new fact number taken a.pre_priv k private))
    ];
    listed = inr (inr (under_taken old.privates new fact number taken act.pre_priv needed));
  }

-- ---- the actions below a number are listed

pub record AreListedBelow (t : AgentTask) (n : ℕ) (l : ActionLists) : Type 0 where
  pub publics : length l.publics ≡ t.publics
  pub privates : length l.privates ≡ t.privates
  pub listed :
      (k : ℕ) (act : Act)
      → k < n
      → slice_get t.acts k ≡ Some act
      → IsListed l k act

pub none_listed : (t : AgentTask) (l : ActionLists) → length l.publics ≡ t.publics → length l.privates ≡ t.privates → AreListedBelow t 0 l
none_listed t l publics privates = record {
  publics = publics;
  privates = privates;
  listed = λ k act lt. absurd (omega (arith, lt));
}

pub one_listed : (t : AgentTask) (n : ℕ) (act : Act) (old new : ActionLists) → slice_get t.acts n ≡ Some act → AreListedBelow t n old → IsListedToo n act old new → AreListedBelow t (n + 1) new
one_listed t n act old new is so_far too = record {
  publics = too.publics ∙ so_far.publics;
  privates = too.privates ∙ so_far.privates;
  listed = λ k a lt there. ⊎_elim
      (λ (e : k ≡ n).
      let same : a ≡ act = let at : slice_get t.acts n ≡ Some a = subst (λ z. slice_get t.acts z ≡ Some a) e there in cc in
      subst (λ b. IsListed new k b) (sym same) (subst (λ z. IsListed new z act) (sym e) too.listed))
      (λ (ne : k ≡ n → ⊥). too.kept k a (so_far.listed k a (omega (arith, lt, ne)) there))
      (cases_eq k n);
}

pub all_listed : (t : AgentTask) (n : ℕ) (l : ActionLists) → length t.acts ≤ n → AreListedBelow t n l → AreListsOf t l
all_listed t n l all so_far = record {
  publics = so_far.publics;
  privates = so_far.privates;
  listed = λ k act there. let inside = slice_get_within t.acts k act there in so_far.listed k act (omega (arith, inside, all)) there;
}
