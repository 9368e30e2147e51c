-- Numbers that pass a test and were added to a set.
use Rattle.std.proofs.Common.{◌≡◌, ℕ, ◌+◌, ◌<◌, ◌≤◌, Bool, true, false, ◌&&◌, ◌||◌, eqb, List, [], ◌∷◌, ◌++◌, length, get_or, take, Contains, refl, sym, ap, ◌∙◌, subst, inl, inr, ⊎_elim, arith}
use Rattle.std.specs.Prelude.{◌⊎◌, Option, Some, None, slice_get}
use Rattle.std.specs.Option.{option_map_or}
use Rattle.std.proofs.lemmas.Bool.{and_parts, and_from, or_cases, or_left, or_right, eqb-true, eq-eqb, false≢true, cases_eq}
use Rattle.std.proofs.Math.Dec.{eqb-suc-zero}
use Rattle.std.proofs.lemmas.List.{take_more, take_all}
use Rattle.std.proofs.lemmas.List.Elements.{Contains-push_cases}
use Rattle.std.specs.FinSet as set
use Rattle.mp_list.proofs.Members.{all_at, no_member}
use Rattle.mp_sets.specs.Numbers.{Numbers, HasNoneFrom, IsLeastFrom, holds}
use Rattle.mp_sets.proofs.SetLemmas.{contains-insert_nat}
use Rattle.mp_task.specs.declared.act.Act.{Act}
use Rattle.mp_task.specs.AgentTask.{AgentTask}
use Rattle.mp_task.specs.Plan.{applies}
use Rattle.mp_applicable.specs.Applicable.{added_if, is_applicable}
use Rattle.mp_applicable.specs.Finding.{AreAdded, AreDueAdded}
use Rattle.mp_applicable.specs.Listing.{ActionLists, AreListsOf}

contains_added : (b : Bool) (x k : ℕ) (s : Numbers) → set.contains (added_if b x s) k ≡ ((b && eqb k x) || set.contains s k)
contains_added true x k s = contains-insert_nat s x k
contains_added false x k s = refl

module _ (test : ℕ → Bool) where
  pub none_added : (list : List ℕ) (s : Numbers) → AreAdded test (take 0 list) s s
  none_added list s = record {
    kept = λ k h. h;
    all = λ k here pass. absurd (no_member k here);
    right = λ before k h. before k h;
  }

  pub none_in : (list : List ℕ) (s : Numbers) → eqb (length list) 0 ≡ true → AreAdded test list s s
  none_in [] s is = none_added [] s
  none_in (x ∷ xs) s is = absurd (false≢true (sym (eqb-suc-zero (length xs)) ∙ is))

  pub one_added : (list : List ℕ) (i x : ℕ) (old mid : Numbers) → i < length list → x ≡ get_or list i 0
      → AreAdded test (take i list) old mid → AreAdded test (take (i + 1) list) old (added_if (test x) x mid)
  one_added list i x old mid inside is so_far = record {
    kept = λ k h. contains_added (test x) x k mid ∙ or_right (test x && eqb k x) _ (so_far.kept k h);
    all = λ k here pass. contains_added (test x) x k mid ∙ ⊎_elim
        (λ before. or_right (test x && eqb k x) _ (so_far.all k before pass))
        (λ e. or_left (test x && eqb k x) _ (and_from (test x) (eqb k x) (ap test e ∙ pass) (eq-eqb k x (sym e))))
        (Contains-push_cases (take i list) x k (subst (λ l. Contains l k) (take_more list i 0 inside ∙ (λ j. take i list ++ sym is j ∷ [])) here));
    right = λ before k h. ⊎_elim
        (λ new. let parts = and_parts (test x) (eqb k x) new in ap test (eqb-true k x parts.1) ∙ parts.0)
        (λ there. so_far.right before k there)
        (or_cases (test x && eqb k x) (set.contains mid k) (sym (contains_added (test x) x k mid) ∙ h));
  }

  pub list_added : (list : List ℕ) (i : ℕ) (old new : Numbers) → length list ≤ i → AreAdded test (take i list) old new → AreAdded test list old new
  list_added list i old new all = subst (λ l. AreAdded test l old new) (take_all i list all)

  module _ (lists : List (List ℕ)) (facts : Numbers) where
    -- so far for the facts below a number
    pub record AreAddedBelow (n : ℕ) (old new : Numbers) : Type 0 where
      pub kept : (k : ℕ) → set.contains old k ≡ true → set.contains new k ≡ true
      pub all :
          (x k : ℕ)
          → x < n
          → set.contains facts x ≡ true
          → Contains (get_or lists x []) k
          → test k ≡ true
          → set.contains new k ≡ true
      pub right : ((k : ℕ) → set.contains old k ≡ true → test k ≡ true) → (k : ℕ) → set.contains new k ≡ true → test k ≡ true

    pub none_below : (s : Numbers) → AreAddedBelow 0 s s
    none_below s = record {
      kept = λ k h. h;
      all = λ x k lt. absurd (omega (arith, lt));
      right = λ before k h. before k h;
    }

    pub more_below : (n x : ℕ) (old mid new : Numbers) → IsLeastFrom facts n x → AreAddedBelow n old mid
        → AreAdded test (get_or lists x []) mid new → AreAddedBelow (x + 1) old new
    more_below n x old mid new least so_far added = record {
      kept = λ k h. added.kept k (so_far.kept k h);
      all = λ y k lt is_true listed pass.
          ⊎_elim (λ (below : y < n). added.kept k (so_far.all y k below is_true listed pass))
          (λ (from : n ≤ y). ⊎_elim
          (λ (e : y ≡ x). added.all k (subst (λ z. Contains (get_or lists z []) k) e listed) pass)
          (λ (ne : y ≡ x → ⊥). absurd (false≢true (sym (least.least y from (omega (arith, lt, ne))) ∙ is_true)))
          (cases_eq y x))
          (below_or_from y n);
      right = λ before. added.right (so_far.right before);
    }
      where
        below_or_from : (a b : ℕ) → (a < b) ⊎ (b ≤ a)
        below_or_from a b = grind arith

    pub all_below : (n : ℕ) (old new : Numbers) → HasNoneFrom facts n → AreAddedBelow n old new → AreDueAdded test lists facts old new
    all_below n old new none so_far = record {
      kept = so_far.kept;
      all = λ k due pass. so_far.all due.fact k (inside due.fact due.is_true) due.is_true due.listed pass;
      right = so_far.right;
    }
      where
        below_or_from : (a b : ℕ) → (a < b) ⊎ (b ≤ a)
        below_or_from a b = grind arith

        inside : (x : ℕ) → set.contains facts x ≡ true → x < n
        inside x is_true = ⊎_elim (λ (below : x < n). below) (λ (from : n ≤ x). absurd (false≢true (sym (none x from) ∙ is_true))) (below_or_from x n)

-- ---- what the index finds

same_tests : (a b : Bool) → (a ≡ true → b ≡ true) → (b ≡ true → a ≡ true) → a ≡ b
same_tests true b there back = sym (there refl)
same_tests false true there back = back refl
same_tests false false there back = refl

module _ (t : AgentTask) (l : ActionLists) (lists : AreListsOf t l) (publics privates s0 s1 s2 s3 : Numbers) (start : s0 ≡ set.empty)
    (free : AreAdded (is_applicable t.acts publics privates) l.free s0 s1)
    (by_public : AreDueAdded (is_applicable t.acts publics privates) l.publics publics s1 s2)
    (by_private : AreDueAdded (is_applicable t.acts publics privates) l.privates privates s2 s3) where
  listed_found : (k : ℕ) (act : Act) → slice_get t.acts k ≡ Some act → applies act publics privates ≡ true → is_applicable t.acts publics privates k ≡ true → set.contains s3 k ≡ true
  listed_found k act is may pass =
      let parts = and_parts (holds publics act.pre_pub) (holds privates act.pre_priv) may in
      elim (lists.listed k act is) [
        | inl here ↦ by_private.kept k (by_public.kept k (free.all k here pass))
        | inr (inl under) ↦ by_private.kept k (by_public.all k (record {
          fact = under.fact;
          is_true = all_at (set.contains publics) act.pre_pub under.fact parts.0 under.needed;
          listed = under.listed;
        }) pass)
        | inr (inr under) ↦ by_private.all k (record {
          fact = under.fact;
          is_true = all_at (set.contains privates) act.pre_priv under.fact parts.1 under.needed;
          listed = under.listed;
        }) pass
      ]

  applicable_found : (k : ℕ) → is_applicable t.acts publics privates k ≡ true → set.contains s3 k ≡ true
  applicable_found k pass = by (slice_get t.acts k) refl
    where
      by : (o : Option Act) → slice_get t.acts k ≡ o → set.contains s3 k ≡ true
      by None is = absurd (false≢true (ap (λ (o : Option Act). option_map_or (λ act. applies act publics privates) o false) (sym is) ∙ pass))
      by (Some act) is = listed_found k act is (ap (λ (o : Option Act). option_map_or (λ act. applies act publics privates) o false) (sym is) ∙ pass) pass

  found_applicable : (k : ℕ) → set.contains s3 k ≡ true → is_applicable t.acts publics privates k ≡ true
  found_applicable = by_private.right (by_public.right (free.right (λ k h. absurd (false≢true (sym (ap (λ (s : Numbers). set.contains s k) start ∙ set.contains-empty _ k) ∙ h)))))

  pub all_found : (k : ℕ) → set.contains s3 k ≡ is_applicable t.acts publics privates k
  all_found k = same_tests _ _ (found_applicable k) (applicable_found k)
