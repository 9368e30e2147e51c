-- Runs of appended lists, and what each step keeps.
use Rattle.std.proofs.Common.{◌≡◌, ℕ, ◌+◌, ◌<◌, length, get_or, take, List, [], ◌∷◌, ◌++◌, append-nil, append_assoc, Option, Some, None, refl, sym, ap, ◌∙◌, subst, IsSome}
use Rattle.std.proofs.lemmas.Bool.{false≢true}
use Rattle.std.proofs.lemmas.List.{take_more}
use Rattle.std.proofs.lemmas.Option.{none-some, same_Some}
use Rattle.std.specs.Option.{option_and_then}
use Rattle.mp_runs.specs.Run.{run, IsLegal}

module _ {S E : Type 0} (step : S → E → Option S) where
  pub run-none : (s : S) → run step s [] ≡ Some s
  unfolding run
  run-none s = refl

  pub run-cons : (s : S) (e : E) (events : List E) → run step s (e ∷ events) ≡ option_and_then (λ t. run step t events) (step s e)
  unfolding run
  run-cons s e events = refl

  pub run-one : (s : S) (e : E) → run step s (e ∷ []) ≡ step s e
  unfolding run
  run-one s e = same (step s e)
    where
      same : (o : Option S) → option_and_then (λ t. Some t) o ≡ o
      same None = refl
      same (Some t) = refl

  -- the first event, and then the others
  pub run-first : (s t : S) (e : E) (events : List E) → step s e ≡ Some t → run step s (e ∷ events) ≡ run step t events
  unfolding run
  run-first s t e events first = ap (option_and_then (λ u. run step u events)) first

  -- where a run begins with an event, the step takes it, and the others run from there
  pub run_parts : (s u : S) (e : E) (events : List E) → run step s (e ∷ events) ≡ Some u → (t : S) × (step s e ≡ Some t) × (run step t events ≡ Some u)
  unfolding run
  run_parts s u e events ran = by (step s e) refl ran
    where
      by : (o : Option S) → step s e ≡ o → option_and_then (λ t. run step t events) o ≡ Some u → (t : S) × (step s e ≡ Some t) × (run step t events ≡ Some u)
      by None is none = absurd (none-some u none)
      by (Some t) is later = (t, is, later)

  -- the run of an appended list is the run of the second one from where the first one ends
  pub run-append : (s : S) (before events : List E) → run step s (before ++ events) ≡ option_and_then (λ t. run step t events) (run step s before)
  unfolding run
  run-append s [] events = refl
  run-append s (e ∷ before) events = by (step s e) (λ t. run-append t before events)
    where
      by : (o : Option S) → ((t : S) → run step t (before ++ events) ≡ option_and_then (λ u. run step u events) (run step t before)) → option_and_then (λ t. run step t (before ++ events)) o ≡ option_and_then (λ t. run step t events) (option_and_then (λ t. run step t before) o)
      by None each = refl
      by (Some t) each = each t

  pub run-after : (s t : S) (before events : List E) → run step s before ≡ Some t → run step s (before ++ events) ≡ run step t events
  run-after s t before events ran = run-append s before events ∙ ap (option_and_then (λ u. run step u events)) ran

  -- one more event
  pub run-more : (s : S) (before : List E) (e : E) → run step s (before ++ e ∷ []) ≡ option_and_then (λ t. step t e) (run step s before)
  run-more s before e = run-append s before (e ∷ []) ∙ by (run step s before)
    where
      by : (o : Option S) → option_and_then (λ t. run step t (e ∷ [])) o ≡ option_and_then (λ t. step t e) o
      by None = refl
      by (Some t) = run-one t e

  -- one more event of a list
  pub run-take : (s t : S) (events : List E) (i : ℕ) (e : E) → i < length events → e ≡ get_or events i e → run step s (take i events) ≡ Some t → run step s (take (i + 1) events) ≡ step t e
  run-take s t events i e within is ran =
      ap (run step s) (take_more events i e within) ∙ ap (λ x. run step s (take i events ++ x ∷ [])) (sym is)
      ∙ run-more s (take i events) e
      ∙ ap (option_and_then (λ u. step u e)) ran

  -- where an appended list runs, the first one does, and the second one from there
  pub run_cut : (s u : S) (before events : List E) → run step s (before ++ events) ≡ Some u → (t : S) × (run step s before ≡ Some t) × (run step t events ≡ Some u)
  run_cut s u before events ran = by (run step s before) refl (sym (run-append s before events) ∙ ran)
    where
      by : (o : Option S) → run step s before ≡ o → option_and_then (λ t. run step t events) o ≡ Some u → (t : S) × (run step s before ≡ Some t) × (run step t events ≡ Some u)
      by None is none = absurd (none-some u none)
      by (Some t) is later = (t, is, later)

  -- each front of a legal list is legal
  pub front_is_legal : (s : S) (before events : List E) → IsLegal step s (before ++ events) → IsLegal step s before
  front_is_legal s before events legal = by (run step s before) refl (subst IsSome (run-append s before events) legal)
    where
      by : (o : Option S) → run step s before ≡ o → IsSome (option_and_then (λ t. run step t events) o) → IsSome (run step s before)
      by None is none = absurd (false≢true none)
      by (Some t) is later = subst IsSome (sym is) refl

  -- What holds of some events and the state that they lead to, and goes over to each next event, holds of a whole run.
  pub run_keeps_history : (P : List E → S → Type 0) → ((past : List E) (s t : S) (e : E) → P past s → step s e ≡ Some t → P (past ++ e ∷ []) t) → (past events : List E) (s t : S) → P past s → run step s events ≡ Some t → P (past ++ events) t
  run_keeps_history P keeps past [] s t holds ran =
      subst (P (past ++ [])) (same_Some s t (sym (run-none s) ∙ ran)) (subst (λ es. P es s) (sym (append-nil past)) holds)
  run_keeps_history P keeps past (e ∷ events) s t holds ran =
      let parts = run_parts s t e events ran in
      subst (λ es. P es t) (append_assoc past (e ∷ []) events)
      (run_keeps_history P keeps (past ++ e ∷ []) events parts.0 t (keeps past s parts.0 e holds parts.1) parts.2)

  -- what the first state has and each step keeps, the state after a run has
  pub run_keeps : (P : S → Type 0) → ((s t : S) (e : E) → P s → step s e ≡ Some t → P t) → (events : List E) (s t : S) → P s → run step s events ≡ Some t → P t
  run_keeps P keeps events s t = run_keeps_history (λ _. P) (λ _. keeps) [] events s t
