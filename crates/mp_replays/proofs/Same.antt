-- A team with its own names is a renamed one, so that its files have one list of tasks, one of views, and one of steps.
use Rattle.std.proofs.Common.{◌≡◌, ℕ, suc, ◌+◌, Bool, true, false, cond, List, [], ◌∷◌, length, map, Some, refl, sym, ap, subst, ◌∙◌, arith}
use Rattle.std.specs.Prelude.{slice_get, ◌==◌}
use Rattle.std.proofs.lemmas.List.{length-map}
use Rattle.std.proofs.lemmas.Option.{same_Some}
use Rattle.mp_forms.specs.declared.factor.Factor.{Factor}
use Rattle.mp_joint.specs.Fact.{Text}
use Rattle.mp_joint.specs.declared.plan.PlanStep.{PlanStep}
use Rattle.mp_lifted.specs.Binding.{ActionBinding}
use Rattle.mp_ground_laws.specs.Named.{step_of}
use Rattle.mp_outcome.specs.Names.{names_from, names_of}
use Rattle.mp_split.specs.Team.{AreTasksOf}
use Rattle.mp_split.specs.declared.team.Tasks.{Tasks}
use Rattle.mp_stands.specs.Renaming.{IsRenaming, IsRenamingOf, renamed, same_names}
use Rattle.mp_stands.specs.Team.{AreRenamedSteps, IsRenamedTeam, renamed_step, step_for}

-- each name stays
stay : (publics : List Text) → IsRenamingOf publics (λ name. name)
stay publics = record {
  one_to_one = λ a b same. same;
  publics_stay = λ name listed. refl;
  words_stay = λ name fixed. refl;
}

same_renaming : (f : Factor) → IsRenaming f same_names
same_renaming f = record { objects = stay _; predicates = stay _; functions = stay _; actions = stay _ }

pub same_team : (team : List Factor) → IsRenamedTeam 0 same_names team team
same_team team = record {
  as_many = refl;
  renaming = λ f at. same_renaming f;
  renamed = λ f g at also. ap (renamed same_names) (same_Some g f (sym also ∙ at));
  others = λ n other. refl;
}

-- ---- steps

same_args : (args : List Text) → map (λ name. name) args ≡ args
same_args [] = refl
same_args (arg ∷ args) = ap (λ rest. arg ∷ rest) (same_args args)

same_step : (step : PlanStep) → renamed_step same_names step ≡ step
same_step step = λ i. record { agent = step.agent; action = step.action; args = same_args step.args i }

same_for : (place : ℕ) (step : PlanStep) → step_for 0 same_names place step ≡ step
same_for place step = by (place == 0)
  where
    by : (b : Bool) → cond b (renamed_step same_names step) step ≡ step
    by true = same_step step
    by false = refl

same_steps : (place : ℕ) (steps : List PlanStep) → map (step_for 0 same_names place) steps ≡ steps
same_steps place [] = refl
same_steps place (step ∷ steps) = λ i. same_for place step i ∷ same_steps place steps i

-- the steps at each place are the same by names
abbrev AreSameFrom : ℕ → List Factor → List (List ActionBinding) → List (List ActionBinding) → Type 0
AreSameFrom number team steps others =
    (place : ℕ) (f : Factor) (own its : List ActionBinding)
    → slice_get team place ≡ Some f → slice_get steps place ≡ Some own → slice_get others place ≡ Some its
    → map (step_of (number + place) f) its ≡ map (step_of (number + place) f) own

same_from : (number : ℕ) (team : List Factor) (steps others : List (List ActionBinding)) → length steps ≡ length team
    → length others ≡ length team
    → AreSameFrom number team steps others → names_from number team others ≡ names_from number team steps
same_from number [] steps others a b same = refl
same_from number (f ∷ fs) [] others a b same = absurd (let e = a in omega arith)
same_from number (f ∷ fs) (own ∷ steps) [] a b same = absurd (let e = b in omega arith)
same_from number (f ∷ fs) (own ∷ steps) (its ∷ others) a b same =
    let here : number + 0 ≡ number = omega arith in
    let first : map (step_of number f) its ≡ map (step_of number f) own =
    subst (λ (n : ℕ). map (step_of n f) its ≡ map (step_of n f) own) here (same 0 f own its refl refl refl)
    in
    let rest = same_from (number + 1) fs steps others (omega arith) (omega arith)
    (λ place g mine theirs at own_at its_at.
    let further : number + suc place ≡ number + 1 + place = omega arith in
    subst (λ (n : ℕ). map (step_of n g) theirs ≡ map (step_of n g) mine) further
    (same (suc place) g mine theirs at own_at its_at)) in
    λ i. first i ∷ rest i

pub same_names_of : (team : List Factor) (steps others : List (List ActionBinding)) → length steps ≡ length team
    → length others ≡ length team
    → AreRenamedSteps 0 same_names team team steps others → names_of team others ≡ names_of team steps
same_names_of team steps others a b same =
    same_from 1 team steps others a b (λ place f own its at own_at its_at.
    let turned : place + 1 ≡ 1 + place = omega arith in
    subst (λ (n : ℕ). map (step_of n f) its ≡ map (step_of n f) own) turned
    (same place f f own its at at own_at its_at ∙ same_steps place (map (step_of (place + 1) f) own)))

-- there is a list of steps for each agent
pub steps_each : (team : List Factor) (t : Tasks) → AreTasksOf team t → length t.steps ≡ length team
steps_each team t are = ap length are.steps ∙ length-map are.grounds (λ g. g.steps) ∙ are.grounded.one_each
