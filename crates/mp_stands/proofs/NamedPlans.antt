-- Plans that are named by numbers, step by step.
use Rattle.std.proofs.Common.{◌≡◌, List, [], ◌∷◌, ◌++◌, map, refl, ap, sym, ◌∙◌, subst, Some}
use Rattle.std.proofs.lemmas.Option.{same_Some}
use Rattle.std.specs.Prelude.{slice_get}
use Rattle.mp_runs.specs.Simulation.{StandsForAll}
use Rattle.mp_joint.specs.declared.plan.PlanStep.{PlanStep}
use Rattle.mp_task.specs.Plan.{TaskStep}
use Rattle.mp_stands.specs.Numbering.{Numbering, steps_of}
use Rattle.mp_stands.specs.Plans.{IsNamed, AreNamed}
use Rattle.mp_stands.proofs.MemberLists.{one_place}
use Rattle.mp_stands.proofs.Answering.{IsNameOf, IsNumberOf}

-- what answers numbers is named by them
pub are_named : (numbering : Numbering) (numbers : List TaskStep) (plan : List PlanStep) → StandsForAll (IsNameOf numbering) numbers plan → AreNamed numbering numbers plan
are_named numbering [] plan h = subst (AreNamed numbering []) (sym h) tt
are_named numbering (n ∷ ns) plan h =
    let one = h.2 in
    subst (AreNamed numbering (n ∷ ns)) (sym (h.4 ∙ ap (λ (xs : List PlanStep). xs ++ h.1) one.is)) (one.named, are_named numbering ns h.1 h.3)

-- and what numbers answer it
pub are_numbered : (numbering : Numbering) (plan : List PlanStep) (numbers : List TaskStep) → StandsForAll (IsNumberOf numbering) plan numbers → AreNamed numbering numbers plan
are_numbered numbering [] numbers h = subst (λ (ns : List TaskStep). AreNamed numbering ns []) (sym h) tt
are_numbered numbering (step ∷ steps) numbers h =
    let one = h.2 in
    subst (λ (ns : List TaskStep). AreNamed numbering ns (step ∷ steps)) (sym (h.4 ∙ ap (λ (xs : List TaskStep). xs ++ h.1) one.is))
    (one.named, are_numbered numbering steps h.1 h.3)

-- numbers name one plan
pub one_plan : (numbering : Numbering) (numbers : List TaskStep) (plan other : List PlanStep) → AreNamed numbering numbers plan → AreNamed numbering numbers other → plan ≡ other
one_plan numbering [] [] [] h k = refl
one_plan numbering [] (p ∷ ps) other h k = absurd h
one_plan numbering [] [] (q ∷ qs) h k = absurd k
one_plan numbering (n ∷ ns) [] other h k = absurd h
one_plan numbering (n ∷ ns) (p ∷ ps) [] h k = absurd k
one_plan numbering (n ∷ ns) (p ∷ ps) (q ∷ qs) h k = λ j. same_Some p q (sym h.0 ∙ k.0) j ∷ one_plan numbering ns ps qs h.1 k.1 j

-- two numbers of one step, both of the step's agent, are one
same_number : (numbering : Numbering) (step : PlanStep) (numbers : List TaskStep) (one : IsNumberOf numbering step numbers) (n : TaskStep)
    → IsNamed numbering n step → n.agent ≡ step.agent → one.number ≡ n
same_number numbering step numbers one n named agent =
    let at : slice_get (steps_of numbering step.agent) n.action ≡ Some step = subst (λ a. slice_get (steps_of numbering a) n.action ≡ Some step) agent named in
    let there : slice_get (steps_of numbering step.agent) one.number.action ≡ Some step =
    subst (λ a. slice_get (steps_of numbering a) one.number.action ≡ Some step) one.agent one.named in
    let actions = one_place (steps_of numbering step.agent) one.number.action n.action step one.once there at in
    let agents : one.number.agent ≡ n.agent = one.agent ∙ sym agent in
    λ i. record { agent = agents i; action = actions i }

-- a plan has one list of numbers of its own agents
pub one_list : (numbering : Numbering) (plan : List PlanStep) (found numbers : List TaskStep) → StandsForAll (IsNumberOf numbering) plan found
    → AreNamed numbering numbers plan → map (λ (n : TaskStep). n.agent) numbers ≡ map (λ (step : PlanStep). step.agent) plan → found ≡ numbers
one_list numbering [] found [] h names agents = h
one_list numbering [] found (n ∷ ns) h names agents = absurd names
one_list numbering (step ∷ steps) found [] h names agents = absurd names
one_list numbering (step ∷ steps) found (n ∷ ns) h names agents =
    let one = h.2 in
    let agent : n.agent ≡ step.agent = cc in
    let others : map (λ (m : TaskStep). m.agent) ns ≡ map (λ (s : PlanStep). s.agent) steps = cc in
    h.4 ∙ ap (λ (xs : List TaskStep). xs ++ h.1) one.is
    ∙ (λ i. same_number numbering step h.0 one n names.0 agent i ∷ one_list numbering steps h.1 ns h.3 names.1 others i)
