-- The notes of agents grow by the steps that a walk back goes over.
use Rattle.mp_world.proofs.Basics.{◌≡◌, ◌≢◌, ℕ, ◌+◌, ◌<◌, Bool, true, false, ◌&&◌, List, [], ◌∷◌, ◌++◌, length, All, refl, sym, ap, ◌∙◌, append_assoc, append-nil, arith, ◌==◌, if◌then◌else◌, nat_lt, and_parts, eq-eqb, eqb-true, false_from_ne_true, lt-ltb, ltb-true}
use Rattle.mp_world.proofs.Basics.{length-append, All-head, All-tail}
use Rattle.mp_trail.specs.Share.{fits}
use Rattle.mp_world.specs.AgentWords.{TaskStep, Noted}
use Rattle.mp_team_states.specs.Walks.{noted_of}
use Rattle.mp_team_verdicts.specs.Ending.{notes}

-- a step of the agent, and one of another agent
own_step : (agent : ℕ) (step : TaskStep) (later : List TaskStep) → step.agent ≡ agent
    → notes agent (step ∷ later) ≡ notes agent later ++ record { action = step.action; back = length later } ∷ []
unfolding notes
own_step agent step later same =
    ap (λ (b : Bool). notes agent later ++ (if b then record { action = step.action; back = length later } ∷ [] else [])) (eq-eqb step.agent agent same)

other_step : (agent : ℕ) (step : TaskStep) (later : List TaskStep) → step.agent ≢ agent → notes agent (step ∷ later) ≡ notes agent later
unfolding notes
other_step agent step later other =
    ap (λ (b : Bool). notes agent later ++ (if b then record { action = step.action; back = length later } ∷ [] else []))
    (false_from_ne_true (step.agent == agent) (λ is. other (eqb-true step.agent agent is)))
    ∙ append-nil (notes agent later)

-- the agent's own steps are noted as the walk notes them
pub notes_own : (agent : ℕ) (own later : List TaskStep) → All (λ step. step.agent ≡ agent) own
    → notes agent (own ++ later) ≡ notes agent later ++ noted_of (length later) own
unfolding noted_of
notes_own agent [] later all = sym (append-nil (notes agent later))
notes_own agent (step ∷ own) later all =
    let long : length (own ++ later) ≡ length later + length own = let l = length-append own later in omega arith in
    own_step agent step (own ++ later) (All-head (λ (step : TaskStep). step.agent ≡ agent) step own all)
    ∙ (λ j.
    notes_own agent own later (All-tail (λ (step : TaskStep). step.agent ≡ agent) step own all) j
    ++ record { action = step.action; back = long j } ∷ [])
    ∙ append_assoc (notes agent later) (noted_of (length later) own) (record { action = step.action; back = length later + length own } ∷ [])

-- another agent notes none of them
pub notes_other : (agent other : ℕ) (own later : List TaskStep) → All (λ step. step.agent ≡ agent) own → other ≢ agent → notes other (own ++ later) ≡ notes other later
notes_other agent other [] later all apart = refl
notes_other agent other (step ∷ own) later all apart =
    let mine = All-head (λ (step : TaskStep). step.agent ≡ agent) step own all in
    other_step other step (own ++ later) (λ same. apart (sym same ∙ mine))
    ∙ notes_other agent other own later (All-tail (λ (step : TaskStep). step.agent ≡ agent) step own all) apart

pub notes_none : (agent : ℕ) → notes agent [] ≡ []
unfolding notes
notes_none agent = refl

-- ---- all have fewer steps behind them than there are

fits_append : (n : ℕ) (xs ys : List Noted) → fits n xs ≡ true → fits n ys ≡ true → fits n (xs ++ ys) ≡ true
fits_append n [] ys first second = second
fits_append n (x ∷ xs) ys first second =
    let parts = and_parts (nat_lt x.back n) (fits n xs) first in
    λ j. parts.0 j && fits_append n xs ys parts.1 second j

fits_more : (m n : ℕ) (xs : List Noted) → m < n → fits m xs ≡ true → fits n xs ≡ true
fits_more m n [] less all = all
fits_more m n (x ∷ xs) less all =
    let parts = and_parts (nat_lt x.back m) (fits m xs) all in
    let below : x.back < m = ltb-true x.back m parts.0 in
    λ j. lt-ltb x.back n (omega arith) j && fits_more m n xs less parts.1 j

pub notes_fit : (agent : ℕ) (later : List TaskStep) → fits (length later) (notes agent later) ≡ true
unfolding notes
notes_fit agent [] = refl
notes_fit agent (step ∷ later) =
    fits_append (length (step ∷ later)) (notes agent later) (if step.agent == agent then record { action = step.action; back = length later } ∷ [] else [])
    (fits_more (length later) (length (step ∷ later)) (notes agent later) (omega arith) (notes_fit agent later)) (by (step.agent == agent))
  where
    by : (b : Bool) → fits (length (step ∷ later)) (if b then record { action = step.action; back = length later } ∷ [] else []) ≡ true
    by true = λ j. lt-ltb (length later) (length (step ∷ later)) (omega arith) j && true
    by false = refl
