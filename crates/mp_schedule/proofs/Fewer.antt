-- Where an agent takes a message of another one, fewer are under way between them.
use Rattle.std.proofs.Common.{◌≡◌, ◌≢◌, ℕ, ◌<◌, Bool, true, false, List, [], ◌∷◌, ◌++◌, length, drop, Some}
use Rattle.std.proofs.Common.{refl, ap, ◌∙◌, append-nil, arith, length-drop}
use Rattle.std.specs.Prelude.{◌==◌, if◌then◌else◌, not}
use Rattle.std.proofs.lemmas.Bool.{eqb-true}
use Rattle.mp_task.specs.AgentTask.{AgentTask}
use Rattle.mp_messages.specs.declared.history.Event.TheVariants.{Take}
use Rattle.mp_world.specs.Events.{after_event, sent_in, without_taken}
use Rattle.mp_world.specs.Steps.{sent_to}
use Rattle.mp_world.specs.Values.{Values}
use Rattle.mp_world.specs.World.{AreNumbered, IsTeamWorld, World, under_way}
use Rattle.mp_world.proofs.Agents.{sender_of}
use Rattle.mp_world.proofs.Mail.{agent_of_team, under_way-same}
use Rattle.mp_world.proofs.Stepping.{event_is_step, team_lists}

not_empty : (xs : List (List ℕ)) → not (length xs == 0) ≡ true → 0 < length xs
not_empty [] test = absurd (let impossible : ⊥ = cc in impossible)
not_empty (x ∷ xs) test = omega arith

pub fewer : (value : Values) (tasks : List AgentTask) → AreNumbered tasks
    → (w : World) → IsTeamWorld tasks w → (by from : ℕ) (next : World)
    → after_event value w (Take by from) ≡ Some next
    → length (under_way next from by) < length (under_way w from by)
fewer value tasks numbered w team by from next leads =
    let lists = team_lists tasks w team in
    let is = event_is_step value w lists (Take by from) next leads in
    let sender = sender_of tasks numbered w team by from is.agent is.there is.may in
    let taker = agent_of_team w by is.agent is.there in
    let mail = is.mail from by sender.0 taker in
    let taken : under_way (without_taken w (Take by from)) from by ≡ drop 1 (under_way w from by) =
    under_way-same w lists from by (drop 1 (under_way w from by)) sender.0 taker in
    let whole : under_way next from by ≡ drop 1 (under_way w from by) =
    mail ∙ ap (λ ms. under_way (without_taken w (Take by from)) from by ++ ms) (nothing
    (from == by) refl sender.1 (sent_to by (sent_in is.step)))
    ∙ append-nil (under_way (without_taken w (Take by from)) from by) ∙ taken in
    let full : 0 < length (under_way w from by) = not_empty (under_way w from by) is.message in
    let short : length (under_way next from by) ≡ length (drop 1 (under_way w from by)) = ap length whole in
    omega (arith, length-drop 1 (under_way w from by))
  where
    nothing : (b : Bool) → (from == by) ≡ b → from ≢ by → (ms : List (List ℕ)) → (if b then ms else []) ≡ []
    nothing true is apart ms = absurd (apart (eqb-true from by is))
    nothing false is apart ms = refl
