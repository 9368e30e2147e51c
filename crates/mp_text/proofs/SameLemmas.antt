-- Logs of one schedule have the same texts.
use Rattle.std.proofs.Common.{◌≡◌, ◌≤◌, ℕ, List, [], ◌∷◌, ◌++◌, length, codes, refl, ap}
use Rattle.std.specs.Prelude.{All, Contains}
use Rattle.std.proofs.lemmas.List.Elements.{All-contains_itself, All-weaker}
use Rattle.mp_joint.specs.declared.plan.PlanStep.{PlanStep}
use Rattle.mp_messages.specs.declared.history.Entry.{Entry}
use Rattle.mp_messages.specs.History.{agent_of, part, schedule}
use Rattle.mp_trail.specs.declared.steps.Timed.{Timed}
use Rattle.mp_world.specs.declared.answer.Answer.{Answer}
use Rattle.mp_world.specs.declared.answer.Answer.TheVariants.{Nothing, Solved, Unsolvable, Undecided}
use Rattle.mp_world.specs.Logs.{IsLog}
use Rattle.mp_world.specs.Team.{Team}
use Rattle.mp_world.specs.World.{AreNumbered}
use Rattle.mp_logs.proofs.Made.{log_owned}
use Rattle.mp_logs.proofs.OneSchedule.{logs_alike}
use Rattle.mp_text.specs.Alike.{TellTheSame}
use Rattle.mp_text.specs.Lines.{text_of_lines}
use Rattle.mp_text.specs.Outcome.{agent_lines, count_line, found_lines, labelled, message_bytes, messages}
use Rattle.mp_text.proofs.CountLemmas.{same_bytes, same_messages}
use Rattle.mp_text.proofs.OwnLemmas.{log_own}
use Rattle.mp_text.proofs.ToldLemmas.{same_lines}

-- the lines of an outcome tell of the log no more than its counts
lines_are : (answer : Answer) (shares : List (List Timed)) (names : List (List PlanStep)) (log other : List Entry)
    → count_line other ≡ count_line log → found_lines answer shares names other ≡ found_lines answer shares names log
lines_are Nothing shares names log other same = refl
lines_are (Solved cost steps) shares names log other same =
    ap (λ line. labelled (codes "cost ") cost ∷ labelled (codes "length ") steps ∷ agent_lines names 0 shares ++ line ∷ [])
    same
lines_are Unsolvable shares names log other same = ap (λ line. codes "unsolvable" ∷ line ∷ []) same
lines_are Undecided shares names log other same = ap (λ line. codes "undecided" ∷ line ∷ []) same

module _ (team : Team) (numbered : AreNumbered team.tasks) (log other : List Entry) (is : IsLog team log)
    (also : IsLog team other) (same : schedule other ≡ schedule log) where
  open team use {tasks}

  parts : (agent : ℕ) → part other agent ≡ part log agent
  parts = (logs_alike team numbered log other is also same).parts

  low : (l : List Entry) → IsLog team l → All (λ e. agent_of e ≤ length tasks) l
  low l one =
      All-weaker (Contains l) (λ e. agent_of e ≤ length tasks)
      (λ e here. (log_owned team numbered l one e here).1) l (All-contains_itself l)

  many : length (messages other) ≡ length (messages log)
  many = same_messages (length tasks) log other (low log is) (low other also) parts

  large : message_bytes other ≡ message_bytes log
  large = same_bytes (length tasks) log other (low log is) (low other also) parts

  counts : count_line other ≡ count_line log
  counts = λ i.
      labelled (codes "events ") (length (same i))
      ++ (labelled (codes " messages ") (many i) ++ labelled (codes " bytes ") (large i))

  pub tell_the_same : TellTheSame log other
  tell_the_same = record {
    traces = ap text_of_lines
        (same_lines log other (log_own team log is) (log_own team other also) same parts);
    events = ap length same;
    messages = many;
    bytes = large;
    outcomes = λ found names. ap text_of_lines (lines_are found.answer found.shares names log other counts);
  }
