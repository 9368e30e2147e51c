-- What two searches have in common that did the events of one schedule.
use Rattle.std.specs.Prelude.{◌≡◌}
use Rattle.mp_logs.specs.Alike.{AreAlike}
use Rattle.mp_solutions.specs.declared.solution.Solution.{Solution}
use Rattle.mp_text.specs.Alike.{TellTheSame}

-- They have one schedule, for each two agents the same messages in the same order, one trace and the same counts, and one
-- answer.
pub record AreSameSearches (found its : Solution) : Type 0 where
  pub alike : AreAlike found.log its.log
  pub texts : TellTheSame found.log its.log
  pub answer : its.answer ≡ found.answer

-- The same was found again for the same files: one text, too, and the same views.
pub record IsFoundAgain (found again : Solution) : Type 0 where
  pub search : AreSameSearches found again
  pub text : again.text ≡ found.text
  pub views : again.views ≡ found.views
