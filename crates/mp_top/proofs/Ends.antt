-- How a call ends for a request, and which statuses that can have.
use Rattle.std.proofs.Common.{◌≡◌, ◌⊎◌, inl, inr, ℕ, Bool, true, false, List, Option, Some, None, MatchOption, refl, sym, ap, subst, if◌then◌else◌}
use Rattle.mp_forms.specs.declared.factor.Factor.{Factor}
use Rattle.mp_files.specs.declared.refusal.Refusal.TheVariants as files
use Rattle.mp_grounder.specs.declared.refusal.GroundRefusal.TheVariants as sizes
use Rattle.mp_joint.specs.Fact.{Text}
use Rattle.mp_joint.specs.declared.plan.PlanStep.{PlanStep}
use Rattle.mp_messages.specs.declared.history.Event.{Event}
use Rattle.mp_optimality.specs.Told.{is_valid}
use Rattle.mp_outside.specs.Source.{Files as Held}
use Rattle.mp_plan_verdict.specs.Verdict.{verdict}
use Rattle.mp_solutions.specs.Right.{IsRight}
use Rattle.mp_solutions.specs.Solution.{IsFound, IsFoundOn, IsReplayed}
use Rattle.mp_solutions.specs.declared.solution.Solution.{Solution}
use Rattle.mp_solutions.proofs.ToEnd.{found_to_end}
use Rattle.mp_words.specs.Requests.{Searching, Wanted, request_of}
use Rattle.mp_words.specs.Requests.Wanted.{audits, certifies, checks, makes, replays, solves}
use Rattle.mp_world.specs.RoundRobin.{is_over}
use Rattle.mp_world.specs.Values.{Values}
use Rattle.mp_world.specs.World.{World}
use Rattle.mp_world.specs.declared.answer.Answer.{Answer}
use Rattle.mp_world.specs.declared.answer.Answer.TheVariants as answer
use Rattle.mp_top.specs.Asked.{values_of, without_heuristic}
use Rattle.mp_top.specs.Call.{Call}
use Rattle.mp_top.specs.Complete.{IsOutcomeStatus, IsSolved}
use Rattle.mp_top.specs.Keeps.{FailsToPrint, IsRefusal, Keeps, PrintsOutcome}
use Rattle.mp_top.specs.Outcome.{IsOutcome, Tells, answer_status, reported}
use Rattle.mp_top.specs.Refusal.{status_of}
use Rattle.mp_top.specs.declared.refusal.FirstRefusal.TheVariants as first
use Rattle.mp_top.specs.declared.refusal.Refusal.{Refusal}
use Rattle.mp_top.specs.declared.refusal.Refusal.TheVariants.{Files, First, Sizes}
use Rattle.mp_top.specs.declared.report.Report.{Report}
use Rattle.mp_top.specs.declared.status.Status.{Status}
use Rattle.mp_top.specs.declared.status.Status.TheVariants as status

of_some : {A : Type 0} (o : Option A) (x : A) (N : Type 0) (S : A → Type 0) → o ≡ Some x → MatchOption o N S → S x
of_some None x N S is m = absurd (cc)
of_some (Some y) x N S is m = let same : y ≡ x = cc in subst S same m

-- accepted words end by an outcome, by a fault of the output, or by a refusal
pub ends_for : (call : Call) (request : Wanted) → request_of call.words ≡ Some request → Keeps call → PrintsOutcome call request ⊎ FailsToPrint call request ⊎ IsRefusal call request
ends_for call request asked keeps =
    of_some (request_of call.words) request _ (λ w. PrintsOutcome call w ⊎ FailsToPrint call w ⊎ IsRefusal call w) asked keeps.ends

-- no refusal has the status of an answer without a decision
pub not_undecided : (r : Refusal) → status_of r ≡ status.Undecided → ⊥
not_undecided (Files (files.Read at)) is = absurd (cc)
not_undecided (Files (files.TooLarge at)) is = absurd (cc)
not_undecided (Files (files.Fault at kind place)) is = absurd (cc)
not_undecided (Files files.OutOfMemory) is = absurd (cc)
not_undecided (Sizes (sizes.TooManyTries agent)) is = absurd (cc)
not_undecided (Sizes (sizes.TooManyActions agent n)) is = absurd (cc)
not_undecided (Sizes (sizes.TooManyFacts agent n)) is = absurd (cc)
not_undecided (Sizes sizes.OutOfMemory) is = absurd (cc)
not_undecided (First place first.Read) is = absurd (cc)
not_undecided (First place first.TooLarge) is = absurd (cc)
not_undecided (First place (first.Line n)) is = absurd (cc)

-- an answer that is right has its status
right_status : (limit : ℕ) (team : List Factor) (last : World) (a : Answer) (plan : List PlanStep) → IsRight limit team last a plan → IsSolved (answer_status a)
right_status limit team last answer.Nothing plan h = absurd h
right_status limit team last (answer.Solved cost steps) plan h = inl refl
right_status limit team last answer.Unsolvable plan h = inr (inl refl)
right_status limit team last answer.Undecided plan h = inr (inr refl)

-- what was found has the status of an answer, or of a schedule that ended before there was one
module _ (value : Values) (limit : ℕ) (team : List Factor) (schedule : List Event) (s : Solution) (found : IsFound value limit team schedule s) where
  over_status : is_over found.last ≡ true → IsSolved (answer_status s.answer)
  over_status over = let right = found.right over in right_status limit team found.last s.answer right.plan right.right

  found_status : (over : Bool) → is_over found.last ≡ over → IsSolved (answer_status s.answer) ⊎ (answer_status s.answer ≡ status.Unfinished)
  found_status true is = inl (over_status is)
  found_status false is = inr (ap answer_status (found.goes_on is).0)

solved_status : (s : Searching) (one : Bool) (team : List Factor) (found : Solution) → IsFoundOn (values_of s.heuristic) s.limit team one found → IsSolved (answer_status found.answer)
solved_status s one team found is =
    let value = values_of s.heuristic in
    let ended = found_to_end value s.limit team found one is in
    over_status value s.limit team ended.schedule found ended.is_found ended.over

replayed_status : (s : Searching) (team : List Factor) (text : Text) (found : Solution) → IsReplayed (values_of s.heuristic) s.limit team text found → IsSolved (answer_status found.answer) ⊎ (answer_status found.answer ≡ status.Unfinished)
replayed_status s team text found is =
    found_status (values_of s.heuristic) s.limit team _ found is.in_turn.is_found (is_over is.in_turn.is_found.last) refl

valid_status : (valid : Bool) → ((if valid then status.Solved else status.No) ≡ status.Solved) ⊎ ((if valid then status.Solved else status.No) ≡ status.No)
valid_status true = inl refl
valid_status false = inr refl

-- what is printed of a team has a status of the request
module _ (team : List Factor) (report : Report) (ended : Status) (text : Text) (first_texts : List Text) where
  told_status : (request : Wanted) → Tells team report ended text request first_texts → IsOutcomeStatus request ended
  told_status (solves w) t =
      subst IsSolved (sym t.is_ended) (solved_status w.search w.work.one team (reported report t.outcome) t.found)
  told_status (replays w) t =
      subst (λ e. IsSolved e ⊎ (e ≡ status.Unfinished)) (sym t.is_ended)
      (replayed_status w.search team _ (reported report t.outcome) t.found)
  told_status (checks w) t =
      subst (λ e. (e ≡ status.Solved) ⊎ (e ≡ status.No)) (sym t.is_ended)
      (valid_status (is_valid (verdict team t.plan.plan) t.plan.cost))
  told_status (certifies w) t =
      subst IsSolved (sym t.is_ended)
      (solved_status (without_heuristic w.limit) true team (reported report t.outcome) t.certified.solution)
  told_status (audits w) t =
      subst (λ e. (e ≡ status.Solved) ⊎ (e ≡ status.No)) (sym t.is_ended) (valid_status t.found.optimal)
  told_status (makes w) t =
      subst IsSolved (sym t.is_ended) (solved_status w.search w.work.one team (reported report t.outcome) t.found)

pub outcome_status : (held : Option Held) (request : Wanted) (report : Report) (ended : Status) (text : Text) → IsOutcome held request report ended text → IsOutcomeStatus request ended
outcome_status held request report ended text o = told_status o.team report ended text o.first request o.told
