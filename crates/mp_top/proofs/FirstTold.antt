-- The first refusal comes.
use Rattle.std.proofs.Common.{◌≡◌, ◌⊎◌, inl, inr, List, Some, ap, subst, ◌∙◌}
use Rattle.mp_forms.specs.declared.factor.Factor.{Factor}
use Rattle.mp_files.specs.declared.refusal.Refusal.TheVariants as files
use Rattle.mp_grounder.specs.declared.refusal.GroundRefusal.TheVariants as sizes
use Rattle.mp_joint.specs.Fact.{Text}
use Rattle.mp_outside.specs.Source.{Files as Held}
use Rattle.mp_words.specs.Requests.{Wanted, request_of}
use Rattle.mp_words.specs.Requests.Wanted.{audits, certifies, checks, makes, replays, solves}
use Rattle.mp_top.specs.Asked.{TeamRequest, team_request, texts_of}
use Rattle.mp_top.specs.Call.{Call, Says}
use Rattle.mp_top.specs.Cause.{Rests}
use Rattle.mp_top.specs.Complete.{TellsFirst}
use Rattle.mp_top.specs.First.{ComesFirst, IsAccepted, IsFirst}
use Rattle.mp_top.specs.FirstText.{AreTextsOf}
use Rattle.mp_top.specs.Keeps.{FailsToPrint, IsRefusal, Keeps, PrintsOutcome, line_for}
use Rattle.mp_top.specs.Outcome.{IsOutcome, Tells, reported}
use Rattle.mp_top.specs.Refusal.{status_of}
use Rattle.mp_top.specs.Team.{IsTeam}
use Rattle.mp_top.specs.declared.refusal.FirstRefusal.TheVariants as first
use Rattle.mp_top.specs.declared.refusal.Refusal.{Refusal}
use Rattle.mp_top.specs.declared.refusal.Refusal.TheVariants.{Files, First, Sizes}
use Rattle.mp_top.specs.declared.report.Report.{Report}
use Rattle.mp_top.specs.declared.status.Status.{Status}
use Rattle.mp_top.proofs.Checked.{team_read}
use Rattle.mp_top.proofs.Ends.{ends_for}

-- where the texts lead to a team of which nothing is refused, nor of the texts of the first files, no refusal is the first one
abbrev pub NoneFirst : Type 0
NoneFirst =
    (files : Held) (request : TeamRequest) (texts : List Text) (team : List Factor) (r : Refusal)
    → AreTextsOf (Some files) request.first texts → IsTeam (Some files) request.texts team
    → IsAccepted request.work team texts
    → IsFirst files request r → ⊥

-- and at most one is
abbrev pub OneFirst : Type 0
OneFirst = (files : Held) (request : TeamRequest) (r s : Refusal) → IsFirst files request r → IsFirst files request s → r ≡ s

-- nothing is refused of what is printed of a team
module _ (team : List Factor) (report : Report) (ended : Status) (text : Text) (texts : List Text) where
  accepted : (request : Wanted) → Tells team report ended text request texts → IsAccepted (team_request request).work team texts
  accepted (solves w) t = t.within
  accepted (replays w) t = (t.within, (reported report t.outcome, t.found))
  accepted (checks w) t = (t.plan, t.is_plan)
  accepted (certifies w) t = t.within
  accepted (audits w) t = (t.is_audited.accepted.fits.team_has.within, t.is_audited.accepted)
  accepted (makes w) t = t.within

module _ (one : OneFirst) (none : NoneFirst) (call : Call) (request : Wanted) (held : Held) (tells : call.source.held ≡ Some held)
    (s : Refusal) (comes : IsFirst held (team_request request) s) where
  no_outcome : (ended : Status) (text : Text) → IsOutcome call.source.held request call.report ended text → ⊥
  no_outcome ended text outcome =
      let o : IsOutcome (Some held) request call.report ended text =
      subst (λ h. IsOutcome h request call.report ended text) tells outcome in
      none held (team_request request) o.first o.team s o.are_first
      (team_read (Some held) (texts_of request) o.team o.is_team)
      (accepted o.team call.report ended text o.first request o.told) comes

  -- the refusal that comes is the first one
  same_refusal : (r : Refusal) → ComesFirst call.source.held (team_request request) r → call.status ≡ status_of r → Says call.err (line_for request r) → TellsFirst call request s
  same_refusal r first_so is says =
      let same : r ≡ s =
      one held (team_request request) r s (subst (λ h. ComesFirst h (team_request request) r) tells first_so) comes in
      inr (inr (is ∙ ap status_of same, subst (λ x. Says call.err (line_for request x)) same says))

  by_refusal : (r : Refusal) → Rests call.source (team_request request) r → call.status ≡ status_of r → Says call.err (line_for request r) → TellsFirst call request s
  by_refusal (Files (files.Read at)) h is says = inl is
  by_refusal (Files (files.TooLarge at)) h is says = same_refusal (Files (files.TooLarge at)) h is says
  by_refusal (Files (files.Fault at kind place)) h is says = same_refusal (Files (files.Fault at kind place)) h is says
  by_refusal (Files files.OutOfMemory) h is says = inr (inl is)
  by_refusal (Sizes (sizes.TooManyTries agent)) h is says = same_refusal (Sizes (sizes.TooManyTries agent)) h is says
  by_refusal (Sizes (sizes.TooManyActions agent n)) h is says = same_refusal (Sizes (sizes.TooManyActions agent n)) h is says
  by_refusal (Sizes (sizes.TooManyFacts agent n)) h is says = same_refusal (Sizes (sizes.TooManyFacts agent n)) h is says
  by_refusal (Sizes sizes.OutOfMemory) h is says = inr (inl is)
  by_refusal (First place first.Read) h is says = inl is
  by_refusal (First place first.TooLarge) h is says = same_refusal (First place first.TooLarge) h is says
  by_refusal (First place (first.Line n)) h is says = same_refusal (First place (first.Line n)) h is says

  by_end : PrintsOutcome call request ⊎ FailsToPrint call request ⊎ IsRefusal call request → TellsFirst call request s
  by_end (inl (text, outcome, whole, same, says)) = absurd (no_outcome call.status text outcome)
  by_end (inr (inl (text, ended, outcome, begun, risen, is, says))) = absurd (no_outcome ended text outcome)
  by_end (inr (inr (_, (r, rests, is, says)))) = by_refusal r rests is says

pub first_told : OneFirst → NoneFirst → (call : Call) (held : Held) (request : Wanted) (r : Refusal) → Keeps call → call.source.held ≡ Some held → request_of call.words ≡ Some request → IsFirst held (team_request request) r → TellsFirst call request r
first_told one none call held request r keeps tells asked comes =
    by_end one none call request held tells r comes (ends_for call request asked keeps)
