-- From a decision on a team to what the texts of a request lead to.
use Rattle.std.proofs.Common.{◌≡◌, ℕ, Bool, List, [], ◌∷◌, Option, Result, Ok, Err, IfOk, IfErr, sym, subst, ap, ◌∙◌}
use Rattle.mp_forms.specs.declared.factor.Factor.{Factor}
use Rattle.mp_joint.specs.Fact.{Text}
use Rattle.mp_files.specs.Cause.{Rests as FilesRest, SeenSource, seen_source}
use Rattle.mp_files.specs.Team.{IsReadTeam, ReadsMade, Two}
use Rattle.mp_files.specs.declared.refusal.Refusal.{Refusal as FilesRefusal}
use Rattle.mp_files.specs.declared.refusal.Refusal.TheVariants as files
use Rattle.mp_grounder.specs.declared.refusal.GroundRefusal.{GroundRefusal}
use Rattle.mp_grounder.specs.declared.refusal.GroundRefusal.TheVariants.{TooManyTries, TooManyActions, TooManyFacts, OutOfMemory}
use Rattle.mp_maker.specs.Delivery.{delivery}
use Rattle.mp_optimality.specs.Audits.{IsRefusedAudit}
use Rattle.mp_optimality.specs.Certified.{IsCertified}
use Rattle.mp_optimality.specs.declared.certifying.Certified.{Certified}
use Rattle.mp_optimality.specs.declared.refusal.AuditRefusal.{AuditRefusal}
use Rattle.mp_optimality.specs.declared.refusal.AuditRefusal.TheVariants as audit
use Rattle.mp_outside.specs.Acts.{FileAsked}
use Rattle.mp_outside.specs.Source.{Files as Held}
use Rattle.mp_solutions.specs.Solution.{IsFoundOn}
use Rattle.mp_solutions.specs.declared.solution.Solution.{Solution}
use Rattle.mp_solve.specs.Refused.{AreWithin}
use Rattle.mp_solve.specs.declared.refusal.ReplayRefusal.{ReplayRefusal}
use Rattle.mp_solve.specs.declared.refusal.ReplayRefusal.TheVariants as replay
use Rattle.mp_top.specs.Asked.{TeamRequest, Work, agents_of, longest_certificate, longest_plan, longest_schedule, values_of}
use Rattle.mp_top.specs.Asked.Texts.{in_files}
use Rattle.mp_top.specs.Asked.Work.{audited, checked, replayed, searched}
use Rattle.mp_top.specs.Cause.{Rests}
use Rattle.mp_top.specs.Decided.{AuditsFor, CertifiesFor, ChecksFor, Decides, IsGroundRefused, IsRefusedTeam, IsTold, IsToldByCertificate, MakesFor, ReplaysBy, SolvesFor, refusal_of_audit, report_of, told}
use Rattle.mp_top.specs.First.{IsSizeRefused}
use Rattle.mp_top.specs.FirstText.{AreTextsOf, IsTextOf}
use Rattle.mp_top.specs.Outcome.{answer_status, printed_text, reported, told_made}
use Rattle.mp_top.specs.Team.{IsTeam}
use Rattle.mp_top.specs.declared.decision.Decision.{Decision}
use Rattle.mp_top.specs.declared.refusal.Refusal.{Refusal}
use Rattle.mp_top.specs.declared.refusal.Refusal.TheVariants.{Files, First, Sizes}
use Rattle.mp_top.specs.declared.refusal.FirstRefusal.TheVariants as first
use Rattle.mp_top.specs.declared.status.Status.TheVariants as status
use Rattle.mp_words.specs.Requests.{Searching, ToAudit, ToCertify, ToCheck, ToMake, ToReplay, ToSolve}
use Rattle.mp_words.specs.Requests.Wanted.{audits, certifies, checks, makes, replays, solves}

-- through a result
pub weaker : {X Y : Type 0} (r : Result X Y) (P Q : X → Type 0) → ((x : X) → P x → Q x) → IfOk r P → IfOk r Q
weaker (Ok x) P Q h p = h x p
weaker (Err e) P Q h p = tt

pub weaker_err : {X Y : Type 0} (r : Result X Y) (P Q : Y → Type 0) → ((y : Y) → P y → Q y) → IfErr r P → IfErr r Q
weaker_err (Ok x) P Q h p = tt
weaker_err (Err e) P Q h p = h e p

pub always_ok : {X Y : Type 0} (r : Result X Y) (P : Type 0) → P → IfOk r (λ _. P)
always_ok (Ok x) P p = p
always_ok (Err e) P p = tt

pub always_err : {X Y : Type 0} (r : Result X Y) (P : Y → Type 0) → ((y : Y) → P y) → IfErr r P
always_err (Ok x) P p = tt
always_err (Err e) P p = p e

-- what is seen of a source is the same from a later moment on, before which nothing was seen to change
pub seen_later : {S : Type 0} (held : S → Option Held) (faults : S → ℕ) (at : S → Option Text) (old mid new : S) → held mid ≡ held old → faults mid ≡ faults old → seen_source held faults at mid new ≡ seen_source held faults at old new
seen_later held faults at old mid new h f = λ i. record { held = h i; before = f i; now = faults new; fault_at = at new }

-- ---- What a solution is told as.

module _ (s : Solution) (text : Text) (d : Decision) (is : IsTold s text d) where
  same_solution : reported (report_of d) s.text ≡ s
  same_solution = λ i. record { views = is.views i; log = is.log i; answer = is.answer i; text = s.text }

  same_end : d.status ≡ answer_status d.answer
  same_end = is.ended ∙ ap answer_status (sym is.answer)

pub solves_for : (s : Searching) (one trace : Bool) (team : List Factor) (found : Solution) (d : Decision) → AreWithin team → IsFoundOn (values_of s.heuristic) s.limit team one found → IsTold found (printed_text trace found.log found.answer found.text) d → SolvesFor s one trace team d
solves_for s one trace team found d within solved is = record {
  outcome = found.text;
  solved = record { within = within; found = subst (IsFoundOn (values_of s.heuristic) s.limit team one) (sym (same_solution found _ d is)) solved };
  printed = is.printed ∙ (λ i. printed_text trace (sym is.log i) (sym is.answer i) found.text);
  ended = same_end found _ d is;
}

pub makes_for : (s : Searching) (one show : Bool) (texts : List Text) (size : ℕ) (team : List Factor) (found : Solution) (d : Decision) → AreWithin team → IsFoundOn (values_of s.heuristic) s.limit team one found → IsTold found (told_made show texts size found.answer) d → MakesFor s one show texts size team d
makes_for s one show texts size team found d within solved is = record {
  outcome = found.text;
  solved = record { within = within; found = subst (IsFoundOn (values_of s.heuristic) s.limit team one) (sym (same_solution found _ d is)) solved };
  printed = is.printed ∙ ap (told_made show texts size) (sym is.answer);
  ended = same_end found _ d is;
}

-- ---- What a refusal rests on.

-- a refusal of the files of the agents, where the first files were fetched
pub files_rest : (source : SeenSource) (first : List FileAsked) (names : List Two) (work : Work) (texts : List Text) (r : FilesRefusal) → AreTextsOf source.held first texts → FilesRest source names r → Rests source (record { first = first; texts = in_files names; work = work }) (Files r)
files_rest source first names work texts (files.Read at) are h = record { first_texts = (texts, are); cannot = h }
files_rest source first names work texts (files.TooLarge at) are h = record { first_texts = (texts, are); first = h }
files_rest source first names work texts (files.Fault at kind place) are h = record { first_texts = (texts, are); first = h }
files_rest source first names work texts files.OutOfMemory are h = tt

too_many_tries : (work : Work) (team : List Factor) (agent : ℕ) → IsGroundRefused work team (TooManyTries agent) → IsSizeRefused work team (TooManyTries agent)
too_many_tries (searched s) team agent h = h
too_many_tries (replayed s) team agent h = h
too_many_tries checked team agent h = h
too_many_tries audited team agent h = h

too_many_actions : (work : Work) (team : List Factor) (agent n : ℕ) → IsGroundRefused work team (TooManyActions agent n) → IsSizeRefused work team (TooManyActions agent n)
too_many_actions (searched s) team agent n h = h
too_many_actions (replayed s) team agent n h = h
too_many_actions checked team agent n h = h
too_many_actions audited team agent n h = h

too_many_facts : (work : Work) (team : List Factor) (agent n : ℕ) → IsGroundRefused work team (TooManyFacts agent n) → IsSizeRefused work team (TooManyFacts agent n)
too_many_facts (searched s) team agent n h = h
too_many_facts (replayed s) team agent n h = h
too_many_facts checked team agent n h = h
too_many_facts audited team agent n h = h

-- a team that the texts lead to, and one of its agents whose factor is not grounded
pub sizes_rest : (source : SeenSource) (request : TeamRequest) (texts : List Text) (team : List Factor) (r : GroundRefusal) → AreTextsOf source.held request.first texts → IsTeam source.held request.texts team → IsGroundRefused request.work team r → Rests source request (Sizes r)
sizes_rest source request texts team (TooManyTries agent) are is_team h =
    record { first_texts = (texts, are); team = team; is_team = is_team; refused = too_many_tries request.work team agent h }
sizes_rest source request texts team (TooManyActions agent n) are is_team h =
    record { first_texts = (texts, are); team = team; is_team = is_team; refused = too_many_actions request.work team agent n h }
sizes_rest source request texts team (TooManyFacts agent n) are is_team h =
    record { first_texts = (texts, are); team = team; is_team = is_team; refused = too_many_facts request.work team agent n h }
sizes_rest source request texts team OutOfMemory are is_team h = tt

-- a refusal of a team that the texts lead to, or of a first text
pub team_rests : (source : SeenSource) (request : TeamRequest) (texts : List Text) (team : List Factor) (r : Refusal) → AreTextsOf source.held request.first texts → IsTeam source.held request.texts team → IsRefusedTeam request.work team texts r → Rests source request r
team_rests source request texts team (Files r) are is_team h = subst (λ x. Rests source request (Files x)) (sym h) tt
team_rests source request texts team (Sizes r) are is_team h = sizes_rest source request texts team r are is_team h
team_rests source request texts team (First place first.Read) are is_team h = absurd h
team_rests source request texts team (First place first.TooLarge) are is_team h = absurd h
team_rests source request texts team (First place (first.Line n)) are is_team h =
    record { texts = texts; are_texts = are; team = team; is_team = is_team; refused = h }

pub refused_audit : (team : List Factor) (certificate plan : Text) (r : AuditRefusal) → IsRefusedAudit team certificate plan r → IsRefusedTeam audited team (certificate ∷ plan ∷ []) (refusal_of_audit r)
refused_audit team certificate plan (audit.Sizes r) h = h
refused_audit team certificate plan (audit.Certificate n) h = h
refused_audit team certificate plan (audit.Plan n) h = h

-- ---- What is decided about each request.

pub decided_solve : (held : Option Held) (w : ToSolve) (names : List Two) (team : List Factor) (d : Decision) → names ≡ agents_of w.names → IsReadTeam held names team → SolvesFor w.search w.work.one w.trace team d → Decides held (solves w) d
decided_solve held w names team d same read h = record {
  first = [];
  are_first = tt;
  team = team;
  is_team = subst (λ ns. IsReadTeam held ns team) same read;
  told = record { outcome = h.outcome; within = h.solved.within; found = h.solved.found; printed = h.printed; is_ended = h.ended };
}

pub decided_replay : (held : Option Held) (w : ToReplay) (names : List Two) (text : Text) (team : List Factor) (d : Decision) → names ≡ agents_of w.names → IsTextOf held (record { name = w.schedule; longest = longest_schedule }) text → IsReadTeam held names team → ReplaysBy w.search text team d → Decides held (replays w) d
decided_replay held w names text team d same is read h = record {
  first = text ∷ [];
  are_first = (is, tt);
  team = team;
  is_team = subst (λ ns. IsReadTeam held ns team) same read;
  told = record { outcome = h.outcome; within = h.replayed.within; found = h.replayed.found; printed = h.printed; is_ended = h.ended };
}

pub decided_check : (held : Option Held) (w : ToCheck) (names : List Two) (text : Text) (team : List Factor) (d : Decision) → names ≡ agents_of w.names → IsTextOf held (record { name = w.plan; longest = longest_plan }) text → IsReadTeam held names team → ChecksFor w.steps text team d → Decides held (checks w) d
decided_check held w names text team d same is read h = record {
  first = text ∷ [];
  are_first = (is, tt);
  team = team;
  is_team = subst (λ ns. IsReadTeam held ns team) same read;
  told = record { plan = h.plan; is_plan = h.is_plan; empty = h.is_told.empty; printed = h.is_told.printed; is_ended = h.is_told.ended };
}

pub decided_certify : (held : Option Held) (w : ToCertify) (names : List Two) (team : List Factor) (d : Decision) → names ≡ agents_of w.names → IsReadTeam held names team → CertifiesFor w.limit team d → Decides held (certifies w) d
decided_certify held w names team d same read h = record {
  first = [];
  are_first = tt;
  team = team;
  is_team = subst (λ ns. IsReadTeam held ns team) same read;
  told = record { outcome = h.outcome; within = h.within; certified = h.certified; is_ended = h.ended };
}

pub decided_audit : (held : Option Held) (w : ToAudit) (names : List Two) (certificate plan : Text) (team : List Factor) (d : Decision) → names ≡ agents_of w.names → IsTextOf held (record { name = w.certificate; longest = longest_certificate }) certificate → IsTextOf held (record { name = w.plan; longest = longest_plan }) plan → IsReadTeam held names team → AuditsFor certificate plan team d → Decides held (audits w) d
decided_audit held w names certificate plan team d same first second read h = record {
  first = certificate ∷ plan ∷ [];
  are_first = (first, (second, tt));
  team = team;
  is_team = subst (λ ns. IsReadTeam held ns team) same read;
  told = record { found = h.found; is_audited = h.is_audited; empty = h.is_told.empty; printed = h.is_told.printed; is_ended = h.is_told.ended };
}

-- what certifies an answer, told
pub certifies_for : (limit : ℕ) (team : List Factor) (c : Certified) (d : Decision) → AreWithin team → IsCertified limit team c.solution c.text → IsToldByCertificate c d → CertifiesFor limit team d
certifies_for limit team c d within certified is = record {
  outcome = c.solution.text;
  within = within;
  certified =
      subst (λ s. IsCertified limit team s (told d))
      (λ i. record { views = sym is.views i; log = sym is.log i; answer = sym is.answer i; text = c.solution.text })
      (subst (IsCertified limit team c.solution) (sym is.printed) certified);
  ended = is.ended ∙ ap answer_status (sym is.answer);
}

pub decided_make : (held : Option Held) (w : ToMake) (texts : List Text) (size : ℕ) (team : List Factor) (d : Decision) → texts ≡ delivery w.size w.number → size ≡ w.size → ReadsMade (agents_of texts) (Ok team) → MakesFor w.search w.work.one w.show texts size team d → Decides held (makes w) d
decided_make held w texts size team d same same_size reads h = record {
  first = [];
  are_first = tt;
  team = team;
  is_team = subst (λ ts. ReadsMade (agents_of ts) (Ok team)) same reads;
  told = record {
    outcome = h.outcome;
    within = h.solved.within;
    found = h.solved.found;
    printed = h.printed ∙ (λ i. told_made w.show (same i) (same_size i) d.answer);
    is_ended = h.ended;
  };
}
