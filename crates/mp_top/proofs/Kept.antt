-- What a call keeps, by how it ends.
use Rattle.std.proofs.Common.{◌≡◌, ◌<◌, inl, inr, List, Option, Some, None, Result, Ok, Err, IfOk, IfErr, MatchOption, sym, subst, ◌∙◌, arith, []}
use Rattle.mp_files.specs.Team.{Two}
use Rattle.mp_files.specs.declared.refusal.Refusal.TheVariants as files
use Rattle.mp_joint.specs.Fact.{Text}
use Rattle.mp_words.specs.Requests.{Wanted, request_of}
use Rattle.mp_top.specs.Asked.{files_asked, team_request}
use Rattle.mp_top.specs.Call.{Call, Says}
use Rattle.mp_top.specs.Cause.{Rests}
use Rattle.mp_top.specs.Decided.{Decides, report_of, told}
use Rattle.mp_top.specs.Keeps.{Keeps, PrintsNothing, ReadsInTurn, line_for}
use Rattle.mp_top.specs.Outcome.{IsOutcome}
use Rattle.mp_top.specs.Printed.{Publishes, TellsRefusal, Writes}
use Rattle.mp_top.specs.Refusal.{line_of, memory_line, status_of, words_line}
use Rattle.mp_top.specs.declared.decision.Decision.{Decision}
use Rattle.mp_top.specs.declared.refusal.Refusal.{Refusal}
use Rattle.mp_top.specs.declared.refusal.Refusal.TheVariants.{Files}
use Rattle.mp_top.specs.declared.status.Status.TheVariants as status
use Rattle.mp_top.proofs.Acts.{nothing_read}

-- what holds by cases, in each of them
at_none : {A : Type 0} (o : Option A) (N : Type 0) (S : A → Type 0) → o ≡ None → N → MatchOption o N S
at_none None N S is n = n
at_none (Some x) N S is n = absurd (cc)

at_some : {A : Type 0} (o : Option A) (x : A) (N : Type 0) (S : A → Type 0) → o ≡ Some x → S x → MatchOption o N S
at_some None x N S is s = absurd (cc)
at_some (Some y) x N S is s = let same : x ≡ y = cc in subst S same s

in_both : {A : Type 0} (o : Option A) (N : Type 0) (S : A → Type 0) → N → ((x : A) → S x) → MatchOption o N S
in_both None N S n f = n
in_both (Some x) N S n f = f x

-- what holds by cases, in the first of them
pub if_matched : {A : Type 0} (o : Option A) (N : Type 0) (S : A → Type 0) → o ≡ None → MatchOption o N S → N
if_matched None N S is h = h
if_matched (Some x) N S is h = absurd (cc)

-- words that are not accepted
pub kept_words : (call : Call) → request_of call.words ≡ None → call.status ≡ status.Words → call.source.now ≡ call.source.before → call.acts.new ≡ call.acts.old → PrintsNothing call → Says call.err words_line → Keeps call
kept_words call none is no_fault no_act nothing says = record {
  ends = at_none (request_of call.words) _ _ none (nothing, inl (is, says));
  read_faults = λ risen. absurd (omega arith);
  files = at_none (request_of call.words) _ _ none (nothing_read [] call.acts.old call.acts.new no_act);
}

-- memory ran out before a file was looked for
pub kept_memory : (call : Call) → call.status ≡ status.Memory → call.source.now ≡ call.source.before → call.acts.new ≡ call.acts.old → PrintsNothing call → Says call.err memory_line → Keeps call
kept_memory call is no_fault no_act nothing says = record {
  ends = in_both (request_of call.words) _ _ (nothing, inr (is, says))
      (λ request. inr (inr (nothing, (Files files.OutOfMemory, tt, is, says))));
  read_faults = λ risen. absurd (omega arith);
  files = in_both (request_of call.words) _ _ (nothing_read [] call.acts.old call.acts.new no_act)
      (λ request. nothing_read (files_asked (team_request request)) call.acts.old call.acts.new no_act);
}

-- a refusal
pub kept_refusal : (call : Call) (request : Wanted) (r : Refusal) → request_of call.words ≡ Some request → Rests call.source (team_request request) r → (call.source.before < call.source.now → status_of r ≡ status.Read) → ReadsInTurn call (files_asked (team_request request)) → call.status ≡ status_of r → PrintsNothing call → Says call.err (line_for request r) → Keeps call
kept_refusal call request r asks rests fault reads is nothing says = record {
  ends = at_some (request_of call.words) request _ _ asks (inr (inr (nothing, (r, rests, is, says))));
  read_faults = λ risen. is ∙ fault risen;
  files = at_some (request_of call.words) request _ _ asks reads;
}

-- an outcome, written whole or cut off
module _ (call : Call) (request : Wanted) (d : Decision) (asks : request_of call.words ≡ Some request) (decided : Decides call.source.held request d) (kept : call.report ≡ report_of d) (no_fault : call.source.now ≡ call.source.before)
    (reads : ReadsInTurn call (files_asked (team_request request))) where
  is_outcome : IsOutcome call.source.held request call.report d.status (told d)
  is_outcome = subst (λ report. IsOutcome call.source.held request report d.status (told d)) (sym kept) decided

  pub kept_outcome : Writes call.out call.err d call.status → Keeps call
  kept_outcome (inl (is, whole, same, says)) = record {
    ends =
        at_some (request_of call.words) request _ _ asks
        (inl (told d, subst (λ s. IsOutcome call.source.held request call.report s (told d)) (sym is) is_outcome, whole, same, says));
    read_faults = λ risen. absurd (omega arith);
    files = at_some (request_of call.words) request _ _ asks reads;
  }
  kept_outcome (inr (is, begun, risen, says)) = record {
    ends = at_some (request_of call.words) request _ _ asks (inr (inl (told d, d.status, is_outcome, begun, risen, is, says)));
    read_faults = λ faults. absurd (omega arith);
    files = at_some (request_of call.words) request _ _ asks reads;
  }

-- what a call keeps that ends with what was decided
pub kept : (call : Call) (request : Wanted) (decided : Result Decision Refusal) (names : List Text) (agents : List Two) → request_of call.words ≡ Some request → ((r : Refusal) → line_of names agents r ≡ line_for request r) → IfOk decided (Decides call.source.held request) → IfErr decided (Rests call.source (team_request request)) → IfOk decided (λ _. call.source.now ≡ call.source.before) → IfErr decided (λ r. call.source.before < call.source.now → status_of r ≡ status.Read) → ReadsInTurn call (files_asked (team_request request)) → IfOk decided (Publishes call.out call.err call.report call.status) → IfErr decided (TellsRefusal names agents call.out call.err call.before call.report call.status) → Keeps call
kept call request (Ok d) names agents asks lines outcome cause no_fault fault reads published tells =
    kept_outcome call request d asks outcome published.0 no_fault reads published.1
kept call request (Err r) names agents asks lines outcome cause no_fault fault reads published tells =
    kept_refusal call request r asks cause fault reads tells.is_ended
    (record { out = tells.nothing_written; no_fault = tells.no_fault; report = tells.same_report })
    (subst (λ line. Says call.err line) (lines r) tells.line)
