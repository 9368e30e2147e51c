use Rattle.std.proofs.Common.{◌≡◌, ◌∙◌, [], ◌∷◌, ap, map, refl}
use Rattle.mp_files.specs.Fetched.{names_of}
use Rattle.mp_top.specs.Asked.{agents_of}
use Rattle.mp_top.specs.Refusal.{line_of}
use Rattle.mp_top.proofs.Kept.{kept, kept_memory}
use Rattle.mp_words.specs.Reads.{audit_by}
use Rattle.mp_words.specs.Requests.Wanted.{audits}
use Rattle.mp_top.proofs.answering.answer_audit.Goals as goal

pub returns-in_default : goal.returns-in_default
returns-in_default g c ws asks = kept_memory _ refl refl refl (record { out = refl; no_fault = refl; report = refl }) c.tell_memory.ensures

pub returns : goal.returns
returns g c ws asks =
    let w = audit_by c.args.request.now in
    let named : map names_of c.as_slice-3.result.now ≡ agents_of w.names =
    ap (map names_of) c.as_slice-3.ensures.value ∙ c.in-Ok.ensures
    ∙ ap (λ ns. agents_of (map (λ name. name.now) ns)) c.as_slice.ensures.value in
    kept _ (audits w) c.decide_audit-decided.result (c.args.request.now.certificate.now ∷ c.args.request.now.plan.now ∷ []) (map names_of c.as_slice-3.result.now)
    asks (λ r. ap (λ agents. line_of (c.args.request.now.certificate.now ∷ c.args.request.now.plan.now ∷ []) agents r) named)
    c.decide_audit-decided.ensures.outcome c.decide_audit-decided.ensures.cause c.decide_audit-decided.ensures.no_fault c.decide_audit-decided.ensures.fault
    c.decide_audit-decided.ensures.acts
    c.end.ensures.outcome c.end.ensures.refusal
