use Rattle.std.proofs.Common.{[], ◌∷◌, ◌∙◌, IfSome, map, refl, subst}
use Rattle.mp_files.specs.Cause.{Rests as FilesRest, seen_source}
use Rattle.mp_files.specs.Fetched.{names_of}
use Rattle.mp_files.specs.Team.{HoldsTeam, IsReadTeam}
use Rattle.mp_files.proofs.Each.{handed_on}
use Rattle.mp_outside.specs.Acts.{FileAsked}
use Rattle.mp_top.specs.Asked.{agents_of, longest_certificate, longest_plan, team_request}
use Rattle.mp_top.specs.Asked.Work.{audited}
use Rattle.mp_top.specs.Cause.{Rests}
use Rattle.mp_top.specs.Decided.{AuditsFor, Decides, IsRefusedTeam}
use Rattle.mp_top.specs.FirstText.{IsTextOf}
use Rattle.mp_top.proofs.Acts.{one_of_two, two_alone, two_and_agents}
use Rattle.mp_top.proofs.Decided.{decided_audit, files_rest, team_rests, weaker, weaker_err}
use Rattle.mp_top.proofs.TwoTexts.{both_fit, first_fits, seen_behind, seen_second}
use Rattle.mp_words.specs.Reads.{audit_by}
use Rattle.mp_words.specs.Requests.Wanted.{audits}
use Rattle.mp_top.proofs.deciding.decide_audit.Goals as goal

pub returns-in_err-certificate-clause-cause : goal.returns-in_err-certificate-clause-cause
returns-in_err-certificate-clause-cause g c =
    let source = seen_source g.S.Source.held g.S.Source.faults g.S.Source.fault_at c.args.source.now c.first_text.new.source in
    let request = team_request (audits (audit_by c.args.request.now)) in
    handed_on c.from_residual.result c.in_err-certificate.field-0.0 (Rests source request) c.from_residual.ensures.1
    (c.in_err-certificate.ensures.cause request refl ([], tt))

pub returns-in_err-plan-clause-cause : goal.returns-in_err-plan-clause-cause
returns-in_err-plan-clause-cause g c =
    let w = audit_by c.args.request.now in
    let request = team_request (audits w) in
    let held = g.S.Source.held in
    let faults = g.S.Source.faults in
    let at = g.S.Source.fault_at in
    let old = c.args.source.now in
    let mid = c.first_text.new.source in
    let new = c.first_text-2.new.source in
    let same = c.in_ok-certificate.ensures.held in
    let calm = c.in_ok-certificate.ensures.no_fault in
    let fits = first_fits held faults at old mid new new same calm (record { name = w.certificate; longest = longest_certificate }) c.in_ok-certificate.certificate.items c.in_ok-certificate.ensures.text in
    handed_on c.from_residual-in_err-plan.result c.in_err-plan.field-0.0 (Rests (seen_source held faults at old new) request) c.from_residual-in_err-plan.ensures.1
    (subst (λ s. Rests s request c.in_err-plan.field-0.0) (seen_second held faults at old mid new new same calm)
    (c.in_err-plan.ensures.cause request refl fits))

pub returns-in-Err-clause-cause : goal.returns-in-Err-clause-cause
returns-in-Err-clause-cause g c =
    let w = audit_by c.args.request.now in
    let held = g.S.Source.held in
    let faults = g.S.Source.faults in
    let at = g.S.Source.fault_at in
    let old = c.args.source.now in
    let mid = c.first_text.new.source in
    let after = c.first_text-2.new.source in
    let new = c.read_team.new.source in
    let certificate : FileAsked = record { name = w.certificate; longest = longest_certificate } in
    let plan : FileAsked = record { name = w.plan; longest = longest_plan } in
    let same = c.in_ok-certificate.ensures.held in
    let calm = c.in_ok-certificate.ensures.no_fault in
    let fit = both_fit held faults at old mid after new same calm certificate c.in_ok-certificate.certificate.items c.in_ok-certificate.ensures.text plan c.in_ok-plan.plan.items c.in_ok-plan.ensures.text in
    files_rest (seen_source held faults at old new) (certificate ∷ plan ∷ []) (agents_of w.names) audited
    (c.in_ok-certificate.certificate.items ∷ c.in_ok-plan.plan.items ∷ []) c.in-Err.refusal fit
    (subst (λ s. FilesRest s (agents_of w.names) c.in-Err.refusal) (seen_behind held faults at old mid after new same calm c.in_ok-plan.ensures.held c.in_ok-plan.ensures.no_fault)
    (subst (λ ns. FilesRest (seen_source held faults at after new) ns c.in-Err.refusal) c.requires.names c.in-Err.ensures.cause))

pub returns-clause-cause : goal.returns-clause-cause
returns-clause-cause g c =
    let w = audit_by c.args.request.now in
    let request = team_request (audits w) in
    let held = g.S.Source.held in
    let faults = g.S.Source.faults in
    let at = g.S.Source.fault_at in
    let old = c.args.source.now in
    let mid = c.first_text.new.source in
    let after = c.first_text-2.new.source in
    let new = c.read_team.new.source in
    let certificate : FileAsked = record { name = w.certificate; longest = longest_certificate } in
    let plan : FileAsked = record { name = w.plan; longest = longest_plan } in
    let same = c.in_ok-certificate.ensures.held in
    let calm = c.in_ok-certificate.ensures.no_fault in
    let texts = c.in_ok-certificate.certificate.items ∷ c.in_ok-plan.plan.items ∷ [] in
    let fit = both_fit held faults at old mid after new same calm certificate c.in_ok-certificate.certificate.items c.in_ok-certificate.ensures.text plan c.in_ok-plan.plan.items c.in_ok-plan.ensures.text in
    let holds : IfSome (held old) (λ files. HoldsTeam files (map names_of c.args.files.now) c.in-Ok.team) =
    subst (λ o. IfSome o (λ files. HoldsTeam files (map names_of c.args.files.now) c.in-Ok.team)) (c.in_ok-plan.ensures.held ∙ same) c.in-Ok.ensures.team in
    weaker_err c.audit_for.result (IsRefusedTeam audited c.as_slice.result.now (c.as_slice-2.result.now ∷ c.as_slice-3.result.now ∷ [])) (Rests (seen_source held faults at old new) request)
    (λ r h. team_rests (seen_source held faults at old new) request texts c.in-Ok.team r fit
    (subst (λ ns. IfSome (held old) (λ files. HoldsTeam files ns c.in-Ok.team)) c.requires.names holds)
    (subst (λ t. IsRefusedTeam audited c.in-Ok.team (t ∷ c.in_ok-plan.plan.items ∷ []) r) c.as_slice-2.ensures.value
    (subst (λ t. IsRefusedTeam audited c.in-Ok.team (c.as_slice-2.result.now ∷ t ∷ []) r) c.as_slice-3.ensures.value
    (subst (λ t. IsRefusedTeam audited t (c.as_slice-2.result.now ∷ c.as_slice-3.result.now ∷ []) r) c.as_slice.ensures h))))
    c.audit_for.ensures.refused

pub returns-clause-outcome : goal.returns-clause-outcome
returns-clause-outcome g c =
    let w = audit_by c.args.request.now in
    let held = g.S.Source.held in
    let old = c.args.source.now in
    let same = c.in_ok-certificate.ensures.held in
    let plan : FileAsked = record { name = w.plan; longest = longest_plan } in
    let certificate_text = c.in_ok-certificate.certificate.items in
    let plan_text = c.in_ok-plan.plan.items in
    let read : IsReadTeam (held old) (map names_of c.args.files.now) c.in-Ok.team =
    subst (λ o. IsReadTeam o (map names_of c.args.files.now) c.in-Ok.team) (c.in_ok-plan.ensures.held ∙ same) c.in-Ok.ensures.read in
    weaker c.audit_for.result (AuditsFor c.as_slice-2.result.now c.as_slice-3.result.now c.as_slice.result.now) (Decides (held old) (audits w))
    (λ d h. decided_audit (held old) w (map names_of c.args.files.now) certificate_text plan_text c.in-Ok.team d c.requires.names c.in_ok-certificate.ensures.text
    (subst (λ o. IsTextOf o plan plan_text) same c.in_ok-plan.ensures.text)
    read
    (subst (λ t. AuditsFor t plan_text c.in-Ok.team d) c.as_slice-2.ensures.value
    (subst (λ t. AuditsFor c.as_slice-2.result.now t c.in-Ok.team d) c.as_slice-3.ensures.value
    (subst (λ t. AuditsFor c.as_slice-2.result.now c.as_slice-3.result.now t d) c.as_slice.ensures h))))
    c.audit_for.ensures.outcome

pub returns-in_err-certificate-clause-acts : goal.returns-in_err-certificate-clause-acts
returns-in_err-certificate-clause-acts g c =
    let w = audit_by c.args.request.now in
    one_of_two (record { name = w.certificate; longest = longest_certificate }) (map names_of c.args.files.now) (agents_of w.names) c.requires.names
    (record { name = w.plan; longest = longest_plan }) _ _ c.in_err-certificate.ensures.acts

pub returns-in_err-plan-clause-acts : goal.returns-in_err-plan-clause-acts
returns-in_err-plan-clause-acts g c =
    let w = audit_by c.args.request.now in
    two_alone (record { name = w.certificate; longest = longest_certificate }) (map names_of c.args.files.now) (agents_of w.names) c.requires.names
    (record { name = w.plan; longest = longest_plan }) _ _ _ c.in_ok-certificate.ensures.acts c.in_err-plan.ensures.acts

pub returns-in-Err-clause-acts : goal.returns-in-Err-clause-acts
returns-in-Err-clause-acts g c =
    let w = audit_by c.args.request.now in
    two_and_agents (record { name = w.certificate; longest = longest_certificate }) (map names_of c.args.files.now) (agents_of w.names) c.requires.names
    (record { name = w.plan; longest = longest_plan }) _ _ _ _ c.in_ok-certificate.ensures.acts c.in_ok-plan.ensures.acts c.in-Err.ensures.acts

pub returns-clause-acts : goal.returns-clause-acts
returns-clause-acts g c =
    let w = audit_by c.args.request.now in
    two_and_agents (record { name = w.certificate; longest = longest_certificate }) (map names_of c.args.files.now) (agents_of w.names) c.requires.names
    (record { name = w.plan; longest = longest_plan }) _ _ _ _ c.in_ok-certificate.ensures.acts c.in_ok-plan.ensures.acts c.in-Ok.ensures.acts
