use Rattle.std.proofs.Common.{[], ◌∷◌, IfSome, map, refl, subst}
use Rattle.mp_files.specs.Cause.{Rests as FilesRest, seen_source}
use Rattle.mp_files.specs.Fetched.{names_of}
use Rattle.mp_files.specs.Team.{HoldsTeam, IsReadTeam}
use Rattle.mp_files.proofs.Each.{handed_on}
use Rattle.mp_top.specs.Asked.{longest_schedule, agents_of, team_request}
use Rattle.mp_top.specs.Asked.Work.{replayed}
use Rattle.mp_top.specs.Cause.{Rests}
use Rattle.mp_top.specs.Decided.{Decides, IsRefusedTeam, ReplaysBy}
use Rattle.mp_top.proofs.Acts.{first_alone, first_and_agents}
use Rattle.mp_top.proofs.Decided.{decided_replay, files_rest, seen_later, team_rests, weaker, weaker_err}
use Rattle.mp_words.specs.Reads.{replay_by}
use Rattle.mp_words.specs.Requests.Wanted.{replays}
use Rattle.mp_top.proofs.deciding.decide_replay.Goals as goal

pub returns-in_err-text-clause-cause : goal.returns-in_err-text-clause-cause
returns-in_err-text-clause-cause g c =
    let source = seen_source g.S.Source.held g.S.Source.faults g.S.Source.fault_at c.args.source.now c.first_text.new.source in
    let request = team_request (replays (replay_by c.args.request.now)) in
    handed_on c.from_residual.result c.in_err-text.field-0.0 (Rests source request) c.from_residual.ensures.1
    (c.in_err-text.ensures.cause request refl ([], tt))

pub returns-in-Err-clause-cause : goal.returns-in-Err-clause-cause
returns-in-Err-clause-cause g c =
    let w = replay_by c.args.request.now in
    let seen = seen_later g.S.Source.held g.S.Source.faults g.S.Source.fault_at c.args.source.now c.first_text.new.source c.read_team.new.source
    c.in_ok-text.ensures.held c.in_ok-text.ensures.no_fault in
    let source = seen_source g.S.Source.held g.S.Source.faults g.S.Source.fault_at c.args.source.now c.read_team.new.source in
    files_rest source (record { name = w.schedule; longest = longest_schedule } ∷ []) (agents_of w.names) (replayed w.search)
    (c.in_ok-text.text.items ∷ []) c.in-Err.refusal (c.in_ok-text.ensures.text, tt)
    (subst (λ s. FilesRest s (agents_of w.names) c.in-Err.refusal) seen
    (subst (λ ns. FilesRest (seen_source g.S.Source.held g.S.Source.faults g.S.Source.fault_at c.first_text.new.source c.read_team.new.source) ns c.in-Err.refusal)
    c.requires.names c.in-Err.ensures.cause))

pub returns-clause-cause : goal.returns-clause-cause
returns-clause-cause g c =
    let w = replay_by c.args.request.now in
    let request = team_request (replays w) in
    let source = seen_source g.S.Source.held g.S.Source.faults g.S.Source.fault_at c.args.source.now c.read_team.new.source in
    let held = g.S.Source.held c.args.source.now in
    let holds : IfSome held (λ files. HoldsTeam files (map names_of c.args.files.now) c.in-Ok.team) =
    subst (λ o. IfSome o (λ files. HoldsTeam files (map names_of c.args.files.now) c.in-Ok.team)) c.in_ok-text.ensures.held c.in-Ok.ensures.team in
    weaker_err c.replay_by.result (IsRefusedTeam (replayed w.search) c.as_slice.result.now (c.in_ok-text.text.items ∷ [])) (Rests source request)
    (λ r h. team_rests source request (c.in_ok-text.text.items ∷ []) c.in-Ok.team r (c.in_ok-text.ensures.text, tt)
    (subst (λ ns. IfSome held (λ files. HoldsTeam files ns c.in-Ok.team)) c.requires.names holds)
    (subst (λ t. IsRefusedTeam (replayed w.search) t (c.in_ok-text.text.items ∷ []) r) c.as_slice.ensures h))
    c.replay_by.ensures.refused

pub returns-clause-outcome : goal.returns-clause-outcome
returns-clause-outcome g c =
    let w = replay_by c.args.request.now in
    let held = g.S.Source.held c.args.source.now in
    let read : IsReadTeam held (map names_of c.args.files.now) c.in-Ok.team =
    subst (λ o. IsReadTeam o (map names_of c.args.files.now) c.in-Ok.team) c.in_ok-text.ensures.held c.in-Ok.ensures.read in
    weaker c.replay_by.result (ReplaysBy w.search c.in_ok-text.text.items c.as_slice.result.now) (Decides held (replays w))
    (λ d h. decided_replay held w (map names_of c.args.files.now) c.in_ok-text.text.items c.in-Ok.team d c.requires.names c.in_ok-text.ensures.text
    read
    (subst (λ t. ReplaysBy w.search c.in_ok-text.text.items t d) c.as_slice.ensures h))
    c.replay_by.ensures.outcome

pub returns-in_err-text-clause-acts : goal.returns-in_err-text-clause-acts
returns-in_err-text-clause-acts g c =
    let w = replay_by c.args.request.now in
    first_alone (record { name = w.schedule; longest = longest_schedule }) (map names_of c.args.files.now) (agents_of w.names) c.requires.names
    _ _ c.in_err-text.ensures.acts

pub returns-in-Err-clause-acts : goal.returns-in-Err-clause-acts
returns-in-Err-clause-acts g c =
    let w = replay_by c.args.request.now in
    first_and_agents (record { name = w.schedule; longest = longest_schedule }) (map names_of c.args.files.now) (agents_of w.names) c.requires.names
    _ _ _ c.in_ok-text.ensures.acts c.in-Err.ensures.acts

pub returns-clause-acts : goal.returns-clause-acts
returns-clause-acts g c =
    let w = replay_by c.args.request.now in
    first_and_agents (record { name = w.schedule; longest = longest_schedule }) (map names_of c.args.files.now) (agents_of w.names) c.requires.names
    _ _ _ c.in_ok-text.ensures.acts c.in-Ok.ensures.acts
