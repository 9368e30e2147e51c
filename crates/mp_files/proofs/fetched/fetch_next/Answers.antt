use Rattle.std.proofs.Common.{◌≡◌, ◌++◌, ◌∷◌, [], ◌∙◌, IfSome, Some, arith, length, map, slice_get, subst, sym}
use Rattle.std.proofs.lemmas.List.{length-map}
use Rattle.mp_files.specs.Cause.{AreFittingBefore}
use Rattle.mp_files.specs.Fetched.{AreFetched, IsFetched, names_of, texts_of}
use Rattle.mp_files.proofs.Each.{mapped, mapped_more}
use Rattle.mp_files.proofs.Held.{fetched_before_fit, fetched_more}
use Rattle.mp_files.proofs.Texts.{on_ok}
use Rattle.mp_files.proofs.fetched.fetch_next.Goals as goal

pub texts_of_agent-requires-clause-before : goal.texts_of_agent-requires-clause-before
texts_of_agent-requires-clause-before g c =
    let held = g.S.Source.held c.args.source.now in
    let team = map names_of c.args.team.now in
    let items = c.args.texts.now.items in
    let size = c.args.texts.now.ok.0 in
    let e : length (map texts_of items) ≡ c.len.result = length-map items texts_of ∙ omega (arith, size, c.len.ensures) in
    subst (λ n. IfSome held (λ files. AreFittingBefore files team n)) e (fetched_before_fit held team (map texts_of items) c.requires.before)

pub returns-clause-texts : goal.returns-clause-texts
returns-clause-texts g c =
    let held = g.S.Source.held c.args.source.now in
    let team = map names_of c.args.team.now in
    let items = c.args.texts.now.items in
    let names = names_of c.args.names.now in
    let more = c.in_ok-more.more in
    let size = c.args.texts.now.ok.0 in
    let e : length (map texts_of items) ≡ c.len.result = length-map items texts_of ∙ omega (arith, size, c.len.ensures) in
    let at : slice_get team (length (map texts_of items)) ≡ Some names = subst (λ n. slice_get team n ≡ Some names) (sym (length-map items texts_of)) (mapped names_of c.args.team.now (length items) c.args.names.now c.requires.there) in
    let fetched : IsFetched held (length (map texts_of items)) names (texts_of more) = subst (λ n. IsFetched held n names (texts_of more)) (sym e) c.in_ok-more.ensures.texts in
    let all = fetched_more held team (map texts_of items) names (texts_of more) c.requires.before at fetched in
    on_ok c.push.result (c.push.new.items.items ≡ items ++ more ∷ []) (AreFetched held team (map texts_of c.push.new.items.items))
    (λ same. subst (AreFetched held team) (sym (mapped_more texts_of items c.push.new.items.items more same)) all)
    c.push.ensures.appended
