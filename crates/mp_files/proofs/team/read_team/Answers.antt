use Rattle.std.proofs.Common.{◌≡◌, ◌∙◌, IfSome, length, map, sym}
use Rattle.std.proofs.lemmas.List.{length-map}
use Rattle.mp_files.specs.Cause.{Rests, seen_source}
use Rattle.mp_files.specs.Fetched.{names_of, texts_of}
use Rattle.mp_files.specs.Reading.{Refuses}
use Rattle.mp_files.specs.Team.{HoldsTeam, IsReadTeam, ReadsTexts}
use Rattle.mp_files.proofs.Texts.{same_number, team_held, texts_first, weaker, weaker_err}
use Rattle.mp_files.proofs.team.read_team.Goals as goal

pub returns-clause-team : goal.returns-clause-team
returns-clause-team g c =
    let held = g.S.Source.held c.args.source.now in
    let names = map names_of c.args.names.now in
    let texts = map texts_of c.in_ok-texts.texts.items in
    weaker c.factors_of_texts.result _ (λ team. IfSome held (λ files. HoldsTeam files names team))
    (λ team h. team_held held names texts team c.in_ok-texts.ensures.texts h)
    c.factors_of_texts.ensures.factors

pub returns-clause-read : goal.returns-clause-read
returns-clause-read g c =
    let held = g.S.Source.held c.args.source.now in
    let names = map names_of c.args.names.now in
    let items = c.in_ok-texts.texts.items in
    weaker c.factors_of_texts.result _ (λ team. IsReadTeam held names team)
    (λ team h. record {
      texts = map texts_of items;
      fetched = c.in_ok-texts.ensures.texts;
      one_each = length-map items texts_of ∙ c.in_ok-texts.ensures.number ∙ sym (length-map c.args.names.now names_of);
      reads = h;
    })
    c.factors_of_texts.ensures.factors

pub returns-clause-number : goal.returns-clause-number
returns-clause-number g c =
    let items = c.in_ok-texts.texts.items in
    weaker c.factors_of_texts.result _ (λ team. length team ≡ length c.args.names.now)
    (λ team h. same_number (map texts_of items) team h ∙ length-map items texts_of ∙ c.in_ok-texts.ensures.number)
    c.factors_of_texts.ensures.factors

pub returns-clause-cause : goal.returns-clause-cause
returns-clause-cause g c =
    let source = seen_source g.S.Source.held g.S.Source.faults g.S.Source.fault_at c.args.source.now c.team_texts.new.source in
    let names = map names_of c.args.names.now in
    let texts = map texts_of c.in_ok-texts.texts.items in
    weaker_err c.factors_of_texts.result (Refuses (ReadsTexts texts)) (Rests source names)
    (λ r h. texts_first source names texts r c.in_ok-texts.ensures.texts h)
    c.factors_of_texts.ensures.cause
