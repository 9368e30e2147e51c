use Rattle.std.proofs.Common.{◌≡◌, ◌+◌, ◌<◌, ◌≤◌, ◌∙◌, Err, IfSome, Some, ap, length, map, slice_get, subst, sym, arith}
use Rattle.mp_outside.specs.Source.{FaultAt, IsFrontOf, Lacks}
use Rattle.mp_files.specs.Cause.{Rests, name_in, seen_source}
use Rattle.mp_files.specs.Fetched.{names_of}
use Rattle.mp_files.specs.File.{longest_file}
use Rattle.mp_files.specs.Team.{IsFirst}
use Rattle.mp_files.specs.declared.refusal.Refusal.TheVariants as why
use Rattle.mp_files.proofs.Each.{mapped}
use Rattle.mp_files.proofs.Held.{absent_file, failed_file, long_held, text_held, too_large}
use Rattle.mp_files.proofs.fetched.text_of.Goals as goal

pub returns-in-Ok-clause-cause : goal.returns-in-Ok-clause-cause
returns-in-Ok-clause-cause g c =
    let held = g.S.Source.held c.args.source.now in
    let team = map names_of c.args.team.now in
    let names = names_of c.args.names.now in
    let there : slice_get team c.args.agent ≡ Some names = mapped names_of c.args.team.now c.args.agent c.args.names.now c.requires.there in
    let front = subst (λ n. IsFrontOf held n (longest_file + 1) c.in-Ok.text.items) c.name_of.ensures c.in-Ok.ensures.text in
    let size = c.in-Ok.text.ok.0 in
    let long : longest_file < length c.in-Ok.text.items = omega (arith, size, c.len.ensures) in
    subst (λ f. IfSome held (λ files. IsFirst files team (why.TooLarge f))) (sym c.file_of.ensures)
    (too_large held team c.args.agent names c.args.file there c.requires.before c.requires.own
    (long_held held (name_in names c.args.file) c.in-Ok.text.items front long))

pub returns-in-Ok-2-clause-text : goal.returns-in-Ok-2-clause-text
returns-in-Ok-2-clause-text g c =
    let held = g.S.Source.held c.args.source.now in
    let front = subst (λ n. IsFrontOf held n (longest_file + 1) c.in-Ok.text.items) c.name_of.ensures c.in-Ok.ensures.text in
    let size = c.in-Ok.text.ok.0 in
    let short : length c.in-Ok.text.items ≤ longest_file = omega (arith, size, c.len.ensures) in
    text_held held (name_in (names_of c.args.names.now) c.args.file) c.in-Ok.text.items front short

pub returns-in-Err-Absent-clause-cause : goal.returns-in-Err-Absent-clause-cause
returns-in-Err-Absent-clause-cause g c =
    let source = seen_source g.S.Source.held g.S.Source.faults g.S.Source.fault_at c.args.source.now c.fetch.new.source in
    let team = map names_of c.args.team.now in
    let names = names_of c.args.names.now in
    let there : slice_get team c.args.agent ≡ Some names = mapped names_of c.args.team.now c.args.agent c.args.names.now c.requires.there in
    let answer = c.in-Err-Absent.is ∙ ap Err c.in-Err-Absent.field-0-is in
    let lacks : Lacks source.held (name_in names c.args.file) = subst (Lacks source.held) c.name_of.ensures (c.fetch.ensures.absent.0 answer) in
    subst (λ f. Rests source team (why.Read f)) (sym c.file_of-in-Err-Absent.ensures)
    (absent_file source team c.args.agent names c.args.file there c.requires.before c.requires.own lacks)

pub returns-in-Err-Failed-clause-cause : goal.returns-in-Err-Failed-clause-cause
returns-in-Err-Failed-clause-cause g c =
    let source = seen_source g.S.Source.held g.S.Source.faults g.S.Source.fault_at c.args.source.now c.fetch.new.source in
    let team = map names_of c.args.team.now in
    let names = names_of c.args.names.now in
    let there : slice_get team c.args.agent ≡ Some names = mapped names_of c.args.team.now c.args.agent c.args.names.now c.requires.there in
    let answer = c.in-Err-Failed.is ∙ ap Err c.in-Err-Failed.field-0-is in
    let rose : source.before < source.now = c.fetch.ensures.failed.0 answer in
    let place : FaultAt source.held source.fault_at (Some (name_in names c.args.file)) = subst (λ n. FaultAt source.held source.fault_at (Some n)) c.name_of.ensures (c.fetch.ensures.at answer) in
    subst (λ f. Rests source team (why.Read f)) (sym c.file_of-in-Err-Failed.ensures)
    (failed_file source team c.args.agent names c.args.file there c.requires.before c.requires.own rose place)
