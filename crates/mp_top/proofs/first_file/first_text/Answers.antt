use Rattle.std.proofs.Common.{◌<◌, ◌≤◌, ◌∙◌, Err, ap, length, arith}
use Rattle.mp_files.specs.Cause.{seen_source}
use Rattle.mp_top.proofs.FirstFile.{absent, failed, long_held, text_held, too_long}
use Rattle.mp_top.proofs.first_file.first_text.Goals as goal

pub returns-in-Ok-clause-cause : goal.returns-in-Ok-clause-cause
returns-in-Ok-clause-cause g c request asked before =
    let size = c.in-Ok.text.ok.0 in
    let long : c.args.longest < length c.in-Ok.text.items = omega (arith, size, c.len.ensures) in
    too_long (g.S.Source.held c.args.source.now) request c.args.place (record { name = c.args.name.now; longest = c.args.longest }) asked before
    (long_held c.args.longest (g.S.Source.held c.args.source.now) c.args.name.now c.in-Ok.text.items c.in-Ok.ensures.text long)

pub returns-in-Ok-2-clause-text : goal.returns-in-Ok-2-clause-text
returns-in-Ok-2-clause-text g c =
    let size = c.in-Ok.text.ok.0 in
    let short : length c.in-Ok.text.items ≤ c.args.longest = omega (arith, size, c.len.ensures) in
    (text_held c.args.longest (g.S.Source.held c.args.source.now) c.args.name.now c.in-Ok.text.items c.in-Ok.ensures.text short, short)

pub returns-in-Err-Absent-clause-cause : goal.returns-in-Err-Absent-clause-cause
returns-in-Err-Absent-clause-cause g c request asked before =
    let source = seen_source g.S.Source.held g.S.Source.faults g.S.Source.fault_at c.args.source.now c.fetch.new.source in
    let answer = c.in-Err-Absent.is ∙ ap Err c.in-Err-Absent.field-0-is in
    absent source request c.args.place (record { name = c.args.name.now; longest = c.args.longest }) asked before (c.fetch.ensures.absent.0 answer)

pub returns-in-Err-Failed-clause-cause : goal.returns-in-Err-Failed-clause-cause
returns-in-Err-Failed-clause-cause g c request asked before =
    let source = seen_source g.S.Source.held g.S.Source.faults g.S.Source.fault_at c.args.source.now c.fetch.new.source in
    let answer = c.in-Err-Failed.is ∙ ap Err c.in-Err-Failed.field-0-is in
    failed source request c.args.place (record { name = c.args.name.now; longest = c.args.longest }) asked before (c.fetch.ensures.failed.0 answer) (c.fetch.ensures.at answer)
