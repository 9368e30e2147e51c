use Rattle.std.proofs.Common.{subst}
use Rattle.memchr.specs.Find.{IsFirstByte, is_byte}
use Rattle.mp_text.proofs.LineLemmas.{all_within, stops_at}
use Rattle.mp_text.proofs.line.first_length.Goals as goal

pub returns-in-Some-clause-value : goal.returns-in-Some-clause-value
returns-in-Some-clause-value c = stops_at c.args.text.now c.in-Some.before (subst (IsFirstByte (is_byte 10) c.args.text.now) c.in-Some.is c.memchr.ensures)

pub returns-in-None-clause-value : goal.returns-in-None-clause-value
returns-in-None-clause-value c = all_within c.args.text.now (subst (IsFirstByte (is_byte 10) c.args.text.now) c.in-None.is c.memchr.ensures)
