use Rattle.std.proofs.Common.{map, string_bytes}
use Rattle.mp_top.proofs.WordLemmas.{asked_keeps}
use Rattle.mp_top.proofs.asked.asked.Goals as goal

pub returns-clause-limits : goal.returns-clause-limits
returns-clause-limits c = asked_keeps (map string_bytes c.args.words.now) c.in_ok-read_request.field-0 c.in_ok-read_request.ensures
