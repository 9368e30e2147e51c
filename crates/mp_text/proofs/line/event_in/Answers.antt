use Rattle.std.proofs.Common.{◌∙◌}
use Rattle.mp_text.proofs.EventLemmas.{event_is}
use Rattle.mp_text.proofs.line.event_in.Goals as goal

pub returns : goal.returns
returns c = c.event.ensures ∙ event_is _ _ c.requires
