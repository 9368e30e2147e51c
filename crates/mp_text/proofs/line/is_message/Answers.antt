use Rattle.std.proofs.Common.{◌∙◌}
use Rattle.mp_text.proofs.MessageLemmas.{message_is}
use Rattle.mp_text.proofs.line.is_message.Goals as goal

pub returns : goal.returns
returns c = c.message_line.ensures ∙ message_is _ _ c.requires
