use Rattle.std.proofs.Common.{refl}
use Rattle.mp_top.proofs.Kept.{if_matched, kept_memory, kept_words}
use Rattle.mp_top.proofs.answering.answer.Goals as goal

pub returns-in-Ok-None : goal.returns-in-Ok-None
returns-in-Ok-None g c =
    kept_words _ (if_matched _ _ _ c.in-Ok-None.field-0-is c.in-Ok-None.ensures.request) refl refl refl
    (record { out = refl; no_fault = refl; report = refl }) c.tell_words.ensures

pub returns-in-Err : goal.returns-in-Err
returns-in-Err g c = kept_memory _ refl refl refl (record { out = refl; no_fault = refl; report = refl }) c.tell_memory.ensures
