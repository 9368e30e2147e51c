use Rattle.mp_top.proofs.refusal.tell_size.Goals as goal

pub returns : goal.returns
returns g c = rw (← c.number.ensures.number, ← c.format.ensures.text, ← c.as_bytes-number.ensures.value) c.say.ensures
