use Rattle.mp_top.proofs.refusal.tell_files.Goals as goal

pub returns-in-Read : goal.returns-in-Read
returns-in-Read g c = rw (c.in-Read.is, ← c.name_of.ensures, ← c.as_bytes.ensures.value) c.say.ensures

pub returns-in-TooLarge : goal.returns-in-TooLarge
returns-in-TooLarge g c = rw (c.in-TooLarge.is, ← c.name_of-in-TooLarge.ensures, ← c.as_bytes-in-TooLarge.ensures.value) c.say-in-TooLarge.ensures
