-- What the proofs of loops that append to a list use.
use Rattle.mp_forms.proofs.Basics.{append_assoc, append-nil}

pub ruleset append_steps = (append_assoc, append-nil)
