use Rattle.mp_audit.proofs.auditing.audit_flat.Goals as goal

pub audit_bounds-requires : goal.audit_bounds-requires
audit_bounds-requires c = record { agree = c.requires.agree; fits = c.requires.fits.bounds }
