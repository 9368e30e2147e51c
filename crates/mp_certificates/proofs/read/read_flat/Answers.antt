use Rattle.std.proofs.Common.{refl, sym, inl, ℕ}
use Rattle.mp_text.specs.Lines.{Text}
use Rattle.mp_certificates.proofs.EntryLemmas.{later_refused, no_cost, text_of}
use Rattle.mp_certificates.proofs.LineLemmas.{cost_read}
use Rattle.mp_certificates.proofs.read.read_flat.Goals as goal

pub returns-in_default-clause-refused : goal.returns-in_default-clause-refused
returns-in_default-clause-refused c = inl (refl, no_cost c.args.text.now (sym c.in_default.ensures))

pub returns-in-Ok-clause-found : goal.returns-in-Ok-clause-found
returns-in-Ok-clause-found c =
    let cost : ℕ × Text = (c.in-Some.cost, c.in-Some.rest.now) in
    text_of c.args.tasks.now c.args.text.now cost c.in-Ok.bounds.entries (cost_read c.args.text.now cost (sym c.in-Some.ensures))
    c.in-Ok.ensures.text c.in-Ok.ensures.fit

pub returns-in-Err-clause-refused : goal.returns-in-Err-clause-refused
returns-in-Err-clause-refused c =
    let cost : ℕ × Text = (c.in-Some.cost, c.in-Some.rest.now) in
    later_refused c.args.tasks.now c.args.text.now cost c.in-Err.refusal (cost_read c.args.text.now cost (sym c.in-Some.ensures))
    c.in-Err.ensures.refused
