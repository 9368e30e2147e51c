use Rattle.std.proofs.Common.{List, ℕ, ap, ◌∙◌}
use Rattle.mp_messages.specs.LogFields.{entries_in}
use Rattle.mp_messages.proofs.LogLemmas.{entries_stay}
use Rattle.mp_messages.proofs.lines.add_bytes.Goals as goal

pub returns-clause-same : goal.returns-clause-same
returns-clause-same c =
    let area = c.args.area.now.items in
    let lines = c.args.lines.now in
    ap (λ (bytes : List ℕ). entries_in bytes lines) c.in_ok-extend_from_slice.ensures.items ∙ entries_stay area c.args.bytes.now lines c.requires
