use Rattle.std.proofs.Common.{◌∙◌, ap}
use Rattle.mp_sexp.specs.Numbers.{is_named}
use Rattle.mp_sexp.proofs.Places.{looked_for}
use Rattle.mp_sexp.proofs.table.NameTable.contains.Goals as goal

pub returns-then-not-is_empty : goal.returns-then-not-is_empty
returns-then-not-is_empty c =
    c.contains_key.ensures ∙ looked_for (λ k. k.now) _ _ c.self.invariant c.as_slice.result.now
    ∙ ap (is_named _) c.as_slice.ensures.bytes ∙ ap (λ names. is_named names c.args.name.now) c.self.view_is
