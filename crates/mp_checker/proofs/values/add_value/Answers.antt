use Rattle.std.proofs.Common.{◌∙◌, ap, sym, cond, Some}
use Rattle.std.specs.Map.{lookup}
use Rattle.std.specs.Option.{is_some}
use Rattle.mp_checker.specs.Keys.{same_numbers}
use Rattle.mp_checker.proofs.ValueLemmas.{known, added}
use Rattle.mp_checker.proofs.values.add_value.Goals as goal

pub returns-then-contains_key : goal.returns-then-contains_key
returns-then-contains_key c = λ names before value is costs h.
    known names c.args.kept.now.entries before value h
    (ap (λ f. is_some (lookup (same_numbers f) c.args.kept.now.entries)) (sym is) ∙ sym c.contains_key.ensures ∙ c.if-contains_key.true)

pub returns : goal.returns
returns c = λ names before value is costs h.
    added names c.args.kept.now.entries c.insert.new.self.entries before value h
    (ap (λ f. is_some (lookup (same_numbers f) c.args.kept.now.entries)) (sym is) ∙ sym c.contains_key.ensures ∙ c.if-contains_key.false)
    (λ f. c.in_ok-insert.ensures.updates.0 f
    ∙ (λ i. cond (same_numbers (is i) f) (Some (costs i)) (lookup (same_numbers f) c.args.kept.now.entries)))
