use Rattle.std.proofs.Common.{ℕ, ◌<◌, refl, sym, ap, ◌∙◌, subst}
use Rattle.std.specs.FinSet as set
use Rattle.std.proofs.lemmas.List.{get_or_past}
use Rattle.std.proofs.lemmas.List.Elements.{All-nil}
use Rattle.mp_sets.specs.Numbers.{SizedSet}
use Rattle.mp_task.specs.Limits.{AllLess}
use Rattle.mp_audit.specs.Audited.{set_of}
use Rattle.mp_certify.proofs.facts.facts_told.Goals as goal

pub returns-in_default-clause-facts : goal.returns-in_default-clause-facts
returns-in_default-clause-facts c =
    ap set_of c.new.ensures ∙ sym (get_or_past c.args.tokens.now.used c.args.token set.empty (c.in_default.ensures.none.0 refl))

pub returns-in_default-clause-fits : goal.returns-in_default-clause-fits
returns-in_default-clause-fits c =
    subst (AllLess c.args.tokens.now.size) (sym c.new.ensures) (All-nil (λ (x : ℕ). x < c.args.tokens.now.size))

pub set-requires : goal.set-requires
set-requires c = c.in-Some.ensures.some.0

pub returns-clause-facts : goal.returns-clause-facts
returns-clause-facts c =
    c.in_ok-list.ensures.set ∙ ap (λ (b : SizedSet). b.members) c.set.ensures ∙ c.in-Some.ensures.some.1

pub returns-clause-fits : goal.returns-clause-fits
returns-clause-fits c =
    subst (λ (n : ℕ). AllLess n c.in_ok-list.list) (ap (λ (b : SizedSet). b.size) c.set.ensures) c.in_ok-list.ensures.below
