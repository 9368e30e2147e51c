use Rattle.std.proofs.Common.{◌≡◌, ℕ, Bool, List, if◌then◌else◌, sym, ap, ◌∙◌, subst}
use Rattle.std.proofs.lemmas.Bool.{eqb-true}
use Rattle.mp_sets.specs.Numbers.{Numbers}
use Rattle.mp_task.specs.Limits.{AllLess}
use Rattle.mp_tokens.specs.Order.{set_at}
use Rattle.mp_search.specs.Search.{tokens_given}
use Rattle.mp_certify.proofs.facts.facts_of.Goals as goal

pub returns-then-is_number_of-clause-facts : goal.returns-then-is_number_of-clause-facts
returns-then-is_number_of-clause-facts g c =
    let done = c.args.machine.now.done in
    c.in_ok-own.ensures.set
    ∙ ap (λ (own : Bool). if own then c.args.mine.now.members else set_at (tokens_given done.task done.search.kept) c.args.token)
    (sym (sym c.is_number_of.ensures ∙ c.if-is_number_of.true))

pub returns-then-is_number_of-clause-fits : goal.returns-then-is_number_of-clause-fits
returns-then-is_number_of-clause-fits g c =
    let same : c.args.number ≡ c.args.me = eqb-true c.args.number c.args.me (sym c.is_number_of.ensures ∙ c.if-is_number_of.true) in
    subst (λ (n : ℕ). AllLess n c.in_ok-own.own) (c.requires.own same) c.in_ok-own.ensures.below

pub returns-clause-facts : goal.returns-clause-facts
returns-clause-facts g c =
    let done = c.args.machine.now.done in
    c.in_ok-told.ensures.facts
    ∙ ap (λ (sets : List Numbers). set_at sets c.args.token) c.tokens_of.ensures.used
    ∙ ap (λ (own : Bool). if own then c.args.mine.now.members else set_at (tokens_given done.task done.search.kept) c.args.token)
    (sym (sym c.is_number_of.ensures ∙ c.if-is_number_of.false))

pub returns-clause-fits : goal.returns-clause-fits
returns-clause-fits g c = subst (λ (n : ℕ). AllLess n c.in_ok-told.told) c.tokens_of.ensures.size c.in_ok-told.ensures.fits
