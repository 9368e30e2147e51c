use Rattle.std.proofs.Common.{◌≡◌, ℕ, ◌-◌, ◌<◌, true, length, get_or, rules, ap, ◌∙◌, arith}
use Rattle.std.proofs.lemmas.Bool.{false≢true}
use Rattle.mp_store.specs.Ranks.{is_sooner}
use Rattle.mp_store.proofs.OpenLemmas.{order_one, order_pushed}
use Rattle.mp_store.proofs.RankLemmas.{sooner_strict}
use Rattle.mp_store.proofs.open_list.is_behind.Goals as goal

pub returns-in-Some : goal.returns-in-Some
returns-in-Some c = λ after.
    let last = c.in-Some.last.now in
    let sooner : is_sooner last c.args.rank ≡ true = search rules in
    order_pushed c.args.ranks.now.items last c.args.rank c.requires
    (c.in-Some.ensures.lookup ∙ ap (λ (n : ℕ). get_or c.args.ranks.now.items (n - 1) last) c.args.ranks.now.ok.0)
    (sooner_strict.turns last c.args.rank sooner)

pub returns-in-None : goal.returns-in-None
returns-in-None c = λ always.
    order_one c.args.ranks.now.items c.args.rank
    (λ (some : 0 < length c.args.ranks.now.items). false≢true (c.in-None.ensures.variant.1 (let long = c.args.ranks.now.ok.0 in omega (arith, long, some))))
