use Rattle.std.proofs.Common.{◌≡◌, false, rules, sym, ◌∙◌}
use Rattle.mp_store.proofs.OpenRanks.{stale_gone}
use Rattle.mp_store.proofs.number_store.drop_stale.Goals as goal

pub stale-smaller : goal.stale-smaller
stale-smaller c =
    let stale : c.is_fresh.result ≡ false = search rules in
    (stale_gone c.args.entries.now.items c.stale.ranks c.pop_first.new.self c.pop_first.result
    c.stale.invariant c.pop_first.ensures.first (sym c.is_fresh.ensures ∙ stale) c.pop_first.ensures.rest).1

pub stale-preserved : goal.stale-preserved
stale-preserved c =
    let stale : c.is_fresh.result ≡ false = search rules in
    (stale_gone c.args.entries.now.items c.stale.ranks c.pop_first.new.self c.pop_first.result
    c.stale.invariant c.pop_first.ensures.first (sym c.is_fresh.ensures ∙ stale) c.pop_first.ensures.rest).0
