use Rattle.std.proofs.Common.{ℕ, sym, ap, ◌∙◌, arith}
use Rattle.std.proofs.lemmas.List.{get_or_default}
use Rattle.mp_store.specs.declared.entry.Entry.{Entry}
use Rattle.mp_store.specs.NumberFields.{is_fresh, nothing}
use Rattle.mp_store.specs.Record.{is_open}
use Rattle.mp_store.proofs.Indexed.{first_in}
use Rattle.mp_store.proofs.number_store.is_fresh.Goals as goal

pub index-requires : goal.index-requires
index-requires c =
    let inside = (first_in c.args.entries.now.items c.args.ranks.now c.requires c.in-Some.rank (sym c.in-Some.ensures)).inside in
    let count = c.args.entries.now.ok.0 in
    omega (arith, inside, count)

pub returns-in-Some : goal.returns-in-Some
returns-in-Some c =
    let es = c.args.entries.now.items in
    let inside = (first_in es c.args.ranks.now c.requires c.in-Some.rank (sym c.in-Some.ensures)).inside in
    c.is_waiting.ensures
    ∙ ap (λ (e : Entry ℕ). is_open e.mark) (c.index.ensures ∙ get_or_default es c.in-Some.rank.number c.index.result.now nothing inside)
    ∙ ap (is_fresh es) c.in-Some.ensures
