use Rattle.std.proofs.Common.{◌≡◌, ◌<◌, eqb, length, Some, None, sym, ap, subst, ◌∙◌}
use Rattle.std.proofs.lemmas.List.{get_or_default}
use Rattle.mp_store.specs.declared.number_store.Known.{Known}
use Rattle.mp_store.specs.Minima.{best}
use Rattle.mp_store.specs.NumberFields.{known_at, record_of}
use Rattle.mp_store.specs.Numbered.{NumberedRecord}
use Rattle.mp_store.proofs.Indexed.{best_found}
use Rattle.mp_store.proofs.number_store.NumberStore.best.Goals as goal

pub returns : goal.returns
returns c =
    let keys = c.self.inside.keys.items in
    let inside : c.args.key < length keys = subst (λ (t : NumberedRecord). c.args.key < t.keys) (sym c.self.view_is) c.requires in
    let at : c.index.result.now ≡ known_at keys c.args.key = c.index.ensures ∙ get_or_default keys c.args.key c.index.result.now (record { best = 0; sent = None }) inside in
    ap (λ (k : Known). Some k.best) at
    ∙ sym (best_found (record_of c.self.inside) c.args.key (known_at keys c.args.key).best c.self.invariant.sound.falling (c.self.invariant.bests c.args.key inside))
    ∙ ap (λ (t : NumberedRecord). best eqb c.args.key t.kept) c.self.view_is
