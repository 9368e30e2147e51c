use Rattle.std.proofs.Common.{◌≡◌, ◌<◌, List, Some, length, slice_get, sym, ap, subst, ◌∙◌, arith}
use Rattle.std.proofs.lemmas.List.{length-map}
use Rattle.mp_messages.specs.declared.history.Entry.{Entry}
use Rattle.mp_messages.specs.LogFields.{entry_in, shown}
use Rattle.mp_messages.proofs.LogLemmas.{dropped, seen_at}
use Rattle.mp_messages.proofs.log.Log.entry.Goals as goal

pub returns-clause-rest : goal.returns-clause-rest
returns-clause-rest c =
    let lines = c.self.inside.lines.items in
    let area = c.self.inside.area.items in
    let line = c.index.result.now in
    let there = subst (λ (es : List Entry). c.args.at < length es) (sym c.self.view_is) c.requires in
    let inside : c.args.at < length lines = omega (arith, there, length-map lines (entry_in area)) in
    let is : slice_get c.args.self.now c.args.at ≡ Some (shown c.view_of.result) =
    ap (λ (es : List Entry). slice_get es c.args.at) (sym c.self.view_is)
    ∙ seen_at area lines c.args.at line inside c.index.ensures
    ∙ (λ j. Some (entry_in (sym c.as_slice.ensures.value j) line))
    ∙ (λ j. Some (sym c.view_of.ensures j)) in
    dropped c.args.self.now c.args.at (shown c.view_of.result) is
