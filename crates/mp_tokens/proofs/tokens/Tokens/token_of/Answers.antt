use Rattle.std.proofs.Common.{◌≡◌, ◌<◌, List, length, get_or, sym, ap, subst, ◌∙◌}
use Rattle.std.specs.FinSet as set
use Rattle.mp_sets.specs.Numbers.{Numbers}
use Rattle.mp_tokens.specs.Order.{place, with_set}
use Rattle.mp_tokens.specs.Table.{TokenTable}
use Rattle.mp_tokens.specs.SetRows.{sets_of}
use Rattle.mp_tokens.specs.TokenFields.{sets_at}
use Rattle.mp_tokens.proofs.Growing.{known_sets, used_grow}
use Rattle.mp_tokens.proofs.Orders.{at_its_place}
use Rattle.mp_tokens.proofs.Places.{place_by_index, place_with}
use Rattle.mp_tokens.proofs.tokens.Tokens.token_of.Goals as goal

pub returns-clause-used : goal.returns-clause-used
returns-clause-used c =
    let m = sets_of c.self.inside.size c.self.inside.sets in
    let order = c.self.inside.order.keys in
    let inside : c.args.index < length m = subst (λ (xs : List Numbers). c.args.index < length xs) (sym (ap (λ (t : TokenTable). t.sets) c.self.view_is)) c.requires in
    let grown : sets_at m c.insert_full.new.self.keys ≡ with_set (sets_at m order) (get_or m c.args.index set.empty) = ap (sets_at m) c.in_ok-token.ensures.keys ∙ used_grow m order c.args.index c.self.invariant.different inside (known_sets c.self.inside.size c.self.inside.sets order c.self.invariant.known) in
    (λ j. record { size = c.self.inside.size; sets = m; used = grown j })
    ∙ ap (λ (t : TokenTable). record { size = t.size; sets = t.sets; used = with_set t.used (get_or t.sets c.args.index set.empty) }) c.self.view_is

pub returns-clause-token : goal.returns-clause-token
returns-clause-token c =
    let m = sets_of c.self.inside.size c.self.inside.sets in
    let order = c.self.inside.order.keys in
    let known = known_sets c.self.inside.size c.self.inside.sets order c.self.invariant.known in
    let s = get_or m c.args.index set.empty in
    let inside : c.args.index < length m = subst (λ (xs : List Numbers). c.args.index < length xs) (sym (ap (λ (t : TokenTable). t.sets) c.self.view_is)) c.requires in
    let grown : sets_at m c.insert_full.new.self.keys ≡ with_set (sets_at m order) s = ap (sets_at m) c.in_ok-token.ensures.keys ∙ used_grow m order c.args.index c.self.invariant.different inside known in
    c.in_ok-token.ensures.index ∙ sym (place_by_index m order c.args.index c.self.invariant.different inside known) ∙ sym (place_with (sets_at m order) s) ∙ ap (λ (u : List Numbers). place u s) (sym grown)
    ∙ ap (λ (t : TokenTable). place (sets_at m c.insert_full.new.self.keys) (get_or t.sets c.args.index set.empty)) c.self.view_is

pub returns-clause-there : goal.returns-clause-there
returns-clause-there c =
    let s = get_or c.args.self.now.sets c.args.index set.empty in
    at_its_place c.args.self.now.used (sets_at (sets_of c.self.inside.size c.self.inside.sets) c.insert_full.new.self.keys) s c.in_ok-token.token (ap (λ (t : TokenTable). t.used) (returns-clause-used c)) (returns-clause-token c)
