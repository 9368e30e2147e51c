use Rattle.std.proofs.Common.{◌≡◌, ℕ, ◌+◌, eqb, List, [], ◌∷◌, ◌++◌, length, Option, None, rules, refl, sym, ap, subst, ◌∙◌}
use Rattle.std.specs.Prelude.{IsPermutation}
use Rattle.mp_store.specs.declared.entry.Entry.{Entry}
use Rattle.mp_store.specs.declared.entry.Offer.TheVariants.{Kept}
use Rattle.mp_store.specs.declared.number_store.Known.{Known}
use Rattle.mp_store.specs.declared.rank.Rank.{Rank}
use Rattle.mp_store.specs.Laws.{IsEarlier}
use Rattle.mp_store.specs.NumberFields.{IsIndexed, better_goal, record_of}
use Rattle.mp_store.specs.Numbered.{NumberedRecord}
use Rattle.mp_store.specs.Ranks.{rank_of}
use Rattle.mp_store.specs.Record.{new_entry, offered}
use Rattle.mp_store.proofs.Carry.{carry_three, pushed}
use Rattle.mp_store.proofs.KeptFirst.{first_indexed, first_offered, with_key}
use Rattle.mp_store.proofs.number_store.NumberStore.keep_first.Goals as goal

pub invariant_of-self-2 : goal.invariant_of-self-2
invariant_of-self-2 c =
    let s = c.self.inside in
    let number : c.len-number.result ≡ length s.entries.items = search rules in
    let key : c.len-key.result ≡ length s.keys.items = search rules in
    let e : Entry ℕ = new_entry (length s.keys.items) c.args.g c.args.h c.args.origin c.args.goal in
    let earlier : IsEarlier (length s.entries.items) c.args.origin =
    subst (λ (t : NumberedRecord). IsEarlier (length t.kept.entries) c.args.origin) (sym c.self.view_is) c.requires.parent in
    let entries : c.push.new.self.items ≡ s.entries.items ++ e ∷ [] =
    pushed c.push.result c.unwrap.result c.reserve.new.self.items c.push.new.self.items s.entries.items (new_entry c.len-key.result c.args.g c.args.h c.args.origin c.args.goal) e
    c.push.ensures.items c.unwrap.ensures c.in_ok-reserve.ensures.items (λ j. new_entry (key j) c.args.g c.args.h c.args.origin c.args.goal) in
    let keys : c.push-2.new.self.items ≡ with_key s.keys.items (length s.entries.items) =
    pushed c.push-2.result c.unwrap-2.result c.reserve-2.new.self.items c.push-2.new.self.items s.keys.items (record { best = c.len-number.result; sent = None }) (record { best = length s.entries.items; sent = None })
    c.push-2.ensures.items c.unwrap-2.ensures c.in_ok-reserve-2.ensures.items (λ j. record { best = number j; sent = None }) in
    let least : c.better_goal-self-inside.result ≡ better_goal s.goal c.args.goal c.args.g (length s.entries.items) =
    c.better_goal-self-inside.ensures ∙ ap (better_goal s.goal c.args.goal c.args.g) number in
    let rank : c.rank_of.result ≡ rank_of (length s.entries.items, e) =
    c.rank_of.ensures ∙ (λ j. record { f = c.args.g + c.args.h; h = c.args.h; number = number j }) in
    let moved : IsPermutation (rank_of (length s.entries.items, e) ∷ s.«open») c.insert.new.self =
    subst (λ (q : Rank). IsPermutation (q ∷ s.«open») c.insert.new.self) rank c.in_ok-insert.ensures.ok in
    carry_three (λ (es : List (Entry ℕ)) (ks : List Known) (g : Option (ℕ × ℕ)). IsIndexed (record { entries = es; sent = s.sent.items }) ks c.insert.new.self g) _ _ _ _ _ _
    (sym entries) (sym keys) (sym least)
    (first_indexed (record_of s) s.keys.items s.«open» s.goal c.self.invariant e refl refl c.requires.bounded earlier c.insert.new.self moved)

pub returns-clause-offered : goal.returns-clause-offered
returns-clause-offered c =
    let s = c.self.inside in
    let number : c.len-number.result ≡ length s.entries.items = search rules in
    let key : c.len-key.result ≡ length s.keys.items = search rules in
    let e : Entry ℕ = new_entry (length s.keys.items) c.args.g c.args.h c.args.origin c.args.goal in
    let earlier : IsEarlier (length s.entries.items) c.args.origin =
    subst (λ (t : NumberedRecord). IsEarlier (length t.kept.entries) c.args.origin) (sym c.self.view_is) c.requires.parent in
    let entries : c.push.new.self.items ≡ s.entries.items ++ e ∷ [] =
    pushed c.push.result c.unwrap.result c.reserve.new.self.items c.push.new.self.items s.entries.items (new_entry c.len-key.result c.args.g c.args.h c.args.origin c.args.goal) e
    c.push.ensures.items c.unwrap.ensures c.in_ok-reserve.ensures.items (λ j. new_entry (key j) c.args.g c.args.h c.args.origin c.args.goal) in
    (λ j. (Kept (number j), record { entries = entries j; sent = s.sent.items }))
    ∙ first_offered (record_of s) s.keys.items s.«open» s.goal c.self.invariant e refl refl c.requires.bounded earlier
    ∙ ap (λ (t : NumberedRecord). offered eqb (new_entry t.keys c.args.g c.args.h c.args.origin c.args.goal) t.kept) c.self.view_is
