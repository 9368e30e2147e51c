use Rattle.std.proofs.Common.{◌≡◌, ℕ, ◌+◌, ◌<◌, true, false, eqb, List, [], ◌∷◌, ◌++◌, length, map, get_or, Option, None, rules, refl, sym, ap, subst, ◌∙◌}
use Rattle.std.specs.Prelude.{IsPermutation, slice_set}
use Rattle.std.proofs.lemmas.List.{get_or_append_left, get_or_default}
use Rattle.mp_store.specs.declared.entry.Entry.{Entry}
use Rattle.mp_store.specs.declared.number_store.Known.{Known}
use Rattle.mp_store.specs.declared.rank.Rank.{Rank}
use Rattle.mp_store.specs.Laws.{IsEarlier}
use Rattle.mp_store.specs.NumberFields.{AreRanks, IsIndexed, better_goal, entry_at, given_way, is_fresh, known_at, nothing, record_of}
use Rattle.mp_store.specs.Numbered.{NumberedRecord}
use Rattle.mp_store.specs.Ranks.{first_rank, rank_of}
use Rattle.mp_store.specs.Record.{Record, gives_way, is_known, kept, new_entry}
use Rattle.mp_store.proofs.Carry.{carry_three, pushed}
use Rattle.mp_store.proofs.KeptAgain.{again_indexed, replaced_before, with_best}
use Rattle.mp_store.proofs.Keeping.{kept_ranks}
use Rattle.mp_store.proofs.number_store.NumberStore.keep.Goals as goal

-- the entries with the new one, when the best one of before gave way
entries_kept : (r : Record ℕ) (known : List Known) (ranks : List Rank) (goal : Option (ℕ × ℕ)) → IsIndexed r known ranks goal → (k : ℕ) → k < length known → (e : Entry ℕ)
    → (longer : List (Entry ℕ)) → longer ≡ r.entries ++ e ∷ [] → (m : Known) → m ≡ get_or known k m → (x y : Entry ℕ) → x ≡ get_or longer m.best x → y ≡ given_way x
    → slice_set longer m.best y ≡ map (gives_way eqb k) r.entries ++ e ∷ []
entries_kept r known ranks goal indexed k inside e longer grown m m_is x y x_is y_is =
    let last = indexed.bests k inside in
    let b = (known_at known k).best in
    let read : m ≡ known_at known k = m_is ∙ get_or_default known k m (record { best = 0; sent = None }) inside in
    let old : x ≡ entry_at r.entries b =
    x_is ∙ (λ j. get_or (grown j) (read j).best x) ∙ get_or_append_left r.entries (e ∷ []) x b last.inside ∙ get_or_default r.entries b x nothing last.inside in
    (λ j. slice_set (grown j) (read j).best ((y_is ∙ ap given_way old) j))
    ∙ replaced_before r k b indexed.sound.last_open last e

pub drop_stale-requires : goal.drop_stale-requires
drop_stale-requires c =
    let s = c.self.inside in
    let es = s.entries.items in
    let ks = s.keys.items in
    let k = c.args.key in
    let e : Entry ℕ = new_entry k c.args.g c.args.h c.args.origin c.args.goal in
    let number : c.len-number.result ≡ length es = search rules in
    let inside : k < length ks = subst (λ (t : NumberedRecord). k < t.keys) (sym c.self.view_is) c.requires.key in
    let fresh : is_known eqb k c.args.g es ≡ false = subst (λ (t : NumberedRecord). is_known eqb k c.args.g t.kept.entries ≡ false) (sym c.self.view_is) c.requires.new in
    let earlier : IsEarlier (length es) c.args.origin = subst (λ (t : NumberedRecord). IsEarlier (length t.kept.entries) c.args.origin) (sym c.self.view_is) c.requires.parent in
    let longer : c.push.new.self.items ≡ es ++ e ∷ [] =
    pushed c.push.result c.unwrap.result c.reserve.new.self.items c.push.new.self.items es e e
    c.push.ensures.items c.unwrap.ensures c.in_ok-reserve.ensures.items refl in
    let entries : slice_set c.push.new.self.items c.index.result.now.best c.give_way.new.entry ≡ map (gives_way eqb k) es ++ e ∷ [] =
    entries_kept (record_of s) ks s.«open» s.goal c.self.invariant k inside e c.push.new.self.items longer
    c.index.result.now c.index.ensures c.index_mut.result.now c.give_way.new.entry c.index_mut.ensures.value c.give_way.ensures in
    let rank : c.rank_of.result ≡ rank_of (length es, e) =
    c.rank_of.ensures ∙ (λ j. record { f = c.args.g + c.args.h; h = c.args.h; number = number j }) in
    subst (λ (xs : List (Entry ℕ)). AreRanks xs c.insert.new.self) (sym entries)
    (kept_ranks (record_of s) ks s.«open» s.goal c.self.invariant e fresh refl c.requires.bounded earlier c.insert.new.self
    (subst (λ (q : Rank). IsPermutation (q ∷ s.«open») c.insert.new.self) rank c.in_ok-insert.ensures.ok))

pub invariant_of-self-2 : goal.invariant_of-self-2
invariant_of-self-2 c =
    let s = c.self.inside in
    let es = s.entries.items in
    let ks = s.keys.items in
    let k = c.args.key in
    let e : Entry ℕ = new_entry k c.args.g c.args.h c.args.origin c.args.goal in
    let number : c.len-number.result ≡ length es = search rules in
    let inside : k < length ks = subst (λ (t : NumberedRecord). k < t.keys) (sym c.self.view_is) c.requires.key in
    let fresh : is_known eqb k c.args.g es ≡ false = subst (λ (t : NumberedRecord). is_known eqb k c.args.g t.kept.entries ≡ false) (sym c.self.view_is) c.requires.new in
    let earlier : IsEarlier (length es) c.args.origin = subst (λ (t : NumberedRecord). IsEarlier (length t.kept.entries) c.args.origin) (sym c.self.view_is) c.requires.parent in
    let longer : c.push.new.self.items ≡ es ++ e ∷ [] =
    pushed c.push.result c.unwrap.result c.reserve.new.self.items c.push.new.self.items es e e
    c.push.ensures.items c.unwrap.ensures c.in_ok-reserve.ensures.items refl in
    let entries : slice_set c.push.new.self.items c.index.result.now.best c.give_way.new.entry ≡ map (gives_way eqb k) es ++ e ∷ [] =
    entries_kept (record_of s) ks s.«open» s.goal c.self.invariant k inside e c.push.new.self.items longer
    c.index.result.now c.index.ensures c.index_mut.result.now c.give_way.new.entry c.index_mut.ensures.value c.give_way.ensures in
    let written : c.index_mut-2.result.now ≡ known_at ks k = c.index_mut-2.ensures.value ∙ get_or_default ks k c.index_mut-2.result.now (record { best = 0; sent = None }) inside in
    let keys : slice_set ks k (record { best = c.len-number.result; sent = c.index_mut-2.result.now.sent }) ≡ with_best ks k (length es) =
    λ j. slice_set ks k (record { best = number j; sent = (written j).sent }) in
    let least : c.better_goal-self-inside.result ≡ better_goal s.goal c.args.goal c.args.g (length es) =
    c.better_goal-self-inside.ensures ∙ ap (better_goal s.goal c.args.goal c.args.g) number in
    carry_three (λ (xs : List (Entry ℕ)) (ms : List Known) (g : Option (ℕ × ℕ)). IsIndexed (record { entries = xs; sent = s.sent.items }) ms c.drop_stale.new.ranks g) _ _ _ _ _ _
    (sym entries) (sym keys) (sym least)
    (again_indexed (record_of s) ks s.«open» s.goal c.self.invariant e inside fresh refl c.requires.bounded earlier c.drop_stale.new.ranks
    (subst (λ (xs : List (Entry ℕ)). AreRanks xs c.drop_stale.new.ranks) entries c.drop_stale.ensures.ranked)
    (subst (λ (xs : List (Entry ℕ)). is_fresh xs (first_rank c.drop_stale.new.ranks) ≡ true) entries c.drop_stale.ensures.fresh))

pub returns-clause-kept : goal.returns-clause-kept
returns-clause-kept c =
    let s = c.self.inside in
    let es = s.entries.items in
    let ks = s.keys.items in
    let k = c.args.key in
    let e : Entry ℕ = new_entry k c.args.g c.args.h c.args.origin c.args.goal in
    let inside : k < length ks = subst (λ (t : NumberedRecord). k < t.keys) (sym c.self.view_is) c.requires.key in
    let longer : c.push.new.self.items ≡ es ++ e ∷ [] =
    pushed c.push.result c.unwrap.result c.reserve.new.self.items c.push.new.self.items es e e
    c.push.ensures.items c.unwrap.ensures c.in_ok-reserve.ensures.items refl in
    let entries : slice_set c.push.new.self.items c.index.result.now.best c.give_way.new.entry ≡ map (gives_way eqb k) es ++ e ∷ [] =
    entries_kept (record_of s) ks s.«open» s.goal c.self.invariant k inside e c.push.new.self.items longer
    c.index.result.now c.index.ensures c.index_mut.result.now c.give_way.new.entry c.index_mut.ensures.value c.give_way.ensures in
    (λ j. record { entries = entries j; sent = s.sent.items })
    ∙ ap (λ (t : NumberedRecord). kept eqb e t.kept) c.self.view_is

pub returns-clause-keyed : goal.returns-clause-keyed
returns-clause-keyed c = (invariant_of-self-2 c).keyed
