use Rattle.std.proofs.Common.{◌≡◌, ℕ, ◌<◌, true, List, length, get_or, Option, Some, None, sym, ap, subst, ◌∙◌, arith}
use Rattle.std.specs.Prelude.{slice_set}
use Rattle.std.proofs.lemmas.List.{get_or_default}
use Rattle.mp_store.specs.declared.entry.Entry.{Entry}
use Rattle.mp_store.specs.declared.entry.Mark.TheVariants.{Expanded}
use Rattle.mp_store.specs.Minima.{popped}
use Rattle.mp_store.specs.NumberFields.{AreRanks, IsIndexed, is_fresh, nothing, record_of}
use Rattle.mp_store.specs.Numbered.{NumberedRecord}
use Rattle.mp_store.specs.Ranks.{first_rank}
use Rattle.mp_store.specs.Record.{Record}
use Rattle.mp_store.proofs.Closing.{closed_entries, closed_indexed, closed_ranks, in_list, popped_least, popped_none}
use Rattle.mp_store.proofs.number_store.NumberStore.pop_least.Goals as goal

-- what is written is the entry of that number, closed
written : (es : List (Entry ℕ)) (n : ℕ) (x : Entry ℕ) → n < length es → x ≡ get_or es n x → slice_set es n (record x { mark = Expanded }) ≡ closed_entries es n
written es n x inside is = ap (λ (e : Entry ℕ). slice_set es n (record e { mark = Expanded })) (is ∙ get_or_default es n x nothing inside)

pub index_mut-requires : goal.index_mut-requires
index_mut-requires c =
    let s = c.self.inside in
    let inside = in_list (record_of s) s.keys.items s.«open» s.goal c.self.invariant c.in-Some.rank c.in-Some.ensures in
    let count = s.entries.ok.0 in
    omega (arith, inside, count)

pub drop_stale-requires : goal.drop_stale-requires
drop_stale-requires c =
    let s = c.self.inside in
    let q = c.in-Some.rank in
    let inside = in_list (record_of s) s.keys.items s.«open» s.goal c.self.invariant q c.in-Some.ensures in
    subst (λ (es : List (Entry ℕ)). AreRanks es s.«open») (sym (written s.entries.items q.number c.index_mut.result.now inside c.index_mut.ensures.value))
    (closed_ranks (record_of s) s.keys.items s.«open» s.goal c.self.invariant q c.in-Some.ensures)

pub invariant_of-self : goal.invariant_of-self
invariant_of-self c =
    let s = c.self.inside in
    let q = c.in-Some.rank in
    let inside = in_list (record_of s) s.keys.items s.«open» s.goal c.self.invariant q c.in-Some.ensures in
    let entries = written s.entries.items q.number c.index_mut.result.now inside c.index_mut.ensures.value in
    subst (λ (es : List (Entry ℕ)). IsIndexed (record { entries = es; sent = s.sent.items }) s.keys.items c.drop_stale.new.ranks s.goal) (sym entries)
    (closed_indexed (record_of s) s.keys.items s.«open» s.goal c.self.invariant q c.in-Some.ensures c.drop_stale.new.ranks
    (subst (λ (es : List (Entry ℕ)). AreRanks es c.drop_stale.new.ranks) entries c.drop_stale.ensures.ranked)
    (subst (λ (es : List (Entry ℕ)). is_fresh es (first_rank c.drop_stale.new.ranks) ≡ true) entries c.drop_stale.ensures.fresh))

pub returns-in-Some-clause-popped : goal.returns-in-Some-clause-popped
returns-in-Some-clause-popped c =
    let s = c.self.inside in
    let q = c.in-Some.rank in
    let inside = in_list (record_of s) s.keys.items s.«open» s.goal c.self.invariant q c.in-Some.ensures in
    (λ j. (Some q.number, record { entries = written s.entries.items q.number c.index_mut.result.now inside c.index_mut.ensures.value j; sent = s.sent.items }))
    ∙ popped_least (record_of s) s.keys.items s.«open» s.goal c.self.invariant q c.in-Some.ensures
    ∙ ap (λ (t : NumberedRecord). popped t.kept) c.self.view_is

pub returns-in-None-clause-popped : goal.returns-in-None-clause-popped
returns-in-None-clause-popped c =
    let s = c.self.inside in
    subst (λ (t : NumberedRecord). ◌≡◌ {A = Option ℕ × Record ℕ} (None, t.kept) (popped t.kept)) c.self.view_is
    (popped_none (record_of s) s.keys.items s.«open» s.goal c.self.invariant c.in-None.ensures)
