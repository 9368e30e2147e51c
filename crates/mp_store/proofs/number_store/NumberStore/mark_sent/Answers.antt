use Rattle.std.proofs.Common.{◌≡◌, ℕ, ◌<◌, eqb, List, length, Option, Some, None, rules, sym, ap, subst, ◌∙◌}
use Rattle.mp_store.specs.declared.number_store.Known.{Known}
use Rattle.mp_store.specs.NumberFields.{IsIndexed, record_of}
use Rattle.mp_store.specs.Numbered.{NumberedRecord}
use Rattle.mp_store.specs.Record.{Record}
use Rattle.mp_store.specs.Sent.{mark_sent}
use Rattle.mp_store.proofs.Carry.{carry}
use Rattle.mp_store.proofs.Sending.{asked, sent_before, sent_indexed, sent_now, written}
use Rattle.mp_store.proofs.number_store.NumberStore.mark_sent.Goals as goal

pub returns-then-is_at_most-clause-sent : goal.returns-then-is_at_most-clause-sent
returns-then-is_at_most-clause-sent c =
    let s = c.self.inside in
    let n = c.args.entry in
    let inside : n < length s.entries.items = subst (λ (t : NumberedRecord). n < length t.kept.entries) (sym c.self.view_is) c.requires in
    let old = asked (record_of s) s.keys.items s.«open» s.goal c.self.invariant n inside c.index.result.now c.index.ensures c.index-2.result.now c.index-2.ensures c.is_at_most.result c.is_at_most.ensures in
    subst (λ (t : NumberedRecord). ◌≡◌ {A = Option ℕ × Record ℕ} (None, t.kept) (mark_sent eqb n t.kept)) c.self.view_is
    (sent_before (record_of s) s.keys.items s.«open» s.goal c.self.invariant n inside (old ∙ c.if-is_at_most.true))

pub invariant_of-self-2 : goal.invariant_of-self-2
invariant_of-self-2 c =
    let s = c.self.inside in
    let n = c.args.entry in
    let inside : n < length s.entries.items = subst (λ (t : NumberedRecord). n < length t.kept.entries) (sym c.self.view_is) c.requires in
    let new = asked (record_of s) s.keys.items s.«open» s.goal c.self.invariant n inside c.index.result.now c.index.ensures c.index-2.result.now c.index-2.ensures c.is_at_most.result c.is_at_most.ensures ∙ c.if-is_at_most.false in
    let keys = written (record_of s) s.keys.items s.«open» s.goal c.self.invariant n inside c.index.result.now c.index.ensures c.index_mut.result.now c.index_mut.ensures.value in
    carry (λ (ns : List ℕ) (ks : List Known). IsIndexed (record { entries = s.entries.items; sent = ns }) ks s.«open» s.goal) _ _ _ _
    (sym c.in_ok-push.ensures.items) (sym keys)
    (sent_indexed (record_of s) s.keys.items s.«open» s.goal c.self.invariant n inside new)

pub returns-clause-sent : goal.returns-clause-sent
returns-clause-sent c =
    let s = c.self.inside in
    let n = c.args.entry in
    let inside : n < length s.entries.items = subst (λ (t : NumberedRecord). n < length t.kept.entries) (sym c.self.view_is) c.requires in
    let new = asked (record_of s) s.keys.items s.«open» s.goal c.self.invariant n inside c.index.result.now c.index.ensures c.index-2.result.now c.index-2.ensures c.is_at_most.result c.is_at_most.ensures ∙ c.if-is_at_most.false in
    let number : c.len-number.result ≡ length s.sent.items = search rules in
    (λ j. (Some (number j), record { entries = s.entries.items; sent = c.in_ok-push.ensures.items j }))
    ∙ sent_now (record_of s) s.keys.items s.«open» s.goal c.self.invariant n inside new
    ∙ ap (λ (t : NumberedRecord). mark_sent eqb n t.kept) c.self.view_is
