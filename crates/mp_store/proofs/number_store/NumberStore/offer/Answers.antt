use Rattle.std.proofs.Common.{◌≡◌, ℕ, ◌<◌, true, false, eqb, length, Result, Ok, Err, sym, ap, subst, ◌∙◌}
use Rattle.std.specs.Prelude.{IfOk, OnOk}
use Rattle.mp_list.specs.declared.memory.OutOfMemory.{OutOfMemory}
use Rattle.mp_store.specs.declared.entry.Entry.{Entry}
use Rattle.mp_store.specs.declared.entry.Offer.{Offer}
use Rattle.mp_store.specs.declared.entry.Offer.TheVariants.{Kept, Worse}
use Rattle.mp_store.specs.NumberFields.{record_of}
use Rattle.mp_store.specs.Numbered.{NumberedRecord}
use Rattle.mp_store.specs.Record.{Record, is_known, kept, new_entry, offered}
use Rattle.mp_store.proofs.Sound.{offer_if}
use Rattle.mp_store.proofs.Indexed.{known_by_read}
use Rattle.mp_store.proofs.number_store.NumberStore.offer.Goals as goal

pub returns-then-is_as_cheap-clause-offered : goal.returns-then-is_as_cheap-clause-offered
returns-then-is_as_cheap-clause-offered c =
    let s = c.self.inside in
    let k = c.args.key in
    let e : Entry ℕ = new_entry k c.args.g c.args.h c.args.origin c.args.goal in
    let inside : k < length s.keys.items = subst (λ (t : NumberedRecord). k < t.keys) (sym c.self.view_is) c.requires.key in
    let as_cheap =
    known_by_read (record_of s) s.keys.items s.«open» s.goal c.self.invariant k c.args.g inside c.index.result.now c.index.ensures c.index-2.result.now c.index-2.ensures
    true (sym c.is_as_cheap.ensures ∙ c.if-is_as_cheap.true) in
    subst (λ (t : NumberedRecord). ◌≡◌ {A = Offer × Record ℕ} (Worse, t.kept) (offered eqb e t.kept)) c.self.view_is
    (sym (ap (λ x. offer_if eqb x e (record_of s)) as_cheap))

pub keep-requires-clause-new : goal.keep-requires-clause-new
keep-requires-clause-new c =
    let s = c.self.inside in
    let k = c.args.key in
    let inside : k < length s.keys.items = subst (λ (t : NumberedRecord). k < t.keys) (sym c.self.view_is) c.requires.key in
    subst (λ (t : NumberedRecord). is_known eqb k c.args.g t.kept.entries ≡ false) c.self.view_is
    (known_by_read (record_of s) s.keys.items s.«open» s.goal c.self.invariant k c.args.g inside c.index.result.now c.index.ensures c.index-2.result.now c.index-2.ensures
    false (sym c.is_as_cheap.ensures ∙ c.if-is_as_cheap.false))

-- what is kept is the answer of the offer
kept_by_offer : (e : Entry ℕ) (r new : Record ℕ) (res : Result Offer OutOfMemory) → is_known eqb e.key e.g r.entries ≡ false
    → IfOk res (λ answer. answer ≡ Kept (length r.entries)) → OnOk res (new ≡ kept eqb e r)
    → IfOk res (λ answer. (answer, new) ≡ offered eqb e r)
kept_by_offer e r new (Ok a) fresh answer is = (λ j. (answer j, is j)) ∙ sym (ap (λ x. offer_if eqb x e r) fresh)
kept_by_offer e r new (Err x) fresh answer is = tt

pub returns-clause-offered : goal.returns-clause-offered
returns-clause-offered c =
    let s = c.self.inside in
    let k = c.args.key in
    let inside : k < length s.keys.items = subst (λ (t : NumberedRecord). k < t.keys) (sym c.self.view_is) c.requires.key in
    let fresh : is_known eqb k c.args.g c.args.self.now.kept.entries ≡ false =
    subst (λ (t : NumberedRecord). is_known eqb k c.args.g t.kept.entries ≡ false) c.self.view_is
    (known_by_read (record_of s) s.keys.items s.«open» s.goal c.self.invariant k c.args.g inside c.index.result.now c.index.ensures c.index-2.result.now c.index-2.ensures
    false (sym c.is_as_cheap.ensures ∙ c.if-is_as_cheap.false)) in
    kept_by_offer (new_entry k c.args.g c.args.h c.args.origin c.args.goal) c.args.self.now.kept c.keep.new.self.kept c.keep.result
    fresh c.keep.ensures.answer c.keep.ensures.kept
