use Rattle.std.proofs.Common.{◌≡◌, ◌∙◌, ap, sym, subst}
use Rattle.std.specs.Prelude.{Contains}
use Rattle.std.proofs.lemmas.List.Elements.{All-contains}
use Rattle.mp_rows.specs.Apart.{IsNew}
use Rattle.mp_relaxed.specs.Memo.{HasNone, IsRight, MemoTable}
use Rattle.mp_relaxed.specs.MemoFields.{state_row}
use Rattle.mp_relaxed.proofs.MemoLemmas.{found_entry, no_entry, sets_at_sizes}
use Rattle.mp_relaxed.proofs.memo.Memo.recall.Goals as goal

pub returns-clause-some : goal.returns-clause-some
returns-clause-some c =
    let m = c.self.inside in
    let s = c.args.publics.now in
    let t = c.args.privates.now in
    let one : s.size ≡ m.publics = c.requires.publics ∙ sym (ap (λ (k : MemoTable). k.publics) c.self.view_is) in
    let other : t.size ≡ m.privates = c.requires.privates ∙ sym (ap (λ (k : MemoTable). k.privates) c.self.view_is) in
    let found = c.in-Some.ensures.found in
    subst (λ (k : MemoTable). Contains k.entries (record { publics = s.members; privates = t.members; value = c.index.result.now })) c.self.view_is
    (found_entry m.publics m.privates s.members t.members (sets_at_sizes m.publics m.privates s t one other c.rows_have_sets.ensures) m.rows m.values.items c.self.invariant.each
    c.in-Some.number c.index.result.now found.0 (found.1 ∙ (λ j. state_row (one j) (other j) s.members t.members)) (sym c.index.ensures))

pub returns-clause-right : goal.returns-clause-right
returns-clause-right c = λ law all.
    All-contains (IsRight law) c.args.self.now.entries
    (record { publics = c.args.publics.now.members; privates = c.args.privates.now.members; value = c.index.result.now }) all (returns-clause-some c)

pub returns-in_default-clause-none : goal.returns-in_default-clause-none
returns-in_default-clause-none c =
    let m = c.self.inside in
    let s = c.args.publics.now in
    let t = c.args.privates.now in
    let one : s.size ≡ m.publics = c.requires.publics ∙ sym (ap (λ (k : MemoTable). k.publics) c.self.view_is) in
    let other : t.size ≡ m.privates = c.requires.privates ∙ sym (ap (λ (k : MemoTable). k.privates) c.self.view_is) in
    subst (λ (k : MemoTable). HasNone k.entries s.members t.members) c.self.view_is
    (no_entry m.publics m.privates s.members t.members (sets_at_sizes m.publics m.privates s t one other c.rows_have_sets.ensures) m.rows m.values.items c.self.invariant.each c.self.invariant.rows_are
    ((let new = c.in_default.ensures.none in subst (λ p. IsNew (state_row p m.privates s.members t.members) m.rows) one
    (subst (λ q. IsNew (state_row s.size q s.members t.members) m.rows) other new))))
