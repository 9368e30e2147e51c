use Rattle.std.proofs.Common.{◌≡◌, ◌∙◌, ◌++◌, ◌∷◌, [], length, All, ap, sym, subst, arith}
use Rattle.std.specs.Prelude.{OnErr, Result, Ok, Err}
use Rattle.std.proofs.lemmas.List.{length_push}
use Rattle.std.proofs.lemmas.List.Elements.{All-push}
use Rattle.mp_rows.specs.Apart.{IsNew}
use Rattle.mp_relaxed.specs.Memo.{HasNone, IsRight, MemoTable, with_room}
use Rattle.mp_relaxed.specs.MemoFields.{IsStateRow, entries_in, state_row}
use Rattle.mp_relaxed.proofs.MemoLemmas.{entries_pushed, entries_room, entry_of_row, is_state_row, new_row, none_room, room_all, room_long, sets_at_sizes}
use Rattle.mp_relaxed.proofs.memo.Memo.remember.Goals as goal

on_err : {T E P : Type 0} (r : Result T E) → P → OnErr r P
on_err (Ok x) p = tt
on_err (Err e) p = p

pub push_row-requires : goal.push_row-requires
push_row-requires c =
    let m = c.self.inside in
    let s = c.args.publics.now in
    let t = c.args.privates.now in
    let one : s.size ≡ m.publics = c.requires.publics ∙ sym (ap (λ (k : MemoTable). k.publics) c.self.view_is) in
    let other : t.size ≡ m.privates = c.requires.privates ∙ sym (ap (λ (k : MemoTable). k.privates) c.self.view_is) in
    let none = subst (λ (k : MemoTable). HasNone k.entries s.members t.members) (sym c.self.view_is) c.requires.new in
    let new = new_row m.publics m.privates s.members t.members (sets_at_sizes m.publics m.privates s t one other c.rows_have_sets.ensures)
    (with_room m.rows) (with_room m.values.items) (room_long m.rows m.values.items c.self.invariant.each)
    (subst (λ es. HasNone es s.members t.members) (sym (entries_room m.publics m.privates m.rows m.values.items c.self.invariant.each)) (none_room _ s.members t.members none)) in
    subst (λ rows. IsNew (state_row s.size t.size s.members t.members) rows) (sym c.make_room.ensures.rows)
    (subst (λ p. IsNew (state_row p t.size s.members t.members) (with_room m.rows)) (sym one)
    (subst (λ q. IsNew (state_row m.publics q s.members t.members) (with_room m.rows)) (sym other) new))

pub returns-in_err-push_row-clause-err : goal.returns-in_err-push_row-clause-err
returns-in_err-push_row-clause-err c =
    let m = c.self.inside in
    let err = c.in_err-push_row.ensures.err in
    on_err c.from_residual.result
    (λ j. record {
      publics = ap (λ (k : MemoTable). k.publics) c.self.view_is j;
      privates = ap (λ (k : MemoTable). k.privates) c.self.view_is j;
      entries = ((λ i. entries_in m.publics m.privates ((err.0 ∙ c.make_room.ensures.rows) i) ((err.1 ∙ c.make_room.ensures.values) i))
          ∙ entries_room m.publics m.privates m.rows m.values.items c.self.invariant.each
          ∙ ap (λ (k : MemoTable). with_room k.entries) c.self.view_is) j;
    })

pub returns-clause-kept : goal.returns-clause-kept
returns-clause-kept c =
    let m = c.self.inside in
    let s = c.args.publics.now in
    let t = c.args.privates.now in
    let one : s.size ≡ m.publics = c.requires.publics ∙ sym (ap (λ (k : MemoTable). k.publics) c.self.view_is) in
    let other : t.size ≡ m.privates = c.requires.privates ∙ sym (ap (λ (k : MemoTable). k.privates) c.self.view_is) in
    let row = state_row m.publics m.privates s.members t.members in
    let rows : c.push_row.new.rows ≡ with_room m.rows ++ row ∷ [] =
    c.in_ok-push_row.ensures.rows ∙ (λ j. c.make_room.ensures.rows j ++ state_row (one j) (other j) s.members t.members ∷ []) in
    let values = c.in_ok-push_row.ensures.values ∙ (λ j. c.make_room.ensures.values j ++ c.args.value ∷ []) in
    (λ j. record {
      publics = ap (λ (k : MemoTable). k.publics) c.self.view_is j;
      privates = ap (λ (k : MemoTable). k.privates) c.self.view_is j;
      entries = ((λ i. entries_in m.publics m.privates (rows i) (values i))
          ∙ entries_pushed m.publics m.privates (with_room m.rows) (with_room m.values.items) row c.args.value (room_long m.rows m.values.items c.self.invariant.each)
          ∙ (λ i. entries_room m.publics m.privates m.rows m.values.items c.self.invariant.each i
          ++ entry_of_row m.publics m.privates s.members t.members (sets_at_sizes m.publics m.privates s t one other c.rows_have_sets.ensures) c.args.value i ∷ [])
          ∙ ap (λ (k : MemoTable). with_room k.entries ++ record { publics = s.members; privates = t.members; value = c.args.value } ∷ []) c.self.view_is) j;
    })

pub returns-clause-right : goal.returns-clause-right
returns-clause-right c = λ law all is.
    subst (λ (k : MemoTable). All (IsRight law) k.entries) (sym (returns-clause-kept c)) (All-push (IsRight law) _ _ (room_all (IsRight law) _ all) is)

pub invariant_of-self-2 : goal.invariant_of-self-2
invariant_of-self-2 c =
    let m = c.self.inside in
    let s = c.args.publics.now in
    let t = c.args.privates.now in
    let one : s.size ≡ m.publics = c.requires.publics ∙ sym (ap (λ (k : MemoTable). k.publics) c.self.view_is) in
    let other : t.size ≡ m.privates = c.requires.privates ∙ sym (ap (λ (k : MemoTable). k.privates) c.self.view_is) in
    let row = state_row m.publics m.privates s.members t.members in
    let rows : c.push_row.new.rows ≡ with_room m.rows ++ row ∷ [] =
    c.in_ok-push_row.ensures.rows ∙ (λ j. c.make_room.ensures.rows j ++ state_row (one j) (other j) s.members t.members ∷ []) in
    let values = c.in_ok-push_row.ensures.values ∙ (λ j. c.make_room.ensures.values j ++ c.args.value ∷ []) in
    record {
      rows_are = subst (All (IsStateRow m.publics m.privates)) (sym rows)
          (All-push (IsStateRow m.publics m.privates) (with_room m.rows) row (room_all (IsStateRow m.publics m.privates) m.rows c.self.invariant.rows_are)
          (is_state_row m.publics m.privates s.members t.members (sets_at_sizes m.publics m.privates s t one other c.rows_have_sets.ensures)));
      each = omega (arith, ap length rows, ap length values, length_push (with_room m.rows) row, length_push (with_room m.values.items) c.args.value, room_long m.rows m.values.items c.self.invariant.each);
    }
