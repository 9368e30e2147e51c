use Rattle.std.proofs.Common.{◌≡◌, ◌<◌, List, [], ◌∷◌, ◌++◌, ℕ, length, sym, ap, subst, ◌∙◌}
use Rattle.std.specs.Prelude.{Result, Ok, Err, OnErr}
use Rattle.mp_store.specs.declared.key.Key.{Key}
use Rattle.mp_store.specs.KeyRows.{key_at, keys_at, AreKeys}
use Rattle.mp_store.proofs.KeyRowLemmas.{are_grown, are_pushed, keys_grown, keys_pushed, new_for, AreParts}
use Rattle.mp_store.proofs.keys.push_key.Goals as goal

on_err : {T E P : Type 0} (r : Result T E) → P → OnErr r P
on_err (Ok x) p = tt
on_err (Err e) p = p

pub returns-in_err-place-clause-keys : goal.returns-in_err-place-clause-keys
returns-in_err-place-clause-keys c =
    are_grown c.args.tags.now.keys c.place_of_tags.new.tags.keys c.place_of_tags.ensures.grown c.args.rows.now c.requires.keys c.place_of_tags.ensures.tags

pub returns-in_err-place-clause-err : goal.returns-in_err-place-clause-err
returns-in_err-place-clause-err c =
    on_err c.from_residual.result
    (keys_grown c.args.tags.now.keys c.place_of_tags.new.tags.keys c.place_of_tags.ensures.grown c.args.rows.now c.requires.keys.rows_are)

pub push_row-requires : goal.push_row-requires
push_row-requires c =
    let tags = c.place_of_tags.new.tags.keys in
    let key = c.args.key.now in
    let row : AreParts tags key c.size_of.result c.in_ok-place.place c.words.result.now = record {
      size_is = c.size_of.ensures.size;
      small = c.size_of.ensures.small;
      inside = c.in_ok-place.ensures.place.0;
      there = c.in_ok-place.ensures.place.1;
      packed = c.words.ensures.packed;
      set = c.words.ensures.set;
      fits = c.words.ensures.fits;
    } in
    new_for tags key c.size_of.result c.in_ok-place.place c.words.result.now row c.args.rows.now
    (subst (λ (keys : List Key). (n : ℕ) → n < length keys → key_at keys n ≡ key → ⊥)
    (sym (keys_grown c.args.tags.now.keys tags c.place_of_tags.ensures.grown c.args.rows.now c.requires.keys.rows_are)) c.requires.new)

pub returns-in_err-push_row-clause-keys : goal.returns-in_err-push_row-clause-keys
returns-in_err-push_row-clause-keys c =
    let tags = c.place_of_tags.new.tags.keys in
    subst (AreKeys tags) (sym c.in_err-push_row.ensures.err)
    (are_grown c.args.tags.now.keys tags c.place_of_tags.ensures.grown c.args.rows.now c.requires.keys c.place_of_tags.ensures.tags)

pub returns-in_err-push_row-clause-err : goal.returns-in_err-push_row-clause-err
returns-in_err-push_row-clause-err c =
    let tags = c.place_of_tags.new.tags.keys in
    on_err c.from_residual-in_err-push_row.result
    (ap (keys_at tags) c.in_err-push_row.ensures.err
    ∙ keys_grown c.args.tags.now.keys tags c.place_of_tags.ensures.grown c.args.rows.now c.requires.keys.rows_are)

pub returns-clause-keys : goal.returns-clause-keys
returns-clause-keys c =
    let tags = c.place_of_tags.new.tags.keys in
    let key = c.args.key.now in
    let row : AreParts tags key c.size_of.result c.in_ok-place.place c.words.result.now = record {
      size_is = c.size_of.ensures.size;
      small = c.size_of.ensures.small;
      inside = c.in_ok-place.ensures.place.0;
      there = c.in_ok-place.ensures.place.1;
      packed = c.words.ensures.packed;
      set = c.words.ensures.set;
      fits = c.words.ensures.fits;
    } in
    subst (AreKeys tags) (sym c.in_ok-push_row.ensures.pushed)
    (are_pushed tags key c.size_of.result c.in_ok-place.place c.words.result.now row c.args.rows.now
    (are_grown c.args.tags.now.keys tags c.place_of_tags.ensures.grown c.args.rows.now c.requires.keys c.place_of_tags.ensures.tags)
    (new_for tags key c.size_of.result c.in_ok-place.place c.words.result.now row c.args.rows.now
    (subst (λ (keys : List Key). (n : ℕ) → n < length keys → key_at keys n ≡ key → ⊥)
    (sym (keys_grown c.args.tags.now.keys tags c.place_of_tags.ensures.grown c.args.rows.now c.requires.keys.rows_are)) c.requires.new)))

pub returns-clause-pushed : goal.returns-clause-pushed
returns-clause-pushed c =
    let tags = c.place_of_tags.new.tags.keys in
    let key = c.args.key.now in
    let row : AreParts tags key c.size_of.result c.in_ok-place.place c.words.result.now = record {
      size_is = c.size_of.ensures.size;
      small = c.size_of.ensures.small;
      inside = c.in_ok-place.ensures.place.0;
      there = c.in_ok-place.ensures.place.1;
      packed = c.words.ensures.packed;
      set = c.words.ensures.set;
      fits = c.words.ensures.fits;
    } in
    ap (keys_at tags) c.in_ok-push_row.ensures.pushed
    ∙ keys_pushed tags key c.size_of.result c.in_ok-place.place c.words.result.now row c.args.rows.now
    ∙ ap (λ (keys : List Key). keys ++ key ∷ []) (keys_grown c.args.tags.now.keys tags c.place_of_tags.ensures.grown c.args.rows.now c.requires.keys.rows_are)
