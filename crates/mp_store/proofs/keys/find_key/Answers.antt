use Rattle.mp_store.proofs.KeyRowLemmas.{found_if, none_if, none_without_tags, AreParts}
use Rattle.mp_store.proofs.keys.find_key.Goals as goal

pub returns-in_default-clause-none : goal.returns-in_default-clause-none
returns-in_default-clause-none c = none_without_tags c.args.tags.now.keys c.args.rows.now c.args.key.now c.requires c.in_default.ensures.none

pub returns-clause-found : goal.returns-clause-found
returns-clause-found c =
    let tags = c.args.tags.now.keys in
    let key = c.args.key.now in
    let row : AreParts tags key c.size_of.result c.in-Some.place c.words.result.now = record {
      size_is = c.size_of.ensures.size;
      small = c.size_of.ensures.small;
      inside = c.in-Some.ensures.found.0;
      there = c.in-Some.ensures.found.1;
      packed = c.words.ensures.packed;
      set = c.words.ensures.set;
      fits = c.words.ensures.fits;
    } in
    found_if tags key c.size_of.result c.in-Some.place c.words.result.now row c.args.rows.now c.find_row.result c.find_row.ensures.found

pub returns-clause-none : goal.returns-clause-none
returns-clause-none c =
    let tags = c.args.tags.now.keys in
    let key = c.args.key.now in
    let row : AreParts tags key c.size_of.result c.in-Some.place c.words.result.now = record {
      size_is = c.size_of.ensures.size;
      small = c.size_of.ensures.small;
      inside = c.in-Some.ensures.found.0;
      there = c.in-Some.ensures.found.1;
      packed = c.words.ensures.packed;
      set = c.words.ensures.set;
      fits = c.words.ensures.fits;
    } in
    none_if tags key c.size_of.result c.in-Some.place c.words.result.now row c.args.rows.now c.find_row.result c.requires c.find_row.ensures.none
