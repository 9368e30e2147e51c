use Rattle.std.proofs.Common.{ap, ◌∙◌}
use Rattle.indexmap.specs.IndexSet.{insert_key}
use Rattle.mp_store.proofs.TagLemmas.{added_tags, same_tags}
use Rattle.mp_store.proofs.keys.add_tags.Goals as goal

pub returns-clause-added : goal.returns-clause-added
returns-clause-added c =
    c.in_ok-insert.ensures.keys
    ∙ ap (insert_key same_tags c.args.tags.now.keys) c.in_ok-copy.ensures
    ∙ added_tags c.args.tags.now.keys c.args.new.now c.requires
