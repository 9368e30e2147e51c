use Rattle.mp_store.proofs.TagLemmas.{found_tags, none_tags}
use Rattle.mp_store.proofs.keys.find_elsewhere.Goals as goal

pub returns-clause-found : goal.returns-clause-found
returns-clause-found c = found_tags c.args.tags.now.keys c.args.sought.now c.get_index_of.result c.get_index_of.ensures.index

pub returns-clause-none : goal.returns-clause-none
returns-clause-none c = none_tags c.args.tags.now.keys c.args.sought.now c.get_index_of.result c.get_index_of.ensures.found
