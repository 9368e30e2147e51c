use Rattle.std.proofs.Common.{Bor, List, ℕ}
use Rattle.mp_certificates.proofs.ListLemmas.{all_given, counted_where_given, publics_first}
use Rattle.mp_certificates.proofs.fact_lists.entry_lists.Goals as goal

pub returns : goal.returns
returns c =
    let tasks = c.args.tasks.now in
    let text = c.args.text.now in
    let rest = c.in_ok-rest.rest.now in
    let first = c.push_list.new.lists in
    let lists = c.push_privates.new.lists in
    let rest_of = λ (after : Bor (List ℕ)). after.now in
    let is =
    publics_first tasks c.publics_of.result text rest c.clear.new.self first c.publics_of.ensures c.clear.ensures c.in_ok-rest.ensures in
    let all = all_given tasks text rest first lists rest_of c.push_privates.result is c.push_privates.ensures in
    record { lists = all; counted = counted_where_given tasks text lists rest_of c.push_privates.result all }
