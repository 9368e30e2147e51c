use Rattle.mp_certificates.specs.Reading.{lists_at, with_lists}
use Rattle.mp_certificates.proofs.ListLemmas.{lists_end, lists_go_on, lists_stop}
use Rattle.mp_certificates.proofs.fact_lists.push_privates.Goals as goal

pub loop-task-preserved : goal.loop-task-preserved
loop-task-preserved c =
    lists_go_on c.args.tasks.now c.loop-task.task-index c.task-item.result c.loop-task.lists c.push_privates_of.new.lists
    c.loop-task.rest.now (with_lists c.args.lists.now (lists_at c.args.tasks.now c.args.text.now)) c.in-Ok.after.now
    c.loop-task-test.true c.task-item.is c.in-Ok.ensures c.loop-task.invariant

pub returns-in-Err : goal.returns-in-Err
returns-in-Err c =
    lists_stop c.in-Err.unread c.args.tasks.now c.loop-task.task-index c.task-item.result c.loop-task.lists c.loop-task.rest.now
    (with_lists c.args.lists.now (lists_at c.args.tasks.now c.args.text.now)) c.loop-task-test.true c.task-item.is
    c.in-Err.ensures c.loop-task.invariant

pub returns : goal.returns
returns c =
    lists_end c.args.tasks.now c.loop-task.task-index c.loop-task.lists c.loop-task.rest.now
    (with_lists c.args.lists.now (lists_at c.args.tasks.now c.args.text.now)) c.loop-task-test.false c.loop-task.invariant
