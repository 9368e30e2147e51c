use Rattle.mp_team.proofs.Answering.{answered_now}
use Rattle.mp_team.proofs.worker.served.Goals as goal

pub returns : goal.returns
returns g c =
    let shared = c.args.posts.now.shared in
    let new = c.serve-served.new in
    let said = c.serve-served.ensures in
    answered_now g.H.Heuristic.value shared.table_id shared.key c.args.work.nodes (record { nodes = new.nodes; desk = new.desk }) said.same
    said.desk c.serve-served.result said.answer
