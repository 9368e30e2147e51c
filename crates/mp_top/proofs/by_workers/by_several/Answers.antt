use Rattle.mp_top.proofs.Workers.{of_workers}
use Rattle.mp_top.proofs.by_workers.by_several.Goals as goal

pub returns : goal.returns
returns g c =
    of_workers c.args.search c.args.workers c.args.team.now c.served.result c.served.ensures.within
    c.served.ensures.refused c.requires.several c.served.ensures.found
