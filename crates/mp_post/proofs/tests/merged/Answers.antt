use Rattle.std.proofs.Common.{◌∙◌}
use Rattle.mp_post.specs.Desks.{HoldsParty}
use Rattle.mp_post.proofs.Lists.{all_three, second}
use Rattle.mp_post.proofs.tests.merged.Goals as goal

pub returns-in-Ok-merge-clause-all : goal.returns-in-Ok-merge-clause-all
returns-in-Ok-merge-clause-all g c =
    let one : HoldsParty 1 c.args.first.view = second c.requires.first in
    let two : HoldsParty 2 c.args.second.view = second c.requires.second in
    let three : HoldsParty 3 c.args.third.view = second c.requires.third in
    let both = c.in-Ok.ensures in
    let all = c.in-Ok-merge.ensures in
    all_three _ (all.desk.many ∙ c.requires.posts.1) (all.holds 1 (both.holds 1 one)) (all.holds 2 (both.takes_over 2 two)) (all.takes_over 3 three)
