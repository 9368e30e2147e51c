use Rattle.mp_views.proofs.OpenLaws.{one_joined}
use Rattle.mp_views.proofs.laws.one_view_joined_is_itself.Goals as goal

pub returns : goal.returns
returns c = one_joined
