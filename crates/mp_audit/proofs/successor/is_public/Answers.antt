use Rattle.std.proofs.Common.{◌≡◌, Option, subst}
use Rattle.std.specs.Prelude.{IsSomeAnd}
use Rattle.std.proofs.lemmas.Option.{slice_get_within}
use Rattle.mp_task.specs.declared.act.Act.{Act}
use Rattle.mp_task.specs.Public.{is_public}
use Rattle.mp_audit.proofs.successor.is_public.Goals as goal

pub is_public-requires : goal.is_public-requires
is_public-requires c = slice_get_within c.args.task.now.acts c.args.action c.args.act.now c.requires

pub returns : goal.returns
returns c = subst (λ (o : Option Act). IsSomeAnd o (λ act. c.is_public.result ≡ is_public act)) c.requires c.is_public.ensures
