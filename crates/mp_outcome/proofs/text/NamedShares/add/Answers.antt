use Rattle.std.proofs.Common.{rules, ◌≡◌, ◌++◌, ◌∷◌, []}
use Rattle.mp_outcome.proofs.AgentLemmas.{when_added}
use Rattle.mp_outcome.proofs.text.NamedShares.add.Goals as goal

pub returns : goal.returns
returns c =
    let grown : c.push.new.self.items ≡ c.args.self.now.names.items ++ c.args.named.names ∷ [] = search rules in
    λ own shares share before same. when_added c.push-2.result own shares share
    c.args.self.now.names.items c.push.new.self.items c.args.self.now.shares c.push-2.new.self
    c.args.named.names c.args.named.share grown c.push-2.ensures.ok before same
