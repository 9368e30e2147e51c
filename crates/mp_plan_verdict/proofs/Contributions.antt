-- What an agent contributes is what its factor does.
use Rattle.std.proofs.Common.{◌≡◌, ℕ, zero, suc, ◌+◌, List, [], ◌∷◌, Some, refl, ap, arith}
use Rattle.std.specs.Option.{option_map}
use Rattle.std.specs.Prelude.{slice_get}
use Rattle.mp_forms.specs.declared.factor.Factor.{Factor}
use Rattle.mp_joint.specs.FactorContribution.{factor_contribution, contributions_from, team_of}
use Rattle.mp_joint.specs.Plan.{contribution_of}
use Rattle.mp_plan_verdict.specs.Written.{factor_of}

part_at : (n k m : ℕ) (fs : List Factor) → m ≡ n + k
    → slice_get (contributions_from n fs) k ≡ option_map (λ (f : Factor). factor_contribution m f) (slice_get fs k)
part_at n k m [] e = refl
part_at n zero m (f ∷ fs) e = let same : n ≡ m = omega (arith, e) in ap (λ (a : ℕ). Some (factor_contribution a f)) same
part_at n (suc k) m (f ∷ fs) e = part_at (n + 1) k m fs (omega (arith, e))

pub part_of : (agent : ℕ) (fs : List Factor)
    → contribution_of (team_of fs) agent ≡ option_map (λ (f : Factor). factor_contribution agent f) (factor_of fs agent)
part_of zero fs = refl
part_of (suc k) fs = part_at 1 k (suc k) fs (omega arith)
