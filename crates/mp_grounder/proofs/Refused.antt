-- What is known of a refusal that is handed on.
use Rattle.mp_grounder.proofs.Basics.{◌≡◌, sym, subst}
use Rattle.std.proofs.Common.{Result, Ok, Err}
use Rattle.std.specs.Prelude.{IfErr}
use Rattle.std.specs.Result.{IsErrAnd}

pub refused_on : {A E : Type 0} (r : Result A E) (e : E) (P : E → Type 0) → IsErrAnd r (λ x. x ≡ e) → P e → IfErr r P
refused_on (Ok a) e P handed holds = tt
refused_on (Err f) e P handed holds = subst P (sym handed) holds
