-- Laws of which types lie under which.
use Rattle.mp_typing.proofs.Basics.{ℕ, Bool, List, Typed, DeclaredUnder, IsA, same, step, through_object, object_name}
use Rattle.std.specs.Prelude.{IsTrue}

joined : (declared : List Typed) {low middle : List ℕ} (high : List ℕ) → IsA declared low middle → IsA declared middle high → IsA declared low high
joined declared high same above = above
joined declared high (step down up) above = step down (joined declared high up above)
joined declared high (through_object up) above = through_object (joined declared high up above)

pub transitive : (declared : List Typed) (low middle high : List ℕ) → IsA declared low middle → IsA declared middle high → IsA declared low high
transitive declared low middle high under above = joined declared high under above

held : (declared : List Typed) (test : List ℕ → List ℕ → Bool) → ((name : List ℕ) → IsTrue (test name name))
    → ((low middle high : List ℕ) → IsTrue (test low middle) → IsTrue (test middle high) → IsTrue (test low high))
    → ((sub sup : List ℕ) → DeclaredUnder declared sub sup → IsTrue (test sub sup))
    → ((name : List ℕ) → IsTrue (test name object_name))
    → {sub sup : List ℕ} → IsA declared sub sup → IsTrue (test sub sup)
held declared test reflexive trans direct object (same {name = n}) = reflexive n
held declared test reflexive trans direct object (step {sub = s} {middle = m} {sup = u} down up) =
    trans s m u (direct s m down) (held declared test reflexive trans direct object up)
held declared test reflexive trans direct object (through_object {sub = s} {sup = u} up) =
    trans s object_name u (object s) (held declared test reflexive trans direct object up)

pub least : (declared : List Typed) (test : List ℕ → List ℕ → Bool) → ((name : List ℕ) → IsTrue (test name name))
    → ((low middle high : List ℕ) → IsTrue (test low middle) → IsTrue (test middle high) → IsTrue (test low high))
    → ((sub sup : List ℕ) → DeclaredUnder declared sub sup → IsTrue (test sub sup))
    → ((name : List ℕ) → IsTrue (test name object_name))
    → (sub sup : List ℕ) → IsA declared sub sup → IsTrue (test sub sup)
least declared test reflexive trans direct object sub sup under = held declared test reflexive trans direct object under
