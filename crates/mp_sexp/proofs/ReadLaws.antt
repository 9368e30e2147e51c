-- What follows of a reader that gives what reading gives.
use Rattle.std.proofs.Common.{◌≡◌, ℕ, List, Result, Ok, Err, refl, inl, inr}
use Rattle.std.specs.Prelude.{◌⊎◌, IfOk, IfErr, IsOkAnd}
use Rattle.mp_sexp.specs.declared.tree.Tree.{Tree}
use Rattle.mp_sexp.specs.declared.refusal.ReadRefusal.{ReadRefusal}
use Rattle.mp_sexp.specs.declared.refusal.ReadRefusal.TheVariants.{Char, Unbalanced, Trailing, Deep, OutOfMemory}
use Rattle.mp_sexp.specs.Fault.{ReadFault}
use Rattle.mp_sexp.specs.Node.{Node, node_of}
use Rattle.mp_sexp.specs.Spelling.{HasTree}
use Rattle.mp_sexp.specs.Reading.{Gives, Fails, node_at}
use Rattle.mp_sexp.proofs.Complete.{is_read}
use Rattle.mp_sexp.proofs.Sound.{is_spelled}
use Rattle.mp_sexp.proofs.Depth.{depth_is_read}
use Rattle.mp_sexp.proofs.Faults.{fault_is_first, first_is_fault}

pub is_tree : (text : List ℕ) (node : Node) → node_at text ≡ Ok node → HasTree text node
is_tree text node e = (is_spelled node text e, depth_is_read text node e)

pub read_tree : (r : Result Tree ReadRefusal) (text : List ℕ) → Gives node_of r (node_at text) → IfOk r (λ tree. HasTree text (node_of tree))
read_tree (Ok tree) text h = is_tree text (node_of tree) h
read_tree (Err e) text h = tt

-- a refusal other than for want of memory is what reading gives
refusal_is : (e : ReadRefusal) (text : List ℕ) → Fails e (node_at text) → (e ≡ OutOfMemory) ⊎ (node_at text ≡ Err e)
refusal_is OutOfMemory text h = inl refl
refusal_is (Char place) text h = inr h
refusal_is (Unbalanced place) text h = inr h
refusal_is (Trailing place) text h = inr h
refusal_is (Deep place) text h = inr h

pub read_fault : (r : Result Tree ReadRefusal) (text : List ℕ) → Gives node_of r (node_at text) → IfErr r (λ e. (e ≡ OutOfMemory) ⊎ ReadFault text e)
read_fault (Ok tree) text h = tt
read_fault (Err e) text h = elim (refusal_is e text h) [ inl m ↦ inl m | inr f ↦ inr (fault_is_first text e f) ]

pub read_found : (r : Result Tree ReadRefusal) (text : List ℕ) (node : Node) → Gives node_of r (node_at text) → HasTree text node → (r ≡ Err OutOfMemory) ⊎ IsOkAnd r (λ tree. node_of tree ≡ node)
read_found (Ok tree) text node h has = let e = is_read node text has in inr (let same : node_of tree ≡ node = cc in same)
read_found (Err d) text node h has =
    let e = is_read node text has in
    elim (refusal_is d text h) [ inl m ↦ inl (cc) | inr f ↦ absurd cc ]

pub read_refused : (r : Result Tree ReadRefusal) (text : List ℕ) (e : ReadRefusal) → Gives node_of r (node_at text) → ReadFault text e → (r ≡ Err OutOfMemory) ⊎ (r ≡ Err e)
read_refused (Ok tree) text e h fault = let f = first_is_fault text e fault in absurd cc
read_refused (Err d) text e h fault =
    let f = first_is_fault text e fault in
    elim (refusal_is d text h) [ inl m ↦ inl (cc) | inr g ↦ inr (cc) ]

-- ---- one answer

pub one_tree : (text : List ℕ) (m n : Node) → HasTree text m → HasTree text n → m ≡ n
one_tree text m n h k = let e = is_read m text h in let f = is_read n text k in cc

pub one_fault : (text : List ℕ) (e f : ReadRefusal) → ReadFault text e → ReadFault text f → e ≡ f
one_fault text e f h k = let g = first_is_fault text e h in let d = first_is_fault text f k in cc

pub not_both : (text : List ℕ) (n : Node) (e : ReadRefusal) → HasTree text n → ReadFault text e → ⊥
not_both text n e h k = let g = is_read n text h in let d = first_is_fault text e k in absurd cc

answer_of : (o : Result Node ReadRefusal) (text : List ℕ) → node_at text ≡ o → ((n : Node) × HasTree text n) ⊎ ((e : ReadRefusal) × ReadFault text e)
answer_of (Ok n) text h = inl (n, is_tree text n h)
answer_of (Err e) text h = inr (e, fault_is_first text e h)

pub either : (text : List ℕ) → ((n : Node) × HasTree text n) ⊎ ((e : ReadRefusal) × ReadFault text e)
either text = answer_of (node_at text) text refl
