use Rattle.std.proofs.Common.{◌∙◌, sym, ap, cond, Some, ℕ, List, Bor}
use Rattle.std.specs.Map.{lookup}
use Rattle.std.specs.Option.{is_some}
use Rattle.std.specs.Str.{bytes_eq}
use Rattle.mp_sexp.proofs.Places.{looked_for, known, added, put_back}
use Rattle.mp_sexp.proofs.table.keep_place.Goals as goal

pub returns-in_ok-insert-clause-added : goal.returns-in_ok-insert-clause-added
returns-in_ok-insert-clause-added c = λ names count h q.
    let name = c.args.name.now in
    let old = c.args.first.now.entries in
    let was = sym c.in_ok-earlier.ensures.old ∙ c.in-Some.is in
    let there = sym (looked_for (λ k. k.now) old names h name) ∙ ap is_some was in
    put_back (λ k. k.now) old c.insert.new.self.entries c.insert-in-Some.new.self.entries name c.args.place c.in-Some.earlier was
    (λ other. c.in_ok-earlier.ensures.updates.0 record { ref_ptr = (0, 0); now = other })
    (λ other. c.in_ok-insert.ensures.updates.0 record { ref_ptr = (0, 0); now = other }) q
    ∙ known (λ k. k.now) old names name h there q

pub returns-in_default-clause-added : goal.returns-in_default-clause-added
returns-in_default-clause-added c = λ names count h.
    let name = c.args.name.now in
    let old = c.args.first.now.entries in
    let none = sym (looked_for (λ k. k.now) old names h name) ∙ ap is_some (sym c.in_ok-earlier.ensures.old ∙ c.in_default.is) in
    added (λ k. k.now) old c.insert.new.self.entries names name h none (λ q.
    c.in_ok-earlier.ensures.updates.0 record { ref_ptr = (0, 0); now = q }
    ∙ ap (λ n. cond (bytes_eq name q) (Some n) (lookup (λ (k : Bor (List ℕ)). bytes_eq q k.now) old)) count)
