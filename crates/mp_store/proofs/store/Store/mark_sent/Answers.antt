use Rattle.mp_store.proofs.Entries.{have_marked, same_keys}
use Rattle.std.proofs.Common.{◌≡◌, ℕ, ◌<◌, eqb, length, Option, Result, Ok, Err, sym, ap, ◌∙◌}
use Rattle.std.specs.Prelude.{IfOk}
use Rattle.mp_list.specs.declared.memory.OutOfMemory.{OutOfMemory}
use Rattle.mp_store.specs.declared.key.Key.{Key}
use Rattle.mp_store.specs.Keys.{same_key}
use Rattle.mp_store.specs.Named.{named}
use Rattle.mp_store.specs.Record.{Record}
use Rattle.mp_store.specs.Sent.{mark_sent}
use Rattle.mp_store.specs.KeyRows.{key_at}
use Rattle.mp_store.proofs.KeyPlaces.{apart}
use Rattle.mp_store.proofs.Naming.{mark_sent-named}
use Rattle.mp_store.proofs.store.Store.mark_sent.Goals as goal

-- what is answered over numbers is answered over their keys
over_keys : (res : Result (Option ℕ) OutOfMemory) (name : ℕ → Key) (new : Record ℕ) (wanted : Option ℕ × Record ℕ) (whole : Option ℕ × Record Key)
    → ◌≡◌ {A = Option ℕ × Record Key} (wanted.0, named name wanted.1) whole → IfOk res (λ number. (number, new) ≡ wanted) → IfOk res (λ number. (number, named name new) ≡ whole)
over_keys (Ok x) name new wanted whole is answer = ap (λ (p : Option ℕ × Record ℕ). (p.0, named name p.1)) answer ∙ is
over_keys (Err x) name new wanted whole is answer = tt

pub invariant_of-self : goal.invariant_of-self
invariant_of-self c =
    let s = c.self.inside in
    same_keys s.keys s.numbers c.mark_sent.new.self c.self.invariant.count c.self.invariant.once c.mark_sent.ensures.keys c.mark_sent.ensures.keyed
    (have_marked (length s.keys) s.numbers c.self.invariant.have c.mark_sent.new.self c.args.entry c.mark_sent.result c.mark_sent.ensures.sent c.mark_sent.ensures.err)

pub returns-clause-sent : goal.returns-clause-sent
returns-clause-sent c =
    let s = c.self.inside in
    let keys = s.keys in
    over_keys c.mark_sent.result (key_at keys) c.mark_sent.new.self.kept (mark_sent eqb c.args.entry s.numbers.kept) (mark_sent same_key c.args.entry c.args.self.now)
    (sym (mark_sent-named (key_at keys) eqb same_key (λ k. k < length keys) (apart keys c.self.invariant.once) c.args.entry s.numbers.kept c.self.invariant.keyed)
    ∙ ap (mark_sent same_key c.args.entry) c.self.view_is)
    c.mark_sent.ensures.sent
