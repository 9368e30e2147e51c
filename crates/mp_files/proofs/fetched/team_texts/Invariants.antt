use Rattle.std.proofs.Common.{◌≡◌, All, length, map}
use Rattle.mp_outside.specs.Acts.{AreReadInTurn, Does}
use Rattle.mp_files.specs.Fetched.{AreFetched, IsShort, names_of, texts_of}
use Rattle.mp_files.proofs.Acts.{first_asked}
use Rattle.mp_files.proofs.fetched.team_texts.Given as goal

-- the texts so far are those of the first agents, whose files alone were read
abbrev pub invariant-loop-names : goal.invariant-loop-names
invariant-loop-names g l = record {
  held : g.S.Source.held l.source ≡ g.S.Source.held l.fn.source;
  no_fault : g.S.Source.faults l.source ≡ g.S.Source.faults l.fn.source;
  count : length l.texts.items ≡ l.names-index;
  fetched : AreFetched (g.S.Source.held l.fn.source) (map names_of l.team) (map texts_of l.texts.items);
  short : All (λ t. IsShort (texts_of t)) l.texts.items;
  acts : Does (AreReadInTurn (first_asked l.team l.names-index)) (g.S.Source.acts l.fn.source) (g.S.Source.acts l.source);
}
