use Rattle.mp_factor.proofs.Basics.{refl, codes, nodes_in, Says, all_right, in_section, sections_rule}
use Rattle.mp_factor.specs.OfFile.{own_words, other_words}
use Rattle.mp_forms.specs.Rules.Sections.{requirements_rule, section_rule}
use Rattle.mp_factor.proofs.ReadFiles.{besides_found}
use Rattle.mp_factor.proofs.shape.check_file.Goals as goal

pub returns : goal.returns
unfolding sections_rule
returns c =
    let sections = nodes_in c.args.sections.now in
    besides_found (all_right (section_rule (own_words c.args.file) (other_words c.args.file)) sections)
    (in_section (codes ":requirements") requirements_rule (Says tt) sections) _ _ _ c.in_ok-right.ensures (c.in_ok-requirements.ensures (Says tt) refl) c.second.ensures
