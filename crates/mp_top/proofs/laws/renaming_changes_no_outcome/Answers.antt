use Rattle.mp_top.proofs.OfTwo.{log_kept, logs_kept, messages_kept, views_kept}
use Rattle.mp_top.proofs.laws.renaming_changes_no_outcome.Goals as goal

pub returns-clause-views : goal.returns-clause-views
returns-clause-views c = λ files others request texts s first team other place r tasks is of_files of_others renames are.
    views_kept (record { one = c.one_team.ensures.one; held = c.one_team.ensures.held; holds = c.one_team.ensures.holds; made = c.one_team.ensures.made })
    files others request s first team other place r is of_files renames texts of_others tasks are
    c.renaming_changes_no_message.ensures.views

pub returns-clause-log : goal.returns-clause-log
returns-clause-log c = λ files others request texts s first team other place r tasks is of_files of_others renames are.
    log_kept (record { one = c.one_team.ensures.one; held = c.one_team.ensures.held; holds = c.one_team.ensures.holds; made = c.one_team.ensures.made })
    files others request s first team other place r is of_files renames texts of_others tasks are
    c.renaming_changes_no_message.ensures.logs

pub returns-clause-messages : goal.returns-clause-messages
returns-clause-messages c = λ files others request its s first second team other place r is also of_files of_others renames events.
    messages_kept (record { one = c.one_team.ensures.one; held = c.one_team.ensures.held; holds = c.one_team.ensures.holds; made = c.one_team.ensures.made })
    files others request s first team other place r is of_files renames its second also of_others events
    c.renaming_changes_no_message.ensures.messages

pub returns-clause-in_turn : goal.returns-clause-in_turn
returns-clause-in_turn c = λ files others request its s first second team other place r is also of_files of_others renames turn their_turn events.
    logs_kept (record { one = c.one_team.ensures.one; held = c.one_team.ensures.held; holds = c.one_team.ensures.holds; made = c.one_team.ensures.made })
    files others request s first team other place r is of_files renames its second also of_others events
    c.renaming_changes_no_message.ensures.in_turn turn their_turn
