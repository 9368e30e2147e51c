use Rattle.mp_replays.proofs.Found.{log_is_one, log_stays, messages_stay, views_stay}
use Rattle.mp_replays.proofs.laws.renaming_changes_no_message.Goals as goal

pub returns-clause-views : goal.returns-clause-views
returns-clause-views c = λ value limit place r team other schedule found u checked also renamed f of.
    views_stay c.renaming_keeps_tasks.ensures value limit place r team other schedule found u checked also renamed f of

pub returns-clause-logs : goal.returns-clause-logs
returns-clause-logs c = λ value limit place r team other schedule found u checked also renamed f of.
    log_stays c.renaming_keeps_tasks.ensures value limit place r team other schedule found u checked also renamed f of

pub returns-clause-messages : goal.returns-clause-messages
returns-clause-messages c = λ value limit place r team other schedule found its checked also renamed f g.
    messages_stay c.renaming_keeps_tasks.ensures value limit place r team other schedule found its
    checked also renamed f g

pub returns-clause-in_turn : goal.returns-clause-in_turn
returns-clause-in_turn c = λ value limit place r team other schedule found its checked also renamed f g.
    log_is_one c.renaming_keeps_tasks.ensures value limit place r team other schedule found its
    checked also renamed f g
