-- What laws over runs say of agents, under one name: tasks, records, steps, messages, snapshots and walks back. Each word stands where
-- it is defined.
pub use Rattle.mp_machine.specs.AgentRecord.{AgentRecord, given_verdict, is_going, new_record}
pub use Rattle.mp_machine.specs.LocalStep.{is_another, local, may, may_now, may_start, outgoing_of, with_search}
pub use Rattle.mp_machine.specs.Outgoing.{Outgoing, Step, after_sending, in_bytes, others, to_each, to_one, to_others, without_messages}
pub use Rattle.mp_machine.specs.Snapshots.{findings, goal_entry, judged_or_reported, started, with_notes}
unfoldable pub use Rattle.mp_machine.specs.Snapshots.{judged}
pub use Rattle.mp_machine.specs.Taking.{ending_of, is_strange_length, is_strange_pick, is_strange_trace, took_message, traced, unless_bad}
unfoldable pub use Rattle.mp_machine.specs.Taking.{took, with_state}
pub use Rattle.mp_machine.specs.Verdicts.{is_deciding, is_proved}
pub use Rattle.mp_machine.specs.WalkingBack.{arrived, solved, walked_from_goal}
unfoldable pub use Rattle.mp_machine.specs.WalkingBack.{walked}
pub use Rattle.mp_machine.specs.declared.event.Local.{Local}
pub use Rattle.mp_machine.specs.declared.outgoing.Out.{Out}
pub use Rattle.mp_machine.specs.declared.refusal.BadKind.{BadKind}
pub use Rattle.mp_machine.specs.declared.refusal.BadKind.TheVariants.{StrangeDone, StrangeLength, StrangePick, StrangeTrace, UnknownToken, WrongByte}
pub use Rattle.mp_messages.specs.History.{part, schedule, sent}
pub use Rattle.mp_messages.specs.Spelling.{AreFindings, Fits, IfState}
unfoldable pub use Rattle.mp_messages.specs.Spelling.{number, spelling}
pub use Rattle.mp_messages.specs.declared.history.Event.{Event}
pub use Rattle.mp_messages.specs.declared.history.Event.TheVariants.{Expand, Start, Take}
pub use Rattle.mp_messages.specs.declared.message.EndKind.{EndKind}
pub use Rattle.mp_messages.specs.declared.message.Findings.{Findings}
pub use Rattle.mp_messages.specs.declared.message.Message.{Message}
pub use Rattle.mp_messages.specs.declared.message.Message.TheVariants.{Done, Length, Marker, Pick, Report, Trace}
pub use Rattle.mp_messages.specs.declared.message.State.{State}
pub use Rattle.mp_runs.specs.System.{state_after}
pub use Rattle.mp_search.specs.Spelled.{message_of}
pub use Rattle.mp_snapshot.specs.Minima.{least_of, lesser}
pub use Rattle.mp_snapshot.specs.Notes.{Notes}
pub use Rattle.mp_snapshot.specs.Rules.{after_report, after_state, before_all, begun, has, is_complete, is_counted, is_strange_marker, is_strange_report, is_under_way, is_whole, noted, nothing, own, verdict, with_marker}
pub use Rattle.mp_snapshot.specs.VerdictRule.{by_costs, first_from, is_cost, least_f, least_goal, lowest_agent, proved, spent_or_on, unproved, verdict_of}
pub use Rattle.mp_snapshot.specs.declared.verdict.Verdict.{Verdict}
pub use Rattle.mp_snapshot.specs.declared.verdict.Verdict.TheVariants.{Continue, NoPlan, Proved, Spent}
pub use Rattle.mp_task.specs.AgentTask.{AgentTask}
pub use Rattle.mp_task.specs.Agreement.{FitsTeam}
pub use Rattle.mp_task.specs.Limits.{ActFits, IsWithinLimits}
pub use Rattle.mp_task.specs.Met.{is_met}
pub use Rattle.mp_task.specs.Plan.{JointState, TaskStep, act_of, after_step, goals_hold, joint_start, private_of, task_cost, task_of, team_system}
pub use Rattle.mp_task.specs.declared.act.Act.{Act}
pub use Rattle.mp_trail.specs.Share.{share}
pub use Rattle.mp_trail.specs.Walk.{origin_of, walk, walk_from}
unfoldable pub use Rattle.mp_trail.specs.Walk.{walk_within}
pub use Rattle.mp_trail.specs.declared.steps.Noted.{Noted}
pub use Rattle.mp_trail.specs.declared.steps.Walked.{Walked}
pub use Rattle.mp_trail.specs.declared.steps.Walked.TheVariants.{Hop}
