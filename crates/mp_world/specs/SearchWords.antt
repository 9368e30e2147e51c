-- What laws over runs say of an agent's search, under one name: its entries, its states, and what an expansion and a receipt do. Each
-- word stands where it is defined.
pub use Rattle.mp_search.specs.AgentState.{AgentState, applies, is_goal_state, no_tag, same_state, start_state, successor, with_tag}
pub use Rattle.mp_search.specs.Concern.{receivers}
pub use Rattle.mp_search.specs.Expansion.{Parent}
unfoldable pub use Rattle.mp_search.specs.Expansion.{expanded, expanded_entry, with_action, with_actions, with_successor}
pub use Rattle.mp_search.specs.Offering.{by_keep_rule, offered_at, own_value, start_record}
unfoldable pub use Rattle.mp_search.specs.Offering.{offered_with}
pub use Rattle.mp_search.specs.Receipt.{IsStateFor, greater_value, is_byte_right, is_token_given, received, state_of}
pub use Rattle.mp_search.specs.Search.{SearchRecord, bound, is_below_bound, is_open_below, is_spent, may_expand, sent_sets, tokens_given}
pub use Rattle.mp_search.specs.Sending.{is_due, sending_of, sent_best}
unfoldable pub use Rattle.mp_search.specs.Sending.{sent_entry_of, sent_if_due}
pub use Rattle.mp_search.specs.declared.answer.Sending.{Sending}
pub use Rattle.mp_sets.specs.Numbers.{AllBelow, Numbers, holds}
pub use Rattle.mp_sets.specs.declared.tag.Tag.{Tag}
pub use Rattle.mp_store.specs.Laws.{IsEarlier, IsSound}
pub use Rattle.mp_store.specs.Minima.{Numbered, best, closed, first_open, is_cheaper, is_nearer, least_open, those}
pub use Rattle.mp_store.specs.Record.{Record, empty, f, gives_way, is_known, is_open, kept, new_entry}
pub use Rattle.mp_store.specs.Sent.{sent_entry, sent_if_new, was_sent}
pub use Rattle.mp_store.specs.declared.entry.Entry.{Entry}
pub use Rattle.mp_store.specs.declared.entry.Mark.{Mark}
pub use Rattle.mp_store.specs.declared.entry.Mark.TheVariants.{Expanded, Open, Replaced}
pub use Rattle.mp_store.specs.declared.entry.Offer.TheVariants.{Kept, Worse}
pub use Rattle.mp_store.specs.declared.entry.Origin.{Origin}
pub use Rattle.mp_store.specs.declared.entry.Origin.TheVariants.{From, Own, Root}
unfoldable pub use Rattle.mp_tokens.specs.Order.{place}
