-- The thread passes with other slots, and all others are left alone.
use Rattle.headline.proofs.invocations.CompletedCalls.{all-completed}
use Rattle.headline.proofs.invocations.standing_laws.changed_slots_keep_all_standing.Goals as goal

pub returns : goal.returns
returns c = all-completed (record {
  stand_on = c.untouched_threads_stand_on.ensures;
  own_blocks = c.threads_have_their_own_blocks.ensures;
  lead = c.calls_lead_behind.ensures;
  is_long = c.points_note_all_ranges.ensures;
  result = c.messages_fit_behind.ensures.result;
})
