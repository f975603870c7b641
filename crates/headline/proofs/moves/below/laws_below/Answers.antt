-- Each law as it is stated.
use Rattle.headline.proofs.moves.below.laws_below.Goals as goal
use Rattle.headline.proofs.facts.Laws.{is-listed}

pub returns : goal.returns
returns c = record {
  stand_on = c.untouched_threads_stand_on.ensures;
  own_blocks = c.threads_have_their_own_blocks.ensures;
  is_long = c.points_note_all_ranges.ensures;
  lead = c.calls_lead_behind.ensures;
  ends = λ bytes image t accepted listed. (c.programs_have_their_places.ensures image t.thread accepted.formed (is-listed image t listed)).0;
  keeps = c.events_keep_soundness.ensures;
  replies = c.reply_keeps_soundness.ensures;
  signals = c.signal_keeps_soundness.ensures;
  holds = c.own_slots_hold_what_is_noted.ensures;
  finds = c.lookups_find_what_is_noted.ensures;
  allowed = c.allowed_calls_are_known.ensures.allowed;
  number = c.allowed_calls_are_known.ensures.number;
  named = c.allowed_calls_are_known.ensures.named;
  message = c.messages_fit_behind.ensures.message;
  answer = c.messages_fit_behind.ensures.answer;
  signal = c.messages_fit_behind.ensures.signal;
  result = c.messages_fit_behind.ensures.result;
  nothing = c.messages_fit_behind.ensures.nothing;
  sent = c.what_is_sent_keeps_its_promise.ensures;
  receives = c.rules_on_messages_are_known.ensures.receives;
  sends = c.rules_on_messages_are_known.ensures.sends;
  others = c.rules_on_messages_are_known.ensures.others;
}
