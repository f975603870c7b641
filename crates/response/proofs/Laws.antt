-- What the crates above use of these proofs.
pub use Rattle.response.proofs.AskedNow.{asked_now, may_wait}
pub use Rattle.response.proofs.AskedQueues.{sender-blocked}
pub use Rattle.response.proofs.AskedSteps.{asked-same}
pub use Rattle.response.proofs.AtBells.{there-is}
pub use Rattle.response.proofs.CallLabels.{called-is, called-label}
pub use Rattle.response.proofs.CallLeads.{call-leads, next-address, next-inside}
pub use Rattle.response.proofs.ComesToRest.{holds-where, over-later, over-window, split-at}
pub use Rattle.response.proofs.Doors.{accepts-rests, bell-queue, bell-waits, gate-there, receives-there}
pub use Rattle.response.proofs.EachEvent.{holds-after}
pub use Rattle.response.proofs.InterruptedThreads.{thread-left}
pub use Rattle.response.proofs.Interrupts.{put-at, put-off, thread-of}
pub use Rattle.response.proofs.MessagePassing.{answers-so, steps-with-so}
pub use Rattle.response.proofs.MessageRests.{owes-less, runs-is}
pub use Rattle.response.proofs.NamedNow.{asks-so, named-is, names-so}
pub use Rattle.response.proofs.OneMessage.{accepts, calls, count, goes, own, sends, waits_so}
pub use Rattle.response.proofs.OwnCalls.{OthersWait, pc_at, replied-there, same-names, write-pc}
pub use Rattle.response.proofs.OwnMessages.{ReceiveEnds, SendEnds, TakeEnds, block-off, caller-off, delivered-pc, got_one, got_word, passes-off, sent-off}
pub use Rattle.response.proofs.OwnMessages.{sent_awaits, sent_passed, sent_queued, sent_stopped, stays-pc, stays_on, stays_there, wake-off}
pub use Rattle.response.proofs.OwnMessages.{wake-status}
pub use Rattle.response.proofs.OwnSteps.{doors-apart, invoked-leaves}
pub use Rattle.response.proofs.Passing.{acknowledged-so, any-found, asked-each, at-start, edge-passes, known-at, or-then, pays-so, rates-so, tended-by}
pub use Rattle.response.proofs.PlainPoints.{asks-none}
pub use Rattle.response.proofs.Quietly.{all-at}
pub use Rattle.response.proofs.Rung.{asks-of}
pub use Rattle.response.proofs.Tended.{bell-there}
pub use Rattle.response.proofs.TendedLines.{dealt-with}
pub use Rattle.response.proofs.Ticks.{SameWork, running-thread, tick-same}
pub use Rattle.response.proofs.Waiting.{same-thread}
pub use Rattle.response.proofs.WaitingThreads.{WaitsAt, accepts-there, as_caller, as_sender, asks-there, badge-there, called-there, here, leads-on}
pub use Rattle.response.proofs.WaitingThreads.{next-pc, sends-there, waits-at}
pub use Rattle.response.proofs.WaysToWait.{WaitsBy, accepts_from, calls_there, sends_there, takes_word}
pub use Rattle.response.proofs.Woken.{point-of}
