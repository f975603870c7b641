-- What is asked at a point that is seen, and tests of that.
use Rattle.std.specs.Prelude.{Bool}
use Rattle.program_rules.specs.declared.views.SeenPoint.{SeenPoint}
use Rattle.response.specs.Asking.{Asked, asked_known}
use Rattle.response.specs.Asking as is
use Rattle.response.specs.Responding.{leaves, takes_only}
use Rattle.settled_threads.specs.Tested.{receives_so}
use Rattle.responses.specs.declared.asks.Ask.{Ask}
use Rattle.responses.specs.declared.asks.Ask.TheVariants.{Takes, Polls, Rings, Acknowledges, Accepts, Looks, SendsTo, Calls, Tries, Answers, Nothing}
use Rattle.responses.specs.declared.asks.AskTest.{AskTest}
use Rattle.responses.specs.declared.asks.AskTest.TheVariants.{TakesOnly, Leaves, KeepsDoors}
use Rattle.responses.specs.Doors.{are_before, are_no_door}

abbrev pub asked : Ask → Asked
asked (Takes o) = is.Takes o
asked (Polls o) = is.Polls o
asked (Rings o) = is.Rings o
asked (Acknowledges irq_line) = is.Acknowledges irq_line
asked (Accepts endpoint replies) = is.Accepts endpoint replies
asked (Looks o) = is.Looks o
asked (SendsTo o) = is.SendsTo o
asked (Calls o) = is.Calls o
asked (Tries o) = is.Tries o
asked Answers = is.Answers
asked Nothing = is.Asks_nothing

abbrev pub test_of : AskTest → Asked → Bool
test_of (TakesOnly queue) = takes_only queue
test_of (Leaves queue takes) = leaves queue takes
test_of (KeepsDoors doors rank input) = receives_so (are_before doors.now input rank) (are_no_door doors.now)

abbrev pub asked_seen : SeenPoint → Asked
asked_seen v = asked_known v.call v.capability
