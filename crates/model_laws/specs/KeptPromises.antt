-- Messages that keep the promise of an endpoint or break it, and threads that wait with them.
use Rattle.std.specs.Prelude.{ℕ, false, Some, None, List, [], ◌∷◌, length}
use Rattle.model.specs.Images.Image.{Image}
use Rattle.model.specs.Kernel.Messages.{Message}
use Rattle.model.specs.Kernel.State.{State, Blocked, EndpointObject, Sender, Sent, ThreadObject, put}
use Rattle.model.specs.Kernel.Steps.{sender}
use Rattle.model_laws.specs.Kernels.{kernel, thread_with}
use Rattle.model_laws.specs.Promised.{port, promising}

abbrev pub message_with : List ℕ → Message
message_with words = record { label = 0; count = length words; words = words }

-- the worker's image, which promises of the endpoint at 0xE000 a badge from 3 to 5 and the words 1 to 9 and 7
abbrev pub image : Image
image = promising (port ∷ [])

abbrev pub promised : ℕ
promised = 0xE000

-- an endpoint of which nothing is promised
abbrev pub free : ℕ
free = 0xC000

-- a thread with the words 9 and 7, and one with 0 and 7
abbrev pub keeper : ℕ
keeper = 0x800

abbrev pub breaker : ℕ
breaker = 0xA00

abbrev pub by : ℕ → Sent → ℕ → Sender
by thread sent badge = sender thread sent badge false

-- they wait at an endpoint to send, in this order
abbrev pub waiting_at : ℕ → List Sender → State
waiting_at endpoint senders = record (kernel 16 4 0 [] []) {
  objects =
      put
      (put (put (λ _. None) breaker (Some (ThreadObject (thread_with (Blocked endpoint) ((11, 2) ∷ (12, 0) ∷ (13, 7) ∷ [])))))
      keeper (Some (ThreadObject (thread_with (Blocked endpoint) ((11, 2) ∷ (12, 9) ∷ (13, 7) ∷ [])))))
      endpoint (Some (EndpointObject (record { senders = senders; receivers = [] })));
}
