-- A server that waits at an endpoint, and a client that calls it or faults.
use Rattle.std.specs.Prelude.{ℕ, None, List, [], ◌∷◌}
use Rattle.model.specs.declared.capabilities.Cap.TheVariants.{CNode, Endpoint}
use Rattle.model.specs.Capabilities.Rights.{rights}
use Rattle.model.specs.Images.Described.{holding}
use Rattle.model.specs.Kernel.Messages.{with_registers}
use Rattle.model.specs.Kernel.State.{State, Runnable, Blocked, EndpointObject, ThreadObject, put}
use Rattle.model.specs.Kernel.Steps.{system_call}
use Rattle.model.specs.Kernel.ThreadCalls.{resume, suspend}
use Rattle.model_laws.specs.Kernels.{kernel, registers_with, thread_with}

abbrev pub server : ℕ
server = 0x600

abbrev pub client : ℕ
client = 0x800

-- Slot 2 holds the endpoint with the badge 7 and these rights. Both threads look up in the boot CNode, and the client's faults
-- go to this address. The server waits, with numbers of its own in a1, a2, a4 and s5.
abbrev pub talk_with : ℕ → ℕ → List (ℕ × ℕ) → State
talk_with allowed fault_address values = record (kernel 12 4 0xC0
    (holding 1 (Endpoint 0x540 (rights 2) 0) None ∷ holding 2 (Endpoint 0x540 (rights allowed) 7) None
    ∷ holding 0x60 (CNode 0 4 28) None ∷ holding 0x80 (CNode 0 4 28) None ∷ [])
    ((0x540, EndpointObject (record { senders = []; receivers = server ∷ [] }))
    ∷ (server, ThreadObject (thread_with (Blocked 0x540) ((10, 1) ∷ (11, 21) ∷ (12, 22) ∷ (14, 24) ∷ (17, 5) ∷ (21, 31) ∷ [])))
    ∷ (client, ThreadObject (record (thread_with Runnable values) { fault_address = fault_address })) ∷ [])) {
      ready = put (λ _. []) 100 (client ∷ []);
    }

-- Call on slot 2 with an info word, 3 in a2, 4 in a3 and 88 in s5
abbrev pub calling : ℕ → List (ℕ × ℕ)
calling info = (10, 2) ∷ (11, info) ∷ (12, 3) ∷ (13, 4) ∷ (17, 1) ∷ (21, 88) ∷ []

abbrev pub called_with : ℕ → State
called_with info = (system_call (talk_with 9 0 (calling info)) client).0

-- the message has the label 5 and two words
abbrev pub called : State
called = called_with 0x5002

-- Reply by the server with an info word and a word
abbrev pub replied : State → ℕ → ℕ → State
replied s info word = (system_call (with_registers s server (registers_with ((11, info) ∷ (12, word) ∷ (17, 6) ∷ []))) server).0

abbrev pub answered : State
answered = replied called 0x1001 9

-- the client leaves its wait in between
abbrev pub resumed : State
resumed = resume (suspend called client) client

-- Recv on the empty slot 9
abbrev pub faulted : State
faulted = (system_call (talk_with 9 2 ((10, 9) ∷ (17, 5) ∷ [])) client).0

-- the same without a handler
abbrev pub alone : State
alone = (system_call (talk_with 9 0 ((10, 9) ∷ (17, 5) ∷ [])) client).0
