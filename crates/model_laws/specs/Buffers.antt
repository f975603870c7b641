-- Threads that have message buffers: calls, replies and faults between two of them, and a third that waits to send.
use Rattle.std.specs.Prelude.{ℕ, ◌+◌, ◌*◌, ◌/◌, ◌%◌, ◌^◌, false, Option, Some, None, Result, List, [], ◌∷◌, map}
use Rattle.std.specs.List.{range_with_len}
use Rattle.model.specs.declared.capabilities.Cap.{Cap}
use Rattle.model.specs.declared.capabilities.Cap.TheVariants.{CNode, Endpoint, Frame, Tcb}
use Rattle.model.specs.declared.errors.KError.{KError}
use Rattle.model.specs.Capabilities.Rights.{frame_rights, rights}
use Rattle.model.specs.Capabilities.Slots.{inserted}
use Rattle.model.specs.Images.Described.{holding}
use Rattle.model.specs.Kernel.AddressSpaces.{page_size}
use Rattle.model.specs.Kernel.CallForms.{set_buffer_label}
use Rattle.model.specs.Kernel.Invocations.{invoke}
use Rattle.model.specs.Kernel.State.{State, Inactive, Runnable, AwaitsReply, Blocked, BySend, EndpointObject, ThreadObject, buffer_slot, put, with_slots}
use Rattle.model.specs.Kernel.Steps.{sender, system_call}
use Rattle.model_laws.specs.Kernels.{kernel, thread_with}
use Rattle.model_laws.specs.Talks.{calling, client, replied, server, talk_with}

-- ---- buffers and their bytes

abbrev pub server_frame : ℕ
server_frame = 0x1000

abbrev pub client_frame : ℕ
client_frame = 0x2000

-- the thread has this frame as its buffer
abbrev pub with_buffer : State → ℕ → ℕ → State
with_buffer s thread frame = with_slots s (inserted s.slots (buffer_slot thread) (Frame frame frame_rights None) None)

-- bytes that differ from place to place, and from frame to frame
abbrev pub with_bytes : State → State
with_bytes s = record s { bytes = λ place. Some ((place + 100 * (place / page_size)) % 2 ^ 8) }

-- so many bytes of a frame, from the first of them on
abbrev pub bytes_in : State → ℕ → ℕ → ℕ → List (Option ℕ)
bytes_in s frame first count = map s.bytes (range_with_len (frame + first) count)

-- ---- a client calls a server

-- before a call with this info word
abbrev pub without_buffers : ℕ → State
without_buffers info = with_bytes (talk_with 9 0 (calling info))

abbrev pub server_has_buffer : ℕ → State
server_has_buffer info = with_buffer (without_buffers info) server server_frame

abbrev pub client_has_buffer : ℕ → State
client_has_buffer info = with_buffer (without_buffers info) client client_frame

abbrev pub both_have_buffers : ℕ → State
both_have_buffers info = with_buffer (server_has_buffer info) client client_frame

-- the same frame twice
abbrev pub one_buffer : ℕ → State
one_buffer info = with_buffer (server_has_buffer info) client server_frame

abbrev pub calls : State → State
calls s = (system_call s client).0

-- Recv on the empty slot 9 with an info word of twelve words; both have buffers, and the server is the client's handler
abbrev pub before_fault : State
before_fault =
    with_buffer (with_buffer (with_bytes (talk_with 9 2 ((10, 9) ∷ (11, 12) ∷ (17, 5) ∷ []))) server server_frame) client client_frame

-- the handler replies label 0, with an info word of twelve words
abbrev pub handled : State
handled = replied (calls before_fault) 12 0x2002

-- ---- ReplyRecv of a server, which answers a client and receives from another thread

abbrev pub third : ℕ
third = 0xA00

-- The server has twelve words for the client, which waits for the reply, and the third sixteen for the server; the client and the third
-- have one buffer.
abbrev pub before_answer : State
before_answer =
    with_buffer (with_buffer (with_buffer (with_bytes (record (kernel 12 4 0xC0
    (holding 1 (Endpoint 0x540 (rights 2) 0) None ∷ holding 0x60 (CNode 0 4 28) None ∷ [])
    ((0x540, EndpointObject (record { senders = sender third BySend 7 false ∷ []; receivers = [] }))
    ∷ (server, ThreadObject (record (thread_with Runnable ((10, 1) ∷ (11, 12) ∷ (17, 2) ∷ [])) { caller = Some client }))
    ∷ (client, ThreadObject (thread_with AwaitsReply []))
    ∷ (third, ThreadObject (thread_with (Blocked 0x540) ((11, 16) ∷ []))) ∷ [])) {
      ready = put (λ _. []) 100 (server ∷ []);
    })) server server_frame) client client_frame) third client_frame

abbrev pub answered_and_received : State
answered_and_received = (system_call before_answer server).0

-- ---- SetBuffer

-- slot 3 holds a capability to a frame, and slot 4 the only one to a thread
abbrev pub before_buffer : Cap → State
before_buffer frame = kernel 12 4 0x90 (holding 3 frame None ∷ holding 4 (Tcb client) None ∷ []) ((client, ThreadObject (thread_with Inactive [])) ∷ [])

abbrev pub mapped_frame : ℕ → Cap
mapped_frame word = Frame client_frame (rights word) (Some (record { root = 0x9000; page = 0x401; rights = rights 3 }))

-- SetBuffer of that thread, with the frame in a slot
abbrev pub set_buffer_to : State → ℕ → Result State KError
set_buffer_to s slot = invoke s (record { root = CNode 0 4 28; caller = None; slot = 4; capability = Tcb client }) set_buffer_label 0 (slot ∷ 32 ∷ [])
