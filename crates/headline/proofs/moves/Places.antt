-- What is true where a thread passes, wakes or blocks.
use Rattle.std.proofs.Common.{ℕ, ◌≡◌, ◌≢◌, ◌∙◌, Option, Some, refl, ap}
use Rattle.std.specs.Option.{option_map_or}
use Rattle.headline.proofs.facts.Laws.{at-place}
use Rattle.model.specs.Kernel.Messages.{Message, deliver, delivered, passes, passes_with, with_caller, with_registers}
use Rattle.model.specs.Kernel.Scheduling.{block, full_slice, wake}
use Rattle.model.specs.Kernel.State.{State, Status, Runnable, Object, ThreadObject, EndpointObject, EndpointState, ThreadState, as_endpoint, as_thread}
use Rattle.model.specs.Kernel.State.{endpoint_at, new_endpoint, new_thread, thread_at, with_endpoint, with_thread}
use Rattle.model.specs.Machine.Effects.{advanced}
use Rattle.model.specs.Machine.ProgramMemory.{RegisterFile}
use Rattle.headline.proofs.moves.Puts.{put-here, put-there}

pub same-place : (s after : State) (x : ℕ) → after.objects x ≡ s.objects x → thread_at after x ≡ thread_at s x
same-place s after x same = ap (λ (o : Option Object). option_map_or (λ (u : ThreadState). u) (as_thread o) new_thread) same

-- ---- one thread is put

pub with-here : (s : State) (x : ℕ) (t : ThreadState) → (with_thread s x t).objects x ≡ Some (ThreadObject t)
with-here s x t = put-here s.objects x (Some (ThreadObject t)) x refl

pub with-there : (s : State) (x : ℕ) (t : ThreadState) (y : ℕ) → y ≢ x → (with_thread s x t).objects y ≡ s.objects y
with-there s x t y other = put-there s.objects x (Some (ThreadObject t)) y other

-- ---- a thread passes with registers

pub passed : (s : State) (x : ℕ) (r : RegisterFile) → (passes_with s x r).objects x ≡ Some (ThreadObject (record (thread_at s x) { registers = advanced r }))
passed s x r =
    let one : ThreadState = record (thread_at s x) { registers = r } in
    with-here (with_registers s x r) x (record (thread_at (with_registers s x r) x) { registers = advanced (thread_at (with_registers s x r) x).registers })
    ∙ ap (λ (u : ThreadState). Some (ThreadObject (record u { registers = advanced u.registers }))) (at-place (with_registers s x r) x one (with-here s x one))

pub passed-there : (s : State) (x : ℕ) (r : RegisterFile) (y : ℕ) → y ≢ x → (passes_with s x r).objects y ≡ s.objects y
passed-there s x r y other =
    let one = with_registers s x r in
    with-there one x (record (thread_at one x) { registers = advanced (thread_at one x).registers }) y other
    ∙ with-there s x (record (thread_at s x) { registers = r }) y other

-- ---- a thread wakes

pub woke : (s : State) (x : ℕ) (t : ThreadState) → s.objects x ≡ Some (ThreadObject t) →
    (wake s x).objects x ≡ Some (ThreadObject (record t { status = Runnable; slice = full_slice }))
woke s x t is =
    with-here s x (record (thread_at s x) { status = Runnable; slice = full_slice })
    ∙ ap (λ (u : ThreadState). Some (ThreadObject (record u { status = Runnable; slice = full_slice }))) (at-place s x t is)

pub woke-there : (s : State) (x y : ℕ) → y ≢ x → (wake s x).objects y ≡ s.objects y
woke-there s x y other = with-there s x (record (thread_at s x) { status = Runnable; slice = full_slice }) y other

-- ---- a thread blocks

pub blocked : (s : State) (x : ℕ) (status : Status) (t : ThreadState) → s.objects x ≡ Some (ThreadObject t) →
    (block s x status).objects x ≡ Some (ThreadObject (record t { status = status }))
blocked s x status t is =
    with-here s x (record (thread_at s x) { status = status })
    ∙ ap (λ (u : ThreadState). Some (ThreadObject (record u { status = status }))) (at-place s x t is)

pub blocked-there : (s : State) (x : ℕ) (status : Status) (y : ℕ) → y ≢ x → (block s x status).objects y ≡ s.objects y
blocked-there s x status y other = with-there s x (record (thread_at s x) { status = status }) y other

-- ---- a thread gets or loses the right to reply

pub caller-here : (s : State) (x : ℕ) (caller : Option ℕ) (t : ThreadState) → s.objects x ≡ Some (ThreadObject t) →
    (with_caller s x caller).objects x ≡ Some (ThreadObject (record t { caller = caller }))
caller-here s x caller t is = with-here s x (record (thread_at s x) { caller = caller })
    ∙ ap (λ (u : ThreadState). Some (ThreadObject (record u { caller = caller }))) (at-place s x t is)

pub caller-there : (s : State) (x : ℕ) (caller : Option ℕ) (y : ℕ) → y ≢ x → (with_caller s x caller).objects y ≡ s.objects y
caller-there s x caller y other = with-there s x (record (thread_at s x) { caller = caller }) y other

-- ---- a thread gets a message

pub delivered-here : (s : State) (x badge : ℕ) (message : Message) (t : ThreadState) → s.objects x ≡ Some (ThreadObject t)
    → (deliver s x badge message).objects x ≡ Some (ThreadObject (record t { registers = advanced (delivered t.registers badge message) }))
delivered-here s x badge message t is =
    passed s x (delivered (thread_at s x).registers badge message)
    ∙ ap (λ (u : ThreadState). Some (ThreadObject (record u { registers = advanced (delivered u.registers badge message) }))) (at-place s x t is)

pub delivered-there : (s : State) (x badge : ℕ) (message : Message) (y : ℕ) → y ≢ x → (deliver s x badge message).objects y ≡ s.objects y
delivered-there s x badge message y other = passed-there s x (delivered (thread_at s x).registers badge message) y other

-- ---- a thread goes on after its call

pub went-here : (s : State) (x : ℕ) (t : ThreadState) → s.objects x ≡ Some (ThreadObject t) →
    (passes s x).objects x ≡ Some (ThreadObject (record t { registers = advanced t.registers }))
went-here s x t is =
    with-here s x (record (thread_at s x) { registers = advanced (thread_at s x).registers })
    ∙ ap (λ (u : ThreadState). Some (ThreadObject (record u { registers = advanced u.registers }))) (at-place s x t is)

pub went-there : (s : State) (x y : ℕ) → y ≢ x → (passes s x).objects y ≡ s.objects y
went-there s x y other = with-there s x (record (thread_at s x) { registers = advanced (thread_at s x).registers }) y other

-- ---- an endpoint

pub endpoint-here : (s : State) (x : ℕ) (e : EndpointState) → (with_endpoint s x e).objects x ≡ Some (EndpointObject e)
endpoint-here s x e = put-here s.objects x (Some (EndpointObject e)) x refl

pub endpoint-there : (s : State) (x : ℕ) (e : EndpointState) (y : ℕ) → y ≢ x → (with_endpoint s x e).objects y ≡ s.objects y
endpoint-there s x e y other = put-there s.objects x (Some (EndpointObject e)) y other

pub at-endpoint : (s : State) (x : ℕ) (e : EndpointState) → s.objects x ≡ Some (EndpointObject e) → endpoint_at s x ≡ e
at-endpoint s x e is = ap (λ (o : Option Object). option_map_or (λ (u : EndpointState). u) (as_endpoint o) new_endpoint) is
