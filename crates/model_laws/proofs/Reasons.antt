-- What no reason makes of another thread.
use Rattle.std.proofs.Common.{ℕ, ◌≡◌, ◌≢◌, true, false, List, Option, Some, None, option_map, Ok, [], ◌∷◌, refl, sym, subst, ap, ◌∙◌}
use Rattle.std.specs.Option.{option_map_or}
use Rattle.model.specs.declared.capabilities.Cap.{Cap}
use Rattle.model.specs.declared.capabilities.Cap.TheVariants.{Endpoint, InterruptHandler, Notification}
use Rattle.model.specs.declared.rights.Rights.{Rights}
use Rattle.model.specs.declared.system_calls.SystemCall.{SystemCall}
use Rattle.model.specs.Capabilities.Rights.{may_write}
use Rattle.model.specs.Capabilities.Slots.{capability_at}
use Rattle.model.specs.Kernel.Deliveries.{MayReply, as_before, to_sender, Reason, receiver, sender, waiter, caller, faulted, set_back, once_received, by_line}
use Rattle.model.specs.Kernel.Deliveries.{by_right, CallsTo, ReceivesFrom, SendsTo, Signals}
use Rattle.model.specs.Kernel.Interrupts.{Signal, binding}
use Rattle.model.specs.Kernel.Kinds.{kind_at, kind_of}
use Rattle.model.specs.Kernel.Messages.{a0, delivered, message_between}
use Rattle.model.specs.Kernel.Retype.{NewEndpoint, NewNotification}
use Rattle.model.specs.Kernel.State.{State, Inactive, Runnable, Blocked, AwaitsReply, AwaitsHandler, Sender, Sent, BySend, ByCall, ByFault, ThreadState}
use Rattle.model.specs.Kernel.State.{Object, EndpointObject, EndpointState, as_endpoint, endpoint_at, new_endpoint, thread_at}
use Rattle.model.specs.Kernel.Steps.{named_slot}
use Rattle.model.specs.Machine.Effects.{advanced}
use Rattle.model.specs.Machine.ProgramMemory.{write}

pub blocked_is : (a b : ℕ) (t : ThreadState) → t.status ≡ Blocked a → t.status ≡ Blocked b → a ≡ b
blocked_is a b t one two = let e : Blocked a ≡ Blocked b = sym one ∙ two in cc

pub stops_differ : (old : ThreadState) (endpoint : ℕ) → old.status ≡ Blocked endpoint → old ≢ record old { status = Inactive }
stops_differ old endpoint waits same = let e : Blocked endpoint ≡ Inactive = sym waits ∙ ap (λ (t : ThreadState). t.status) same in cc

pub never_stopped : (s after : State) (self : ℕ) (Held : (SystemCall → Cap → Type 0) → Type 0) (other endpoint : ℕ) (old : ThreadState)
    → old.status ≡ Blocked endpoint
    → (endpoint_at s endpoint).senders ≡ [] → Reason s after self Held other old (record old { status = Inactive }) → ⊥
never_stopped s after self Held other endpoint old waits nobody (receiver e badge c first blocked held right is comes) =
    let f : Inactive ≡ Runnable = ap (λ (t : ThreadState). t.status) is in cc
never_stopped s after self Held other endpoint old waits nobody (sender e first takes names blocked held is comes) =
    let here : e ≡ endpoint = blocked_is e endpoint old blocked waits in
    let f : [] ≡ first ∷ (endpoint_at after e).senders = sym (ap (λ (n : ℕ). (endpoint_at s n).senders) here ∙ nobody) ∙ takes.leaves in cc
never_stopped s after self Held other endpoint old waits nobody (waiter n badge first blocked held is) =
    let f : Inactive ≡ Runnable = ap (λ (t : ThreadState). t.status) is in cc
never_stopped s after self Held other endpoint old waits nobody (caller right awaits is comes) =
    let f : Blocked endpoint ≡ AwaitsReply = sym waits ∙ awaits in cc
never_stopped s after self Held other endpoint old waits nobody (faulted right awaits is) = let f : Blocked endpoint ≡ AwaitsHandler = sym waits ∙ awaits in cc
never_stopped s after self Held other endpoint old waits nobody (set_back queue blocked there gone is) =
    let f : Inactive ≡ Runnable = ap (λ (t : ThreadState). t.status) is in cc

pub no_word : (s after : State) (self : ℕ) (Held : (SystemCall → Cap → Type 0) → Type 0) (other : ℕ) (old new : ThreadState) → old.status ≡ AwaitsReply
    → (thread_at s self).caller ≡ None → Reason s after self Held other old new → ⊥
no_word s after self Held other old new waits nobody (receiver e badge c first blocked held right is comes) =
    let f : AwaitsReply ≡ Blocked e = sym waits ∙ blocked in cc
no_word s after self Held other old new waits nobody (sender e first there names blocked held is comes) =
    let f : AwaitsReply ≡ Blocked e = sym waits ∙ blocked in cc
no_word s after self Held other old new waits nobody (waiter n badge first blocked held is) = let f : AwaitsReply ≡ Blocked n = sym waits ∙ blocked in cc
no_word s after self Held other old new waits nobody (caller right awaits is comes) = let f : None ≡ Some other = sym nobody ∙ right in cc
no_word s after self Held other old new waits nobody (faulted right awaits is) = let f : AwaitsReply ≡ AwaitsHandler = sym waits ∙ awaits in cc
no_word s after self Held other old new waits nobody (set_back queue blocked there gone is) = let f : AwaitsReply ≡ Blocked queue = sym waits ∙ blocked in cc

-- ---- rights to reply

pub third_differs : (old new : ThreadState) (third : ℕ) → old.caller ≡ None → new.caller ≡ Some third → old ≢ new
third_differs old new third none has same = let e : None ≡ Some third = sym none ∙ ap (λ (t : ThreadState). t.caller) same ∙ has in cc

not_third : (after : State) (self : ℕ) (Held : (SystemCall → Cap → Type 0) → Type 0) (endpoint badge third : ℕ) (before c : Option ℕ) → third ≢ self
    → before ≡ None
    → c ≡ Some third → MayReply after self Held endpoint badge before c → ⊥
not_third after self Held endpoint badge third before c another none has (as_before same) = let e : None ≡ Some third = sym none ∙ sym same ∙ has in cc
not_third after self Held endpoint badge third before c another none has (to_sender names is waits) =
    let e : Some third ≡ Some self = sym has ∙ is in
    let f : third ≡ self = cc in another f

pub received_caller : (first : Sender) (sent : Sent) (old : ThreadState) → (once_received first sent old).caller ≡ old.caller
received_caller first BySend old = refl
received_caller first ByCall old = refl
received_caller first (ByFault message) old = refl

pub no_third : (s after : State) (self : ℕ) (Held : (SystemCall → Cap → Type 0) → Type 0) (other third endpoint : ℕ) (old new : ThreadState) → third ≢ self
    → old.status ≡ Blocked endpoint → old.caller ≡ None → new.caller ≡ Some third → Reason s after self Held other old new → ⊥
no_third s after self Held other third endpoint old new another waits none has (receiver e badge c first blocked held right is comes) =
    not_third after self Held e badge third old.caller c another none (sym (ap (λ (t : ThreadState). t.caller) is) ∙ has) right
no_third s after self Held other third endpoint old new another waits none has (sender e first there names blocked held is comes) =
    let f : None ≡ Some third = sym none ∙ sym (received_caller first first.sent old) ∙ sym (ap (λ (t : ThreadState). t.caller) is) ∙ has in cc
no_third s after self Held other third endpoint old new another waits none has (waiter n badge first blocked held is) =
    let f : None ≡ Some third = sym none ∙ sym (ap (λ (t : ThreadState). t.caller) is) ∙ has in cc
no_third s after self Held other third endpoint old new another waits none has (caller right awaits is comes) =
    let f : Blocked endpoint ≡ AwaitsReply = sym waits ∙ awaits in cc
no_third s after self Held other third endpoint old new another waits none has (faulted right awaits is) =
    let f : Blocked endpoint ≡ AwaitsHandler = sym waits ∙ awaits in cc
no_third s after self Held other third endpoint old new another waits none has (set_back queue blocked there gone is) =
    let f : None ≡ Some third = sym none ∙ sym (ap (λ (t : ThreadState). t.caller) is) ∙ has in cc

-- ---- badges

-- who waits at a queue that stays, where nobody sends, is a receiver, or a waiter
pub receivers_badge : (s after : State) (self : ℕ) (Held : (SystemCall → Cap → Type 0) → Type 0) (other endpoint badge : ℕ) (old new : ThreadState)
    → old.status ≡ Blocked endpoint → (endpoint_at s endpoint).senders ≡ [] → after.objects endpoint ≢ None
    → ((e b : ℕ) → Held (SendsTo e b) → b ≡ badge) → ((n b : ℕ) → Held (Signals s after n b) → ⊥) → Reason s after self Held other old new
    → new.registers ≡ advanced (delivered old.registers badge (message_between s self other))
receivers_badge s after self Held other endpoint badge old new waits nobody stays badges no_signal (receiver e b c first blocked held right is comes) =
    ap (λ (t : ThreadState). t.registers) is ∙ ap (λ (n : ℕ). advanced (delivered old.registers n (message_between s self other))) (badges e b held)
receivers_badge s after self Held other endpoint badge old new waits nobody stays badges no_signal (sender e first takes names blocked held is comes) =
    let here : e ≡ endpoint = blocked_is e endpoint old blocked waits in
    let f : [] ≡ first ∷ (endpoint_at after e).senders = sym (ap (λ (n : ℕ). (endpoint_at s n).senders) here ∙ nobody) ∙ takes.leaves in absurd cc
receivers_badge s after self Held other endpoint badge old new waits nobody stays badges no_signal (waiter n b first blocked held is) =
    absurd (no_signal n b held)
receivers_badge s after self Held other endpoint badge old new waits nobody stays badges no_signal (caller right awaits is comes) =
    let f : Blocked endpoint ≡ AwaitsReply = sym waits ∙ awaits in absurd cc
receivers_badge s after self Held other endpoint badge old new waits nobody stays badges no_signal (faulted right awaits is) =
    let f : Blocked endpoint ≡ AwaitsHandler = sym waits ∙ awaits in absurd cc
receivers_badge s after self Held other endpoint badge old new waits nobody stays badges no_signal (set_back queue blocked there gone is) =
    absurd (stays (ap after.objects (blocked_is endpoint queue old waits blocked) ∙ gone))

pub waiters_badge : (s after : State) (self : ℕ) (Held : (SystemCall → Cap → Type 0) → Type 0) (other notification badge : ℕ) (old new : ThreadState)
    → old.status ≡ Blocked notification → after.objects notification ≢ None
    → ((n b : ℕ) → Held (Signals s after n b) → b ≡ badge) → ((e b : ℕ) → Held (SendsTo e b) → ⊥) → ((e : ℕ) → Held (ReceivesFrom e) → ⊥)
    → Reason s after self Held other old new → new.registers ≡ advanced (write old.registers a0 badge)
waiters_badge s after self Held other notification badge old new waits stays badges no_send no_receive (receiver e b c first blocked held right is comes) =
    absurd (no_send e b held)
waiters_badge s after self Held other notification badge old new waits stays badges no_send no_receive (sender e first there names blocked held is comes) =
    absurd (no_receive e held)
waiters_badge s after self Held other notification badge old new waits stays badges no_send no_receive (waiter n b first blocked held is) =
    ap (λ (t : ThreadState). t.registers) is ∙ ap (λ (m : ℕ). advanced (write old.registers a0 m)) (badges n b held)
waiters_badge s after self Held other notification badge old new waits stays badges no_send no_receive (caller right awaits is comes) =
    let f : Blocked notification ≡ AwaitsReply = sym waits ∙ awaits in absurd cc
waiters_badge s after self Held other notification badge old new waits stays badges no_send no_receive (faulted right awaits is) =
    let f : Blocked notification ≡ AwaitsHandler = sym waits ∙ awaits in absurd cc
waiters_badge s after self Held other notification badge old new waits stays badges no_send no_receive (set_back queue blocked there gone is) =
    absurd (stays (ap after.objects (blocked_is notification queue old waits blocked) ∙ gone))

-- a call that names nothing
pub nothing_reached : (s after : State) (self : ℕ) (Held : (SystemCall → Cap → Type 0) → Type 0) (other queue : ℕ) (old new : ThreadState)
    → old.status ≡ Blocked queue
    → after.objects queue ≢ None → ((Such : SystemCall → Cap → Type 0) → Held Such → ⊥) → Reason s after self Held other old new → ⊥
nothing_reached s after self Held other queue old new waits stays none (receiver e b c first blocked held right is comes) = none (SendsTo e b) held
nothing_reached s after self Held other queue old new waits stays none (sender e first there names blocked held is comes) = none (ReceivesFrom e) held
nothing_reached s after self Held other queue old new waits stays none (waiter n b first blocked held is) = none (Signals s after n b) held
nothing_reached s after self Held other queue old new waits stays none (caller right awaits is comes) =
    let f : Blocked queue ≡ AwaitsReply = sym waits ∙ awaits in cc
nothing_reached s after self Held other queue old new waits stays none (faulted right awaits is) =
    let f : Blocked queue ≡ AwaitsHandler = sym waits ∙ awaits in cc
nothing_reached s after self Held other queue old new waits stays none (set_back q blocked there gone is) =
    stays (ap after.objects (blocked_is queue q old waits blocked) ∙ gone)

-- a call names one capability
pub named-capability : (s : State) (self a b : ℕ) → named_slot s self ≡ Ok a → named_slot s self ≡ Ok b → capability_at s.slots a ≡ capability_at s.slots b
named-capability s self a b one two =
    let e : Ok a ≡ Ok b = sym one ∙ two in
    let same : a ≡ b = cc in ap (capability_at s.slots) same

pub no-signal : (s after : State) (n b endpoint badge : ℕ) (r : Rights) (call : SystemCall) (capability : Cap)
    → capability ≡ Endpoint endpoint r badge → Signals s after n b call capability → ⊥
no-signal s after n b endpoint badge r call capability is (by_right allowed sends other writes) =
    let f : Endpoint endpoint r badge ≡ Notification n allowed b = sym is
    ∙ other in cc
no-signal s after n b endpoint badge r call capability is (by_line number sends other bound pending gone) =
    let f : Endpoint endpoint r badge ≡ InterruptHandler number = sym is ∙ other in cc

pub one-signal : (s after : State) (n b notification badge : ℕ) (r : Rights) (call : SystemCall) (capability : Cap)
    → capability ≡ Notification notification r badge →
    Signals s after n b call capability → b ≡ badge
one-signal s after n b notification badge r call capability is (by_right allowed sends other writes) =
    let f : Notification n allowed b ≡ Notification notification r badge = sym other ∙ is in cc
one-signal s after n b notification badge r call capability is (by_line number sends other bound pending gone) =
    let f : Notification notification r badge ≡ InterruptHandler number = sym is ∙ other in absurd cc

-- who signals by a notification's capability may write by it
pub signal-writes : (s after : State) (n b notification badge : ℕ) (r : Rights) (call : SystemCall) (capability : Cap)
    → capability ≡ Notification notification r badge →
    Signals s after n b call capability → may_write r ≡ true
signal-writes s after n b notification badge r call capability is (by_right allowed sends other writes) =
    let f : Notification n allowed b ≡ Notification notification r badge = sym other ∙ is in
    let same : allowed ≡ r = cc in subst (λ (q : Rights). may_write q ≡ true) same writes
signal-writes s after n b notification badge r call capability is (by_line number sends other bound pending gone) =
    let f : Notification notification r badge ≡ InterruptHandler number = sym is ∙ other in absurd cc

-- a handler signals what its line is bound to
pub line-signal : (s after : State) (n b number badge : ℕ) (call : SystemCall) (capability : Cap) → capability ≡ InterruptHandler number
    → binding s number ≡ Some (record { notification = n; badge = badge }) → Signals s after n b call capability → b ≡ badge
line-signal s after n b number badge call capability is bound (by_right allowed sends other writes) =
    let f : Notification n allowed b ≡ InterruptHandler number = sym other ∙ is in absurd cc
line-signal s after n b number badge call capability is bound (by_line line sends other there pending gone) =
    let f : InterruptHandler line ≡ InterruptHandler number = sym other ∙ is in
    let same : line ≡ number = cc in
    ap (λ (o : Option Signal). option_map_or (λ signal. signal.badge) o 0) (sym there ∙ ap (binding s) same ∙ bound)

-- ---- what a right to reply, a signal and a queue ask

-- the right to reply to a thread comes by a capability that grants it
pub granted-by : (s after : State) (self : ℕ) (Held : (SystemCall → Cap → Type 0) → Type 0) (other endpoint : ℕ) (old new : ThreadState)
    → old.status ≡ Blocked endpoint → old.caller ≡ None → new.caller ≡ Some self → ((e b : ℕ) → Held (CallsTo e b) → ⊥)
    → Reason s after self Held other old new → ⊥
granted-by s after self Held other endpoint old new waits none has refused (receiver e badge c first blocked held (as_before same) is comes) =
    let f : None ≡ Some self = sym none ∙ sym same ∙ sym (ap (λ (t : ThreadState). t.caller) is) ∙ has in cc
granted-by s after self Held other endpoint old new waits none has refused (receiver e badge c first blocked held (to_sender names to waiting) is comes) =
    refused e badge names
granted-by s after self Held other endpoint old new waits none has refused (sender e first there names blocked held is comes) =
    let f : None ≡ Some self = sym none ∙ sym (received_caller first first.sent old) ∙ sym (ap (λ (t : ThreadState). t.caller) is) ∙ has in cc
granted-by s after self Held other endpoint old new waits none has refused (waiter n badge first blocked held is) =
    let f : None ≡ Some self = sym none ∙ sym (ap (λ (t : ThreadState). t.caller) is) ∙ has in cc
granted-by s after self Held other endpoint old new waits none has refused (caller right awaits is comes) =
    let f : Blocked endpoint ≡ AwaitsReply = sym waits ∙ awaits in cc
granted-by s after self Held other endpoint old new waits none has refused (faulted right awaits is) =
    let f : Blocked endpoint ≡ AwaitsHandler = sym waits ∙ awaits in cc
granted-by s after self Held other endpoint old new waits none has refused (set_back queue blocked there gone is) =
    let f : None ≡ Some self = sym none ∙ sym (ap (λ (t : ThreadState). t.caller) is) ∙ has in cc

-- who waits at a queue that stays changes by no call that neither sends, receives nor signals
pub nothing_signalled : (s after : State) (self : ℕ) (Held : (SystemCall → Cap → Type 0) → Type 0) (other queue : ℕ) (old new : ThreadState)
    → old.status ≡ Blocked queue
    → after.objects queue ≢ None → ((e b : ℕ) → Held (SendsTo e b) → ⊥) → ((e : ℕ) → Held (ReceivesFrom e) → ⊥) → ((n b : ℕ) → Held (Signals s after n b) → ⊥)
    → Reason s after self Held other old new → ⊥
nothing_signalled s after self Held other queue old new waits stays no_send no_receive no_signal (receiver e b c first blocked held right is comes) =
    no_send e b held
nothing_signalled s after self Held other queue old new waits stays no_send no_receive no_signal (sender e first there names blocked held is comes) =
    no_receive e held
nothing_signalled s after self Held other queue old new waits stays no_send no_receive no_signal (waiter n b first blocked held is) =
    no_signal n b held
nothing_signalled s after self Held other queue old new waits stays no_send no_receive no_signal (caller right awaits is comes) =
    let f : Blocked queue ≡ AwaitsReply = sym waits ∙ awaits in cc
nothing_signalled s after self Held other queue old new waits stays no_send no_receive no_signal (faulted right awaits is) =
    let f : Blocked queue ≡ AwaitsHandler = sym waits ∙ awaits in cc
nothing_signalled s after self Held other queue old new waits stays no_send no_receive no_signal (set_back q blocked there gone is) =
    stays (ap after.objects (blocked_is queue q old waits blocked) ∙ gone)

-- a handler signals nothing where no interrupt is pending
pub idle-line : (s after : State) (n b number : ℕ) (call : SystemCall) (capability : Cap) → capability ≡ InterruptHandler number → s.pending number ≡ false
    → Signals s after n b call capability → ⊥
idle-line s after n b number call capability is idle (by_right allowed sends other writes) =
    let f : Notification n allowed b ≡ InterruptHandler number = sym other ∙ is in cc
idle-line s after n b number call capability is idle (by_line line sends other there pending gone) =
    let f : InterruptHandler line ≡ InterruptHandler number = sym other ∙ is in
    let same : line ≡ number = cc in
    let clash : true ≡ false = sym pending ∙ ap s.pending same ∙ idle in cc

-- a queue that stays serves nobody
longer : {A : Type 0} (x : A) (xs : List A) → xs ≡ x ∷ xs → ⊥
longer x [] is = let e : [] ≡ x ∷ [] = is in cc
longer x (y ∷ xs) is =
    let rest : xs ≡ y ∷ xs = cc in
    longer y xs rest

pub queue-stays : (s after : State) (self : ℕ) (Held : (SystemCall → Cap → Type 0) → Type 0) (other endpoint : ℕ) (e : EndpointState) (old new : ThreadState)
    → s.objects endpoint ≡ Some (EndpointObject e) → after.objects endpoint ≡ Some (EndpointObject e) → e.senders ≡ []
    → old.status ≡ Blocked endpoint → Reason s after self Held other old new → ⊥
queue-stays s after self Held other endpoint e old new here there nobody waits (receiver at badge c takes blocked held right is comes) =
    let place : at ≡ endpoint = blocked_is at endpoint old blocked waits in
    let was : (endpoint_at s at).receivers ≡ e.receivers = ap (λ (n : ℕ). (endpoint_at s n).receivers) place
    ∙ ap (λ (o : Option Object). (option_map_or (λ (x : EndpointState). x) (as_endpoint o) new_endpoint).receivers) here in
    let now : (endpoint_at after at).receivers ≡ e.receivers = ap (λ (n : ℕ). (endpoint_at after n).receivers) place
    ∙ ap (λ (o : Option Object). (option_map_or (λ (x : EndpointState). x) (as_endpoint o) new_endpoint).receivers) there in
    longer other e.receivers (sym was ∙ takes.leaves ∙ ap (λ (l : List ℕ). other ∷ l) now)
queue-stays s after self Held other endpoint e old new here there nobody waits (sender at first takes names blocked held is comes) =
    let place : at ≡ endpoint = blocked_is at endpoint old blocked waits in
    let was : (endpoint_at s at).senders ≡ [] = ap (λ (n : ℕ). (endpoint_at s n).senders) place
    ∙ ap (λ (o : Option Object). (option_map_or (λ (x : EndpointState). x) (as_endpoint o) new_endpoint).senders) here ∙ nobody in
    let f : [] ≡ first ∷ (endpoint_at after at).senders = sym was ∙ takes.leaves in cc
queue-stays s after self Held other endpoint e old new here there nobody waits (waiter n badge takes blocked held is) =
    let place : n ≡ endpoint = blocked_is n endpoint old blocked waits in
    let f : Some NewNotification ≡ Some NewEndpoint = sym takes.was ∙ ap (kind_at s) place ∙ ap (option_map kind_of) here in cc
queue-stays s after self Held other endpoint e old new here there nobody waits (caller right awaits is comes) =
    let f : Blocked endpoint ≡ AwaitsReply = sym waits ∙ awaits in cc
queue-stays s after self Held other endpoint e old new here there nobody waits (faulted right awaits is) =
    let f : Blocked endpoint ≡ AwaitsHandler = sym waits ∙ awaits in cc
queue-stays s after self Held other endpoint e old new here there nobody waits (set_back queue blocked full gone is) =
    let place : endpoint ≡ queue = blocked_is endpoint queue old waits blocked in
    let f : Some (EndpointObject e) ≡ None = sym there ∙ ap after.objects place ∙ gone in cc
