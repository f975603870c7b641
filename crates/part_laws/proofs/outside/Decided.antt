-- Whether two threads, two notifications, or two entries of slots are the same: authority says why what differs does, and so that what has no
-- reason is the same.
use Rattle.std.proofs.Common.{ℕ, ◌≡◌, ◌≢◌, ◌∙◌, ◌==◌, ◌⊎◌, if◌then◌else◌, sym, inl, inr, List, [], ◌∷◌, Option, Some, None, refl, ap, ap₂, Bool, true, false}
use Rattle.std.proofs.lemmas.Bool.Decides.{eqb_tells}
use Rattle.std.proofs.lemmas.Option.{none-some, same_Some}
use Rattle.model.specs.declared.faults.FaultKind.{FaultKind}
use Rattle.model.specs.declared.faults.FaultKind.TheVariants.{Capability, UnknownCall, Instruction, Memory}
use Rattle.model.specs.Kernel.State.{BySend, ByCall, ByFault, EndpointState, FaultMessage, NotificationState, Sender, Sent, Status, Inactive, Runnable}
use Rattle.model.specs.Kernel.State.{Blocked, AwaitsReply, AwaitsHandler, ThreadState}
use Rattle.model.specs.Machine.ProgramMemory.{RegisterFile}

abbrev pub Decided : {A : Type 0} → A → A → Type 0
Decided a b = (a ≡ b) ⊎ (a ≢ b)

-- what does not differ is the same
pub settled : {A : Type 0} (a b : A) → Decided a b → (a ≢ b → ⊥) → a ≡ b
settled a b (inl same) never = same
settled a b (inr differ) never = absurd (never differ)

pub numbers : (a b : ℕ) → Decided a b
numbers a b = elim (eqb_tells a b) [ inl same ↦ inl same.1 | inr apart ↦ inr apart.1 ]

pub lists : (xs ys : List ℕ) → Decided xs ys
lists [] [] = inl refl
lists [] (y ∷ ys) = inr (λ same. absurd (let clash : ◌≡◌ {A = List ℕ} [] (y ∷ ys) = same in cc))
lists (x ∷ xs) [] = inr (λ same. absurd (let clash : ◌≡◌ {A = List ℕ} (x ∷ xs) [] = same in cc))
lists (x ∷ xs) (y ∷ ys) = elim (numbers x y) [
  | inr apart ↦ inr (λ same. apart (let e : ◌≡◌ {A = List ℕ} (x ∷ xs) (y ∷ ys) = same in cc))
  | inl here ↦ elim (lists xs ys) [
    | inr apart ↦ inr (λ same. apart (let e : ◌≡◌ {A = List ℕ} (x ∷ xs) (y ∷ ys) = same in cc))
    | inl rest ↦ inl (ap₂ (λ (a : ℕ) (b : List ℕ). a ∷ b) here rest)
  ]
]

pub some-numbers : (a b : Option ℕ) → Decided a b
some-numbers None None = inl refl
some-numbers None (Some b) = inr (λ same. absurd (none-some b same))
some-numbers (Some a) None = inr (λ same. absurd (let clash : ◌≡◌ {A = Option ℕ} (Some a) None = same in cc))
some-numbers (Some a) (Some b) = elim (numbers a b) [
  | inl same ↦ inl (ap (λ (n : ℕ). Some n) same)
  | inr apart ↦ inr (λ same. apart (same_Some a b same))
]

-- both parts, or one that differs
pub both : {A B C : Type 0} (a : A → B) (b : A → C) (x y : A) → ((a x ≡ a y) → (b x ≡ b y) → x ≡ y) → Decided (a x) (a y) → Decided (b x) (b y) → Decided x y
both a b x y join (inl first) (inl second) = inl (join first second)
both a b x y join (inr apart) second = inr (λ same. apart (ap a same))
both a b x y join (inl first) (inr apart) = inr (λ same. apart (ap b same))

pub files : (a b : RegisterFile) → Decided a b
files a b =
    both (λ (r : RegisterFile). r.pc) (λ (r : RegisterFile). r.words) a b (λ pc words. λ i. record { pc = pc i; words = words i }) (numbers a.pc b.pc)
    (lists a.words b.words)

pub notifications : (a b : NotificationState) → Decided a b
notifications a b =
    both (λ (n : NotificationState). n.word) (λ (n : NotificationState). n.waiters) a b (λ word waiters. λ i. record { word = word i; waiters = waiters i })
    (numbers a.word b.word) (lists a.waiters b.waiters)

pub statuses : (a b : Status) → Decided a b
statuses Inactive Inactive = inl refl
statuses Inactive Runnable = inr (λ same. absurd (let clash : Inactive ≡ Runnable = same in cc))
statuses Inactive (Blocked q) = inr (λ same. absurd (let clash : Inactive ≡ Blocked q = same in cc))
statuses Inactive AwaitsReply = inr (λ same. absurd (let clash : Inactive ≡ AwaitsReply = same in cc))
statuses Inactive AwaitsHandler = inr (λ same. absurd (let clash : Inactive ≡ AwaitsHandler = same in cc))
statuses Runnable Inactive = inr (λ same. absurd (let clash : Runnable ≡ Inactive = same in cc))
statuses Runnable Runnable = inl refl
statuses Runnable (Blocked q) = inr (λ same. absurd (let clash : Runnable ≡ Blocked q = same in cc))
statuses Runnable AwaitsReply = inr (λ same. absurd (let clash : Runnable ≡ AwaitsReply = same in cc))
statuses Runnable AwaitsHandler = inr (λ same. absurd (let clash : Runnable ≡ AwaitsHandler = same in cc))
statuses (Blocked p) Inactive = inr (λ same. absurd (let clash : Blocked p ≡ Inactive = same in cc))
statuses (Blocked p) Runnable = inr (λ same. absurd (let clash : Blocked p ≡ Runnable = same in cc))
statuses (Blocked p) (Blocked q) = elim (numbers p q) [
  | inl same ↦ inl (ap Blocked same)
  | inr apart ↦ inr (λ same. apart (let e : Blocked p ≡ Blocked q = same in cc))
]
statuses (Blocked p) AwaitsReply = inr (λ same. absurd (let clash : Blocked p ≡ AwaitsReply = same in cc))
statuses (Blocked p) AwaitsHandler = inr (λ same. absurd (let clash : Blocked p ≡ AwaitsHandler = same in cc))
statuses AwaitsReply Inactive = inr (λ same. absurd (let clash : AwaitsReply ≡ Inactive = same in cc))
statuses AwaitsReply Runnable = inr (λ same. absurd (let clash : AwaitsReply ≡ Runnable = same in cc))
statuses AwaitsReply (Blocked q) = inr (λ same. absurd (let clash : AwaitsReply ≡ Blocked q = same in cc))
statuses AwaitsReply AwaitsReply = inl refl
statuses AwaitsReply AwaitsHandler = inr (λ same. absurd (let clash : AwaitsReply ≡ AwaitsHandler = same in cc))
statuses AwaitsHandler Inactive = inr (λ same. absurd (let clash : AwaitsHandler ≡ Inactive = same in cc))
statuses AwaitsHandler Runnable = inr (λ same. absurd (let clash : AwaitsHandler ≡ Runnable = same in cc))
statuses AwaitsHandler (Blocked q) = inr (λ same. absurd (let clash : AwaitsHandler ≡ Blocked q = same in cc))
statuses AwaitsHandler AwaitsReply = inr (λ same. absurd (let clash : AwaitsHandler ≡ AwaitsReply = same in cc))
statuses AwaitsHandler AwaitsHandler = inl refl

-- ---- endpoints, by numbers that they spell

abbrev kind_code : FaultKind → ℕ
kind_code Capability = 0
kind_code UnknownCall = 1
kind_code Instruction = 2
kind_code Memory = 3

abbrev of_kind : ℕ → FaultKind
of_kind n = if n == 0 then Capability else if n == 1 then UnknownCall else if n == 2 then Instruction else Memory

kind-back : (k : FaultKind) → of_kind (kind_code k) ≡ k
kind-back Capability = refl
kind-back UnknownCall = refl
kind-back Instruction = refl
kind-back Memory = refl

pub bools : (a b : Bool) → Decided a b
bools true true = inl refl
bools true false = inr (λ same. absurd (let clash : true ≡ false = same in cc))
bools false true = inr (λ same. absurd (let clash : false ≡ true = same in cc))
bools false false = inl refl

kinds : (a b : FaultKind) → Decided a b
kinds a b = elim (numbers (kind_code a) (kind_code b)) [
  | inl same ↦ inl (sym (kind-back a) ∙ ap of_kind same ∙ kind-back b)
  | inr apart ↦ inr (λ same. apart (ap kind_code same))
]

messages : (a b : FaultMessage) → Decided a b
messages a b =
    both (λ (m : FaultMessage). m.kind) (λ (m : FaultMessage). m.words) a b (λ kind words. λ i. record { kind = kind i; words = words i }) (kinds a.kind b.kind)
    (lists a.words b.words)

sents : (a b : Sent) → Decided a b
sents BySend BySend = inl refl
sents BySend ByCall = inr (λ same. absurd (let clash : BySend ≡ ByCall = same in cc))
sents BySend (ByFault f) = inr (λ same. absurd (let clash : BySend ≡ ByFault f = same in cc))
sents ByCall BySend = inr (λ same. absurd (let clash : ByCall ≡ BySend = same in cc))
sents ByCall ByCall = inl refl
sents ByCall (ByFault f) = inr (λ same. absurd (let clash : ByCall ≡ ByFault f = same in cc))
sents (ByFault e) BySend = inr (λ same. absurd (let clash : ByFault e ≡ BySend = same in cc))
sents (ByFault e) ByCall = inr (λ same. absurd (let clash : ByFault e ≡ ByCall = same in cc))
sents (ByFault e) (ByFault f) = elim (messages e f) [
  | inl same ↦ inl (ap ByFault same)
  | inr apart ↦ inr (λ same. apart (let e2 : ByFault e ≡ ByFault f = same in cc))
]

-- a thread as pairs
abbrev Fields : Type 0
Fields = (RegisterFile × (Status × (Option ℕ × (ℕ × (ℕ × ℕ)))))

abbrev fields_of : ThreadState → Fields
fields_of t = (t.registers, (t.status, (t.caller, (t.priority, (t.slice, t.fault_address)))))

abbrev of_fields : Fields → ThreadState
of_fields (registers, (status, (caller, (priority, (slice, fault))))) = record {
  registers = registers;
  priority = priority;
  slice = slice;
  fault_address = fault;
  status = status;
  caller = caller;
}

pub pairs : {A B : Type 0} (x y : A × B) → Decided x.0 y.0 → Decided x.1 y.1 → Decided x y
pairs x y = both (λ p. p.0) (λ p. p.1) x y (λ first second. λ i. (first i, second i))

-- a sender as pairs
abbrev sender_fields : Sender → ℕ × (Sent × (ℕ × Bool))
sender_fields x = (x.thread, (x.sent, (x.badge, x.grant_reply)))

abbrev of_sender : ℕ × (Sent × (ℕ × Bool)) → Sender
of_sender (thread, (sent, (badge, grants))) = record { thread = thread; sent = sent; badge = badge; grant_reply = grants }

senders : (a b : Sender) → Decided a b
senders a b =
    elim (pairs (sender_fields a) (sender_fields b) (numbers a.thread b.thread)
    (pairs _ _ (sents a.sent b.sent) (pairs _ _ (numbers a.badge b.badge) (bools a.grant_reply b.grant_reply)))) [
      | inl same ↦ inl (ap of_sender same)
      | inr apart ↦ inr (λ same. apart (ap sender_fields same))
    ]

sender-lists : (xs ys : List Sender) → Decided xs ys
sender-lists [] [] = inl refl
sender-lists [] (y ∷ ys) = inr (λ same. absurd (let clash : ◌≡◌ {A = List Sender} [] (y ∷ ys) = same in cc))
sender-lists (x ∷ xs) [] = inr (λ same. absurd (let clash : ◌≡◌ {A = List Sender} (x ∷ xs) [] = same in cc))
sender-lists (x ∷ xs) (y ∷ ys) = elim (senders x y) [
  | inr apart ↦ inr (λ same. apart (let e : ◌≡◌ {A = List Sender} (x ∷ xs) (y ∷ ys) = same in cc))
  | inl here ↦ elim (sender-lists xs ys) [
    | inr apart ↦ inr (λ same. apart (let e : ◌≡◌ {A = List Sender} (x ∷ xs) (y ∷ ys) = same in cc))
    | inl rest ↦ inl (ap₂ (λ (a : Sender) (b : List Sender). a ∷ b) here rest)
  ]
]

pub endpoints : (a b : EndpointState) → Decided a b
endpoints a b =
    both (λ (e : EndpointState). e.senders) (λ (e : EndpointState). e.receivers) a b
    (λ senders receivers. λ i. record { senders = senders i; receivers = receivers i }) (sender-lists a.senders b.senders) (lists a.receivers b.receivers)

pub threads : (a b : ThreadState) → Decided a b
threads a b =
    elim (pairs (fields_of a) (fields_of b) (files a.registers b.registers)
    (pairs _ _ (statuses a.status b.status)
    (pairs _ _ (some-numbers a.caller b.caller)
    (pairs _ _ (numbers a.priority b.priority) (pairs _ _ (numbers a.slice b.slice) (numbers a.fault_address b.fault_address)))))) [
      | inl same ↦ inl (ap of_fields same)
      | inr apart ↦ inr (λ same. apart (ap fields_of same))
    ]
