-- What a change of an endpoint's or a notification's queue says of who joined it, and by which capability.
use Rattle.std.proofs.Common.{ℕ, zero, suc, true, ◌≡◌, ◌≢◌, ◌++◌, Some, Ok, List, [], ◌∷◌, Contains, sym, ◌∙◌, ap, subst, inl, inr}
use Rattle.std.proofs.Common.{arith}
use Rattle.std.specs.Prelude.{bit_or}
use Rattle.std.proofs.lemmas.List.Elements.{Contains-append_cases, Contains-append_right}
use Rattle.model.specs.declared.capabilities.Cap.TheVariants.{Endpoint, InterruptHandler, Notification}
use Rattle.model.specs.declared.rights.Rights.{Rights}
use Rattle.model.specs.declared.system_calls.SystemCall.{SystemCall}
use Rattle.model.specs.Acceptance.Authority.{AsksAs, EndpointChange, waits_to_send, waits_to_receive, takes_sender, takes_receiver, NotificationChange, joins}
use Rattle.model.specs.Acceptance.Authority.{passes_on, taken, waits, self_of}
use Rattle.model.specs.Capabilities.Rights.{may_grant_reply, may_write}
use Rattle.model.specs.Capabilities.Slots.{capability_at}
use Rattle.model.specs.Images.Image.{Image, Thread}
use Rattle.model.specs.Kernel.Deliveries.{Signals}
use Rattle.model.specs.Kernel.Interrupts.{binding}
use Rattle.model.specs.Kernel.State.{State, Blocked, EndpointState, NotificationState, Sender, thread_at}
use Rattle.model.specs.Kernel.Steps.{named_slot}
use Rattle.model_laws.proofs.Reasons.{named-capability, line-signal, one-signal, signal-writes}

-- ---- members

only : {A : Type 0} (last x : A) → Contains (last ∷ []) x → last ≡ x
only last x (zero, less, is) = is
only last x (suc k, less, is) = absurd (omega (arith, less))

-- one more at the end is the one that is new
joined : {A : Type 0} (old new : List A) (last x : A) → new ≡ old ++ last ∷ [] → Contains new x → (Contains old x → ⊥) → last ≡ x
joined old new last x is among fresh =
    elim (Contains-append_cases old (last ∷ []) x (subst (λ (l : List _). Contains l x) is among)) [
      | inl before ↦ absurd (fresh before)
      | inr here ↦ only last x here
    ]

-- nobody is new where the list stays, or loses its first
pub stays-old : {A : Type 0} (old new : List A) (x : A) → new ≡ old → Contains new x → Contains old x
stays-old old new x is among = subst (λ (l : List _). Contains l x) is among

pub tail-old : {A : Type 0} (old new : List A) (first x : A) → old ≡ first ∷ new → Contains new x → Contains old x
tail-old old new first x is among = subst (λ (l : List _). Contains l x) (sym is) (Contains-append_right (first ∷ []) new x among)

-- ---- endpoints

module _ (image : Image) (t : Thread) (s after : State) (endpoint : ℕ) (old new : EndpointState) where
  -- a sender that is new asked by the capability that the call names
  pub sender-asks : EndpointChange image t s after endpoint old new → (x : Sender) → Contains new.senders x → (Contains old.senders x → ⊥)
      → AsksAs image t s endpoint x
  sender-asks (waits_to_send y asks is) x among fresh =
      subst (λ (z : Sender). AsksAs image t s endpoint z) (joined old.senders new.senders y x (ap (λ (e : EndpointState). e.senders) is) among fresh) asks
  sender-asks (waits_to_receive names is) x among fresh =
      absurd (fresh (stays-old old.senders new.senders x (ap (λ (e : EndpointState). e.senders) is) among))
  sender-asks (takes_sender first names is same served) x among fresh = absurd (fresh (tail-old old.senders new.senders first x is among))
  sender-asks (takes_receiver badge first names is same served) x among fresh = absurd (fresh (stays-old old.senders new.senders x same among))

  pub receiver-is : EndpointChange image t s after endpoint old new → (x : ℕ) → Contains new.receivers x → (Contains old.receivers x → ⊥)
      → self_of image t ≡ x
  receiver-is (waits_to_send y asks is) x among fresh =
      absurd (fresh (stays-old old.receivers new.receivers x (ap (λ (e : EndpointState). e.receivers) is) among))
  receiver-is (waits_to_receive names is) x among fresh =
      joined old.receivers new.receivers (self_of image t) x (ap (λ (e : EndpointState). e.receivers) is) among fresh
  receiver-is (takes_sender first names is same served) x among fresh = absurd (fresh (stays-old old.receivers new.receivers x same among))
  receiver-is (takes_receiver badge first names is same served) x among fresh = absurd (fresh (tail-old old.receivers new.receivers first x is among))

  -- the call names the endpoint
  pub endpoint-named : EndpointChange image t s after endpoint old new
      → (slot : ℕ) × (named_slot s (self_of image t) ≡ Ok slot)
      × ((allowed : Rights) × ((badge : ℕ) × (capability_at s.slots slot ≡ Endpoint endpoint allowed badge)))
  endpoint-named (waits_to_send y asks is) = (asks.named.slot, asks.named.named, (asks.allowed, (y.badge, asks.named.such.1)))
  endpoint-named (waits_to_receive names is) = (names.slot, names.named, (names.such.allowed, (names.such.badge, names.such.is)))
  endpoint-named (takes_sender first names is same served) = (names.slot, names.named, (names.such.allowed, (names.such.badge, names.such.is)))
  endpoint-named (takes_receiver badge first names is same served) = (names.slot, names.named, (names.such.allowed, (badge, names.such.is)))

  -- the second sender does not go before the first
  pub first-goes : EndpointChange image t s after endpoint old new → (first second : Sender) → old.senders ≡ first ∷ second ∷ [] → new.senders ≡ first ∷ []
      → second ≡ first
  first-goes (waits_to_send y asks is) first second before behind =
      let e : first ∷ [] ≡ first ∷ second ∷ y ∷ [] = sym behind ∙ ap (λ (e : EndpointState). e.senders) is ∙ ap (λ (l : List Sender). l ++ y ∷ []) before in
      absurd cc
  first-goes (waits_to_receive names is) first second before behind =
      let e : first ∷ [] ≡ first ∷ second ∷ [] = sym behind ∙ ap (λ (e : EndpointState). e.senders) is ∙ before in absurd cc
  first-goes (takes_sender gone names is same served) first second before behind =
      let e : first ∷ second ∷ [] ≡ gone ∷ first ∷ [] = sym before ∙ is ∙ ap (λ (l : List Sender). gone ∷ l) behind in cc
  first-goes (takes_receiver badge gone names is same served) first second before behind =
      let e : first ∷ [] ≡ first ∷ second ∷ [] = sym behind ∙ same ∙ before in absurd cc

  -- a receiver that leaves waits no more
  pub receiver-served : EndpointChange image t s after endpoint old new → (x : ℕ) → old.receivers ≡ x ∷ [] → new.receivers ≡ []
      → (thread_at after x).status ≡ Blocked endpoint → ⊥
  receiver-served (waits_to_send y asks is) x before behind waits_on =
      let e : [] ≡ x ∷ [] = sym behind ∙ ap (λ (e : EndpointState). e.receivers) is ∙ before in cc
  receiver-served (waits_to_receive names is) x before behind waits_on =
      let e : [] ≡ x ∷ self_of image t ∷ [] = sym behind ∙ ap (λ (e : EndpointState). e.receivers) is
      ∙ ap (λ (l : List ℕ). l ++ self_of image t ∷ []) before in cc
  receiver-served (takes_sender gone names is same served) x before behind waits_on = let e : [] ≡ x ∷ [] = sym behind ∙ same ∙ before in cc
  receiver-served (takes_receiver badge gone names is same served) x before behind waits_on =
      let e : x ∷ [] ≡ gone ∷ new.receivers = sym before ∙ is in
      let same_thread : x ≡ gone = cc in
      served (ap (λ (n : ℕ). (thread_at after n).status) (sym same_thread) ∙ waits_on)

-- the badge, and the right to get a reply, are those of the capability that the call names
asks-same : (image : Image) (t : Thread) (s : State) (endpoint slot badge : ℕ) (r : Rights) (x : Sender) (asks : AsksAs image t s endpoint x)
    → named_slot s (self_of image t) ≡ Ok slot → capability_at s.slots slot ≡ Endpoint endpoint r badge
    → Endpoint endpoint asks.allowed x.badge ≡ Endpoint endpoint r badge
asks-same image t s endpoint slot badge r x asks named holds =
    sym asks.named.such.1 ∙ named-capability s (self_of image t) asks.named.slot slot asks.named.named named ∙ holds

pub asked-badge : (image : Image) (t : Thread) (s : State) (endpoint slot badge : ℕ) (r : Rights) (x : Sender) → AsksAs image t s endpoint x
    → named_slot s (self_of image t) ≡ Ok slot → capability_at s.slots slot ≡ Endpoint endpoint r badge → x.badge ≡ badge
asked-badge image t s endpoint slot badge r x asks named holds =
    let e : Endpoint endpoint asks.allowed x.badge ≡ Endpoint endpoint r badge = asks-same image t s endpoint slot badge r x asks named holds in cc

pub asked-reply : (image : Image) (t : Thread) (s : State) (endpoint slot badge : ℕ) (r : Rights) (x : Sender) → AsksAs image t s endpoint x
    → named_slot s (self_of image t) ≡ Ok slot → capability_at s.slots slot ≡ Endpoint endpoint r badge → x.grant_reply ≡ may_grant_reply r
asked-reply image t s endpoint slot badge r x asks named holds =
    let e : Endpoint endpoint asks.allowed x.badge ≡ Endpoint endpoint r badge = asks-same image t s endpoint slot badge r x asks named holds in
    let same : asks.allowed ≡ r = cc in
    asks.replies ∙ ap may_grant_reply same

-- ---- notifications

module _ (image : Image) (t : Thread) (s after : State) (notification : ℕ) (old new : NotificationState) where
  -- the word becomes 0, stays, or is joined by the badge of the capability that the call names
  pub data WordNow : Type 0 where
    is_zero : new.word ≡ 0 → (slot : ℕ) (allowed : Rights) (badge : ℕ) → named_slot s (self_of image t) ≡ Ok slot
        → capability_at s.slots slot ≡ Notification notification allowed badge → WordNow
    is_same : new.word ≡ old.word → WordNow
    is_joined : (slot badge : ℕ) → new.word ≡ bit_or old.word badge → named_slot s (self_of image t) ≡ Ok slot
        → (call : SystemCall) → Signals s after notification badge call (capability_at s.slots slot) → WordNow

  pub word-now : NotificationChange image t s after notification old new → WordNow
  word-now (joins badge names empty is) = is_joined names.slot badge (ap (λ (n : NotificationState). n.word) is) names.named names.call names.such
  word-now (passes_on badge first names is same served) = is_same same
  word-now (taken names is) = is_zero (ap (λ (n : NotificationState). n.word) is) names.slot names.such.allowed names.such.badge names.named names.such.is
  word-now (waits names is) = is_same (ap (λ (n : NotificationState). n.word) is)

  pub waiter-is : NotificationChange image t s after notification old new → (x : ℕ) → Contains new.waiters x → (Contains old.waiters x → ⊥)
      → self_of image t ≡ x
  waiter-is (joins badge names empty is) x among fresh =
      absurd (fresh (stays-old old.waiters new.waiters x (ap (λ (n : NotificationState). n.waiters) is) among))
  waiter-is (passes_on badge first names is same served) x among fresh = absurd (fresh (tail-old old.waiters new.waiters first x is among))
  waiter-is (taken names is) x among fresh =
      absurd (fresh (stays-old old.waiters new.waiters x (ap (λ (n : NotificationState). n.waiters) is) among))
  waiter-is (waits names is) x among fresh =
      joined old.waiters new.waiters (self_of image t) x (ap (λ (n : NotificationState). n.waiters) is) among fresh

  pub slot-named : NotificationChange image t s after notification old new → (slot : ℕ) × (named_slot s (self_of image t) ≡ Ok slot)
  slot-named (joins badge names empty is) = (names.slot, names.named)
  slot-named (passes_on badge first names is same served) = (names.slot, names.named)
  slot-named (taken names is) = (names.slot, names.named)
  slot-named (waits names is) = (names.slot, names.named)

  -- by a capability to the notification
  pub joined-badge : (slot badge : ℕ) (r : Rights) → named_slot s (self_of image t) ≡ Ok slot
      → capability_at s.slots slot ≡ Notification notification r badge → new.word ≢ old.word → new.word ≢ 0 → WordNow
      → (new.word ≡ bit_or old.word badge) × (may_write r ≡ true)
  joined-badge slot badge r named holds differs some (is_zero is _ _ _ _ _) = absurd (some is)
  joined-badge slot badge r named holds differs some (is_same is) = absurd (differs is)
  joined-badge slot badge r named holds differs some (is_joined other b is also call such) =
      let there : capability_at s.slots other ≡ Notification notification r badge = named-capability s (self_of image t) other slot also named ∙ holds in (
        is ∙ ap (bit_or old.word) (one-signal s after notification b notification badge r call (capability_at s.slots other) there such),
        signal-writes s after notification b notification badge r call (capability_at s.slots other) there such,
      )

  -- by a handler of a line that is bound to it
  pub bound-badge : (slot number badge : ℕ) → named_slot s (self_of image t) ≡ Ok slot → capability_at s.slots slot ≡ InterruptHandler number
      → binding s number ≡ Some (record { notification = notification; badge = badge }) → new.word ≢ old.word → WordNow
      → new.word ≡ bit_or old.word badge
  bound-badge slot number badge named holds bound differs (is_zero is other allowed b also there) =
      let e : Notification notification allowed b ≡ InterruptHandler number = sym there ∙ named-capability s (self_of image t) other slot also named ∙ holds in
      absurd cc
  bound-badge slot number badge named holds bound differs (is_same is) = absurd (differs is)
  bound-badge slot number badge named holds bound differs (is_joined other b is also call such) =
      is ∙ ap (bit_or old.word) (line-signal s after notification b number badge call (capability_at s.slots other)
      (named-capability s (self_of image t) other slot also named ∙ holds) bound such)
