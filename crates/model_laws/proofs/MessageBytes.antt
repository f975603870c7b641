-- What authority says of a byte of a frame that stays, where the thread may not write: a message that the step delivers changes it, or none.
use Rattle.std.proofs.Common.{ℕ, ◌≡◌, ◌≢◌, ◌+◌, ◌*◌, ◌%◌, ◌^◌, ◌<◌, ◌≤◌, ◌⊎◌, min, Some, None, Ok, Err, option_map, List, [], ◌∷◌, inl, inr, sym, ◌∙◌, ap}
use Rattle.std.proofs.Common.{arith}
use Rattle.model.specs.declared.capabilities.Cap.TheVariants.{Endpoint}
use Rattle.model.specs.declared.lookup_failures.LookupFailure.{LookupFailure}
use Rattle.model.specs.declared.rights.Rights.{Rights}
use Rattle.model.specs.Acceptance.Authority.{ByteChange, Delivers, WithinAuthority, self_of}
use Rattle.model.specs.Capabilities.Slots.{capability_at}
use Rattle.model.specs.Images.Image.{Image, Thread}
use Rattle.model.specs.Kernel.Kinds.{kind_of}
use Rattle.model.specs.Kernel.Messages.{a1, buffer_of, greatest_length, length_between, register_words}
use Rattle.model.specs.Kernel.State.{State, Sender, Sent, BySend, ByCall, ByFault, FaultMessage, endpoint_at, thread_at}
use Rattle.model.specs.Kernel.Steps.{named_slot}
use Rattle.model.specs.Machine.ProgramMemory.{read}
use Rattle.model_laws.proofs.Reasons.{named-capability}
use Rattle.model_laws.specs.Scenarios.{ChangesUnwritten}

-- the message, and where in it the byte is
pub record IsOfMessage (image : Image) (t : Thread) (s after : State) (place : ℕ) : Type 0 where
  pub from : ℕ
  pub to : ℕ
  pub index : ℕ
  pub source : ℕ
  pub target : ℕ
  pub delivers : Delivers image t s after from to
  pub of_sender : buffer_of s from ≡ Some source
  pub of_receiver : buffer_of s to ≡ Some target
  pub first : 4 * register_words ≤ index
  pub last : index < 4 * length_between s from to
  pub at : place ≡ target + index
  pub is : after.bytes place ≡ s.bytes (source + index)

module _ (image : Image) (t : Thread) (s after : State) (place : ℕ) (changes : ChangesUnwritten image t s after place) where
  of-change : ByteChange image t s after place → IsOfMessage image t s after place
  of-change (ByteChange.written some still address right) = absurd (changes.unwritten address right)
  of-change (ByteChange.comes_with_frame none is zero) = absurd (none (ap (option_map kind_of) changes.was))
  of-change (ByteChange.goes_with_frame was none gone) = absurd (none (ap (option_map kind_of) changes.is))
  of-change (ByteChange.delivered some still from to index source target delivers of_sender of_receiver first last at is) = record {
    from = from;
    to = to;
    index = index;
    source = source;
    target = target;
    delivers = delivers;
    of_sender = of_sender;
    of_receiver = of_receiver;
    first = first;
    last = last;
    at = at;
    is = is;
  }

  pub of-message : WithinAuthority image t s after → IsOfMessage image t s after place
  of-message within = of-change (within.bytes place changes.differs)

field-few : (info most : ℕ) → min (info % 2 ^ 7) most ≤ 127
field-few info most = omega arith

pub length-few : (s : State) (from to : ℕ) → length_between s from to ≤ 127
length-few s from to = field-few (read (thread_at s from).registers a1) (min (greatest_length s from) (greatest_length s to))

pub inside : (place target index count : ℕ) → place ≡ target + index → index < 4 * count → count ≤ 127 → (place < target) ⊎ (target + 2 ^ 12 ≤ place) → ⊥
inside place target index count at less few (inl before) = omega (arith, at, before)
inside place target index count at less few (inr behind) = omega (arith, at, less, few, behind)

module _ (image : Image) (t : Thread) (s after : State) (place : ℕ) (m : IsOfMessage image t s after place) where
  pub in-buffer : ((thread frame : ℕ) → buffer_of s thread ≡ Some frame → (place < frame) ⊎ (frame + 2 ^ 12 ≤ place)) → ⊥
  in-buffer outside = inside place m.target m.index (length_between s m.from m.to) m.at m.last (length-few s m.from m.to) (outside m.to m.target m.of_receiver)

  pub not-held : ((thread frame : ℕ) → buffer_of s thread ≡ Some frame → place < frame + 32) → ⊥
  not-held below = let less = below m.to m.target m.of_receiver in let at = m.at in let first = m.first in omega (arith, less, at, first)

  pub not-past : ((from to frame : ℕ) → buffer_of s to ≡ Some frame → frame + 4 * length_between s from to ≤ place) → ⊥
  not-past past = let least = past m.from m.to m.target m.of_receiver in let at = m.at in let last = m.last in omega (arith, least, at, last)

  pub not-other : ((from to source target index : ℕ) → buffer_of s from ≡ Some source → buffer_of s to ≡ Some target → place ≡ target + index
      → s.bytes (source + index) ≢ after.bytes place) → ⊥
  not-other other = other m.from m.to m.source m.target m.index m.of_sender m.of_receiver m.at (sym m.is)

-- ---- who delivers

-- a thread whose call names nothing, and that may answer nobody
pub nobody-delivers : (image : Image) (t : Thread) (s after : State) (from to : ℕ) (failure : LookupFailure) → named_slot s (self_of image t) ≡ Err failure
    → (thread_at s (self_of image t)).caller ≡ None → Delivers image t s after from to → ⊥
nobody-delivers image t s after from to failure none alone (Delivers.sends endpoint badge at names list) =
    let e : Err failure ≡ Ok names.slot = sym none ∙ names.named in cc
nobody-delivers image t s after from to failure none alone (Delivers.receives endpoint first at names list is kind) =
    let e : Err failure ≡ Ok names.slot = sym none ∙ names.named in cc
nobody-delivers image t s after from to failure none alone (Delivers.replies at right awaits goes) =
    let e : None ≡ Some to = sym alone ∙ ap (λ (x : ℕ). (thread_at s x).caller) (sym at) ∙ right in cc

no-fault : (fault : FaultMessage) (sent : Sent) → sent ≡ ByFault fault → (sent ≡ BySend) ⊎ (sent ≡ ByCall) → ⊥
no-fault fault sent is (inl by_send) = let e : ByFault fault ≡ BySend = sym is ∙ by_send in cc
no-fault fault sent is (inr by_call) = let e : ByFault fault ≡ ByCall = sym is ∙ by_call in cc

-- a thread whose call names an endpoint where a fault is the first that is sent, and that may answer nobody
module _ (image : Image) (t : Thread) (s after : State) (from to slot endpoint badge : ℕ) (r : Rights) (first : Sender) (others : List Sender)
    (fault : FaultMessage) (named : named_slot s (self_of image t) ≡ Ok slot) (holds : capability_at s.slots slot ≡ Endpoint endpoint r badge)
    (alone : (thread_at s (self_of image t)).caller ≡ None) (none : (endpoint_at s endpoint).receivers ≡ [])
    (list : (endpoint_at s endpoint).senders ≡ first ∷ others) (sent : first.sent ≡ ByFault fault) where
  same-endpoint : (other : ℕ) (allowed : Rights) (b at : ℕ) → named_slot s (self_of image t) ≡ Ok at → capability_at s.slots at ≡ Endpoint other allowed b
      → other ≡ endpoint
  same-endpoint other allowed b at also is =
      let e : Endpoint other allowed b ≡ Endpoint endpoint r badge = sym is ∙ named-capability s (self_of image t) at slot also named ∙ holds in cc

  pub fault-delivers : Delivers image t s after from to → ⊥
  fault-delivers (Delivers.sends other b at names takes) =
      let same = same-endpoint other names.such.allowed b names.slot names.named names.such.is in
      let e : [] ≡ to ∷ (endpoint_at after other).receivers = sym none ∙ ap (λ (x : ℕ). (endpoint_at s x).receivers) (sym same) ∙ takes.leaves in cc
  fault-delivers (Delivers.receives other x at names takes is kind) =
      let same = same-endpoint other names.such.allowed names.such.badge names.slot names.named names.such.is in
      let e : first ∷ others ≡ x ∷ (endpoint_at after other).senders = sym list ∙ ap (λ (y : ℕ). (endpoint_at s y).senders) (sym same) ∙ takes.leaves in
      let first_is : first ≡ x = cc in
      no-fault fault x.sent (ap (λ (y : Sender). y.sent) (sym first_is) ∙ sent) kind
  fault-delivers (Delivers.replies at right awaits goes) =
      let e : None ≡ Some to = sym alone ∙ ap (λ (x : ℕ). (thread_at s x).caller) (sym at) ∙ right in cc
