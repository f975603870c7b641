-- Retype on a pool of the thread has no error where it has none on what is noted, and leaves the thread's slots as they are noted.
use Rattle.std.proofs.Common.{ℕ, ◌≡◌, ◌∙◌, ◌+◌, ◌<◌, ◌⊎◌, inl, inr, nat_lt, Some, List, [], length, refl, sym, ap, subst, arith}
use Rattle.std.specs.Prelude.{Contains}
use Rattle.model.specs.declared.capabilities.Cap.TheVariants.{Untyped}
use Rattle.model.specs.declared.invocations.Invocation.TheVariants.{OnUntyped}
use Rattle.model.specs.declared.invocations.RetypeCall.{RetypeCall}
use Rattle.model.specs.declared.invocations.UntypedMemory.{UntypedMemory}
use Rattle.model.specs.Acceptance.Authority.{IsOwnSlot}
use Rattle.model.specs.Acceptance.CallRules.{may_make}
use Rattle.model.specs.Acceptance.NotedKernel.{noted_after, noted_kernel, noted_root}
use Rattle.model.specs.Acceptance.NotedStates.{NotedSlot}
use Rattle.model.specs.Capabilities.CapabilityWords.{IsCapability}
use Rattle.model.specs.Capabilities.Slots.{capability_at}
use Rattle.model.specs.Images.Described.{Numbered}
use Rattle.model.specs.Images.Image.{Image}
use Rattle.model.specs.Kernel.Retype.{object_bits}
use Rattle.model.specs.Kernel.State.{State, Object, EndpointObject, NotificationObject, ThreadObject}
use Rattle.soundness.proofs.Laws.{IsLaid, laid, unused-free}
use Rattle.soundness.specs.Unused.{IsUnused}
use Rattle.headline.specs.lookups.Found.{slots_noted}
use Rattle.headline.specs.invocations.Changes.{ChangesOwn}
use Rattle.headline.specs.invocations.Mirrors.{Mirrors}
use Rattle.headline.specs.invocations.Performed.{InvokesWell, MayInvoke}
use Rattle.headline.proofs.invocations.CodeFrames.{code-there}
use Rattle.headline.proofs.invocations.CodeUnnamed.{names-none}
use Rattle.headline.proofs.invocations.NewKinds.{IsMade, may-made}
use Rattle.headline.proofs.invocations.NewMemory.{byte-stays, object-stays, object-was}
use Rattle.headline.proofs.invocations.NodesSame.{full-same, node-own, node-same}
use Rattle.headline.proofs.invocations.NotedSame.{noted-same}
use Rattle.headline.proofs.invocations.RetypeNames.{holds-no-code, maps-none}
use Rattle.headline.proofs.invocations.RetypeParents.{hang-boot, hang-own, near}
use Rattle.headline.proofs.invocations.RetypeParts.{Asked, Counted, counted, made_of, objects_of, retype-found, retype-goes}
use Rattle.headline.proofs.invocations.RetypeSlots.{Making, others, same-above, same-held}

none-in : {A B : Type 0} (xs : List A) (x : A) → xs ≡ [] → Contains xs x → B
none-in {A = A} xs x none there = let less = subst (λ (l : List A). there.0 < length l) none there.1 in absurd (omega (arith, less))

module _ (image : Image) (t : Numbered) (s : State) (slots : List NotedSlot) (mirrors : Mirrors image t s slots) (pool : ℕ)
    (own : IsOwnSlot image t.thread pool) (memory : UntypedMemory) (asked : RetypeCall)
    (holds : capability_at s.slots pool ≡ Untyped memory.offset memory.bits memory.watermark) where
  -- ---- the checks

  same-asked : (of : Asked (slots_noted image t slots) (noted_root image t.thread) pool memory asked)
      → Asked s.slots (noted_root image t.thread) pool memory asked
  same-asked of =
      let named = node-same image t s slots mirrors asked.node ∙ of.named in
      let mine = node-own image t s slots mirrors asked.node of.cnode named in
      let numbers = counted asked of.cnode.radix of.fits in
      record {
        kind = of.kind;
        kind_is = of.kind_is;
        large = of.large;
        small = of.small;
        cnode = of.cnode;
        named = named;
        fits = of.fits;
        free = full-same image t s slots mirrors of.cnode mine asked.index asked.count numbers.last ∙ of.free;
        room = ap (λ (d : ℕ). nat_lt d 255) (mirrors.deep pool own) ∙ of.room;
        place = of.place;
        placed = of.placed;
      }

  -- ---- what it leaves

  module _ (of : Asked s.slots (noted_root image t.thread) pool memory asked) (made : IsMade of.kind) where
    pub numbers : Counted asked of.cnode.radix
    numbers = counted asked of.cnode.radix of.fits

    abbrev pub making : Making image t s
    making = record {
      pool = pool;
      own = own;
      memory = memory;
      holds = holds;
      asked = asked;
      kind = of.kind;
      made = made;
      cnode = of.cnode;
      mine = node-own image t s slots mirrors asked.node of.cnode of.named;
      fits = numbers.last;
      place = of.place;
    }

    valid : IsCapability (Untyped memory.offset memory.bits memory.watermark)
    valid = subst IsCapability holds (mirrors.all.sound.slots.derivation.valid pool)

    pub lies : IsLaid memory.offset memory.bits memory.watermark (object_bits of.kind) asked.count (memory.offset + of.place.0) of.place.1
    lies = laid memory.offset memory.bits memory.watermark (object_bits of.kind) asked.count of.place of.placed valid.0.0 numbers.some

    pub unused : IsUnused s memory.offset memory.bits memory.watermark
    unused = unused-free s mirrors.all.sound pool memory.offset memory.bits memory.watermark holds

    abbrev after : State
    after = made_of s pool memory asked of.kind of.cnode of.place

    abbrev left : State
    left = made_of (noted_kernel image t.thread slots) pool memory asked of.kind of.cnode of.place

    pub stays : (place : ℕ) (o : Object) → s.objects place ≡ Some o → after.objects place ≡ Some o
    stays place o is = object-stays s memory.offset memory.bits memory.watermark unused (objects_of memory asked of.kind of.place) of.place.1 lies place o is

    was : (place : ℕ) (o : Object) → after.objects place ≡ Some o → (made.new ≡ o → ⊥) → s.objects place ≡ Some o
    was place o is old = by-old
        (object-was s memory.offset memory.bits memory.watermark unused
        (objects_of memory asked of.kind of.place) of.place.1 lies made.new o made.there place is)
      where
        by-old : (s.objects place ≡ Some o) ⊎ (made.new ≡ o) → s.objects place ≡ Some o
        by-old (inl there) = there
        by-old (inr new) = absurd (old new)

    pub retype-changes : ChangesOwn image t s after (noted_after image t.thread left.slots)
    retype-changes = record {
      memory_bits = refl;
      boot_radix = refl;
      slots = noted-same image t after.slots left.slots (same-held image t s making slots mirrors) (same-above image t s making slots mirrors);
      others = others image t s making slots mirrors;
      near = near image t s making slots mirrors;
      hang = record { boot = hang-boot image t s making slots mirrors; own = hang-own image t s making slots mirrors };
      maps = maps-none image t s making slots mirrors;
      code = names-none image t left.slots (holds-no-code image t s making slots mirrors unused lies);
      threads = λ offset thread is. stays offset (ThreadObject thread) is;
      been = λ offset thread is. was offset (ThreadObject thread) is (made.no_thread thread);
      sends = λ queue e x is there. was queue (EndpointObject e) is (λ new. none-in e.senders x (made.no_waits e new).0 there);
      receives = λ queue e thread is there. was queue (EndpointObject e) is (λ new. none-in e.receivers thread (made.no_waits e new).1 there);
      waits = λ queue n thread is there. was queue (NotificationObject n) is (λ new. none-in n.waiters thread (made.no_waiters n new) there);
      bytes = λ frame place code low high.
          byte-stays s memory.offset memory.bits memory.watermark unused (objects_of memory asked of.kind of.place) of.place.1 lies frame place
          (code-there image t s slots mirrors frame code) low high;
    }

pub retype-well : (image : Image) (t : Numbered) (s : State) (slots : List NotedSlot) (slot : ℕ) (memory : UntypedMemory) (retyped : RetypeCall)
    → Mirrors image t s slots → (m : MayInvoke image t s slots slot (OnUntyped memory retyped)) → InvokesWell image t s slot (OnUntyped memory retyped) m.noted
unfolding same-asked
retype-well image t s slots slot memory retyped mirrors m =
    let found = retype-found (noted_kernel image t.thread slots) m.noted (noted_root image t.thread) slot memory retyped m.performs in
    let of = same-asked image t s slots mirrors slot m.own memory retyped m.on found.of in
    let made = may-made of.kind (ap may_make (sym of.kind_is) ∙ m.may) in
    record {
      after = made_of s slot memory retyped of.kind of.cnode of.place;
      performs = retype-goes s (noted_root image t.thread) slot memory retyped of;
      changes = subst (λ (n : State). ChangesOwn image t s (made_of s slot memory retyped of.kind of.cnode of.place)
          (noted_after image t.thread n.slots)) found.is
          (retype-changes image t s slots mirrors slot m.own memory retyped m.on of made);
    }
