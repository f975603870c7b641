-- What stays within authority gives no thread more than it was given: a new capability was granted, by one that it held, inside its untyped memory, or
-- by its handler.
use Rattle.std.proofs.Common.{ℕ, ◌≡◌, ◌≢◌, ◌∙◌, ◌⊎◌, ◌==◌, ◌^◌, inl, inr, if◌then◌else◌, List, Option, Some, None, bit_and, refl, sym, ap, subst, arith}
use Rattle.std.specs.Prelude.{Contains}
use Rattle.std.specs.Option.{option_map_or}
use Rattle.std.proofs.lemmas.Nat.{and_assoc}
use Rattle.std.proofs.lemmas.Option.{none-some}
use Rattle.model.specs.declared.capabilities.Cap.{Cap}
use Rattle.model.specs.declared.capabilities.Cap.TheVariants.{Empty, Untyped, Endpoint, Notification, CNode, Frame, PageTable, Tcb, RootTable, InterruptControl}
use Rattle.model.specs.declared.capabilities.Cap.TheVariants.{InterruptHandler}
use Rattle.model.specs.declared.events.Event.{Event}
use Rattle.model.specs.declared.events.Event.TheVariants.{Step, Tick, Irq, Write, Read}
use Rattle.model.specs.declared.slot_entries.Entry.{Entry}
use Rattle.model.specs.Acceptance.Accepted.{IsAccepted}
use Rattle.model.specs.Acceptance.Authority.{Covers, Granted, held, appeared, pool as granted_pool, handler as granted_handler, made_handler, control, Holds}
use Rattle.model.specs.Acceptance.Authority.{IsUntypedAround, OwnStep, StaysWithin, WithinAuthority, badge_of, rights_of, without_use}
use Rattle.model.specs.Capabilities.Rights.{rights}
use Rattle.model.specs.Capabilities.Slots.{Slots, capability_at}
use Rattle.model.specs.Images.Described.{Numbered, listed_capability, numbered_threads}
use Rattle.model.specs.Images.Image.{Image, Thread}
use Rattle.model.specs.Kernel.Interrupts.{raise}
use Rattle.model.specs.Kernel.Kinds.{object_named}
use Rattle.model.specs.Kernel.Retype.{NewObject, object_bits}
use Rattle.model.specs.Kernel.Scheduling.{tick}
use Rattle.model.specs.Kernel.State.{State}
use Rattle.model.specs.Kernel.Steps.{place_of}
use Rattle.model.specs.Kernel.World.{world_writes}
use Rattle.soundness.specs.Machines.{SameBase, SameBesideBytes}
use Rattle.soundness.proofs.Laws.{raise-machine, tick-machine, written-beside}
use Rattle.headline.specs.parts.Given.{AllHoldGiven, IsGivenTo, listed, made, pool, handler, IsPoolAround}
use Rattle.headline.proofs.invocations.TwoThreads.{one-owner}
use Rattle.headline.proofs.kept.Laws.{listed-from}
use Rattle.headline.proofs.parts.Decided.{Decided, numbers, pairs}
use Rattle.headline.proofs.starts.Laws.{contained}

-- ---- capabilities apart from their use

abbrev Code : Type 0
Code = ℕ × (ℕ × (ℕ × ℕ))

abbrev code_of : Cap → Code
code_of Empty = (0, (0, (0, 0)))
code_of (Untyped offset bits watermark) = (1, (offset, (bits, watermark)))
code_of (Endpoint offset r badge) = (2, (offset, (r.0, badge)))
code_of (Notification offset r badge) = (3, (offset, (r.0, badge)))
code_of (CNode offset radix guard) = (4, (offset, (radix, guard)))
code_of (Frame offset r mapping) = (5, (offset, (r.0, 0)))
code_of (PageTable offset mapping) = (6, (offset, (0, 0)))
code_of (Tcb offset) = (7, (offset, (0, 0)))
code_of (RootTable offset) = (8, (offset, (0, 0)))
code_of InterruptControl = (9, (0, (0, 0)))
code_of (InterruptHandler number) = (10, (number, (0, 0)))

abbrev of_code : Code → Cap
of_code (kind, (a, (b, c))) =
    if kind == 0 then Empty else if kind == 1 then Untyped a b c else if kind == 2 then Endpoint a (rights b) c else
    if kind == 3 then Notification a (rights b) c else if kind == 4 then CNode a b c else if kind == 5 then Frame a (rights b) None else
    if kind == 6 then PageTable a None else if kind == 7 then Tcb a else if kind == 8 then RootTable a else
    if kind == 9 then InterruptControl else InterruptHandler a

back : (c : Cap) → of_code (code_of (without_use c)) ≡ without_use c
back Empty = refl
back (Untyped offset bits watermark) = refl
back (Endpoint offset r badge) = refl
back (Notification offset r badge) = refl
back (CNode offset radix guard) = refl
back (Frame offset r mapping) = refl
back (PageTable offset mapping) = refl
back (Tcb offset) = refl
back (RootTable offset) = refl
back InterruptControl = refl
back (InterruptHandler number) = refl

pub uses : (a b : Cap) → Decided (without_use a) (without_use b)
uses a b =
    let x = code_of (without_use a) in
    let y = code_of (without_use b) in
    elim (pairs x y (numbers x.0 y.0) (pairs x.1 y.1 (numbers x.1.0 y.1.0) (pairs x.1.1 y.1.1 (numbers x.1.1.0 y.1.1.0) (numbers x.1.1.1 y.1.1.1)))) [
      | inl same ↦ inl (sym (back a) ∙ ap of_code same ∙ back b)
      | inr apart ↦ inr (λ same. apart (ap code_of same))
    ]

named-use : (c : Cap) → object_named (without_use c) ≡ object_named c
named-use Empty = refl
named-use (Untyped offset bits watermark) = refl
named-use (Endpoint offset r badge) = refl
named-use (Notification offset r badge) = refl
named-use (CNode offset radix guard) = refl
named-use (Frame offset r mapping) = refl
named-use (PageTable offset mapping) = refl
named-use (Tcb offset) = refl
named-use (RootTable offset) = refl
named-use InterruptControl = refl
named-use (InterruptHandler number) = refl

rights-use : (c : Cap) → rights_of (without_use c) ≡ rights_of c
rights-use Empty = refl
rights-use (Untyped offset bits watermark) = refl
rights-use (Endpoint offset r badge) = refl
rights-use (Notification offset r badge) = refl
rights-use (CNode offset radix guard) = refl
rights-use (Frame offset r mapping) = refl
rights-use (PageTable offset mapping) = refl
rights-use (Tcb offset) = refl
rights-use (RootTable offset) = refl
rights-use InterruptControl = refl
rights-use (InterruptHandler number) = refl

badge-use : (c : Cap) → badge_of (without_use c) ≡ badge_of c
badge-use Empty = refl
badge-use (Untyped offset bits watermark) = refl
badge-use (Endpoint offset r badge) = refl
badge-use (Notification offset r badge) = refl
badge-use (CNode offset radix guard) = refl
badge-use (Frame offset r mapping) = refl
badge-use (PageTable offset mapping) = refl
badge-use (Tcb offset) = refl
badge-use (RootTable offset) = refl
badge-use InterruptControl = refl
badge-use (InterruptHandler number) = refl

-- untyped memory, with what was used of it; and a handler
memory-use : (d : Cap) (offset bits : ℕ) → without_use d ≡ Untyped offset bits 0 → (watermark : ℕ) × (d ≡ Untyped offset bits watermark)
memory-use Empty offset bits is = absurd (let clash : Empty ≡ Untyped offset bits 0 = is in cc)
memory-use (Untyped a b w) offset bits is = (w, (let e : Untyped a b 0 ≡ Untyped offset bits 0 = is in cc))
memory-use (Endpoint a r g) offset bits is = absurd (let clash : Endpoint a r g ≡ Untyped offset bits 0 = is in cc)
memory-use (Notification a r g) offset bits is = absurd (let clash : Notification a r g ≡ Untyped offset bits 0 = is in cc)
memory-use (CNode a r g) offset bits is = absurd (let clash : CNode a r g ≡ Untyped offset bits 0 = is in cc)
memory-use (Frame a r m) offset bits is = absurd (let clash : Frame a r None ≡ Untyped offset bits 0 = is in cc)
memory-use (PageTable a m) offset bits is = absurd (let clash : PageTable a None ≡ Untyped offset bits 0 = is in cc)
memory-use (Tcb a) offset bits is = absurd (let clash : Tcb a ≡ Untyped offset bits 0 = is in cc)
memory-use (RootTable a) offset bits is = absurd (let clash : RootTable a ≡ Untyped offset bits 0 = is in cc)
memory-use InterruptControl offset bits is = absurd (let clash : InterruptControl ≡ Untyped offset bits 0 = is in cc)
memory-use (InterruptHandler n) offset bits is = absurd (let clash : InterruptHandler n ≡ Untyped offset bits 0 = is in cc)

handler-use : (d : Cap) (number : ℕ) → without_use d ≡ InterruptHandler number → d ≡ InterruptHandler number
handler-use Empty number is = is
handler-use (Untyped a b w) number is = absurd (let clash : Untyped a b 0 ≡ InterruptHandler number = is in cc)
handler-use (Endpoint a r g) number is = is
handler-use (Notification a r g) number is = is
handler-use (CNode a r g) number is = is
handler-use (Frame a r m) number is = absurd (let clash : Frame a r None ≡ InterruptHandler number = is in cc)
handler-use (PageTable a m) number is = absurd (let clash : PageTable a None ≡ InterruptHandler number = is in cc)
handler-use (Tcb a) number is = is
handler-use (RootTable a) number is = is
handler-use InterruptControl number is = is
handler-use (InterruptHandler n) number is = is

empty-use : (c : Cap) → without_use c ≡ Empty → c ≡ Empty
empty-use Empty is = is
empty-use (Untyped a b w) is = absurd (let clash : Untyped a b 0 ≡ Empty = is in cc)
empty-use (Endpoint a r g) is = is
empty-use (Notification a r g) is = is
empty-use (CNode a r g) is = is
empty-use (Frame a r m) is = absurd (let clash : Frame a r None ≡ Empty = is in cc)
empty-use (PageTable a m) is = absurd (let clash : PageTable a None ≡ Empty = is in cc)
empty-use (Tcb a) is = is
empty-use (RootTable a) is = is
empty-use InterruptControl is = is
empty-use (InterruptHandler n) is = is

-- ---- what was given

module _ (image : Image) (t : Thread) where
  -- by one that covers it
  covered : (new old : Cap) (c : Cap) → Covers new old → Covers old c → Covers new c
  covered new old c first second = record {
    kind = first.kind;
    offset = first.offset;
    names = first.names;
    same =
        let one : ◌≡◌ {A = Option (NewObject × ℕ)} (Some (second.kind, second.offset)) (Some (first.kind, first.offset)) = sym second.names ∙ first.same in
        second.same ∙ one;
    rights =
        ap (bit_and (rights_of c).0) (sym first.rights) ∙ sym (and_assoc (rights_of new).0 (rights_of c).0 (rights_of old).0)
        ∙ ap (λ (n : ℕ). bit_and n (rights_of new).0) second.rights ∙ first.rights;
    badge = badges second.badge first.badge;
  }
    where
      badges : (badge_of c ≡ 0) ⊎ (badge_of c ≡ badge_of old) → (badge_of old ≡ 0) ⊎ (badge_of old ≡ badge_of new)
          → (badge_of c ≡ 0) ⊎ (badge_of c ≡ badge_of new)
      badges (inl none) _ = inl none
      badges (inr same) (inl none) = inl (same ∙ none)
      badges (inr same) (inr kept) = inr (same ∙ kept)

  pub given-covered : (new old : Cap) → Covers new old → IsGivenTo image t old → IsGivenTo image t new
  given-covered new old covers (listed entry is by) = listed entry is (covered new old (listed_capability image entry) covers by)
  given-covered new old covers (made kind offset names around) =
      made kind offset (covers.names ∙ sym covers.same ∙ names) around
  given-covered new old covers (pool offset bits watermark is around) =
      absurd (none-some (covers.kind, covers.offset) (sym (ap object_named is) ∙ covers.same))
  given-covered new old covers (handler number entry is lists same) =
      absurd (none-some (covers.kind, covers.offset) (sym (ap object_named same) ∙ covers.same))

  pub pool-inside : (old : Cap) (first size : ℕ) → IsUntypedAround first size old → IsGivenTo image t old → IsPoolAround image t first size
  pool-inside old first size h (listed entry is by) = absurd (none-some (by.kind, by.offset) (sym (ap object_named h.is) ∙ by.names))
  pool-inside old first size h (made kind offset names around) = absurd (none-some (kind, offset) (sym (ap object_named h.is) ∙ names))
  pool-inside old first size h (pool offset bits watermark is around) =
      let same : Untyped offset bits watermark ≡ Untyped h.offset h.bits h.watermark = sym is ∙ h.is in
      let at : offset ≡ h.offset = cc in
      let large : 2 ^ bits ≡ 2 ^ h.bits = ap (λ (n : ℕ). 2 ^ n) (let e : bits ≡ h.bits = cc in e) in
      let p = around.around in
      let low = p.begins in
      let high = p.ends in
      let begin = h.begins in
      let end = h.ends in
      record {
        entry = around.entry;
        listed = around.listed;
        around = record {
          offset = p.offset;
          bits = p.bits;
          watermark = p.watermark;
          is = p.is;
          begins = omega (arith, low, begin, at);
          ends = omega (arith, high, end, at, large);
        };
      }
  pool-inside old first size h (handler number entry is lists same) =
      absurd (let clash : InterruptHandler number ≡ Untyped h.offset h.bits h.watermark = sym same ∙ h.is in cc)

  handler-held : (old : Cap) (number : ℕ) → old ≡ InterruptHandler number → IsGivenTo image t old → IsGivenTo image t (InterruptHandler number)
  handler-held old number is given = subst (λ (c : Cap). IsGivenTo image t c) is given

  no-control : (A : Type 0) → IsGivenTo image t InterruptControl → A
  no-control A (listed entry is by) = absurd (none-some (by.kind, by.offset) by.names)
  no-control A (made kind offset names around) = absurd (none-some (kind, offset) names)
  no-control A (pool offset bits watermark is around) = absurd (let clash : InterruptControl ≡ Untyped offset bits watermark = is in cc)
  no-control A (handler number entry is lists same) = absurd (let clash : InterruptControl ≡ InterruptHandler number = same in cc)

  -- the use is another one
  pub given-use : (c d : Cap) → without_use c ≡ without_use d → IsGivenTo image t c → IsGivenTo image t d
  given-use c d same (listed entry is by) = listed entry is (record {
    kind = by.kind;
    offset = by.offset;
    names = named ∙ by.names;
    same = by.same;
    rights = ap (λ r. bit_and (rights_of (listed_capability image entry)).0 r) right ∙ by.rights ∙ sym right;
    badge = carried by.badge;
  })
    where
      named : object_named d ≡ object_named c
      named = sym (named-use d) ∙ ap object_named (sym same) ∙ named-use c

      right : (rights_of d).0 ≡ (rights_of c).0
      right = ap (λ r. r.0) (sym (rights-use d) ∙ ap rights_of (sym same) ∙ rights-use c)

      carried : (badge_of (listed_capability image entry) ≡ 0) ⊎ (badge_of (listed_capability image entry) ≡ badge_of c)
          → (badge_of (listed_capability image entry) ≡ 0) ⊎ (badge_of (listed_capability image entry) ≡ badge_of d)
      carried (inl none) = inl none
      carried (inr kept) = inr (kept ∙ sym (badge-use c) ∙ ap badge_of same ∙ badge-use d)
  given-use c d same (made kind offset names around) =
      made kind offset (sym (named-use d) ∙ ap object_named (sym same) ∙ named-use c ∙ names) around
  given-use c d same (pool offset bits watermark is around) =
      let of = memory-use d offset bits (sym same ∙ ap without_use is) in pool offset bits of.0 of.1 around
  given-use c d same (handler number entry is lists kept) = handler number entry is lists (handler-use d number (sym same ∙ ap without_use kept))

-- ---- events

abbrev capability_of : Option Entry → Cap
capability_of o = option_map_or (λ (e : Entry). e.capability) o Empty

module _ (bytes : List ℕ) (image : Image) (accepted : IsAccepted bytes image) (s after : State) (before : AllHoldGiven image s) where
  module _ (t : Numbered) (among : Contains (numbered_threads image) t) where
    at-held : {Such : Cap → Type 0} (h : Holds image t.thread s Such) → capability_at s.slots h.slot ≢ Empty
        → IsGivenTo image t.thread (capability_at s.slots h.slot)
    at-held h full = before t h.slot among h.own full

    around-full : {first size : ℕ} (c : Cap) → IsUntypedAround first size c → c ≢ Empty
    around-full c h same = absurd (let clash : Empty ≡ Untyped h.offset h.bits h.watermark = sym same ∙ h.is in cc)

    by-grant : (new : Cap) → Granted image t.thread s after new → IsGivenTo image t.thread new
    by-grant new (held _ h) =
        given-covered image t.thread new (capability_at s.slots h.slot) h.such
        (at-held h (λ same. none-some (h.such.kind, h.such.offset) (sym (ap object_named same) ∙ h.such.same)))
    by-grant new (appeared _ kind offset names none is h) =
        made kind offset names (pool-inside image t.thread (capability_at s.slots h.slot) offset (2 ^ object_bits kind) h.such
        (at-held h (around-full (capability_at s.slots h.slot) h.such)))
    by-grant _ (granted_pool offset bits watermark h) =
        pool offset bits watermark refl (pool-inside image t.thread (capability_at s.slots h.slot) offset (2 ^ bits) h.such
        (at-held h (around-full (capability_at s.slots h.slot) h.such)))
    by-grant _ (granted_handler number h) =
        handler-held image t.thread (capability_at s.slots h.slot) number h.such
        (at-held h (λ same. absurd (let clash : Empty ≡ InterruptHandler number = sym same ∙ h.such in cc)))
    by-grant _ (made_handler number less h) =
        no-control image t.thread _ (subst (λ (c : Cap). IsGivenTo image t.thread c) h.such
        (at-held h (λ same. absurd (let clash : Empty ≡ InterruptControl = sym same ∙ h.such in cc))))
    by-grant _ (control h) =
        no-control image t.thread _ (subst (λ (c : Cap). IsGivenTo image t.thread c) h.such
        (at-held h (λ same. absurd (let clash : Empty ≡ InterruptControl = sym same ∙ h.such in cc))))

  within-given : (t : Numbered) → Contains (numbered_threads image) t → WithinAuthority image t.thread s after → AllHoldGiven image after
  within-given t among within u slot there own full =
      let old = capability_at s.slots slot in
      let new = capability_at after.slots slot in
      elim (uses old new) [
        | inl same ↦ given-use image u.thread old new same
            (before u slot there own (λ empty. full (empty-use new (sym same ∙ ap without_use empty))))
        | inr differs ↦
            let mine = within.slots slot (λ same. differs (ap (λ (o : Option Entry). without_use (capability_of o)) same)) in
            let one : t ≡ u = one-owner image accepted.spelled.fits accepted.formed t u slot among there mine own in
            subst (λ (v : Numbered). IsGivenTo image v.thread new) one (by-grant t among new (within.capabilities slot differs full))
      ]

  own-step : OwnStep image s after → AllHoldGiven image after
  own-step step =
      let place = contained image.threads step.thread step.listed in
      let there = listed-from 0 image.threads place.0 step.thread place.1 in
      within-given (record { number = there.0; thread = step.thread }) there.1 step.within

  -- slots stay
  same-slots : (x : State) → SameBase s x → after ≡ x → AllHoldGiven image after
  same-slots x base at u slot there own full =
      let same : capability_at after.slots slot ≡ capability_at s.slots slot =
      ap (λ (slots : Slots). capability_at slots slot) (ap (λ (y : State). y.slots) at ∙ base.slots) in
      subst (λ (c : Cap). IsGivenTo image u.thread c) (sym same) (before u slot there own (λ empty. full (same ∙ empty)))

  pub given-kept : (event : Event) → StaysWithin image s event after → AllHoldGiven image after
  given-kept Step (inl idle) = subst (λ (x : State). AllHoldGiven image x) (sym idle.1) before
  given-kept Step (inr step) = own-step step
  given-kept Tick within = same-slots (tick s) (tick-machine s) within
  given-kept (Irq line) within = same-slots (raise s line) (raise-machine s line) within
  given-kept (Write address word) within =
      let place = place_of address in
      same-slots (world_writes s place word) (SameBesideBytes.base (written-beside s place word)) within
  given-kept (Read address) same = subst (λ (x : State). AllHoldGiven image x) (sym same) before
