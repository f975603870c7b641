-- A change of a thread's slots alone, where what each holds follows from what the thread held: all that a call has to leave.
use Rattle.std.proofs.Common.{ℕ, zero, suc, ◌≡◌, ◌∙◌, ◌+◌, ◌^◌, ◌<◌, ◌⊎◌, inl, inr, Bool, true, false, not, if◌then◌else◌, Option, Some, None, List, refl, sym}
use Rattle.std.proofs.Common.{ap, subst, arith}
use Rattle.std.specs.Option.{option_map_or}
use Rattle.std.proofs.lemmas.Bool.{false≢true}
use Rattle.std.proofs.lemmas.Option.{none-some}
use Rattle.model.specs.declared.capabilities.Cap.{Cap}
use Rattle.model.specs.declared.capabilities.Cap.TheVariants.{Empty, Untyped, Endpoint, Notification, CNode, Frame, PageTable, Tcb, RootTable, InterruptControl}
use Rattle.model.specs.declared.capabilities.Cap.TheVariants.{InterruptHandler}
use Rattle.model.specs.declared.capabilities.FrameMapping.{FrameMapping}
use Rattle.model.specs.declared.rights.Rights.{Rights}
use Rattle.model.specs.declared.slot_entries.Entry.{Entry}
use Rattle.model.specs.Acceptance.Authority.{IsOwnSlot}
use Rattle.model.specs.Acceptance.NotedKernel.{noted_after, slot_of_key}
use Rattle.model.specs.Acceptance.NotedStates.{NotedSlot}
use Rattle.model.specs.Acceptance.ThreadInvariants.{IsCode, NamesNoCode}
use Rattle.model.specs.Acceptance.ThreadRules.{reached}
use Rattle.model.specs.Capabilities.CapabilityKinds.{is_untyped}
use Rattle.model.specs.Capabilities.Slots.{Slots, capability_at, depth_of, depth_within, is_empty, parent_at}
use Rattle.model.specs.Images.Described.{Numbered}
use Rattle.model.specs.Images.Image.{Image}
use Rattle.model.specs.Kernel.Kinds.{Names, object_named}
use Rattle.model.specs.Kernel.Retype.{NewFrame, NewObject, is_frame}
use Rattle.model.specs.Kernel.State.{State, with_slots}
use Rattle.headline.proofs.lookups.Laws.{key-found}
use Rattle.headline.specs.invocations.Changes.{ChangesOwn, IsOther}
use Rattle.headline.specs.invocations.Mirrors.{Mirrors}
use Rattle.headline.proofs.invocations.Follows.{Follows, ParentFollows}
use Rattle.headline.proofs.invocations.NotedThere.{full-noted, noted-there}
use Rattle.headline.proofs.invocations.OwnRoots.{own-roots}

-- ---- frames

record IsFrame (frame : ℕ) (capability : Cap) : Type 0 where
  pub held : Rights
  pub mapping : Option FrameMapping
  pub is : capability ≡ Frame frame held mapping

frame-tested : (frame : ℕ) (named : Option (NewObject × ℕ)) → named ≡ Some (NewFrame, frame) → option_map_or (λ y. is_frame y.0) named false ≡ true
frame-tested frame named is = ap (λ (x : Option (NewObject × ℕ)). option_map_or (λ y. is_frame y.0) x false) is

frame-named : (frame : ℕ) (c : Cap) → Names NewFrame frame c → IsFrame frame c
frame-named frame (Frame o r m) is =
    let same : o ≡ frame = ap (λ (x : Option (NewObject × ℕ)). option_map_or (λ y. y.1) x 0) is in
    record { held = r; mapping = m; is = λ i. Frame (same i) r m }
frame-named frame Empty is = absurd (false≢true (frame-tested frame _ is))
frame-named frame (Untyped _ _ _) is = absurd (false≢true (frame-tested frame _ is))
frame-named frame (Endpoint _ _ _) is = absurd (false≢true (frame-tested frame _ is))
frame-named frame (Notification _ _ _) is = absurd (false≢true (frame-tested frame _ is))
frame-named frame (CNode _ _ _) is = absurd (false≢true (frame-tested frame _ is))
frame-named frame (PageTable _ _) is = absurd (false≢true (frame-tested frame _ is))
frame-named frame (Tcb _) is = absurd (false≢true (frame-tested frame _ is))
frame-named frame (RootTable _) is = absurd (false≢true (frame-tested frame _ is))
frame-named frame InterruptControl is = absurd (false≢true (frame-tested frame _ is))
frame-named frame (InterruptHandler _) is = absurd (false≢true (frame-tested frame _ is))

module _ (image : Image) (t : Numbered) (s : State) (slots : List NotedSlot) (m : Mirrors image t s slots) where
  -- a boot slot is none of the thread's
  pub boot-other : (slot : ℕ) → slot < 2 ^ s.boot_radix → IsOther image t slot
  boot-other slot less own =
      let radix = m.all.boot_radix in
      let boot : slot < 2 ^ image.header.boot_radix = subst (λ (n : ℕ). slot < 2 ^ n) radix less in
      let none = m.stand.behind slot (omega (arith, boot)) in
      let of = key-found image (reached image t.thread) slot own in
      none-some of.key (sym none ∙ of.at)

  -- no slot of the thread's names a frame of code
  own-names-none : (slot frame : ℕ) → IsOwnSlot image t.thread slot → Names NewFrame frame (capability_at s.slots slot) → IsCode image frame → ⊥
  own-names-none slot frame own names code =
      let of = frame-named frame (capability_at s.slots slot) names in
      let noted = full-noted image t m.stand s.slots slots m.same slot own (ap (λ (c : Cap). not (is_empty c)) of.is) in
      m.code noted.noted frame of.held of.mapping noted.listed (noted.holds ∙ of.is) code

  module _ (after : Slots) (others : (slot : ℕ) → IsOther image t slot → after slot ≡ s.slots slot) where
    -- what is none of the thread's hangs as deep as before
    depth-kept : (n slot : ℕ) → IsOther image t slot → depth_within n (parent_at after) slot ≡ depth_within n (parent_at s.slots) slot
    unfolding depth_within
    depth-kept zero slot other = refl
    depth-kept (suc n) slot other =
        ap (λ (held : Option Entry). option_map_or (λ parent. depth_within n (parent_at after) parent + 1) (option_map_or (λ h. h.parent) held None) 0)
        (others slot other)
        ∙ by-parent (parent_at s.slots slot) (λ above is. depth-kept n above (m.outside slot above other is))
      where
        by-parent : (parent : Option ℕ) → ((above : ℕ) → parent ≡ Some above
            → depth_within n (parent_at after) above ≡ depth_within n (parent_at s.slots) above)
            → option_map_or (λ above. depth_within n (parent_at after) above + 1) parent 0
            ≡ option_map_or (λ above. depth_within n (parent_at s.slots) above + 1) parent 0
        by-parent None same = refl
        by-parent (Some above) same = ap (λ d. d + 1) (same above refl)

    module _ (each : (slot : ℕ) → IsOwnSlot image t.thread slot → Follows image t s (after slot)) where
      hangs-in-boot : (slot parent : ℕ) (of : Follows image t s (after slot)) → parent < 2 ^ s.boot_radix
          → ParentFollows image t s of.from (capability_at after slot) parent
          → depth_of after parent ≡ (if is_untyped (capability_at after slot) then 0 else 1)
      hangs-in-boot slot parent of less (inl above) =
          depth-kept 256 parent (boot-other parent less) ∙ m.hang.boot of.from parent of.own above.0 less ∙ ap (λ (b : Bool). if b then 0 else 1) (sym above.1)
      hangs-in-boot slot parent of less (inr own) = absurd (boot-other parent less own.0)

      hangs-in-own : (slot parent : ℕ) (of : Follows image t s (after slot)) → IsOwnSlot image t.thread parent
          → ParentFollows image t s of.from (capability_at after slot) parent → is_untyped (capability_at after slot) ≡ false
      hangs-in-own slot parent of mine (inl above) = above.1 ∙ m.hang.own of.from parent of.own above.0 mine
      hangs-in-own slot parent of mine (inr own) = own.1

      derives-near : (slot parent : ℕ) (of : Follows image t s (after slot)) → ParentFollows image t s of.from (capability_at after slot) parent
          → IsOwnSlot image t.thread parent ⊎ (parent < 2 ^ s.boot_radix)
      derives-near slot parent of (inl above) = m.near of.from parent of.own above.0
      derives-near slot parent of (inr own) = inl own.0

      names-none : NamesNoCode image (noted_after image t.thread after)
      names-none noted frame held mapping listed is code =
          let there = noted-there image t after noted listed in
          let of = each (slot_of_key image noted.key) there.own in
          own-names-none of.from frame of.own (of.frames frame (ap (λ (c : Cap). object_named c) (there.holds ∙ is))) code

      pub changes : (left : List NotedSlot) → noted_after image t.thread after ≡ left → ChangesOwn image t s (with_slots s after) left
      changes left same = record {
        memory_bits = refl;
        boot_radix = refl;
        slots = same;
        others = others;
        near = λ slot parent own is. let of = each slot own in derives-near slot parent of (of.parents parent is);
        hang = record {
          boot = λ slot parent own is less. let of = each slot own in hangs-in-boot slot parent of less (of.parents parent is);
          own = λ slot parent own is mine. let of = each slot own in hangs-in-own slot parent of mine (of.parents parent is);
        };
        maps = λ u slot mapping listed other own is root.
            let of = each slot own in
            elim (of.maps mapping is) [
              | inl held ↦ m.maps u of.from mapping listed other of.own held root
              | inr mine ↦ other (own-roots m.bytes image m.accepted u t listed m.listed (sym root ∙ mine))
            ];
        code = subst (λ (l : List NotedSlot). NamesNoCode image l) same names-none;
        threads = λ offset own is. is;
        been = λ offset own is. is;
        sends = λ queue e x is waiting. is;
        receives = λ queue e thread is waiting. is;
        waits = λ queue n thread is waiting. is;
        bytes = λ frame place code from below. refl;
      }
