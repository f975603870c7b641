-- What a thread's slots may hold: what names nothing, what names an object without slots, or one of its CNodes.
use Rattle.std.proofs.Common.{ℕ, ◌≡◌, ◌∙◌, ◌==◌, ◌^◌, Bool, true, false, not, Option, Some, None, option_map, refl, sym}
use Rattle.std.specs.Option.{option_map_or}
use Rattle.std.proofs.lemmas.Bool.{eqb-true, false≢true}
use Rattle.model.specs.Acceptance.NotedStates.{is_foreign, is_own_cnode}
use Rattle.model.specs.Acceptance.ThreadRules.{reached}
use Rattle.model.specs.Capabilities.CapabilityKinds.{object_of}
use Rattle.model.specs.Images.Image.{Image, Thread}
use Rattle.model.specs.Images.Places.{offset_of}
use Rattle.model.specs.Kernel.Kinds.{kind_of, object_named}
use Rattle.model.specs.Kernel.Removal.{is_root_at, slot_count}
use Rattle.model.specs.Kernel.Retype.{NewObject, NewThread, NewEndpoint, NewNotification, NewCNode, NewFrame, NewRootTable}
use Rattle.model.specs.Kernel.State.{Object, ThreadObject, EndpointObject, NotificationObject, CNodeObject, FrameObject, PageTableObject, RootTableObject}
use Rattle.model.specs.declared.capabilities.Cap.{Cap}
use Rattle.model.specs.declared.capabilities.Cap.TheVariants.{Empty, Untyped, Endpoint, Notification, CNode, Frame, PageTable, Tcb, RootTable, InterruptControl}
use Rattle.model.specs.declared.capabilities.Cap.TheVariants.{InterruptHandler}

-- how many slots an object of a type has
abbrev pub slots_of_kind : NewObject → ℕ
slots_of_kind NewThread = 3
slots_of_kind (NewCNode radix) = 2 ^ radix
slots_of_kind _ = 0

pub count-by-kind : (o : Option Object) → slot_count o ≡ option_map_or slots_of_kind (option_map kind_of o) 0
count-by-kind None = refl
count-by-kind (Some (ThreadObject t)) = refl
count-by-kind (Some (EndpointObject e)) = refl
count-by-kind (Some (NotificationObject n)) = refl
count-by-kind (Some (CNodeObject radix)) = refl
count-by-kind (Some FrameObject) = refl
count-by-kind (Some PageTableObject) = refl
count-by-kind (Some RootTableObject) = refl

pub data OwnHeld (image : Image) (t : Thread) (c : Cap) : Type 0 where
  nothing : object_of c ≡ None → OwnHeld image t c
  plain : (kind : NewObject) (offset : ℕ) → object_named c ≡ Some (kind, offset) → object_of c ≡ Some offset → slots_of_kind kind ≡ 0 → OwnHeld image t c
  cnode : (radix offset : ℕ) → object_named c ≡ Some (NewCNode radix, offset) → object_of c ≡ Some offset
      → is_own_cnode image (reached image t) offset radix ≡ true
      → OwnHeld image t c

pub not-false : (b : Bool) → not b ≡ false → b ≡ true
not-false true is = refl
not-false false is = absurd (false≢true (sym is))

module _ (image : Image) (t : Thread) where
  abbrev Mine : Cap → Type 0
  Mine c = is_foreign image t (reached image t) c ≡ false

  pub own-held : (c : Cap) → Mine c → OwnHeld image t c
  own-held Empty mine = nothing refl
  own-held (Untyped offset bits watermark) mine = nothing refl
  own-held (Endpoint offset r badge) mine = plain NewEndpoint offset refl refl refl
  own-held (Notification offset r badge) mine = plain NewNotification offset refl refl refl
  own-held (CNode offset radix guard) mine = cnode radix offset refl refl (not-false (is_own_cnode image (reached image t) offset radix) mine)
  own-held (Frame offset r mapping) mine = plain NewFrame offset refl refl refl
  own-held (PageTable offset mapping) mine = absurd (false≢true (sym mine))
  own-held (Tcb offset) mine = absurd (false≢true (sym mine))
  own-held (RootTable offset) mine = plain NewRootTable offset refl refl refl
  own-held InterruptControl mine = absurd (false≢true (sym mine))
  own-held (InterruptHandler irq_line) mine = nothing refl

  -- a root table is the thread's own
  pub own-root : (c : Cap) (root : ℕ) → Mine c → is_root_at root c ≡ true → root ≡ offset_of image t.header.root
  own-root Empty root mine is = absurd (false≢true is)
  own-root (Untyped offset bits watermark) root mine is = absurd (false≢true is)
  own-root (Endpoint offset r badge) root mine is = absurd (false≢true is)
  own-root (Notification offset r badge) root mine is = absurd (false≢true is)
  own-root (CNode offset radix guard) root mine is = absurd (false≢true is)
  own-root (Frame offset r mapping) root mine is = absurd (false≢true is)
  own-root (PageTable offset mapping) root mine is = absurd (false≢true is)
  own-root (Tcb offset) root mine is = absurd (false≢true is)
  own-root (RootTable offset) root mine is =
      sym (eqb-true offset root is) ∙ eqb-true offset (offset_of image t.header.root) (not-false (offset == offset_of image t.header.root) mine)
  own-root InterruptControl root mine is = absurd (false≢true is)
  own-root (InterruptHandler irq_line) root mine is = absurd (false≢true is)
