-- Calls on capabilities in the slots of a thread.
use Rattle.std.specs.Prelude.{ℕ, ◌≡◌, ◌/◌, ◌||◌, not, Option, Result, Ok, Err, List, Bool}
use Rattle.model.specs.declared.capabilities.Cap.{Cap}
use Rattle.model.specs.declared.capabilities.Cap.TheVariants.{Untyped, CNode, Frame, PageTable, Tcb, InterruptControl, InterruptHandler}
use Rattle.model.specs.declared.capabilities.FrameMapping.{FrameMapping}
use Rattle.model.specs.declared.errors.KError.{KError}
use Rattle.model.specs.declared.errors.KError.TheVariants.{DeleteFirst, FailedLookup, InvalidArgument, InvalidCapability}
use Rattle.model.specs.declared.invocations.Invocation.{Invocation}
use Rattle.model.specs.declared.invocations.Invocation.TheVariants.{OnUntyped, OnThread, OnCNode, OnFrame, OnTable, OnControl, OnHandler}
use Rattle.model.specs.declared.invocations.SlotName.{SlotName}
use Rattle.model.specs.declared.refusals.Point.{Point}
use Rattle.model.specs.declared.refusals.Refusal.{Refusal}
use Rattle.model.specs.declared.rights.Rights.{Rights}
use Rattle.model.specs.Acceptance.NotedKernel.{noted_kernel, noted_root, noted_slots, slot_of_key}
use Rattle.model.specs.Acceptance.NotedStates.{NotedSlot}
use Rattle.model.specs.Capabilities.Rights.{mapping_rights, may_execute, may_read}
use Rattle.model.specs.Capabilities.Slots.{IsFull, Slots, capability_at}
use Rattle.model.specs.Images.Image.{Image, Thread}
use Rattle.model.specs.Kernel.AddressSpaces.{is_page_taken, is_region_taken, region_pages}
use Rattle.model.specs.Kernel.Arguments.{◌>>=◌, check}
use Rattle.model.specs.Kernel.MappingCalls.{is_mapped, root_named}
use Rattle.typestate.specs.declared.system_calls.SystemCall.{SystemCall}
use Rattle.typestate.specs.declared.system_calls.SystemCall.TheVariants.{Plain, Invokes}
use Rattle.typestate.specs.Calls.{call_on}
use Rattle.typestate.specs.Replays.{replayed}
use Rattle.typestate.specs.declared.log_entries.LogEntry.{LogEntry}
use Rattle.typestate.specs.SlotChanges.{slots_after}
use Rattle.vspace.specs.Answers.{page_named}

-- a call that is decoded of a capability
abbrev pub IsCallOn : Cap → Invocation → Type 0
IsCallOn (Untyped offset bits watermark) (OnUntyped memory c) = memory ≡ record { offset = offset; bits = bits; watermark = watermark }
IsCallOn (CNode offset radix guard) (OnCNode c) = Unit {0}
IsCallOn (Frame offset r mapping) (OnFrame held c) = held ≡ r
IsCallOn (InterruptHandler irq_line) (OnHandler line c) = line ≡ irq_line
IsCallOn (Tcb offset) (OnThread thread c) = Unit {0}
IsCallOn (PageTable offset mapping) (OnTable c) = Unit {0}
IsCallOn InterruptControl (OnControl line name) = Unit {0}
IsCallOn _ _ = ⊥

-- what is known of slot and capability of a call
abbrev pub CalledOf : (ℕ → Cap → Type 0) → Result SystemCall Refusal → Type 0
CalledOf known (Ok (Plain b)) = Unit {0}
CalledOf known (Ok (Invokes slot capability answers)) = known slot capability
CalledOf known (Err refusal) = Unit {0}

-- a full slot, and what it holds
pub record HoldsFull (slots : Slots) (slot : ℕ) (capability : Cap) : Type 0 where
  pub full : IsFull slots slot
  pub held : capability ≡ capability_at slots slot

-- what a call on what a slot holds leaves of the slots
abbrev pub held_after : Image → Thread → Point → List NotedSlot → NotedSlot → Invocation → Result (List NotedSlot) Refusal
held_after image t at slots held call = slots_after image t at slots (call_on image t (slot_of_key image held.key) held.capability) call

-- the slots with these changes, if the call is not refused
abbrev pub made_or_refused : List NotedSlot → List LogEntry → Result Bool Refusal → Result (List NotedSlot) Refusal
made_or_refused slots made (Ok _) = Ok (replayed slots made)
made_or_refused slots made (Err refusal) = Err refusal

-- ---- frames

-- that a name is of the one root table that a thread may name
abbrev pub with_root : ℕ → Result (Unit {0}) KError → Result ℕ KError
with_root table (Ok _) = Ok table
with_root table (Err error) = Err error

-- the checks of Map behind those of root and address
abbrev pub mapped_at : Image → Thread → List NotedSlot → Rights → ℕ → ℕ → Result FrameMapping KError
mapped_at image t slots allowed root page =
    let s = noted_kernel image t slots in do
      _ ← check (is_region_taken s root (page / region_pages)) FailedLookup
      _ ← check (not (is_page_taken s root page)) DeleteFirst
      _ ← check (may_read allowed || may_execute allowed) InvalidArgument
      Ok (record { root = root; page = page; rights = allowed })

-- the mapping that Map makes, or the kernel's error
abbrev pub mapping_made : Image → Thread → List NotedSlot → Option FrameMapping → Rights → SlotName → ℕ → ℕ → Result FrameMapping KError
mapping_made image t slots mapping held name address rights_word = do
  _ ← check (not (is_mapped mapping)) InvalidCapability
  root ← root_named (noted_slots image t slots) (noted_root image t) name
  page ← page_named address
  mapped_at image t slots (mapping_rights held rights_word) root page
