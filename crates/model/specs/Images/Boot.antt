-- Booting: what comes of loading an image into an empty machine, by kernel calls alone.
-- seL4 Reference Manual, "System Bootstrapping".
use Rattle.std.specs.Prelude.{ℕ, suc, ◌==◌, ◌-◌, Option, Some, None, option_and_then, Result, Ok, Err, List, [], ◌∷◌, find, if◌then◌else◌}
use Rattle.std.specs.Option.{option_map_or}
use Rattle.model.specs.declared.boot_faults.BootFault.{BootFault}
use Rattle.model.specs.declared.boot_faults.BootFault.TheVariants.{Kernel, Outside}
use Rattle.model.specs.declared.capabilities.Cap.{Cap}
use Rattle.model.specs.declared.capabilities.Cap.TheVariants.{CNode}
use Rattle.model.specs.declared.errors.KError.{KError}
use Rattle.model.specs.declared.errors.KError.TheVariants.{FailedLookup}
use Rattle.model.specs.declared.lookup_failures.LookupFailure.{LookupFailure}
use Rattle.model.specs.Kernel.Arguments.{◌>>=◌, Call}
use Rattle.model.specs.Images.BootCalls.{LoaderCall, Operation, PutsUntyped, PutsControl, Calls, Fills, boot_cnode, operations}
use Rattle.model.specs.Images.Described.{numbered}
use Rattle.model.specs.Images.Fills.{Fill}
use Rattle.model.specs.Images.Image.{Image}
use Rattle.model.specs.Kernel.CallForms.{configure_label}
use Rattle.model.specs.Kernel.Invocations.{configure_with_guard, invoke}
use Rattle.model.specs.Kernel.Setup.{boot_area, fill, put_control, put_untyped}
use Rattle.model.specs.Capabilities.Lookup.{called_slot}
use Rattle.model.specs.Capabilities.Slots.{capability_at}
use Rattle.model.specs.Kernel.State.{State}
use Rattle.model.specs.Acceptance.WellFormed.{overlaps, too_few_boot_slots}

-- ---- one call

-- the root of the loader's capability space: a boot slot is its number at 32 bits
abbrev pub boot_root : ℕ → Cap
boot_root radix = CNode 0 radix (32 - radix)

abbrev pub or_failed : Result ℕ LookupFailure → Result ℕ KError
or_failed (Ok slot) = Ok slot
or_failed (Err failure) = Err FailedLookup

-- what an address of the loader names: the boot CNode itself, or a boot slot
abbrev pub boot_call : State → ℕ → Result Call KError
boot_call s address =
    let root = boot_root s.boot_radix in
    if address == boot_cnode
    then Ok (record { root = root; caller = None; slot = 0; capability = root })
    else (or_failed (called_slot s.slots root address) >>= λ slot.
    Ok (record { root = root; caller = None; slot = slot; capability = capability_at s.slots slot }))

-- Configure has a sixth word, the guard word of the thread's CNode.
abbrev pub performed : State → ℕ → List ℕ → Call → Result State KError
performed s label words call = if label == configure_label then configure_with_guard s call words else invoke s call label 0 words

unfoldable pub made : State → LoaderCall → Result State KError
made s c = boot_call s c.address >>= λ call. performed s c.label c.words call

-- ---- filling frames

-- one fill after another, if each can be made
abbrev pub fill_all : State → List Fill → Option State
fill_all s [] = Some s
fill_all s (f ∷ later) = option_and_then (λ filled. fill_all filled later) (fill s f.offset f.bytes)

-- ---- the whole

abbrev pub goes_on_after_call : ℕ → (State → Result State BootFault) → Result State KError → Result State BootFault
goes_on_after_call number next (Ok s) = next s
goes_on_after_call number next (Err error) = Err (Kernel number error)

abbrev pub goes_on_inside : ℕ → (State → Result State BootFault) → Option State → Result State BootFault
goes_on_inside number next (Some s) = next s
goes_on_inside number next None = Err (Outside number)

-- The operations one after another, their calls counted from a number on; the first that fails gives the fault. Untyped memory lies
-- outside by its own number, and interrupt control by the number of untypeds.
unfoldable pub run_from : Image → ℕ → State → List Operation → Result State BootFault
run_from image number s [] = Ok s
run_from image number s (PutsUntyped untyped u ∷ later) =
    goes_on_inside untyped (λ after. run_from image number after later) (put_untyped s untyped u.offset u.bits)
run_from image number s (PutsControl slot ∷ later) =
    goes_on_inside image.header.untypeds (λ after. run_from image number after later) (put_control s slot)
run_from image number s (Calls call ∷ later) = goes_on_after_call number (λ after. run_from image (suc number) after later) (made s call)
run_from image number s (Fills place fills ∷ later) =
    goes_on_inside place (λ after. run_from image number after later) (option_and_then (fill_all s) fills)

-- the first untyped that is not where untyped memory may lie, or the number of untypeds where boot slots do not suffice
abbrev pub misplaced : Image → Option ℕ
misplaced image =
    option_map_or (λ u. Some u.0) (find (overlaps image) (numbered image.untypeds))
    (if too_few_boot_slots image then Some image.header.untypeds else None)

-- Untypeds and boot slots are looked at before the first call.
abbrev pub boots_unless : Option ℕ → Image → Result State BootFault
boots_unless (Some number) image = Err (Outside number)
boots_unless None image = run_from image 0 (boot_area image.header.memory_bits image.header.boot_radix) (operations image)

-- what comes of loading an image
unfoldable pub booted : Image → Result State BootFault
booted image = boots_unless (misplaced image) image
