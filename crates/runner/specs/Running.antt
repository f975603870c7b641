-- What a run answers, and what it puts.
use Rattle.std.specs.Prelude.{ℕ, ◌≡◌, List, Option, Some}
use Rattle.model.specs.declared.boot_faults.BootFault.{BootFault}
use Rattle.model.specs.declared.boot_faults.BootFault.TheVariants as boot_faults
use Rattle.model.specs.declared.events.Event.{Event}
use Rattle.model.specs.declared.refusals.Refusal.{Refusal}
use Rattle.model.specs.declared.refusals.Refusal.TheVariants as refusals
use Rattle.model.specs.Acceptance.Accepted.{IsAccepted}
use Rattle.model.specs.Images.Image.{Image}
use Rattle.headline.specs.SafeRuns.{IsSafeRun, trace_of}
use Rattle.kernel_trace.specs.Lines.{lines_of}
use Rattle.sinks.specs.Sinks.{Grows, GrowsByBeginning}
use Rattle.runner.specs.Devices.{first_outside}
use Rattle.runner.specs.declared.running.RunFault.{RunFault}
use Rattle.runner.specs.declared.running.RunFault.TheVariants.{Boot, Refused, OutOfMemory}

-- a refusal as out of memory is reported as such
abbrev pub fault_of : Refusal → RunFault
fault_of refusals.OutOfMemory = OutOfMemory
fault_of other = Refused other

-- so is a machine for which there is no memory
abbrev pub boot_fault_of : BootFault → RunFault
boot_fault_of boot_faults.OutOfMemory = OutOfMemory
boot_fault_of other = Boot other

-- ---- the promise

-- the image is accepted and its run is safe, and all lines of its trace were put
abbrev pub PutsAll : List ℕ → List Event → Option (List ℕ) → Option (List ℕ) → Type 0
PutsAll bytes events old new = (image : Image) × IsSafeRun bytes image events × Grows old new (lines_of (trace_of image events))

-- the same, and a beginning of those lines was put
abbrev pub PutsSome : List ℕ → List Event → Option (List ℕ) → Option (List ℕ) → Type 0
PutsSome bytes events old new = (image : Image) × IsSafeRun bytes image events × GrowsByBeginning old new (lines_of (trace_of image events))

-- the image is accepted, and this is the first event that does not keep to its device pages
abbrev pub IsOutside : List ℕ → List Event → ℕ → Type 0
IsOutside bytes events index = (image : Image) × IsAccepted bytes image × (first_outside image events ≡ Some index)
