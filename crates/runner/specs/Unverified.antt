-- What a run puts of an image that is not verified: the kernel's trace from what the image boots into.
use Rattle.std.specs.Prelude.{ℕ, ◌≡◌, List, Option, Some, Ok, Err}
use Rattle.model.specs.declared.boot_faults.BootFault.{BootFault}
use Rattle.model.specs.declared.events.Event.{Event}
use Rattle.model.specs.Images.Boot.{booted}
use Rattle.model.specs.Images.Format.{reading}
use Rattle.model.specs.Images.Image.{Image, whole_image}
use Rattle.model.specs.Kernel.State.{State}
use Rattle.model.specs.Kernel.Steps.{trace}
use Rattle.kernel_trace.specs.Lines.{lines_of}
use Rattle.runner.specs.Devices.{first_outside}
use Rattle.sinks.specs.Sinks.{Grows, GrowsByBeginning}

-- the bytes spell an image that boots into this state
pub record BootsInto (bytes : List ℕ) (start : State) : Type 0 where
  pub image : Image
  pub read : reading whole_image bytes ≡ Ok image
  pub booted : booted image ≡ Ok start

-- the bytes spell an image that does not boot, for this reason
pub record FailsToBoot (bytes : List ℕ) (fault : BootFault) : Type 0 where
  pub image : Image
  pub read : reading whole_image bytes ≡ Ok image
  pub fails : booted image ≡ Err fault

-- the image boots, and all lines of its trace were put
abbrev pub PutsTrace : List ℕ → List Event → Option (List ℕ) → Option (List ℕ) → Type 0
PutsTrace bytes events old new = (start : State) × BootsInto bytes start × Grows old new (lines_of (trace start events))

-- the image boots, and a beginning of those lines was put
abbrev pub PutsTraceBeginning : List ℕ → List Event → Option (List ℕ) → Option (List ℕ) → Type 0
PutsTraceBeginning bytes events old new = (start : State) × BootsInto bytes start × GrowsByBeginning old new (lines_of (trace start events))

-- the bytes spell an image, and this is the first event that does not keep to its device pages
abbrev pub ReadsOutside : List ℕ → List Event → ℕ → Type 0
ReadsOutside bytes events index = (image : Image) × (reading whole_image bytes ≡ Ok image) × (first_outside image events ≡ Some index)
