-- The laws of this crate: where the threads of an accepted image start.
use Rattle.std.specs.Prelude.{ℕ, ◌≡◌, true, List, [], Some, Contains}
use Rattle.model.specs.Acceptance.Accepted.{IsAccepted, IsWellFormed}
use Rattle.model.specs.Acceptance.NotedKernel.{noted_after}
use Rattle.model.specs.Acceptance.NotedStates.{image_slots}
use Rattle.model.specs.Acceptance.ThreadInvariants.{MapsAreNoted, NamesNoCode, ProgramStands, ThreadInvariant}
use Rattle.model.specs.Images.Described.{Numbered, described, listed_thread, numbered_threads}
use Rattle.model.specs.Images.Image.{Image, Thread, whole_image}
use Rattle.model.specs.Images.Places.{offset_of}
use Rattle.model.specs.Kernel.State.{ThreadObject}
use Rattle.thread_spaces.specs.Given.{IsListed}

-- the thread object of each thread
abbrev pub ThreadsAreAsListed : Type 0
ThreadsAreAsListed =
    (image : Image) (t : Thread) → whole_image.fits image ≡ true → IsWellFormed image → IsListed image t
    → (described image).objects (offset_of image t.header.tcb) ≡ Some (ThreadObject (listed_thread t))

-- the slots of a thread's CNodes
abbrev pub SlotsAreAsListed : Type 0
SlotsAreAsListed =
    (image : Image) (t : Thread) → whole_image.fits image ≡ true → IsWellFormed image → IsListed image t
    → noted_after image t (described image).slots ≡ image_slots image t

-- the pages under a thread's root table
abbrev pub MappingsAreAsListed : Type 0
MappingsAreAsListed =
    (image : Image) (t : Numbered) → whole_image.fits image ≡ true → IsWellFormed image → IsListed image t.thread
    → MapsAreNoted image t (described image) (image_slots image t.thread)

-- no slot of a thread names code
abbrev pub ListedSlotsNameNoCode : Type 0
ListedSlotsNameNoCode = (image : Image) (t : Thread) → whole_image.fits image ≡ true → IsWellFormed image → NamesNoCode image (image_slots image t)

-- each word of a thread's program can be fetched
abbrev pub ProgramsStandAtTheirAddresses : Type 0
ProgramsStandAtTheirAddresses =
    (image : Image) (t : Numbered) → whole_image.fits image ≡ true → IsWellFormed image → IsListed image t.thread
    → ProgramStands image t (described image)

-- each thread of an accepted image
abbrev pub ThreadsStartAsCertified : Type 0
ThreadsStartAsCertified =
    (bytes : List ℕ) (image : Image) (t : Numbered) → IsAccepted bytes image → Contains (numbered_threads image) t
    → ThreadInvariant image t (described image) []
