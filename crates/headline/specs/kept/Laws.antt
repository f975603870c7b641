-- The laws of this crate that are about one thread, or two.
use Rattle.std.specs.Prelude.{ℕ, ◌≡◌, ◌<◌, List, length, Contains, [], ◌≢◌, Some}
use Rattle.model.specs.declared.instructions.Access.TheVariants.{Store}
use Rattle.model.specs.Acceptance.Accepted.{IsAccepted}
use Rattle.model.specs.Acceptance.NotedStates.{PointState}
use Rattle.model.specs.Acceptance.PointStates.{Known, address_of, noted}
use Rattle.model.specs.Acceptance.ThreadInvariants.{LieWithin, StandsAt, tcb_of}
use Rattle.model.specs.Images.Described.{Numbered, numbered_threads, described}
use Rattle.model.specs.Images.Image.{Image}
use Rattle.model.specs.Kernel.AddressSpaces.{content_of, with_content}
use Rattle.model.specs.Kernel.Messages.{with_registers}
use Rattle.model.specs.Kernel.Soundness.{IsSound}
use Rattle.model.specs.Kernel.State.{State, ThreadState}
use Rattle.model.specs.Machine.ProgramMemory.{Content, RegisterFile}
use Rattle.headline.specs.facts.Standing.{AllStand}
use Rattle.headline.specs.facts.Untouched.{IsUntouched}

-- a thread that a change leaves alone
abbrev pub StandsOn : Type 0
StandsOn =
    (bytes : List ℕ) (image : Image) (t : Numbered) (s after : State) (own next : ThreadState) (point following : ℕ) (state known : PointState)
    → IsAccepted bytes image → Contains (numbered_threads image) t → IsSound s → IsSound after → IsUntouched image t s after
    → StandsAt image t s own point state → following < t.thread.header.words → noted image t following ≡ Known known
    → next.registers.pc ≡ address_of t.thread following → LieWithin next.registers known.ranges → known.slots ≡ state.slots
    → StandsAt image t after next following known

-- two threads have two control blocks
abbrev pub HaveOwnBlocks : Type 0
HaveOwnBlocks = (bytes : List ℕ) (image : Image) (t u : Numbered) → IsAccepted bytes image → Contains (numbered_threads image) t
    → Contains (numbered_threads image) u
    → tcb_of image t ≡ tcb_of image u → t ≡ u

-- a point notes all ranges
abbrev pub IsLong : Type 0
IsLong = (bytes : List ℕ) (image : Image) (t : Numbered) (point : ℕ) (state : PointState) → IsAccepted bytes image → Contains (numbered_threads image) t
    → noted image t point ≡ Known state → length state.ranges ≡ 31

-- all threads, in the state that an accepted image describes
abbrev pub AllStandAtTheStart : Type 0
AllStandAtTheStart = (bytes : List ℕ) (image : Image) → IsAccepted bytes image → AllStand image (described image) []

-- a thread that writes only where its stores may leaves every thread alone
abbrev pub StoresTouchNone : Type 0
StoresTouchNone =
    (bytes : List ℕ) (image : Image) (t u : Numbered) (s : State) (own : ThreadState) (point : ℕ) (state : PointState)
    → IsAccepted bytes image → Contains (numbered_threads image) t → Contains (numbered_threads image) u → IsSound s
    → StandsAt image t s own point state → (registers : RegisterFile) (left : Content)
    → ((place : ℕ) → ((address other : ℕ) → (content_of s (tcb_of image t)).place Store address ≡ Some other → other ≢ place)
    → left.byte place ≡ (content_of s (tcb_of image t)).byte place)
    → IsUntouched image u s (with_content (with_registers s (tcb_of image t) registers) left)
