-- What a live run answers: of the lines that come, those that are answered, and what is put of the trace of the events that they ask for.
use Rattle.std.specs.Prelude.{ℕ, ◌≡◌, ◌+◌, ◌-◌, ◌^◌, ◌++◌, ◌⊎◌, ◌∷◌, Bool, true, false, [], length, All, List, Option, None, Result, Ok, Err}
use Rattle.model.specs.Acceptance.Accepted.{IsAccepted}
use Rattle.model.specs.Acceptance.Devices.{KeepsDevices}
use Rattle.model.specs.Images.Described.{described}
use Rattle.model.specs.Images.Format.{reading}
use Rattle.model.specs.Images.Image.{Image, whole_image}
use Rattle.model.specs.Kernel.State.{State}
use Rattle.model.specs.Kernel.Steps.{state_after, trace}
use Rattle.headline.specs.SafeRuns.{IsSafeRun}
use Rattle.kernel_trace.specs.Asked.{all_asked, asked_events}
use Rattle.kernel_trace.specs.Lines.{lines_of}
use Rattle.runner.specs.Devices.{AreDevicePages, is_kept}
use Rattle.runner.specs.Unverified.{BootsInto}
use Rattle.runner.specs.declared.live_runs.LiveFault.{LiveFault}
use Rattle.runner.specs.declared.live_runs.LiveFault.TheVariants.{Start, Line, Input, Output}
use Rattle.sinks.specs.LineInputs.{GivesLines, NoneLeft}
use Rattle.sinks.specs.Sinks.{Grows, GrowsByBeginning}
use Rattle.sinks.specs.declared.event_lines.EventLine.{EventLine}
use Rattle.sinks.specs.declared.event_lines.EventLine.TheVariants.{Blank, Events, Settle}

-- whether what a line asks for keeps to the image's device pages
abbrev pub is_line_kept : Image → EventLine → Bool
is_line_kept image Blank = true
is_line_kept image (Settle most) = true
is_line_kept image (Events event count) = is_kept image event

-- ---- which lines are answered, of all that are to come

-- all of them
abbrev pub GivesAll : Option (List EventLine) → Option (List EventLine) → List EventLine → Type 0
GivesAll all left lines = GivesLines all left lines × NoneLeft left

-- those before the one of this number, from 1: it is malformed, or is given and does not keep to the device pages
abbrev pub StopsAt : ℕ → Option (List EventLine) → Option (List EventLine) → Image → List EventLine → Type 0
StopsAt number all left image lines =
    (length lines + 1 ≡ number) × ((all ≡ None) ⊎ ((line : EventLine) × GivesLines all left (lines ++ line ∷ []) × (is_line_kept image line ≡ false)))

-- those before the input could not be read, or as many as are counted
abbrev pub StopsShort : Option (List EventLine) → Option (List EventLine) → List EventLine → Type 0
StopsShort all left lines = GivesLines all left lines × ((all ≡ None) ⊎ (length lines ≡ 2 ^ 64 - 1))

-- ---- what is put

-- Some lines are answered from a state: the world keeps to the device pages in what they ask for, and so much is put of the lines of its trace.
pub record AnswersFrom (image : Image) (s : State) (Given : List EventLine → Type 0) (Puts : List ℕ → Type 0) : Type 0 where
  pub lines : List EventLine
  pub given : Given lines
  pub kept : All (KeepsDevices image) (all_asked s lines)
  pub puts : Puts (lines_of (trace s (all_asked s lines)))

-- the image is accepted, its run over the events that the answered lines ask for is safe, and so much of its lines is put
abbrev pub Answers : List ℕ → (Image → List EventLine → Type 0) → (List ℕ → Type 0) → Type 0
Answers bytes Given Puts =
    (image : Image) × (answered : AnswersFrom image (described image) (Given image) Puts) × IsSafeRun bytes image (all_asked (described image) answered.lines)

-- the image boots, and so much of the lines of the kernel's trace is put
abbrev pub AnswersBooted : List ℕ → (Image → List EventLine → Type 0) → (List ℕ → Type 0) → Type 0
AnswersBooted bytes Given Puts = (start : State) × (boots : BootsInto bytes start) × AnswersFrom boots.image start (Given boots.image) Puts

-- ---- what begins

-- the image is accepted, the state is the one that it describes, and these are its device pages
pub record StartsAccepted (bytes : List ℕ) (s : State) (starts : List ℕ) : Type 0 where
  pub image : Image
  pub accepted : IsAccepted bytes image
  pub read : reading whole_image bytes ≡ Ok image
  pub state : s ≡ described image
  pub pages : AreDevicePages image image.header.objects starts

-- the image boots into this state, and these are its device pages
pub record StartsBooted (bytes : List ℕ) (s : State) (starts : List ℕ) : Type 0 where
  pub boots : BootsInto bytes s
  pub pages : AreDevicePages boots.image boots.image.header.objects starts

-- ---- one line

-- What becomes of the next line, of this number: it is answered, there is none, it is at fault, it cannot be read, or it is put in part.
abbrev pub NextAnswer : Image → ℕ → State → State → Option (List EventLine) → Option (List EventLine) → Option (List ℕ) → Option (List ℕ)
    → Result Bool LiveFault → Type 0
NextAnswer image number s after all left old new (Ok true) =
    (line : EventLine) × GivesLines all left (line ∷ []) × (is_line_kept image line ≡ true) × (after ≡ state_after s (asked_events s line))
    × Grows old new (lines_of (trace s (asked_events s line)))
NextAnswer image number s after all left old new (Ok false) = GivesAll all left [] × (new ≡ old)
NextAnswer image number s after all left old new (Err (Line n)) =
    (n ≡ number) × (new ≡ old) × ((all ≡ None) ⊎ ((line : EventLine) × GivesLines all left (line ∷ []) × (is_line_kept image line ≡ false)))
NextAnswer image number s after all left old new (Err Input) = (all ≡ None) × (new ≡ old)
NextAnswer image number s after all left old new (Err Output) =
    (line : EventLine) × GivesLines all left (line ∷ []) × (is_line_kept image line ≡ true)
    × GrowsByBeginning old new (lines_of (trace s (asked_events s line)))
NextAnswer image number s after all left old new (Err (Start fault)) = ⊥
