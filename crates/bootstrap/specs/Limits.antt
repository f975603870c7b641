-- The limits of an image that keeps to its format: how many entries there are, and that what they name is there.
use Rattle.std.specs.Prelude.{ℕ, ◌≡◌, ◌≢◌, ◌+◌, ◌^◌, ◌≤◌, ◌<◌, Some, List, length, slice_get}
use Rattle.std.specs.List.{AllByRecursion}
use Rattle.model.specs.declared.entries.CapabilityEntry.{CapabilityEntry}
use Rattle.model.specs.declared.entries.FrameEntry.{FrameEntry}
use Rattle.model.specs.declared.entries.ImageHeader.{ImageHeader}
use Rattle.model.specs.declared.entries.InterruptEntry.{InterruptEntry}
use Rattle.model.specs.declared.entries.ObjectEntry.{ObjectEntry}
use Rattle.model.specs.declared.entries.TableEntry.{TableEntry}
use Rattle.model.specs.declared.entries.UntypedEntry.{UntypedEntry}
use Rattle.model.specs.Images.Image.{Image, ImageContent, Thread, no_buffer, pair_key}
use Rattle.format_laws.specs.Fitting.{HeaderFits}

-- so many entries, of each of which this holds
pub record HasSection {A : Type 0} (size : ℕ) (Holds : A → Type 0) (xs : List A) : Type 0 where
  pub count : length xs ≡ size
  pub entries : (number : ℕ) (x : A) → slice_get xs number ≡ Some x → Holds x

-- ---- what entries name

pub record UntypedFits (u : UntypedEntry) : Type 0 where
  pub bits : u.bits ≤ 24

pub record ObjectFits (h : ImageHeader) (o : ObjectEntry) : Type 0 where
  pub untyped : o.untyped < h.untypeds
  pub size : o.size ≤ 24

pub record CapabilityFits (h : ImageHeader) (c : CapabilityEntry) : Type 0 where
  pub cnode : c.cnode < h.objects
  pub source : c.source < h.objects + h.interrupts

pub record InterruptFits (h : ImageHeader) (i : InterruptEntry) : Type 0 where
  pub notification : i.notification < h.objects

pub record TableFits (h : ImageHeader) (t : TableEntry) : Type 0 where
  pub root : t.root < h.objects
  pub table : t.table < h.objects

pub record FrameFits (h : ImageHeader) (f : FrameEntry) : Type 0 where
  pub root : f.root < h.objects
  pub frame : f.frame < h.objects
  pub address : f.address < 2 ^ 32

-- each frame has a higher key than those before it
abbrev pub DoFramesRise : List FrameEntry → Type 0
DoFramesRise frames = (i j : ℕ) (a b : FrameEntry) → i < j → slice_get frames i ≡ Some a → slice_get frames j ≡ Some b
    → pair_key a.root a.address < pair_key b.root b.address

pub record ContentFits (h : ImageHeader) (c : ImageContent) : Type 0 where
  pub frame : c.header.frame < h.objects

pub record ThreadFits (h : ImageHeader) (t : Thread) : Type 0 where
  pub tcb : t.header.tcb < h.objects
  pub cnode : t.header.cnode < h.objects
  pub root : t.header.root < h.objects
  pub buffer : t.header.buffer ≢ no_buffer → t.header.buffer < h.objects
  pub registers : length t.registers ≤ 31
  pub words : length t.words ≡ t.header.words
  pub most_words : t.header.words ≤ 65536

-- ---- the whole

pub record IsLimited (image : Image) : Type 0 where
  pub header : HeaderFits image.header
  pub untypeds : HasSection image.header.untypeds UntypedFits image.untypeds
  pub objects : HasSection image.header.objects (ObjectFits image.header) image.objects
  pub capabilities : HasSection image.header.capabilities (CapabilityFits image.header) image.capabilities
  pub interrupts : HasSection image.header.interrupts (InterruptFits image.header) image.interrupts
  pub tables : HasSection image.header.tables (TableFits image.header) image.tables
  pub frames : HasSection image.header.frames (FrameFits image.header) image.frames
  -- frames rise by root table and address
  pub pages_rise : DoFramesRise image.frames
  pub contents : AllByRecursion (ContentFits image.header) image.contents
  pub content_count : length image.contents ≡ image.header.contents
  pub threads : AllByRecursion (ThreadFits image.header) image.threads
  pub thread_count : length image.threads ≡ image.header.threads
