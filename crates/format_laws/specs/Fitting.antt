-- What an image is that fits its format: counts are lengths, numbers lie in their ranges, and keys rise.
use Rattle.std.specs.Prelude.{ℕ, ◌≡◌, ◌+◌, ◌^◌, ◌<◌, ◌≤◌, ◌≤ℤ◌, negsuc, true, false, length, Some, slice_get}
use Rattle.model.specs.declared.entries.CapabilityEntry.{CapabilityEntry}
use Rattle.model.specs.declared.entries.FrameEntry.{FrameEntry}
use Rattle.model.specs.declared.entries.ImageHeader.{ImageHeader}
use Rattle.model.specs.declared.entries.InterruptEntry.{InterruptEntry}
use Rattle.model.specs.declared.entries.ObjectEntry.{ObjectEntry}
use Rattle.model.specs.declared.entries.PromisedWord.{PromisedWord}
use Rattle.model.specs.declared.entries.TableEntry.{TableEntry}
use Rattle.model.specs.declared.entries.ThreadHeader.{ThreadHeader}
use Rattle.model.specs.declared.entries.UntypedEntry.{UntypedEntry}
use Rattle.model.specs.Images.Image.{Image, ImagePromise, StateRecord, Thread, has_buffers, has_promises, latest_version, no_buffer, pair_key, size_fits}

-- ---- entries

pub record HeaderFits (h : ImageHeader) : Type 0 where
  pub version_low : 1 ≤ h.version
  pub version_high : h.version ≤ latest_version
  pub memory_low : 16 ≤ h.memory_bits
  pub memory_high : h.memory_bits ≤ 24
  pub radix_low : 1 ≤ h.boot_radix
  pub radix_high : h.boot_radix ≤ 14
  pub radix_memory : h.boot_radix + 5 ≤ h.memory_bits
  pub untypeds : h.untypeds ≤ 64
  pub objects : h.objects ≤ 4096
  pub capabilities : h.capabilities ≤ 16384
  pub interrupts : h.interrupts ≤ 64
  pub tables : h.tables ≤ 1024
  pub frames : h.frames ≤ 4096
  pub contents : h.contents ≤ 4096
  pub promises : h.promises ≤ 4096
  pub no_promises : has_promises h.version ≡ false → h.promises ≡ 0
  pub threads : h.threads ≤ 64

pub record UntypedFits (u : UntypedEntry) : Type 0 where
  pub offset : u.offset < 2 ^ 32
  pub low : 4 ≤ u.bits
  pub high : u.bits ≤ 24

pub record ObjectFits (image : Image) (o : ObjectEntry) : Type 0 where
  pub untyped : o.untyped < image.header.untypeds
  pub low : 1 ≤ o.kind
  pub high : o.kind ≤ 8
  pub size : size_fits o.kind o.size ≡ true

pub record CapabilityFits (image : Image) (c : CapabilityEntry) : Type 0 where
  pub cnode : c.cnode < image.header.objects
  pub index : c.index < 2 ^ 32
  pub source : c.source < image.header.objects + image.header.interrupts
  pub rights : c.rights < 2 ^ 32
  pub payload : c.payload < 2 ^ 32

pub record InterruptFits (image : Image) (i : InterruptEntry) : Type 0 where
  pub line : i.line ≤ 63
  pub notification : i.notification < image.header.objects
  pub badge : i.badge < 2 ^ 28

pub record TableFits (image : Image) (t : TableEntry) : Type 0 where
  pub root : t.root < image.header.objects
  pub address : t.address < 2 ^ 32
  pub table : t.table < image.header.objects

pub record FrameFits (image : Image) (f : FrameEntry) : Type 0 where
  pub root : f.root < image.header.objects
  pub address : f.address < 2 ^ 32
  pub frame : f.frame < image.header.objects
  pub rights : f.rights ≤ 7

pub record PromisedWordFits (word : PromisedWord) : Type 0 where
  pub ordered : word.low ≤ word.high
  pub high : word.high < 2 ^ 32

pub record PromiseFits (image : Image) (p : ImagePromise) : Type 0 where
  pub endpoint : p.header.endpoint < image.header.objects
  pub badges : p.header.badge_low ≤ p.header.badge_high
  pub badge_high : p.header.badge_high < 2 ^ 28
  pub count : length p.words ≡ p.header.words
  pub few : p.header.words ≤ 8
  pub word : (k : ℕ) (word : PromisedWord) → slice_get p.words k ≡ Some word → PromisedWordFits word

pub record ThreadFits (image : Image) (t : ThreadHeader) : Type 0 where
  pub tcb : t.tcb < image.header.objects
  pub cnode : t.cnode < image.header.objects
  pub guard : t.guard < 2 ^ 32
  pub root : t.root < image.header.objects
  pub priority : t.priority ≤ 255
  pub fault : t.fault < 2 ^ 32
  pub entry : t.entry < 2 ^ 32
  pub base : t.base < 2 ^ 32
  pub no_buffer : has_buffers image.header.version ≡ false → t.buffer ≡ no_buffer

-- ---- the image

pub record IsFitting (image : Image) : Type 0 where
  pub header : HeaderFits image.header
  pub untypeds : length image.untypeds ≡ image.header.untypeds
  pub objects : length image.objects ≡ image.header.objects
  pub capabilities : length image.capabilities ≡ image.header.capabilities
  pub interrupts : length image.interrupts ≡ image.header.interrupts
  pub tables : length image.tables ≡ image.header.tables
  pub frames : length image.frames ≡ image.header.frames
  pub promises : length image.promises ≡ image.header.promises
  pub threads : length image.threads ≡ image.header.threads
  pub untyped : (k : ℕ) (u : UntypedEntry) → slice_get image.untypeds k ≡ Some u → UntypedFits u
  pub object : (k : ℕ) (o : ObjectEntry) → slice_get image.objects k ≡ Some o → ObjectFits image o
  pub capability : (k : ℕ) (c : CapabilityEntry) → slice_get image.capabilities k ≡ Some c → CapabilityFits image c
  pub interrupt : (k : ℕ) (i : InterruptEntry) → slice_get image.interrupts k ≡ Some i → InterruptFits image i
  pub table : (k : ℕ) (t : TableEntry) → slice_get image.tables k ≡ Some t → TableFits image t
  pub frame : (k : ℕ) (f : FrameEntry) → slice_get image.frames k ≡ Some f → FrameFits image f
  pub promise : (k : ℕ) (p : ImagePromise) → slice_get image.promises k ≡ Some p → PromiseFits image p
  pub thread : (k : ℕ) (t : Thread) → slice_get image.threads k ≡ Some t → ThreadFits image t.header
  -- keys rise
  pub slots_rise : (i j : ℕ) (c d : CapabilityEntry) → i < j → slice_get image.capabilities i ≡ Some c → slice_get image.capabilities j ≡ Some d
      → pair_key c.cnode c.index < pair_key d.cnode d.index
  pub lines_rise : (i j : ℕ) (a b : InterruptEntry) → i < j → slice_get image.interrupts i ≡ Some a → slice_get image.interrupts j ≡ Some b → a.line < b.line
  pub regions_rise : (i j : ℕ) (a b : TableEntry) → i < j → slice_get image.tables i ≡ Some a → slice_get image.tables j ≡ Some b
      → pair_key a.root a.address < pair_key b.root b.address
  pub pages_rise : (i j : ℕ) (a b : FrameEntry) → i < j → slice_get image.frames i ≡ Some a → slice_get image.frames j ≡ Some b
      → pair_key a.root a.address < pair_key b.root b.address
  pub promises_rise : (i j : ℕ) (a b : ImagePromise) → i < j → slice_get image.promises i ≡ Some a → slice_get image.promises j ≡ Some b
      → a.header.endpoint < b.header.endpoint

-- ---- the certificate of a thread

pub record RecordFits (words : ℕ) (r : StateRecord) : Type 0 where
  pub point : r.header.point < words
  pub constant : negsuc (2 ^ 62) ≤ℤ r.header.constant
  pub terms : length r.terms ≤ 4

pub record CertificateFits (t : Thread) : Type 0 where
  pub some_words : 1 ≤ t.header.words
  pub few_words : t.header.words ≤ 65536
  pub budget : t.header.budget ≤ 2 ^ 62
  pub words : length t.words ≡ t.header.words
  pub records : length t.records ≡ t.header.records
  pub each : (k : ℕ) (r : StateRecord) → slice_get t.records k ≡ Some r → RecordFits t.header.words r
  -- points rise
  pub points_rise : (i j : ℕ) (a b : StateRecord) → i < j → slice_get t.records i ≡ Some a → slice_get t.records j ≡ Some b
      → a.header.point < b.header.point
