-- The sections before the threads, as far as they are declared, and what one more line makes of them. A step is said
-- for lines as listings have them: each name is known, and each key is greater than the others.
use Rattle.std.specs.Prelude.{◌≡◌, ◌==◌, ℕ, ◌+◌, ◌-◌, ◌^◌, ◌<◌, ◌≤◌, Bool, true, false, List, [], ◌∷◌, ◌++◌, length, map, slice_get, Result, Ok, Err, nat_le}
use Rattle.std.specs.List.{position_or_len}
use Rattle.std.specs.Option.{option_map_or}
use Rattle.model.specs.declared.entries.UntypedEntry.{UntypedEntry}
use Rattle.model.specs.declared.entries.ObjectEntry.{ObjectEntry}
use Rattle.model.specs.declared.entries.InterruptEntry.{InterruptEntry}
use Rattle.model.specs.declared.entries.CapabilityEntry.{CapabilityEntry}
use Rattle.model.specs.declared.entries.PromisedWord.{PromisedWord}
use Rattle.model.specs.declared.entries.TableEntry.{TableEntry}
use Rattle.model.specs.declared.entries.FrameEntry.{FrameEntry}
use Rattle.model.specs.Images.Image.{ImageContent, ImagePromise, pair_key}
use Rattle.model.specs.Images.Listing.{Text}
use Rattle.asm_line.specs.Words.{◌>>=◌, number_of as number_in}
use Rattle.asm_line.specs.Lines.{promised_of, word, all_words}
use Rattle.asm.specs.declared.declarations.Capability.{Capability}
use Rattle.asm.specs.declared.names.Source.{Source}
use Rattle.asm.specs.declared.names.Source.TheVariants.{Object, Handler}
use Rattle.asm.specs.Keys.{is_behind}
use Rattle.asm.specs.Names.{KnownNames, no_names, number_of, IsNamed, is_taken, source_of, HasSource, with_untyped_name, with_object_name, with_interrupt_name}
use Rattle.asm_line.specs.declared.faults.LineFault.{LineFault}

pub record Declared : Type 0 where
  pub names : KnownNames
  pub untypeds : List UntypedEntry
  pub objects : List ObjectEntry
  pub capabilities : List Capability
  pub interrupts : List InterruptEntry
  pub tables : List TableEntry
  pub frames : List FrameEntry
  pub contents : List ImageContent
  pub promises : List ImagePromise

abbrev pub nothing_declared : Declared
nothing_declared =
    record { names = no_names; untypeds = []; objects = []; capabilities = []; interrupts = []; tables = []; frames = []; contents = []; promises = [] }

-- ---- untypeds, objects, interrupts

pub record MayAddUntyped (d : Declared) (name : Text) : Type 0 where
  pub free : is_taken d.names name ≡ false
  pub room : length d.untypeds < 64

abbrev pub with_untyped : Declared → Text → UntypedEntry → Declared
with_untyped d name entry = record d { names = with_untyped_name d.names name; untypeds = d.untypeds ++ entry ∷ [] }

abbrev pub object_entry : Declared → Text → ℕ → ℕ → ObjectEntry
object_entry d untyped kind size = record { untyped = number_of d.names.untypeds untyped; kind = kind; size = size }

-- the last object's untyped, if there is one, is not after this one
abbrev pub is_in_order : ℕ → List ObjectEntry → Bool
is_in_order untyped objects = option_map_or (λ last. nat_le last.untyped untyped) (slice_get objects (length objects - 1)) true

pub record MayAddObject (d : Declared) (name untyped : Text) : Type 0 where
  pub free : is_taken d.names name ≡ false
  pub named : IsNamed d.names.untypeds untyped
  pub in_order : is_in_order (number_of d.names.untypeds untyped) d.objects ≡ true
  pub room : length d.objects < 4096

abbrev pub with_object : Declared → Text → ObjectEntry → Declared
with_object d name entry = record d { names = with_object_name d.names name; objects = d.objects ++ entry ∷ [] }

abbrev pub interrupt_entry : Declared → ℕ → Text → ℕ → InterruptEntry
interrupt_entry d number notification badge = record { line = number; notification = number_of d.names.objects notification; badge = badge }

pub record MayAddInterrupt (d : Declared) (name : Text) (number : ℕ) (notification : Text) : Type 0 where
  pub free : is_taken d.names name ≡ false
  pub named : IsNamed d.names.objects notification
  pub behind : is_behind (λ (e : InterruptEntry). e.line) number d.interrupts ≡ true
  pub room : length d.interrupts < 64

abbrev pub with_interrupt : Declared → Text → InterruptEntry → Declared
with_interrupt d name entry = record d { names = with_interrupt_name d.names name entry.line; interrupts = d.interrupts ++ entry ∷ [] }

-- ---- capabilities

abbrev pub capability_said : Declared → Text → ℕ → Text → ℕ → ℕ → Capability
capability_said d cnode index source rights payload =
    record { cnode = number_of d.names.objects cnode; index = index; source = source_of d.names source; rights = rights; payload = payload }

pub record MayAddCapability (d : Declared) (cnode : Text) (index : ℕ) (source : Text) : Type 0 where
  pub named : IsNamed d.names.objects cnode
  pub sourced : HasSource d.names source
  pub behind : is_behind (λ (e : Capability). pair_key e.cnode e.index) (pair_key (number_of d.names.objects cnode) index) d.capabilities ≡ true
  pub room : length d.capabilities < 16384

abbrev pub with_capability : Declared → Capability → Declared
with_capability d entry = record d { capabilities = d.capabilities ++ entry ∷ [] }

-- ---- tables and frames

abbrev pub table_entry : Declared → Text → ℕ → Text → TableEntry
table_entry d root address table = record { root = number_of d.names.objects root; address = address; table = number_of d.names.objects table }

pub record MayAddTable (d : Declared) (root : Text) (address : ℕ) (table : Text) : Type 0 where
  pub root_named : IsNamed d.names.objects root
  pub table_named : IsNamed d.names.objects table
  pub behind : is_behind (λ (e : TableEntry). pair_key e.root e.address) (pair_key (number_of d.names.objects root) address) d.tables ≡ true
  pub room : length d.tables < 1024

abbrev pub with_table : Declared → TableEntry → Declared
with_table d entry = record d { tables = d.tables ++ entry ∷ [] }

abbrev pub frame_entry : Declared → Text → ℕ → Text → ℕ → FrameEntry
frame_entry d root address frame rights =
    record { root = number_of d.names.objects root; address = address; frame = number_of d.names.objects frame; rights = rights }

pub record MayAddFrame (d : Declared) (root : Text) (address : ℕ) (frame : Text) : Type 0 where
  pub root_named : IsNamed d.names.objects root
  pub frame_named : IsNamed d.names.objects frame
  pub behind : is_behind (λ (e : FrameEntry). pair_key e.root e.address) (pair_key (number_of d.names.objects root) address) d.frames ≡ true
  pub room : length d.frames < 4096

abbrev pub with_frame : Declared → FrameEntry → Declared
with_frame d entry = record d { frames = d.frames ++ entry ∷ [] }

-- ---- contents

abbrev pub number_or_zero : Result ℕ LineFault → ℕ
number_or_zero (Ok number) = number
number_or_zero (Err e) = 0

-- the number that a word says
abbrev pub value_of : Text → ℕ
value_of text = number_or_zero (number_in text >>= λ number. word number)

abbrev pub content_said : Declared → Text → List Text → ImageContent
content_said d frame words =
    record { header = record { frame = number_of d.names.objects frame; words = length (map value_of words) }; words = map value_of words }

pub record MayAddContent (d : Declared) (frame : Text) (words : List Text) : Type 0 where
  pub named : IsNamed d.names.objects frame
  pub numbers : all_words words ≡ Ok tt
  pub short : length words ≤ 1024
  pub behind : is_behind (λ (c : ImageContent). c.header.frame) (number_of d.names.objects frame) d.contents ≡ true
  pub room : length d.contents < 4096

abbrev pub with_content : Declared → ImageContent → Declared
with_content d content = record d { contents = d.contents ++ content ∷ [] }

-- ---- promises

-- the ranges that words say, two and two; on a line each of them says one
abbrev pub promised_values : List Text → List PromisedWord
promised_values [] = []
promised_values (low ∷ []) = []
promised_values (low ∷ high ∷ others) = elim (promised_of low high) [ Ok word ↦ word ∷ promised_values others | Err e ↦ [] ]

abbrev pub promise_with : ℕ → ℕ → ℕ → List PromisedWord → ImagePromise
promise_with endpoint low high words = record {
  header = record { endpoint = endpoint; badge_low = low; badge_high = high; words = length words };
  words = words;
}

pub record MayAddPromise (d : Declared) (endpoint : Text) (words : List Text) : Type 0 where
  pub named : IsNamed d.names.objects endpoint
  pub few : length (promised_values words) ≤ 8
  pub behind : is_behind (λ (p : ImagePromise). p.header.endpoint) (number_of d.names.objects endpoint) d.promises ≡ true
  pub room : length d.promises < 4096

abbrev pub promise_said : Declared → Text → ℕ → ℕ → List Text → ImagePromise
promise_said d endpoint low high words = promise_with (number_of d.names.objects endpoint) low high (promised_values words)

abbrev pub with_promise : Declared → ImagePromise → Declared
with_promise d promise = record d { promises = d.promises ++ promise ∷ [] }

-- ---- after the last line: the numbers of sources

abbrev pub on_line : ℕ → InterruptEntry → Bool
on_line number i = i.line == number

-- that of an object, or after the objects that of an interrupt
abbrev pub number_of_source : Declared → Source → ℕ
number_of_source d (Object number) = number
number_of_source d (Handler number) = length d.objects + position_or_len (on_line number) d.interrupts

abbrev pub HasNumber : Declared → Source → Type 0
HasNumber d (Object number) = Unit {0}
HasNumber d (Handler number) =
    (position_or_len (on_line number) d.interrupts < length d.interrupts) × (length d.objects + length d.interrupts ≤ 2 ^ 32)

abbrev pub entry_of : Declared → Capability → CapabilityEntry
entry_of d c =
    record { cnode = c.cnode; index = c.index; source = number_of_source d c.source; rights = c.rights; payload = c.payload }
