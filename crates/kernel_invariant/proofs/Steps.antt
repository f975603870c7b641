-- What a removal does to objects and mappings leaves them in agreement.
use Rattle.std.proofs.Common.{ℕ, ◌≡◌, ◌∙◌, ◌==◌, ◌+◌, ◌-◌, ◌/◌, ◌%◌, inl, inr, Bool, true, false, if◌then◌else◌, Option, Some, None, option_map, List, [], ◌∷◌}
use Rattle.std.proofs.Common.{IsSome, filter, fold, refl, sym, ap, subst, arith}
use Rattle.std.specs.Prelude.{All}
use Rattle.std.specs.Option.{option_map_or}
use Rattle.std.proofs.lemmas.Bool.{cases_lt}
use Rattle.std.proofs.lemmas.Bool.Decides.{eqb_tells}
use Rattle.std.proofs.lemmas.List.Elements.{All-head, All-tail, All-weaker, filter_passes}
use Rattle.model.specs.Capabilities.Slots.{Slots}
use Rattle.model.specs.Kernel.AddressSpaces.{page_size}
use Rattle.model.specs.Kernel.Kinds.{kind_at, kind_of}
use Rattle.model.specs.Kernel.Removal.{thread_places}
use Rattle.model.specs.Kernel.Retype.{NewObject, NewThread}
use Rattle.model.specs.Kernel.Scheduling.{full_slice, wake, without_threads}
use Rattle.model.specs.Kernel.State.{Object, Runnable, State, ThreadObject, EndpointObject, NotificationObject, CNodeObject, FrameObject, PageTableObject}
use Rattle.model.specs.Kernel.State.{RootTableObject, as_thread, put, thread_at, with_slots}
use Rattle.model.specs.declared.capabilities.Cap.TheVariants.{RootTable}
use Rattle.model.specs.declared.slot_entries.Entry.{Entry}
use Rattle.kernel_invariant.proofs.Agreeing.{agrees-less}
use Rattle.kernel_invariant.proofs.Lessened.{Lessened, less-same}
use Rattle.kernel_invariant.specs.Agreement.{Agrees}
use Rattle.kernel_invariant.specs.Wholeness.{Agreed}
use Rattle.objects.proofs.Laws.{follows-kept, not-open, stands-kept, still-open}
use Rattle.objects.specs.Frames.{IsInRecord, SameBesideObjects, SameElsewhere, SameKept}
use Rattle.objects.specs.Standing.{Standing}
use Rattle.objects.specs.Tables.{Tables, state_of}
use Rattle.removal_laws.proofs.Laws.{kind-threads}
use Rattle.removal_laws.specs.Finishing.{is_stranded, waits_nowhere, woken}
use Rattle.removal_laws.specs.Steps.{ended, ends_thread, object_ended, without_root}
use Rattle.vspace.proofs.Laws.{agree-beside}
use Rattle.vspace.specs.Kept.{IsBeside, IsNamedTable, SameBesideTables}
use Rattle.vspace.specs.Tables.{TablesAgree}

-- ---- mappings

-- where a byte of a frame lies, neither a slot is open nor does a table lie there
module _ (s : State) (memory : List ℕ) (agrees : Agrees s memory) (place byte : ℕ) (is : s.bytes place ≡ Some byte) where
  pub no-slot : s.slots (place / 16) ≡ None
  no-slot = elim (s.slots (place / 16)) as (λ e. s.slots (place / 16) ≡ e → s.slots (place / 16) ≡ None) [
    | None ↦ λ none. none
    | Some e ↦ λ some.
        let none = agrees.slots place (subst (λ (x : Option Entry). IsSome x) (sym some) refl) in absurd (let clash : None ≡ Some byte = sym none ∙ is in cc)
  ] refl

  pub no-table : (table : ℕ) → IsNamedTable s.slots table → IsBeside place table
  no-table table named = elim (cases_lt place table) [
    | inl before ↦ inl before
    | inr from ↦
        elim (cases_lt place (table + page_size)) [
          | inl within ↦
              let none = agrees.frames table place named from within in absurd (let clash : None ≡ Some byte = sym none ∙ is in cc)
          | inr behind ↦ inr behind
        ]
  ]

-- nor does a table lie where the record of an object does
record-table : (s : State) (memory : List ℕ) → Agrees s memory → (place : ℕ) → IsInRecord s.objects place → (table : ℕ) → IsNamedTable s.slots table →
    IsBeside place table
record-table s memory agrees place held table named = elim (cases_lt place table) [
  | inl before ↦ inl before
  | inr from ↦
      elim (cases_lt place (table + page_size)) [
        | inl within ↦
            let low = held.from in
            let high = held.below in
            absurd (elim (agrees.records table place held.offset held.kind named from within held.there held.kept) [
              | inl before ↦ omega (arith, before, low)
              | inr behind ↦ omega (arith, behind, high)
            ])
        | inr behind ↦ inr behind
      ]
]

module _ (o : Tables) (slots now : Slots) (old new : List ℕ) (agreed : Agreed o slots old) (same : SameBesideTables slots old new) where
  abbrev before : State
  before = state_of o slots old

  same-kept : SameKept before old new
  unfolding state_of
  same-kept = record {
    size = same.size;
    frames = λ place byte is. same.bytes place (no-slot before old agreed.0 place byte is) (no-table before old agreed.0 place byte is);
    records = λ place held. same.bytes place (not-open slots (place / 16) (λ is_open. agreed.1.fits.records place is_open held))
        (record-table before old agreed.0 place held);
  }

  pub unmapped-state : state_of o now new ≡ with_slots before now
  unmapped-state = follows-kept o slots old new now agreed.1 same-kept

  -- no slot is opened
  pub unmapped-stands : ((slot : ℕ) → slots slot ≡ None → now slot ≡ None) → Standing o now new
  unfolding state_of
  unmapped-stands closes =
      stands-kept o slots old new now agreed.1 same-kept (λ place is_open. agreed.1.fits.frames place (still-open slots now closes (place / 16) is_open))
      (λ place is_open held. agreed.1.fits.records place (still-open slots now closes (place / 16) is_open) held)

  pub unmapped-agrees : TablesAgree now new → Lessened slots now → Agreed o now new
  unfolding state_of
  unmapped-agrees tables less = (
    subst (λ (t : State). Agrees t new) (sym unmapped-state)
        (agrees-less before (with_slots before now) old new agreed.0 tables refl same.size less (λ place none. none) (λ offset kind is. is)),
    unmapped-stands less.closed,
  )

-- ---- objects

pub tables-beside : (s : State) (old new : List ℕ) → Agrees s old → SameElsewhere s old new → TablesAgree s.slots new
tables-beside s old new agrees same = agree-beside s.slots old new agrees.tables (record {
  size = same.size;
  bytes = λ table place named low high.
      same.bytes place (agrees.frames table place named low high) (λ offset kind there kept. agrees.records table place offset kind named low high there kept);
})

elsewhere : (s : State) (old new : List ℕ) → SameBesideObjects s old new → SameElsewhere s old new
elsewhere s old new same = record { size = same.size; bytes = λ place none outside. same.bytes place outside }

kind-left : (b : Bool) (gone : ℕ → Bool) (o : Option Object) (k : NewObject)
    → option_map kind_of (if b then None else option_map (without_threads gone) o) ≡ Some k → option_map kind_of o ≡ Some k
kind-left true gone o k is = absurd (let clash : None ≡ Some k = is in cc)
kind-left false gone o k is = sym (kind-threads gone o) ∙ is

none-left : (b : Bool) (o : Option ℕ) → o ≡ None → (if b then None else o) ≡ None
none-left true o none = refl
none-left false o none = none

pub ended-agrees : (s : State) (offset : ℕ) (old new : List ℕ) → Agrees s old → SameBesideObjects s old new → Agrees (object_ended s offset) new
ended-agrees s offset old new agrees same =
    agrees-less s (object_ended s offset) old new agrees (tables-beside s old new agrees (elsewhere s old new same)) refl same.size (less-same s.slots)
    (λ place none. none-left (offset == place - place % page_size) (s.bytes place) none)
    (λ other kind is. kind-left (offset == other) (ends_thread s offset) (s.objects other) kind is)

-- ---- threads that wake

stranded-kind : (o : Option Object) (s : State) → option_map_or (λ t. waits_nowhere s t.status) (as_thread o) false ≡ true →
    option_map kind_of o ≡ Some NewThread
stranded-kind (Some (ThreadObject t)) s is = refl
stranded-kind None s is = absurd (let clash : false ≡ true = is in cc)
stranded-kind (Some (EndpointObject e)) s is = absurd (let clash : false ≡ true = is in cc)
stranded-kind (Some (NotificationObject n)) s is = absurd (let clash : false ≡ true = is in cc)
stranded-kind (Some (CNodeObject radix)) s is = absurd (let clash : false ≡ true = is in cc)
stranded-kind (Some FrameObject) s is = absurd (let clash : false ≡ true = is in cc)
stranded-kind (Some PageTableObject) s is = absurd (let clash : false ≡ true = is in cc)
stranded-kind (Some RootTableObject) s is = absurd (let clash : false ≡ true = is in cc)

kind-put : (objects : ℕ → Option Object) (place : ℕ) (value : Object) (other : ℕ) → option_map kind_of (objects place) ≡ Some (kind_of value)
    → option_map kind_of (put objects place (Some value) other) ≡ option_map kind_of (objects other)
kind-put objects place value other there = elim (eqb_tells other place) [
  | inl here ↦ ap (λ b. option_map kind_of (if b then Some value else objects other)) here.0
      ∙ sym (ap (λ (n : ℕ). option_map kind_of (objects n)) here.1 ∙ there)
  | inr apart ↦ ap (λ b. option_map kind_of (if b then Some value else objects other)) apart.0
]

-- only what threads are of changes
pub record OnlyThreads (s t : State) : Type 0 where
  pub slots : t.slots ≡ s.slots
  pub bytes : t.bytes ≡ s.bytes
  pub bits : t.memory_bits ≡ s.memory_bits
  pub kinds : (offset : ℕ) → kind_at t offset ≡ kind_at s offset

woken-all : (s : State) (places : List ℕ) → All (λ place. kind_at s place ≡ Some NewThread) places → OnlyThreads s (fold wake s places)
woken-all s [] threads = record { slots = refl; bytes = refl; bits = refl; kinds = λ offset. refl }
woken-all s (place ∷ rest) threads =
    let first = All-head (λ (x : ℕ). kind_at s x ≡ Some NewThread) place rest threads in
    let kinds : (x : ℕ) → kind_at (wake s place) x ≡ kind_at s x = λ x.
    kind-put s.objects place (ThreadObject (record (thread_at s place) { status = Runnable; slice = full_slice })) x first in
    let more = woken-all (wake s place) rest
    (All-weaker (λ (x : ℕ). kind_at s x ≡ Some NewThread) (λ (x : ℕ). kind_at (wake s place) x ≡ Some NewThread) (λ x is. kinds x ∙ is) rest
    (All-tail (λ (x : ℕ). kind_at s x ≡ Some NewThread) place rest threads)) in
    record { slots = more.slots; bytes = more.bytes; bits = more.bits; kinds = λ x. more.kinds x ∙ kinds x }

pub woken-agrees : (s : State) (old new : List ℕ) → Agrees s old → SameBesideObjects s old new → Agrees (woken s) new
woken-agrees s old new agrees same =
    let threads = woken-all s (filter (is_stranded s) (thread_places s))
    (All-weaker (λ (x : ℕ). is_stranded s x ≡ true) (λ (x : ℕ). kind_at s x ≡ Some NewThread) (λ x is. stranded-kind (s.objects x) s is)
    (filter (is_stranded s) (thread_places s)) (filter_passes (is_stranded s) (thread_places s))) in
    agrees-less s (woken s) old new agrees (subst (λ (x : Slots). TablesAgree x new) (sym threads.slots)
    (tables-beside s old new agrees (elsewhere s old new same))) threads.bits same.size
    (subst (λ (x : Slots). Lessened s.slots x) (sym threads.slots) (less-same s.slots))
    (λ place none. ap (λ (f : ℕ → Option ℕ). f place) threads.bytes ∙ none) (λ offset kind is. sym (threads.kinds offset) ∙ is)

-- a root table ends with what is mapped under it
pub root-ended : (o : Tables) (slots now : Slots) (memory : List ℕ) (root : ℕ) → now ≡ without_root root slots
    → object_ended (with_slots (state_of o slots memory) now) root ≡ ended (state_of o slots memory) (RootTable root)
unfolding state_of
root-ended o slots now memory root is = ap (λ (n : Slots). with_slots (object_ended (state_of o slots memory) root) n) is
