-- What tables and bytes hold, as contents.
use Rattle.std.proofs.Common.{ℕ, ◌≡◌, ◌∙◌, ◌+◌, ◌-◌, ◌*◌, ◌/◌, ◌%◌, ◌^◌, ◌<◌, ◌≤◌, inl, inr, true, false, if◌then◌else◌, Option, Some, None, is_some}
use Rattle.std.proofs.Common.{option_map, List, [], length, refl, sym, ap, subst, arith}
use Rattle.std.specs.Prelude.{slice_index_or}
use Rattle.std.proofs.lemmas.Bool.{cases_lt}
use Rattle.std.proofs.lemmas.Bool.Decides.{eqb_tells}
use Rattle.std.proofs.lemmas.List.{get_or_past}
use Rattle.std.proofs.lemmas.Nat.{pow-add}
use Rattle.std.proofs.Math.Pow.{pow_mono}
use Rattle.model.specs.Capabilities.Slots.{IsOpen, Slots}
use Rattle.model.specs.Kernel.Kinds.{kind_at, kind_of}
use Rattle.model.specs.Kernel.Retype.{NewObject, NewThread}
use Rattle.model.specs.Kernel.State.{State}
use Rattle.queues.specs.Layout.{AreLaidOut, Places}
use Rattle.queues.specs.Queues.{QueuesStand}
use Rattle.queues.specs.Ready.{ReadyStands}
use Rattle.objects.proofs.Linked.{AreContents, Linked}
use Rattle.objects.proofs.Stepping.{Left}
use Rattle.objects.proofs.Told as told
use Rattle.objects.proofs.Told.{in-thread, is-thread, not-open, own-slots}
use Rattle.objects.specs.Contents as contents
use Rattle.objects.specs.Contents.{Contents, contents_state, is_thread_kind, object_from, object_of, places_by}
use Rattle.objects.specs.Frames.{FitsMemory, IsInRecord}
use Rattle.objects.specs.Laid.{AreThreadsLaid, AreThreadsPlaced, IsThreadPlace}
use Rattle.objects.specs.Rights.{AreKnown}
use Rattle.objects.specs.Standing.{Standing}
use Rattle.objects.specs.Tables.{AreTables, Tables, contents_of, entry_in, kind_in, kind_of_entry, places_of, record_from, state_of, thread_from, thread_in}
use Rattle.objects.specs.declared.records.Entry.{Entry}
use Rattle.objects.specs.declared.records.Entry.TheVariants as entries
use Rattle.objects.specs.declared.thread_records.records.Thread.{Thread}

-- ---- kinds

entry-kind : (threads : ℕ → Option Thread) (e : Entry) (t : Thread) (word : ℕ)
    → option_map kind_of (object_from (thread_from e t) (option_map (object_of threads []) (record_from e word))) ≡ kind_of_entry e
entry-kind threads entries.Nothing t word = refl
entry-kind threads entries.Thread t word = refl
entry-kind threads entries.Endpoint t word = refl
entry-kind threads entries.Notification t word = refl
entry-kind threads (entries.CNode radix) t word = refl
entry-kind threads entries.Frame t word = refl
entry-kind threads entries.PageTable t word = refl
entry-kind threads entries.RootTable t word = refl

pub kind-as : (o : Tables) (memory : List ℕ) (offset : ℕ) → contents.kind_in (contents_of o memory) offset ≡ kind_in o offset
kind-as o memory offset = entry-kind (contents_of o memory).threads (entry_in o.entries offset) _ _

pub places-as : (o : Tables) (memory : List ℕ) → contents.places_of (contents_of o memory) ≡ places_of o
places-as o memory = λ i. places_by (λ offset. kind-as o memory offset i)

pub kind-state : (o : Tables) (offset : ℕ) (slots : Slots) (memory : List ℕ) → kind_at (state_of o slots memory) offset ≡ kind_in o offset
unfolding state_of
kind-state o offset slots memory = told.kind-state (contents_of o memory) offset slots memory ∙ kind-as o memory offset

-- an entry of a thread
pub thread-entry : (e : Entry) → is_thread_kind (kind_of_entry e) ≡ true → e ≡ entries.Thread
thread-entry entries.Thread is = refl
thread-entry entries.Nothing is = absurd (let clash : false ≡ true = is in cc)
thread-entry entries.Endpoint is = absurd (let clash : false ≡ true = is in cc)
thread-entry entries.Notification is = absurd (let clash : false ≡ true = is in cc)
thread-entry (entries.CNode radix) is = absurd (let clash : false ≡ true = is in cc)
thread-entry entries.Frame is = absurd (let clash : false ≡ true = is in cc)
thread-entry entries.PageTable is = absurd (let clash : false ≡ true = is in cc)
thread-entry entries.RootTable is = absurd (let clash : false ≡ true = is in cc)

pub entry-there : (o : Tables) (offset : ℕ) → kind_in o offset ≡ Some NewThread → entry_in o.entries offset ≡ entries.Thread
entry-there o offset is = thread-entry (entry_in o.entries offset) (ap is_thread_kind is)

pub kind-there : (o : Tables) (offset : ℕ) → entry_in o.entries offset ≡ entries.Thread → kind_in o offset ≡ Some NewThread
kind-there o offset is = ap kind_of_entry is

-- ---- the invariant of objects

pub linked : (o : Tables) (slots : Slots) (memory : List ℕ) → Standing o slots memory → Linked (contents_of o memory) slots memory
unfolding state_of
linked o slots memory stands = record {
  fits = stands.fits;
  waiting = subst (λ (p : Places). QueuesStand p memory) (sym (places-as o memory)) stands.waiting;
  ready = subst (λ (p : Places). ReadyStands p o.ready memory) (sym (places-as o memory)) stands.ready;
}

pub standing : (o : Tables) (slots : Slots) (memory : List ℕ) → AreThreadsPlaced o.entries (length memory) → Linked (contents_of o memory) slots memory
    → AreKnown (thread_in o memory) memory → Standing o slots memory
unfolding state_of
standing o slots memory placed links known = record {
  placed = placed;
  fits = links.fits;
  waiting = subst (λ (p : Places). QueuesStand p memory) (places-as o memory) links.waiting;
  ready = subst (λ (p : Places). ReadyStands p o.ready memory) (places-as o memory) links.ready;
  rights = known;
}

-- what a call leaves: a state, and the invariant of objects
pub record Done (n : Tables) (slots : Slots) (memory : List ℕ) (t : State) : Type 0 where
  pub state : state_of n slots memory ≡ t
  pub stands : Standing n slots memory

pub done : (n : Tables) (slots : Slots) (memory : List ℕ) (t : State) → AreThreadsPlaced n.entries (length memory) → Left (contents_of n memory) slots memory t
    → AreKnown (thread_in n memory) memory → Done n slots memory t
unfolding state_of
done n slots memory t placed left known = record { state = left.state; stands = standing n slots memory placed left.stands known }

-- ---- where things lie

pub some-inside : (table : List Entry) (offset : ℕ) → is_some (kind_of_entry (entry_in table offset)) ≡ true → (offset % 16 ≡ 0) × (offset / 16 < length table)
some-inside table offset some = elim (eqb_tells (offset % 16) 0) [
  | inr apart ↦
      absurd (let clash : false ≡ true =
      sym (ap (λ b. is_some (kind_of_entry (if b then slice_index_or table (offset / 16) entries.Nothing else entries.Nothing))) apart.0)
      ∙ some in cc)
  | inl here ↦ elim (cases_lt (offset / 16) (length table)) [
    | inl less ↦ (here.1, less)
    | inr past ↦
        let none : entry_in table offset ≡ entries.Nothing =
        ap (λ b. if b then slice_index_or table (offset / 16) entries.Nothing else entries.Nothing) here.0
        ∙ get_or_past table (offset / 16) entries.Nothing past in
        absurd (let clash : false ≡ true = sym (ap (λ (e : Entry). is_some (kind_of_entry e)) none) ∙ some in cc)
  ]
]

-- objects lie at multiples of 16 bytes
pub object-aligned : (o : Tables) (slots : Slots) (memory : List ℕ) (offset : ℕ) (kind : NewObject) → kind_at (state_of o slots memory) offset ≡ Some kind →
    offset % 16 ≡ 0
object-aligned o slots memory offset kind is = (some-inside o.entries offset (ap is_some (sym (kind-state o offset slots memory) ∙ is))).0

some-thread : (e : Entry) (t : Thread) → is_some (thread_from e t) ≡ true → e ≡ entries.Thread
some-thread entries.Thread t is = refl
some-thread entries.Nothing t is = absurd (let clash : false ≡ true = is in cc)
some-thread entries.Endpoint t is = absurd (let clash : false ≡ true = is in cc)
some-thread entries.Notification t is = absurd (let clash : false ≡ true = is in cc)
some-thread (entries.CNode radix) t is = absurd (let clash : false ≡ true = is in cc)
some-thread entries.Frame t is = absurd (let clash : false ≡ true = is in cc)
some-thread entries.PageTable t is = absurd (let clash : false ≡ true = is in cc)
some-thread entries.RootTable t is = absurd (let clash : false ≡ true = is in cc)

pub thread-some : (o : Tables) (memory : List ℕ) (offset : ℕ) → is_some (thread_in o memory offset) ≡ true → entry_in o.entries offset ≡ entries.Thread
thread-some o memory offset is = some-thread (entry_in o.entries offset) _ is

some-record : (e : Entry) (word : ℕ) → is_some (record_from e word) ≡ true → is_some (kind_of_entry e) ≡ true
some-record entries.Nothing word is = is
some-record entries.Thread word is = refl
some-record entries.Endpoint word is = refl
some-record entries.Notification word is = refl
some-record (entries.CNode radix) word is = refl
some-record entries.Frame word is = refl
some-record entries.PageTable word is = refl
some-record entries.RootTable word is = refl

module _ (o : Tables) (are : AreTables o) where
  pub thread-inside : (offset : ℕ) → entry_in o.entries offset ≡ entries.Thread → offset + 512 ≤ 2 ^ o.bits
  thread-inside offset is =
      let inside = some-inside o.entries offset (ap (λ (e : Entry). is_some (kind_of_entry e)) is) in
      let least = are.least_bits in
      let parts : 2 ^ o.bits ≡ 2 ^ (o.bits - 9) * 512 = ap (λ (n : ℕ). 2 ^ n) (omega (arith, least)) ∙ pow-add 2 (o.bits - 9) 9 in
      omega (arith, inside.0, inside.1, are.places, are.threads offset is, parts)

  -- how many places of threads there are
  pub thread-count : (length o.entries ≤ 2 ^ 20) × (512 * (length o.entries / 32) ≡ 2 ^ o.bits) × (length o.entries / 32 ≤ 2 ^ 15)
  thread-count =
      let most = pow_mono {i = o.bits} {j = 24} are.most_bits in
      let least = are.least_bits in
      let parts : 2 ^ o.bits ≡ 2 ^ (o.bits - 9) * 512 = ap (λ (n : ℕ). 2 ^ n) (omega (arith, least)) ∙ pow-add 2 (o.bits - 9) 9 in
      (omega (arith, are.places, most), omega (arith, are.places, parts), omega (arith, are.places, most))

  pub are-contents : (memory : List ℕ) → AreContents (contents_of o memory)
  are-contents memory = record {
    most_bits = are.most_bits;
    threads = λ offset some.
        let is = thread-some o memory offset some in
        (are.threads offset is, thread-inside offset is);
    records = λ offset some.
        let inside = some-inside o.entries offset (some-record (entry_in o.entries offset) _ some) in
        (inside.0, omega (arith, inside.0, inside.1, are.places));
  }

  pub placed-by : (size : ℕ) → size ≡ 2 ^ o.bits → AreThreadsPlaced o.entries size
  placed-by size is =
      let few = pow_mono {i = o.bits} {j = 24} are.most_bits in
      let least = are.least_bits in
      let parts : 2 ^ o.bits ≡ 2 ^ (o.bits - 9) * 512 = ap (λ (n : ℕ). 2 ^ n) (omega (arith, least)) ∙ pow-add 2 (o.bits - 9) 9 in
      record {
        places = omega (arith, are.places, is, few);
        whole = omega (arith, are.places, parts);
        few = omega (arith, is, few);
        aligned = are.threads;
        within = λ thread there. omega (arith, thread-inside thread there, is);
        points = λ point there.
            let inside = some-inside o.entries point (ap (λ (e : Entry). is_some (kind_of_entry e)) there) in
            omega (arith, inside.0, inside.1, are.places, is);
      }

  module _ (slots : Slots) (memory : List ℕ) (fits : FitsMemory (state_of o slots memory) memory) where
    pub laid-here : AreLaidOut (places_of o) slots (length memory)
    unfolding state_of
    laid-here = subst (λ (p : Places). AreLaidOut p slots (length memory)) (places-as o memory)
        (told.laid-out (contents_of o memory) slots memory (are-contents memory) fits)

    pub long : length memory ≡ 2 ^ o.bits
    unfolding state_of
    long = sym fits.size ∙ ap (λ (n : ℕ). 2 ^ n) (told.own-bits (contents_of o memory) slots memory)

    pub few : length memory ≤ 2 ^ 24
    few = omega (arith, long, pow_mono {i = o.bits} {j = 24} are.most_bits)

    pub placed-here : AreThreadsPlaced o.entries (length memory)
    placed-here = placed-by (length memory) long

-- no slot is open in a record
pub closed : (o : Tables) (slots : Slots) (memory : List ℕ) → FitsMemory (state_of o slots memory) memory → (place : ℕ) →
    IsInRecord (state_of o slots memory).objects place
    → slots (place / 16) ≡ None
unfolding state_of
closed o slots memory fits place held = not-open slots (place / 16)
    (λ is_open. fits.records place (subst (λ (f : Slots). IsOpen f (place / 16)) (sym (own-slots (contents_of o memory) slots memory)) is_open) held)

module _ (o : Tables) (slots : Slots) (memory : List ℕ) (stands : Standing o slots memory) where
  pub thread-place : (thread : ℕ) → entry_in o.entries thread ≡ entries.Thread → IsThreadPlace slots (length memory) thread
  thread-place thread is = record {
    few = stands.placed.few;
    within = stands.placed.within thread is;
    outside = λ place from below. closed o slots memory stands.fits place
        (in-thread (state_of o slots memory) thread place (kind-state o thread slots memory ∙ kind-there o thread is) (omega (arith, from))
        (omega (arith, below)));
  }

  pub threads-laid : AreThreadsLaid o.entries slots (length memory)
  threads-laid = record { few = stands.placed.places; whole = stands.placed.whole; aligned = stands.placed.aligned; places = thread-place }
