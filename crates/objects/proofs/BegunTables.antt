-- The tables with a new object, and the room that it has.
use Rattle.std.proofs.Common.{ℕ, ◌≡◌, ◌∙◌, ◌+◌, ◌-◌, ◌*◌, ◌/◌, ◌%◌, ◌^◌, ◌<◌, ◌≤◌, inl, inr, true, false, if◌then◌else◌, Some, None, List, length, refl, sym}
use Rattle.std.proofs.Common.{ap, subst, arith}
use Rattle.std.proofs.lemmas.Bool.Decides.{eqb_tells}
use Rattle.std.proofs.lemmas.Nat.{pow-add}
use Rattle.model.specs.Capabilities.Slots.{OutsideSlots, Slots}
use Rattle.model.specs.Kernel.Kinds.{kind_of}
use Rattle.model.specs.Kernel.State.{put}
use Rattle.objects.proofs.Holding.{few, long}
use Rattle.objects.proofs.Kept.{put-there}
use Rattle.objects.proofs.Told as tellings
use Rattle.objects.specs.Changes.{MayStand}
use Rattle.objects.specs.Frames.{FitsMemory, IsRoom}
use Rattle.objects.specs.Laid.{IsRoomAt}
use Rattle.objects.specs.Tables.{AreTables, Tables, contents_of, entry_in, entry_of, state_of}
use Rattle.model.specs.Kernel.ObjectTypes.{new_object}
use Rattle.objects.specs.Waiting.{has_waiting}
use Rattle.objects.specs.declared.records.Entry.{Entry}
use Rattle.objects.specs.declared.records.Entry.TheVariants as entries
use Rattle.model.specs.declared.object_types.ObjectKind.{ObjectKind}
use Rattle.model.specs.declared.object_types.ObjectKind.TheVariants as kinds

multiple-thread : (kind : ObjectKind) (bits offset : ℕ) → entry_of kind ≡ entries.Thread → MayStand bits kind offset → offset % 512 ≡ 0
multiple-thread kinds.Thread bits offset is may = may.0
multiple-thread kinds.Endpoint bits offset is may = absurd cc
multiple-thread kinds.Notification bits offset is may = absurd cc
multiple-thread (kinds.CNode radix) bits offset is may = absurd cc
multiple-thread kinds.Frame bits offset is may = absurd cc
multiple-thread kinds.PageTable bits offset is may = absurd cc
multiple-thread kinds.RootTable bits offset is may = absurd cc

entry-place : (kind : ObjectKind) (bits offset : ℕ) → MayStand bits kind offset → (offset % 16 ≡ 0) × (offset < 2 ^ bits)
entry-place kinds.Thread bits offset may = let whole = may.0 in (omega (arith, whole), may.1)
entry-place kinds.Endpoint bits offset may = may
entry-place kinds.Notification bits offset may = may
entry-place (kinds.CNode radix) bits offset may = (may.0, may.1)
entry-place kinds.Frame bits offset may = may
entry-place kinds.PageTable bits offset may = may
entry-place kinds.RootTable bits offset may = may

-- the tables have an entry for what may come there
pub has-entry : (o : Tables) (slots : Slots) (memory : List ℕ) (kind : ObjectKind) (offset : ℕ) → AreTables o →
    MayStand (state_of o slots memory).memory_bits kind offset
    → (offset % 16 ≡ 0) × (offset / 16 < length o.entries)
unfolding state_of
has-entry o slots memory kind offset are may =
    let place = entry-place kind _ offset may in
    let below = place.1 in
    let places = are.places in
    let bits = ap (λ (n : ℕ). 2 ^ n) (tellings.own-bits (contents_of o memory) slots memory) in
    (place.0, omega (arith, below, places, bits))

small-node : (kind : ObjectKind) (bits offset radix : ℕ) → entry_of kind ≡ entries.CNode radix → MayStand bits kind offset → radix ≤ 14
small-node (kinds.CNode own) bits offset radix is may = let same : own ≡ radix = cc in omega (arith, same, may.2)
small-node kinds.Thread bits offset radix is may = absurd cc
small-node kinds.Endpoint bits offset radix is may = absurd cc
small-node kinds.Notification bits offset radix is may = absurd cc
small-node kinds.Frame bits offset radix is may = absurd cc
small-node kinds.PageTable bits offset radix is may = absurd cc
small-node kinds.RootTable bits offset radix is may = absurd cc

pub tables-begun : (o : Tables) (entries_now : List Entry) (kind : ObjectKind) (bits offset : ℕ) → AreTables o → length entries_now ≡ length o.entries
    → ((other : ℕ) → entry_in entries_now other ≡ put (entry_in o.entries) offset (entry_of kind) other) → MayStand bits kind offset →
    AreTables (record o { entries = entries_now })
tables-begun o entries_now kind bits offset are long entered may = record {
  least_bits = are.least_bits;
  most_bits = are.most_bits;
  most_radix = are.most_radix;
  places = ap (λ (n : ℕ). 16 * n) long ∙ are.places;
  threads = λ other is. elim (eqb_tells other offset) [
    | inl here ↦
        ap (λ (n : ℕ). n % 512) here.1
        ∙ multiple-thread kind bits offset (sym (entered other ∙ ap (λ b. if b then entry_of kind else entry_in o.entries other) here.0) ∙ is) may
    | inr apart ↦ are.threads other (sym (entered other ∙ put-there (entry_in o.entries) offset (entry_of kind) other apart.1) ∙ is)
  ];
  nodes = λ other radix is. elim (eqb_tells other offset) [
    | inl here ↦ small-node kind bits offset radix (sym (entered other ∙ ap (λ b. if b then entry_of kind else entry_in o.entries other) here.0) ∙ is) may
    | inr apart ↦ are.nodes other radix (sym (entered other ∙ put-there (entry_in o.entries) offset (entry_of kind) other apart.1) ∙ is)
  ];
}

module _ (o : Tables) (slots : Slots) (memory : List ℕ) (kind : ObjectKind) (offset : ℕ) (are : AreTables o)
    (fits : FitsMemory (state_of o slots memory) memory)
    (may : MayStand (state_of o slots memory).memory_bits kind offset) (room : IsRoom (state_of o slots memory) (kind_of (new_object kind)) offset) where
  size : length memory ≡ 2 ^ o.bits
  size = long o are slots memory fits

  end : offset < 2 ^ (state_of o slots memory).memory_bits → offset < length memory
  unfolding state_of
  end less = omega (arith, less, size, ap (λ (n : ℕ). 2 ^ n) (tellings.own-bits (contents_of o memory) slots memory))

  empty : (place : ℕ) → (state_of o slots memory).slots (place / 16) ≡ None → slots (place / 16) ≡ None
  unfolding state_of
  empty place none = ap (λ (f : Slots). f (place / 16)) (sym (tellings.own-slots (contents_of o memory) slots memory)) ∙ none

  thread-room : kind ≡ kinds.Thread → (offset + 512 ≤ length memory) × OutsideSlots slots (offset + 48) 464
  thread-room is =
      let may' = subst (λ (x : ObjectKind). MayStand (state_of o slots memory).memory_bits x offset) is may in
      let room' = subst (λ (x : ObjectKind). IsRoom (state_of o slots memory) (kind_of (new_object x)) offset) is room in
      let least = are.least_bits in
      let parts : 2 ^ o.bits ≡ 2 ^ (o.bits - 9) * 512 = ap (λ (n : ℕ). 2 ^ n) (omega (arith, least)) ∙ pow-add 2 (o.bits - 9) 9 in
      (omega (arith, may'.0, end may'.1, size, parts), λ place from below. empty place (room'.slots place (omega (arith, from)) (omega (arith, below)) refl))

  point-room : has_waiting (Some (kind_of (new_object kind))) ≡ true → (offset + 16 ≤ length memory) × OutsideSlots slots offset 16
  point-room waits =
      let least = are.least_bits in
      let parts : 2 ^ o.bits ≡ 2 ^ (o.bits - 4) * 16 = ap (λ (n : ℕ). 2 ^ n) (omega (arith, least)) ∙ pow-add 2 (o.bits - 4) 4 in
      elim kind as (λ x. kind ≡ x → (offset + 16 ≤ length memory) × OutsideSlots slots offset 16) [
        | kinds.Endpoint ↦ λ is.
            let may' = subst (λ (x : ObjectKind). MayStand (state_of o slots memory).memory_bits x offset) is may in
            let room' = subst (λ (x : ObjectKind). IsRoom (state_of o slots memory) (kind_of (new_object x)) offset) is room in (
              omega (arith, may'.0, end may'.1, size, parts),
              λ place from below.
                  empty place (room'.slots place (omega (arith, from)) (omega (arith, below)) refl),
            )
        | kinds.Notification ↦ λ is.
            let may' = subst (λ (x : ObjectKind). MayStand (state_of o slots memory).memory_bits x offset) is may in
            let room' = subst (λ (x : ObjectKind). IsRoom (state_of o slots memory) (kind_of (new_object x)) offset) is room in (
              omega (arith, may'.0, end may'.1, size, parts),
              λ place from below.
                  empty place (room'.slots place (omega (arith, from)) (omega (arith, below)) refl),
            )
        | kinds.Thread ↦ λ is. absurd (let clash : false ≡ true = sym (ap (λ (x : ObjectKind). has_waiting (Some (kind_of (new_object x)))) is) ∙ waits in cc)
        | kinds.CNode radix ↦ λ is. absurd
            (let clash : false ≡ true = sym (ap (λ (x : ObjectKind). has_waiting (Some (kind_of (new_object x)))) is) ∙ waits in cc)
        | kinds.Frame ↦ λ is. absurd (let clash : false ≡ true = sym (ap (λ (x : ObjectKind). has_waiting (Some (kind_of (new_object x)))) is) ∙ waits in cc)
        | kinds.PageTable ↦ λ is. absurd
            (let clash : false ≡ true = sym (ap (λ (x : ObjectKind). has_waiting (Some (kind_of (new_object x)))) is) ∙ waits in cc)
        | kinds.RootTable ↦ λ is. absurd
            (let clash : false ≡ true = sym (ap (λ (x : ObjectKind). has_waiting (Some (kind_of (new_object x)))) is) ∙ waits in cc)
      ] refl

  pub room-at : IsRoomAt kind slots (length memory) offset
  room-at = record { few = few o are slots memory fits; thread = thread-room; point = point-room }
