-- A slot of a loaded state that is open: what it holds, and what one holding more makes of all slots.
use Rattle.std.proofs.Common.{ℕ, ◌≡◌, ◌≢◌, ◌∙◌, ◌||◌, ◌<◌, inl, inr, Bool, true, if◌then◌else◌, length, get_or, Option, Some, None, sym, ap, arith}
use Rattle.std.specs.Prelude.{nat_lt}
use Rattle.std.specs.Option.{option_map_or}
use Rattle.std.specs.List.{list_any, range_with_len}
use Rattle.std.proofs.lemmas.Bool.{lt-ltb, or_left, or_right}
use Rattle.std.proofs.lemmas.Bool.Decides.{eqb_tells}
use Rattle.std.proofs.lemmas.List.Folds.{list_any_at}
use Rattle.std.proofs.lemmas.List.FromFn.{get_or-range_with_len, length-range_with_len}
use Rattle.model.proofs.SlotChanges.{entry-other, entry-same}
use Rattle.model.specs.declared.slot_entries.Entry.{Entry}
use Rattle.soundness.proofs.boot_laws.Readings.{Reads, slots_of_loaded}
use Rattle.soundness.specs.boot_laws.Loading.{Progress, holdings_so_far, is_open_so_far, loaded}
use Rattle.model.specs.Capabilities.Slots.{Slots, empty_entry, with_entry}
use Rattle.model.specs.Images.Described.{held_in, is_object_slot}
use Rattle.model.specs.Images.Image.{Image}
use Rattle.model.specs.Kernel.State.{boot_area_slots}

pub open-low : (image : Image) (p : Progress) (slot : ℕ) → slot < boot_area_slots image.header.boot_radix → is_open_so_far image p slot ≡ true
unfolding is_open_so_far
open-low image p slot low = or_left _ _ (lt-ltb slot (boot_area_slots image.header.boot_radix) low)

pub open-room : (image : Image) (p : Progress) (slot number : ℕ) → number < p.objects → is_object_slot image slot number ≡ true →
    is_open_so_far image p slot ≡ true
unfolding is_open_so_far
open-room image p slot number less is =
    let long : number < length (range_with_len 0 p.objects) = rw (length-range_with_len 0 p.objects) less in
    let here : get_or (range_with_len 0 p.objects) number 0 ≡ number = get_or-range_with_len 0 p.objects number 0 less ∙ omega arith in
    or_right _ _ (list_any_at (is_object_slot image slot) (range_with_len 0 p.objects) number 0 long (ap (is_object_slot image slot) here ∙ is))

-- what an open slot holds
abbrev pub shown : Option Entry → Entry
shown v = option_map_or (λ held. held) v empty_entry

pub read-open : (image : Image) (p : Progress) (slot : ℕ) (v : Option Entry) → is_open_so_far image p slot ≡ true → held_in (holdings_so_far image p) slot ≡ v
    → Reads image p slot (shown v)
unfolding loaded
read-open image p slot v is_open held =
    ap (λ (b : Bool). if b then Some (shown (held_in (holdings_so_far image p) slot)) else None) is_open
    ∙ ap (λ (o : Option Entry). let e : Option Entry = Some (shown o) in e) held

-- slots that are open alike and hold alike
pub read-same : (image : Image) (p q : Progress) (slot : ℕ) → q.objects ≡ p.objects →
    held_in (holdings_so_far image q) slot ≡ held_in (holdings_so_far image p) slot
    → (loaded image q).slots slot ≡ (loaded image p).slots slot
unfolding loaded is_open_so_far
read-same image p q slot objects held = λ i.
    if (nat_lt slot (boot_area_slots image.header.boot_radix) || list_any (is_object_slot image slot) (range_with_len 0 (objects i)))
    then Some (shown (held i))
    else None

-- one slot: as it is now, or as it was
now-or-before : (now before : Slots) (slot : ℕ) (held : Entry) (s : ℕ) → now slot ≡ Some held → (s ≢ slot → now s ≡ before s)
    → now s ≡ with_entry before slot (Some held) s
now-or-before now before slot held s is others = elim (eqb_tells s slot) [
  | inl here ↦ ap now here.1 ∙ is ∙ sym (entry-same before slot (Some held)) ∙ ap (with_entry before slot (Some held)) (sym here.1)
  | inr apart ↦ others apart.1 ∙ sym (entry-other before slot (Some held) s apart.1)
]

module _ (image : Image) (p q : Progress) where
  abbrev now : Slots
  now = slots_of_loaded image q

  abbrev before : Slots
  before = slots_of_loaded image p

  abbrev IsAsBefore : ℕ → Type 0
  IsAsBefore s = held_in (holdings_so_far image q) s ≡ held_in (holdings_so_far image p) s

  -- one slot changes
  pub one-changes : (slot : ℕ) (held : Entry) → q.objects ≡ p.objects → Reads image q slot held → ((s : ℕ) → s ≢ slot → IsAsBefore s)
      → slots_of_loaded image q ≡ with_entry (slots_of_loaded image p) slot (Some held)
  one-changes slot held objects reads others = λ i s.
      now-or-before now before slot held s reads (λ apart. read-same image p q s objects (others s apart)) i

  -- two slots change
  pub two-change : (first second : ℕ) (one two : Entry) → q.objects ≡ p.objects → Reads image q first one → Reads image q second two
      → ((s : ℕ) → s ≢ first → s ≢ second → IsAsBefore s)
      → slots_of_loaded image q ≡ with_entry (with_entry (slots_of_loaded image p) first (Some one)) second (Some two)
  two-change first second one two objects reads_one reads_two others = λ i s.
      now-or-before now (with_entry before first (Some one)) second two s reads_two (λ apart.
      now-or-before now before first one s reads_one (λ other. read-same image p q s objects (others s other apart))) i

  -- three slots change
  pub three-change : (first second third : ℕ) (one two three : Entry) → q.objects ≡ p.objects → Reads image q first one → Reads image q second two
      → Reads image q third three → ((s : ℕ) → s ≢ first → s ≢ second → s ≢ third → IsAsBefore s)
      → slots_of_loaded image q
      ≡ with_entry (with_entry (with_entry (slots_of_loaded image p) first (Some one)) second (Some two)) third (Some three)
  three-change first second third one two three objects reads_one reads_two reads_three others = λ i s.
      now-or-before now (with_entry (with_entry before first (Some one)) second (Some two)) third three s reads_three (λ last.
      now-or-before now (with_entry before first (Some one)) second two s reads_two (λ apart.
      now-or-before now before first one s reads_one (λ other. read-same image p q s objects (others s other apart last)))) i
