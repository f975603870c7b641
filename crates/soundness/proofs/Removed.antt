-- Removals keep soundness.
use Rattle.std.proofs.Common.{ℕ, ◌≡◌, ◌∙◌, ◌==◌, ◌*◌, ◌/◌, ◌^◌, ◌<◌, ◌&&◌, Bool, true, false, not, filter, if◌then◌else◌, List, [], ◌∷◌, Option, Some, None}
use Rattle.std.proofs.Common.{Result, Ok, Err, option_map, refl, sym, ap, subst, arith}
use Rattle.std.specs.Prelude.{fold}
use Rattle.std.specs.Option.{option_map_or}
use Rattle.model.specs.declared.errors.KError.{KError}
use Rattle.model.specs.declared.errors.KError.TheVariants.{RevokeFirst}
use Rattle.model.specs.Capabilities.Slots.{IsFull, IsOpen, is_descendant, is_full}
use Rattle.model.specs.Kernel.Kinds.{kind_at, kind_of}
use Rattle.model.specs.Kernel.Removal.{SlotSet, closes, closing, emptied, delete, ends, is_set_back, is_slot_of, remove, revoke, slot_count, thread_places}
use Rattle.model.specs.Kernel.Removal.{waits_on_ended, wants_revoke_first, with_bindings, without_slots}
use Rattle.model.specs.Kernel.Retype.{NewThread}
use Rattle.model.specs.Kernel.Scheduling.{wake}
use Rattle.model.specs.Kernel.Soundness.{IsSound}
use Rattle.model.specs.Kernel.State.{State, Object, ThreadObject, EndpointObject, NotificationObject, CNodeObject, FrameObject, PageTableObject}
use Rattle.model.specs.Kernel.State.{RootTableObject, ThreadState, as_thread, slot_numbers}
use Rattle.std.proofs.lemmas.Bool.{eqb-true}
use Rattle.model.proofs.Ancestors.{descendant-full, full-open}
use Rattle.removal_laws.proofs.Laws.{bool-iff, both, bounds-within, holder, holder-aligned, in-memory, members-all, slots-settled, sound-ready}
use Rattle.soundness.proofs.LeftSlots.{Removes, kind-stays, left, near}
use Rattle.soundness.proofs.LeftThreads.{calm-sound, stilled}
use Rattle.soundness.proofs.Waking.{AreApart, all-wake, apart-filter, filter-in, in-filter, in-places, is_in, places-apart, resting}

-- the threads that wake
abbrev waking : State → SlotSet → List ℕ
waking s set = filter (is_set_back s set) (thread_places s)

places-once : (s : State) → AreApart (thread_places s)
unfolding slot_numbers
places-once s = places-apart 0 (2 ^ s.memory_bits / 16)

place-in : (s : State) (n : ℕ) → n < 2 ^ s.memory_bits / 16 → is_in (thread_places s) (16 * n) ≡ true
unfolding slot_numbers
place-in s n less = in-places 0 (2 ^ s.memory_bits / 16) n (omega arith) (omega (arith, less))

-- what passes a test on threads is one
some-thread : (test : ThreadState → Bool) (o : Option Object) → option_map_or test (as_thread o) false ≡ true → (t : ThreadState) × (o ≡ Some (ThreadObject t))
    × (test t ≡ true)
some-thread test (Some (ThreadObject t)) is = (t, refl, is)
some-thread test None is = let clash : false ≡ true = is in absurd cc
some-thread test (Some (EndpointObject e)) is = let clash : false ≡ true = is in absurd cc
some-thread test (Some (NotificationObject n)) is = let clash : false ≡ true = is in absurd cc
some-thread test (Some (CNodeObject radix)) is = let clash : false ≡ true = is in absurd cc
some-thread test (Some FrameObject) is = let clash : false ≡ true = is in absurd cc
some-thread test (Some PageTableObject) is = let clash : false ≡ true = is in absurd cc
some-thread test (Some RootTableObject) is = let clash : false ≡ true = is in absurd cc

-- a thread is at one of the places
thread-place : (s : State) → IsSound s → (o : ℕ) (t : ThreadState) → s.objects o ≡ Some (ThreadObject t) → is_in (thread_places s) o ≡ true
thread-place s sound o t is =
    let inner : is_slot_of s o (o / 16) ≡ true = bounds-within (o / 16) (slot_count (s.objects o)) (o / 16) (omega arith) (let three : slot_count
    (s.objects o) ≡ 3 = ap slot_count is in omega (arith, three)) in
    let h = holder s sound o (o / 16) inner in
    let whole : 16 * (o / 16) ≡ o = (let sixteenth = holder-aligned s sound o (o / 16) h in omega (arith, sixteenth)) in
    ap (is_in (thread_places s)) (sym whole) ∙ place-in s (o / 16) (in-memory s sound o (o / 16) h)

module _ (s : State) (set : SlotSet) (r : Removes s set) where
  record SetBack (o : ℕ) : Type 0 where
    thread : ThreadState
    was : s.objects o ≡ Some (ThreadObject thread)
    stays : ends s set o ≡ false

  set-back : (o : ℕ) → is_set_back s set o ≡ true → SetBack o
  set-back o is =
      let own = some-thread (λ t. waits_on_ended s set t.status && not (ends s set o)) (s.objects o) is in
      let parts = both (waits_on_ended s set own.0.status) (not (ends s set o)) own.2 in
      record {
        thread = own.0;
        was = own.1;
        stays = elim (ends s set o) as (λ b. not b ≡ true → b ≡ false) [ true ↦ λ no. let clash : false ≡ true = no in absurd cc | false ↦ λ _. refl ] parts.1;
      }

  in-waking : (o : ℕ) → is_in (waking s set) o ≡ is_set_back s set o
  in-waking o = bool-iff (is_in (waking s set) o) (is_set_back s set o)
      (λ is. (in-filter (is_set_back s set) (thread_places s) o is).0)
      (λ is. let back = set-back o is in filter-in (is_set_back s set) (thread_places s) o is
      (thread-place s r.sound o (SetBack.thread back) (SetBack.was back)))

  threads-wake : (o : ℕ) → is_in (waking s set) o ≡ true → kind_at (left s set) o ≡ Some NewThread
  threads-wake o is =
      let back = set-back o (sym (in-waking o) ∙ is) in
      kind-stays s set r o (SetBack.stays back) ∙ ap (option_map kind_of) (SetBack.was back)

  rests : IsSound (resting (waking s set) (left s set))
  rests = subst IsSound
      (λ i. record (left s set) { objects = λ o. if sym (in-waking o) i then stilled ((left s set).objects o) else (left s set).objects o })
      (calm-sound s set r)

  pub without-sound : IsSound (without_slots s set)
  without-sound = subst IsSound
      (λ i. fold wake (record (emptied s set) { slots = λ y. sym (slots-settled s r.sound set (near s set r) r.opens y) i }) (waking s set))
      (all-wake (waking s set) (left s set) (apart-filter (is_set_back s set) (thread_places s) (places-once s)) threads-wake rests)

-- ---- removals

wake-slots : (l : List ℕ) (s : State) → (fold wake s l).slots ≡ s.slots
wake-slots [] s = refl
wake-slots (x ∷ l) s = wake-slots l (wake s x)

wake-radix : (l : List ℕ) (s : State) → (fold wake s l).boot_radix ≡ s.boot_radix
wake-radix [] s = refl
wake-radix (x ∷ l) s = wake-radix l (wake s x)

-- a state after a removal
pub record Leaves (s : State) (set : SlotSet) (t : State) : Type 0 where
  pub removes : Removes s set
  pub sound : IsSound t
  pub slots : t.slots ≡ (left s set).slots
  pub radix : t.boot_radix ≡ s.boot_radix

without-leaves : (s : State) (set : SlotSet) → Removes s set → Leaves s set (without_slots s set)
without-leaves s set r = record {
  removes = r;
  sound = without-sound s set r;
  slots = wake-slots (waking s set) (closing (emptied s set) (closes s set)) ∙ (λ i y. slots-settled s r.sound set (near s set r) r.opens y i);
  radix = wake-radix (waking s set) (closing (emptied s set) (closes s set));
}

pub removed-leaves : (s t : State) (set : SlotSet) → IsSound s → ((slot : ℕ) → set slot ≡ true → IsOpen s.slots slot) → remove s set ≡ Ok t →
    Leaves s (with_bindings s set) t
unfolding remove
removed-leaves s t set sound opens is =
    let all : SlotSet = with_bindings s set in
    elim (wants_revoke_first s all) as (λ b. wants_revoke_first s all ≡ b → (if b then Err RevokeFirst else Ok (without_slots s all)) ≡ Ok t → Leaves s all t) [
      | true ↦ λ _ so. let clash : Err RevokeFirst ≡ Ok t = so in absurd cc
      | false ↦ λ allowed so.
          let e : without_slots s all ≡ t = cc so in
          subst (Leaves s all) e
          (without-leaves s all (record { sound = sound; opens = members-all s set opens (sound-ready s sound).lines; allowed = allowed }))
    ] refl is

pub removed-sound : (s t : State) (set : SlotSet) → IsSound s → ((slot : ℕ) → set slot ≡ true → IsOpen s.slots slot) → remove s set ≡ Ok t → IsSound t
removed-sound s t set sound opens is = (removed-leaves s t set sound opens is).sound

-- ---- one slot, and all descendants of one

alone-open : (s : State) (slot : ℕ) → IsFull s.slots slot → (other : ℕ) → (other == slot) ≡ true → IsOpen s.slots other
alone-open s slot full other is = subst (λ (n : ℕ). IsOpen s.slots n) (sym (eqb-true other slot is)) (full-open s.slots slot full)

pub deleted-leaves : (s t : State) (slot : ℕ) → IsSound s → IsFull s.slots slot → delete s slot ≡ Ok t → Leaves s (with_bindings s (λ other. other == slot)) t
deleted-leaves s t slot sound full is =
    removed-leaves s t (λ other. other == slot) sound (alone-open s slot full) (ap (λ b. if b then remove s (λ other. other == slot) else Ok s) (sym full) ∙ is)

pub deleted-sound : (s t : State) (slot : ℕ) → IsSound s → delete s slot ≡ Ok t → IsSound t
deleted-sound s t slot sound is = elim (is_full s.slots slot) as (λ b. is_full s.slots slot ≡ b →
    (if b then remove s (λ other. other == slot) else Ok s) ≡ Ok t → IsSound t) [
      | true ↦ λ full so. removed-sound s t (λ other. other == slot) sound (alone-open s slot full) so
      | false ↦ λ _ so. let e : ◌≡◌ {A = State} s t = (let f : ◌≡◌ {A = Result State KError} (Ok s) (Ok t) = so in cc) in subst IsSound e sound
    ] refl is

pub revoked-sound : (s t : State) (slot : ℕ) → IsSound s → revoke s slot ≡ Ok t → IsSound t
revoked-sound s t slot sound is =
    removed-sound s t (is_descendant s.slots slot) sound (λ other below.
    full-open s.slots other (descendant-full s.slots slot other sound.slots.derivation below)) is
