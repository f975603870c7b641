-- Emptying a set of slots at once is emptying one of them, and then the others.
use Rattle.std.proofs.Common.{ℕ, ◌≡◌, ◌≢◌, ◌∙◌, ◌==◌, ◌-◌, ◌/◌, ◌%◌, ◌^◌, ◌<◌, ◌&&◌, ◌||◌, inl, inr, Bool, true, false, not, if◌then◌else◌, List, [], ◌∷◌}
use Rattle.std.proofs.Common.{Option, Some, None, option_map, refl, sym, ap}
use Rattle.std.specs.Prelude.{filter, cond}
use Rattle.std.proofs.Math.Bool.{and-false}
use Rattle.std.specs.Option.{option_map_or}
use Rattle.std.proofs.lemmas.Bool.{eq-eqb, ne_eqb}
use Rattle.std.proofs.lemmas.Bool.Decides.{eqb_tells}
use Rattle.model.specs.declared.capabilities.Cap.{Cap}
use Rattle.model.specs.declared.capabilities.Cap.TheVariants.{Empty, Untyped, Endpoint, Notification, CNode, Frame, PageTable, Tcb, RootTable, InterruptControl}
use Rattle.model.specs.declared.capabilities.Cap.TheVariants.{InterruptHandler}
use Rattle.model.specs.declared.capabilities.FrameMapping.{FrameMapping}
use Rattle.model.specs.declared.capabilities.TableMapping.{TableMapping}
use Rattle.model.specs.declared.rights.Rights.{Rights}
use Rattle.model.specs.declared.slot_entries.Entry.{Entry}
use Rattle.model.specs.Capabilities.Slots.{IsDerivation, IsFull, empty_entry, parent_at}
use Rattle.model.specs.Kernel.AddressSpaces.{page_size}
use Rattle.model.specs.Kernel.Removal.{SlotSet, ancestor_outside, bytes_kept, emptied, ends, frame_loses, is_ending_thread, kept, kept_entry, loses_last_child}
use Rattle.model.specs.Kernel.Removal.{new_parent, objects_kept, slots_emptied, table_loses}
use Rattle.model.specs.Kernel.Scheduling.{without_threads}
use Rattle.model.specs.Kernel.State.{State, Object, ThreadObject, EndpointObject, NotificationObject, CNodeObject, FrameObject, PageTableObject}
use Rattle.model.specs.Kernel.State.{RootTableObject, Sender, as_thread}
use Rattle.removal_laws.proofs.Children.{loses-split}
use Rattle.removal_laws.proofs.Keeping.{there-in, there-out}
use Rattle.removal_laws.specs.Steps.{alone, less}
use Rattle.removal_laws.proofs.Parents.{outside-none}
use Rattle.removal_laws.proofs.Splits.{ends-root-split, ends-split, frame-loses-split, new-parent-split, root-now}

-- ---- lists and objects without threads, in two steps

filter-step : {A : Type 0} (later : A → Bool) (n : A) (left first : List A) (a f : Bool) → a ≡ (f || later n) → left ≡ filter (λ m. not (later m)) first
    → cond (not a) (n ∷ left) left ≡ filter (λ m. not (later m)) (cond (not f) (n ∷ first) first)
filter-step later n left first a true is same = ap (λ b. cond (not b) (n ∷ left) left) is ∙ same
filter-step later n left first a false is same = ap (λ b. cond (not b) (n ∷ left) left) is ∙ ap (λ l. cond (not (later n)) (n ∷ l) l) same

pub filter-twice : {A : Type 0} (all first later : A → Bool) → ((n : A) → all n ≡ (first n || later n)) → (ns : List A)
    → filter (λ n. not (all n)) ns ≡ filter (λ n. not (later n)) (filter (λ n. not (first n)) ns)
filter-twice all first later either [] = refl
filter-twice all first later either (n ∷ ns) =
    filter-step later n (filter (λ m. not (all m)) ns) (filter (λ m. not (first m)) ns) (all n) (first n) (either n) (filter-twice all first later either ns)

caller-twice : (all first later : ℕ → Bool) → ((n : ℕ) → all n ≡ (first n || later n)) → (c : Option ℕ) (once : Option ℕ) →
    once ≡ (if option_map_or first c false then None else c)
    → (if option_map_or all c false then None else c) ≡ (if option_map_or later once false then None else once)
caller-twice all first later either None once is = sym (ap (λ (o : Option ℕ). if option_map_or later o false then None else o) is)
caller-twice all first later either (Some n) once is =
    ap (λ b. if b then None else Some n) (either n)
    ∙ elim (first n) as (λ b. (if b || later n then None else Some n)
    ≡ (if option_map_or later (if b then None else Some n) false then None else (if b then None else Some n))) [
      | true ↦ refl
      | false ↦ refl
    ]
    ∙ sym (ap (λ (o : Option ℕ). if option_map_or later o false then None else o) is)

pub threads-twice : (all first later : ℕ → Bool) → ((n : ℕ) → all n ≡ (first n || later n)) → (o : Object) →
    without_threads all o ≡ without_threads later (without_threads first o)
threads-twice all first later either (ThreadObject t) = λ i. ThreadObject (record t { caller = caller-twice all first later either t.caller _ refl i })
threads-twice all first later either (EndpointObject e) = λ i. EndpointObject (record {
  senders = filter-twice (λ (sender : Sender). all sender.thread) (λ sender. first sender.thread) (λ sender. later sender.thread)
      (λ sender. either sender.thread) e.senders i;
  receivers = filter-twice all first later either e.receivers i;
})
threads-twice all first later either (NotificationObject n) = λ i. NotificationObject (record n { waiters = filter-twice all first later either n.waiters i })
threads-twice all first later either (CNodeObject radix) = refl
threads-twice all first later either FrameObject = refl
threads-twice all first later either PageTableObject = refl
threads-twice all first later either RootTableObject = refl

-- an object without threads is a thread where it was one
as-thread-kept : (gone : ℕ → Bool) (o : Option Object) (answer : Bool) →
    option_map_or (λ _. answer) (as_thread (option_map (without_threads gone) o)) false ≡ option_map_or (λ _. answer) (as_thread o) false
as-thread-kept gone None answer = refl
as-thread-kept gone (Some (ThreadObject t)) answer = refl
as-thread-kept gone (Some (EndpointObject e)) answer = refl
as-thread-kept gone (Some (NotificationObject n)) answer = refl
as-thread-kept gone (Some (CNodeObject radix)) answer = refl
as-thread-kept gone (Some FrameObject) answer = refl
as-thread-kept gone (Some PageTableObject) answer = refl
as-thread-kept gone (Some RootTableObject) answer = refl

thread-ends : (o : Option Object) (a b : Bool) → option_map_or (λ _. a || b) (as_thread o) false
    ≡ (option_map_or (λ _. a) (as_thread o) false || option_map_or (λ _. b) (as_thread o) false)
thread-ends o a b = elim (as_thread o) as (λ t. option_map_or (λ _. a || b) t false ≡ (option_map_or (λ _. a) t false || option_map_or (λ _. b) t false))
    [ None ↦ refl | Some t ↦ refl ]

ending-cases : (gone : ℕ → Bool) (o : Option Object) (a b : Bool) → (option_map_or (λ _. a) (as_thread o) false || option_map_or (λ _. b) (as_thread o) false)
    ≡ (option_map_or (λ _. a) (as_thread o) false || option_map_or (λ _. b) (as_thread (if a then None else option_map (without_threads gone) o)) false)
ending-cases gone o true b =
    elim (as_thread o) as (λ t. (option_map_or (λ _. true) t false || option_map_or (λ _. b) t false) ≡ (option_map_or (λ _. true) t false || false))
    [ None ↦ refl | Some t ↦ refl ]
ending-cases gone o false b = ap (λ e. option_map_or (λ _. false) (as_thread o) false || e) (sym (as-thread-kept gone o b))

objects-cases : (all first later : ℕ → Bool) → ((n : ℕ) → all n ≡ (first n || later n)) → (a b : Bool) (o : Option Object)
    → (if a || b then None else option_map (without_threads all) o)
    ≡ (if b then None else option_map (without_threads later) (if a then None else option_map (without_threads first) o))
objects-cases all first later either true true o = refl
objects-cases all first later either true false o = refl
objects-cases all first later either false true o = refl
objects-cases all first later either false false None = refl
objects-cases all first later either false false (Some o) = ap (λ n. Some n) (threads-twice all first later either o)

bytes-cases : (a b : Bool) (byte : Option ℕ) → (if a || b then None else byte) ≡ (if b then None else (if a then None else byte))
bytes-cases true true byte = refl
bytes-cases true false byte = refl
bytes-cases false b byte = refl

-- ---- capabilities that stay

watermarks : (a b : Bool) (w : ℕ) → (if a || b then 0 else w) ≡ (if b then 0 else (if a then 0 else w))
watermarks true true w = refl
watermarks true false w = refl
watermarks false b w = refl

module _ (s : State) (set : SlotSet) (x : ℕ) (tree : IsDerivation s.slots) (near : (y : ℕ) → IsFull s.slots y → y < 2 ^ s.memory_bits / 16)
    (member : set x ≡ true) (full : IsFull s.slots x) where
  abbrev after : State
  after = emptied s (alone x)

  abbrev others : SlotSet
  others = less set x

  frame-twice : (y f : ℕ) (r : Rights) (m : FrameMapping) (a b : Bool) → frame_loses s (alone x) m ≡ a → frame_loses after others m ≡ b
      → (if a || b then Frame f r None else Frame f r (Some m)) ≡ kept after others y (if a then Frame f r None else Frame f r (Some m))
  frame-twice y f r m true b first later = refl
  frame-twice y f r m false b first later = sym (ap (λ c. if c then Frame f r None else Frame f r (Some m)) later)

  table-twice : (y t : ℕ) (m : TableMapping) (a b : Bool) → table_loses s (alone x) m ≡ a → table_loses after others m ≡ b
      → (if a || b then PageTable t None else PageTable t (Some m)) ≡ kept after others y (if a then PageTable t None else PageTable t (Some m))
  table-twice y t m true b first later = refl
  table-twice y t m false b first later = sym (ap (λ c. if c then PageTable t None else PageTable t (Some m)) later)

  kept-twice : (y : ℕ) (c : Cap) → set y ≡ false → kept s set y c ≡ kept after others y (kept s (alone x) y c)
  kept-twice y (Untyped o b w) stays =
      ap (λ l. Untyped o b (if l then 0 else w)) (loses-split s set x tree near member full y stays)
      ∙ ap (λ v. Untyped o b v) (watermarks (loses_last_child s (alone x) y) (loses_last_child after others y) w)
  kept-twice y (Frame f r (Some m)) stays =
      ap (λ l. if l then Frame f r None else Frame f r (Some m)) (frame-loses-split s set x tree near member full m)
      ∙ frame-twice y f r m (frame_loses s (alone x) m) (frame_loses after others m) refl refl
  kept-twice y (PageTable t (Some m)) stays =
      ap (λ l. if l then PageTable t None else PageTable t (Some m)) (ends-root-split s set x tree near member full m.root)
      ∙ table-twice y t m (table_loses s (alone x) m) (table_loses after others m) refl refl
  kept-twice y (Frame f r None) stays = refl
  kept-twice y (PageTable t None) stays = refl
  kept-twice y Empty stays = refl
  kept-twice y (Endpoint o r b) stays = refl
  kept-twice y (Notification o r b) stays = refl
  kept-twice y (CNode o r g) stays = refl
  kept-twice y (Tcb o) stays = refl
  kept-twice y (RootTable o) stays = refl
  kept-twice y InterruptControl stays = refl
  kept-twice y (InterruptHandler line) stays = refl

  entry-twice : (y : ℕ) → y ≢ x → set y ≡ false → (o : Option Entry) →
      option_map (kept_entry s set y) o ≡ option_map (kept_entry after others y) (option_map (kept_entry s (alone x) y) o)
  entry-twice y apart stays None = refl
  entry-twice y apart stays (Some held) = λ i.
      Some (record { capability = kept-twice y held.capability stays i; parent = new-parent-split s set x tree near member full y apart i })

  slots-other : (y : ℕ) → y ≢ x → (in_set : Bool) → set y ≡ in_set → slots_emptied s set y ≡ slots_emptied after others y
  slots-other y apart true is = there-in s set y is ∙ sym (there-in after others y (ap (λ b. set y && not b) (ne_eqb y x apart) ∙ ap (λ b. b && true) is))
  slots-other y apart false is =
      there-out s set y is
      ∙ entry-twice y apart is (s.slots y)
      ∙ ap (option_map (kept_entry after others y)) (sym (there-out s (alone x) y (ne_eqb y x apart)))
      ∙ sym (there-out after others y (ap (λ b. b && not (y == x)) is))

  slots-here : (y : ℕ) → y ≡ x → slots_emptied s set y ≡ slots_emptied after others y
  slots-here y here =
      let root : new_parent after others y ≡ None = ap (ancestor_outside 256 others after.slots)
      (ap (parent_at after.slots) here ∙ root-now s set x tree near member full) ∙ outside-none 256 others after.slots in
      let blank : option_map (kept_entry after others y) (Some empty_entry) ≡ Some empty_entry = λ i. Some (record { capability = Empty; parent = root i }) in
      there-in s set y (ap set here ∙ member)
      ∙ sym (there-out after others y (ap (λ b. set y && not b) (eq-eqb y x here) ∙ and-false (set y))
      ∙ ap (option_map (kept_entry after others y)) (there-in s (alone x) y (eq-eqb y x here)) ∙ blank)

  pub slots-twice : (y : ℕ) → slots_emptied s set y ≡ slots_emptied after others y
  slots-twice y = elim (eqb_tells y x) [ inl here ↦ slots-here y here.1 | inr apart ↦ slots-other y apart.1 (set y) refl ]

  -- ---- objects that stay

  ending-twice : (t : ℕ) → is_ending_thread s set t ≡ (is_ending_thread s (alone x) t || is_ending_thread after others t)
  ending-twice t =
      ap (λ e. option_map_or (λ _. e) (as_thread (s.objects t)) false) (ends-split s set x tree near member full t)
      ∙ thread-ends (s.objects t) (ends s (alone x) t) (ends after others t)
      ∙ ending-cases (is_ending_thread s (alone x)) (s.objects t) (ends s (alone x) t) (ends after others t)

  objects-twice : (offset : ℕ) → objects_kept s set offset ≡ objects_kept after others offset
  objects-twice offset =
      ap (λ e. if e then None else option_map (without_threads (is_ending_thread s set)) (s.objects offset)) (ends-split s set x tree near member full offset)
      ∙ objects-cases (is_ending_thread s set) (is_ending_thread s (alone x)) (is_ending_thread after others) ending-twice (ends s (alone x) offset)
      (ends after others offset) (s.objects offset)

  bytes-twice : (place : ℕ) → bytes_kept s set place ≡ bytes_kept after others place
  bytes-twice place =
      ap (λ e. if e then None else s.bytes place) (ends-split s set x tree near member full (place - place % page_size))
      ∙ bytes-cases (ends s (alone x) (place - place % page_size)) (ends after others (place - place % page_size)) (s.bytes place)

  pub one-by-one : emptied s set ≡ emptied after others
  one-by-one = λ i. record {
    memory_bits = s.memory_bits;
    boot_radix = s.boot_radix;
    slots = λ slot. slots-twice slot i;
    objects = λ offset. objects-twice offset i;
    bytes = λ place. bytes-twice place i;
    ready = λ priority. filter-twice (is_ending_thread s set) (is_ending_thread s (alone x)) (is_ending_thread after others) ending-twice (s.ready priority) i;
    masked = s.masked;
    pending = s.pending;
  }
