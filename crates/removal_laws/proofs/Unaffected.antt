-- Where no object ends, objects, bytes and the ready list stay.
use Rattle.std.proofs.Common.{ℕ, ◌≡◌, ◌∙◌, ◌-◌, ◌%◌, Bool, false, not, if◌then◌else◌, List, [], ◌∷◌, Option, Some, None, option_map, cond, refl, ap}
use Rattle.std.specs.Prelude.{filter}
use Rattle.std.specs.Option.{option_map_or}
use Rattle.model.specs.Kernel.AddressSpaces.{page_size}
use Rattle.model.specs.Kernel.Removal.{SlotSet, emptied, ends}
use Rattle.model.specs.Kernel.Scheduling.{without_threads}
use Rattle.model.specs.Kernel.State.{State, Object, ThreadObject, EndpointObject, NotificationObject, CNodeObject, FrameObject, PageTableObject}
use Rattle.model.specs.Kernel.State.{RootTableObject, Sender, as_thread}
use Rattle.model.specs.Capabilities.Slots.{Slots}

pub filter-all : {A : Type 0} (gone : A → Bool) → ((n : A) → gone n ≡ false) → (ns : List A) → filter (λ n. not (gone n)) ns ≡ ns
filter-all gone none [] = refl
filter-all gone none (n ∷ ns) = ap (λ b. cond (not b) (n ∷ filter (λ m. not (gone m)) ns) (filter (λ m. not (gone m)) ns)) (none n)
    ∙ ap (λ l. n ∷ l) (filter-all gone none ns)

caller-all : (gone : ℕ → Bool) → ((n : ℕ) → gone n ≡ false) → (c : Option ℕ) → (if option_map_or gone c false then None else c) ≡ c
caller-all gone none None = refl
caller-all gone none (Some n) = ap (λ b. if b then None else Some n) (none n)

pub threads-all : (gone : ℕ → Bool) → ((n : ℕ) → gone n ≡ false) → (o : Object) → without_threads gone o ≡ o
threads-all gone none (ThreadObject t) = λ i. ThreadObject (record t { caller = caller-all gone none t.caller i })
threads-all gone none (EndpointObject e) = λ i. EndpointObject (record {
  senders = filter-all (λ (sender : Sender). gone sender.thread) (λ sender. none sender.thread) e.senders i;
  receivers = filter-all gone none e.receivers i;
})
threads-all gone none (NotificationObject n) = λ i. NotificationObject (record n { waiters = filter-all gone none n.waiters i })
threads-all gone none (CNodeObject radix) = refl
threads-all gone none FrameObject = refl
threads-all gone none PageTableObject = refl
threads-all gone none RootTableObject = refl

-- ---- a state by the objects that end

abbrev pub ending_by : (ℕ → Bool) → State → ℕ → Bool
ending_by gone s t = option_map_or (λ _. gone t) (as_thread (s.objects t)) false

-- the state with other slots, and without these objects
abbrev pub ended_by : (ℕ → Bool) → State → Slots → State
ended_by gone s slots = record s {
  slots = slots;
  ready = λ priority. filter (λ thread. not (ending_by gone s thread)) (s.ready priority);
  objects = λ offset. if gone offset then None else option_map (without_threads (ending_by gone s)) (s.objects offset);
  bytes = λ place. if gone (place - place % page_size) then None else s.bytes place;
}

pub emptied-by : (s : State) (set : SlotSet) → emptied s set ≡ ended_by (ends s set) s (emptied s set).slots
emptied-by s set = refl

pub ended-same : (first later : ℕ → Bool) (s : State) (slots : Slots) → ((o : ℕ) → first o ≡ later o) → ended_by first s slots ≡ ended_by later s slots
ended-same first later s slots same = λ i. ended_by (λ o. same o i) s slots

none-ending : (gone : ℕ → Bool) → ((n : ℕ) → gone n ≡ false) → (s : State) (t : ℕ) → ending_by gone s t ≡ false
none-ending gone none s t = elim (as_thread (s.objects t)) as (λ o. option_map_or (λ _. gone t) o false ≡ false) [ None ↦ refl | Some th ↦ none t ]

object-all : (gone : ℕ → Bool) → ((n : ℕ) → gone n ≡ false) → (o : Option Object) → option_map (without_threads gone) o ≡ o
object-all gone none None = refl
object-all gone none (Some o) = ap (λ n. Some n) (threads-all gone none o)

pub nothing-ends : (gone : ℕ → Bool) → ((n : ℕ) → gone n ≡ false) → (s : State) (slots : Slots) → ended_by gone s slots ≡ record s { slots = slots }
nothing-ends gone none s slots =
    let objects : (o : ℕ) → (if gone o then None else option_map (without_threads (ending_by gone s)) (s.objects o)) ≡ s.objects o = λ o.
    ap (λ b. if b then None else option_map (without_threads (ending_by gone s)) (s.objects o)) (none o)
    ∙ object-all (ending_by gone s) (none-ending gone none s) (s.objects o)
    in
    λ i. record s {
      slots = slots;
      ready = λ priority. filter-all (ending_by gone s) (none-ending gone none s) (s.ready priority) i;
      objects = λ o. objects o i;
      bytes = λ place. ap (λ b. if b then None else s.bytes place) (none (place - place % page_size)) i;
    }
