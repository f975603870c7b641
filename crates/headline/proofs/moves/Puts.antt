-- Maps with another value at one place, and what a changed object means to threads and queues.
use Rattle.std.proofs.Common.{ℕ, ◌≡◌, ◌≢◌, ◌∙◌, ◌++◌, ◌⊎◌, inl, inr, true, false, if◌then◌else◌, Option, Some, None, option_map, List, [], ◌∷◌, filter, fold}
use Rattle.std.proofs.Common.{refl, ap}
use Rattle.std.specs.Option.{option_map_or}
use Rattle.std.proofs.lemmas.Bool.Decides.{eqb_tells}
use Rattle.model.specs.declared.labels.Label.{Label}
use Rattle.model.specs.Kernel.Kinds.{kind_of}
use Rattle.model.specs.Kernel.Retype.{NewObject, NewThread, NewEndpoint, NewNotification, NewCNode, NewFrame, NewPageTable, NewRootTable}
use Rattle.model.specs.Kernel.State.{Object, ThreadObject, EndpointObject, EndpointState, NotificationObject, NotificationState, CNodeObject, FrameObject}
use Rattle.model.specs.Kernel.State.{PageTableObject, RootTableObject, ThreadState, as_thread, new_thread, put}
use Rattle.model.specs.Kernel.Waits.{count_open, is_of, open_count}

-- ---- one place of a map

pub put-here : {A : Type 0} (map : ℕ → A) (place : ℕ) (value : A) (other : ℕ) → other ≡ place → put map place value other ≡ value
put-here map place value other here = elim (eqb_tells other place) [
  | inl same ↦ ap (λ b. if b then value else map other) same.0
  | inr apart ↦ absurd (apart.1 here)
]

pub put-there : {A : Type 0} (map : ℕ → A) (place : ℕ) (value : A) (other : ℕ) → other ≢ place → put map place value other ≡ map other
put-there map place value other there = elim (eqb_tells other place) [
  | inl same ↦ absurd (there same.1)
  | inr apart ↦ ap (λ b. if b then value else map other) apart.0
]

pub decided : (a b : ℕ) → (a ≡ b) ⊎ (a ≢ b)
decided a b = elim (eqb_tells a b) [ inl same ↦ inl same.1 | inr apart ↦ inr apart.1 ]

-- ---- objects of one type are none of another

pub thread-no-endpoint : (t : ThreadState) (e : EndpointState) → Some (ThreadObject t) ≡ Some (EndpointObject e) → ⊥
thread-no-endpoint t e clash = absurd cc

pub thread-no-notification : (t : ThreadState) (n : NotificationState) → Some (ThreadObject t) ≡ Some (NotificationObject n) → ⊥
thread-no-notification t n clash = absurd cc

-- the thread of an object that is one
pub thread-there : (o : Option Object) → option_map kind_of o ≡ Some NewThread → o ≡ Some (ThreadObject (option_map_or (λ t. t) (as_thread o) new_thread))
thread-there (Some (ThreadObject t)) is = refl
thread-there None is = absurd (let clash : ◌≡◌ {A = Option NewObject} None (Some NewThread) = is in cc)
thread-there (Some (EndpointObject e)) is = absurd (let clash : ◌≡◌ {A = Option NewObject} (Some NewEndpoint) (Some NewThread) = is in cc)
thread-there (Some (NotificationObject n)) is = absurd (let clash : ◌≡◌ {A = Option NewObject} (Some NewNotification) (Some NewThread) = is in cc)
thread-there (Some (CNodeObject radix)) is = absurd (let clash : ◌≡◌ {A = Option NewObject} (Some (NewCNode radix)) (Some NewThread) = is in cc)
thread-there (Some FrameObject) is = absurd (let clash : ◌≡◌ {A = Option NewObject} (Some NewFrame) (Some NewThread) = is in cc)
thread-there (Some PageTableObject) is = absurd (let clash : ◌≡◌ {A = Option NewObject} (Some NewPageTable) (Some NewThread) = is in cc)
thread-there (Some RootTableObject) is = absurd (let clash : ◌≡◌ {A = Option NewObject} (Some NewRootTable) (Some NewThread) = is in cc)

-- ---- labels

count-behind : (thread count : ℕ) (labels : List Label) (label : Label)
    → fold count_open count (filter (is_of thread) (labels ++ label ∷ []))
    ≡ (if is_of thread label then count_open (fold count_open count (filter (is_of thread) labels)) label else
    fold count_open count (filter (is_of thread) labels))
count-behind thread count [] label = elim (is_of thread label)
    as (λ b. fold count_open count (if b then label ∷ [] else []) ≡ (if b then count_open count label else count)) [ true ↦ refl | false ↦ refl ]
count-behind thread count (x ∷ labels) label = elim (is_of thread x)
    as (λ b. fold count_open count (if b then x ∷ filter (is_of thread) (labels ++ label ∷ []) else filter (is_of thread) (labels ++ label ∷ []))
    ≡ (if is_of thread label then count_open (fold count_open count (if b then x ∷ filter (is_of thread) labels else filter (is_of thread) labels)) label else
    fold count_open count (if b then x ∷ filter (is_of thread) labels else filter (is_of thread) labels))) [
      | true ↦ count-behind thread (count_open count x) labels label
      | false ↦ count-behind thread count labels label
    ]

-- the label of another thread, or of none, does not count
pub other-label : (thread : ℕ) (labels : List Label) (label : Label) → is_of thread label ≡ false →
    open_count thread (labels ++ label ∷ []) ≡ open_count thread labels
unfolding open_count
other-label thread labels label other =
    count-behind thread 0 labels label
    ∙ ap (λ b. if b then count_open (fold count_open 0 (filter (is_of thread) labels)) label else fold count_open 0 (filter (is_of thread) labels)) other

pub own-label : (thread : ℕ) (labels : List Label) (label : Label) → is_of thread label ≡ true →
    open_count thread (labels ++ label ∷ []) ≡ count_open (open_count thread labels) label
unfolding open_count
own-label thread labels label own =
    count-behind thread 0 labels label
    ∙ ap (λ b. if b then count_open (fold count_open 0 (filter (is_of thread) labels)) label else fold count_open 0 (filter (is_of thread) labels)) own
