-- Who runs has the greatest priority of all that may, and is a thread of the image.
use Rattle.std.proofs.Common.{ℕ, zero, suc, ◌≡◌, ◌∙◌, ◌==◌, ◌&&◌, ◌+◌, ◌<◌, ◌≤◌, inl, inr, Bool, true, false, if◌then◌else◌, List, [], ◌∷◌, Option, Some}
use Rattle.std.proofs.Common.{None, refl}
use Rattle.std.proofs.Common.{sym, ap, arith}
use Rattle.std.specs.Prelude.{Contains}
use Rattle.std.specs.Option.{option_map_or}
use Rattle.std.proofs.lemmas.Bool.{and_parts, eq-eqb, eqb-true, leb-true, le-leb}
use Rattle.model.specs.Shared.Lists.{times_in}
use Rattle.model.specs.declared.labels.Label.{Label}
use Rattle.model.specs.Acceptance.ThreadInvariants.{tcb_of}
use Rattle.model.specs.Images.Described.{Numbered, numbered_threads}
use Rattle.model.specs.Images.Image.{Image}
use Rattle.model.specs.Kernel.Scheduling.{current, first_below, head_of, is_runnable}
use Rattle.model.specs.Kernel.Soundness.{runs_at}
use Rattle.model.specs.Kernel.State.{State, Status, Inactive, Object, ThreadObject, EndpointObject, NotificationObject, CNodeObject, FrameObject}
use Rattle.model.specs.Kernel.State.{PageTableObject}
use Rattle.model.specs.Kernel.State.{RootTableObject, ThreadState, as_thread, thread_at}
use Rattle.headline.proofs.Laws.{at-place}
use Rattle.headline.specs.facts.Standing.{AllStand, IsControlBlock}
use Rattle.response.specs.Laws.{RunsOfLevel}
use Rattle.response.specs.Levels.{HasItsPriority, is_of_level}

-- ---- the first of the greatest priority

record IsFirst (ready : ℕ → List ℕ) (least : ℕ) (n : ℕ) : Type 0 where
  pub thread : ℕ
  pub priority : ℕ
  pub found : first_below n ready ≡ Some thread
  pub high : least ≤ priority
  pub small : priority < n
  pub head : head_of (ready priority) ≡ Some thread

head-some : (threads : List ℕ) (thread : ℕ) → 1 ≤ times_in threads thread → (first : ℕ) × (head_of threads ≡ Some first)
head-some [] thread counts = absurd (omega (arith, counts))
head-some (t ∷ rest) thread counts = (t, refl)

-- in a list of this priority somebody is: the first found is of that or of a greater one
first-high : (n : ℕ) (ready : ℕ → List ℕ) (priority first : ℕ) → priority < n → head_of (ready priority) ≡ Some first → IsFirst ready priority n
unfolding first_below
first-high zero ready priority first small head = absurd (omega (arith, small))
first-high (suc n) ready priority first small head = by-head (λ less. first-high n ready priority first less head) (head_of (ready n)) refl
  where
    here : (x : ℕ) → head_of (ready n) ≡ Some x → IsFirst ready priority (suc n)
    here x is = record {
      thread = x;
      priority = n;
      found = ap (λ (o : Option ℕ). option_map_or Some o (first_below n ready)) is;
      high = omega (arith, small);
      small = omega arith;
      head = is;
    }

    below : (priority < n → IsFirst ready priority n) → (priority ≡ n → ⊥) → head_of (ready n) ≡ None → IsFirst ready priority (suc n)
    below further apart none =
        let later = further (omega (arith, small, apart)) in
        record {
          thread = IsFirst.thread later;
          priority = IsFirst.priority later;
          found = ap (λ (o : Option ℕ). option_map_or Some o (first_below n ready)) none ∙ IsFirst.found later;
          high = IsFirst.high later;
          small = let less = IsFirst.small later in omega (arith, less);
          head = IsFirst.head later;
        }

    by-head : (priority < n → IsFirst ready priority n) → (o : Option ℕ) → head_of (ready n) ≡ o → IsFirst ready priority (suc n)
    by-head further (Some x) is = here x is
    by-head further None none = below further (λ same. absurd (let clash : ◌≡◌ {A = Option ℕ} None (Some first) = sym none
        ∙ ap (λ (p : ℕ). head_of (ready p)) (sym same) ∙ head in cc)) none

head-counts : (threads : List ℕ) (thread : ℕ) → head_of threads ≡ Some thread → 1 ≤ times_in threads thread
head-counts [] thread is = let e : None ≡ Some thread = is in absurd cc
head-counts (t ∷ rest) thread is =
    let same : t ≡ thread = cc in
    let more : times_in (t ∷ rest) thread ≡ times_in rest thread + 1 =
    ap (λ (b : Bool). if b then times_in rest thread + 1 else times_in rest thread) (eq-eqb t thread same) in
    omega (arith, more)

-- ---- who is in a list

record RunsAs (s : State) (thread priority : ℕ) : Type 0 where
  pub own : ThreadState
  pub is : s.objects thread ≡ Some (ThreadObject own)
  pub runs : is_runnable own.status ≡ true
  pub at : own.priority ≡ priority

not-one : 1 ≤ 0 → ⊥
not-one less = omega (arith, less)

runs-of : (s : State) (thread priority : ℕ) (o : Option Object) → s.objects thread ≡ o
    → 1 ≤ (if option_map_or (λ t. is_runnable t.status && t.priority == priority) (as_thread o) false then 1 else 0) → RunsAs s thread priority
runs-of s thread priority (Some (ThreadObject t)) is counts =
    elim (is_runnable t.status && t.priority == priority) as
    (λ b. is_runnable t.status && t.priority == priority ≡ b → 1 ≤ (if b then 1 else 0) → RunsAs s thread priority) [
      | true ↦ λ test one. let parts = and_parts (is_runnable t.status) (t.priority == priority) test in
          record { own = t; is = is; runs = parts.0; at = eqb-true t.priority priority parts.1 }
      | false ↦ λ test none. absurd (not-one none)
    ] refl counts
runs-of s thread priority None is counts = absurd (not-one counts)
runs-of s thread priority (Some (EndpointObject e)) is counts = absurd (not-one counts)
runs-of s thread priority (Some (NotificationObject n)) is counts = absurd (not-one counts)
runs-of s thread priority (Some (CNodeObject radix)) is counts = absurd (not-one counts)
runs-of s thread priority (Some FrameObject) is counts = absurd (not-one counts)
runs-of s thread priority (Some PageTableObject) is counts = absurd (not-one counts)
runs-of s thread priority (Some RootTableObject) is counts = absurd (not-one counts)

stopped-rests : (status : Status) → status ≡ Inactive → is_runnable status ≡ false
stopped-rests status is = ap is_runnable is

-- ---- the level

module _ (image : Image) (s : State) (labels : List Label) (all : AllStand image s labels)
    (ranks : (t : Numbered) → Contains (numbered_threads image) t → HasItsPriority image t s) (priority : ℕ) where
  of-thread : (thread at : ℕ) → current s ≡ Some thread → priority ≤ at → RunsAs s thread at → RunsOfLevel image priority s
  of-thread thread at now high as_ = elim (all.others thread (RunsAs.own as_) (RunsAs.is as_)) [
    | inl stopped ↦ absurd (let clash : false ≡ true = sym (stopped-rests (RunsAs.own as_).status stopped) ∙ RunsAs.runs as_ in cc)
    | inr block ↦ of-block block
  ]
    where
      of-block : IsControlBlock image thread → RunsOfLevel image priority s
      of-block block =
          let t = block.thread in
          let rank = ranks t block.listed in
          let there : s.objects thread ≡ Some (ThreadObject rank.own) = ap s.objects block.is ∙ rank.is in
          let same : rank.own ≡ RunsAs.own as_ = one-thread (s.objects thread) rank.own (RunsAs.own as_) there (RunsAs.is as_) in
          let is : t.thread.header.priority ≡ at = sym rank.priority ∙ ap (λ (u : ThreadState). u.priority) same ∙ RunsAs.at as_ in
          record {
            thread = t;
            listed = block.listed;
            level = le-leb priority t.thread.header.priority (omega (arith, high, is));
            runs = now ∙ ap (λ (n : ℕ). Some n) block.is;
          }
        where
          one-thread : (o : Option Object) (a b : ThreadState) → o ≡ Some (ThreadObject a) → o ≡ Some (ThreadObject b) → a ≡ b
          one-thread o a b first second =
              let both : Some (ThreadObject a) ≡ Some (ThreadObject b) = sym first ∙ second in
              let inside : ThreadObject a ≡ ThreadObject b = cc in cc

  pub level-runs : (t : Numbered) → Contains (numbered_threads image) t → is_of_level priority t ≡ true
      → is_runnable (thread_at s (tcb_of image t)).status ≡ true → RunsOfLevel image priority s
  level-runs t listed level may =
      let rank = ranks t listed in
      let tcb = tcb_of image t in
      let own = rank.own in
      let at = at-place s tcb own rank.is in
      let threads = all.sound.threads in
      let small : own.priority ≤ 255 = (threads.threads tcb own rank.is).priority in
      let test : runs_at s tcb own.priority ≡ true =
      ap (λ (o : Option Object). option_map_or (λ t. is_runnable t.status && t.priority == own.priority) (as_thread o) false) rank.is
      ∙ ap (λ (b : Bool). b && own.priority == own.priority) (sym (ap (λ (u : ThreadState). is_runnable u.status) at) ∙ may)
      ∙ eq-eqb own.priority own.priority refl in
      let law = threads.ready tcb own.priority in
      let one : ◌≡◌ {A = ℕ} (if runs_at s tcb own.priority then 1 else 0) 1 = ap (λ (b : Bool). if b then 1 else 0) test in
      let head = head-some (s.ready own.priority) tcb (omega (arith, law, one)) in
      let first = first-high 256 s.ready own.priority head.0 (omega (arith, small)) head.1 in
      let found = IsFirst.thread first in
      let counts = head-counts (s.ready (IsFirst.priority first)) found (IsFirst.head first) in
      let there = threads.ready found (IsFirst.priority first) in
      let high = IsFirst.high first in
      let mine = leb-true priority t.thread.header.priority level in
      let rank_is = rank.priority in
      of-thread found (IsFirst.priority first) (IsFirst.found first) (omega (arith, high, mine, rank_is))
      (runs-of s found (IsFirst.priority first) (s.objects found) refl (omega (arith, counts, there)))
