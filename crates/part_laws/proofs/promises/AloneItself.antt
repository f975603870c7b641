-- The image of a part alone, as an image whose threads are all of the part: it takes nothing, has the same lines, and what is the part's is the part's there.
use Rattle.std.proofs.Common.{ℕ, zero, suc, ◌≡◌, ◌∙◌, ◌==◌, ◌≤◌, ◌&&◌, ◌||◌, inl, inr, Bool, true, false, not, cond, if◌then◌else◌, List, [], ◌∷◌, filter}
use Rattle.std.proofs.Common.{Option, Some, None, refl, sym, ap, ap₂, arith}
use Rattle.std.specs.Prelude.{Contains, slice_get}
use Rattle.std.specs.List.{list_all, list_any}
use Rattle.std.specs.Option.{option_map_or}
use Rattle.std.proofs.lemmas.Bool.{and_parts, false≢true}
use Rattle.std.proofs.lemmas.Option.{none-some, same_Some}
use Rattle.model.specs.declared.labels.Label.{Label}
use Rattle.model.specs.Acceptance.Authority.{self_of}
use Rattle.model.specs.Acceptance.ThreadRules.{is_member, reached}
use Rattle.model.specs.Images.Described.{Numbered, numbered_threads}
use Rattle.model.specs.Images.Image.{Image, Thread}
use Rattle.model.specs.Images.Places.{offset_of}
use Rattle.model.specs.Kernel.Scheduling.{is_runnable}
use Rattle.model.specs.Kernel.Soundness.{runs_at}
use Rattle.model.specs.Kernel.State.{State, Object, ThreadObject, EndpointObject, NotificationObject, CNodeObject, FrameObject}
use Rattle.model.specs.Kernel.State.{PageTableObject, RootTableObject, ThreadState, as_thread}
use Rattle.model.specs.Shared.Lists.{times_in}
use Rattle.headline.specs.facts.Standing.{AllStand, IsControlBlock}
use Rattle.headline.specs.parts.Agreeing.{IsMemberOf}
use Rattle.headline.specs.parts.Given.{IsPoolAround}
use Rattle.headline.specs.parts.Parts.{Part, alone, is_in, is_line_of, is_thread_in, takes, takes_by, takes_nothing}
use Rattle.headline.proofs.Laws.{is-listed}
use Rattle.part_laws.specs.Agreeing.{IsOfPart, IsTaken, is_pool, is_taken, is_thread}
use Rattle.part_laws.proofs.changes.Members.{is-member}
use Rattle.part_laws.proofs.own_steps.AloneImages.{IsThere, alone-offset, alone-reached, there}
use Rattle.part_laws.proofs.promises.Waiting.{some-times}

-- ---- lists of which a part is left

any-passed : {A : Type 0} (p f g : A → Bool) → ((x : A) → f x ≡ g x) → (xs : List A)
    → list_any (λ x. p x && f x) (filter p xs) ≡ list_any (λ x. p x && g x) xs
any-passed p f g same [] = refl
any-passed p f g same (x ∷ xs) =
    let later = any-passed p f g same xs in
    elim (p x) as (λ b. p x ≡ b
    → list_any (λ y. p y && f y) (cond b (x ∷ filter p xs) (filter p xs)) ≡ (p x && g x || list_any (λ y. p y && g y) xs)) [
      | true ↦ λ _. ap₂ (λ (a rest : Bool). p x && a || rest) (same x) later
      | false ↦ λ is. later ∙ sym (ap (λ (b : Bool). b && g x || list_any (λ y. p y && g y) xs) is)
    ] refl

all-passed : {A : Type 0} (p test : A → Bool) → ((x : A) → p x ≡ true → test x ≡ true) → (xs : List A) → list_all test (filter p xs) ≡ true
all-passed p test passes [] = refl
all-passed p test passes (x ∷ xs) = elim (p x) as (λ b. p x ≡ b → list_all test (cond b (x ∷ filter p xs) (filter p xs)) ≡ true) [
  | true ↦ λ is. ap₂ (λ (a rest : Bool). a && rest) (passes x is) (all-passed p test passes xs)
  | false ↦ λ _. all-passed p test passes xs
] refl

in-front : {A : Type 0} (p : A → Bool) (y : A) (ys : List A) (k : ℕ) (x : A) → p y ≡ true
    → ((n : ℕ) → slice_get ys n ≡ Some x → p x ≡ true) → slice_get (y ∷ ys) k ≡ Some x → p x ≡ true
in-front p y ys zero x is later at = ap p (sym (same_Some y x at)) ∙ is
in-front p y ys (suc n) x is later at = later n at

passed-is : {A : Type 0} (p : A → Bool) (xs : List A) (k : ℕ) (x : A) → slice_get (filter p xs) k ≡ Some x → p x ≡ true
passed-is p [] k x at = absurd (none-some x at)
passed-is p (y ∷ ys) k x at = elim (p y) as (λ b. p y ≡ b → slice_get (cond b (y ∷ filter p ys) (filter p ys)) k ≡ Some x → p x ≡ true) [
  | true ↦ λ is among. in-front p y (filter p ys) k x is (λ n later. passed-is p ys n x later) among
  | false ↦ λ _ among. passed-is p ys k x among
] refl at

filter-all : (test : ℕ → Bool) (xs : List ℕ) → ((x : ℕ) → Contains xs x → test x ≡ true) → filter test xs ≡ xs
filter-all test [] passes = refl
filter-all test (x ∷ xs) passes =
    ap (λ b. cond b (x ∷ filter test xs) (filter test xs)) (passes x (0, omega arith, refl))
    ∙ ap (λ (rest : List ℕ). x ∷ rest)
    (filter-all test xs (λ y among. let inside = among.1 in passes y (suc among.0, omega (arith, inside), among.2)))

either-so : (a b c : Bool) → b ≡ true → (not a || b || c) ≡ true
either-so true b c is = ap (λ (x : Bool). x || c) is
either-so false b c is = refl

-- ---- the image of the part

module _ (image : Image) (part : Part) where
  abbrev single : Image
  single = alone image part

  takes-same : (t : Thread) (object : ℕ) → takes single t object ≡ takes image t object
  unfolding takes alone
  takes-same t object =
      ap (λ (cnodes : List ℕ). list_any (λ f. f.root == t.header.root && f.frame == object) image.frames
      || list_any (λ c. is_member c.cnode cnodes && (c.source == object && takes_by image c)) image.capabilities || t.header.buffer == object)
      (alone-reached image part t)

  pub line-same : (line : ℕ) → is_line_of single part line ≡ is_line_of image part line
  unfolding alone
  line-same line = λ i. list_any (λ e. e.line == line
      && any-passed (is_in part) (λ t. takes single t e.notification) (λ t. takes image t e.notification) (λ t. takes-same t e.notification) image.threads i)
      image.interrupts

  pub inside-same : (offset : ℕ) → is_thread_in single part offset ≡ is_thread_in image part offset
  unfolding alone offset_of
  inside-same offset = any-passed (is_in part) (λ t. self_of single t == offset) (λ t. self_of image t == offset) (λ t. refl) image.threads

  pub takes-none : takes_nothing single part ≡ true
  unfolding takes_nothing alone
  takes-none =
      all-passed (is_in part) _ (λ t own. all-passed (is_in part) _ (λ u here. either-so (is_in part t) (is_in part u) _ here) image.threads) image.threads

  -- its threads are all of the part
  all-inside : (v : Numbered) → Contains (numbered_threads single) v → is_in part v.thread ≡ true
  unfolding alone
  all-inside v listed =
      let at = is-listed single v listed in
      passed-is (is_in part) image.threads at.number v.thread at.listed

  pub block-inside : (offset : ℕ) → IsControlBlock single offset → is_thread_in image part offset ≡ true
  block-inside offset block =
      sym (inside-same offset) ∙ ap (is_thread_in single part) block.is
      ∙ is-member single part block.thread block.listed (all-inside block.thread block.listed)

  -- ---- what is the part's

  member-there : (u : Numbered) (member : IsMemberOf image part u) → IsMemberOf single part (IsThere.thread (there image part u member))
  member-there u member =
      let v = there image part u member in
      record { listed = v.listed; inside = ap (is_in part) v.same ∙ member.inside }

  taken-there : (object : ℕ) → IsTaken image part object → IsTaken single part object
  unfolding alone
  taken-there object taken =
      let v = there image part taken.thread taken.member in
      record {
        thread = v.thread;
        member = member-there taken.thread taken.member;
        inside = taken.inside;
        takes = takes-same v.thread.thread object ∙ ap (λ (t : Thread). takes image t object) v.same ∙ taken.takes;
      }

  pool-there : (t u : Thread) (offset : ℕ) → u ≡ t → IsPoolAround image t offset 1 → IsPoolAround single u offset 1
  unfolding alone offset_of
  pool-there t u offset same p = record {
    entry = p.entry;
    listed = record {
      listed = p.listed.listed;
      member =
          ap (is_member p.entry.cnode) (alone-reached image part u)
          ∙ ap (λ (w : Thread). is_member p.entry.cnode (reached image w)) same ∙ p.listed.member;
    };
    around = p.around;
  }

  pub of-single : (offset : ℕ) → IsOfPart image part offset → IsOfPart single part offset
  of-single offset (is_thread u member at) =
      let v = there image part u member in is_thread v.thread (member-there u member) (at ∙ sym v.block)
  of-single offset (is_taken object taken at) = is_taken object (taken-there object taken) (at ∙ sym (alone-offset image part object))
  of-single offset (is_pool u member p) =
      let v = there image part u member in
      is_pool v.thread (member-there u member) (pool-there u.thread v.thread.thread offset v.same p)

  -- ---- who is ready there

  module _ (t : State) (labels : List Label) (all : AllStand single t labels) where
    record RunsThere (x : ℕ) : Type 0 where
      pub own : ThreadState
      pub is : t.objects x ≡ Some (ThreadObject own)
      pub runs : is_runnable own.status ≡ true

    runs-there : (x priority : ℕ) → runs_at t x priority ≡ true → RunsThere x
    runs-there x priority runs = by (t.objects x) refl runs
      where
        by : (o : Option Object) → t.objects x ≡ o
            → option_map_or (λ (u : ThreadState). is_runnable u.status && u.priority == priority) (as_thread o) false ≡ true → RunsThere x
        by (Some (ThreadObject own)) is runs =
            record { own = own; is = is; runs = (and_parts (is_runnable own.status) (own.priority == priority) runs).0 }
        by None is none = absurd (false≢true none)
        by (Some (EndpointObject e)) is none = absurd (false≢true none)
        by (Some (NotificationObject n)) is none = absurd (false≢true none)
        by (Some (CNodeObject r)) is none = absurd (false≢true none)
        by (Some FrameObject) is none = absurd (false≢true none)
        by (Some PageTableObject) is none = absurd (false≢true none)
        by (Some RootTableObject) is none = absurd (false≢true none)

    pub runner-inside : (x : ℕ) (own : ThreadState) → t.objects x ≡ Some (ThreadObject own) → is_runnable own.status ≡ true
        → is_thread_in image part x ≡ true
    runner-inside x own is runs = elim (all.others x own is) [
      | inl rests ↦ absurd (false≢true (sym (ap is_runnable rests) ∙ runs))
      | inr block ↦ block-inside x block
    ]

    pub ready-inside : (priority : ℕ) → filter (is_thread_in image part) (t.ready priority) ≡ t.ready priority
    ready-inside priority = filter-all (is_thread_in image part) (t.ready priority) (λ x among.
        let r = runs-there x priority (listed-runs x (runs_at t x priority) (all.sound.threads.ready x priority) (some-times (t.ready priority) x among)) in
        runner-inside x r.own r.is r.runs)
      where
        listed-runs : (x : ℕ) (b : Bool) → times_in (t.ready priority) x ≡ (if b then 1 else 0) → 1 ≤ times_in (t.ready priority) x → b ≡ true
        listed-runs x true is least = refl
        listed-runs x false is least = absurd (omega (arith, is, least))
