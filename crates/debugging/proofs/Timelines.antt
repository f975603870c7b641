-- The events of a run, one after another.
use Rattle.std.proofs.Common.{◌≡◌, ◌∙◌, ℕ, zero, suc, ◌+◌, ◌-◌, ◌≤◌, ◌<◌, ◌⊎◌, inl, inr, refl, sym, ap, arith}
use Rattle.std.proofs.Common.{List, [], ◌∷◌, ◌++◌, drop, length, replicate, take, Result, Ok, Err, OnOk, OnErr}
use Rattle.std.specs.Prelude.{max, min}
use Rattle.std.specs.List.{insert}
use Rattle.std.proofs.lemmas.List.{append-nil, drop_all, take_all}
use Rattle.std.proofs.lemmas.Bool.{cases_lt}
use Rattle.model.specs.declared.boot_faults.BootFault.{BootFault}
use Rattle.model.specs.declared.events.Event.{Event}
use Rattle.model.specs.declared.events.Event.TheVariants.{Step}
use Rattle.model.specs.Kernel.State.{State}
use Rattle.model.specs.Kernel.Steps.{state_after, step}
use Rattle.debugging.specs.Runs.{going_on, next_of, timeline, with_next}

replicate-more : (n m : ℕ) (x : Event) → replicate (n + m) x ≡ replicate n x ++ replicate m x
replicate-more zero m x = let same : zero + m ≡ m = omega arith in ap (λ (k : ℕ). replicate k x) same
replicate-more (suc n) m x =
    let same : suc n + m ≡ suc (n + m) = omega arith in
    ap (λ (k : ℕ). replicate k x) same ∙ ap (λ (more : List Event). x ∷ more) (replicate-more n m x)

-- ---- states

after-none : (s : State) → state_after s [] ≡ s
unfolding state_after
after-none s = refl

after-snoc : (s : State) (events : List Event) (event : Event) → state_after s (events ++ event ∷ []) ≡ (step (state_after s events) event).0
unfolding state_after
after-snoc s [] event = refl
after-snoc s (first ∷ events) event = after-snoc (step s first).0 events event

-- ---- events

pub none-done : (events : List Event) → timeline events 0 ≡ []
unfolding timeline
none-done events = refl

pub one-more : (events : List Event) (n : ℕ) → timeline events (suc n) ≡ timeline events n ++ next_of events n ∷ []
unfolding timeline
one-more [] zero = refl
one-more [] (suc n) = ap (λ (more : List Event). Step ∷ more) (one-more [] n)
one-more (event ∷ events) zero = refl
one-more (event ∷ events) (suc n) = ap (λ (more : List Event). event ∷ more) (one-more events n)

timeline-length : (events : List Event) (n : ℕ) → length (timeline events n) ≡ n
unfolding timeline
timeline-length events zero = refl
timeline-length [] (suc n) = ap suc (timeline-length [] n)
timeline-length (event ∷ events) (suc n) = ap suc (timeline-length events n)

-- of what begins with so many events these are done
timeline-front : (front rest : List Event) (n : ℕ) → length front ≡ n → timeline (front ++ rest) n ≡ front
unfolding timeline
timeline-front [] rest zero is = refl
timeline-front [] rest (suc n) is = absurd (omega (arith, is))
timeline-front (event ∷ front) rest zero is = absurd (omega (arith, is))
timeline-front (event ∷ front) rest (suc n) is =
    let fewer : length front ≡ n = omega (arith, is) in ap (λ (more : List Event). event ∷ more) (timeline-front front rest n fewer)

timeline-inside : (events : List Event) (n : ℕ) → n ≤ length events → timeline events n ≡ take n events
unfolding timeline
timeline-inside [] zero within = refl
timeline-inside (event ∷ events) zero within = refl
timeline-inside [] (suc n) within = absurd (omega (arith, within))
timeline-inside (event ∷ events) (suc n) within =
    let fewer : n ≤ length events = omega (arith, within) in ap (λ (more : List Event). event ∷ more) (timeline-inside events n fewer)

steps-only : (n : ℕ) → timeline [] n ≡ replicate n Step
unfolding timeline
steps-only zero = refl
steps-only (suc n) = ap (λ (more : List Event). Step ∷ more) (steps-only n)

timeline-beyond : (events : List Event) (n k : ℕ) → n ≡ length events + k → timeline events n ≡ events ++ replicate k Step
unfolding timeline
timeline-beyond [] n k is = let same : n ≡ k = omega (arith, is) in steps-only n ∙ ap (λ (m : ℕ). replicate m Step) same
timeline-beyond (event ∷ events) zero k is = absurd (omega (arith, is))
timeline-beyond (event ∷ events) (suc n) k is =
    let fewer : n ≡ length events + k = omega (arith, is) in ap (λ (more : List Event). event ∷ more) (timeline-beyond events n k fewer)

-- ---- what is shown

pub shown-first : (booted : Result State BootFault) (events : List Event) (s : State) → booted ≡ Ok s → going_on booted (timeline events 0) ≡ Ok s
shown-first (Ok start) events s is =
    ap (λ (all : List Event). Ok (state_after start all)) (none-done events) ∙ ap Ok (after-none start) ∙ is
shown-first (Err fault) events s is = absurd (let clash : Err fault ≡ Ok s = is in cc)

pub shown-next : (booted : Result State BootFault) (events : List Event) (n : ℕ) (s t : State) → going_on booted (timeline events n) ≡ Ok s
    → t ≡ (step s (next_of events n)).0 → going_on booted (timeline events (n + 1)) ≡ Ok t
shown-next (Ok start) events n s t is goes =
    let next : n + 1 ≡ suc n = omega arith in
    let same : state_after start (timeline events n) ≡ s = let e : Ok (state_after start (timeline events n)) ≡ Ok s = is in cc in
    ap (λ (k : ℕ). Ok (state_after start (timeline events k))) next
    ∙ ap (λ (all : List Event). Ok (state_after start all)) (one-more events n)
    ∙ ap Ok (after-snoc start (timeline events n) (next_of events n) ∙ ap (λ (u : State). (step u (next_of events n)).0) same ∙ sym goes)
shown-next (Err fault) events n s t is goes = absurd (let clash : Err fault ≡ Ok s = is in cc)

pub shown-at : (booted : Result State BootFault) (events : List Event) (n : ℕ) (s t : State) → booted ≡ Ok s → t ≡ state_after s (timeline events n)
    → going_on booted (timeline events n) ≡ Ok t
shown-at booted events n s t is goes =
    ap (λ (b : Result State BootFault). going_on b (timeline events n)) is ∙ ap Ok (sym goes)

-- the state that is shown is one
pub shown-same : (shown : Result State BootFault) (s t : State) → shown ≡ Ok s → shown ≡ Ok t → s ≡ t
shown-same shown s t is also = let e : Ok s ≡ Ok t = sym is ∙ also in cc

-- ---- replay

pub replay-first : (s : State) (events : List Event) → s ≡ state_after s (timeline events 0)
replay-first s events = sym (ap (λ (all : List Event). state_after s all) (none-done events) ∙ after-none s)

pub replay-next : (start s t : State) (events : List Event) (n : ℕ) → s ≡ state_after start (timeline events n) → t ≡ (step s (next_of events n)).0
    → t ≡ state_after start (timeline events (n + 1))
replay-next start s t events n is goes =
    let next : n + 1 ≡ suc n = omega arith in
    sym (ap (λ (k : ℕ). state_after start (timeline events k)) next
    ∙ ap (λ (all : List Event). state_after start all) (one-more events n)
    ∙ after-snoc start (timeline events n) (next_of events n) ∙ ap (λ (u : State). (step u (next_of events n)).0) (sym is) ∙ sym goes)

after-more : (s : State) (events more : List Event) → state_after s (events ++ more) ≡ state_after (state_after s events) more
unfolding state_after
after-more s [] more = refl
after-more s (event ∷ events) more = after-more (step s event).0 events more

-- so many steps, and then so many
pub steps-split : (s t : State) (left made : ℕ) (event : Event) → made ≤ left → t ≡ state_after s (replicate made event)
    → state_after t (replicate (left - made) event) ≡ state_after s (replicate left event)
steps-split s t left made event within is =
    let all : left ≡ made + (left - made) = omega (arith, within) in
    ap (λ (u : State). state_after u (replicate (left - made) event)) is
    ∙ sym (after-more s (replicate made event) (replicate (left - made) event))
    ∙ ap (λ (all : List Event). state_after s all) (sym (replicate-more made (left - made) event))
    ∙ ap (λ (n : ℕ). state_after s (replicate n event)) (sym all)

pub no-steps : (s : State) (left : ℕ) (event : Event) → left ≡ 0 → state_after s (replicate left event) ≡ s
no-steps s left event is = ap (λ (n : ℕ). state_after s (replicate n event)) is ∙ after-none s

-- those that are given, and steps after them
timeline-more : (events : List Event) (given n : ℕ) → given ≡ min n (length events) → (n < length events) ⊎ (length events ≤ n)
    → timeline events n ≡ timeline events given ++ replicate (n - given) Step
timeline-more events given n is (inl inside) =
    let all : given ≡ n = omega (arith, is, inside) in
    let none : n - given ≡ 0 = omega (arith, all) in
    sym (ap (λ (k : ℕ). timeline events given ++ replicate k Step) none ∙ append-nil (timeline events given) ∙ ap (λ (k : ℕ). timeline events k) all)
timeline-more events given n is (inr beyond) =
    let all : given ≡ length events = omega (arith, is, beyond) in
    let more : n ≡ length events + (n - given) = omega (arith, all, beyond) in
    let within : given ≤ length events = omega (arith, all) in
    timeline-beyond events n (n - given) more
    ∙ ap (λ (front : List Event). front ++ replicate (n - given) Step)
    (sym (timeline-inside events given within ∙ take_all given events (omega (arith, all))))

pub replay-all : (start s t : State) (events : List Event) (given n : ℕ) → given ≡ min n (length events) → s ≡ state_after start (timeline events given)
    → t ≡ state_after s (replicate (n - given) Step) → t ≡ state_after start (timeline events n)
replay-all start s t events given n is before goes =
    goes ∙ ap (λ (u : State). state_after u (replicate (n - given) Step)) before
    ∙ sym (after-more start (timeline events given) (replicate (n - given) Step))
    ∙ ap (λ (all : List Event). state_after start all) (sym (timeline-more events given n is (cases_lt n (length events))))

-- ---- an event that is put into a run

take-front : (first rest : List Event) → take (length first) (first ++ rest) ≡ first
take-front [] rest = refl
take-front (event ∷ first) rest = ap (λ (more : List Event). event ∷ more) (take-front first rest)

-- the events that are done stay the same
pub shown-with : (booted : Result State BootFault) (events : List Event) (n : ℕ) (event : Event) (s : State)
    → going_on booted (timeline events n) ≡ Ok s → going_on booted (timeline (with_next events n event) n) ≡ Ok s
shown-with booted events n event s is =
    ap (λ (all : List Event). going_on booted all) (timeline-front (timeline events n) (event ∷ drop n events) n (timeline-length events n)) ∙ is

-- steps are filled in up to a place, and an event is inserted there
put-at : (events filled new : List Event) (n m : ℕ) (event : Event) → m ≡ max (length events) n
    → filled ≡ take m events ++ replicate (m - length events) Step → new ≡ insert filled n event → (n < length events) ⊎ (length events ≤ n)
    → new ≡ with_next events n event
put-at events filled new n m event is fills puts (inl inside) =
    let all : m ≡ length events = omega (arith, is, inside) in
    let none : m - length events ≡ 0 = omega (arith, all) in
    let whole : filled ≡ events =
    fills ∙ ap (λ (k : ℕ). take m events ++ replicate k Step) none ∙ append-nil (take m events) ∙ take_all m events (omega (arith, all)) in
    puts ∙ ap (λ (all : List Event). insert all n event) whole
    ∙ sym (ap (λ (front : List Event). front ++ event ∷ drop n events) (timeline-inside events n (omega (arith, inside))))
put-at events filled new n m event is fills puts (inr beyond) =
    let all : m ≡ n = omega (arith, is, beyond) in
    let more : n ≡ length events + (n - length events) = omega (arith, beyond) in
    let long : length (timeline events n) ≤ n = omega (arith, timeline-length events n) in
    let whole : filled ≡ timeline events n =
    fills ∙ ap (λ (k : ℕ). take k events ++ replicate (k - length events) Step) all
    ∙ ap (λ (front : List Event). front ++ replicate (n - length events) Step) (take_all n events beyond)
    ∙ sym (timeline-beyond events n (n - length events) more) in
    puts ∙ ap (λ (all : List Event). insert all n event) whole
    ∙ ap (λ (front : List Event). front ++ event ∷ drop n (timeline events n)) (take_all n (timeline events n) long)
    ∙ ap (λ (rest : List Event). timeline events n ++ event ∷ rest) (drop_all n (timeline events n) long ∙ sym (drop_all n events beyond))

pub put-next : (events filled new : List Event) (n m : ℕ) (event : Event) → m ≡ max (length events) n
    → filled ≡ take m events ++ replicate (m - length events) Step → new ≡ insert filled n event → new ≡ with_next events n event
put-next events filled new n m event is fills puts = put-at events filled new n m event is fills puts (cases_lt n (length events))

-- what was filled in is cut off again
pub cut-back : (events filled cut : List Event) (m : ℕ) → length events ≤ m → filled ≡ take m events ++ replicate (m - length events) Step
    → cut ≡ take (length events) filled → cut ≡ events
cut-back events filled cut m within fills cuts =
    cuts
    ∙ ap (λ (all : List Event). take (length events) all)
    (fills ∙ ap (λ (front : List Event). front ++ replicate (m - length events) Step) (take_all m events within))
    ∙ take-front events (replicate (m - length events) Step)

-- an event is put, or none is
pub shown-put : {A B : Type 0} (booted : Result State BootFault) (old new : List Event) (n : ℕ) (event : Event) (s : State) (put : Result A B)
    → OnOk put (new ≡ with_next old n event) → OnErr put (new ≡ old) → going_on booted (timeline old n) ≡ Ok s → going_on booted (timeline new n) ≡ Ok s
shown-put booted old new n event s (Ok _) puts stays is =
    ap (λ (all : List Event). going_on booted (timeline all n)) puts ∙ shown-with booted old n event s is
shown-put booted old new n event s (Err _) puts stays is = ap (λ (all : List Event). going_on booted (timeline all n)) stays ∙ is
