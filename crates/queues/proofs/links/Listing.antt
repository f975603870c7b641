-- The queues that links lead through are those of which they speak.
use Rattle.std.proofs.Common.{ℕ, zero, suc, ◌≡◌, ◌≢◌, ◌∙◌, ◌<◌, ◌≤◌, inl, inr, if◌then◌else◌, Option, Some, None, List, [], ◌∷◌, drop, length, refl, sym, ap}
use Rattle.std.proofs.Common.{subst, arith}
use Rattle.std.proofs.lemmas.Bool.Decides.{eqb_tells}
use Rattle.std.proofs.lemmas.Bool.{cases_lt}
use Rattle.model.specs.Capabilities.Orders.{first_of}
use Rattle.model.specs.Kernel.Scheduling.{head_of}
use Rattle.model.specs.Kernel.State.{put}
use Rattle.model.specs.Shared.Lists.{times_in, without}
use Rattle.model.proofs.Orders.{times-first, without-absent, without-first}
use Rattle.slots.specs.preorder.Chains.{IsChain, Links}
use Rattle.slots.specs.preorder.Preorder.{Row, rows_of, slots_of}
use Rattle.slots.proofs.Laws.{IsIn, few-rows, next-in, previous-in}
use Rattle.queues.proofs.links.Chains.{last-in}
use Rattle.queues.specs.links.Threaded.{AreLinked, AreLinkedAs, Threaded, linked, listed}

linked-list : (xs : List ℕ) (next previous : Links) (before : Option ℕ) (n : ℕ) → IsChain next previous before xs → length xs ≤ n →
    linked next n (first_of xs) ≡ xs
linked-list [] next previous before zero chain few = refl
linked-list [] next previous before (suc n) chain few = refl
linked-list (x ∷ rest) next previous before zero chain few = absurd (omega (arith, few))
linked-list (x ∷ rest) next previous before (suc n) chain few =
    ap (λ l. x ∷ l) (ap (linked next n) chain.1 ∙ linked-list rest next previous (Some x) n chain.2 (omega (arith, few)))

-- distinct numbers below another are at most as many
abbrev as_rows : List ℕ → List Row
as_rows [] = []
as_rows (x ∷ rest) = (record { slot = x; depth = 0 }) ∷ as_rows rest

slots-rows : (xs : List ℕ) → slots_of (as_rows xs) ≡ xs
slots-rows [] = refl
slots-rows (x ∷ rest) = ap (λ l. x ∷ l) (slots-rows rest)

length-rows : (xs : List ℕ) → length (as_rows xs) ≡ length xs
length-rows [] = refl
length-rows (x ∷ rest) = ap suc (length-rows rest)

few : (xs : List ℕ) (n : ℕ) → ((x : ℕ) → times_in xs x ≤ 1) → ((x : ℕ) → 0 < times_in xs x → x < n) → length xs ≤ n
few xs n once near =
    let same : (x : ℕ) → rows_of (as_rows xs) x ≡ times_in xs x = λ x. ap (λ l. times_in l x) (slots-rows xs) in
    omega (arith, length-rows xs, few-rows (as_rows xs) n (λ x. omega (arith, once x, same x)) (λ x is. near x (omega (arith, is, same x))))

pub found : (w : Threaded) (lists : ℕ → List ℕ) (n : ℕ) → AreLinkedAs w lists → ((queue thread : ℕ) → w.owner thread ≡ Some queue → thread < n)
    → (queue : ℕ) → listed w n queue ≡ lists queue
found w lists n known near queue =
    ap (linked w.next (suc n)) (known.first queue)
    ∙ linked-list (lists queue) w.next w.previous None (suc n) (known.chain queue)
    (omega (arith, few (lists queue) n (known.once queue) (λ t is. near queue t (known.owned queue t is))))

pub linked-as : (w : Threaded) (lists : ℕ → List ℕ) (n : ℕ) → AreLinkedAs w lists → ((queue thread : ℕ) → w.owner thread ≡ Some queue → thread < n) →
    AreLinked w n
linked-as w lists n known near =
    let path : listed w n ≡ lists = λ i queue. found w lists n known near queue i in
    record { queues = subst (AreLinkedAs w) (sym path) known; near = near }

-- ---- who is in no queue

pub out-as : (w : Threaded) (lists : ℕ → List ℕ) (thread : ℕ) → AreLinkedAs w lists → w.owner thread ≡ None → (other : ℕ) → times_in (lists other) thread ≡ 0
out-as w lists thread known none other = elim (cases_lt 0 (times_in (lists other) thread)) [
  | inl some ↦ absurd (let clash : None ≡ Some other = sym none ∙ known.owned other thread some in cc)
  | inr least ↦ omega (arith, least)
]

pub none-as : (w : Threaded) (lists : ℕ → List ℕ) (thread : ℕ) → AreLinkedAs w lists → ((other : ℕ) → times_in (lists other) thread ≡ 0) → w.owner thread ≡ None
none-as w lists thread known out =
    elim (w.owner thread) as (λ o. w.owner thread ≡ o → o ≡ None) [
      | None ↦ λ is. refl
      | Some queue ↦ λ is. absurd (omega (arith, out queue, known.stands queue thread is))
    ] refl

-- a thread that is in one queue is in no other
pub elsewhere : (w : Threaded) (lists : ℕ → List ℕ) (queue thread other : ℕ) → AreLinkedAs w lists → w.owner thread ≡ Some queue → other ≢ queue →
    times_in (lists other) thread ≡ 0
elsewhere w lists queue thread other known is off = elim (cases_lt 0 (times_in (lists other) thread)) [
  | inl some ↦ absurd (let e : Some queue ≡ Some other = sym is ∙ known.owned other thread some in let f : other ≡ queue = cc in off f)
  | inr least ↦ omega (arith, least)
]

drop-first : (xs : List ℕ) (thread : ℕ) → ((x : ℕ) → times_in xs x ≤ 1) → head_of xs ≡ Some thread → without thread xs ≡ drop 1 xs
drop-first [] thread once head = refl
drop-first (x ∷ rest) thread once head =
    let same : x ≡ thread = cc in
    ap (λ t. without t (x ∷ rest)) (sym same) ∙ without-first x rest ∙ without-absent x rest (omega (arith, once x, times-first x rest))

head-in : (xs : List ℕ) (thread : ℕ) → head_of xs ≡ Some thread → 0 < times_in xs thread
head-in [] thread head = absurd (let clash : None ≡ Some thread = head in cc)
head-in (x ∷ rest) thread head = let same : x ≡ thread = cc in omega (arith, times-first x rest, ap (times_in (x ∷ rest)) same)

pub dropped : (w : Threaded) (lists : ℕ → List ℕ) (queue thread : ℕ) → AreLinkedAs w lists → head_of (lists queue) ≡ Some thread
    → (other : ℕ) → without thread (lists other) ≡ put lists queue (drop 1 (lists queue)) other
dropped w lists queue thread known head other = elim (eqb_tells other queue) [
  | inl here ↦
      ap (λ o. without thread (lists o)) here.1 ∙ drop-first (lists queue) thread (known.once queue) head
      ∙ sym (ap (λ b. if b then drop 1 (lists queue) else lists other) here.0)
  | inr off ↦
      without-absent thread (lists other) (elsewhere w lists queue thread other known (known.owned queue thread (head-in (lists queue) thread head)) off.1)
      ∙ sym (ap (λ b. if b then drop 1 (lists queue) else lists other) off.0)
]

-- ---- who is named

first-stands : (xs : List ℕ) (thread : ℕ) → first_of xs ≡ Some thread → 0 < times_in xs thread
first-stands [] thread is = absurd (let clash : None ≡ Some thread = is in cc)
first-stands (x ∷ rest) thread is = let same : x ≡ thread = cc in omega (arith, times-first x rest, ap (times_in (x ∷ rest)) same)

pub first-named : (w : Threaded) (lists : ℕ → List ℕ) (queue thread : ℕ) → AreLinkedAs w lists → w.first queue ≡ Some thread → w.owner thread ≡ Some queue
first-named w lists queue thread known is = known.owned queue thread (first-stands (lists queue) thread (sym (known.first queue) ∙ is))

pub last-named : (w : Threaded) (lists : ℕ → List ℕ) (queue thread : ℕ) → AreLinkedAs w lists → w.last queue ≡ Some thread → w.owner thread ≡ Some queue
last-named w lists queue thread known is = known.owned queue thread (last-in (lists queue) thread (sym (known.last queue) ∙ is))

in-stands : (xs : List ℕ) (o : Option ℕ) (other : ℕ) → IsIn xs o → o ≡ Some other → 0 < times_in xs other
in-stands xs o other some is =
    let e : Some some.slot ≡ Some other = sym some.is ∙ is in
    let f : some.slot ≡ other = cc in
    omega (arith, some.there, ap (times_in xs) f)

pub next-named : (w : Threaded) (lists : ℕ → List ℕ) (queue thread other : ℕ) → AreLinkedAs w lists → w.owner thread ≡ Some queue → w.next thread ≡ Some other
    → w.owner other ≡ Some queue
next-named w lists queue thread other known is named =
    elim (next-in (lists queue) w.next w.previous None thread (known.chain queue) (known.stands queue thread is)) [
      | inl none ↦ absurd (let clash : None ≡ Some other = sym none ∙ named in cc)
      | inr some ↦ known.owned queue other (in-stands (lists queue) (w.next thread) other some named)
    ]

pub previous-named : (w : Threaded) (lists : ℕ → List ℕ) (queue thread other : ℕ) → AreLinkedAs w lists → w.owner thread ≡ Some queue →
    w.previous thread ≡ Some other
    → w.owner other ≡ Some queue
previous-named w lists queue thread other known is named =
    elim (previous-in (lists queue) w.next w.previous None thread (known.chain queue) (known.stands queue thread is)) [
      | inl none ↦ absurd (let clash : None ≡ Some other = sym none ∙ named in cc)
      | inr some ↦ known.owned queue other (in-stands (lists queue) (w.previous thread) other some named)
    ]
