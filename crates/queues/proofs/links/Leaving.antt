-- A thread is taken out of its queue.
use Rattle.std.proofs.Common.{ℕ, ◌≡◌, ◌≢◌, ◌∙◌, ◌==◌, ◌<◌, ◌≤◌, inl, inr, if◌then◌else◌, not, Option, Some, None, List, refl, sym, ap, subst, arith}
use Rattle.std.proofs.lemmas.Bool.Decides.{eqb_tells}
use Rattle.std.proofs.lemmas.Bool.{eq-eqb, ne_eqb}
use Rattle.model.specs.Capabilities.Orders.{first_of}
use Rattle.model.specs.Shared.Lists.{times_in, without}
use Rattle.model.proofs.Orders.{times-filter, without-absent}
use Rattle.slots.specs.preorder.Chains.{IsChain}
use Rattle.slots.proofs.Laws.{IsIn, chain-same, chain-without, next-in, previous-in}
use Rattle.queues.specs.links.Threaded.{AreLinkedAs, Threaded, end_without, last_or, left}
use Rattle.queues.proofs.links.Chains.{first-without, last-without, put-off, put_at-off}
use Rattle.queues.proofs.links.Listing.{elsewhere}

-- the queues without a thread
abbrev pub less : (ℕ → List ℕ) → ℕ → ℕ → List ℕ
less lists thread queue = without thread (lists queue)

-- a thread is not in a list without it, and the others are in it as before
without-own : (thread : ℕ) (xs : List ℕ) → times_in (without thread xs) thread ≡ 0
without-own thread xs =
    times-filter (λ n. not (n == thread)) xs thread ∙ ap (λ b. if not b then times_in xs thread else 0) (eq-eqb thread thread refl)

without-other : (thread : ℕ) (xs : List ℕ) (x : ℕ) → x ≢ thread → times_in (without thread xs) x ≡ times_in xs x
without-other thread xs x off =
    times-filter (λ n. not (n == thread)) xs x ∙ ap (λ b. if not b then times_in xs x else 0) (ne_eqb x thread off)

module _ (w : Threaded) (lists : ℕ → List ℕ) (queue thread : ℕ) (known : AreLinkedAs w lists) (is : w.owner thread ≡ Some queue) where
  abbrev new : Threaded
  new = left w queue thread

  there : 0 < times_in (lists queue) thread
  there = known.stands queue thread is

  absent : (other : ℕ) → other ≢ queue → times_in (lists other) thread ≡ 0
  absent other off = elsewhere w lists queue thread other known is off

  -- a neighbour is in no other queue
  apart : (o : Option ℕ) (other z : ℕ) → IsIn (lists queue) o → other ≢ queue → 0 < times_in (lists other) z → o ≢ Some z
  apart o other z some off stands same =
      absurd (let e : some.slot ≡ z = (let e : Some some.slot ≡ Some z = sym some.is ∙ same in cc) in
      let own : 0 < times_in (lists queue) z = omega (arith, some.there, ap (times_in (lists queue)) e) in
      omega (arith, stands, elsewhere w lists queue z other known (known.owned queue z own) off))

  no-next : (other z : ℕ) → other ≢ queue → 0 < times_in (lists other) z → w.next thread ≢ Some z
  no-next other z off stands = elim (next-in (lists queue) w.next w.previous None thread (known.chain queue) there) [
    | inl none ↦ λ same. absurd (let clash : None ≡ Some z = sym none ∙ same in cc)
    | inr some ↦ apart (w.next thread) other z some off stands
  ]

  no-previous : (other z : ℕ) → other ≢ queue → 0 < times_in (lists other) z → w.previous thread ≢ Some z
  no-previous other z off stands = elim (previous-in (lists queue) w.next w.previous None thread (known.chain queue) there) [
    | inl none ↦ λ same. absurd (let clash : None ≡ Some z = sym none ∙ same in cc)
    | inr some ↦ apart (w.previous thread) other z some off stands
  ]

  own-chain : IsChain new.next new.previous None (without thread (lists queue))
  own-chain =
      chain-without (lists queue) w.next w.previous None thread (known.chain queue) (known.once queue)
      (λ b same. absurd (let clash : None ≡ Some b = same in cc)) there

  new-chain : (other : ℕ) → IsChain new.next new.previous None (less lists thread other)
  new-chain other = elim (eqb_tells other queue) [
    | inl here ↦ subst (λ (o : ℕ). IsChain new.next new.previous None (less lists thread o)) (sym here.1) own-chain
    | inr off ↦
        subst (IsChain new.next new.previous None) (sym (without-absent thread (lists other) (absent other off.1)))
        (chain-same (lists other) w.next w.previous new.next new.previous None (known.chain other)
        (λ z stands. put_at-off w.next (w.previous thread) (w.next thread) z (no-previous other z off.1 stands))
        (λ z stands. put_at-off w.previous (w.next thread) (w.previous thread) z (no-next other z off.1 stands)))
  ]

  new-first : (other : ℕ) → new.first other ≡ first_of (less lists thread other)
  new-first other =
      let value = end_without (w.previous thread) (w.next thread) (w.first queue) in
      elim (eqb_tells other queue) [
        | inl here ↦
            ap (λ b. if b then value else w.first other) here.0
            ∙ ap (end_without (w.previous thread) (w.next thread)) (known.first queue)
            ∙ sym (first-without (lists queue) w.next w.previous thread (known.chain queue) (known.once queue) there)
            ∙ ap (λ o. first_of (less lists thread o)) (sym here.1)
        | inr off ↦
            ap (λ b. if b then value else w.first other) off.0 ∙ known.first other
            ∙ ap first_of (sym (without-absent thread (lists other) (absent other off.1)))
      ]

  new-last : (other : ℕ) → new.last other ≡ last_or None (less lists thread other)
  new-last other =
      let value = end_without (w.next thread) (w.previous thread) (w.last queue) in
      elim (eqb_tells other queue) [
        | inl here ↦
            ap (λ b. if b then value else w.last other) here.0
            ∙ ap (end_without (w.next thread) (w.previous thread)) (known.last queue)
            ∙ sym (last-without (lists queue) w.next w.previous None thread (known.chain queue) (known.once queue) there)
            ∙ ap (λ o. last_or None (less lists thread o)) (sym here.1)
        | inr off ↦
            ap (λ b. if b then value else w.last other) off.0 ∙ known.last other
            ∙ ap (last_or None) (sym (without-absent thread (lists other) (absent other off.1)))
      ]

  new-once : (other x : ℕ) → times_in (less lists thread other) x ≤ 1
  new-once other x = elim (eqb_tells x thread) [
    | inl same ↦ omega (arith, ap (times_in (less lists thread other)) same.1, without-own thread (lists other))
    | inr off ↦ omega (arith, without-other thread (lists other) x off.1, known.once other x)
  ]

  new-owned : (other x : ℕ) → 0 < times_in (less lists thread other) x → new.owner x ≡ Some other
  new-owned other x stands = elim (eqb_tells x thread) [
    | inl same ↦ absurd (omega (arith, stands, ap (times_in (less lists thread other)) same.1, without-own thread (lists other)))
    | inr off ↦ put-off w.owner thread None x off.1 ∙ known.owned other x (omega (arith, stands, without-other thread (lists other) x off.1))
  ]

  new-stands : (other x : ℕ) → new.owner x ≡ Some other → 0 < times_in (less lists thread other) x
  new-stands other x named = elim (eqb_tells x thread) [
    | inl same ↦ absurd (let clash : None ≡ Some other = sym (ap (λ b. if b then None else w.owner x) same.0) ∙ named in cc)
    | inr off ↦ omega (arith, without-other thread (lists other) x off.1, known.stands other x (sym (put-off w.owner thread None x off.1) ∙ named))
  ]

  pub left-as : AreLinkedAs new (less lists thread)
  left-as = record {
    chain = new-chain;
    first = new-first;
    last = new-last;
    once = new-once;
    owned = new-owned;
    stands = new-stands;
  }
