-- A thread is put after all others of a queue.
use Rattle.std.proofs.Common.{ℕ, ◌≡◌, ◌≢◌, ◌∙◌, ◌==◌, ◌+◌, ◌<◌, ◌≤◌, inl, inr, true, false, if◌then◌else◌, Option, Some, None, List, [], ◌∷◌, ◌++◌, sym, ap}
use Rattle.std.proofs.Common.{subst, arith}
use Rattle.std.proofs.lemmas.Bool.Decides.{eqb_tells}
use Rattle.std.proofs.lemmas.Bool.{eq-eqb}
use Rattle.model.specs.Capabilities.Orders.{first_of}
use Rattle.model.specs.Kernel.State.{put}
use Rattle.model.specs.Shared.Lists.{times_in}
use Rattle.model.proofs.Orders.{times-first}
use Rattle.slots.specs.preorder.Chains.{IsChain, put_at}
use Rattle.slots.proofs.Laws.{chain-same}
use Rattle.queues.specs.links.Threaded.{AreLinkedAs, Threaded, first_joined, last_or, pushed}
use Rattle.queues.proofs.links.Chains.{apart-in, chain-joined, first-joined, last-in, last-joined, put-off, put_at-off, times-joined, times-rest}
use Rattle.queues.proofs.links.Listing.{elsewhere, out-as}

-- the queues, of which one has another thread
abbrev pub more : (ℕ → List ℕ) → ℕ → ℕ → ℕ → List ℕ
more lists queue thread = put lists queue (lists queue ++ thread ∷ [])

-- how often a thread is in the new queue
joined-own : (lists : ℕ → List ℕ) (queue thread : ℕ) → times_in (lists queue) thread ≡ 0 → times_in (lists queue ++ thread ∷ []) thread ≡ 1
joined-own lists queue thread none =
    times-joined (lists queue) thread thread ∙ times-first thread (lists queue) ∙ ap (λ n. n + 1) none

joined-other : (lists : ℕ → List ℕ) (queue thread x : ℕ) → x ≢ thread → times_in (lists queue ++ thread ∷ []) x ≡ times_in (lists queue) x
joined-other lists queue thread x off =
    times-joined (lists queue) thread x ∙ times-rest thread (lists queue) x (λ same. off (sym same))

module _ (w : Threaded) (lists : ℕ → List ℕ) (queue thread : ℕ) (known : AreLinkedAs w lists) (none : w.owner thread ≡ None) where
  abbrev new : Threaded
  new = pushed w queue thread

  abbrev long : List ℕ
  long = lists queue ++ thread ∷ []

  absent : (other : ℕ) → times_in (lists other) thread ≡ 0
  absent other = out-as w lists thread known none other

  here-list : (other : ℕ) → (other == queue) ≡ true → more lists queue thread other ≡ long
  here-list other here = ap (λ b. if b then long else lists other) here

  off-list : (other : ℕ) → (other == queue) ≡ false → more lists queue thread other ≡ lists other
  off-list other off = ap (λ b. if b then long else lists other) off

  own-chain : IsChain new.next new.previous None long
  own-chain =
      subst (λ (l : Option ℕ). IsChain (put_at (put w.next thread None) l (Some thread)) (put w.previous thread l) None long) (sym (known.last queue))
      (chain-joined (lists queue) w.next w.previous None thread (known.chain queue) (known.once queue)
      (λ same. absurd (let clash : None ≡ Some thread = same in cc)) (absent queue))

  other-chain : (other : ℕ) → other ≢ queue → IsChain new.next new.previous None (lists other)
  other-chain other off =
      let fresh : (z : ℕ) → 0 < times_in (lists other) z → z ≢ thread = λ z is same. apart-in (lists other) thread z (absent other) is (sym same) in
      let away : (z : ℕ) → 0 < times_in (lists other) z → w.last queue ≢ Some z = λ z is same.
      absurd (let stands : 0 < times_in (lists queue) z = last-in (lists queue) z (sym (known.last queue) ∙ same) in
      omega (arith, is, elsewhere w lists queue z other known (known.owned queue z stands) off)) in
      chain-same (lists other) w.next w.previous new.next new.previous None (known.chain other)
      (λ z is. put_at-off (put w.next thread None) (w.last queue) (Some thread) z (away z is) ∙ put-off w.next thread None z (fresh z is))
      (λ z is. put-off w.previous thread (w.last queue) z (fresh z is))

  new-chain : (other : ℕ) → IsChain new.next new.previous None (more lists queue thread other)
  new-chain other = elim (eqb_tells other queue) [
    | inl here ↦ subst (IsChain new.next new.previous None) (sym (here-list other here.0)) own-chain
    | inr off ↦ subst (IsChain new.next new.previous None) (sym (off-list other off.0)) (other-chain other off.1)
  ]

  new-first : (other : ℕ) → new.first other ≡ first_of (more lists queue thread other)
  new-first other =
      let value = first_joined (w.first queue) thread in
      elim (eqb_tells other queue) [
        | inl here ↦
            ap (λ b. if b then value else w.first other) here.0 ∙ ap (λ f. first_joined f thread) (known.first queue)
            ∙ sym (first-joined (lists queue) thread) ∙ sym (ap first_of (here-list other here.0))
        | inr off ↦ ap (λ b. if b then value else w.first other) off.0 ∙ known.first other ∙ sym (ap first_of (off-list other off.0))
      ]

  new-last : (other : ℕ) → new.last other ≡ last_or None (more lists queue thread other)
  new-last other = elim (eqb_tells other queue) [
    | inl here ↦
        ap (λ b. if b then Some thread else w.last other) here.0 ∙ sym (last-joined (lists queue) None thread)
        ∙ sym (ap (last_or None) (here-list other here.0))
    | inr off ↦ ap (λ b. if b then Some thread else w.last other) off.0 ∙ known.last other ∙ sym (ap (last_or None) (off-list other off.0))
  ]

  new-once : (other x : ℕ) → times_in (more lists queue thread other) x ≤ 1
  new-once other x = elim (eqb_tells other queue) [
    | inl here ↦ elim (eqb_tells x thread) [
      | inl same ↦
          omega (arith, ap (λ l. times_in l x) (here-list other here.0), ap (times_in long) same.1, joined-own lists queue thread (absent queue))
      | inr apart ↦
          omega (arith, ap (λ l. times_in l x) (here-list other here.0), joined-other lists queue thread x apart.1, known.once queue x)
    ]
    | inr off ↦ omega (arith, ap (λ l. times_in l x) (off-list other off.0), known.once other x)
  ]

  new-owned : (other x : ℕ) → 0 < times_in (more lists queue thread other) x → new.owner x ≡ Some other
  new-owned other x is = elim (eqb_tells other queue) [
    | inl here ↦ elim (eqb_tells x thread) [
      | inl same ↦ ap (λ b. if b then Some queue else w.owner x) same.0 ∙ ap Some (sym here.1)
      | inr apart ↦
          put-off w.owner thread (Some queue) x apart.1
          ∙ known.owned queue x (omega (arith, is, ap (λ l. times_in l x) (here-list other here.0), joined-other lists queue thread x apart.1))
          ∙ ap Some (sym here.1)
    ]
    | inr off ↦
        let stands : 0 < times_in (lists other) x = omega (arith, is, ap (λ l. times_in l x) (off-list other off.0)) in
        put-off w.owner thread (Some queue) x (λ same. apart-in (lists other) thread x (absent other) stands (sym same)) ∙ known.owned other x stands
  ]

  new-stands : (other x : ℕ) → new.owner x ≡ Some other → 0 < times_in (more lists queue thread other) x
  new-stands other x is = elim (eqb_tells x thread) [
    | inl same ↦
        let e : Some queue ≡ Some other = sym (ap (λ b. if b then Some queue else w.owner x) same.0) ∙ is in
        let f : other ≡ queue = cc in
        omega (arith, ap (λ l. times_in l x) (here-list other (eq-eqb other queue f)), ap (times_in long) same.1, joined-own lists queue thread (absent queue))
    | inr apart ↦
        let stands : 0 < times_in (lists other) x = known.stands other x (sym (put-off w.owner thread (Some queue) x apart.1) ∙ is) in
        elim (eqb_tells other queue) [
          | inl here ↦
              omega (
                arith,
                stands,
                ap (λ o. times_in (lists o) x) here.1,
                ap (λ l. times_in l x) (here-list other here.0),
                joined-other lists queue thread x apart.1,
              )
          | inr off ↦ omega (arith, stands, ap (λ l. times_in l x) (off-list other off.0))
        ]
  ]

  pub pushed-as : AreLinkedAs new (more lists queue thread)
  pushed-as = record {
    chain = new-chain;
    first = new-first;
    last = new-last;
    once = new-once;
    owned = new-owned;
    stands = new-stands;
  }
