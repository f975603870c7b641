-- Who waits at what is the part's is of the part, and so is whom a thread of the part may answer.
use Rattle.std.proofs.Common.{ℕ, zero, suc, ◌≡◌, ◌∙◌, inl, inr, true, List, [], ◌∷◌, ◌++◌, map, Option, Some, None, refl, sym, ap, subst, arith}
use Rattle.std.specs.Prelude.{Contains}
use Rattle.std.specs.Option.{option_map_or}
use Rattle.model.specs.Acceptance.ThreadInvariants.{ThreadInvariant, runs as runs_so, waits as waits_so, tcb_of}
use Rattle.model.specs.Images.Described.{Numbered}
use Rattle.model.specs.Images.Image.{Image}
use Rattle.model.specs.Kernel.Soundness.{waiting_at}
use Rattle.model.specs.Kernel.State.{State, Inactive, Blocked, Object, ThreadObject, EndpointObject, NotificationObject, CNodeObject, FrameObject}
use Rattle.model.specs.Kernel.State.{PageTableObject, RootTableObject, EndpointState, Sender, ThreadState, as_endpoint, endpoint_at, new_endpoint, thread_at}
use Rattle.headline.specs.parts.Agreeing.{IsMemberOf, WaitInside}
use Rattle.headline.specs.parts.Parts.{Part, is_in, is_thread_in}
use Rattle.headline.proofs.Laws.{at-place}
use Rattle.part_laws.specs.Agreeing.{IsOfPart}
use Rattle.part_laws.specs.Both.{BothStand}
use Rattle.part_laws.proofs.changes.Members.{is-member}
use Rattle.part_laws.proofs.outside.Nothing.{decide, none-used, used-of}
use Rattle.part_laws.proofs.promises.Waiting.{in-queue}

-- ---- who is in the lists of an endpoint waits there

front-of : {A : Type 0} (xs ys : List A) (x : A) → Contains xs x → Contains (xs ++ ys) x
front-of [] ys x (n, less, at) = absurd (omega (arith, less))
front-of (y ∷ xs) ys x (zero, less, at) = (0, omega arith, at)
front-of (y ∷ xs) ys x (suc n, less, at) =
    let later = front-of xs ys x (n, omega (arith, less), at) in let inside = later.1 in (suc later.0, omega (arith, inside), later.2)

behind-of : {A : Type 0} (xs ys : List A) (x : A) → Contains ys x → Contains (xs ++ ys) x
behind-of [] ys x there = there
behind-of (y ∷ xs) ys x there = let later = behind-of xs ys x there in let inside = later.1 in (suc later.0, omega (arith, inside), later.2)

sender-among : (xs : List Sender) (x : Sender) → Contains xs x → Contains (map (λ (y : Sender). y.thread) xs) x.thread
sender-among [] x (n, less, at) = absurd (omega (arith, less))
sender-among (y ∷ xs) x (zero, less, at) = (0, omega arith, ap (λ (z : Sender). z.thread) at)
sender-among (y ∷ xs) x (suc n, less, at) =
    let later = sender-among xs x (n, omega (arith, less), at) in let inside = later.1 in (suc later.0, omega (arith, inside), later.2)

nobody : {A : Type 0} {Goal : Type 0} (x : A) → Contains [] x → Goal
nobody x (n, less, at) = absurd (omega (arith, less))

module _ (image : Image) (part : Part) (s t : State) (both : BothStand image part s t) where
  pub waiter-inside : (queue w : ℕ) → IsOfPart image part queue → Contains (waiting_at (s.objects queue)) w → is_thread_in image part w ≡ true
  waiter-inside queue w of there =
      let waits = in-queue s both.stand.sound queue w there in
      elim (both.stand.others w waits.own waits.is) [
        | inl rests ↦ absurd (let e : Inactive ≡ Blocked queue = sym rests ∙ waits.blocked in cc)
        | inr block ↦
            let inside : is_in part block.thread.thread ≡ true = decide (is_in part block.thread.thread) (λ isnt.
            none-used both.bytes image both.accepted part both.nothing block.thread block.listed isnt queue
            (both.queues.waits block.thread waits.own queue block.listed (ap s.objects (sym block.is) ∙ waits.is) waits.blocked) of) in
            ap (is_thread_in image part) block.is ∙ is-member image part block.thread block.listed inside
      ]

  pub waiters-inside : (offset : ℕ) → IsOfPart image part offset → WaitInside image part (endpoint_at s offset)
  waiters-inside offset of = by (s.objects offset) refl
    where
      by : (o : Option Object) → s.objects offset ≡ o → WaitInside image part (option_map_or (λ (e : EndpointState). e) (as_endpoint o) new_endpoint)
      by (Some (EndpointObject e)) is = record {
        receivers = λ r there.
            waiter-inside offset r of
            (subst (λ (o : Option Object). Contains (waiting_at o) r) (sym is) (behind-of (map (λ (y : Sender). y.thread) e.senders) e.receivers r there));
        senders = λ y there.
            waiter-inside offset y.thread of
            (subst (λ (o : Option Object). Contains (waiting_at o) y.thread) (sym is)
            (front-of (map (λ (z : Sender). z.thread) e.senders) e.receivers y.thread (sender-among e.senders y there)));
      }
      by None is = record { receivers = λ r there. nobody r there; senders = λ y there. nobody y there }
      by (Some (ThreadObject x)) is = record { receivers = λ r there. nobody r there; senders = λ y there. nobody y there }
      by (Some (NotificationObject x)) is = record { receivers = λ r there. nobody r there; senders = λ y there. nobody y there }
      by (Some (CNodeObject x)) is = record { receivers = λ r there. nobody r there; senders = λ y there. nobody y there }
      by (Some FrameObject) is = record { receivers = λ r there. nobody r there; senders = λ y there. nobody y there }
      by (Some PageTableObject) is = record { receivers = λ r there. nobody r there; senders = λ y there. nobody y there }
      by (Some RootTableObject) is = record { receivers = λ r there. nobody r there; senders = λ y there. nobody y there }

  pub caller-inside : (u : Numbered) → IsMemberOf image part u → (other : ℕ) → (thread_at s (tcb_of image u)).caller ≡ Some other
      → is_thread_in image part other ≡ true
  caller-inside u member other right = by (both.stand.stand u member.listed)
    where
      from : (own : ThreadState) → s.objects (tcb_of image u) ≡ Some (ThreadObject own) → is_thread_in image part other ≡ true
      from own is =
          let shares = both.queues.callers u own other member.listed is
          (ap (λ (o : ThreadState). o.caller) (sym (at-place s (tcb_of image u) own is)) ∙ right) in
          let w = shares.thread in
          let of = used-of both.bytes image both.accepted part both.nothing u member shares.queue shares.here in
          let inside : is_in part w.thread ≡ true = decide (is_in part w.thread) (λ isnt.
          none-used both.bytes image both.accepted part both.nothing w shares.listed isnt shares.queue shares.there of) in
          ap (is_thread_in image part) shares.is ∙ is-member image part w shares.listed inside

      by : ThreadInvariant image u s both.labels → is_thread_in image part other ≡ true
      by (runs_so own point state is status stands budget) = from own is
      by (waits_so own point state is waiting stands at none) = from own is
