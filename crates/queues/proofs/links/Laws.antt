-- The laws of this crate as lemmas, for crates above.
use Rattle.std.proofs.Common.{ℕ, ◌≡◌, ◌∙◌, ◌<◌, inl, inr, if◌then◌else◌, Some, None, sym, ap, subst}
use Rattle.std.proofs.lemmas.Bool.Decides.{eqb_tells}
use Rattle.queues.specs.links.Laws.{FirstIsDropped, LeavingTakesOut, NamedStandThere, NoOwnerNoQueue, OnlyOwnedCount, PushingJoins}
use Rattle.queues.specs.links.Threaded.{AreLinked, SameQueues, Threaded, left, listed, pushed}
use Rattle.queues.proofs.links.Chains.{put-off}
use Rattle.queues.proofs.links.Joining.{more, pushed-as}
use Rattle.queues.proofs.links.Leaving.{left-as, less}
use Rattle.queues.proofs.links.Keeping.{same-as}
use Rattle.queues.proofs.links.Listing.{dropped, first-named, found, last-named, linked-as, next-named, none-as, out-as, previous-named}
pub use Rattle.queues.proofs.links.Chains.{put-here, put-off, put_at-here, put_at-off}

near-pushed : (w : Threaded) (size queue thread : ℕ) → AreLinked w size → thread < size
    → (other x : ℕ) → (pushed w queue thread).owner x ≡ Some other → x < size
near-pushed w size queue thread known near other x is = elim (eqb_tells x thread) [
  | inl same ↦ subst (λ (t : ℕ). t < size) (sym same.1) near
  | inr off ↦ known.near other x (sym (put-off w.owner thread (Some queue) x off.1) ∙ is)
]

near-left : (w : Threaded) (size queue thread : ℕ) → AreLinked w size → (other x : ℕ) → (left w queue thread).owner x ≡ Some other → x < size
near-left w size queue thread known other x is = elim (eqb_tells x thread) [
  | inl same ↦ absurd (let clash : None ≡ Some other = sym (ap (λ b. if b then None else w.owner x) same.0) ∙ is in cc)
  | inr off ↦ known.near other x (sym (put-off w.owner thread None x off.1) ∙ is)
]

pub pushing : PushingJoins
pushing = record {
  linked = λ w size queue thread known none near.
      linked-as (pushed w queue thread) (more (listed w size) queue thread) size (pushed-as w (listed w size) queue thread known.queues none)
      (near-pushed w size queue thread known near);
  queues = λ w size queue thread known none near.
      found (pushed w queue thread) (more (listed w size) queue thread) size (pushed-as w (listed w size) queue thread known.queues none)
      (near-pushed w size queue thread known near);
}

pub leaving : LeavingTakesOut
leaving = record {
  linked = λ w size queue thread known is.
      linked-as (left w queue thread) (less (listed w size) thread) size (left-as w (listed w size) queue thread known.queues is)
      (near-left w size queue thread known);
  queues = λ w size queue thread known is.
      found (left w queue thread) (less (listed w size) thread) size (left-as w (listed w size) queue thread known.queues is)
      (near-left w size queue thread known);
}

pub unowned : NoOwnerNoQueue
unowned = record {
  out = λ w size thread known. out-as w (listed w size) thread known.queues;
  none = λ w size thread known. none-as w (listed w size) thread known.queues;
}

pub first_dropped : FirstIsDropped
first_dropped = λ w size queue thread known head. dropped w (listed w size) queue thread known.queues head

pub named_stand : NamedStandThere
named_stand = record {
  first = λ w size queue thread known is. first-named w (listed w size) queue thread known.queues is;
  last = λ w size queue thread known is. last-named w (listed w size) queue thread known.queues is;
  next = λ w size queue thread other known is named. next-named w (listed w size) queue thread other known.queues is named;
  previous = λ w size queue thread other known is named. previous-named w (listed w size) queue thread other known.queues is named;
}

near-same : (w v : Threaded) (size : ℕ) → AreLinked w size → SameQueues w v → (queue thread : ℕ) → v.owner thread ≡ Some queue → thread < size
near-same w v size known same queue thread is = known.near queue thread (sym (same.owner thread) ∙ is)

pub only_owned : OnlyOwnedCount
only_owned = record {
  linked = λ w v size known same. linked-as v (listed w size) size (same-as w v (listed w size) known.queues same) (near-same w v size known same);
  queues = λ w v size known same. found v (listed w size) size (same-as w v (listed w size) known.queues same) (near-same w v size known same);
}
