-- Where no thread is, links are well formed.
use Rattle.std.proofs.Common.{ℕ, suc, ◌≡◌, ◌∙◌, Some, None, [], sym, ap, subst, arith}
use Rattle.queues.specs.links.Threaded.{AreLinked, AreLinkedAs, Threaded, linked, listed}

pub nobody-linked : (w : Threaded) (size : ℕ) → ((thread : ℕ) → w.owner thread ≡ None) → ((queue : ℕ) → w.first queue ≡ None) →
    ((queue : ℕ) → w.last queue ≡ None)
    → AreLinked w size
nobody-linked w size free none none' =
    let empty : listed w size ≡ (λ queue. []) = λ i queue. ap (linked w.next (suc size)) (none queue) i in
    record {
      queues = subst (AreLinkedAs w) (sym empty) (record {
        chain = λ queue. tt;
        first = none;
        last = none';
        once = λ queue thread. omega arith;
        owned = λ queue thread there. absurd (omega (arith, there));
        stands = λ queue thread owned. absurd (let clash : None ≡ Some queue = sym (free thread) ∙ owned in cc);
      });
      near = λ queue thread owned. absurd (let clash : None ≡ Some queue = sym (free thread) ∙ owned in cc);
    }
