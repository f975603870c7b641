-- Links that say the same of those who are in queues.
use Rattle.std.proofs.Common.{ℕ, ◌∙◌, None, List, sym}
use Rattle.slots.proofs.Laws.{chain-same}
use Rattle.queues.specs.links.Threaded.{AreLinkedAs, SameQueues, Threaded}

pub same-as : (w v : Threaded) (lists : ℕ → List ℕ) → AreLinkedAs w lists → SameQueues w v → AreLinkedAs v lists
same-as w v lists known same = record {
  chain = λ queue.
      chain-same (lists queue) w.next w.previous v.next v.previous None (known.chain queue)
      (λ z is. same.next queue z (known.owned queue z is)) (λ z is. same.previous queue z (known.owned queue z is));
  first = λ queue. same.first queue ∙ known.first queue;
  last = λ queue. same.last queue ∙ known.last queue;
  once = known.once;
  owned = λ queue thread is. same.owner thread ∙ known.owned queue thread is;
  stands = λ queue thread is. known.stands queue thread (sym (same.owner thread) ∙ is);
}
