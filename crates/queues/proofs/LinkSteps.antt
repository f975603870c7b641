-- What linking after the last one and taking out make of the links of all threads.
use Rattle.std.proofs.Common.{ℕ, ◌≡◌, ◌∙◌, ◌+◌, ◌-◌, ◌^◌, ◌<◌, ◌≤◌, Bool, true, if◌then◌else◌, Option, Some, None, List, length, sym, ap, subst, arith}
use Rattle.model.specs.Kernel.State.{put}
use Rattle.slots.specs.preorder.Chains.{put_at}
use Rattle.queues.specs.Words.{LinksIn, link_at, link_in, linked_last, links_in, somebody, taken_out, with_link, with_link_at, word_of}
use Rattle.queues.proofs.MemoryWrites.{AreInPlace, fits-word, links-next, links-next_at, links-owner, links-previous, links-previous_at, size-link}
use Rattle.queues.proofs.MemoryWrites.{size-link_at, somebody-back, somebody-there}

-- whoever is named is a thread
abbrev pub AreThreads : (ℕ → Bool) → Option ℕ → Type 0
AreThreads threads o = (x : ℕ) → o ≡ Some x → threads x ≡ true

fits-thread : (threads : ℕ → Bool) (size x : ℕ) → AreInPlace threads size → threads x ≡ true → x < 2 ^ 32 - 1
fits-thread threads size x places is = omega (arith, places.within x is, places.few)

pub back-word : (threads : ℕ → Bool) (size : ℕ) (o : Option ℕ) → AreInPlace threads size → AreThreads threads o → somebody (word_of o) ≡ o
back-word threads size o places are = somebody-back o (λ x is. fits-thread threads size x places (are x is))

near-named : (threads : ℕ → Bool) (size : ℕ) (o : Option ℕ) → AreInPlace threads size → AreThreads threads o → (x : ℕ) → o ≡ Some x → x + 512 ≤ size
near-named threads size o places are x is = places.within x (are x is)

module _ (base : ℕ) (threads : ℕ → Bool) (m : List ℕ) (places : AreInPlace threads (length m)) (thread : ℕ) (is : threads thread ≡ true)
    (most : base ≤ 256) where
  abbrev links : LinksIn
  links = links_in base threads m

  pub links-joined : (last : Option ℕ) (queue : ℕ) → AreThreads threads last → queue < 2 ^ 32 - 1
      → links_in base threads (linked_last base m last queue thread) ≡ record {
        owner = put links.owner thread (Some queue);
        next = put_at (put links.next thread None) last (Some thread);
        previous = put links.previous thread last;
      }
  links-joined last queue named fits =
      let one = with_link base m thread 0 (word_of (Some queue)) in
      let two = with_link base one thread 1 0 in
      let three = with_link base two thread 2 (word_of last) in
      let within = places.within thread is in
      let size = size-link base m thread 0 (word_of (Some queue)) within most (omega arith) in
      let size' = size-link base one thread 1 0 (omega (arith, within, size)) most (omega arith) ∙ size in
      let size'' = size-link base two thread 2 (word_of last) (omega (arith, within, size')) most (omega arith) ∙ size' in
      let owner = links-owner base threads m thread (word_of (Some queue)) places is most (fits-word (Some queue)) in
      let next = links-next base threads one thread 0 (subst (AreInPlace threads) (sym size) places) is most (omega arith) in
      let previous = links-previous base threads two thread (word_of last) (subst (AreInPlace threads) (sym size') places) is most (fits-word last) in
      let behind = links-next_at base threads three last (word_of (Some thread)) (subst (AreInPlace threads) (sym size'') places) named most
      (fits-word (Some thread)) in
      let back = back-word threads (length m) last places named in
      let own = somebody-there thread (fits-thread threads (length m) thread places is) in
      let named-queue = somebody-there queue fits in
      behind
      ∙ ap (λ (l : LinksIn). record l { next = put_at l.next last (somebody (word_of (Some thread))) })
      (previous
      ∙ ap (λ (l : LinksIn). record l { previous = put l.previous thread (somebody (word_of last)) })
      (next ∙ ap (λ (l : LinksIn). record l { next = put l.next thread (somebody 0) }) owner))
      ∙ (λ i. record {
        owner = put links.owner thread (named-queue i);
        next = put_at (put links.next thread None) last (own i);
        previous = put links.previous thread (back i);
      })

  -- a link that lies in the bytes of a thread
  pub link-there : (k : ℕ) → link_in base threads m k thread ≡ link_at base m thread k
  link-there k = ap (λ b. if b then link_at base m thread k else None) is

  pub links-out : AreThreads threads (link_at base m thread 1) → AreThreads threads (link_at base m thread 2)
      → links_in base threads (taken_out base m thread) ≡ record {
        owner = put links.owner thread None;
        next = put_at links.next (links.previous thread) (links.next thread);
        previous = put_at links.previous (links.next thread) (links.previous thread);
      }
  links-out named named' =
      let after = link_at base m thread 1 in
      let before = link_at base m thread 2 in
      let one = with_link base m thread 0 0 in
      let two = with_link_at base one before 1 (word_of after) in
      let within = places.within thread is in
      let size = size-link base m thread 0 0 within most (omega arith) in
      let places' = subst (AreInPlace threads) (sym size) places in
      let size' = size-link_at base one before 1 (word_of after) (near-named threads (length one) before places' named') most (omega arith) ∙ size in
      let owner = links-owner base threads m thread 0 places is most (omega arith) in
      let next = links-next_at base threads one before (word_of after) places' named' most (fits-word after) in
      let previous = links-previous_at base threads two after (word_of before) (subst (AreInPlace threads) (sym size') places) named most (fits-word before) in
      let back = back-word threads (length m) after places named in
      let back' = back-word threads (length m) before places named' in
      let same = sym (link-there 1) in
      let same' = sym (link-there 2) in
      previous
      ∙ ap (λ (l : LinksIn). record l { previous = put_at l.previous after (somebody (word_of before)) })
      (next ∙ ap (λ (l : LinksIn). record l { next = put_at l.next before (somebody (word_of after)) }) owner)
      ∙ (λ i. record {
        owner = put links.owner thread None;
        next = put_at links.next before (back i);
        previous = put_at links.previous after (back' i);
      })
      ∙ (λ i. record {
        owner = put links.owner thread None;
        next = put_at links.next (same' i) (same i);
        previous = put_at links.previous (same i) (same' i);
      })
