-- The links of a thread in three words of its 512 bytes, and the first and the last thread of a queue. A word is one more than what it names; 0 is nobody.
use Rattle.std.specs.Prelude.{ℕ, ◌==◌, ◌+◌, ◌-◌, ◌*◌, ◌%◌, ◌^◌, Bool, Option, Some, None, List, if◌then◌else◌}
use Rattle.model.specs.Shared.Bytes.{word_at, word_bytes, written}
use Rattle.slots.specs.preorder.Chains.{Links}
use Rattle.queues.specs.declared.words.Ends.{Ends}
use Rattle.queues.specs.declared.words.LinkWords.{LinkWords}
use Rattle.queues.specs.declared.words.LinkWords.TheVariants as link_words

-- how far into a thread its links begin
abbrev pub base_of : LinkWords → ℕ
base_of link_words.Waiting = 244
base_of link_words.Ready = 256

abbrev pub somebody : ℕ → Option ℕ
somebody word = if word == 0 then None else Some (word - 1)

abbrev pub word_of : Option ℕ → ℕ
word_of None = 0
word_of (Some offset) = (offset + 1) % 2 ^ 32

-- word 0 is the queue that a thread is in, word 1 the next thread and word 2 the previous one
abbrev pub link_at : ℕ → List ℕ → ℕ → ℕ → Option ℕ
link_at base memory thread number = somebody (word_at memory (thread + (base + 4 * number)))

abbrev pub link_in : ℕ → (ℕ → Bool) → List ℕ → ℕ → ℕ → Option ℕ
link_in base threads memory number thread = if threads thread then link_at base memory thread number else None

-- what the links of all threads say
pub record LinksIn : Type 0 where
  pub owner : Links
  pub next : Links
  pub previous : Links

abbrev pub links_in : ℕ → (ℕ → Bool) → List ℕ → LinksIn
links_in base threads memory = record {
  owner = link_in base threads memory 0;
  next = link_in base threads memory 1;
  previous = link_in base threads memory 2;
}

-- word 0 is the first thread of a queue, and word 1 the last one
abbrev pub end_at : List ℕ → ℕ → ℕ → Option ℕ
end_at memory head number = somebody (word_at memory (head + 4 * number))

abbrev pub end_of : List ℕ → ℕ → Option ℕ → Option ℕ
end_of memory number None = None
end_of memory number (Some head) = end_at memory head number

abbrev pub end_in : (ℕ → Option ℕ) → List ℕ → ℕ → ℕ → Option ℕ
end_in heads memory number queue = end_of memory number (heads queue)

abbrev pub ends_at : List ℕ → ℕ → Ends
ends_at memory head = record { first = end_at memory head 0; last = end_at memory head 1 }

-- ---- what is written

abbrev pub with_link : ℕ → List ℕ → ℕ → ℕ → ℕ → List ℕ
with_link base memory thread number word = written memory (thread + (base + 4 * number)) (word_bytes word)

-- another link, if there is a thread
abbrev pub with_link_at : ℕ → List ℕ → Option ℕ → ℕ → ℕ → List ℕ
with_link_at base memory None number word = memory
with_link_at base memory (Some thread) number word = with_link base memory thread number word

abbrev pub with_end : List ℕ → ℕ → ℕ → ℕ → List ℕ
with_end memory head number word = written memory (head + 4 * number) (word_bytes word)

abbrev pub with_ends : List ℕ → ℕ → Ends → List ℕ
with_ends memory head ends = with_end (with_end memory head 0 (word_of ends.first)) head 1 (word_of ends.last)

-- a thread linked after the last one of a queue
abbrev pub linked_last : ℕ → List ℕ → Option ℕ → ℕ → ℕ → List ℕ
linked_last base memory last queue thread =
    with_link_at base (with_link base (with_link base (with_link base memory thread 0 (word_of (Some queue))) thread 1 0) thread 2 (word_of last)) last 1
    (word_of (Some thread))

-- a thread taken out from between two others
abbrev pub taken_between : ℕ → List ℕ → ℕ → Option ℕ → Option ℕ → List ℕ
taken_between base memory thread before after =
    with_link_at base (with_link_at base (with_link base memory thread 0 0) before 1 (word_of after)) after 2 (word_of before)

-- a thread taken out from between its neighbours
abbrev pub taken_out : ℕ → List ℕ → ℕ → List ℕ
taken_out base memory thread = taken_between base memory thread (link_at base memory thread 2) (link_at base memory thread 1)

-- a thread that is in no queue and is not ready
abbrev pub without_links : List ℕ → ℕ → List ℕ
without_links memory thread = with_link 256 (with_link 244 memory thread 0 0) thread 0 0
