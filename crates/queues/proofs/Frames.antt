-- Which bytes writes of links and ends leave as they are.
use Rattle.std.proofs.Common.{ℕ, ◌≡◌, ◌∙◌, ◌+◌, ◌*◌, ◌<◌, ◌≤◌, inl, inr, Option, Some, None, List, length, slice_index, refl, arith}
use Rattle.std.proofs.lemmas.Bool.{cases_lt}
use Rattle.queues.specs.Queues.{IsHeadByte, IsLinkByte}
use Rattle.queues.specs.Words.{link_at, linked_last, taken_out, with_end, with_ends, with_link, with_link_at, word_of}
use Rattle.queues.specs.declared.words.Ends.{Ends}
use Rattle.queues.proofs.MemoryWrites.{byte-beside, size-link, size-link_at, size-word}

pub off-link : (base : ℕ) (m : List ℕ) (t k word place : ℕ) → t + 512 ≤ length m → base ≤ 256 → k < 3 → (IsLinkByte base t place → ⊥)
    → slice_index (with_link base m t k word) place ≡ slice_index m place
off-link base m t k word place within most few off =
    byte-beside m (t + (base + 4 * k)) word place (omega (arith, within, most, few))
    (elim (cases_lt place (t + (base + 4 * k))) [
      | inl less ↦ inl less
      | inr least ↦ elim (cases_lt place (t + (base + 4 * k) + 4)) [
        | inl under ↦ absurd (off (omega (arith, least), omega (arith, under, few)))
        | inr past ↦ inr past
      ]
    ])

pub off-link_at : (base : ℕ) (m : List ℕ) (at : Option ℕ) (k word place : ℕ) → ((t : ℕ) → at ≡ Some t → t + 512 ≤ length m) → base ≤ 256 → k < 3
    → ((t : ℕ) → at ≡ Some t → IsLinkByte base t place → ⊥) → slice_index (with_link_at base m at k word) place ≡ slice_index m place
off-link_at base m None k word place within most few off = refl
off-link_at base m (Some t) k word place within most few off = off-link base m t k word place (within t refl) most few (off t refl)

off-end : (m : List ℕ) (head k word place : ℕ) → head + 8 ≤ length m → k < 2 → (IsHeadByte head place → ⊥)
    → slice_index (with_end m head k word) place ≡ slice_index m place
off-end m head k word place within few off =
    byte-beside m (head + 4 * k) word place (omega (arith, within, few))
    (elim (cases_lt place (head + 4 * k)) [
      | inl less ↦ inl less
      | inr least ↦ elim (cases_lt place (head + 4 * k + 4)) [
        | inl under ↦ absurd (off (omega (arith, least), omega (arith, under, few)))
        | inr past ↦ inr past
      ]
    ])

pub size-ends : (m : List ℕ) (head : ℕ) (ends : Ends) → head + 8 ≤ length m → length (with_ends m head ends) ≡ length m
size-ends m head ends within =
    let one = with_end m head 0 (word_of ends.first) in
    let size = size-word m (head + 4 * 0) (word_of ends.first) (omega (arith, within)) in
    size-word one (head + 4 * 1) (word_of ends.last) (omega (arith, within, size)) ∙ size

pub off-ends : (m : List ℕ) (head : ℕ) (ends : Ends) (place : ℕ) → head + 8 ≤ length m → (IsHeadByte head place → ⊥)
    → slice_index (with_ends m head ends) place ≡ slice_index m place
off-ends m head ends place within off =
    let one = with_end m head 0 (word_of ends.first) in
    let size = size-word m (head + 4 * 0) (word_of ends.first) (omega (arith, within)) in
    off-end one head 1 (word_of ends.last) place (omega (arith, within, size)) (omega arith) off
    ∙ off-end m head 0 (word_of ends.first) place within (omega arith) off

pub size-last : (base : ℕ) (m : List ℕ) (last : Option ℕ) (queue thread : ℕ) → thread + 512 ≤ length m → ((t : ℕ) → last ≡ Some t → t + 512 ≤ length m) →
    base ≤ 256
    → length (linked_last base m last queue thread) ≡ length m
size-last base m last queue thread within behind most =
    let one = with_link base m thread 0 (word_of (Some queue)) in
    let two = with_link base one thread 1 0 in
    let three = with_link base two thread 2 (word_of last) in
    let size = size-link base m thread 0 (word_of (Some queue)) within most (omega arith) in
    let size' = size-link base one thread 1 0 (omega (arith, within, size)) most (omega arith) ∙ size in
    let size'' = size-link base two thread 2 (word_of last) (omega (arith, within, size')) most (omega arith) ∙ size' in
    size-link_at base three last 1 (word_of (Some thread)) (λ t is. omega (arith, behind t is, size'')) most (omega arith) ∙ size''

pub off-last : (base : ℕ) (m : List ℕ) (last : Option ℕ) (queue thread place : ℕ) → thread + 512 ≤ length m → ((t : ℕ) → last ≡ Some t → t + 512 ≤ length m) →
    base ≤ 256
    → (IsLinkByte base thread place → ⊥) → ((t : ℕ) → last ≡ Some t → IsLinkByte base t place → ⊥)
    → slice_index (linked_last base m last queue thread) place ≡ slice_index m place
off-last base m last queue thread place within behind most off off' =
    let one = with_link base m thread 0 (word_of (Some queue)) in
    let two = with_link base one thread 1 0 in
    let three = with_link base two thread 2 (word_of last) in
    let size = size-link base m thread 0 (word_of (Some queue)) within most (omega arith) in
    let size' = size-link base one thread 1 0 (omega (arith, within, size)) most (omega arith) ∙ size in
    let size'' = size-link base two thread 2 (word_of last) (omega (arith, within, size')) most (omega arith) ∙ size' in
    off-link_at base three last 1 (word_of (Some thread)) place (λ t is. omega (arith, behind t is, size'')) most (omega arith) off'
    ∙ off-link base two thread 2 (word_of last) place (omega (arith, within, size')) most (omega arith) off
    ∙ off-link base one thread 1 0 place (omega (arith, within, size)) most (omega arith) off
    ∙ off-link base m thread 0 (word_of (Some queue)) place within most (omega arith) off

pub size-out : (base : ℕ) (m : List ℕ) (thread : ℕ) → thread + 512 ≤ length m → ((t : ℕ) → link_at base m thread 1 ≡ Some t → t + 512 ≤ length m)
    → ((t : ℕ) → link_at base m thread 2 ≡ Some t → t + 512 ≤ length m) → base ≤ 256 → length (taken_out base m thread) ≡ length m
size-out base m thread within behind before most =
    let after = link_at base m thread 1 in
    let front = link_at base m thread 2 in
    let one = with_link base m thread 0 0 in
    let two = with_link_at base one front 1 (word_of after) in
    let size = size-link base m thread 0 0 within most (omega arith) in
    let size' = size-link_at base one front 1 (word_of after) (λ t is. omega (arith, before t is, size)) most (omega arith) ∙ size in
    size-link_at base two after 2 (word_of front) (λ t is. omega (arith, behind t is, size')) most (omega arith) ∙ size'

pub off-out : (base : ℕ) (m : List ℕ) (thread place : ℕ) → thread + 512 ≤ length m → ((t : ℕ) → link_at base m thread 1 ≡ Some t → t + 512 ≤ length m)
    → ((t : ℕ) → link_at base m thread 2 ≡ Some t → t + 512 ≤ length m) → base ≤ 256
    → (IsLinkByte base thread place → ⊥) → ((t : ℕ) → link_at base m thread 1 ≡ Some t → IsLinkByte base t place → ⊥)
    → ((t : ℕ) → link_at base m thread 2 ≡ Some t → IsLinkByte base t place → ⊥) → slice_index (taken_out base m thread) place ≡ slice_index m place
off-out base m thread place within behind before most off off' off'' =
    let after = link_at base m thread 1 in
    let front = link_at base m thread 2 in
    let one = with_link base m thread 0 0 in
    let two = with_link_at base one front 1 (word_of after) in
    let size = size-link base m thread 0 0 within most (omega arith) in
    let size' = size-link_at base one front 1 (word_of after) (λ t is. omega (arith, before t is, size)) most (omega arith) ∙ size in
    off-link_at base two after 2 (word_of front) place (λ t is. omega (arith, behind t is, size')) most (omega arith) off'
    ∙ off-link_at base one front 1 (word_of after) place (λ t is. omega (arith, before t is, size)) most (omega arith) off''
    ∙ off-link base m thread 0 0 place within most (omega arith) off
