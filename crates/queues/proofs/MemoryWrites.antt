-- What writes make of the links of all threads, and of the ends of all queues.
use Rattle.std.proofs.Common.{ℕ, ◌≡◌, ◌≢◌, ◌∙◌, ◌+◌, ◌-◌, ◌*◌, ◌%◌, ◌^◌, ◌<◌, ◌≤◌, ◌⊎◌, inl, inr, Bool, true, false, if◌then◌else◌, Option, Some, None, List}
use Rattle.std.proofs.Common.{length, slice_index, refl, sym, ap, arith}
use Rattle.std.proofs.lemmas.Bool.Decides.{eqb_tells}
use Rattle.std.proofs.lemmas.Bool.{cases_lt, ne_eqb}
use Rattle.model.proofs.BytesLemmas.{length-written, slice_index-written_before, slice_index-written_behind, word_at-same, word_at-written}
use Rattle.model.proofs.BytesLemmas.{word_at-written_before, word_at-written_behind}
use Rattle.model.specs.Kernel.State.{put}
use Rattle.model.specs.Shared.Bytes.{word_at, word_bytes, written}
use Rattle.slots.specs.preorder.Chains.{put_at}
use Rattle.queues.proofs.links.Laws.{put-off}
use Rattle.queues.specs.Words.{end_in, end_of, link_at, link_in, links_in, somebody, with_link, with_link_at, word_of}

-- ---- one word

pub word-beside : (m : List ℕ) (at word place : ℕ) → at + 4 ≤ length m → (place + 4 ≤ at) ⊎ (at + 4 ≤ place) →
    word_at (written m at (word_bytes word)) place ≡ word_at m place
word-beside m at word place inside apart = elim apart [
  | inl before ↦ word_at-written_before m at (word_bytes word) place (omega (arith, inside)) before
  | inr behind ↦ word_at-written_behind m at (word_bytes word) place (omega (arith, inside)) (omega (arith, behind))
]

pub size-word : (m : List ℕ) (at word : ℕ) → at + 4 ≤ length m → length (written m at (word_bytes word)) ≡ length m
size-word m at word inside = length-written m at (word_bytes word) (omega (arith, inside))

pub byte-beside : (m : List ℕ) (at word place : ℕ) → at + 4 ≤ length m → (place < at) ⊎ (at + 4 ≤ place) →
    slice_index (written m at (word_bytes word)) place ≡ slice_index m place
byte-beside m at word place inside apart = elim apart [
  | inl before ↦ slice_index-written_before m at (word_bytes word) place (omega (arith, inside)) before
  | inr behind ↦ slice_index-written_behind m at (word_bytes word) place (omega (arith, inside)) (omega (arith, behind))
]

pub somebody-there : (x : ℕ) → x < 2 ^ 32 - 1 → somebody (word_of (Some x)) ≡ Some x
somebody-there x few =
    let same : (x + 1) % 2 ^ 32 ≡ x + 1 = omega (arith, few) in
    ap somebody same
    ∙ ap (λ b. if b then None else Some (x + 1 - 1)) (ne_eqb (x + 1) 0 (λ same. absurd (omega (arith, same))))
    ∙ ap Some (omega arith)

pub somebody-back : (o : Option ℕ) → ((x : ℕ) → o ≡ Some x → x < 2 ^ 32 - 1) → somebody (word_of o) ≡ o
somebody-back None few = refl
somebody-back (Some x) few = somebody-there x (few x refl)

pub fits-word : (o : Option ℕ) → word_of o < 2 ^ 32
fits-word None = omega arith
fits-word (Some x) = omega arith

-- ---- the links of threads

-- threads lie in memory of this size, each at a multiple of its own
pub record AreInPlace (threads : ℕ → Bool) (size : ℕ) : Type 0 where
  pub few : size ≤ 2 ^ 24
  pub aligned : (thread : ℕ) → threads thread ≡ true → thread % 512 ≡ 0
  pub within : (thread : ℕ) → threads thread ≡ true → thread + 512 ≤ size

pub link-same : (base : ℕ) (threads : ℕ → Bool) (old new : List ℕ) (k x : ℕ)
    → (threads x ≡ true → word_at new (x + (base + 4 * k)) ≡ word_at old (x + (base + 4 * k))) → link_in base threads new k x ≡ link_in base threads old k x
link-same base threads old new k x same =
    elim (threads x) as (λ b. threads x ≡ b → (if b then link_at base new x k else None) ≡ (if b then link_at base old x k else None)) [
      | true ↦ λ is. ap somebody (same is)
      | false ↦ λ is. refl
    ] refl

apart-words : (base x t j k : ℕ) → x % 512 ≡ 0 → t % 512 ≡ 0 → base ≤ 256 → j < 3 → k < 3 → (x ≢ t) ⊎ (j ≢ k)
    → (x + (base + 4 * j) + 4 ≤ t + (base + 4 * k)) ⊎ (t + (base + 4 * k) + 4 ≤ x + (base + 4 * j))
apart-words base x t j k own other most few few' apart = elim (eqb_tells x t) [
  | inl here ↦ elim apart [
    | inl off ↦ absurd (off here.1)
    | inr off ↦ elim (cases_lt x t) [
      | inl less ↦ absurd (omega (arith, less, here.1))
      | inr least ↦ elim (cases_lt j k) [ inl less ↦ inl (omega (arith, less, here.1)) | inr least ↦ inr (omega (arith, least, off, here.1)) ]
    ]
  ]
  | inr off ↦ elim (cases_lt x t) [
    | inl less ↦ inl (omega (arith, less, own, other, few, few'))
    | inr least ↦ inr (omega (arith, least, off.1, own, other, few, few'))
  ]
]

pub link-own : (base : ℕ) (threads : ℕ → Bool) (m : List ℕ) (t k word x : ℕ) → AreInPlace threads (length m) → threads t ≡ true → base ≤ 256 → k < 3 →
    word < 2 ^ 32
    → link_in base threads (with_link base m t k word) k x ≡ put (link_in base threads m k) t (somebody word) x
link-own base threads m t k word x places is most few fits =
    let new = with_link base m t k word in
    let inside : t + (base + 4 * k) + 4 ≤ length m = omega (arith, places.within t is, most, few) in
    elim (eqb_tells x t) [
      | inl here ↦
          ap (link_in base threads new k) here.1 ∙ ap (λ b. if b then link_at base new t k else None) is
          ∙ ap somebody (word_at-written m (t + (base + 4 * k)) word inside fits)
          ∙ sym (ap (λ b. if b then somebody word else link_in base threads m k x) here.0)
      | inr off ↦
          link-same base threads m new k x (λ own.
          word-beside m (t + (base + 4 * k)) word (x + (base + 4 * k)) inside
          (apart-words base x t k k (places.aligned x own) (places.aligned t is) most few few (inl off.1)))
          ∙ sym (put-off (link_in base threads m k) t (somebody word) x off.1)
    ]

pub link-other : (base : ℕ) (threads : ℕ → Bool) (m : List ℕ) (t k word j x : ℕ) → AreInPlace threads (length m) → threads t ≡ true → base ≤ 256 → k < 3 →
    j < 3 → j ≢ k
    → link_in base threads (with_link base m t k word) j x ≡ link_in base threads m j x
link-other base threads m t k word j x places is most few few' off =
    let inside : t + (base + 4 * k) + 4 ≤ length m = omega (arith, places.within t is, most, few) in
    link-same base threads m (with_link base m t k word) j x (λ own.
    word-beside m (t + (base + 4 * k)) word (x + (base + 4 * j)) inside
    (apart-words base x t j k (places.aligned x own) (places.aligned t is) most few' few (inr off)))

pub links-owner : (base : ℕ) (threads : ℕ → Bool) (m : List ℕ) (t word : ℕ) → AreInPlace threads (length m) → threads t ≡ true → base ≤ 256 → word < 2 ^ 32
    → links_in base threads (with_link base m t 0 word) ≡ record (links_in base threads m) { owner = put (links_in base threads m).owner t (somebody word) }
links-owner base threads m t word places is most fits = λ i. record {
  owner = λ x. link-own base threads m t 0 word x places is most (omega arith) fits i;
  next = λ x. link-other base threads m t 0 word 1 x places is most (omega arith) (omega arith) (λ same. absurd (omega (arith, same))) i;
  previous = λ x. link-other base threads m t 0 word 2 x places is most (omega arith) (omega arith) (λ same. absurd (omega (arith, same))) i;
}

pub links-next : (base : ℕ) (threads : ℕ → Bool) (m : List ℕ) (t word : ℕ) → AreInPlace threads (length m) → threads t ≡ true → base ≤ 256 → word < 2 ^ 32
    → links_in base threads (with_link base m t 1 word) ≡ record (links_in base threads m) { next = put (links_in base threads m).next t (somebody word) }
links-next base threads m t word places is most fits = λ i. record {
  owner = λ x. link-other base threads m t 1 word 0 x places is most (omega arith) (omega arith) (λ same. absurd (omega (arith, same))) i;
  next = λ x. link-own base threads m t 1 word x places is most (omega arith) fits i;
  previous = λ x. link-other base threads m t 1 word 2 x places is most (omega arith) (omega arith) (λ same. absurd (omega (arith, same))) i;
}

pub links-previous : (base : ℕ) (threads : ℕ → Bool) (m : List ℕ) (t word : ℕ) → AreInPlace threads (length m) → threads t ≡ true → base ≤ 256 → word < 2 ^ 32
    → links_in base threads (with_link base m t 2 word) ≡ record (links_in base threads m)
    { previous = put (links_in base threads m).previous t (somebody word) }
links-previous base threads m t word places is most fits = λ i. record {
  owner = λ x. link-other base threads m t 2 word 0 x places is most (omega arith) (omega arith) (λ same. absurd (omega (arith, same))) i;
  next = λ x. link-other base threads m t 2 word 1 x places is most (omega arith) (omega arith) (λ same. absurd (omega (arith, same))) i;
  previous = λ x. link-own base threads m t 2 word x places is most (omega arith) fits i;
}

-- where there is a thread
pub links-next_at : (base : ℕ) (threads : ℕ → Bool) (m : List ℕ) (at : Option ℕ) (word : ℕ) → AreInPlace threads (length m)
    → ((t : ℕ) → at ≡ Some t → threads t ≡ true) → base ≤ 256 → word < 2 ^ 32
    → links_in base threads (with_link_at base m at 1 word) ≡ record (links_in base threads m)
    { next = put_at (links_in base threads m).next at (somebody word) }
links-next_at base threads m None word places is most fits = refl
links-next_at base threads m (Some t) word places is most fits = links-next base threads m t word places (is t refl) most fits

pub links-previous_at : (base : ℕ) (threads : ℕ → Bool) (m : List ℕ) (at : Option ℕ) (word : ℕ) → AreInPlace threads (length m)
    → ((t : ℕ) → at ≡ Some t → threads t ≡ true) → base ≤ 256 → word < 2 ^ 32
    → links_in base threads (with_link_at base m at 2 word) ≡ record (links_in base threads m)
    { previous = put_at (links_in base threads m).previous at (somebody word) }
links-previous_at base threads m None word places is most fits = refl
links-previous_at base threads m (Some t) word places is most fits = links-previous base threads m t word places (is t refl) most fits

pub size-link : (base : ℕ) (m : List ℕ) (t k word : ℕ) → t + 512 ≤ length m → base ≤ 256 → k < 3 → length (with_link base m t k word) ≡ length m
size-link base m t k word within most few = size-word m (t + (base + 4 * k)) word (omega (arith, within, most, few))

pub size-link_at : (base : ℕ) (m : List ℕ) (at : Option ℕ) (k word : ℕ) → ((t : ℕ) → at ≡ Some t → t + 512 ≤ length m) → base ≤ 256 → k < 3 →
    length (with_link_at base m at k word) ≡ length m
size-link_at base m None k word within most few = refl
size-link_at base m (Some t) k word within most few = size-link base m t k word (within t refl) most few

-- ---- bytes that are the same keep links and ends

pub links-stay : (base : ℕ) (threads : ℕ → Bool) (old new : List ℕ)
    → ((thread place : ℕ) → threads thread ≡ true → thread + base ≤ place → place < thread + base + 12 → slice_index new place ≡ slice_index old place)
    → links_in base threads new ≡ links_in base threads old
links-stay base threads old new same =
    let word : (k x : ℕ) → k < 3 → threads x ≡ true → word_at new (x + (base + 4 * k)) ≡ word_at old (x + (base + 4 * k)) =
    λ k x few is. word_at-same old new (x + (base + 4 * k)) (λ place from below. same x place is (omega (arith, from)) (omega (arith, below, few))) in
    λ i. record {
      owner = λ x. link-same base threads old new 0 x (word 0 x (omega arith)) i;
      next = λ x. link-same base threads old new 1 x (word 1 x (omega arith)) i;
      previous = λ x. link-same base threads old new 2 x (word 2 x (omega arith)) i;
    }

pub end-stays : (heads : ℕ → Option ℕ) (old new : List ℕ) (k queue : ℕ) → k < 2
    → ((head place : ℕ) → heads queue ≡ Some head → head ≤ place → place < head + 8 → slice_index new place ≡ slice_index old place)
    → end_in heads new k queue ≡ end_in heads old k queue
end-stays heads old new k queue few same =
    elim (heads queue) as (λ o. heads queue ≡ o → end_of new k o ≡ end_of old k o) [
      | None ↦ λ is. refl
      | Some head ↦ λ is. ap somebody (word_at-same old new (head + 4 * k)
          (λ place from below. same head place is (omega (arith, from)) (omega (arith, below, few))))
    ] refl
