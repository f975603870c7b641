-- The bytes of a new object.
use Rattle.std.proofs.Common.{ℕ, ◌≡◌, ◌∙◌, ◌+◌, ◌*◌, ◌<◌, ◌≤◌, inl, inr, true, false, Some, None, List, length, refl, ap, arith}
use Rattle.std.specs.Prelude.{slice_index}
use Rattle.std.proofs.lemmas.Bool.{cases_lt}
use Rattle.model.proofs.BytesLemmas.{length-written, slice_index-written_before, slice_index-written_behind, word_at-same, word_at-written}
use Rattle.model.proofs.BytesLemmas.{word_at-written_before}
use Rattle.model.specs.Kernel.State.{new_thread}
use Rattle.model.specs.Shared.Bytes.{word_at, word_bytes, written}
use Rattle.queues.specs.Ready.{nobody}
use Rattle.queues.specs.Words.{end_at, link_at, somebody, with_ends, without_links}
use Rattle.queues.proofs.Laws.{begins_empty}
use Rattle.objects.specs.Laid.{BegunAt, SameBesidePoint}
use Rattle.objects.specs.Rights.{SameBesideReplier}
use Rattle.model.specs.declared.object_types.ObjectKind.TheVariants as kinds
use Rattle.objects.proofs.thread_records.Laws.{record_stays}
use Rattle.objects.specs.thread_records.Records as thread_words
use Rattle.objects.specs.thread_records.Records.{SameBesideRecord}
use Rattle.objects.specs.thread_records.Threads.{thread_state}

-- one word, and the bytes beside it
pub word-size : (m : List ℕ) (at word : ℕ) → at + 4 ≤ length m → length (written m at (word_bytes word)) ≡ length m
word-size m at word inside = length-written m at (word_bytes word) (omega (arith, inside))

pub word-beside : (m : List ℕ) (at word place : ℕ) → at + 4 ≤ length m → (at ≤ place → place < at + 4 → ⊥) →
    slice_index (written m at (word_bytes word)) place ≡ slice_index m place
word-beside m at word place inside apart = elim (cases_lt place at) [
  | inl before ↦ slice_index-written_before m at (word_bytes word) place (omega (arith, inside)) before
  | inr least ↦ elim (cases_lt place (at + 4)) [
    | inl less ↦ absurd (apart least less)
    | inr behind ↦ slice_index-written_behind m at (word_bytes word) place (omega (arith, inside)) (omega (arith, behind))
  ]
]

-- a new thread: links, record, and who may reply to it
pub thread-made : (old a b new : List ℕ) (offset : ℕ) → offset + 512 ≤ length old → a ≡ without_links old offset
    → thread_state (thread_words.thread_at b offset) ≡ new_thread → SameBesideRecord offset a b → SameBesideReplier (Some offset) b new →
    BegunAt kinds.Thread offset old new
thread-made old a b new offset within links fresh record_now replier =
    let size : length a ≡ length old = ap (λ (m : List ℕ). length m) links ∙ begins_empty.size old offset within in
    let beside : (place : ℕ) → (offset + 48 ≤ place → place < offset + 244 → ⊥) → (offset + 268 ≤ place → place < offset + 272 → ⊥) →
    slice_index new place ≡ slice_index a place = λ place one two.
    replier.bytes place (λ thread is from to.
    let at : offset ≡ thread = cc in two (omega (arith, from, at)) (omega (arith, to, at))) ∙ record_now.bytes place (λ part. one part.0 part.1) in
    record {
      size = replier.size ∙ record_now.size ∙ size;
      bytes = λ place apart.
          beside place (λ from to. apart (omega (arith, from)) (omega (arith, to)) refl) (λ from to. apart (omega (arith, from)) (omega (arith, to)) refl)
          ∙ ap (λ (m : List ℕ). slice_index m place) links
          ∙ begins_empty.bytes old offset place within (λ held. apart (omega (arith, held.0)) (omega (arith, held.1)) refl)
          (λ held. apart (omega (arith, held.0)) (omega (arith, held.1)) refl);
      thread = λ _.
          ap thread_state (record_stays b new offset (λ place part. replier.bytes place (λ thread is from to.
          let at : offset ≡ thread = cc in absurd (omega (arith, part.1, from, at))))) ∙ fresh;
      unlinked = λ _. (
        ap somebody (word_at-same a new (offset + (244 + 4 * 0))
            (λ k low high. beside k (λ from to. absurd (omega (arith, low, to))) (λ from to. absurd (omega (arith, high, from)))))
            ∙ ap (λ (m : List ℕ). link_at 244 m offset 0) links ∙ begins_empty.waits old offset within,
        ap somebody (word_at-same a new (offset + (256 + 4 * 0))
            (λ k low high. beside k (λ from to. absurd (omega (arith, low, to))) (λ from to. absurd (omega (arith, high, from)))))
            ∙ ap (λ (m : List ℕ). link_at 256 m offset 0) links ∙ begins_empty.ready old offset within,
      );
      unwaited = λ clash number low. absurd (let e : false ≡ true = clash in cc);
      word = λ clash. absurd (let e : false ≡ true = clash in cc);
    }

-- an object at which nobody waits
module _ (old a new : List ℕ) (offset : ℕ) (within : offset + 16 ≤ length old) (ends : a ≡ with_ends old offset nobody)
    (bytes : new ≡ written a (offset + 8) (word_bytes 0)) where
  head : offset + 8 ≤ length old
  head = omega (arith, within)

  size : length a ≡ length old
  size = ap (λ (m : List ℕ). length m) ends ∙ begins_empty.head_size old offset head

  inside : offset + 8 + 4 ≤ length a
  inside = omega (arith, size, within)

  pub point-beside : SameBesidePoint offset old new
  point-beside = record {
    size = ap (λ (m : List ℕ). length m) bytes ∙ word-size a (offset + 8) 0 inside ∙ size;
    bytes = λ place apart.
        ap (λ (m : List ℕ). slice_index m place) bytes
        ∙ word-beside a (offset + 8) 0 place inside (λ from to. apart (omega (arith, from)) (omega (arith, to)))
        ∙ ap (λ (m : List ℕ). slice_index m place) ends
        ∙ begins_empty.head_bytes old offset place head (λ held. apart held.0 (omega (arith, held.1)));
  }

  pub point-unwaited : (number : ℕ) → number < 2 → end_at new offset number ≡ None
  point-unwaited number low =
      ap (λ (m : List ℕ). end_at m offset number) bytes
      ∙ ap somebody (word_at-written_before a (offset + 8) (word_bytes 0) (offset + 4 * number) (omega (arith, inside)) (omega (arith, low)))
      ∙ ap (λ (m : List ℕ). end_at m offset number) ends ∙ begins_empty.head old offset number head low

  pub point-word : word_at new (offset + 8) ≡ 0
  point-word = ap (λ (m : List ℕ). word_at m (offset + 8)) bytes ∙ word_at-written a (offset + 8) 0 inside (omega arith)
