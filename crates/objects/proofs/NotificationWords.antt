-- The word of a notification is in its bytes from 8 on.
use Rattle.std.proofs.Common.{ℕ, ◌≡◌, ◌+◌, refl, sym, ap, Option, List, option_map}
use Rattle.std.specs.Option.{option_map_or}
use Rattle.model.specs.Capabilities.Slots.{Slots}
use Rattle.model.specs.Kernel.State.{as_notification, new_notification, notification_at}
use Rattle.model.specs.Shared.Bytes.{word_at}
use Rattle.objects.specs.Contents.{object_from, object_of, told_by, waiting_of}
use Rattle.objects.specs.Tables.{Tables, contents_of, entry_in, record_from, state_of, thread_from}
use Rattle.objects.specs.declared.records.Entry.{Entry}
use Rattle.objects.specs.declared.records.Entry.TheVariants as entries
use Rattle.objects.specs.thread_records.Records as thread_words
use Rattle.objects.specs.declared.thread_records.records.Thread.{Thread}

abbrev word_told : (ℕ → Option Thread) → List ℕ → Thread → ℕ → Entry → ℕ
word_told threads waiting thread word e =
    (option_map_or (λ n. n) (as_notification (object_from (thread_from e thread) (option_map (object_of threads waiting) (record_from e word))))
    new_notification).word

no-word : (threads : ℕ → Option Thread) (waiting : List ℕ) (thread : Thread) (word : ℕ) (e : Entry) → (e ≡ entries.Notification → ⊥)
    → 0 ≡ word_told threads waiting thread word e
no-word threads waiting thread word entries.Nothing other = refl
no-word threads waiting thread word entries.Thread other = refl
no-word threads waiting thread word entries.Endpoint other = refl
no-word threads waiting thread word entries.Notification other = absurd (other refl)
no-word threads waiting thread word (entries.CNode radix) other = refl
no-word threads waiting thread word entries.Frame other = refl
no-word threads waiting thread word entries.PageTable other = refl
no-word threads waiting thread word entries.RootTable other = refl

module _ (o : Tables) (slots : Slots) (memory : List ℕ) (offset : ℕ) where
  pub word-there : entry_in o.entries offset ≡ entries.Notification → word_at memory (offset + 8) ≡ (notification_at (state_of o slots memory) offset).word
  unfolding state_of told_by
  word-there is =
      let here = contents_of o memory in
      ap (word_told here.threads (waiting_of here memory offset) (thread_words.thread_at memory offset) (word_at memory (offset + 8))) (sym is)

  pub word-nowhere : (entry_in o.entries offset ≡ entries.Notification → ⊥) → 0 ≡ (notification_at (state_of o slots memory) offset).word
  unfolding state_of told_by
  word-nowhere other =
      let here = contents_of o memory in
      no-word here.threads (waiting_of here memory offset) (thread_words.thread_at memory offset) (word_at memory (offset + 8)) (entry_in o.entries offset)
      other
