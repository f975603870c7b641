-- Tables without objects.
use Rattle.std.proofs.Common.{ℕ, ◌≡◌, ◌∙◌, ◌==◌, ◌*◌, ◌-◌, ◌/◌, ◌%◌, ◌^◌, ◌≤◌, inl, inr, Bool, true, false, if◌then◌else◌, Some, None, option_map, List, []}
use Rattle.std.proofs.Common.{length, replicate, refl, sym, ap, subst, arith}
use Rattle.std.specs.Prelude.{◌+◌, slice_index, slice_index_or}
use Rattle.std.specs.Option.{option_map_or}
use Rattle.std.proofs.lemmas.List.{get_or-replicate, get_or_past, length-replicate}
use Rattle.std.proofs.lemmas.Bool.{cases_lt}
use Rattle.std.proofs.lemmas.Nat.{pow-add}
use Rattle.model.specs.Capabilities.Slots.{Slots}
use Rattle.model.specs.Kernel.Kinds.{frame_around}
use Rattle.model.specs.Kernel.Setup.{boot_area}
use Rattle.model.specs.Kernel.State.{State, with_slots}
use Rattle.model.specs.Shared.Bytes.{word_at}
use Rattle.queues.specs.Layout.{Places}
use Rattle.queues.specs.Ready.{ReadyStands, ready_of}
use Rattle.queues.specs.declared.words.Ends.{Ends}
use Rattle.queues.proofs.Laws.{begins_empty}
use Rattle.objects.proofs.Holding.{placed-here}
use Rattle.objects.specs.Contents as contents
use Rattle.objects.specs.Contents.{byte_in, contents_state, told_by, is_frame, is_thread_kind, object_from, object_in, object_of}
use Rattle.objects.specs.Frames.{FitsMemory}
use Rattle.objects.specs.Rights.{has_right}
use Rattle.objects.specs.Standing.{Standing}
use Rattle.objects.specs.Tables.{AreTables, Tables, contents_of, entry_in, kind_in, kind_of_entry, places_of, record_from, state_of, thread_from, thread_in}
use Rattle.objects.specs.Waiting.{has_waiting}
use Rattle.objects.specs.thread_records.Records as thread_words
use Rattle.objects.specs.declared.records.Entry.{Entry}
use Rattle.objects.specs.declared.records.Entry.TheVariants as entries

nothing-at : (n i : ℕ) → slice_index_or (replicate n entries.Nothing) i entries.Nothing ≡ entries.Nothing
nothing-at n i = elim (cases_lt i n) [
  | inl inside ↦ get_or-replicate n i entries.Nothing entries.Nothing inside
  | inr outside ↦ get_or_past (replicate n entries.Nothing) i entries.Nothing (omega (arith, outside, length-replicate {A = Entry} n entries.Nothing))
]

nothing-in : (n offset : ℕ) → entry_in (replicate n entries.Nothing) offset ≡ entries.Nothing
nothing-in n offset = elim (offset % 16 == 0)
    as (λ b. (if b then slice_index_or (replicate n entries.Nothing) (offset / 16) entries.Nothing else entries.Nothing) ≡ entries.Nothing) [
      | true ↦ nothing-at n (offset / 16)
      | false ↦ refl
    ]

never-masked : (n line : ℕ) → slice_index_or (replicate n false) line false ≡ false
never-masked n line = elim (cases_lt line n) [
  | inl inside ↦ get_or-replicate n line false false inside
  | inr outside ↦ get_or_past (replicate n false) line false (omega (arith, outside, length-replicate {A = Bool} n false))
]

abbrev pub fresh : ℕ → ℕ → List Ends → Tables
fresh bits radix ready = record {
  bits = bits;
  radix = radix;
  entries = replicate (2 ^ bits / 16) entries.Nothing;
  ready = ready;
  masked = replicate 64 false;
  pending = replicate 64 false;
}

pub fresh-tables : (bits radix : ℕ) (ready : List Ends) → 16 ≤ bits → bits ≤ 24 → radix ≤ 14 → AreTables (fresh bits radix ready)
fresh-tables bits radix ready least most few =
    let sixteenths : 2 ^ bits ≡ 2 ^ (bits - 4) * 16 = ap (λ (n : ℕ). 2 ^ n) (omega (arith, least)) ∙ pow-add 2 (bits - 4) 4 in
    let count : length (replicate (2 ^ bits / 16) entries.Nothing) ≡ 2 ^ bits / 16 = length-replicate {A = Entry} (2 ^ bits / 16) entries.Nothing in
    record {
      least_bits = least;
      most_bits = most;
      most_radix = few;
      places = omega (arith, sixteenths, count);
      threads = λ offset is. absurd (let clash : entries.Nothing ≡ entries.Thread = sym (nothing-in (2 ^ bits / 16) offset) ∙ is in cc);
      nodes = λ offset small is. absurd (let clash : entries.Nothing ≡ entries.CNode small = sym (nothing-in (2 ^ bits / 16) offset) ∙ is in cc);
    }

module _ (bits radix : ℕ) (ready : List Ends) (nobody : (places : Places) (memory : List ℕ) (priority : ℕ) → ready_of places ready memory priority ≡ []) where
  abbrev o : Tables
  o = fresh bits radix ready

  nothing : (offset : ℕ) → entry_in o.entries offset ≡ entries.Nothing
  nothing offset = nothing-in (2 ^ bits / 16) offset

  no-object : (memory : List ℕ) (waiting : ℕ → List ℕ) (offset : ℕ) → object_in (contents_of o memory) waiting offset ≡ None
  no-object memory waiting offset =
      ap (λ (e : Entry). object_from (thread_from e (thread_words.thread_at memory offset))
      (option_map (object_of (contents_of o memory).threads (waiting offset)) (record_from e (word_at memory (offset + 8))))) (nothing offset)

  no-byte : (memory : List ℕ) (place : ℕ) → byte_in (contents_of o memory).records memory place ≡ None
  no-byte memory place = ap (λ (e : Entry). if option_map_or is_frame (record_from e (word_at memory (frame_around place + 8))) false then
      Some (slice_index memory place) else None) (nothing (frame_around place))

  no-kind : (offset : ℕ) → kind_in o offset ≡ None
  no-kind offset = ap kind_of_entry (nothing offset)

  pub fresh-state : (slots : Slots) (memory : List ℕ) → state_of o slots memory ≡ with_slots (boot_area bits radix) slots
  unfolding state_of told_by boot_area
  fresh-state slots memory = λ i. record (with_slots (boot_area bits radix) slots) {
    objects = λ offset. no-object memory (contents.waiting_of (contents_of o memory) memory) offset i;
    ready = λ priority. nobody (contents.places_of (contents_of o memory)) memory priority i;
    bytes = λ place. no-byte memory place i;
    masked = λ line. never-masked 64 line i;
    pending = λ line. never-masked 64 line i;
  }

  pub fresh-stands : AreTables o → (slots : Slots) (memory : List ℕ)
      → ((places : Places) (memory : List ℕ) → ((offset : ℕ) → places.threads offset ≡ false) → ReadyStands places ready memory) → 2 ^ bits ≡ length memory →
      Standing o slots memory
  unfolding boot_area
  fresh-stands are slots memory runs size =
      let fits : FitsMemory (state_of o slots memory) memory = subst (λ (t : State). FitsMemory t memory) (sym (fresh-state slots memory))
      (record {
        size = size;
        frames = λ place is_open. refl;
        records = λ place is_open held. absurd (let clash : None ≡ Some held.kind = held.there in cc);
        apart = λ place held. refl;
        alone = λ place one two. absurd (let clash : None ≡ Some one.kind = one.there in cc);
      }) in
      let no-right : (caller holder : ℕ) → has_right (thread_in o memory holder) caller ≡ false = λ caller holder.
      ap (λ (e : Entry). has_right (thread_from e (thread_words.thread_at memory holder)) caller) (nothing holder) in
      record {
        placed = placed-here o are slots memory fits;
        fits = fits;
        waiting = begins_empty.none (places_of o) memory (λ offset. ap is_thread_kind (no-kind offset))
            (λ offset. ap (λ k. if has_waiting k then Some offset else None) (no-kind offset));
        ready = runs (places_of o) memory (λ offset. ap is_thread_kind (no-kind offset));
        rights = record {
          there = λ caller holder right. absurd (let clash : false ≡ true = sym (no-right caller holder) ∙ right in cc);
          only = λ caller holder thread right is. absurd (let clash : false ≡ true = sym (no-right caller holder) ∙ right in cc);
        };
      }
