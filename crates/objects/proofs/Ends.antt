-- Which threads end with the object at an offset.
use Rattle.std.proofs.Common.{ℕ, ◌≡◌, ◌∙◌, ◌==◌, inl, inr, Bool, true, false, Option, Some, None, is_some, option_map, List, refl, sym, ap}
use Rattle.std.specs.Option.{option_map_or}
use Rattle.std.proofs.lemmas.Bool.{eq-eqb}
use Rattle.std.proofs.lemmas.Bool.Decides.{eqb_tells}
use Rattle.model.specs.Capabilities.Slots.{Slots}
use Rattle.model.specs.Kernel.Scheduling.{all_leave, leaves, without_threads}
use Rattle.model.specs.Kernel.State.{Object, State, ThreadState, as_thread}
use Rattle.objects.specs.Contents.{Contents, object_from, object_in, object_of, contents_state, told_by, waiting_of}
use Rattle.objects.specs.thread_records.Threads.{thread_state}
use Rattle.objects.specs.Contents.{Record}
use Rattle.objects.specs.Contents.{Endpoint, Notification, CNode, Frame, PageTable, RootTable}
use Rattle.objects.specs.declared.thread_records.records.Thread.{Thread}
use Rattle.removal_laws.proofs.Laws.{filter-all, threads-all}
use Rattle.removal_laws.specs.Steps.{ends_thread}

no-thread : (threads : ℕ → Option Thread) (waiting : List ℕ) (r : Option Record) → as_thread (option_map (object_of threads waiting) r) ≡ None
no-thread threads waiting None = refl
no-thread threads waiting (Some Endpoint) = refl
no-thread threads waiting (Some (Notification word)) = refl
no-thread threads waiting (Some (CNode radix)) = refl
no-thread threads waiting (Some Frame) = refl
no-thread threads waiting (Some PageTable) = refl
no-thread threads waiting (Some RootTable) = refl

-- the threads of the state are those of the table
pub as-thread : (o : Contents) (waiting : ℕ → List ℕ) (offset : ℕ) → as_thread (object_in o waiting offset) ≡ option_map thread_state (o.threads offset)
as-thread o waiting offset = elim (o.threads offset)
    as (λ t. as_thread (object_from t (option_map (object_of o.threads (waiting offset)) (o.records offset))) ≡ option_map thread_state t) [
      | Some t ↦ refl
      | None ↦ no-thread o.threads (waiting offset) (o.records offset)
    ]

any-false : (t : Option ThreadState) → option_map_or (λ (x : ThreadState). false) t false ≡ false
any-false (Some t) = refl
any-false None = refl

object-all : (gone : ℕ → Bool) → ((n : ℕ) → gone n ≡ false) → (o : Option Object) → option_map (without_threads gone) o ≡ o
object-all gone none None = refl
object-all gone none (Some o) = ap Some (threads-all gone none o)

without-nobody : (s : State) (gone : ℕ → Bool) → ((n : ℕ) → gone n ≡ false) → all_leave s gone ≡ s
without-nobody s gone none = λ i. record s {
  ready = λ priority. filter-all gone none (s.ready priority) i;
  objects = λ offset. object-all gone none (s.objects offset) i;
}

module _ (o : Contents) (offset : ℕ) (slots : Slots) (memory : List ℕ) where
  abbrev s : State
  s = contents_state o slots memory

  ends-at : (other : ℕ) → ends_thread s offset other ≡ option_map_or (λ _. offset == other) (option_map thread_state (o.threads other)) false
  unfolding told_by
  ends-at other = ap (λ t. option_map_or (λ _. offset == other) t false) (as-thread o (waiting_of o memory) other)

  ends-elsewhere : (other : ℕ) → (offset == other) ≡ false → ends_thread s offset other ≡ false
  ends-elsewhere other apart =
      ends-at other ∙ ap (λ b. option_map_or (λ _. b) (option_map thread_state (o.threads other)) false) apart
      ∙ any-false (option_map thread_state (o.threads other))

  -- that thread alone, if one is there
  ends-itself : (t : Thread) → o.threads offset ≡ Some t → (other : ℕ) → (other == offset) ≡ ends_thread s offset other
  ends-itself t there other = elim (eqb_tells offset other) [
    | inl here ↦
        eq-eqb other offset (sym here.1)
        ∙ sym (ends-at other
        ∙ ap (λ o. option_map_or (λ _. offset == other) (option_map thread_state o) false) (ap (o.threads) (sym here.1) ∙ there) ∙ here.0)
    | inr apart ↦
        elim (eqb_tells other offset) [
          | inl same ↦ absurd (apart.1 (sym same.1))
          | inr differs ↦ differs.0 ∙ sym (ends-elsewhere other apart.0)
        ]
  ]

  ends-nobody : o.threads offset ≡ None → (other : ℕ) → ends_thread s offset other ≡ false
  ends-nobody none other = elim (eqb_tells offset other) [
    | inl here ↦
        ends-at other ∙ ap (λ o. option_map_or (λ _. offset == other) (option_map thread_state o) false) (ap (o.threads) (sym here.1) ∙ none)
    | inr apart ↦ ends-elsewhere other apart.0
  ]

  pub left-itself : (t : Option Thread) → t ≡ o.threads offset → is_some t ≡ true → leaves s offset ≡ all_leave s (ends_thread s offset)
  left-itself (Some t) there some = λ i. all_leave s (λ other. ends-itself t (sym there) other i)
  left-itself None there some = absurd (let clash : false ≡ true = some in cc)

  pub left-nobody : o.threads offset ≡ None → s ≡ all_leave s (ends_thread s offset)
  left-nobody none = sym (without-nobody s (ends_thread s offset) (ends-nobody none))

pub none-there : (t : Option Thread) → is_some t ≡ false → t ≡ None
none-there (Some t) some = absurd (let clash : true ≡ false = some in cc)
none-there None some = refl
