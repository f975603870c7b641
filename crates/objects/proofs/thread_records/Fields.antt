-- What a thread's fields are after a change of some bytes of its record.
use Rattle.std.proofs.Common.{ℕ, zero, suc, ◌≡◌, ◌∙◌, ◌+◌, ◌*◌, ◌<◌, ◌≤◌, ◌⊎◌, inl, inr, Bool, true, false, Option, Some, None, List, [], ◌∷◌, length}
use Rattle.std.proofs.Common.{slice_index, replicate, refl, sym, ap, subst, arith, ne_eqb, if◌then◌else◌}
use Rattle.std.specs.Prelude.{◌==◌, slice_set}
use Rattle.std.proofs.lemmas.List.{get_or-replicate}
use Rattle.std.proofs.lemmas.Bool.{cases_lt}
use Rattle.model.proofs.BytesLemmas.{word_at-same}
use Rattle.model.specs.Kernel.State.{new_thread}
use Rattle.model.specs.Machine.Effects.{access_number}
use Rattle.model.specs.Machine.Instructions.{IsRegister}
use Rattle.model.specs.Machine.ProgramMemory.{read, write}
use Rattle.model.specs.Shared.Bytes.{word_at}
use Rattle.model.specs.declared.instructions.Access.{Access}
use Rattle.model.specs.declared.instructions.Access.TheVariants as accesses
use Rattle.model.specs.declared.instructions.Cause.TheVariants as causes
use Rattle.model.specs.declared.instructions.Register.{Register}
use Rattle.model.specs.declared.lookup_failures.LookupFailure.TheVariants as failures
use Rattle.objects.specs.thread_records.Laws.{RecordStays}
use Rattle.pmem.specs.Words.{words_at}
use Rattle.objects.specs.thread_records.Records.{IsRecordByte, SameBeside, SameBesideRecord, access_from, blank_thread, caller_from, caller_words, fault_from}
use Rattle.objects.specs.thread_records.Records.{flag, is_set, sending_from, sending_with, sending_words, sent_from, sent_words, status_from, status_words}
use Rattle.objects.specs.thread_records.Records.{thread_at}
use Rattle.objects.specs.declared.thread_records.records.Fault.TheVariants as faults
use Rattle.objects.specs.declared.thread_records.records.Sending.{Sending}
use Rattle.objects.specs.declared.thread_records.records.Sent.{Sent}
use Rattle.objects.specs.declared.thread_records.records.Sent.TheVariants as sents
use Rattle.objects.specs.declared.thread_records.records.Status.{Status}
use Rattle.objects.specs.declared.thread_records.records.Status.TheVariants as statuses
use Rattle.pmem.proofs.Laws.{words-same}
use Rattle.objects.proofs.thread_records.WordLists.{word-changed, word-of, word-stays, words-stay}

-- ---- what is spelled so is read

status-back : (status : Status) → status_from (slice_index (status_words status) 0) (slice_index (status_words status) 1) ≡ status
status-back statuses.Inactive = refl
status-back statuses.Runnable = refl
status-back (statuses.Blocked queue) = refl
status-back statuses.AwaitsReply = refl
status-back statuses.AwaitsHandler = refl

caller-back : (caller : Option ℕ) → caller_from (slice_index (caller_words caller) 0) (slice_index (caller_words caller) 1) ≡ caller
caller-back None = refl
caller-back (Some caller) = refl

access-back : (pc address : ℕ) (access : Access) →
    Some (sents.Fault (faults.Memory pc (record { address = address; access = access_from (access_number access) })))
    ≡ Some (sents.Fault (faults.Memory pc (record { address = address; access = access })))
access-back pc address accesses.Load = refl
access-back pc address accesses.Store = refl
access-back pc address accesses.Fetch = refl

flag-back : (b : Bool) → is_set (flag b) ≡ b
flag-back true = refl
flag-back false = refl

second-word : (badge reply : ℕ) (sent : Sent) → slice_index (sent_words badge reply sent) 1 ≡ badge
second-word badge reply sents.Send = refl
second-word badge reply sents.Call = refl
second-word badge reply (sents.Fault (faults.Capability pc address in_receive failure)) = refl
second-word badge reply (sents.Fault (faults.UnknownCall pc number)) = refl
second-word badge reply (sents.Fault (faults.Instruction pc cause)) = refl
second-word badge reply (sents.Fault (faults.Memory pc fault)) = refl

third-word : (badge reply : ℕ) (sent : Sent) → slice_index (sent_words badge reply sent) 2 ≡ reply
third-word badge reply sents.Send = refl
third-word badge reply sents.Call = refl
third-word badge reply (sents.Fault (faults.Capability pc address in_receive failure)) = refl
third-word badge reply (sents.Fault (faults.UnknownCall pc number)) = refl
third-word badge reply (sents.Fault (faults.Instruction pc cause)) = refl
third-word badge reply (sents.Fault (faults.Memory pc fault)) = refl

abbrev sent_of : List ℕ → Option Sent
sent_of words =
    let code = slice_index words 0 in
    sent_from code (fault_from code (slice_index words 3) (slice_index words 4) (slice_index words 5) (slice_index words 6) (slice_index words 7))

sent-back : (badge reply : ℕ) (sent : Sent) → sent_of (sent_words badge reply sent) ≡ Some sent
sent-back badge reply sents.Send = refl
sent-back badge reply sents.Call = refl
sent-back badge reply (sents.Fault (faults.Capability pc address true failures.InvalidRoot)) = refl
sent-back badge reply (sents.Fault (faults.Capability pc address true failures.MissingCapability)) = refl
sent-back badge reply (sents.Fault (faults.Capability pc address true (failures.DepthMismatch left))) = refl
sent-back badge reply (sents.Fault (faults.Capability pc address true (failures.GuardMismatch left))) = refl
sent-back badge reply (sents.Fault (faults.Capability pc address false failures.InvalidRoot)) = refl
sent-back badge reply (sents.Fault (faults.Capability pc address false failures.MissingCapability)) = refl
sent-back badge reply (sents.Fault (faults.Capability pc address false (failures.DepthMismatch left))) = refl
sent-back badge reply (sents.Fault (faults.Capability pc address false (failures.GuardMismatch left))) = refl
sent-back badge reply (sents.Fault (faults.UnknownCall pc number)) = refl
sent-back badge reply (sents.Fault (faults.Instruction pc causes.Illegal)) = refl
sent-back badge reply (sents.Fault (faults.Instruction pc causes.Misaligned)) = refl
sent-back badge reply (sents.Fault (faults.Memory pc fault)) = access-back pc fault.address fault.access

sending-back : (sending : Option Sending) → sending_from (sending_words sending) ≡ sending
sending-back None = refl
sending-back (Some sending) =
    let reply = flag sending.grant_reply in
    let words = sent_words sending.badge reply sending.sent in
    ap (λ (o : Option Sent). sending_with (slice_index words 1) (slice_index words 2) o) (sent-back sending.badge reply sending.sent)
    ∙ (λ i. Some (record {
      sent = sending.sent;
      badge = second-word sending.badge reply sending.sent i;
      grant_reply = (ap is_set (third-word sending.badge reply sending.sent) ∙ flag-back sending.grant_reply) i;
    }))

-- ---- how many words that takes

pub status-count : (status : Status) → length (status_words status) ≡ 2
status-count statuses.Inactive = refl
status-count statuses.Runnable = refl
status-count (statuses.Blocked queue) = refl
status-count statuses.AwaitsReply = refl
status-count statuses.AwaitsHandler = refl

pub caller-count : (caller : Option ℕ) → length (caller_words caller) ≡ 2
caller-count None = refl
caller-count (Some caller) = refl

sent-count : (badge reply : ℕ) (sent : Sent) → length (sent_words badge reply sent) ≡ 9
sent-count badge reply sents.Send = refl
sent-count badge reply sents.Call = refl
sent-count badge reply (sents.Fault (faults.Capability pc address in_receive failure)) = refl
sent-count badge reply (sents.Fault (faults.UnknownCall pc number)) = refl
sent-count badge reply (sents.Fault (faults.Instruction pc cause)) = refl
sent-count badge reply (sents.Fault (faults.Memory pc fault)) = refl

pub sending-count : (sending : Option Sending) → length (sending_words sending) ≡ 9
sending-count None = refl
sending-count (Some sending) = sent-count sending.badge (flag sending.grant_reply) sending.sent

-- ---- the law

pub record_stays : RecordStays
unfolding thread_at
record_stays old new thread same =
    let word : (k : ℕ) → 48 ≤ k → k + 4 ≤ 244 → word_at new (thread + k) ≡ word_at old (thread + k) =
    λ k least most. word_at-same old new (thread + k) (λ place from below. same place (omega (arith, least, from), omega (arith, most, below))) in
    let words : (k n : ℕ) → 48 ≤ k → k + 4 * n ≤ 244 → words_at new (thread + k) n ≡ words_at old (thread + k) n =
    λ k n least most. words-same old new (thread + k) n (λ place from below. same place (omega (arith, least, from), omega (arith, most, below))) in
    λ i. record {
      registers = record { pc = word 48 (omega arith) (omega arith) i; words = words 64 32 (omega arith) (omega arith) i };
      priority = same (thread + 52) (omega arith, omega arith) i;
      slice = same (thread + 56) (omega arith, omega arith) i;
      fault_address = word 60 (omega arith) (omega arith) i;
      status = status_from (word 192 (omega arith) (omega arith) i) (word 196 (omega arith) (omega arith) i);
      caller = caller_from (word 200 (omega arith) (omega arith) i) (word 204 (omega arith) (omega arith) i);
      sending = sending_from (words 208 9 (omega arith) (omega arith) i);
    }

-- ---- what is written

-- fields that lie beside what is written stay
module _ (m n : List ℕ) (t from to : ℕ) (same : SameBeside (t + from) (t + to) m n) where
  byte : (k : ℕ) → (k < from) ⊎ (to ≤ k) → slice_index n (t + k) ≡ slice_index m (t + k)
  byte k apart = same.bytes (t + k) (elim apart [
    | inl before ↦ inl (omega (arith, before))
    | inr behind ↦ inr (omega (arith, behind))
  ])

  word : (k : ℕ) → (k + 4 ≤ from) ⊎ (to ≤ k) → word_at n (t + k) ≡ word_at m (t + k)
  word k apart = word-stays (t + from) (t + to) m n (t + k) same (elim apart [
    | inl before ↦ inl (omega (arith, before))
    | inr behind ↦ inr (omega (arith, behind))
  ])

  words : (k count : ℕ) → (k + 4 * count ≤ from) ⊎ (to ≤ k) → words_at n (t + k) count ≡ words_at m (t + k) count
  words k count apart = words-stay (t + from) (t + to) m n (t + k) count same (elim apart [
    | inl before ↦ inl (omega (arith, before))
    | inr behind ↦ inr (omega (arith, behind))
  ])

  pub beside-record : 48 ≤ from → to ≤ 244 → SameBesideRecord t m n
  beside-record least most = record {
    size = same.size;
    bytes = λ place off. same.bytes place (elim (cases_lt place (t + from)) [
      | inl less ↦ inl less
      | inr past ↦ elim (cases_lt place (t + to)) [
        | inl under ↦ absurd (off (omega (arith, past, least), omega (arith, under, most)))
        | inr behind ↦ inr behind
      ]
    ]);
  }

pub pc-set : (m n : List ℕ) (t pc : ℕ) → SameBeside (t + 48) (t + 52) m n → words_at n (t + 48) 1 ≡ pc ∷ []
    → thread_at n t ≡ record (thread_at m t) { registers = record { pc = pc; words = (thread_at m t).registers.words } }
unfolding thread_at
pc-set m n t pc same is = λ i. record {
  registers = record { pc = ap (λ (ws : List ℕ). slice_index ws 0) is i; words = words m n t 48 52 same 64 32 (inr (omega arith)) i };
  priority = byte m n t 48 52 same 52 (inr (omega arith)) i;
  slice = byte m n t 48 52 same 56 (inr (omega arith)) i;
  fault_address = word m n t 48 52 same 60 (inr (omega arith)) i;
  status = status_from (word m n t 48 52 same 192 (inr (omega arith)) i) (word m n t 48 52 same 196 (inr (omega arith)) i);
  caller = caller_from (word m n t 48 52 same 200 (inr (omega arith)) i) (word m n t 48 52 same 204 (inr (omega arith)) i);
  sending = sending_from (words m n t 48 52 same 208 9 (inr (omega arith)) i);
}

pub words-set : (m n : List ℕ) (t : ℕ) (file : List ℕ) → SameBeside (t + 64) (t + 192) m n → words_at n (t + 64) 32 ≡ file
    → thread_at n t ≡ record (thread_at m t) { registers = record { pc = (thread_at m t).registers.pc; words = file } }
unfolding thread_at
words-set m n t file same is = λ i. record {
  registers = record { pc = word m n t 64 192 same 48 (inl (omega arith)) i; words = is i };
  priority = byte m n t 64 192 same 52 (inl (omega arith)) i;
  slice = byte m n t 64 192 same 56 (inl (omega arith)) i;
  fault_address = word m n t 64 192 same 60 (inl (omega arith)) i;
  status = status_from (word m n t 64 192 same 192 (inr (omega arith)) i) (word m n t 64 192 same 196 (inr (omega arith)) i);
  caller = caller_from (word m n t 64 192 same 200 (inr (omega arith)) i) (word m n t 64 192 same 204 (inr (omega arith)) i);
  sending = sending_from (words m n t 64 192 same 208 9 (inr (omega arith)) i);
}

-- one of the 32 words of registers
module _ (m n : List ℕ) (t from : ℕ) (file : List ℕ) (same : SameBeside (t + (64 + from)) (t + (64 + from + 4)) m n) (inside : from + 4 ≤ 128)
    (is : words_at n (t + 64) 32 ≡ file) where
  pub one-word-set : thread_at n t ≡ record (thread_at m t) { registers = record { pc = (thread_at m t).registers.pc; words = file } }
  unfolding thread_at
  one-word-set =
      let before : (k : ℕ) → k + 4 ≤ 64 → word_at n (t + k) ≡ word_at m (t + k) =
      λ k less. word m n t (64 + from) (64 + from + 4) same k (inl (omega (arith, less))) in
      let behind : (k : ℕ) → 192 ≤ k → word_at n (t + k) ≡ word_at m (t + k) =
      λ k least. word m n t (64 + from) (64 + from + 4) same k (inr (omega (arith, least, inside))) in
      λ i. record {
        registers = record { pc = before 48 (omega arith) i; words = is i };
        priority = byte m n t (64 + from) (64 + from + 4) same 52 (inl (omega arith)) i;
        slice = byte m n t (64 + from) (64 + from + 4) same 56 (inl (omega arith)) i;
        fault_address = before 60 (omega arith) i;
        status = status_from (behind 192 (omega arith) i) (behind 196 (omega arith) i);
        caller = caller_from (behind 200 (omega arith) i) (behind 204 (omega arith) i);
        sending = sending_from (words m n t (64 + from) (64 + from + 4) same 208 9 (inr (omega (arith, inside))) i);
      }

-- registers, of which that of number 0 stays zero
module _ (m n : List ℕ) (t : ℕ) (x : Register) (value : ℕ) where
  pub register-set : IsRegister x → (x.0 ≡ 0 → ⊥) → SameBeside (t + (64 + 4 * x.0)) (t + (64 + 4 * x.0 + 4)) m n
      → word_at n (t + (64 + 4 * x.0)) ≡ value → thread_at n t ≡ record (thread_at m t) { registers = write (thread_at m t).registers x value }
  unfolding thread_at
  register-set named some same is =
      let place = t + (64 + 4 * x.0) in
      let at : t + (64 + 4 * x.0 + 4) ≡ place + 4 = omega arith in
      one-word-set m n t (4 * x.0) (slice_set (words_at m (t + 64) 32) x.0 value) same (omega (arith, named))
      (word-changed m n place value (subst (λ (to : ℕ). SameBeside place to m n) at same) is (t + 64) 32 x.0 (omega (arith, named)) (omega arith))
      ∙ ap (λ (b : Bool). record (thread_at m t) {
        registers = if b then (thread_at m t).registers else record (thread_at m t).registers { words = slice_set (words_at m (t + 64) 32) x.0 value };
      }) (sym (ne_eqb x.0 0 some))

pub register-read : (m : List ℕ) (t : ℕ) (x : Register) → IsRegister x → (x.0 ≡ 0 → ⊥) → word_at m (t + (64 + 4 * x.0)) ≡ read (thread_at m t).registers x
unfolding thread_at
register-read m t x named some =
    let words : List ℕ = words_at m (t + 64) 32 in
    let at : t + (64 + 4 * x.0) ≡ t + 64 + 4 * x.0 = omega arith in
    ap (word_at m) at ∙ sym (word-of m (t + 64) 32 x.0 (omega (arith, named)))
    ∙ ap (λ (b : Bool). if b then 0 else slice_index words x.0) (sym (ne_eqb x.0 0 some))

either-zero : (b : Bool) (word : ℕ) → word ≡ 0 → 0 ≡ (if b then 0 else word)
either-zero true word is = refl
either-zero false word is = sym is

pub new-read : (x : Register) → IsRegister x → 0 ≡ read new_thread.registers x
new-read x named = either-zero (x.0 == 0) (slice_index (replicate 32 0) x.0) (get_or-replicate 32 x.0 0 0 (omega (arith, named)))

pub priority-set : (m n : List ℕ) (t priority : ℕ) → SameBeside (t + 52) (t + 53) m n → slice_index n (t + 52) ≡ priority
    → thread_at n t ≡ record (thread_at m t) { priority = priority }
unfolding thread_at
priority-set m n t priority same is = λ i. record {
  registers = record { pc = word m n t 52 53 same 48 (inl (omega arith)) i; words = words m n t 52 53 same 64 32 (inr (omega arith)) i };
  priority = is i;
  slice = byte m n t 52 53 same 56 (inr (omega arith)) i;
  fault_address = word m n t 52 53 same 60 (inr (omega arith)) i;
  status = status_from (word m n t 52 53 same 192 (inr (omega arith)) i) (word m n t 52 53 same 196 (inr (omega arith)) i);
  caller = caller_from (word m n t 52 53 same 200 (inr (omega arith)) i) (word m n t 52 53 same 204 (inr (omega arith)) i);
  sending = sending_from (words m n t 52 53 same 208 9 (inr (omega arith)) i);
}

pub slice-set : (m n : List ℕ) (t slice : ℕ) → SameBeside (t + 56) (t + 57) m n → slice_index n (t + 56) ≡ slice
    → thread_at n t ≡ record (thread_at m t) { slice = slice }
unfolding thread_at
slice-set m n t slice same is = λ i. record {
  registers = record { pc = word m n t 56 57 same 48 (inl (omega arith)) i; words = words m n t 56 57 same 64 32 (inr (omega arith)) i };
  priority = byte m n t 56 57 same 52 (inl (omega arith)) i;
  slice = is i;
  fault_address = word m n t 56 57 same 60 (inr (omega arith)) i;
  status = status_from (word m n t 56 57 same 192 (inr (omega arith)) i) (word m n t 56 57 same 196 (inr (omega arith)) i);
  caller = caller_from (word m n t 56 57 same 200 (inr (omega arith)) i) (word m n t 56 57 same 204 (inr (omega arith)) i);
  sending = sending_from (words m n t 56 57 same 208 9 (inr (omega arith)) i);
}

pub fault_address-set : (m n : List ℕ) (t address : ℕ) → SameBeside (t + 60) (t + 64) m n → words_at n (t + 60) 1 ≡ address ∷ []
    → thread_at n t ≡ record (thread_at m t) { fault_address = address }
unfolding thread_at
fault_address-set m n t address same is = λ i. record {
  registers = record { pc = word m n t 60 64 same 48 (inl (omega arith)) i; words = words m n t 60 64 same 64 32 (inr (omega arith)) i };
  priority = byte m n t 60 64 same 52 (inl (omega arith)) i;
  slice = byte m n t 60 64 same 56 (inl (omega arith)) i;
  fault_address = ap (λ (ws : List ℕ). slice_index ws 0) is i;
  status = status_from (word m n t 60 64 same 192 (inr (omega arith)) i) (word m n t 60 64 same 196 (inr (omega arith)) i);
  caller = caller_from (word m n t 60 64 same 200 (inr (omega arith)) i) (word m n t 60 64 same 204 (inr (omega arith)) i);
  sending = sending_from (words m n t 60 64 same 208 9 (inr (omega arith)) i);
}

-- two words that are read where they were written
module _ (n : List ℕ) (t k : ℕ) (pair : List ℕ) (is : words_at n (t + k) 2 ≡ pair) where
  first-of : word_at n (t + k) ≡ slice_index pair 0
  first-of = ap (λ (ws : List ℕ). slice_index ws 0) is

  second-of : word_at n (t + (k + 4)) ≡ slice_index pair 1
  second-of =
      let place : t + (k + 4) ≡ t + k + 4 = omega arith in
      ap (word_at n) place ∙ ap (λ (ws : List ℕ). slice_index ws 1) is

pub status-set : (m n : List ℕ) (t : ℕ) (status : Status) → SameBeside (t + 192) (t + 200) m n → words_at n (t + 192) 2 ≡ status_words status
    → thread_at n t ≡ record (thread_at m t) { status = status }
unfolding thread_at
status-set m n t status same is =
    let code = first-of n t 192 (status_words status) is in
    let queue = second-of n t 192 (status_words status) is in
    λ i. record {
      registers = record { pc = word m n t 192 200 same 48 (inl (omega arith)) i; words = words m n t 192 200 same 64 32 (inl (omega arith)) i };
      priority = byte m n t 192 200 same 52 (inl (omega arith)) i;
      slice = byte m n t 192 200 same 56 (inl (omega arith)) i;
      fault_address = word m n t 192 200 same 60 (inl (omega arith)) i;
      status = ((λ j. status_from (code j) (queue j)) ∙ status-back status) i;
      caller = caller_from (word m n t 192 200 same 200 (inr (omega arith)) i) (word m n t 192 200 same 204 (inr (omega arith)) i);
      sending = sending_from (words m n t 192 200 same 208 9 (inr (omega arith)) i);
    }

pub caller-set : (m n : List ℕ) (t : ℕ) (caller : Option ℕ) → SameBeside (t + 200) (t + 208) m n → words_at n (t + 200) 2 ≡ caller_words caller
    → thread_at n t ≡ record (thread_at m t) { caller = caller }
unfolding thread_at
caller-set m n t caller same is =
    let has = first-of n t 200 (caller_words caller) is in
    let whom = second-of n t 200 (caller_words caller) is in
    λ i. record {
      registers = record { pc = word m n t 200 208 same 48 (inl (omega arith)) i; words = words m n t 200 208 same 64 32 (inl (omega arith)) i };
      priority = byte m n t 200 208 same 52 (inl (omega arith)) i;
      slice = byte m n t 200 208 same 56 (inl (omega arith)) i;
      fault_address = word m n t 200 208 same 60 (inl (omega arith)) i;
      status = status_from (word m n t 200 208 same 192 (inl (omega arith)) i) (word m n t 200 208 same 196 (inl (omega arith)) i);
      caller = ((λ j. caller_from (has j) (whom j)) ∙ caller-back caller) i;
      sending = sending_from (words m n t 200 208 same 208 9 (inr (omega arith)) i);
    }

pub sending-set : (m n : List ℕ) (t : ℕ) (sending : Option Sending) → SameBeside (t + 208) (t + 244) m n → words_at n (t + 208) 9 ≡ sending_words sending
    → thread_at n t ≡ record (thread_at m t) { sending = sending }
unfolding thread_at
sending-set m n t sending same is = λ i. record {
  registers = record { pc = word m n t 208 244 same 48 (inl (omega arith)) i; words = words m n t 208 244 same 64 32 (inl (omega arith)) i };
  priority = byte m n t 208 244 same 52 (inl (omega arith)) i;
  slice = byte m n t 208 244 same 56 (inl (omega arith)) i;
  fault_address = word m n t 208 244 same 60 (inl (omega arith)) i;
  status = status_from (word m n t 208 244 same 192 (inl (omega arith)) i) (word m n t 208 244 same 196 (inl (omega arith)) i);
  caller = caller_from (word m n t 208 244 same 200 (inl (omega arith)) i) (word m n t 208 244 same 204 (inl (omega arith)) i);
  sending = (ap sending_from is ∙ sending-back sending) i;
}

-- ---- all zero

word-zero : (n : List ℕ) (at : ℕ) → ((place : ℕ) → at ≤ place → place < at + 4 → slice_index n place ≡ 0) → word_at n at ≡ 0
word-zero n at zeros =
    let first = zeros at (omega arith) (omega arith) in
    let second = zeros (at + 1) (omega arith) (omega arith) in
    let third = zeros (at + 2) (omega arith) (omega arith) in
    let fourth = zeros (at + 3) (omega arith) (omega arith) in
    omega (arith, first, second, third, fourth)

words-zero : (n : List ℕ) (at count : ℕ) → ((place : ℕ) → at ≤ place → place < at + 4 * count → slice_index n place ≡ 0) →
    words_at n at count ≡ replicate count 0
words-zero n at zero zeros = refl
words-zero n at (suc count) zeros =
    let first : word_at n at ≡ 0 = word-zero n at (λ place least less. zeros place least (omega (arith, less))) in
    let rest : words_at n (at + 4) count ≡ replicate count 0 =
    words-zero n (at + 4) count (λ place least less. zeros place (omega (arith, least)) (omega (arith, less))) in
    ap (λ (w : ℕ). w ∷ words_at n (at + 4) count) first ∙ ap (λ (ws : List ℕ). 0 ∷ ws) rest

pub blank-zero : (n : List ℕ) (t : ℕ) → ((place : ℕ) → IsRecordByte t place → slice_index n place ≡ 0) → thread_at n t ≡ blank_thread
unfolding thread_at
blank-zero n t zeros =
    let word' : (k : ℕ) → 48 ≤ k → k + 4 ≤ 244 → word_at n (t + k) ≡ 0 =
    λ k least most. word-zero n (t + k) (λ place from below. zeros place (omega (arith, least, from), omega (arith, most, below))) in
    let words' : (k count : ℕ) → 48 ≤ k → k + 4 * count ≤ 244 → words_at n (t + k) count ≡ replicate count 0 =
    λ k count least most. words-zero n (t + k) count (λ place from below. zeros place (omega (arith, least, from), omega (arith, most, below))) in
    λ i. record {
      registers = record { pc = word' 48 (omega arith) (omega arith) i; words = words' 64 32 (omega arith) (omega arith) i };
      priority = zeros (t + 52) (omega arith, omega arith) i;
      slice = zeros (t + 56) (omega arith, omega arith) i;
      fault_address = word' 60 (omega arith) (omega arith) i;
      status = status_from (word' 192 (omega arith) (omega arith) i) (word' 196 (omega arith) (omega arith) i);
      caller = caller_from (word' 200 (omega arith) (omega arith) i) (word' 204 (omega arith) (omega arith) i);
      sending = sending_from (words' 208 9 (omega arith) (omega arith) i);
    }
