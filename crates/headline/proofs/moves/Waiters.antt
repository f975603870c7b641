-- A thread that waits, and the message that a thread sends.
use Rattle.std.proofs.Common.{ℕ, zero, suc, ◌≡◌, ◌∙◌, ◌==◌, ◌^◌, ◌<◌, ◌≤◌, inl, inr, true, false, if◌then◌else◌, Some, Ok, List, [], ◌∷◌, length, take, map}
use Rattle.std.proofs.Common.{All, refl, sym, ap, subst, arith}
use Rattle.std.specs.Prelude.{Contains, is_some, slice_set}
use Rattle.std.proofs.lemmas.List.Elements.{All-cons, All-nil}
use Rattle.headline.specs.facts.Standing.{AllStand, IsControlBlock}
use Rattle.headline.specs.facts.Waiting.{SendsAs, WaitsSo, behind_reply}
use Rattle.headline.proofs.facts.Laws.{at-place, read-less}
use Rattle.model.specs.declared.instructions.Instr.TheVariants.{Ecall}
use Rattle.model.specs.declared.instructions.Register.{Register}
use Rattle.model.specs.declared.labels.Label.{Label}
use Rattle.model.specs.Acceptance.CallRules.{AfterCall, changes_nothing}
use Rattle.model.specs.Acceptance.NotedStates.{PointState}
use Rattle.model.specs.Acceptance.PointStates.{call_at, instruction_at}
use Rattle.model.specs.Acceptance.Promises.{KeepWords, KeepsPromise}
use Rattle.model.specs.Acceptance.ThreadInvariants.{IsWaiting, StandsAt, ThreadInvariant, runs as runs_so, waits as waits_so, tcb_of}
use Rattle.model.specs.Images.Described.{Numbered, numbered_threads}
use Rattle.model.specs.Images.Image.{Image, ImagePromise}
use Rattle.model.specs.Kernel.Messages.{Message, a0, a1, buffer_of, delivered, greatest_length, info_word, label_of, length_between, length_of}
use Rattle.model.specs.Kernel.Messages.{message_between, message_of, register_words, word_registers, write_words}
use Rattle.model.specs.Kernel.Soundness.{ThreadIsSound}
use Rattle.model.specs.Kernel.State.{State, Status, Inactive, Runnable, Blocked, AwaitsReply, AwaitsHandler, Sender, BySend, ByCall, ByFault, FaultMessage}
use Rattle.model.specs.Kernel.State.{ThreadObject, ThreadState}
use Rattle.model.specs.Kernel.Waits.{open_count}
use Rattle.model.specs.Machine.ProgramMemory.{RegisterFile, read, write}
use Rattle.headline.specs.calls.Laws.{IsMessage}
use Rattle.headline.proofs.moves.LeftAlone.{one-thread}
use Rattle.headline.proofs.moves.Woken.{no-runner}

-- ---- the thread that waits

-- which it is, where it is, and what it waits for
pub record StandsWaiting (image : Image) (s : State) (labels : List Label) (offset : ℕ) (own : ThreadState) : Type 0 where
  pub thread : Numbered
  pub listed : Contains (numbered_threads image) thread
  pub is : offset ≡ tcb_of image thread
  pub point : ℕ
  pub state : PointState
  pub left : AfterCall
  pub stands : StandsAt image thread s own point state
  pub ecall : instruction_at thread.thread point ≡ Some Ecall
  pub call : call_at image thread point state ≡ Some (Ok left)
  pub wait : left.is_wait ≡ true
  pub so : WaitsSo image thread s state left own.status
  pub none : open_count offset labels ≡ 0

no-inactive : (status : Status) → status ≡ Inactive → IsWaiting status → ⊥
no-inactive Inactive is waits = waits
no-inactive Runnable is waits = waits
no-inactive (Blocked queue) is waits = absurd cc
no-inactive AwaitsReply is waits = absurd cc
no-inactive AwaitsHandler is waits = waits

module _ (image : Image) (s : State) (labels : List Label) (all : AllStand image s labels) (offset : ℕ) (own : ThreadState)
    (there : s.objects offset ≡ Some (ThreadObject own)) (waiting : IsWaiting own.status) where
  pub control-waiting : IsControlBlock image offset
  control-waiting = elim (all.others offset own there) [
    | inl rests ↦ absurd (no-inactive own.status rests waiting)
    | inr block ↦ block
  ]

  module _ (u : Numbered) (listed : Contains (numbered_threads image) u) (is : offset ≡ tcb_of image u) where
    there-own : s.objects (tcb_of image u) ≡ Some (ThreadObject own)
    there-own = ap s.objects (sym is) ∙ there

    stands-so : ThreadInvariant image u s labels → StandsWaiting image s labels offset own
    stands-so (runs_so other point state at status stands budget) =
        let same : other ≡ own = one-thread (s.objects (tcb_of image u)) other own at there-own in
        absurd (no-runner own.status (ap (λ (v : ThreadState). v.status) (sym same) ∙ status) waiting)
    stands-so (waits_so other point state at status stands waits none) =
        let same : other ≡ own = one-thread (s.objects (tcb_of image u)) other own at there-own in
        let here = subst (λ (v : ThreadState). StandsAt image u s v point state) same stands in
        record {
          thread = u;
          listed = listed;
          is = is;
          point = point;
          state = state;
          left = waits.1.0;
          stands = here;
          ecall = waits.0;
          call = waits.1.1;
          wait = waits.1.2;
          so = all.wait u listed own point state waits.1.0 there-own here.inside here.pc here.known waits.1.1;
          none = ap (λ (n : ℕ). open_count n labels) is ∙ none;
        }

  pub stands-waiting : StandsWaiting image s labels offset own
  stands-waiting = let block = control-waiting in stands-so block.thread block.listed block.is (all.stand block.thread block.listed)

-- ---- what it sends

pub sent-so : (state : PointState) (left : AfterCall) (x : Sender) → SendsAs state left x → x.sent ≡ BySend → left ≡ changes_nothing state true
sent-so state left x (SendsAs.by_send sent is) kind = is
sent-so state left x (SendsAs.by_call sent grants is) kind = let clash : ByCall ≡ BySend = sym sent ∙ kind in absurd cc

pub called-so : (state : PointState) (left : AfterCall) (x : Sender) → SendsAs state left x → x.sent ≡ ByCall → (x.grant_reply ≡ true)
    × (left ≡ behind_reply state)
called-so state left x (SendsAs.by_send sent is) kind = let clash : BySend ≡ ByCall = sym sent ∙ kind in absurd cc
called-so state left x (SendsAs.by_call sent grants is) kind = (grants, is)

pub no-fault : (state : PointState) (left : AfterCall) (x : Sender) (message : FaultMessage) → SendsAs state left x → x.sent ≡ ByFault message → ⊥
no-fault state left x message (SendsAs.by_send sent is) kind = let clash : BySend ≡ ByFault message = sym sent ∙ kind in absurd cc
no-fault state left x message (SendsAs.by_call sent grants is) kind = let clash : ByCall ≡ ByFault message = sym sent ∙ kind in absurd cc

-- ---- the words of a message

all-read : (r : RegisterFile) (xs : List Register) → All (λ word. word < 2 ^ 32) r.words → All (λ word. word < 2 ^ 32) (map (read r) xs)
all-read r [] are = All-nil (λ word. word < 2 ^ 32)
all-read r (x ∷ xs) are = All-cons (λ word. word < 2 ^ 32) (read r x) (map (read r) xs) (read-less r x are) (all-read r xs are)

taken-few : (r : RegisterFile) (n : ℕ) (xs : List Register) → length (map (read r) (take n xs)) ≤ length xs
taken-few r zero xs = omega arith
taken-few r (suc n) [] = omega arith
taken-few r (suc n) (x ∷ xs) = let rest = taken-few r n xs in omega (arith, rest)

eight : length word_registers ≡ 8
unfolding word_registers
eight = refl

info-less : (info count : ℕ) → info < 2 ^ 32 → count ≤ 120 → info_word (label_of info) count < 2 ^ 32
info-less info count less few = omega (arith, less, few)

-- of so many words, of which registers hold some
own-message : (t : ThreadState) (count : ℕ) → count ≤ 120 → ThreadIsSound t → IsMessage (record (message_of t) { count = count })
own-message t count most sound =
    let r = t.registers in
    let held = length_of (read r a1) in
    record {
      words = all-read r (take held word_registers) sound.words;
      few = subst (λ (n : ℕ). length (map (read r) (take held word_registers)) ≤ n) eight (taken-few r held word_registers);
      info = info-less (read r a1) count (read-less r a1 sound.words) most;
    }

most-words : (s : State) (thread : ℕ) → greatest_length s thread ≤ 120
most-words s thread = elim (is_some (buffer_of s thread)) as (λ b. (if b then 120 else register_words) ≤ 120) [ true ↦ omega arith | false ↦ omega arith ]

-- a sound thread's message to another one
pub message-fine : (s : State) (from to : ℕ) (t : ThreadState) → s.objects from ≡ Some (ThreadObject t) → ThreadIsSound t
    → IsMessage (message_between s from to)
message-fine s from to t is sound =
    let most = most-words s to in
    let few : length_between s from to ≤ 120 = omega (arith, most) in
    subst (λ (u : ThreadState). IsMessage (record (message_of u) { count = length_between s from to })) (sym (at-place s from t is))
    (own-message t (length_between s from to) few sound)

-- promised are words in registers alone
pub message-keeps : (s : State) (from to badge : ℕ) (t : ThreadState) (p : ImagePromise) → s.objects from ≡ Some (ThreadObject t)
    → KeepsPromise p badge (message_of t) → KeepsPromise p badge (message_between s from to)
message-keeps s from to badge t p is keeps = record {
  badge_low = keeps.badge_low;
  badge_high = keeps.badge_high;
  words = subst (λ (u : ThreadState). KeepWords (message_of u).words p.words) (sym (at-place s from t is)) keeps.words;
}

-- a delivery leaves the pc
write-pc : (r : RegisterFile) (x : Register) (value : ℕ) → (write r x value).pc ≡ r.pc
write-pc r x value = elim (x.0 == 0) as (λ b. (if b then r else record r { words = slice_set r.words x.0 value }).pc ≡ r.pc) [ true ↦ refl | false ↦ refl ]

words-pc : (r : RegisterFile) (xs : List Register) (words : List ℕ) → (write_words r xs words).pc ≡ r.pc
words-pc r xs [] = refl
words-pc r [] (word ∷ words) = refl
words-pc r (x ∷ xs) (word ∷ words) = words-pc (write r x word) xs words ∙ write-pc r x word

pub delivered-pc : (r : RegisterFile) (badge : ℕ) (message : Message) → (delivered r badge message).pc ≡ r.pc
delivered-pc r badge message =
    let info = info_word message.label message.count in
    words-pc (write (write r a0 badge) a1 info) word_registers message.words ∙ write-pc (write r a0 badge) a1 info ∙ write-pc r a0 badge
