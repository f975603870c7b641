-- A system call that invokes nothing goes well.
use Rattle.std.proofs.Common.{ℕ, ◌≡◌, ◌∙◌, ◌+◌, ◌%◌, ◌^◌, ◌++◌, false, None, option_map, Ok, List, [], ◌∷◌, refl, sym, ap, subst}
use Rattle.std.specs.Prelude.{Contains}
use Rattle.headline.specs.calls.Messages.{IsInvoked}
use Rattle.headline.specs.facts.Standing.{AllStand}
use Rattle.model.specs.declared.labels.Label.{Label}
use Rattle.model.specs.declared.labels.Label.TheVariants.{Ran}
use Rattle.model.specs.declared.labels.Outcome.{Outcome}
use Rattle.model.specs.declared.labels.Outcome.TheVariants.{Plain, Put}
use Rattle.model.specs.Acceptance.Accepted.{IsAccepted}
use Rattle.model.specs.Acceptance.CallRules.{AfterCall, by_call, changes_nothing}
use Rattle.model.specs.Acceptance.NotedStates.{PointState}
use Rattle.model.specs.Acceptance.PointStates.{point_of}
use Rattle.model.specs.Acceptance.ThreadInvariants.{tcb_of}
use Rattle.model.specs.Capabilities.Slots.{capability_at}
use Rattle.model.specs.Images.Described.{Numbered, numbered_threads}
use Rattle.model.specs.Images.Image.{Image}
use Rattle.model.specs.Kernel.Kinds.{kind_of}
use Rattle.model.specs.Kernel.Messages.{a0, passes, reply}
use Rattle.model.specs.Kernel.Soundness.{IsSound}
use Rattle.model.specs.Kernel.State.{State, ThreadState}
use Rattle.model.specs.Kernel.Steps.{calls, memory_base, named_slot, registers_of}
use Rattle.model.specs.declared.system_calls.SendCall.{SendCall}
use Rattle.model.specs.declared.system_calls.ReceiveCall.TheVariants.{Receiving, Polling}
use Rattle.model.specs.declared.system_calls.SystemCall.{SystemCall}
use Rattle.model.specs.declared.system_calls.SystemCall.TheVariants.{Sends, Receives, RepliesAndReceives, Replies, Yields, PutsCharacter}
use Rattle.model.specs.Kernel.Waits.{is_waited}
use Rattle.model.specs.Machine.ProgramMemory.{read}
use Rattle.headline.specs.moves.Moving.{CallsAt}
use Rattle.headline.specs.moves.Laws.{Laws}
use Rattle.headline.proofs.moves.Calling.{IsCounted, counted}
use Rattle.headline.proofs.moves.ReceiveCalls.{IsFine, receive-fine}
use Rattle.headline.proofs.moves.Replies.{HasReplied, reply-stands}
use Rattle.headline.proofs.moves.SendCalls.{send-fine}
use Rattle.headline.proofs.moves.SimpleCalls.{passes-stand, yields-stand}

module _ (laws : Laws) (bytes : List ℕ) (image : Image) (s : State) (labels : List Label) (accepted : IsAccepted bytes image) (all : AllStand image s labels)
    (t : Numbered) (listed : Contains (numbered_threads image) t) (own : ThreadState) (point : ℕ) (state : PointState) (left : AfterCall)
    (at : CallsAt image t s labels own point state left) (pc : ℕ) where
  abbrev tcb : ℕ
  tcb = tcb_of image t

  abbrev behind : Outcome → List Label
  behind outcome = labels ++ Ran (memory_base + tcb) pc outcome ∷ []

  counts : (outcome : Outcome) → is_waited outcome ≡ left.is_wait → IsCounted image t labels (behind outcome) left.is_wait
  counts outcome same = subst (IsCounted image t labels (behind outcome)) same (counted image t labels pc outcome)

  sound-replied : IsSound (reply s tcb)
  sound-replied = laws.replies s tcb all.sound (ap (option_map kind_of) at.there)

  answers-first : HasReplied image t (reply s tcb) labels own point state left
  answers-first = reply-stands laws bytes image s labels accepted all t listed own point state left at sound-replied

  passes-fine : (outcome : Outcome) → is_waited outcome ≡ false → left ≡ changes_nothing state false → IsSound (passes s tcb) →
      AllStand image (passes s tcb) (behind outcome)
  passes-fine outcome plain asks =
      passes-stand laws bytes image s labels (behind outcome) accepted all t listed own point state left at
      (counts outcome (plain ∙ sym (ap (λ (l : AfterCall). l.is_wait) asks))) asks

  pub calls-fine : (call : SystemCall) → by_call image t.thread (point_of t point) state call ≡ Ok left
      → ((kind : SendCall) (slot : ℕ) → call ≡ Sends kind → named_slot s tcb ≡ Ok slot → IsInvoked (capability_at s.slots slot) → ⊥)
      → IsSound (calls s tcb call).0 → IsFine image t labels pc (calls s tcb call)
  calls-fine (Sends kind) rule quiet sound = send-fine laws bytes image s labels accepted all t listed own point state left at pc kind rule
      (λ slot. quiet kind slot refl) sound
  calls-fine (Receives Receiving) rule quiet sound = receive-fine laws bytes image s labels accepted all t listed own point state left at pc Receiving rule
      sound
  calls-fine (Receives Polling) rule quiet sound = receive-fine laws bytes image s labels accepted all t listed own point state left at pc Polling rule sound
  calls-fine RepliesAndReceives rule quiet sound =
      receive-fine laws bytes image (reply s tcb) labels accepted answers-first.all t listed (record own { caller = None }) point state left answers-first.at pc
      Receiving rule sound
  calls-fine Replies rule quiet sound =
      let asks = laws.others image t.thread (point_of t point) state Replies left tt rule in
      record {
        faults = refl;
        errors = refl;
        stands = passes-stand laws bytes image (reply s tcb) labels (behind Plain) accepted answers-first.all t listed (record own { caller = None }) point
            state left answers-first.at
            (counts Plain (sym (ap (λ (l : AfterCall). l.is_wait) asks))) asks sound;
      }
  calls-fine Yields rule quiet sound =
      let asks = laws.others image t.thread (point_of t point) state Yields left tt rule in
      record {
        faults = refl;
        errors = refl;
        stands = yields-stand laws bytes image s labels (behind Plain) accepted all t listed own point state left at
            (counts Plain (sym (ap (λ (l : AfterCall). l.is_wait) asks))) asks sound;
      }
  calls-fine PutsCharacter rule quiet sound =
      let asks = laws.others image t.thread (point_of t point) state PutsCharacter left tt rule in
      record { faults = refl; errors = refl; stands = passes-fine (Put (read (registers_of s tcb) a0 % 2 ^ 8)) refl asks sound }
