-- Configure with a guard word, by its checks.
use Rattle.std.proofs.Common.{ℕ, ◌≡◌, ◌∙◌, ◌<◌, ◌≤◌, Bool, nat_le, Option, Some, None, Result, Err, List, length, sym, ap}
use Rattle.std.proofs.lemmas.Bool.{le-leb, lt-leb}
use Rattle.model.specs.Capabilities.CapabilityKinds.{thread_of}
use Rattle.model.specs.Kernel.Arguments.{◌>>=◌, Call, check, wanted}
use Rattle.model.specs.Kernel.CallForms.{slot_name, word}
use Rattle.model.specs.Kernel.Invocations.{configure_with_guard}
use Rattle.model.specs.Kernel.State.{State}
use Rattle.model.specs.Kernel.ThreadCalls.{configure}
use Rattle.model.specs.declared.capabilities.Cap.{Cap}
use Rattle.model.specs.declared.capabilities.Cap.TheVariants.{Empty, Untyped, Endpoint, Notification, CNode, Frame, PageTable, Tcb, RootTable, InterruptControl}
use Rattle.model.specs.declared.capabilities.Cap.TheVariants.{InterruptHandler}
use Rattle.model.specs.declared.errors.KError.{KError}
use Rattle.model.specs.declared.errors.KError.TheVariants.{IllegalOperation, TruncatedMessage}
use Rattle.model.specs.declared.invocations.SlotName.{SlotName}

pub tcb-of : (c : Cap) (thread : ℕ) → thread_of c ≡ Some thread → c ≡ Tcb thread
tcb-of Empty thread is = let e : ◌≡◌ {A = Option ℕ} None (Some thread) = is in absurd cc
tcb-of (Untyped a b d) thread is = let e : ◌≡◌ {A = Option ℕ} None (Some thread) = is in absurd cc
tcb-of (Endpoint a r b) thread is = let e : ◌≡◌ {A = Option ℕ} None (Some thread) = is in absurd cc
tcb-of (Notification a r b) thread is = let e : ◌≡◌ {A = Option ℕ} None (Some thread) = is in absurd cc
tcb-of (CNode a r g) thread is = let e : ◌≡◌ {A = Option ℕ} None (Some thread) = is in absurd cc
tcb-of (Frame a r m) thread is = let e : ◌≡◌ {A = Option ℕ} None (Some thread) = is in absurd cc
tcb-of (PageTable a m) thread is = let e : ◌≡◌ {A = Option ℕ} None (Some thread) = is in absurd cc
tcb-of (Tcb a) thread is = let e : a ≡ thread = cc is in ap Tcb e
tcb-of (RootTable a) thread is = let e : ◌≡◌ {A = Option ℕ} None (Some thread) = is in absurd cc
tcb-of InterruptControl thread is = let e : ◌≡◌ {A = Option ℕ} None (Some thread) = is in absurd cc
tcb-of (InterruptHandler a) thread is = let e : ◌≡◌ {A = Option ℕ} None (Some thread) = is in absurd cc

module _ (s : State) (call : Call) (words : List ℕ) where
  -- the call, by the thread and by whether there are six words
  abbrev guarded : Option ℕ → Bool → Result State KError
  guarded found long = do
    thread ← wanted found IllegalOperation
    _ ← check long TruncatedMessage
    configure s call.root thread (Some (word words 5)) (word words 0) (slot_name words 1) (slot_name words 3)

  guarded-is : (found : Option ℕ) → found ≡ thread_of call.capability → configure_with_guard s call words ≡ guarded found (nat_le 6 (length words))
  unfolding configure_with_guard
  guarded-is found is = ap (λ (o : Option ℕ). guarded o (nat_le 6 (length words))) (sym is)

  pub guarded-none : (found : Option ℕ) → found ≡ thread_of call.capability → found ≡ None → configure_with_guard s call words ≡ Err IllegalOperation
  guarded-none found is none = guarded-is found is ∙ ap (λ (o : Option ℕ). guarded o (nat_le 6 (length words))) none

  pub guarded-short : (found : Option ℕ) (thread : ℕ) → found ≡ thread_of call.capability → found ≡ Some thread → length words < 6 →
      configure_with_guard s call words ≡ Err TruncatedMessage
  guarded-short found thread is some short =
      guarded-is found is ∙ ap (λ (o : Option ℕ). guarded o (nat_le 6 (length words))) some ∙ ap (guarded (Some thread)) (lt-leb 6 (length words) short)

  pub guarded-long : (found : Option ℕ) (thread : ℕ) → found ≡ thread_of call.capability → found ≡ Some thread → 6 ≤ length words
      → (guard : Option ℕ) (address : ℕ) (cspace vspace : SlotName) → guard ≡ Some (word words 5) → address ≡ word words 0 → cspace ≡ slot_name words 1 →
      vspace ≡ slot_name words 3
      → configure_with_guard s call words ≡ configure s call.root thread guard address cspace vspace
  guarded-long found thread is some long guard address cspace vspace sixth first second fourth =
      guarded-is found is ∙ ap (λ (o : Option ℕ). guarded o (nat_le 6 (length words))) some ∙ ap (guarded (Some thread)) (le-leb 6 (length words) long)
      ∙ ap (λ (x : SlotName). configure s call.root thread (Some (word words 5)) (word words 0) (slot_name words 1) x) (sym fourth)
      ∙ ap (λ (x : SlotName). configure s call.root thread (Some (word words 5)) (word words 0) x vspace) (sym second)
      ∙ ap (λ (x : ℕ). configure s call.root thread (Some (word words 5)) x cspace vspace) (sym first)
      ∙ ap (λ (x : Option ℕ). configure s call.root thread x address cspace vspace) (sym sixth)
