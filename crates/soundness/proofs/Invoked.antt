-- Every call on a capability keeps soundness.
use Rattle.std.proofs.Common.{ℕ, ◌≡◌, ◌∙◌, ◌==◌, ◌^◌, ◌<◌, Bool, true, false, nat_le, if◌then◌else◌, List, length, Option, Some, None, Result, Ok, refl, ap}
use Rattle.std.proofs.Common.{subst}
use Rattle.std.specs.Prelude.{All}
use Rattle.model.specs.declared.capabilities.Cap.{Cap}
use Rattle.model.specs.declared.capabilities.Cap.TheVariants.{Empty, Untyped, Endpoint, Notification, CNode, Frame, PageTable, Tcb, RootTable, InterruptControl}
use Rattle.model.specs.declared.capabilities.Cap.TheVariants.{InterruptHandler}
use Rattle.model.specs.declared.errors.KError.{KError}
use Rattle.model.specs.declared.errors.KError.TheVariants.{IllegalOperation, TruncatedMessage}
use Rattle.model.specs.declared.invocations.UntypedMemory.{UntypedMemory}
use Rattle.model.specs.declared.invocations.FrameCall.TheVariants.{MapFrame, UnmapFrame}
use Rattle.model.specs.declared.invocations.TableCall.TheVariants.{MapTable, UnmapTable}
use Rattle.model.specs.Capabilities.CapabilityWords.{IsCapability}
use Rattle.model.specs.Kernel.Arguments.{Call, argument_slot, check, wanted}
use Rattle.model.specs.Kernel.CallForms.{CallForm, acknowledge_label, clear_label, cnode_form, configure_label, copy_label, decode, delete_label, form_called}
use Rattle.model.specs.Kernel.CallForms.{form_of, get_handler_label, handler_form, map_frame_label, map_table_label, mint_label, move_label, mutate_label}
use Rattle.model.specs.Kernel.CallForms.{resume_label, retype_label, revoke_label, set_buffer_label, set_notification_label, set_priority_label}
use Rattle.model.specs.Kernel.CallForms.{set_register_label, slot_name, suspend_label, thread_form, unmap_frame_label, unmap_table_label, untyped_form, word}
use Rattle.model.specs.Kernel.Interrupts.{acknowledge}
use Rattle.model.specs.Kernel.Invocations.{invoke, perform}
use Rattle.model.specs.Kernel.Kinds.{kind_at, object_named}
use Rattle.model.specs.Kernel.Retype.{NewThread}
use Rattle.model.specs.Kernel.State.{State, binding_slot}
use Rattle.model.specs.Kernel.ThreadCalls.{resume, suspend}
use Rattle.soundness.specs.Calls.{IsCall}
use Rattle.model.specs.Kernel.Soundness.{IsSound}
use Rattle.soundness.proofs.CNodeCalls.{copy-sound, mint-sound, move-sound, mutate-sound}
use Rattle.soundness.proofs.CopyingCalls.{configure-whole, get-sound, set_buffer-sound}
use Rattle.soundness.proofs.Delivered.{read-less}
use Rattle.soundness.proofs.Events.{acknowledge-whole}
use Rattle.soundness.proofs.Lookups.{passes-both, wanted-some}
use Rattle.soundness.proofs.MappingCalls.{IsAt, frame-sound, invoked-at, table-sound}
use Rattle.soundness.proofs.Rebound.{bind-sound}
use Rattle.soundness.proofs.Removed.{deleted-sound, revoked-sound}
use Rattle.soundness.proofs.RetypeCalls.{retype-whole}
use Rattle.soundness.proofs.ThreadCalls.{resume-whole, set_priority-whole, set_register-whole, suspend-whole}

-- one form or another
chosen : (P : CallForm → Type 0) (b : Bool) (one : CallForm) (rest : Option CallForm) (form : CallForm) → P one → (rest ≡ Some form → P form)
    → (if b then Some one else rest) ≡ Some form → P form
chosen P true one rest form here later is = let e : one ≡ form = cc is in subst P e here
chosen P false one rest form here later is = later is

module _ (s t : State) (call : Call) (words : List ℕ) (whole : IsSound s) (is_call : IsCall s call) (small : All (λ word. word < 2 ^ 32) words) where
  -- what a form does
  abbrev Does : CallForm → Type 0
  Does form = perform s call (form.call words) ≡ Ok t → IsSound t

  none-left : (form : CallForm) → None ≡ Some form → Does form
  none-left form is = let e : ◌≡◌ {A = Option CallForm} None (Some form) = is in absurd cc

  word-less : (i : ℕ) → word words i < 2 ^ 32
  word-less i = read-less words i small

  done : (after : State) → ◌≡◌ {A = Result State KError} (Ok after) (Ok t) → IsSound after → IsSound t
  done after is kept = let e : after ≡ t = cc is in subst IsSound e kept

  untyped-does : (offset bits watermark label : ℕ) (form : CallForm) → call.capability ≡ Untyped offset bits watermark
      → untyped_form (record { offset = offset; bits = bits; watermark = watermark }) label ≡ Some form → Does form
  untyped-does offset bits watermark label form is =
      let at = invoked-at s call (Untyped offset bits watermark) is_call.invoked is refl in
      let memory : UntypedMemory = record { offset = offset; bits = bits; watermark = watermark } in
      chosen Does (label == retype_label) _ _ form (λ so. retype-whole s t call.root call.slot memory _ whole is_call.root (IsAt.at at) so) (none-left form)

  thread-does : (thread label : ℕ) (form : CallForm) → call.capability ≡ Tcb thread → thread_form thread label ≡ Some form → Does form
  thread-does thread label form is =
      let at = invoked-at s call (Tcb thread) is_call.invoked is refl in
      let is_thread : kind_at s thread ≡ Some NewThread = whole.memory.named call.slot NewThread thread (ap object_named (IsAt.at at)) in
      chosen Does (label == configure_label) _ _ form
      (λ so. configure-whole s t call.root thread None (word words 0) (slot_name words 1) (slot_name words 3) whole is_thread (word-less 0) so)
      (chosen Does (label == set_priority_label) _ _ form (λ so. set_priority-whole s whole thread is_thread t (word words 0) so)
      (chosen Does (label == set_register_label) _ _ form
      (λ so. set_register-whole s whole thread is_thread t call.caller (word words 0) (word words 1) (word-less 1) so)
      (chosen Does (label == resume_label) _ _ form (λ so. done (resume s thread) so (resume-whole s whole thread is_thread))
      (chosen Does (label == suspend_label) _ _ form (λ so. done (suspend s thread) so (suspend-whole s whole thread is_thread))
      (chosen Does (label == set_buffer_label) _ _ form (λ so. set_buffer-sound s t call.root thread (slot_name words 0) whole is_thread so)
      (none-left form))))))

  cnode-does : (label : ℕ) (form : CallForm) → cnode_form label ≡ Some form → Does form
  cnode-does label form =
      chosen Does (label == copy_label) _ _ form
      (λ so. copy-sound s t call (slot_name words 0) (slot_name words 2) (word words 4) whole is_call so)
      (chosen Does (label == mint_label) _ _ form
      (λ so. mint-sound s t call (slot_name words 0) (slot_name words 2) (word words 4) (word words 5) whole is_call so)
      (chosen Does (label == move_label) _ _ form (λ so. move-sound s t call (slot_name words 0) (slot_name words 2) whole is_call so)
      (chosen Does (label == mutate_label) _ _ form
      (λ so. mutate-sound s t call (slot_name words 0) (slot_name words 2) (word words 4) whole is_call so)
      (chosen Does (label == delete_label) _ _ form
      (λ so. let one = passes-both (argument_slot s.slots call.capability (slot_name words 0)) _ t so in deleted-sound s t one.value whole one.rest)
      (chosen Does (label == revoke_label) _ _ form
      (λ so. let one = passes-both (argument_slot s.slots call.capability (slot_name words 0)) _ t so in revoked-sound s t one.value whole one.rest)
      (none-left form))))))

  handler-does : (number label : ℕ) (form : CallForm) → call.capability ≡ InterruptHandler number → handler_form number label ≡ Some form → Does form
  handler-does number label form is =
      let at = invoked-at s call (InterruptHandler number) is_call.invoked is refl in
      let less : number < 64 = (let valid : IsCapability (InterruptHandler number) = subst IsCapability (IsAt.at at) (whole.slots.derivation.valid call.slot) in
      valid) in
      chosen Does (label == acknowledge_label) _ _ form (λ so. done (acknowledge s number) so (acknowledge-whole s number whole))
      (chosen Does (label == set_notification_label) _ _ form (λ so. bind-sound s t call number (slot_name words 0) whole is_call less so)
      (chosen Does (label == clear_label) _ _ form (λ so. deleted-sound s t (binding_slot s number) whole so) (none-left form)))

  form-does : (c : Cap) (label : ℕ) (form : CallForm) → call.capability ≡ c → form_of c label ≡ Some form → Does form
  form-does (Untyped offset bits watermark) label form is found = untyped-does offset bits watermark label form is found
  form-does (Tcb thread) label form is found = thread-does thread label form is found
  form-does (CNode offset radix guard) label form is found = cnode-does label form found
  form-does (Frame offset allowed mapping) label form is found =
      chosen Does (label == map_frame_label) _ _ form
      (λ so. frame-sound s t call offset allowed mapping (MapFrame (slot_name words 0) (word words 2) (word words 3)) whole is_call is so)
      (chosen Does (label == unmap_frame_label) _ _ form (λ so. frame-sound s t call offset allowed mapping UnmapFrame whole is_call is so) (none-left form))
      found
  form-does (PageTable offset mapping) label form is found =
      chosen Does (label == map_table_label) _ _ form
      (λ so. table-sound s t call offset mapping (MapTable (slot_name words 0) (word words 2)) whole is_call is so)
      (chosen Does (label == unmap_table_label) _ _ form (λ so. table-sound s t call offset mapping UnmapTable whole is_call is so) (none-left form)) found
  form-does InterruptControl label form is found =
      chosen Does (label == get_handler_label) _ _ form (λ so. get-sound s t call (word words 0) (slot_name words 1) whole is_call is so) (none-left form) found
  form-does (InterruptHandler number) label form is found = handler-does number label form is found
  form-does Empty label form is found = none-left form found
  form-does (Endpoint offset r badge) label form is found = none-left form found
  form-does (Notification offset r badge) label form is found = none-left form found
  form-does (RootTable offset) label form is found = none-left form found

  invoked : (label extra : ℕ) → invoke s call label extra words ≡ Ok t → IsSound t
  unfolding invoke decode
  invoked label extra is =
      let one = passes-both (decode call.capability label extra words) _ t is in
      let two = passes-both (form_called call.capability label extra (length words)) _ one.value one.first in
      let three = passes-both (check (extra == 0) TruncatedMessage) _ two.value two.first in
      let four = passes-both (wanted (form_of call.capability label) IllegalOperation) _ two.value three.rest in
      let five = passes-both (check (nat_le four.value.count (length words)) TruncatedMessage) _ two.value four.rest in
      let same : four.value ≡ two.value = cc five.rest in
      let made : four.value.call words ≡ one.value = ap (λ (f : CallForm). f.call words) same ∙ cc two.rest in
      form-does call.capability label four.value refl (wanted-some (form_of call.capability label) IllegalOperation four.value four.first)
      (ap (perform s call) made ∙ one.rest)

pub invoke-whole : (s t : State) (call : Call) (label extra : ℕ) (words : List ℕ) → IsSound s → IsCall s call
    → All (λ word. word < 2 ^ 32) words
    → invoke s call label extra words ≡ Ok t → IsSound t
invoke-whole s t call label extra words whole is_call small is = invoked s t call words whole is_call small label extra is
