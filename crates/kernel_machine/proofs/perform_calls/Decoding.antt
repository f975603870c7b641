-- A call that a message makes on a capability is one that the capability has.
use Rattle.std.proofs.Common.{ℕ, ◌≡◌, ◌∙◌, ◌==◌, Bool, true, false, nat_le, if◌then◌else◌, List, length, Option, Some, None, Result, Ok, refl, sym, ap, subst}
use Rattle.kernel_machine.specs.perform_calls.Calls.{AppliesTo}
use Rattle.model.specs.Kernel.Arguments.{◌>>=◌, Call, check, wanted}
use Rattle.model.specs.Kernel.CallForms.{CallForm, acknowledge_label, clear_label, cnode_form, configure_label, copy_label, decode, delete_label, form_called}
use Rattle.model.specs.Kernel.CallForms.{form_of, get_handler_label, handler_form, map_frame_label, map_table_label, mint_label, move_label, mutate_label}
use Rattle.model.specs.Kernel.CallForms.{resume_label, retype_label, revoke_label, set_buffer_label, set_notification_label, set_priority_label}
use Rattle.model.specs.Kernel.CallForms.{set_register_label, suspend_label, thread_form, unmap_frame_label, unmap_table_label}
use Rattle.model.specs.Kernel.Invocations.{invoke, perform}
use Rattle.model.specs.Kernel.State.{State}
use Rattle.model.specs.declared.capabilities.Cap.{Cap}
use Rattle.model.specs.declared.capabilities.Cap.TheVariants.{Empty, Untyped, Endpoint, Notification, CNode, Frame, PageTable, Tcb, RootTable, InterruptControl}
use Rattle.model.specs.declared.capabilities.Cap.TheVariants.{InterruptHandler}
use Rattle.model.specs.declared.errors.KError.{KError}
use Rattle.model.specs.declared.errors.KError.TheVariants.{IllegalOperation, TruncatedMessage}
use Rattle.model.specs.declared.invocations.Invocation.{Invocation}
use Rattle.soundness.proofs.Laws.{passes-both, wanted-some}

-- one form or another
chosen : (P : CallForm → Type 0) (b : Bool) (one : CallForm) (rest : Option CallForm) (form : CallForm) → P one → (rest ≡ Some form → P form)
    → (if b then Some one else rest) ≡ Some form → P form
chosen P true one rest form here later is = let e : one ≡ form = cc is in subst P e here
chosen P false one rest form here later is = later is

module _ (words : List ℕ) where
  abbrev Applies : Cap → CallForm → Type 0
  Applies c form = AppliesTo c (form.call words)

  none-left : (c : Cap) (form : CallForm) → None ≡ Some form → Applies c form
  none-left c form is = let e : ◌≡◌ {A = Option CallForm} None (Some form) = is in absurd cc

  thread-applies : (thread label : ℕ) (form : CallForm) → thread_form thread label ≡ Some form → Applies (Tcb thread) form
  thread-applies thread label form =
      chosen (Applies (Tcb thread)) (label == configure_label) _ _ form refl
      (chosen (Applies (Tcb thread)) (label == set_priority_label) _ _ form refl
      (chosen (Applies (Tcb thread)) (label == set_register_label) _ _ form refl
      (chosen (Applies (Tcb thread)) (label == resume_label) _ _ form refl
      (chosen (Applies (Tcb thread)) (label == suspend_label) _ _ form refl
      (chosen (Applies (Tcb thread)) (label == set_buffer_label) _ _ form refl (none-left (Tcb thread) form))))))

  cnode-applies : (offset radix guard label : ℕ) (form : CallForm) → cnode_form label ≡ Some form → Applies (CNode offset radix guard) form
  cnode-applies offset radix guard label form =
      let P = Applies (CNode offset radix guard) in
      let has : (o : ℕ) × (r : ℕ) × (w : ℕ) × (CNode offset radix guard ≡ CNode o r w) = (offset, radix, guard, refl) in
      chosen P (label == copy_label) _ _ form has
      (chosen P (label == mint_label) _ _ form has
      (chosen P (label == move_label) _ _ form has
      (chosen P (label == mutate_label) _ _ form has
      (chosen P (label == delete_label) _ _ form has
      (chosen P (label == revoke_label) _ _ form has (none-left (CNode offset radix guard) form))))))

  handler-applies : (line label : ℕ) (form : CallForm) → handler_form line label ≡ Some form → Applies (InterruptHandler line) form
  handler-applies line label form =
      chosen (Applies (InterruptHandler line)) (label == acknowledge_label) _ _ form refl
      (chosen (Applies (InterruptHandler line)) (label == set_notification_label) _ _ form refl
      (chosen (Applies (InterruptHandler line)) (label == clear_label) _ _ form refl (none-left (InterruptHandler line) form)))

  form-applies : (c : Cap) (label : ℕ) (form : CallForm) → form_of c label ≡ Some form → Applies c form
  form-applies (Untyped offset bits watermark) label form = chosen (Applies (Untyped offset bits watermark)) (label == retype_label) _ _ form refl
      (none-left (Untyped offset bits watermark) form)
  form-applies (Tcb thread) label form = thread-applies thread label form
  form-applies (CNode offset radix guard) label form = cnode-applies offset radix guard label form
  form-applies (Frame offset held mapping) label form =
      chosen (Applies (Frame offset held mapping)) (label == map_frame_label) _ _ form (offset, mapping, refl)
      (chosen (Applies (Frame offset held mapping)) (label == unmap_frame_label) _ _ form (offset, mapping, refl) (none-left (Frame offset held mapping) form))
  form-applies (PageTable offset mapping) label form =
      chosen (Applies (PageTable offset mapping)) (label == map_table_label) _ _ form (offset, mapping, refl)
      (chosen (Applies (PageTable offset mapping)) (label == unmap_table_label) _ _ form (offset, mapping, refl) (none-left (PageTable offset mapping) form))
  form-applies InterruptControl label form = chosen (Applies InterruptControl) (label == get_handler_label) _ _ form refl (none-left InterruptControl form)
  form-applies (InterruptHandler line) label form = handler-applies line label form
  form-applies Empty label form = none-left Empty form
  form-applies (Endpoint offset r badge) label form = none-left (Endpoint offset r badge) form
  form-applies (Notification offset r badge) label form = none-left (Notification offset r badge) form
  form-applies (RootTable offset) label form = none-left (RootTable offset) form

  pub decoded-applies : (c : Cap) (label extra : ℕ) (invocation : Invocation) → decode c label extra words ≡ Ok invocation → AppliesTo c invocation
  unfolding decode
  decoded-applies c label extra invocation is =
      let two = passes-both (form_called c label extra (length words)) _ invocation is in
      let three = passes-both (check (extra == 0) TruncatedMessage) _ two.value two.first in
      let four = passes-both (wanted (form_of c label) IllegalOperation) _ two.value three.rest in
      let five = passes-both (check (nat_le four.value.count (length words)) TruncatedMessage) _ two.value four.rest in
      let same : four.value ≡ two.value = cc five.rest in
      let made : four.value.call words ≡ invocation = ap (λ (f : CallForm). f.call words) same ∙ cc two.rest in
      subst (AppliesTo c) made (form-applies c label four.value (wanted-some (form_of c label) IllegalOperation four.value four.first))

pub invoked-by : (s : State) (call : Call) (label extra : ℕ) (words : List ℕ) (decoded : Result Invocation KError) →
    decoded ≡ decode call.capability label extra words
    → invoke s call label extra words ≡ (decoded >>= perform s call)
unfolding invoke
invoked-by s call label extra words decoded is = ap (λ (d : Result Invocation KError). d >>= perform s call) (sym is)
