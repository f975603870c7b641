-- Which calls a capability has: those of its own kind alone.
use Rattle.std.proofs.Common.{ℕ, ◌≡◌, ◌∙◌, ◌==◌, Bool, true, false, nat_le, if◌then◌else◌, List, length, Option, Some, None, Result, Ok, refl, sym, ap, subst}
use Rattle.std.proofs.lemmas.Bool.{false≢true}
use Rattle.std.proofs.lemmas.Option.{none-some, same_Some}
use Rattle.model.specs.declared.capabilities.Cap.{Cap}
use Rattle.model.specs.declared.capabilities.Cap.TheVariants.{Empty, Untyped, Endpoint, Notification, CNode, Frame, PageTable, Tcb, RootTable, InterruptControl}
use Rattle.model.specs.declared.capabilities.Cap.TheVariants.{InterruptHandler}
use Rattle.model.specs.declared.errors.KError.{KError}
use Rattle.model.specs.declared.errors.KError.TheVariants.{IllegalOperation, TruncatedMessage}
use Rattle.model.specs.declared.invocations.Invocation.{Invocation}
use Rattle.model.specs.declared.invocations.Invocation.TheVariants.{OnUntyped, OnThread, OnCNode, OnFrame, OnTable, OnControl, OnHandler}
use Rattle.model.specs.Kernel.Arguments.{◌>>=◌, check, wanted}
use Rattle.model.specs.Kernel.CallForms.{CallForm, acknowledge_label, clear_label, copy_label, decode, delete_label, form_called, form_of}
use Rattle.model.specs.Kernel.CallForms.{map_frame_label, mint_label, move_label, mutate_label, retype_label, revoke_label}
use Rattle.model.specs.Kernel.CallForms.{set_notification_label, unmap_frame_label}
use Rattle.soundness.proofs.Laws.{passes-both, wanted-some}

-- what a program invokes
abbrev pub may_be_invoked : Cap → Bool
may_be_invoked Empty = false
may_be_invoked (Untyped offset bits watermark) = true
may_be_invoked (Endpoint offset r badge) = false
may_be_invoked (Notification offset r badge) = false
may_be_invoked (CNode offset radix guard) = true
may_be_invoked (Frame offset r mapping) = true
may_be_invoked (PageTable offset mapping) = false
may_be_invoked (Tcb offset) = false
may_be_invoked (RootTable offset) = false
may_be_invoked InterruptControl = false
may_be_invoked (InterruptHandler number) = true

-- the family of a call, with the line of a handler's
pub data Family : Type 0 where
  untyped : Family
  nodes : Family
  frames : Family
  handlers : ℕ → Family
  others : Family

abbrev pub family_of : Invocation → Family
family_of (OnUntyped memory c) = untyped
family_of (OnThread thread c) = others
family_of (OnCNode c) = nodes
family_of (OnFrame held c) = frames
family_of (OnTable c) = others
family_of (OnControl number destination) = others
family_of (OnHandler number c) = handlers number

abbrev pub family_on : Cap → Family
family_on (Untyped offset bits watermark) = untyped
family_on (CNode offset radix guard) = nodes
family_on (Frame offset r mapping) = frames
family_on (InterruptHandler number) = handlers number
family_on _ = others

-- each call of a form is of this family
abbrev IsOf : Family → CallForm → Type 0
IsOf family form = (words : List ℕ) → family_of (form.call words) ≡ family

chosen : (family : Family) (b : Bool) (first : CallForm) (rest : Option CallForm) (form : CallForm) → (if b then Some first else rest) ≡ Some form
    → IsOf family first → (rest ≡ Some form → IsOf family form) → IsOf family form
chosen family true first rest form is fits later = subst (IsOf family) (same_Some first form is) fits
chosen family false first rest form is fits later = later is

no-form : (family : Family) (form : CallForm) → None ≡ Some form → IsOf family form
no-form family form is = absurd (none-some form is)

of-form : (c : Cap) (label : ℕ) (form : CallForm) → may_be_invoked c ≡ true → form_of c label ≡ Some form → IsOf (family_on c) form
of-form Empty label form may is = absurd (false≢true may)
of-form (Untyped offset bits watermark) label form may is =
    chosen untyped (label == retype_label) _ None form is (λ words. refl) (no-form untyped form)
of-form (Endpoint offset r badge) label form may is = absurd (false≢true may)
of-form (Notification offset r badge) label form may is = absurd (false≢true may)
of-form (CNode offset radix guard) label form may is =
    chosen nodes (label == copy_label) _ _ form is (λ words. refl) (λ mints.
    chosen nodes (label == mint_label) _ _ form mints (λ words. refl) (λ moves.
    chosen nodes (label == move_label) _ _ form moves (λ words. refl) (λ mutates.
    chosen nodes (label == mutate_label) _ _ form mutates (λ words. refl) (λ deletes.
    chosen nodes (label == delete_label) _ _ form deletes (λ words. refl) (λ revokes.
    chosen nodes (label == revoke_label) _ None form revokes (λ words. refl) (no-form nodes form))))))
of-form (Frame offset r mapping) label form may is =
    chosen frames (label == map_frame_label) _ _ form is (λ words. refl) (λ unmaps.
    chosen frames (label == unmap_frame_label) _ None form unmaps (λ words. refl) (no-form frames form))
of-form (PageTable offset mapping) label form may is = absurd (false≢true may)
of-form (Tcb offset) label form may is = absurd (false≢true may)
of-form (RootTable offset) label form may is = absurd (false≢true may)
of-form InterruptControl label form may is = absurd (false≢true may)
of-form (InterruptHandler number) label form may is =
    chosen (handlers number) (label == acknowledge_label) _ _ form is (λ words. refl) (λ sets.
    chosen (handlers number) (label == set_notification_label) _ _ form sets (λ words. refl) (λ clears.
    chosen (handlers number) (label == clear_label) _ None form clears (λ words. refl) (no-form (handlers number) form)))

-- and so is what is decoded
pub decoded-family : (c : Cap) (label extra : ℕ) (words : List ℕ) (made : Invocation) → may_be_invoked c ≡ true → decode c label extra words ≡ Ok made
    → family_of made ≡ family_on c
unfolding decode
decoded-family c label extra words made may is =
    let one = passes-both (form_called c label extra (length words)) (λ found. Ok (found.call words)) made is in
    let two = passes-both (check (extra == 0) TruncatedMessage) _ one.value one.first in
    let three = passes-both (wanted (form_of c label) IllegalOperation) _ one.value two.rest in
    let four = passes-both (check (nat_le (three.value).count (length words)) TruncatedMessage) _ one.value three.rest in
    let found : form_of c label ≡ Some three.value = wanted-some (form_of c label) IllegalOperation three.value three.first in
    let same : ◌≡◌ {A = Result Invocation KError} (Ok ((three.value).call words)) (Ok made) =
    ap (λ (r : Result CallForm KError). r >>= (λ (f : CallForm). Ok (f.call words))) four.rest ∙ one.rest in
    let call : (three.value).call words ≡ made = (let e : ◌≡◌ {A = Result Invocation KError} (Ok ((three.value).call words)) (Ok made) = same in cc) in
    ap family_of (sym call) ∙ of-form c label three.value may found words
