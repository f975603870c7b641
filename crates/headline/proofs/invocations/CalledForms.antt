-- Each form of a call reads no more words than it lists, and makes a call on such a capability.
use Rattle.std.proofs.Common.{ℕ, ◌≡◌, ◌==◌, ◌<◌, Bool, true, false, if◌then◌else◌, List, Option, Some, None, refl, subst, arith}
use Rattle.std.specs.Prelude.{⊤}
use Rattle.model.specs.declared.capabilities.Cap.{Cap}
use Rattle.model.specs.declared.capabilities.Cap.TheVariants.{Empty, Untyped, Endpoint, Notification, CNode, Frame, PageTable, Tcb, RootTable, InterruptControl}
use Rattle.model.specs.declared.capabilities.Cap.TheVariants.{InterruptHandler}
use Rattle.model.specs.Kernel.CallForms.{CallForm, acknowledge_label, clear_label, configure_label, copy_label, delete_label, form_of, get_handler_label}
use Rattle.model.specs.Kernel.CallForms.{map_frame_label, map_table_label, mint_label, move_label, mutate_label, resume_label, retype_label, revoke_label}
use Rattle.model.specs.Kernel.CallForms.{set_buffer_label, set_notification_label, set_priority_label, set_register_label, suspend_label, unmap_frame_label}
use Rattle.model.specs.Kernel.CallForms.{unmap_table_label, word}
use Rattle.headline.specs.invocations.Performed.{IsOn}

-- the first words are the same
abbrev pub SameWords : ℕ → List ℕ → List ℕ → Type 0
SameWords count words others = (i : ℕ) → i < count → word words i ≡ word others i

pub record FormFits (capability : Cap) (form : CallForm) : Type 0 where
  pub reads : (words others : List ℕ) → SameWords form.count words others → form.call words ≡ form.call others
  pub on : (words : List ℕ) → IsOn capability (form.call words)

abbrev Fits : Cap → Option CallForm → Type 0
Fits capability None = ⊤
Fits capability (Some form) = FormFits capability form

chosen : (capability : Cap) (b : Bool) (one rest : Option CallForm) → Fits capability one → Fits capability rest → Fits capability (if b then one else rest)
chosen capability true one rest here later = here
chosen capability false one rest here later = later

forms-fit : (capability : Cap) (label : ℕ) → Fits capability (form_of capability label)
forms-fit (Untyped offset bits watermark) label =
    chosen (Untyped offset bits watermark) (label == retype_label) _ _ (record {
      reads = λ words others same. let zero = same 0 (omega arith) in let one = same 1 (omega arith) in let two = same 2 (omega arith) in
          let three = same 3 (omega arith) in let four = same 4 (omega arith) in let five = same 5 (omega arith) in cc;
      on = λ words. refl;
    }) tt
forms-fit (CNode offset radix guard) label =
    let c = CNode offset radix guard in
    chosen c (label == copy_label) _ _ (record {
      reads = λ words others same. let zero = same 0 (omega arith) in let one = same 1 (omega arith) in let two = same 2 (omega arith) in
          let three = same 3 (omega arith) in let four = same 4 (omega arith) in cc;
      on = λ words. (offset, radix, guard, refl);
    })
    (chosen c (label == mint_label) _ _ (record {
      reads = λ words others same. let zero = same 0 (omega arith) in let one = same 1 (omega arith) in let two = same 2 (omega arith) in
          let three = same 3 (omega arith) in let four = same 4 (omega arith) in let five = same 5 (omega arith) in cc;
      on = λ words. (offset, radix, guard, refl);
    })
    (chosen c (label == move_label) _ _ (record {
      reads = λ words others same. let zero = same 0 (omega arith) in let one = same 1 (omega arith) in let two = same 2 (omega arith) in
          let three = same 3 (omega arith) in cc;
      on = λ words. (offset, radix, guard, refl);
    })
    (chosen c (label == mutate_label) _ _ (record {
      reads = λ words others same. let zero = same 0 (omega arith) in let one = same 1 (omega arith) in let two = same 2 (omega arith) in
          let three = same 3 (omega arith) in let four = same 4 (omega arith) in cc;
      on = λ words. (offset, radix, guard, refl);
    })
    (chosen c (label == delete_label) _ _ (record {
      reads = λ words others same. let zero = same 0 (omega arith) in let one = same 1 (omega arith) in cc;
      on = λ words. (offset, radix, guard, refl);
    })
    (chosen c (label == revoke_label) _ _ (record {
      reads = λ words others same. let zero = same 0 (omega arith) in let one = same 1 (omega arith) in cc;
      on = λ words. (offset, radix, guard, refl);
    }) tt)))))
forms-fit (Frame offset held mapping) label =
    let c = Frame offset held mapping in
    chosen c (label == map_frame_label) _ _ (record {
      reads = λ words others same. let zero = same 0 (omega arith) in let one = same 1 (omega arith) in let two = same 2 (omega arith) in
          let three = same 3 (omega arith) in cc;
      on = λ words. (offset, mapping, refl);
    })
    (chosen c (label == unmap_frame_label) _ _ (record { reads = λ words others same. refl; on = λ words. (offset, mapping, refl) }) tt)
forms-fit (Tcb offset) label =
    let c = Tcb offset in
    chosen c (label == configure_label) _ _ (record {
      reads = λ words others same. let zero = same 0 (omega arith) in let one = same 1 (omega arith) in let two = same 2 (omega arith) in
          let three = same 3 (omega arith) in let four = same 4 (omega arith) in cc;
      on = λ words. tt;
    })
    (chosen c (label == set_priority_label) _ _ (record { reads = λ words others same. let zero = same 0 (omega arith) in cc; on = λ words. tt })
    (chosen c (label == set_register_label) _ _ (record {
      reads = λ words others same. let zero = same 0 (omega arith) in let one = same 1 (omega arith) in cc;
      on = λ words. tt;
    })
    (chosen c (label == resume_label) _ _ (record { reads = λ words others same. refl; on = λ words. tt })
    (chosen c (label == suspend_label) _ _ (record { reads = λ words others same. refl; on = λ words. tt })
    (chosen c (label == set_buffer_label) _ _ (record {
      reads = λ words others same. let zero = same 0 (omega arith) in let one = same 1 (omega arith) in cc;
      on = λ words. tt;
    }) tt)))))
forms-fit (PageTable offset mapping) label =
    let c = PageTable offset mapping in
    chosen c (label == map_table_label) _ _ (record {
      reads = λ words others same. let zero = same 0 (omega arith) in let one = same 1 (omega arith) in let two = same 2 (omega arith) in cc;
      on = λ words. tt;
    })
    (chosen c (label == unmap_table_label) _ _ (record { reads = λ words others same. refl; on = λ words. tt }) tt)
forms-fit InterruptControl label =
    chosen InterruptControl (label == get_handler_label) _ _ (record {
      reads = λ words others same. let zero = same 0 (omega arith) in let one = same 1 (omega arith) in let two = same 2 (omega arith) in cc;
      on = λ words. tt;
    }) tt
forms-fit (InterruptHandler irq_line) label =
    let c = InterruptHandler irq_line in
    chosen c (label == acknowledge_label) _ _ (record { reads = λ words others same. refl; on = λ words. refl })
    (chosen c (label == set_notification_label) _ _ (record {
      reads = λ words others same. let zero = same 0 (omega arith) in let one = same 1 (omega arith) in cc;
      on = λ words. refl;
    })
    (chosen c (label == clear_label) _ _ (record { reads = λ words others same. refl; on = λ words. refl }) tt))
forms-fit Empty label = tt
forms-fit (Endpoint offset r badge) label = tt
forms-fit (Notification offset r badge) label = tt
forms-fit (RootTable offset) label = tt

pub form-fits : (capability : Cap) (label : ℕ) (form : CallForm) → form_of capability label ≡ Some form → FormFits capability form
form-fits capability label form is = subst (Fits capability) is (forms-fit capability label)
