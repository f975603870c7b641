-- The calls that start a thread.
use Rattle.std.proofs.Common.{◌≡◌, ◌≢◌, ◌∙◌, ℕ, Bool, List, [], ◌∷◌, ◌++◌, map, if◌then◌else◌, Result, Ok, Err, sym, ap, subst, append_assoc}
use Rattle.std.proofs.lemmas.Bool.{eq-eqb, ne_eqb}
use Rattle.model.specs.declared.boot_faults.BootFault.{BootFault}
use Rattle.model.specs.declared.entries.ThreadHeader.{ThreadHeader}
use Rattle.model.specs.Images.BootCalls.{LoaderCall, boot_argument, loader_call, thread_calls}
use Rattle.model.specs.Images.Image.{Image, Thread, no_buffer}
use Rattle.model.specs.Images.Places.{original_slot}
use Rattle.model.specs.Kernel.CallForms.{resume_label, set_buffer_label}
use Rattle.bootstrap.specs.Loading.{Progress, buffer_calls, called, register_call, space_calls, start_calls}
use Rattle.model.specs.Kernel.Outcomes.{GivesState}
use Rattle.bootstrap.proofs.Calls.{calls-fail, leaves-more, then-err, then-ok}

-- ---- SetBuffer

abbrev calls_if : Image → ℕ → ℕ → Bool → List LoaderCall
calls_if image tcb buffer none = if none then [] else loader_call tcb set_buffer_label (boot_argument (original_slot image buffer)) ∷ []

pub unbuffered : (image : Image) (tcb buffer : ℕ) (p : Progress) → buffer ≡ no_buffer → called p (buffer_calls image tcb buffer) ≡ Ok p
unbuffered image tcb buffer p none = ap (λ b. called p (calls_if image tcb buffer b)) (eq-eqb buffer no_buffer none)

pub buffered : {A : Type 0} (image : Image) (tcb buffer frame : ℕ) (p q : Progress) (r : Result A BootFault) → buffer ≢ no_buffer
    → frame ≡ original_slot image buffer → GivesState (called p (loader_call tcb set_buffer_label (boot_argument frame) ∷ [])) r q
    → GivesState (called p (buffer_calls image tcb buffer)) r q
buffered image tcb buffer frame p q r some at given =
    subst (λ (cs : List LoaderCall). GivesState (called p cs) r q)
    (ap (λ (n : ℕ). loader_call tcb set_buffer_label (boot_argument n) ∷ []) at ∙ sym (ap (calls_if image tcb buffer) (ne_eqb buffer no_buffer some))) given

-- ---- the whole

-- where a thread begins, and what names its boot slots
module _ (image : Image) (t : Thread) (tcb cspace vspace : ℕ) (h : ThreadHeader) (header : h ≡ t.header) (at_tcb : tcb ≡ original_slot image h.tcb)
    (at_cspace : cspace ≡ original_slot image h.cnode) (at_vspace : vspace ≡ original_slot image h.root) where
  abbrev last_calls : ℕ → List LoaderCall
  last_calls n = map (register_call n) t.registers ++ loader_call n resume_label [] ∷ []

  abbrev calls_by : ℕ → ℕ → ℕ → ThreadHeader → List LoaderCall
  calls_by n c v k = ((space_calls image n c v k ++ start_calls n k) ++ map (register_call n) t.registers) ++ loader_call n resume_label [] ∷ []

  abbrev first_calls : List LoaderCall
  first_calls = space_calls image tcb cspace vspace h ++ start_calls tcb h

  in-order : first_calls ++ last_calls tcb ≡ thread_calls image t
  in-order =
      sym (append_assoc first_calls (map (register_call tcb) t.registers) (loader_call tcb resume_label [] ∷ []))
      ∙ ap (λ (n : ℕ). calls_by n cspace vspace h) at_tcb ∙ ap (λ (n : ℕ). calls_by (original_slot image h.tcb) n vspace h) at_cspace
      ∙ ap (λ (n : ℕ). calls_by (original_slot image h.tcb) (original_slot image h.cnode) n h) at_vspace
      ∙ ap (λ (k : ThreadHeader). calls_by (original_slot image k.tcb) (original_slot image k.cnode) (original_slot image k.root) k) header

  pub started : {A : Type 0} (p p1 p2 q : Progress) (r : Result A BootFault) → called p (space_calls image tcb cspace vspace h) ≡ Ok p1
      → called p1 (start_calls tcb h) ≡ Ok p2 → GivesState (called p2 (map (register_call tcb) t.registers ++ loader_call tcb resume_label [] ∷ [])) r q
      → GivesState (called p (thread_calls image t)) r q
  started p p1 p2 q r first second rest =
      subst (λ (cs : List LoaderCall). GivesState (called p cs) r q) in-order
      (leaves-more first_calls (last_calls tcb) p p2 q r (then-ok (space_calls image tcb cspace vspace h) (start_calls tcb h) p p1 p2 first second) rest)

  pub not-configured : (p : Progress) (fault : BootFault) → called p (space_calls image tcb cspace vspace h) ≡ Err fault
      → called p (thread_calls image t) ≡ Err fault
  not-configured p fault failed =
      ap (called p) (sym in-order)
      ∙ calls-fail first_calls (last_calls tcb) p fault (calls-fail (space_calls image tcb cspace vspace h) (start_calls tcb h) p fault failed)

  pub not-set : (p p1 : Progress) (fault : BootFault) → called p (space_calls image tcb cspace vspace h) ≡ Ok p1
      → called p1 (start_calls tcb h) ≡ Err fault → called p (thread_calls image t) ≡ Err fault
  not-set p p1 fault first failed =
      ap (called p) (sym in-order)
      ∙ calls-fail first_calls (last_calls tcb) p fault
      (then-err (space_calls image tcb cspace vspace h) (start_calls tcb h) p p1 fault first failed)
