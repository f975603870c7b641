-- Calls of the loader on a thread that does not run, in a state with other slots and with the thread as it is between them.
use Rattle.std.proofs.Common.{ℕ, suc, ◌≡◌, ◌∙◌, ◌==◌, ◌%◌, ◌^◌, ◌<◌, ◌≤◌, Bool, true, false, not, if◌then◌else◌, Option, Some, List, [], ◌∷◌, map, fold, Ok}
use Rattle.std.proofs.Common.{refl, ap, arith}
use Rattle.std.specs.Prelude.{slice_get, slice_set}
use Rattle.std.specs.Option.{option_map_or}
use Rattle.std.proofs.lemmas.Bool.{eq-eqb, ne_eqb, or_left, or_right}
use Rattle.model.specs.Capabilities.Slots.{Slots, capability_at}
use Rattle.model.specs.Images.Boot.{made}
use Rattle.model.specs.Images.BootCalls.{Calls, LoaderCall, loader_call}
use Rattle.model.specs.Images.Image.{Image}
use Rattle.model.specs.Kernel.CallForms.{resume_label, set_priority_label, set_register_label}
use Rattle.model.specs.Kernel.Scheduling.{is_runnable, leaves, wake}
use Rattle.model.specs.Kernel.Soundness.{HasShape}
use Rattle.model.specs.Kernel.State.{State, Object, ThreadObject, ThreadState, as_thread, new_thread, put, thread_at, with_slots, with_thread}
use Rattle.model.specs.declared.capabilities.Cap.TheVariants.{Tcb}
use Rattle.model.specs.declared.entries.RegisterEntry.{RegisterEntry}
use Rattle.soundness.proofs.boot_laws.CallThreads.{IsThreadSlot, priority-made, register-made, resume-made}
use Rattle.soundness.proofs.boot_laws.RunSequences.{Leads, leads-both, leads-call, leads-none}

-- the state with other slots, and with a thread at an offset
abbrev pub standing : State → Slots → ℕ → ThreadState → State
standing s slots x t = with_thread (with_slots s slots) x t

pub at-standing : (s : State) (slots : Slots) (x : ℕ) (t : ThreadState) → thread_at (standing s slots x t) x ≡ t
at-standing s slots x t = ap (λ b. option_map_or (λ u. u) (as_thread (if b then Some (ThreadObject t) else s.objects x)) new_thread) (eq-eqb x x refl)

put-again : (objects : ℕ → Option Object) (x : ℕ) (a b : Option Object) (offset : ℕ) → put (put objects x a) x b offset ≡ put objects x b offset
put-again objects x a b offset = elim (offset == x) as (λ is. (if is then b else (if is then a else objects offset)) ≡ (if is then b else objects offset))
    [ true ↦ refl | false ↦ refl ]

pub standing-again : (s : State) (slots : Slots) (x : ℕ) (t u : ThreadState) → with_thread (standing s slots x t) x u ≡ standing s slots x u
standing-again s slots x t u = λ i. record (standing s slots x u)
    { objects = λ offset. put-again s.objects x (Some (ThreadObject t)) (Some (ThreadObject u)) offset i }

pub standing-shape : (s : State) (slots : Slots) (x : ℕ) (t : ThreadState) → HasShape s → HasShape (standing s slots x t)
standing-shape s slots x t shape = record {
  least_bits = shape.least_bits;
  most_bits = shape.most_bits;
  least_radix = shape.least_radix;
  most_radix = shape.most_radix;
  room = shape.room;
}

module _ (s : State) (slots : Slots) (x slot : ℕ) (shape : HasShape s) (inside : slot < 2 ^ s.boot_radix) (holds : capability_at slots slot ≡ Tcb x) where
  thread-there : (t : ThreadState) → IsThreadSlot (standing s slots x t) slot x
  thread-there t = record { inside = inside; holds = holds }

  -- another thread in place of the one that is there
  changed : (t : ThreadState) (change : ThreadState → ThreadState) →
      with_thread (standing s slots x t) x (change (thread_at (standing s slots x t) x)) ≡ standing s slots x (change t)
  changed t change =
      ap (λ u. with_thread (standing s slots x t) x (change u)) (at-standing s slots x t) ∙ standing-again s slots x t (change t)

  pub sets-priority : (t : ThreadState) (priority : ℕ) → priority ≤ 255 → is_runnable t.status ≡ false
      → made (standing s slots x t) (loader_call slot set_priority_label (priority ∷ [])) ≡ Ok (standing s slots x (record t { priority = priority }))
  sets-priority t priority small rests =
      priority-made (standing s slots x t) slot x (standing-shape s slots x t shape) (thread-there t) priority small
      (ap (λ u. is_runnable u.status) (at-standing s slots x t) ∙ rests)
      ∙ ap (λ after. Ok after) (changed t (λ u. record u { priority = priority }))

  pub sets-pc : (t : ThreadState) (value : ℕ) → (value % 4 == 0) ≡ true
      → made (standing s slots x t) (loader_call slot set_register_label (0 ∷ value ∷ []))
      ≡ Ok (standing s slots x (record t { registers = record t.registers { pc = value } }))
  sets-pc t value aligned =
      register-made (standing s slots x t) slot x (standing-shape s slots x t shape) (thread-there t) 0 value (omega arith)
      (or_right (not (0 == 0)) (value % 4 == 0) aligned)
      ∙ ap (λ after. Ok after) (changed t (λ u. record u { registers = record u.registers { pc = value } }))

  pub sets-register : (t : ThreadState) (index value : ℕ) → 1 ≤ index → index ≤ 31
      → made (standing s slots x t) (loader_call slot set_register_label (index ∷ value ∷ []))
      ≡ Ok (standing s slots x (record t { registers = record t.registers { words = slice_set t.registers.words index value } }))
  sets-register t index value least most =
      let other : (index == 0) ≡ false = ne_eqb index 0 (λ same. omega (arith, least, same)) in
      let written = λ (b : Bool) (u : ThreadState).
      record u {
        registers = if b then record u.registers { pc = value } else if b then u.registers else
            record u.registers { words = slice_set u.registers.words index value };
      } in
      register-made (standing s slots x t) slot x (standing-shape s slots x t shape) (thread-there t) index value most
      (or_left (not (index == 0)) (value % 4 == 0) (ap not other))
      ∙ ap (λ b. Ok (with_thread (standing s slots x t) x (written b (thread_at (standing s slots x t) x)))) other
      ∙ ap (λ after. Ok after) (changed t (written false))

  pub resumes : (t : ThreadState) → is_runnable t.status ≡ false
      → made (standing s slots x t) (loader_call slot resume_label []) ≡ Ok (wake (leaves (standing s slots x t) x) x)
  resumes t rests =
      resume-made (standing s slots x t) slot x (standing-shape s slots x t shape) (thread-there t)
      (ap (λ u. is_runnable u.status) (at-standing s slots x t) ∙ rests)

  -- ---- one register after another

  abbrev pub register_call : RegisterEntry → LoaderCall
  register_call r = loader_call slot set_register_label (r.register ∷ r.value ∷ [])

  abbrev pub with_words : ThreadState → List ℕ → ThreadState
  with_words t words = record t { registers = record t.registers { words = words } }

  pub sets-registers : (image : Image) (t : ThreadState) (rs : List RegisterEntry)
      → ((j : ℕ) (r : RegisterEntry) → slice_get rs j ≡ Some r → (1 ≤ r.register) × (r.register ≤ 31))
      → Leads image (standing s slots x t) (map Calls (map register_call rs))
      (standing s slots x (with_words t (fold (λ words r. slice_set words r.register r.value) t.registers.words rs)))
  sets-registers image t [] fits = leads-none image (standing s slots x t)
  sets-registers image t (r ∷ rs) fits =
      let here = fits 0 r refl in
      let next = with_words t (slice_set t.registers.words r.register r.value) in
      leads-both image (standing s slots x t) (standing s slots x next) _ (Calls (register_call r) ∷ []) (map Calls (map register_call rs))
      (leads-call image (standing s slots x t) (standing s slots x next) (register_call r) (sets-register t r.register r.value here.0 here.1))
      (sets-registers image next rs (λ j other at. fits (suc j) other at))
