-- A step that changes the thread's own registers, and bytes that it may write, stays within authority.
use Rattle.std.proofs.Common.{ℕ, ◌≡◌, ◌≢◌, ◌++◌, Bool, if◌then◌else◌, Option, Some, option_map, List, [], ◌∷◌, refl, sym, ◌∙◌, ap, subst, inl, inr, arith}
use Rattle.std.specs.Option.{option_map_or}
use Rattle.std.proofs.lemmas.Bool.{eq-eqb, ne_eqb}
use Rattle.std.proofs.lemmas.Bool.Decides.{eqb_tells}
use Rattle.model.specs.declared.capabilities.Cap.{Cap}
use Rattle.model.specs.declared.capabilities.Cap.TheVariants.{Untyped}
use Rattle.model.specs.Acceptance.Authority.{RightChange, kept, SliceChange, same_slice, WithinAuthority, written, self_of}
use Rattle.model.specs.Capabilities.Slots.{capability_at}
use Rattle.model.specs.Images.Image.{Image, Thread}
use Rattle.model.specs.Kernel.Kinds.{kind_at, kind_of}
use Rattle.model.specs.Kernel.Messages.{with_registers}
use Rattle.model.specs.Kernel.State.{State, Object, ThreadObject, EndpointObject, NotificationObject, ThreadState, as_thread, new_thread, thread_at}
use Rattle.model.specs.Machine.ProgramMemory.{RegisterFile}
use Rattle.model.specs.Shared.Lists.{without}
use Rattle.headline.specs.authority.Scenarios.{WritesOwnBytes}

pub append-none : (l : List ℕ) → l ≡ l ++ []
append-none [] = refl
append-none (x ∷ l) = ap (λ (rest : List ℕ). x ∷ rest) (append-none l)

-- what is so of the thread that was there and the one that is there
pub between : (Kept : ThreadState → ThreadState → Type 0) (was is : Option Object) (own last : ThreadState) → was ≡ Some (ThreadObject own)
    → is ≡ Some (ThreadObject last) → Kept own last → (old new : ThreadState) → was ≡ Some (ThreadObject old) → is ≡ Some (ThreadObject new) → Kept old new
between Kept was is own last there here change old new before behind =
    let e : Some (ThreadObject own) ≡ Some (ThreadObject old) = sym there ∙ before in
    let f : ThreadObject own ≡ ThreadObject old = cc in
    let g : own ≡ old = cc in
    let h : Some (ThreadObject last) ≡ Some (ThreadObject new) = sym here ∙ behind in
    let i : ThreadObject last ≡ ThreadObject new = cc in
    let j : last ≡ new = cc in
    subst (λ (u : ThreadState). Kept u new) g (subst (λ (u : ThreadState). Kept own u) j change)

-- one capability has one watermark
pub one-used : (capability : Cap) (offset bits old new : ℕ) → capability ≡ Untyped offset bits old → capability ≡ Untyped offset bits new → old ≢ new → ⊥
one-used capability offset bits old new before behind differs =
    let e : Untyped offset bits old ≡ Untyped offset bits new = sym before ∙ behind in
    let f : old ≡ new = cc in differs f

module _ (image : Image) (t : Thread) (s : State) (own : ThreadState) (registers : RegisterFile) (bytes : ℕ → Option ℕ)
    (is : s.objects (self_of image t) ≡ Some (ThreadObject own)) (another : own.caller ≢ Some (self_of image t))
    (wrote : WritesOwnBytes image t s bytes) where
  last : ThreadState
  last = record (thread_at s (self_of image t)) { registers = registers }

  at-self : (with_registers s (self_of image t) registers).objects (self_of image t) ≡ Some (ThreadObject last)
  unfolding last
  at-self = ap (λ (b : Bool). if b then Some (ThreadObject last) else s.objects (self_of image t)) (eq-eqb (self_of image t) (self_of image t) refl)

  -- apart from its registers the thread stays
  own-is : thread_at s (self_of image t) ≡ own
  own-is = ap (λ (o : Option Object). option_map_or (λ (u : ThreadState). u) (as_thread o) new_thread) is

  other-same : (offset : ℕ) → offset ≢ self_of image t → (with_registers s (self_of image t) registers).objects offset ≡ s.objects offset
  other-same offset differs =
      ap (λ (b : Bool). if b then Some (ThreadObject (record (thread_at s (self_of image t)) { registers = registers })) else s.objects offset)
      (ne_eqb offset (self_of image t) differs)

  kind-same : (offset : ℕ) → kind_at s offset ≡ option_map kind_of ((with_registers s (self_of image t) registers).objects offset)
  kind-same offset = elim (eqb_tells offset (self_of image t)) [
    | inl here ↦
        ap (λ (n : ℕ). option_map kind_of (s.objects n)) here.1 ∙ ap (option_map kind_of) is
        ∙ sym (ap (λ (b : Bool). option_map kind_of (if b then Some (ThreadObject (record (thread_at s (self_of image t)) { registers = registers })) else
        s.objects offset)) here.0)
    | inr apart ↦ ap (option_map kind_of) (sym (other-same offset apart.1))
  ]

  -- what is no thread is another object
  never-self : (offset : ℕ) (o : Object) → s.objects offset ≡ Some o → (o ≡ ThreadObject own → ⊥) → offset ≢ self_of image t
  never-self offset o there apart same =
      let e : Some o ≡ Some (ThreadObject own) = sym there ∙ ap s.objects same ∙ is in
      let f : o ≡ ThreadObject own = cc in apart f

  pub plain-within : WithinAuthority image t s (record (with_registers s (self_of image t) registers) { bytes = bytes })
  unfolding last
  plain-within = record {
    memory_bits = refl;
    boot_radix = refl;
    bytes = λ place differs. let w = wrote.written place differs in written w.0 w.1 w.2.0 w.2.1;
    objects = λ offset differs. absurd (differs (kind-same offset));
    slots = λ slot differs. absurd (differs refl);
    frame_mappings = λ slot mapping differs either. absurd (differs refl);
    table_mappings = λ slot mapping differs either. absurd (differs refl);
    mapped = λ slot mapping fresh there. absurd (fresh there);
    capabilities = λ slot differs some. absurd (differs refl);
    endpoints = λ offset old new before behind differs.
        let apart = never-self offset (EndpointObject old) before (λ e. cc) in
        let e : Some (EndpointObject new) ≡ Some (EndpointObject old) = sym behind ∙ other-same offset apart ∙ before in
        let f : old ≡ new = cc in absurd (differs f);
    notifications = λ offset old new before behind differs.
        let apart = never-self offset (NotificationObject old) before (λ e. cc) in
        let e : Some (NotificationObject new) ≡ Some (NotificationObject old) = sym behind ∙ other-same offset apart ∙ before in
        let f : old ≡ new = cc in absurd (differs f);
    parents = λ slot differs. absurd (differs refl);
    used = λ slot offset bits old new before behind differs. absurd (one-used (capability_at s.slots slot) offset bits old new before behind differs);
    priority = between (λ old new. new.priority ≡ old.priority) (s.objects (self_of image t)) _ own last is at-self
        (ap (λ (u : ThreadState). u.priority) own-is);
    slice = between (SliceChange s (record (with_registers s (self_of image t) registers) { bytes = bytes }) (self_of image t)) (s.objects (self_of image t)) _
        own last is at-self (same_slice (ap (λ (u : ThreadState). u.slice) own-is));
    fault_address = between (λ old new. new.fault_address ≡ old.fault_address) (s.objects (self_of image t)) _ own last is at-self
        (ap (λ (u : ThreadState). u.fault_address) own-is);
    right = between
        (λ old new. RightChange image t s (record (with_registers s (self_of image t) registers) { bytes = bytes }) old.caller new.caller)
        (s.objects (self_of image t)) _ own last is at-self
        (kept (ap (λ (u : ThreadState). u.caller) own-is) (λ caller right. other-same caller (λ same. another (right ∙ ap (λ (n : ℕ). Some n) same))));
    threads = λ other old new apart before behind differs.
        let e : Some (ThreadObject new) ≡ Some (ThreadObject old) = sym behind ∙ other-same other apart ∙ before in
        let f : old ≡ new = cc in absurd (differs f);
    lines = λ number either. elim either [ inl differs ↦ absurd (differs refl) | inr differs ↦ absurd (differs refl) ];
    ready = λ priority. record {
      added = [];
      list = append-none (without (self_of image t) (s.ready priority));
      woken = λ thread there. absurd (omega (arith, there.1));
      once = λ thread. omega arith;
      own = omega arith;
    };
  }
