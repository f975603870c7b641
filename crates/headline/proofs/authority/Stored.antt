-- A change of slots of the thread's own alone stays within authority.
use Rattle.std.proofs.Common.{ℕ, ◌≡◌, ◌≢◌, ◌==◌, ◌⊎◌, Bool, true, false, if◌then◌else◌, Option, Some, Result, Ok, Err, [], refl, sym, ◌∙◌}
use Rattle.std.proofs.Common.{None, ap, subst, inl, inr, arith}
use Rattle.std.specs.Option.{option_map_or}
use Rattle.std.proofs.lemmas.Bool.{eq-eqb, ne_eqb}
use Rattle.std.proofs.lemmas.Bool.Decides.{eqb_tells}
use Rattle.model.specs.declared.capabilities.Cap.{Cap}
use Rattle.model.specs.declared.capabilities.Cap.TheVariants.{Empty, Untyped}
use Rattle.model.specs.declared.capabilities.FrameMapping.{FrameMapping}
use Rattle.model.specs.declared.capabilities.TableMapping.{TableMapping}
use Rattle.model.specs.declared.errors.KError.{KError}
use Rattle.model.specs.declared.slot_entries.Entry.{Entry}
use Rattle.model.specs.Acceptance.Authority.{Granted, IsOwnSlot, MappingGranted, NewParent, RightChange, kept, SliceChange, same_slice, UsedChange}
use Rattle.model.specs.Acceptance.Authority.{WithinAuthority, self_of}
use Rattle.model.specs.Acceptance.Authority.{without_use}
use Rattle.model.specs.Capabilities.CapabilityKinds.{frame_mapping, table_mapping}
use Rattle.model.specs.Capabilities.Slots.{Slots, capability_at, parent_at}
use Rattle.model.specs.Images.Image.{Image, Thread}
use Rattle.model.specs.Images.Places.{offset_of}
use Rattle.model.specs.Kernel.Arguments.{◌>>=◌, check}
use Rattle.model.specs.Kernel.State.{State, ThreadObject, EndpointObject, NotificationObject, ThreadState, with_slots}
use Rattle.model.specs.Shared.Lists.{without}
use Rattle.headline.proofs.authority.PlainSteps.{append-none, between}

-- ---- checks that passed

pub passed : {B : Type 0} (test : Bool) (error : KError) (f : Unit {0} → Result B KError) (x : B) → (check test error >>= f) ≡ Ok x → (test ≡ true)
    × (f tt ≡ Ok x)
passed true error f x is = (refl, is)
passed false error f x is = let e : Err error ≡ Ok x = is in absurd cc

pub got : {A B : Type 0} (r : Result A KError) (f : A → Result B KError) (x : B) → (r >>= f) ≡ Ok x → (a : A) × (r ≡ Ok a) × (f a ≡ Ok x)
got (Ok a) f x is = (a, refl, is)
got (Err error) f x is = let e : Err error ≡ Ok x = is in absurd cc

pub known : {A B : Type 0} (r : Result A KError) (f : A → Result B KError) (a : A) (x : Result B KError) → r ≡ Ok a → (r >>= f) ≡ x → f a ≡ x
known r f a x is goes = sym (ap (λ q. q >>= f) is) ∙ goes

-- ---- the change

-- what is asked of the slots after it
pub record MayStore (image : Image) (t : Thread) (s after : State) (slots : Slots) : Type 0 where
  pub own : (slot : ℕ) → s.slots slot ≢ slots slot → IsOwnSlot image t slot
  pub frames : (slot : ℕ) (mapping : FrameMapping) → frame_mapping (capability_at s.slots slot) ≢ frame_mapping (capability_at slots slot)
      → (frame_mapping (capability_at s.slots slot) ≡ Some mapping) ⊎ (frame_mapping (capability_at slots slot) ≡ Some mapping)
      → mapping.root ≡ offset_of image t.header.root
  pub tables : (slot : ℕ) (mapping : TableMapping) → table_mapping (capability_at s.slots slot) ≢ table_mapping (capability_at slots slot)
      → (table_mapping (capability_at s.slots slot) ≡ Some mapping) ⊎ (table_mapping (capability_at slots slot) ≡ Some mapping)
      → mapping.root ≡ offset_of image t.header.root
  pub mapped : (slot : ℕ) (mapping : FrameMapping) → frame_mapping (capability_at s.slots slot) ≢ Some mapping
      → frame_mapping (capability_at slots slot) ≡ Some mapping → MappingGranted image t s (capability_at slots slot) mapping
  pub granted : (slot : ℕ) → without_use (capability_at s.slots slot) ≢ without_use (capability_at slots slot)
      → capability_at slots slot ≢ Empty → Granted image t s after (capability_at slots slot)
  pub parents : (slot : ℕ) → parent_at s.slots slot ≢ parent_at slots slot → NewParent image t s after slot (parent_at slots slot)
  pub used : (slot offset bits old new : ℕ) → capability_at s.slots slot ≡ Untyped offset bits old → capability_at slots slot ≡ Untyped offset bits new
      → old ≢ new → UsedChange image t s after slot old new

module _ (image : Image) (t : Thread) (s : State) (own : ThreadState) (is : s.objects (self_of image t) ≡ Some (ThreadObject own)) (slots : Slots)
    (may : MayStore image t s (with_slots s slots) slots) where
  abbrev self : ℕ
  self = self_of image t

  pub stored-within : WithinAuthority image t s (with_slots s slots)
  stored-within = record {
    memory_bits = refl;
    boot_radix = refl;
    bytes = λ place differs. absurd (differs refl);
    objects = λ offset differs. absurd (differs refl);
    slots = may.own;
    frame_mappings = may.frames;
    table_mappings = may.tables;
    mapped = may.mapped;
    capabilities = may.granted;
    endpoints = λ offset old new before behind differs.
        let e : Some (EndpointObject new) ≡ Some (EndpointObject old) = sym behind ∙ before in
        let f : old ≡ new = cc in absurd (differs f);
    notifications = λ offset old new before behind differs.
        let e : Some (NotificationObject new) ≡ Some (NotificationObject old) = sym behind ∙ before in
        let f : old ≡ new = cc in absurd (differs f);
    parents = may.parents;
    used = may.used;
    priority = between (λ (old new : ThreadState). new.priority ≡ old.priority) (s.objects self) (s.objects self) own own is is refl;
    slice = between (SliceChange s (with_slots s slots) self) (s.objects self) (s.objects self) own own is is (same_slice refl);
    fault_address = between (λ (old new : ThreadState). new.fault_address ≡ old.fault_address) (s.objects self) (s.objects self) own own is is refl;
    right =
        between (λ (old new : ThreadState). RightChange image t s (with_slots s slots) old.caller new.caller) (s.objects self) (s.objects self) own own is is
        (kept refl (λ caller right. refl));
    threads = λ other old new apart before behind differs.
        let e : Some (ThreadObject new) ≡ Some (ThreadObject old) = sym behind ∙ before in
        let f : old ≡ new = cc in absurd (differs f);
    lines = λ number either. elim either [ inl differs ↦ absurd (differs refl) | inr differs ↦ absurd (differs refl) ];
    ready = λ priority. record {
      added = [];
      list = append-none (without self (s.ready priority));
      woken = λ thread there. absurd (omega (arith, there.1));
      once = λ thread. omega arith;
      own = omega arith;
    };
  }

-- ---- one slot

abbrev pub capability_of : Option Entry → Cap
capability_of o = option_map_or (λ (e : Entry). e.capability) o Empty

abbrev pub parent_of : Option Entry → Option ℕ
parent_of o = option_map_or (λ (e : Entry). e.parent) o None

module _ (s : State) (place : ℕ) (entry : Entry) where
  abbrev pub entered : Slots
  entered x = if x == place then Some entry else s.slots x

  pub entered-here : (x : ℕ) → x ≡ place → capability_at entered x ≡ entry.capability
  entered-here x here = ap (λ (b : Bool). option_map_or (λ (e : Entry). e.capability) (if b then Some entry else s.slots x) Empty) (eq-eqb x place here)

  pub entered-parent : (x : ℕ) → x ≡ place → parent_at entered x ≡ entry.parent
  entered-parent x here = ap (λ (b : Bool). option_map_or (λ (e : Entry). e.parent) (if b then Some entry else s.slots x) None) (eq-eqb x place here)

  pub entered-away : (x : ℕ) → x ≢ place → entered x ≡ s.slots x
  entered-away x differs = ap (λ (b : Bool). if b then Some entry else s.slots x) (ne_eqb x place differs)

  -- a slot is this one, or stays
  pub entered-cases : (P : ℕ → Type 0) → P place → ((x : ℕ) → x ≢ place → P x) → (x : ℕ) → P x
  entered-cases P here rest x = elim (eqb_tells x place) [ inl same ↦ subst P (sym same.1) here | inr apart ↦ rest x apart.1 ]
