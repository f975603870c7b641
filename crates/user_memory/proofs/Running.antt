-- Memory under a thread's root table, in a sound state; and what is left once an instruction has run.
use Rattle.std.proofs.Common.{ℕ, ◌≡◌, ◌∙◌, Option, Some, None, List, refl, sym, ap, subst}
use Rattle.std.specs.Prelude.{slice_index}
use Rattle.std.specs.Option.{option_map_or}
use Rattle.kernel_invariant.proofs.Laws.{agrees-less, less-same, tables-beside}
use Rattle.kernel_invariant.specs.Agreement.{Agrees}
use Rattle.kernel_invariant.specs.Wholeness.{IsWhole}
use Rattle.model.specs.Capabilities.CapabilityKinds.{root_of}
use Rattle.model.specs.Capabilities.Slots.{Slots, capability_at}
use Rattle.model.specs.Kernel.AddressSpaces.{vspace_of, with_content}
use Rattle.model.specs.Kernel.Kinds.{kind_at, object_named}
use Rattle.model.specs.Kernel.Messages.{with_registers}
use Rattle.model.specs.Kernel.Retype.{NewFrame}
use Rattle.model.specs.Kernel.State.{State, vspace_slot}
use Rattle.model.specs.Machine.ProgramMemory.{Content, RegisterFile}
use Rattle.model.specs.declared.capabilities.Cap.{Cap}
use Rattle.model.specs.declared.capabilities.Cap.TheVariants.{Empty, Untyped, Endpoint, Notification, CNode, Frame, PageTable, Tcb, RootTable, InterruptControl}
use Rattle.model.specs.declared.capabilities.Cap.TheVariants.{InterruptHandler}
use Rattle.objects.specs.Lives.{Parts, state_in}
use Rattle.objects.specs.Frames.{SameBesideFrames, SameObjects}
use Rattle.objects.specs.Standing.{Standing}
use Rattle.objects.specs.Tables.{Tables, state_of}
use Rattle.soundness.proofs.Laws.{full-near}
use Rattle.user_memory.proofs.Stored.{content-left, hidden-same}
use Rattle.user_memory.specs.Views.{Beside, IsUsable, beside_of, content_under}

-- ---- before

root-held : (c : Cap) (table : ℕ) → root_of c ≡ Some table → c ≡ RootTable table
root-held (RootTable root) table is = let same : Some root ≡ Some table = is in let e : root ≡ table = cc in ap RootTable e
root-held Empty table is = absurd (let clash : None ≡ Some table = is in cc)
root-held (Untyped _ _ _) table is = absurd (let clash : None ≡ Some table = is in cc)
root-held (Endpoint _ _ _) table is = absurd (let clash : None ≡ Some table = is in cc)
root-held (Notification _ _ _) table is = absurd (let clash : None ≡ Some table = is in cc)
root-held (CNode _ _ _) table is = absurd (let clash : None ≡ Some table = is in cc)
root-held (Frame _ _ _) table is = absurd (let clash : None ≡ Some table = is in cc)
root-held (PageTable _ _) table is = absurd (let clash : None ≡ Some table = is in cc)
root-held (Tcb _) table is = absurd (let clash : None ≡ Some table = is in cc)
root-held InterruptControl table is = absurd (let clash : None ≡ Some table = is in cc)
root-held (InterruptHandler _) table is = absurd (let clash : None ≡ Some table = is in cc)

pub usable-first : (o : Tables) (slots : Slots) (memory : List ℕ) (thread : ℕ) (root : Option ℕ) → IsWhole o slots memory
    → root ≡ root_of (capability_at slots (vspace_slot thread)) → IsUsable (state_of o slots memory) memory root
unfolding state_of
usable-first o slots memory thread root whole of_thread =
    let sound = whole.sound in
    record {
      agrees = whole.agrees;
      near = full-near (state_of o slots memory) sound.shape sound.slots sound.memory;
      rooted = λ table is. (vspace_slot thread, root-held (capability_at slots (vspace_slot thread)) table (sym of_thread ∙ is));
      framed = λ slot frame place r m held around.
          (sound.memory.bytes place).1 (ap (kind_at (state_of o slots memory)) around ∙ sound.memory.named slot NewFrame frame (ap object_named held));
    }

-- what is known inside is known of the kernel
pub usable-kernel : {S : Type 0} (slots : S → Slots) (memory : S → List ℕ) (thread : ℕ) (root : Option ℕ) {parts kernel : Parts S} → parts ≡ kernel
    → IsWhole parts.tables (slots parts.store) (memory parts.store) → root ≡ root_of (capability_at (slots parts.store) (vspace_slot thread))
    → ∥ IsUsable (state_in slots memory kernel) (memory kernel.store) root ∥₁
usable-kernel slots memory thread root {parts} is whole of_thread =
    subst (λ k. ∥ IsUsable (state_in slots memory k) (memory k.store) root ∥₁) is
    ∣ usable-first parts.tables (slots parts.store) (memory parts.store) thread root whole of_thread ∣₁

pub root-kernel : {S : Type 0} (slots : S → Slots) (memory : S → List ℕ) (thread : ℕ) (root : Option ℕ) {parts kernel : Parts S} → parts ≡ kernel
    → root ≡ root_of (capability_at (slots parts.store) (vspace_slot thread)) → root ≡ vspace_of (state_in slots memory kernel) thread
unfolding state_of
root-kernel slots memory thread root is of_thread = of_thread ∙ ap (λ k. root_of (capability_at (slots k.store) (vspace_slot thread))) is

pub root-inside : {S : Type 0} (slots : S → Slots) (memory : S → List ℕ) (thread : ℕ) (root : Option ℕ) {parts kernel : Parts S} → parts ≡ kernel
    → root ≡ vspace_of (state_in slots memory kernel) thread → root ≡ root_of (capability_at (slots parts.store) (vspace_slot thread))
unfolding state_of
root-inside slots memory thread root is own = own ∙ ap (λ k. root_of (capability_at (slots k.store) (vspace_slot thread))) (sym is)

-- the same once its store has kept a leaf, and is what it was
abbrev parts_of : {S : Type 0} → S → Tables → Parts S
parts_of store tables = record { store = store; tables = tables }

pub kept-parts : {S : Type 0} {new store : S} {tables : Tables} {kernel : Parts S} → new ≡ store → parts_of store tables ≡ kernel → parts_of new tables ≡ kernel
kept-parts {tables = tables} same is = ap (λ s. parts_of s tables) same ∙ is

pub usable-kept : {S : Type 0} (slots : S → Slots) (memory : S → List ℕ) (thread : ℕ) (root : Option ℕ) {new store : S} {tables : Tables} → new ≡ store
    → IsWhole tables (slots store) (memory store) → root ≡ root_of (capability_at (slots store) (vspace_slot thread))
    → ∥ IsUsable (state_in slots memory (parts_of new tables)) (memory new) root ∥₁
usable-kept slots memory thread root {store = store} {tables = tables} same whole of_thread =
    subst (λ s. ∥ IsUsable (state_in slots memory (parts_of s tables)) (memory s) root ∥₁) (sym same)
    ∣ usable-first tables (slots store) (memory store) thread root whole of_thread ∣₁

-- ---- afterwards

-- in the words of a view that was lent the kernel
module _ (o now : Tables) (slots after : Slots) (old new : List ℕ) (root left : Option ℕ) (store gone : ℕ)
    (kept : beside_of now after new left gone ≡ beside_of o slots old root store) where
  objects-kept : now ≡ o
  objects-kept = ap (λ (b : Beside). b.objects) kept

  slots-kept : after ≡ slots
  slots-kept = ap (λ (b : Beside). b.slots) kept

  same-state : state_of now after new ≡ state_of o slots new
  same-state = ap (λ (x : Tables). state_of x after new) objects-kept ∙ ap (λ (n : Slots). state_of o n new) slots-kept

  module _ (stood : Standing o slots old) where
    same-frames : SameBesideFrames (state_of o slots old) old new
    same-frames = record {
      size = ap (λ (b : Beside). b.size) kept;
      bytes = hidden-same o slots old new
          (λ place. sym (ap (λ (x : State). option_map_or (λ _. None) (x.bytes place) (Some (slice_index new place))) same-state)
          ∙ ap (λ (b : Beside). b.bytes place) kept);
    }

    pub state-left : (content : Content) → content_under (state_of now after new) left ≡ content →
        state_of now after new ≡ with_content (state_of o slots old) content
    state-left content sees = same-state ∙ content-left o slots old new stood same-frames content
        (λ place. sym (ap (λ (c : Content). c.byte place) sees) ∙ ap (λ (x : State). option_map_or (λ byte. byte) (x.bytes place) 0) same-state)

-- what the kernel is once the view is gone
pub in-the-end : {W : Type 0} (claim : W → Type 0) (last seen : W) (store gone : ℕ) → (store ≡ gone → last ≡ seen) → store ≡ gone → claim seen → claim last
in-the-end claim last seen store gone given same is = subst claim (sym (given same)) is

-- the registers of a thread are set
pub registers-agree : (s t : State) (thread : ℕ) (registers : RegisterFile) (old new : List ℕ) → Agrees s old → t ≡ with_registers s thread registers
    → SameObjects s t old new → Agrees t new
registers-agree s t thread registers old new agrees is same =
    let kinds = subst (λ (x : State). (offset : ℕ) → kind_at x offset ≡ kind_at s offset) is same.kinds in
    subst (λ (x : State). Agrees x new) (sym is)
    (agrees-less s (with_registers s thread registers) old new agrees (tables-beside s old new agrees same.bytes) refl same.bytes.size (less-same s.slots)
    (λ place none. none) (λ offset kind there. sym (kinds offset) ∙ there))
