-- What copies of capabilities, and those with another badge or guard, have of their source.
use Rattle.std.proofs.Common.{is_some, Some, ℕ, ◌≡◌, ◌≢◌, ◌∙◌, ◌==◌, ◌^◌, Bool, true, false, if◌then◌else◌, bit_and, Option, None, refl, sym, ap, subst, arith}
use Rattle.std.proofs.lemmas.Bool.{ltb-true}
use Rattle.std.proofs.lemmas.Bool.Decides.{nat_tests}
use Rattle.std.proofs.lemmas.Nat.{and_assoc, and_comm, and_le_l}
use Rattle.model.specs.declared.capabilities.Cap.{Cap}
use Rattle.model.specs.declared.capabilities.Cap.TheVariants.{Empty, Untyped, Endpoint, Notification, CNode, Frame, PageTable, Tcb, RootTable, InterruptControl}
use Rattle.model.specs.declared.capabilities.Cap.TheVariants.{InterruptHandler}
use Rattle.model.specs.declared.capabilities.FrameMapping.{FrameMapping}
use Rattle.model.specs.declared.capabilities.TableMapping.{TableMapping}
use Rattle.model.specs.declared.rights.Rights.{Rights}
use Rattle.model.specs.Capabilities.CapabilityKinds.{badge_fits, carries_messages, cnode_of, copied, frame_mapping, frame_of, guard_fits, is_guard_word}
use Rattle.model.specs.Capabilities.CapabilityKinds.{may_be_copied, root_of, table_mapping, with_payload, Node}
use Rattle.model.specs.Capabilities.CapabilityWords.{IsCapability, IsGuardWord}
use Rattle.model.specs.Capabilities.Rights.{frame_rights}
use Rattle.model.specs.Capabilities.Slots.{is_empty}
use Rattle.model.specs.Kernel.InterruptCalls.{may_be_bound}
use Rattle.model.specs.Kernel.Interrupts.{signal_of}
use Rattle.model.specs.Kernel.Kinds.{object_named, piece_of, used_of}
use Rattle.model.specs.Kernel.ThreadCalls.{buffer_frame}

-- untyped memory and page tables have one capability
abbrev pub is_single : Cap → Bool
is_single Empty = false
is_single (Untyped a b d) = true
is_single (Endpoint a r b) = false
is_single (Notification a r b) = false
is_single (CNode a r g) = false
is_single (Frame a r m) = false
is_single (PageTable a m) = true
is_single (Tcb a) = false
is_single (RootTable a) = false
is_single InterruptControl = false
is_single (InterruptHandler a) = false

pub shared-unused : (c : Cap) → is_single c ≡ false → used_of c ≡ None
shared-unused Empty is = refl
shared-unused (Untyped a b d) is = let e : true ≡ false = is in absurd cc
shared-unused (Endpoint a r b) is = refl
shared-unused (Notification a r b) is = refl
shared-unused (CNode a r g) is = refl
shared-unused (Frame a r m) is = refl
shared-unused (PageTable a m) is = let e : true ≡ false = is in absurd cc
shared-unused (Tcb a) is = refl
shared-unused (RootTable a) is = refl
shared-unused InterruptControl is = refl
shared-unused (InterruptHandler a) is = refl

pub shared-no_table : (c : Cap) (offset : ℕ) (mapping : Option TableMapping) → is_single c ≡ false → c ≢ PageTable offset mapping
shared-no_table c offset mapping shared is = let e : false ≡ true = sym shared ∙ ap is_single is in cc

-- a capability that names what another names
pub record IsAlike (c d : Cap) : Type 0 where
  pub object : object_named d ≡ object_named c
  pub single : is_single d ≡ is_single c
  pub empty : is_empty d ≡ is_empty c
  pub piece : piece_of d ≡ piece_of c
  pub used : used_of d ≡ used_of c
  pub table : table_mapping d ≡ table_mapping c

pub alike-both : (c d e : Cap) → IsAlike c d → IsAlike d e → IsAlike c e
alike-both c d e one other = record {
  object = other.object ∙ one.object;
  single = other.single ∙ one.single;
  empty = other.empty ∙ one.empty;
  piece = other.piece ∙ one.piece;
  used = other.used ∙ one.used;
  table = other.table ∙ one.table;
}

alike : {c d : Cap} → object_named d ≡ object_named c → is_single d ≡ is_single c → is_empty d ≡ is_empty c → piece_of d ≡ piece_of c
    → used_of d ≡ used_of c → table_mapping d ≡ table_mapping c → IsAlike c d
alike a b c d e f = record { object = a; single = b; empty = c; piece = d; used = e; table = f }

pub copied-alike : (c : Cap) (word : ℕ) → IsAlike c (copied c word)
copied-alike Empty word = alike refl refl refl refl refl refl
copied-alike (Untyped a b d) word = alike refl refl refl refl refl refl
copied-alike (Endpoint a r b) word = alike refl refl refl refl refl refl
copied-alike (Notification a r b) word = alike refl refl refl refl refl refl
copied-alike (CNode a r g) word = alike refl refl refl refl refl refl
copied-alike (Frame a r m) word = alike refl refl refl refl refl refl
copied-alike (PageTable a m) word = alike refl refl refl refl refl refl
copied-alike (Tcb a) word = alike refl refl refl refl refl refl
copied-alike (RootTable a) word = alike refl refl refl refl refl refl
copied-alike InterruptControl word = alike refl refl refl refl refl refl
copied-alike (InterruptHandler a) word = alike refl refl refl refl refl refl

pub payload-alike : (c : Cap) (payload : ℕ) → IsAlike c (with_payload c payload)
payload-alike Empty payload = alike refl refl refl refl refl refl
payload-alike (Untyped a b d) payload = alike refl refl refl refl refl refl
payload-alike (Endpoint a r b) payload = alike refl refl refl refl refl refl
payload-alike (Notification a r b) payload = alike refl refl refl refl refl refl
payload-alike (CNode a r g) payload = alike refl refl refl refl refl refl
payload-alike (Frame a r m) payload = alike refl refl refl refl refl refl
payload-alike (PageTable a m) payload = alike refl refl refl refl refl refl
payload-alike (Tcb a) payload = alike refl refl refl refl refl refl
payload-alike (RootTable a) payload = alike refl refl refl refl refl refl
payload-alike InterruptControl payload = alike refl refl refl refl refl refl
payload-alike (InterruptHandler a) payload = alike refl refl refl refl refl refl

-- a copy has no mapping, and another badge or guard brings none
pub copied-unmapped : (c : Cap) (word : ℕ) → frame_mapping (copied c word) ≡ None
copied-unmapped Empty word = refl
copied-unmapped (Untyped a b d) word = refl
copied-unmapped (Endpoint a r b) word = refl
copied-unmapped (Notification a r b) word = refl
copied-unmapped (CNode a r g) word = refl
copied-unmapped (Frame a r m) word = refl
copied-unmapped (PageTable a m) word = refl
copied-unmapped (Tcb a) word = refl
copied-unmapped (RootTable a) word = refl
copied-unmapped InterruptControl word = refl
copied-unmapped (InterruptHandler a) word = refl

pub payload-mapping : (c : Cap) (payload : ℕ) → frame_mapping (with_payload c payload) ≡ frame_mapping c
payload-mapping Empty payload = refl
payload-mapping (Untyped a b d) payload = refl
payload-mapping (Endpoint a r b) payload = refl
payload-mapping (Notification a r b) payload = refl
payload-mapping (CNode a r g) payload = refl
payload-mapping (Frame a r m) payload = refl
payload-mapping (PageTable a m) payload = refl
payload-mapping (Tcb a) payload = refl
payload-mapping (RootTable a) payload = refl
payload-mapping InterruptControl payload = refl
payload-mapping (InterruptHandler a) payload = refl

pub copies-shared : (c : Cap) → may_be_copied c ≡ true → is_single c ≡ false
copies-shared Empty is = refl
copies-shared (Untyped a b d) is = let e : false ≡ true = is in absurd cc
copies-shared (Endpoint a r b) is = refl
copies-shared (Notification a r b) is = refl
copies-shared (CNode a r g) is = refl
copies-shared (Frame a r m) is = refl
copies-shared (PageTable a m) is = let e : false ≡ true = is in absurd cc
copies-shared (Tcb a) is = refl
copies-shared (RootTable a) is = refl
copies-shared InterruptControl is = refl
copies-shared (InterruptHandler a) is = refl

-- ---- valid fields

endpoint-rights : (r word : ℕ) → bit_and r 11 ≡ r → bit_and (bit_and r word) 11 ≡ bit_and r word
endpoint-rights r word is =
    and_assoc 11 r word ∙ ap (λ (n : ℕ). bit_and r n) (and_comm word 11) ∙ sym (and_assoc word r 11) ∙ ap (λ (n : ℕ). bit_and n word) is

pub copied-valid : (c : Cap) (word : ℕ) → IsCapability c → IsCapability (copied c word)
copied-valid Empty word valid = valid
copied-valid (Untyped a b d) word valid = valid
copied-valid (Endpoint a r b) word valid = (valid.0, endpoint-rights r.0 word valid.1, valid.2)
copied-valid (Notification a r b) word valid = (valid.0, endpoint-rights r.0 word valid.1, valid.2)
copied-valid (CNode a r g) word valid = valid
copied-valid (Frame a r m) word valid = let less = and_le_l r.0 word in let small = valid.1 in (valid.0, omega (arith, less, small), tt)
copied-valid (PageTable a m) word valid = valid
copied-valid (Tcb a) word valid = valid
copied-valid (RootTable a) word valid = valid
copied-valid InterruptControl word valid = valid
copied-valid (InterruptHandler a) word valid = valid

pub guard-is : (radix word : ℕ) → is_guard_word radix word ≡ true → IsGuardWord radix word
guard-is radix word h = grind (arith, nat_tests)

pub payload-valid : (c : Cap) (payload : ℕ) → IsCapability c → badge_fits c payload ≡ true → guard_fits c payload ≡ true
    → IsCapability (with_payload c payload)
payload-valid Empty payload valid badge guard = valid
payload-valid (Untyped a b d) payload valid badge guard = valid
payload-valid (Endpoint a r b) payload valid badge guard = (valid.0, valid.1, ltb-true payload (2 ^ 28) badge)
payload-valid (Notification a r b) payload valid badge guard = (valid.0, valid.1, ltb-true payload (2 ^ 28) badge)
payload-valid (CNode a r g) payload valid badge guard = (valid.0, valid.1, valid.2, guard-is r payload guard)
payload-valid (Frame a r m) payload valid badge guard = valid
payload-valid (PageTable a m) payload valid badge guard = valid
payload-valid (Tcb a) payload valid badge guard = valid
payload-valid (RootTable a) payload valid badge guard = valid
payload-valid InterruptControl payload valid badge guard = valid
payload-valid (InterruptHandler a) payload valid badge guard = valid

pub copied-badge_fits : (c : Cap) (word payload : ℕ) → badge_fits (copied c word) payload ≡ badge_fits c payload
copied-badge_fits Empty word payload = refl
copied-badge_fits (Untyped a b d) word payload = refl
copied-badge_fits (Endpoint a r b) word payload = refl
copied-badge_fits (Notification a r b) word payload = refl
copied-badge_fits (CNode a r g) word payload = refl
copied-badge_fits (Frame a r m) word payload = refl
copied-badge_fits (PageTable a m) word payload = refl
copied-badge_fits (Tcb a) word payload = refl
copied-badge_fits (RootTable a) word payload = refl
copied-badge_fits InterruptControl word payload = refl
copied-badge_fits (InterruptHandler a) word payload = refl

pub copied-guard_fits : (c : Cap) (word payload : ℕ) → guard_fits (copied c word) payload ≡ guard_fits c payload
copied-guard_fits Empty word payload = refl
copied-guard_fits (Untyped a b d) word payload = refl
copied-guard_fits (Endpoint a r b) word payload = refl
copied-guard_fits (Notification a r b) word payload = refl
copied-guard_fits (CNode a r g) word payload = refl
copied-guard_fits (Frame a r m) word payload = refl
copied-guard_fits (PageTable a m) word payload = refl
copied-guard_fits (Tcb a) word payload = refl
copied-guard_fits (RootTable a) word payload = refl
copied-guard_fits InterruptControl word payload = refl
copied-guard_fits (InterruptHandler a) word payload = refl

pub payload-page_table : (c : Cap) (payload offset : ℕ) (mapping : Option TableMapping) → with_payload c payload ≡ PageTable offset mapping
    → c ≡ PageTable offset mapping
payload-page_table Empty payload offset mapping is = is
payload-page_table (Untyped a b d) payload offset mapping is = is
payload-page_table (Endpoint a r b) payload offset mapping is = let e : Endpoint a r payload ≡ PageTable offset mapping = is in absurd cc
payload-page_table (Notification a r b) payload offset mapping is = let e : Notification a r payload ≡ PageTable offset mapping = is in absurd cc
payload-page_table (CNode a r g) payload offset mapping is = let e : CNode a r payload ≡ PageTable offset mapping = is in absurd cc
payload-page_table (Frame a r m) payload offset mapping is = is
payload-page_table (PageTable a m) payload offset mapping is = is
payload-page_table (Tcb a) payload offset mapping is = is
payload-page_table (RootTable a) payload offset mapping is = is
payload-page_table InterruptControl payload offset mapping is = is
payload-page_table (InterruptHandler a) payload offset mapping is = is

-- ---- kinds of capabilities

pub alike-same : (c : Cap) → IsAlike c c
alike-same c = record { object = refl; single = refl; empty = refl; piece = refl; used = refl; table = refl }

-- what is known of capabilities that are no frame, may be copied, and carry no messages
pub record IsQuiet (c : Cap) : Type 0 where
  pub single : is_single c ≡ false
  pub unmapped : frame_mapping c ≡ None
  pub silent : carries_messages c ≡ false

pub cnode-quiet : (c : Cap) (n : Node) → cnode_of c ≡ Some n → IsQuiet c
cnode-quiet Empty n is = let e : None ≡ Some n = is in absurd cc
cnode-quiet (Untyped a b d) n is = let e : None ≡ Some n = is in absurd cc
cnode-quiet (Endpoint a r b) n is = let e : None ≡ Some n = is in absurd cc
cnode-quiet (Notification a r b) n is = let e : None ≡ Some n = is in absurd cc
cnode-quiet (CNode a r g) n is = record { single = refl; unmapped = refl; silent = refl }
cnode-quiet (Frame a r m) n is = let e : None ≡ Some n = is in absurd cc
cnode-quiet (PageTable a m) n is = let e : None ≡ Some n = is in absurd cc
cnode-quiet (Tcb a) n is = let e : None ≡ Some n = is in absurd cc
cnode-quiet (RootTable a) n is = let e : None ≡ Some n = is in absurd cc
cnode-quiet InterruptControl n is = let e : None ≡ Some n = is in absurd cc
cnode-quiet (InterruptHandler a) n is = let e : None ≡ Some n = is in absurd cc

pub root-quiet : (c : Cap) (n : ℕ) → root_of c ≡ Some n → IsQuiet c
root-quiet Empty n is = let e : None ≡ Some n = is in absurd cc
root-quiet (Untyped a b d) n is = let e : None ≡ Some n = is in absurd cc
root-quiet (Endpoint a r b) n is = let e : None ≡ Some n = is in absurd cc
root-quiet (Notification a r b) n is = let e : None ≡ Some n = is in absurd cc
root-quiet (CNode a r g) n is = let e : None ≡ Some n = is in absurd cc
root-quiet (Frame a r m) n is = let e : None ≡ Some n = is in absurd cc
root-quiet (PageTable a m) n is = let e : None ≡ Some n = is in absurd cc
root-quiet (Tcb a) n is = let e : None ≡ Some n = is in absurd cc
root-quiet (RootTable a) n is = record { single = refl; unmapped = refl; silent = refl }
root-quiet InterruptControl n is = let e : None ≡ Some n = is in absurd cc
root-quiet (InterruptHandler a) n is = let e : None ≡ Some n = is in absurd cc

pub payload-cnode : (c : Cap) (payload : ℕ) → cnode_of (with_payload c payload) ≡ cnode_of c
payload-cnode Empty payload = refl
payload-cnode (Untyped a b d) payload = refl
payload-cnode (Endpoint a r b) payload = refl
payload-cnode (Notification a r b) payload = refl
payload-cnode (CNode a r g) payload = refl
payload-cnode (Frame a r m) payload = refl
payload-cnode (PageTable a m) payload = refl
payload-cnode (Tcb a) payload = refl
payload-cnode (RootTable a) payload = refl
payload-cnode InterruptControl payload = refl
payload-cnode (InterruptHandler a) payload = refl

pub no-badge : (c : Cap) (payload : ℕ) → carries_messages c ≡ false → badge_fits c payload ≡ true
no-badge Empty payload is = refl
no-badge (Untyped a b d) payload is = refl
no-badge (Endpoint a r b) payload is = let e : true ≡ false = is in absurd cc
no-badge (Notification a r b) payload is = let e : true ≡ false = is in absurd cc
no-badge (CNode a r g) payload is = refl
no-badge (Frame a r m) payload is = refl
no-badge (PageTable a m) payload is = refl
no-badge (Tcb a) payload is = refl
no-badge (RootTable a) payload is = refl
no-badge InterruptControl payload is = refl
no-badge (InterruptHandler a) payload is = refl

-- what may be bound to a line
pub record IsBindable (c : Cap) : Type 0 where
  pub single : is_single c ≡ false
  pub unmapped : frame_mapping c ≡ None
  pub signal : is_some (signal_of c) ≡ true

pub bindable : (c : Cap) → may_be_bound c ≡ true → IsBindable c
bindable Empty is = let e : false ≡ true = is in absurd cc
bindable (Untyped a b d) is = let e : false ≡ true = is in absurd cc
bindable (Endpoint a r b) is = let e : false ≡ true = is in absurd cc
bindable (Notification a r b) is = record { single = refl; unmapped = refl; signal = refl }
bindable (CNode a r g) is = let e : false ≡ true = is in absurd cc
bindable (Frame a r m) is = let e : false ≡ true = is in absurd cc
bindable (PageTable a m) is = let e : false ≡ true = is in absurd cc
bindable (Tcb a) is = let e : false ≡ true = is in absurd cc
bindable (RootTable a) is = let e : false ≡ true = is in absurd cc
bindable InterruptControl is = let e : false ≡ true = is in absurd cc
bindable (InterruptHandler a) is = let e : false ≡ true = is in absurd cc

-- ---- frames

pub frame-is : (c : Cap) (offset : ℕ) → frame_of c ≡ Some offset → (r : Rights) × (mapping : Option FrameMapping) × (c ≡ Frame offset r mapping)
frame-is (Frame a r m) offset is = let e : a ≡ offset = cc is in (r, m, ap (λ (n : ℕ). Frame n r m) e)
frame-is Empty offset is = let e : ◌≡◌ {A = Option ℕ} None (Some offset) = is in absurd cc
frame-is (Untyped a b d) offset is = let e : ◌≡◌ {A = Option ℕ} None (Some offset) = is in absurd cc
frame-is (Endpoint a r b) offset is = let e : ◌≡◌ {A = Option ℕ} None (Some offset) = is in absurd cc
frame-is (Notification a r b) offset is = let e : ◌≡◌ {A = Option ℕ} None (Some offset) = is in absurd cc
frame-is (CNode a r g) offset is = let e : ◌≡◌ {A = Option ℕ} None (Some offset) = is in absurd cc
frame-is (PageTable a m) offset is = let e : ◌≡◌ {A = Option ℕ} None (Some offset) = is in absurd cc
frame-is (Tcb a) offset is = let e : ◌≡◌ {A = Option ℕ} None (Some offset) = is in absurd cc
frame-is (RootTable a) offset is = let e : ◌≡◌ {A = Option ℕ} None (Some offset) = is in absurd cc
frame-is InterruptControl offset is = let e : ◌≡◌ {A = Option ℕ} None (Some offset) = is in absurd cc
frame-is (InterruptHandler a) offset is = let e : ◌≡◌ {A = Option ℕ} None (Some offset) = is in absurd cc

-- a frame's capability to read and write is one of a frame
pub whole-frame : (c : Cap) (frame : ℕ) → buffer_frame c ≡ Some frame → frame_of c ≡ Some frame
whole-frame (Frame a r m) frame is =
    elim (r.0 == frame_rights.0) as (λ b. ◌≡◌ {A = Option ℕ} (if b then Some a else None) (Some frame) → ◌≡◌ {A = Option ℕ} (Some a) (Some frame)) [
      | true ↦ λ so. so
      | false ↦ λ so. let e : ◌≡◌ {A = Option ℕ} None (Some frame) = so in absurd cc
    ] is
whole-frame Empty frame is = let e : ◌≡◌ {A = Option ℕ} None (Some frame) = is in absurd cc
whole-frame (Untyped a b d) frame is = let e : ◌≡◌ {A = Option ℕ} None (Some frame) = is in absurd cc
whole-frame (Endpoint a r b) frame is = let e : ◌≡◌ {A = Option ℕ} None (Some frame) = is in absurd cc
whole-frame (Notification a r b) frame is = let e : ◌≡◌ {A = Option ℕ} None (Some frame) = is in absurd cc
whole-frame (CNode a r g) frame is = let e : ◌≡◌ {A = Option ℕ} None (Some frame) = is in absurd cc
whole-frame (PageTable a m) frame is = let e : ◌≡◌ {A = Option ℕ} None (Some frame) = is in absurd cc
whole-frame (Tcb a) frame is = let e : ◌≡◌ {A = Option ℕ} None (Some frame) = is in absurd cc
whole-frame (RootTable a) frame is = let e : ◌≡◌ {A = Option ℕ} None (Some frame) = is in absurd cc
whole-frame InterruptControl frame is = let e : ◌≡◌ {A = Option ℕ} None (Some frame) = is in absurd cc
whole-frame (InterruptHandler a) frame is = let e : ◌≡◌ {A = Option ℕ} None (Some frame) = is in absurd cc

pub frame-alike : (c : Cap) (frame : ℕ) (r : Rights) (mapping : Option FrameMapping) → frame_of c ≡ Some frame → IsAlike c (Frame frame r mapping)
frame-alike c frame r mapping is =
    let held = frame-is c frame is in subst (λ (d : Cap). IsAlike d (Frame frame r mapping)) (sym held.2) (alike refl refl refl refl refl refl)
