-- What is decoded of a capability is a call on it.
use Rattle.std.proofs.Common.{ℕ, ◌≡◌, ◌==◌, ◌⊎◌, inl, inr, Bool, true, false, nat_le, if◌then◌else◌, Option, Some, None, Result, Ok, Err, List, length, refl}
use Rattle.std.proofs.Common.{sym, ap, subst}
use Rattle.model.specs.declared.capabilities.Cap.{Cap}
use Rattle.model.specs.declared.capabilities.Cap.TheVariants.{Empty, Untyped, Endpoint, Notification, CNode, Frame, PageTable, Tcb, RootTable, InterruptControl}
use Rattle.model.specs.declared.capabilities.Cap.TheVariants.{InterruptHandler}
use Rattle.model.specs.declared.errors.KError.{KError}
use Rattle.model.specs.declared.errors.KError.TheVariants.{IllegalOperation, TruncatedMessage}
use Rattle.model.specs.declared.invocations.Invocation.{Invocation}
use Rattle.std.specs.Prelude.{IfOk}
use Rattle.model.specs.declared.invocations.CNodeCall.{CNodeCall}
use Rattle.model.specs.declared.invocations.CNodeCall.TheVariants.{Copy, Mint, Move, Mutate, Delete, Revoke}
use Rattle.model.specs.declared.invocations.Invocation.TheVariants.{OnUntyped, OnThread, OnCNode, OnTable, OnControl}
use Rattle.model.specs.declared.invocations.RetypeCall.{RetypeCall}
use Rattle.model.specs.declared.invocations.SlotName.{SlotName}
use Rattle.model.specs.declared.invocations.TableCall.{TableCall}
use Rattle.model.specs.declared.invocations.ThreadCall.{ThreadCall}
use Rattle.model.specs.declared.invocations.UntypedMemory.{UntypedMemory}
use Rattle.model.specs.declared.refusals.Point.{Point}
use Rattle.model.specs.Acceptance.NotedStates.{NotedSlot, is_foreign}
use Rattle.model.specs.Images.Image.{Image, Thread}
use Rattle.model.specs.Kernel.Arguments.{◌>>=◌, check, wanted}
use Rattle.model.specs.Kernel.CallForms.{CallForm, acknowledge_label, clear_label, configure_label, copy_label, decode, delete_label, form_of}
use Rattle.model.specs.Kernel.CallForms.{get_handler_label, map_frame_label, map_table_label, mint_label, move_label, mutate_label, resume_label, retype_label}
use Rattle.model.specs.Kernel.CallForms.{revoke_label, set_buffer_label, set_notification_label, set_priority_label, set_register_label, suspend_label}
use Rattle.model.specs.Kernel.CallForms.{unmap_frame_label}
use Rattle.model.specs.Kernel.CallForms.{unmap_table_label}
use Rattle.typestate.specs.CNodeCalls.{cnode_after}
use Rattle.typestate.specs.Invocations.{IsCallOn, held_after}

-- whatever the words are
abbrev MakesCalls : Cap → Option CallForm → Type 0
MakesCalls c None = Unit {0}
MakesCalls c (Some form) = (words : List ℕ) → IsCallOn c (form.call words)

-- one label, and then the others
one-of : (c : Cap) (b : Bool) (this other : Option CallForm) → MakesCalls c this → MakesCalls c other → MakesCalls c (if b then this else other)
one-of c true this other mine yours = mine
one-of c false this other mine yours = yours

forms-on : (c : Cap) (label : ℕ) → MakesCalls c (form_of c label)
forms-on Empty label = tt
forms-on (Untyped offset bits watermark) label = one-of (Untyped offset bits watermark) (label == retype_label) _ _ (λ words. refl) tt
forms-on (Endpoint _ _ _) label = tt
forms-on (Notification _ _ _) label = tt
forms-on (CNode offset radix guard) label =
    let c : Cap = CNode offset radix guard in
    one-of c (label == copy_label) _ _ (λ words. tt) (one-of c (label == mint_label) _ _ (λ words. tt) (one-of c (label == move_label) _ _ (λ words. tt)
    (one-of c (label == mutate_label) _ _ (λ words. tt)
    (one-of c (label == delete_label) _ _ (λ words. tt) (one-of c (label == revoke_label) _ _ (λ words. tt) tt)))))
forms-on (Frame offset r mapping) label =
    let c : Cap = Frame offset r mapping in
    one-of c (label == map_frame_label) _ _ (λ words. refl) (one-of c (label == unmap_frame_label) _ _ (λ words. refl) tt)
forms-on (PageTable offset mapping) label =
    let c : Cap = PageTable offset mapping in
    one-of c (label == map_table_label) _ _ (λ words. tt) (one-of c (label == unmap_table_label) _ _ (λ words. tt) tt)
forms-on (Tcb offset) label =
    let c : Cap = Tcb offset in
    one-of c (label == configure_label) _ _ (λ words. tt)
    (one-of c (label == set_priority_label) _ _ (λ words. tt) (one-of c (label == set_register_label) _ _ (λ words. tt)
    (one-of c (label == resume_label) _ _ (λ words. tt) (one-of c (label == suspend_label) _ _ (λ words. tt)
    (one-of c (label == set_buffer_label) _ _ (λ words. tt) tt)))))
forms-on (RootTable _) label = tt
forms-on InterruptControl label = one-of InterruptControl (label == get_handler_label) _ _ (λ words. tt) tt
forms-on (InterruptHandler line) label =
    let c : Cap = InterruptHandler line in
    one-of c (label == acknowledge_label) _ _ (λ words. refl)
    (one-of c (label == set_notification_label) _ _ (λ words. refl) (one-of c (label == clear_label) _ _ (λ words. refl) tt))

abbrev decoded_from : Bool → Option CallForm → ℕ → List ℕ → Result Invocation KError
decoded_from plain found count words =
    (check plain TruncatedMessage >>= λ _. wanted found IllegalOperation >>= λ form. check (nat_le form.count count) TruncatedMessage >>= λ _. Ok form)
    >>= λ form. Ok (form.call words)

abbrev called : Invocation → Result Invocation KError
called call = Ok call

abbrev failed : KError → Result Invocation KError
failed error = Err error

from-form : (c : Cap) (plain : Bool) (found : Option CallForm) (count : ℕ) (words : List ℕ) (call : Invocation) → MakesCalls c found →
    decoded_from plain found count words ≡ Ok call → IsCallOn c call
from-form c false found count words call makes is = absurd (let clash : failed TruncatedMessage ≡ called call = is in cc)
from-form c true None count words call makes is = absurd (let clash : failed IllegalOperation ≡ called call = is in cc)
from-form c true (Some form) count words call makes is =
    elim (nat_le form.count count) as (λ b. ((check b TruncatedMessage >>= λ _. Ok form) >>= λ form. called (form.call words)) ≡ Ok call → IsCallOn c call) [
      | false ↦ λ so. absurd (let clash : failed TruncatedMessage ≡ called call = so in cc)
      | true ↦ λ so. let same : form.call words ≡ call = (let both : called (form.call words) ≡ called call = so in cc) in subst (IsCallOn c) same (makes words)
    ] is

pub decoded-on : (c : Cap) (label extra : ℕ) (words : List ℕ) (call : Invocation) → decode c label extra words ≡ Ok call → IsCallOn c call
unfolding decode
decoded-on c label extra words call is = from-form c (extra == 0) (form_of c label) (length words) words call (forms-on c label) is

-- ---- a call on a pool

pub pool-is : (c : Cap) (memory : UntypedMemory) (call : RetypeCall) → IsCallOn c (OnUntyped memory call) →
    c ≡ Untyped memory.offset memory.bits memory.watermark
pool-is (Untyped offset bits watermark) memory call is = ap (λ (m : UntypedMemory). Untyped m.offset m.bits m.watermark) (sym is)
pool-is Empty memory call is = absurd is
pool-is (Endpoint _ _ _) memory call is = absurd is
pool-is (Notification _ _ _) memory call is = absurd is
pool-is (CNode _ _ _) memory call is = absurd is
pool-is (Frame _ _ _) memory call is = absurd is
pool-is (PageTable _ _) memory call is = absurd is
pool-is (Tcb _) memory call is = absurd is
pool-is (RootTable _) memory call is = absurd is
pool-is InterruptControl memory call is = absurd is
pool-is (InterruptHandler _) memory call is = absurd is

-- ---- calls that no program makes

module _ (image : Image) (t : Thread) (cnodes : List ℕ) where
  no-thread : (c : Cap) (thread : ℕ) (call : ThreadCall) → is_foreign image t cnodes c ≡ false → IsCallOn c (OnThread thread call) → ⊥
  no-thread Empty thread call own is = absurd is
  no-thread (Untyped _ _ _) thread call own is = absurd is
  no-thread (Endpoint _ _ _) thread call own is = absurd is
  no-thread (Notification _ _ _) thread call own is = absurd is
  no-thread (CNode _ _ _) thread call own is = absurd is
  no-thread (Frame _ _ _) thread call own is = absurd is
  no-thread (PageTable _ _) thread call own is = absurd is
  no-thread (Tcb _) thread call own is = absurd (let clash : true ≡ false = own in cc)
  no-thread (RootTable _) thread call own is = absurd is
  no-thread InterruptControl thread call own is = absurd is
  no-thread (InterruptHandler _) thread call own is = absurd is

  no-table-call : (c : Cap) (call : TableCall) → is_foreign image t cnodes c ≡ false → IsCallOn c (OnTable call) → ⊥
  no-table-call Empty call own is = absurd is
  no-table-call (Untyped _ _ _) call own is = absurd is
  no-table-call (Endpoint _ _ _) call own is = absurd is
  no-table-call (Notification _ _ _) call own is = absurd is
  no-table-call (CNode _ _ _) call own is = absurd is
  no-table-call (Frame _ _ _) call own is = absurd is
  no-table-call (PageTable _ _) call own is = absurd (let clash : true ≡ false = own in cc)
  no-table-call (Tcb _) call own is = absurd is
  no-table-call (RootTable _) call own is = absurd is
  no-table-call InterruptControl call own is = absurd is
  no-table-call (InterruptHandler _) call own is = absurd is

  no-control : (c : Cap) (line : ℕ) (name : SlotName) → is_foreign image t cnodes c ≡ false → IsCallOn c (OnControl line name) → ⊥
  no-control Empty line name own is = absurd is
  no-control (Untyped _ _ _) line name own is = absurd is
  no-control (Endpoint _ _ _) line name own is = absurd is
  no-control (Notification _ _ _) line name own is = absurd is
  no-control (CNode _ _ _) line name own is = absurd is
  no-control (Frame _ _ _) line name own is = absurd is
  no-control (PageTable _ _) line name own is = absurd is
  no-control (Tcb _) line name own is = absurd is
  no-control (RootTable _) line name own is = absurd is
  no-control InterruptControl line name own is = absurd (let clash : true ≡ false = own in cc)
  no-control (InterruptHandler _) line name own is = absurd is

  -- nor any of them
  pub no-other-call : (c : Cap) (call : Invocation) → is_foreign image t cnodes c ≡ false → IsCallOn c call
      → ((thread : ℕ) × (on : ThreadCall) × (call ≡ OnThread thread on)) ⊎
      (((on : TableCall) × (call ≡ OnTable on)) ⊎ ((line : ℕ) × (name : SlotName) × (call ≡ OnControl line name))) → ⊥
  no-other-call c call own is (inl a) = no-thread c a.0 a.1 own (subst (IsCallOn c) a.2 is)
  no-other-call c call own is (inr (inl a)) = no-table-call c a.0 own (subst (IsCallOn c) a.1 is)
  no-other-call c call own is (inr (inr a)) = no-control c a.0 a.1 own (subst (IsCallOn c) a.2 is)

-- a CNode's own slot does not count
pub cnode-anywhere : (image : Image) (t : Thread) (at : Point) (slots : List NotedSlot) (held : NotedSlot) (c : CNodeCall)
    → held_after image t at slots held (OnCNode c) ≡ cnode_after image t at slots held.capability c
cnode-anywhere image t at slots held (Copy destination source word) = refl
cnode-anywhere image t at slots held (Mint destination source word payload) = refl
cnode-anywhere image t at slots held (Move destination source) = refl
cnode-anywhere image t at slots held (Mutate destination source payload) = refl
cnode-anywhere image t at slots held (Delete name) = refl
cnode-anywhere image t at slots held (Revoke name) = refl

pub done-as : {A E : Type 0} (r : Result A E) (P Q : A → Type 0) → ((x : A) → P x → Q x) → IfOk r P → IfOk r Q
done-as (Ok x) P Q each is = each x is
done-as (Err error) P Q each is = tt
