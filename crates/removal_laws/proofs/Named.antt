-- What a capability names, with its kind.
use Rattle.std.proofs.Common.{ℕ, ◌≡◌, ◌∙◌, ◌==◌, inl, inr, Bool, true, false, IsSome, Option, Some, None, option_map, refl, sym, ap, subst}
use Rattle.std.specs.Option.{option_map_or}
use Rattle.std.proofs.lemmas.Bool.{eq-eqb}
use Rattle.std.proofs.lemmas.Bool.Decides.{eqb_tells}
use Rattle.model.specs.declared.capabilities.Cap.{Cap}
use Rattle.model.specs.declared.capabilities.Cap.TheVariants.{Empty, Untyped, Endpoint, Notification, CNode, Frame, PageTable, Tcb, RootTable, InterruptControl}
use Rattle.model.specs.declared.capabilities.Cap.TheVariants.{InterruptHandler}
use Rattle.model.specs.Capabilities.CapabilityKinds.{names_object, object_of, unmapped}
use Rattle.model.specs.Capabilities.Slots.{Slots, capability_at}
use Rattle.model.specs.Kernel.Kinds.{kind_of, object_named}
use Rattle.model.specs.Kernel.Retype.{NewObject, NewThread, NewEndpoint, NewNotification, NewCNode, NewFrame, NewPageTable, NewRootTable}
use Rattle.model.specs.Kernel.Scheduling.{without_threads}
use Rattle.model.specs.Kernel.State.{State, with_slots, Object, ThreadObject, EndpointObject, NotificationObject, CNodeObject, FrameObject, PageTableObject}
use Rattle.model.specs.Kernel.State.{RootTableObject}
use Rattle.removal_laws.specs.Steps.{IsReady, IsThere, unmapped_at}
use Rattle.removal_laws.proofs.Emptyings.{object-unmapped}
use Rattle.removal_laws.proofs.Stepwise.{unmapped-itself}

number-same : (f o : ℕ) → (f == o) ≡ true → f ≡ o
number-same f o is = elim (eqb_tells f o) [ inl here ↦ here.1 | inr other ↦ absurd (let clash : false ≡ true = sym other.0 ∙ is in cc) ]

abbrev pub named_as : NewObject → ℕ → Option (NewObject × ℕ)
named_as k o = Some (k, o)

abbrev pub Named : Cap → ℕ → Type 0
Named c o = (k : NewObject) × (object_named c ≡ named_as k o)

pub object-kind : (c : Cap) (o : ℕ) → names_object o c ≡ true → Named c o
object-kind Empty o is = absurd (let clash : false ≡ true = is in cc)
object-kind (Untyped f b w) o is = absurd (let clash : false ≡ true = is in cc)
object-kind (Endpoint f r b) o is = (NewEndpoint, ap (named_as NewEndpoint) (number-same f o is))
object-kind (Notification f r b) o is = (NewNotification, ap (named_as NewNotification) (number-same f o is))
object-kind (CNode f radix g) o is = (NewCNode radix, ap (named_as (NewCNode radix)) (number-same f o is))
object-kind (Frame f r m) o is = (NewFrame, ap (named_as NewFrame) (number-same f o is))
object-kind (PageTable f m) o is = (NewPageTable, ap (named_as NewPageTable) (number-same f o is))
object-kind (Tcb f) o is = (NewThread, ap (named_as NewThread) (number-same f o is))
object-kind (RootTable f) o is = (NewRootTable, ap (named_as NewRootTable) (number-same f o is))
object-kind InterruptControl o is = absurd (let clash : false ≡ true = is in cc)
object-kind (InterruptHandler line) o is = absurd (let clash : false ≡ true = is in cc)

-- what names an object with its kind names it
abbrev offset_named : Option (NewObject × ℕ) → Option ℕ
offset_named o = option_map (λ p. p.1) o

offset-named : (c : Cap) → object_of c ≡ offset_named (object_named c)
offset-named Empty = refl
offset-named (Untyped f b w) = refl
offset-named (Endpoint f r b) = refl
offset-named (Notification f r b) = refl
offset-named (CNode f radix g) = refl
offset-named (Frame f r m) = refl
offset-named (PageTable f m) = refl
offset-named (Tcb f) = refl
offset-named (RootTable f) = refl
offset-named InterruptControl = refl
offset-named (InterruptHandler line) = refl

pub kind-names : (c : Cap) (k : NewObject) (o : ℕ) → object_named c ≡ named_as k o → names_object o c ≡ true
kind-names c k o is = ap (λ (p : Option ℕ). option_map_or (λ n. n == o) p false) (offset-named c ∙ ap offset_named is) ∙ eq-eqb o o refl

-- objects without threads keep their kinds
pub kind-threads : (gone : ℕ → Bool) (o : Option Object) → option_map kind_of (option_map (without_threads gone) o) ≡ option_map kind_of o
kind-threads gone None = refl
kind-threads gone (Some (ThreadObject t)) = refl
kind-threads gone (Some (EndpointObject e)) = refl
kind-threads gone (Some (NotificationObject n)) = refl
kind-threads gone (Some (CNodeObject radix)) = refl
kind-threads gone (Some FrameObject) = refl
kind-threads gone (Some PageTableObject) = refl
kind-threads gone (Some RootTableObject) = refl

some-kind : (o : Option Object) (k : NewObject) → option_map kind_of o ≡ Some k → IsSome o
some-kind None k is = absurd (let clash : None ≡ Some k = is in cc)
some-kind (Some object) k is = refl

pub there-named : (s : State) (slot : ℕ) → IsReady s → IsThere s (capability_at s.slots slot)
there-named s slot ready = λ o is.
    let k = object-kind (capability_at s.slots slot) o (ap (λ (p : Option ℕ). option_map_or (λ n. n == o) p false) is ∙ eq-eqb o o refl) in
    some-kind (s.objects o) k.0 (ready.named slot k.0 o k.1)

-- and so is what a slot named that has been taken out
pub there-taken : (s t : State) (slots taken : Slots) (x : ℕ) (removed : Cap) → s.slots ≡ slots → IsReady s → removed ≡ capability_at (unmapped_at slots x) x →
    t ≡ with_slots s taken → IsThere t removed
there-taken s t slots taken x removed has ready removed_is state = λ o is.
    let bare : capability_at (unmapped_at slots x) x ≡ unmapped (capability_at slots x) = (unmapped-itself slots x (capability_at slots x) refl).0 in
    let object : object_of (capability_at s.slots x) ≡ Some o =
    ap (λ (n : Slots). object_of (capability_at n x)) has ∙ sym (object-unmapped (capability_at slots x)).0 ∙ sym (ap object_of bare)
    ∙ sym (ap object_of removed_is) ∙ is
    in
    subst (λ (u : State). IsSome (u.objects o)) (sym state) (there-named s x ready o object)
