-- The slots of the object that a capability names lie in memory.
use Rattle.std.proofs.Common.{ℕ, ◌≡◌, ◌+◌, ◌-◌, ◌/◌, ◌^◌, ◌<◌, ◌≤◌, Some, None, sym, pow_pos, arith}
use Rattle.model.specs.Capabilities.CapabilityKinds.{object_of}
use Rattle.model.specs.Capabilities.CapabilityWords.{IsCapability}
use Rattle.model.specs.declared.capabilities.Cap.{Cap}
use Rattle.model.specs.declared.capabilities.Cap.TheVariants.{Empty, Untyped, Endpoint, Notification, CNode, Frame, PageTable, Tcb, RootTable, InterruptControl}
use Rattle.model.specs.declared.capabilities.Cap.TheVariants.{InterruptHandler}
use Rattle.cspace.proofs.Laws.{slot_below}
use Rattle.cnode_ops.specs.Refusals.{slots_named}
use Rattle.cnode_ops.proofs.FullSlots.{same-number}

below : (o p : ℕ) → Some o ≡ Some p → o < 2 ^ 24 → p / 16 + 0 ≤ 1048576
below o p is less = let e = same-number o p is in omega (arith, e, less)

pub named-near : (c : Cap) (o : ℕ) → IsCapability c → Some o ≡ object_of c → o / 16 + slots_named c ≤ 1048576
named-near (CNode f radix g) o valid is =
    let e = same-number o f is in
    let some = pow_pos radix in
    let last = slot_below f radix (2 ^ radix - 1) valid.2 valid.0.0 valid.0.1 (omega (arith, some)) in
    omega (arith, e, some, last)
named-near (Tcb f) o valid is = let e = same-number o f is in omega (arith, e, valid.0, valid.1)
named-near (Endpoint f r b) o valid is = below f o (sym is) valid.0.1
named-near (Notification f r b) o valid is = below f o (sym is) valid.0.1
named-near (Frame f r m) o valid is = below f o (sym is) valid.0.1
named-near (PageTable f m) o valid is = below f o (sym is) valid.0.1
named-near (RootTable f) o valid is = below f o (sym is) valid.1
named-near Empty o valid is = absurd (let clash : Some o ≡ None = is in cc)
named-near (Untyped f b w) o valid is = absurd (let clash : Some o ≡ None = is in cc)
named-near InterruptControl o valid is = absurd (let clash : Some o ≡ None = is in cc)
named-near (InterruptHandler line) o valid is = absurd (let clash : Some o ≡ None = is in cc)

first-below : (o p : ℕ) → Some o ≡ Some p → o < 2 ^ 24 → p / 16 < 1048576
first-below o p is less = let e = same-number o p is in omega (arith, e, less)

-- and so does the first of them, if there are any or not
pub named-first : (c : Cap) (o : ℕ) → IsCapability c → Some o ≡ object_of c → o / 16 < 1048576
named-first (CNode f radix g) o valid is = let some = pow_pos radix in omega (arith, some, named-near (CNode f radix g) o valid is)
named-first (Tcb f) o valid is = omega (arith, named-near (Tcb f) o valid is)
named-first (Endpoint f r b) o valid is = first-below f o (sym is) valid.0.1
named-first (Notification f r b) o valid is = first-below f o (sym is) valid.0.1
named-first (Frame f r m) o valid is = first-below f o (sym is) valid.0.1
named-first (PageTable f m) o valid is = first-below f o (sym is) valid.0.1
named-first (RootTable f) o valid is = first-below f o (sym is) valid.1
named-first Empty o valid is = absurd (let clash : Some o ≡ None = is in cc)
named-first (Untyped f b w) o valid is = absurd (let clash : Some o ≡ None = is in cc)
named-first InterruptControl o valid is = absurd (let clash : Some o ≡ None = is in cc)
named-first (InterruptHandler line) o valid is = absurd (let clash : Some o ≡ None = is in cc)
