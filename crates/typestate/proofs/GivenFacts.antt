-- What a thread's space carries, taken out: each fact has one proof at most, or is found below a bound.
use Rattle.std.proofs.Common.{ℕ, zero, suc, ◌≡◌, ◌∙◌, ◌^◌, ◌<◌, ◌⊎◌, inl, inr, Bool, true, false, Option, Some, None, List, [], ◌∷◌, refl, sym, ap, subst}
use Rattle.std.proofs.Common.{arith}
use Rattle.std.proofs.Math.Logic.{∥∥₁_elim, ∥∥₁_map}
use Rattle.std.proofs.lemmas.Bool.Decides.{eqb_tells}
use Rattle.std.specs.Coded.{coded_bool, coded_option, coded_ℕ, le_prop}
use base.Stored.{Coded-set}
pub use Rattle.image_reading.proofs.Laws.{decides-test, test-decides}
use Rattle.model.specs.declared.capabilities.Cap.{Cap}
use Rattle.model.specs.declared.capabilities.Cap.TheVariants.{Empty, Untyped, Endpoint, Notification, CNode, Frame, PageTable, Tcb, RootTable, InterruptControl}
use Rattle.model.specs.declared.capabilities.Cap.TheVariants.{InterruptHandler}
use Rattle.model.specs.Acceptance.NotedKernel.{boot_parent, key_of}
use Rattle.model.specs.Acceptance.NotedStates.{SlotKey}
use Rattle.model.specs.Acceptance.ThreadRules.{reached}
use Rattle.model.specs.Capabilities.CapabilityKinds.{is_handler_of, names_object}
use Rattle.model.specs.Capabilities.Slots.{Slots, capability_at, is_empty, parent_at}
use Rattle.model.specs.Images.Described.{described}
use Rattle.model.specs.Images.Image.{Image}
use Rattle.model.specs.Images.Places.{offset_of}
use Rattle.model.specs.Kernel.Removal.{is_root_at, slot_count}
use Rattle.model.specs.Kernel.State.{line_slot}
use Rattle.typestate.specs.GivenSpaces.{AreWindows, HeldInBoot, StandsApart}
use Rattle.typestate.specs.Mappings.{MappingsAreListed}
use Rattle.typestate.specs.Spaces.{IsSpace}
use Rattle.typestate.specs.declared.window.Window.{Window}
use Rattle.typestate.specs.declared.spaces.Space.{Space}

-- ---- what is found

below-last : (test : ℕ → Bool) (n s : ℕ) → s < suc n → test s ≡ true → test n ≡ false → s < n
below-last test n s less is off = elim (eqb_tells s n) [
  | inl same ↦ absurd (let clash : true ≡ false = sym is ∙ ap test same.1 ∙ off in cc)
  | inr other ↦ let apart = other.1 in omega (arith, less, apart)
]

found-below : (n : ℕ) (test : ℕ → Bool) → ∥ ((s : ℕ) × (s < n) × (test s ≡ true)) ∥₁ → ((s : ℕ) × (s < n) × (test s ≡ true))
found-below zero test some = absurd (∥∥₁_elim some (λ a b. absurd a) (λ x. let none = x.1 in absurd (omega (arith, none))))
found-below (suc n) test some = elim (test n) as (λ b. test n ≡ b → ((s : ℕ) × (s < suc n) × (test s ≡ true))) [
  | true ↦ λ is. (n, omega arith, is)
  | false ↦ λ off.
      let x = found-below n test (∥∥₁_map some (λ x. (x.0, below-last test n x.0 x.1 x.2 off, x.2))) in
      let less = x.1 in (x.0, omega (arith, less), x.2)
] refl

held-out : (image : Image) (test : Cap → Bool) → ∥ HeldInBoot image test ∥₁ → HeldInBoot image test
held-out image test some =
    let place = found-below (2 ^ image.header.boot_radix) (λ slot. test (capability_at (described image).slots slot))
    (∥∥₁_map some (λ h. (h.slot, h.boot, h.holds))) in
    record { slot = place.0; boot = place.1; holds = place.2 }

zero-out : (image : Image) (test : Cap → Bool) (n : ℕ) → ∥ (n ≡ 0) ⊎ HeldInBoot image test ∥₁ → (n ≡ 0) ⊎ HeldInBoot image test
zero-out image test zero some = inl refl
zero-out image test (suc n) some = inr (held-out image test (∥∥₁_map some (λ either. elim either [
  | inl is ↦ absurd (omega (arith, is))
  | inr held ↦ held
])))

empty-is : (c : Cap) → is_empty c ≡ true → c ≡ Empty
empty-is Empty is = refl
empty-is (Untyped offset bits watermark) off = absurd (let clash : false ≡ true = off in cc)
empty-is (Endpoint offset rights badge) off = absurd (let clash : false ≡ true = off in cc)
empty-is (Notification offset rights badge) off = absurd (let clash : false ≡ true = off in cc)
empty-is (CNode offset radix guard) off = absurd (let clash : false ≡ true = off in cc)
empty-is (Frame offset rights mapping) off = absurd (let clash : false ≡ true = off in cc)
empty-is (PageTable offset mapping) off = absurd (let clash : false ≡ true = off in cc)
empty-is (Tcb offset) off = absurd (let clash : false ≡ true = off in cc)
empty-is (RootTable offset) off = absurd (let clash : false ≡ true = off in cc)
empty-is InterruptControl off = absurd (let clash : false ≡ true = off in cc)
empty-is (InterruptHandler line) off = absurd (let clash : false ≡ true = off in cc)

empty-out : (image : Image) (test : Cap → Bool) (c : Cap) → ∥ (c ≡ Empty) ⊎ HeldInBoot image test ∥₁ → (c ≡ Empty) ⊎ HeldInBoot image test
empty-out image test c some = elim (is_empty c) as (λ b. is_empty c ≡ b → (c ≡ Empty) ⊎ HeldInBoot image test) [
  | true ↦ λ is. inl (empty-is c is)
  | false ↦ λ off. inr (held-out image test (∥∥₁_map some (λ either. elim either [
    | inl is ↦ absurd (let clash : true ≡ false = sym (ap is_empty is) ∙ off in cc)
    | inr held ↦ held
  ])))
] refl

above-out : (slots : Slots) (o : Option ℕ) → ∥ ((above : ℕ) × (o ≡ Some above) × (parent_at slots above ≡ None)) ∥₁ →
    ((above : ℕ) × (o ≡ Some above) × (parent_at slots above ≡ None))
above-out slots None some = absurd (∥∥₁_elim some (λ a b. absurd a) (λ x. let clash : None ≡ Some x.0 = x.1 in cc))
above-out slots (Some above) some = (
  above,
  refl,
  ∥∥₁_elim some (Coded-set (coded_option coded_ℕ) _ _) (λ x.
      let same : Some above ≡ Some x.0 = x.1 in
      let at : x.0 ≡ above = cc in
      subst (λ (a : ℕ). parent_at slots a ≡ None) at x.2),
)

none-out : (o : Option SlotKey) → ∥ o ≡ None ∥₁ → o ≡ None
none-out None is = refl
none-out (Some key) is = absurd (∥∥₁_elim is (λ a b. absurd a) (λ off. let clash : Some key ≡ None = off in cc))

windows-out : (image : Image) (cnodes : List ℕ) (windows : List Window) → ∥ AreWindows image cnodes windows ∥₁ → AreWindows image cnodes windows
windows-out image [] [] are = tt
windows-out image [] (w ∷ ws) are = ∥∥₁_elim are (λ a b. absurd a) (λ off. off)
windows-out image (cnode ∷ cnodes) [] are = ∥∥₁_elim are (λ a b. absurd a) (λ off. off)
windows-out image (cnode ∷ cnodes) (w ∷ ws) are = (
  record {
    object = ∥∥₁_elim are (Coded-set coded_ℕ _ _) (λ all. all.0.object);
    place = ∥∥₁_elim are (Coded-set coded_ℕ _ _) (λ all. all.0.place);
    size = ∥∥₁_elim are (Coded-set (coded_option coded_ℕ) _ _) (λ all. all.0.size);
  },
  windows-out image cnodes ws (∥∥₁_map are (λ all. all.1)),
)

-- ---- what a space carries

pub space-of : (space : Space) → IsSpace space
space-of space = record {
  cnodes = windows-out space.image.now (reached space.image.now space.thread.now) space.windows.now (∥∥₁_map space.given (λ g. g.cnodes));
  root_is = space.rooted;
  root_inside = ∥∥₁_elim space.given (Coded-set coded_bool _ _) (λ g. g.inside);
  valid = test-decides space.root (∥∥₁_elim space.given (Coded-set coded_bool _ _) (λ g. decides-test space.root g.valid));
  table_is = space.mapped;
}

pub apart-of : (space : Space) → StandsApart space.image.now space.thread.now
apart-of space =
    let image = space.image.now in
    let t = space.thread.now in
    let slots = (described image).slots in record {
      listed = λ cnode is. ∥∥₁_elim space.given le_prop (λ g. g.apart.listed cnode is);
      small = λ cnode is. ∥∥₁_elim space.given le_prop (λ g. g.apart.small cnode is);
      apart = λ a b slot one other stands too. ∥∥₁_elim space.given (Coded-set coded_ℕ _ _) (λ g. g.apart.apart a b slot one other stands too);
      within = λ slot key is. ∥∥₁_elim space.given le_prop (λ g. g.apart.within slot key is);
      behind = λ slot less. none-out (key_of image (reached image t) slot) (∥∥₁_map space.given (λ g. g.apart.behind slot less));
      room = ∥∥₁_elim space.given le_prop (λ g. g.apart.room);
      outside = λ slot parent none is. none-out (key_of image (reached image t) parent) (∥∥₁_map space.given (λ g. g.apart.outside slot parent none is));
      parent_boot = λ capability. ∥∥₁_elim space.given le_prop (λ g. g.apart.parent_boot capability);
      parent_pool = λ offset bits watermark. ∥∥₁_elim space.given (Coded-set (coded_option coded_ℕ) _ _) (λ g. g.apart.parent_pool offset bits watermark);
      parent_other = λ capability off. above-out slots (parent_at slots (boot_parent image t capability))
          (∥∥₁_map space.given (λ g. g.apart.parent_other capability off));
      objects = λ offset. zero-out image (names_object offset) (slot_count ((described image).objects offset))
          (∥∥₁_map space.given (λ g. g.apart.objects offset));
      lines = λ line less. empty-out image (is_handler_of line) (capability_at slots (line_slot image.header.boot_radix line))
          (∥∥₁_map space.given (λ g. g.apart.lines line less));
      root = held-out image (is_root_at (offset_of image t.header.root)) (∥∥₁_map space.given (λ g. g.apart.root));
    }

pub listed-of : (space : Space) → MappingsAreListed space.image.now space.thread.now
listed-of space = record {
  pages = λ page. ∥∥₁_elim space.given (Coded-set coded_bool _ _) (λ g. g.listed.pages page);
  regions = λ region. ∥∥₁_elim space.given (Coded-set coded_bool _ _) (λ g. g.listed.regions region);
}
