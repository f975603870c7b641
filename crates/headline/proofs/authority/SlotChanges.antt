-- What a call makes of slots of the thread's own stays within authority: a capability is new in an empty slot, another one takes the place
-- of what a slot held, or what a slot held goes to an empty one.
use Rattle.std.proofs.Common.{ℕ, ◌≡◌, ◌≢◌, ◌==◌, ◌⊎◌, Bool, true, false, not, if◌then◌else◌, Option, Some, None, option_map, refl, sym, ◌∙◌, ap, subst}
use Rattle.std.proofs.Common.{bit_and, inl, inr, arith}
use Rattle.std.specs.Option.{option_map_or}
use Rattle.std.specs.Int.Bits.{and_self}
use Rattle.std.proofs.lemmas.Bool.{eq-eqb, eqb-true, ne_eqb}
use Rattle.std.proofs.lemmas.Bool.Decides.{eqb_tells}
use Rattle.std.proofs.lemmas.Nat.{and_assoc}
use Rattle.model.specs.declared.capabilities.Cap.{Cap}
use Rattle.model.specs.declared.capabilities.Cap.TheVariants.{Empty, Untyped, Endpoint, Notification, CNode, Frame, PageTable, Tcb, RootTable, InterruptControl}
use Rattle.model.specs.declared.capabilities.Cap.TheVariants.{InterruptHandler}
use Rattle.model.specs.declared.capabilities.FrameMapping.{FrameMapping}
use Rattle.model.specs.declared.capabilities.TableMapping.{TableMapping}
use Rattle.model.specs.declared.slot_entries.Entry.{Entry}
use Rattle.model.specs.Acceptance.Authority.{Covers, Granted, held, pool, handler, control, IsOwnSlot, MappingGranted, moved_along}
use Rattle.model.specs.Acceptance.Authority.{NewParent, emptied, own as own_parent, of_own, UsedChange, WithinAuthority, badge_of, rights_of, self_of}
use Rattle.model.specs.Acceptance.Authority.{without_use}
use Rattle.model.specs.Capabilities.CapabilityKinds.{copied, frame_mapping, is_badged, may_be_copied, table_mapping, with_payload}
use Rattle.model.specs.Capabilities.Slots.{IsFull, Slots, adopted, capability_at, empty_entry, inserted, is_empty, is_full, parent_at, recapped}
use Rattle.model.specs.Capabilities.Slots.{relocated}
use Rattle.model.specs.Images.Image.{Image, Thread}
use Rattle.model.specs.Images.Places.{offset_of}
use Rattle.model.specs.Kernel.Kinds.{Names}
use Rattle.model.specs.Kernel.Retype.{NewObject, NewThread, NewEndpoint, NewNotification, NewCNode, NewFrame, NewPageTable, NewRootTable}
use Rattle.model.specs.Kernel.State.{State, ThreadObject, ThreadState, with_slots}
use Rattle.headline.proofs.authority.PlainSteps.{one-used}
use Rattle.headline.proofs.authority.Stored.{capability_of, entered, entered-away, entered-cases, entered-here, entered-parent, parent_of}
use Rattle.headline.proofs.authority.Stored.{stored-within}

module _ (image : Image) (t : Thread) (s : State) (own : ThreadState) (is : s.objects (self_of image t) ≡ Some (ThreadObject own)) where
  -- the root table of a mapping is the thread's own
  abbrev pub UnderOwnRoot : Cap → Type 0
  UnderOwnRoot capability =
      ((mapping : FrameMapping) → frame_mapping capability ≡ Some mapping → mapping.root ≡ offset_of image t.header.root)
      × ((mapping : TableMapping) → table_mapping capability ≡ Some mapping → mapping.root ≡ offset_of image t.header.root)

  -- ---- one slot holds another capability

  module _ (place : ℕ) (mine : IsOwnSlot image t place) (entry : Entry)
      (old : UnderOwnRoot (capability_at s.slots place)) (new : UnderOwnRoot entry.capability) where
    abbrev slots : Slots
    slots = entered s place entry

    abbrev after : State
    after = with_slots s slots

    here : capability_at slots place ≡ entry.capability
    here = entered-here s place entry place refl

    by-slot : (P : ℕ → Type 0) → P place → ((x : ℕ) → slots x ≡ s.slots x → P x) → (x : ℕ) → P x
    by-slot P one rest = entered-cases s place entry P one (λ x apart. rest x (entered-away s place entry x apart))

    pub entered-within : ((mapping : FrameMapping) → frame_mapping (capability_at s.slots place) ≢ Some mapping → frame_mapping entry.capability ≡ Some mapping
        → MappingGranted image t s entry.capability mapping)
        → (without_use (capability_at s.slots place) ≢ without_use entry.capability → entry.capability ≢ Empty
        → Granted image t s (with_slots s (entered s place entry)) entry.capability)
        → (parent_at s.slots place ≢ entry.parent → NewParent image t s (with_slots s (entered s place entry)) place entry.parent)
        → ((offset bits before behind : ℕ) → capability_at s.slots place ≡ Untyped offset bits before → entry.capability ≡ Untyped offset bits behind
        → before ≢ behind → UsedChange image t s (with_slots s (entered s place entry)) place before behind)
        → WithinAuthority image t s (with_slots s (entered s place entry))
    entered-within mapped granted parent used =
        stored-within image t s own is slots (record {
          own = by-slot (λ x. s.slots x ≢ slots x → IsOwnSlot image t x) (λ _. mine) (λ x same differs. absurd (differs (sym same)));
          frames = by-slot (λ x. (m : FrameMapping) → frame_mapping (capability_at s.slots x) ≢ frame_mapping (capability_at slots x)
              → (frame_mapping (capability_at s.slots x) ≡ Some m) ⊎ (frame_mapping (capability_at slots x) ≡ Some m) → m.root ≡ offset_of image t.header.root)
              (λ m differs either. elim either [ inl before ↦ old.0 m before | inr behind ↦ new.0 m (ap frame_mapping (sym here) ∙ behind) ])
              (λ x same m differs either. absurd (differs (ap (λ (o : Option Entry). frame_mapping (capability_of o)) (sym same))));
          tables = by-slot (λ x. (m : TableMapping) → table_mapping (capability_at s.slots x) ≢ table_mapping (capability_at slots x)
              → (table_mapping (capability_at s.slots x) ≡ Some m) ⊎ (table_mapping (capability_at slots x) ≡ Some m) → m.root ≡ offset_of image t.header.root)
              (λ m differs either. elim either [ inl before ↦ old.1 m before | inr behind ↦ new.1 m (ap table_mapping (sym here) ∙ behind) ])
              (λ x same m differs either. absurd (differs (ap (λ (o : Option Entry). table_mapping (capability_of o)) (sym same))));
          mapped = by-slot (λ x. (m : FrameMapping) → frame_mapping (capability_at s.slots x) ≢ Some m → frame_mapping (capability_at slots x) ≡ Some m →
              MappingGranted image t s (capability_at slots x) m)
              (λ m fresh now. subst (λ (c : Cap). MappingGranted image t s c m) (sym here) (mapped m fresh (ap frame_mapping (sym here) ∙ now)))
              (λ x same m fresh now. absurd (fresh (ap (λ (o : Option Entry). frame_mapping (capability_of o)) (sym same) ∙ now)));
          granted = by-slot (λ x. without_use (capability_at s.slots x) ≢ without_use (capability_at slots x) → capability_at slots x ≢ Empty →
              Granted image t s after (capability_at slots x))
              (λ differs some. subst (λ (c : Cap). Granted image t s after c) (sym here)
              (granted (λ same. differs (same ∙ ap without_use (sym here))) (λ none. some (here ∙ none))))
              (λ x same differs some. absurd (differs (ap (λ (o : Option Entry). without_use (capability_of o)) (sym same))));
          parents = by-slot (λ x. parent_at s.slots x ≢ parent_at slots x → NewParent image t s after x (parent_at slots x))
              (λ differs.
              let now = entered-parent s place entry place refl in
              subst (λ (p : Option ℕ). NewParent image t s after place p) (sym now) (parent (λ same. differs (same ∙ sym now))))
              (λ x same differs. absurd (differs (ap parent_of (sym same))));
          used = by-slot (λ x. (o b before behind : ℕ) → capability_at s.slots x ≡ Untyped o b before → capability_at slots x ≡ Untyped o b behind →
              before ≢ behind → UsedChange image t s after x before behind)
              (λ o b before behind was now differs. used o b before behind was (sym here ∙ now) differs)
              (λ x same o b before behind was now differs.
              absurd (one-used (capability_at s.slots x) o b before behind was (ap capability_of (sym same) ∙ now) differs));
        })

  -- a capability is new in an empty slot, below a slot of the thread's own
  pub inserted-within : (window above : ℕ) (capability : Cap) → IsOwnSlot image t window → IsOwnSlot image t above → capability_at s.slots window ≡ Empty
      → frame_mapping capability ≡ None → table_mapping capability ≡ None
      → Granted image t s (with_slots s (inserted s.slots window capability (Some above))) capability
      → WithinAuthority image t s (with_slots s (inserted s.slots window capability (Some above)))
  inserted-within window above capability mine parent empty no_frame no_table granted =
      entered-within window mine (record { capability = capability; parent = Some above }) (
        (λ m is_old. let e : None ≡ Some m = sym (ap frame_mapping empty) ∙ is_old in absurd cc),
        (λ m is_old. let e : None ≡ Some m = sym (ap table_mapping empty) ∙ is_old in absurd cc),
      ) (
        (λ m is_new. let e : None ≡ Some m = sym no_frame ∙ is_new in absurd cc),
        (λ m is_new. let e : None ≡ Some m = sym no_table ∙ is_new in absurd cc),
      )
      (λ m fresh is_new. let e : None ≡ Some m = sym no_frame ∙ is_new in absurd cc)
      (λ differs some. granted)
      (λ differs. own_parent above parent refl)
      (λ o b before behind was now differs. let e : Empty ≡ Untyped o b before = sym empty ∙ was in absurd cc)

  -- a capability of the same object takes the place of what a slot holds, with the same parent
  pub recapped-within : (place : ℕ) (capability : Cap) → IsOwnSlot image t place → UnderOwnRoot (capability_at s.slots place) → UnderOwnRoot capability
      → without_use (capability_at s.slots place) ≡ without_use capability
      → ((mapping : FrameMapping) → frame_mapping (capability_at s.slots place) ≢ Some mapping → frame_mapping capability ≡ Some mapping
      → MappingGranted image t s capability mapping)
      → ((offset bits before behind : ℕ) → capability_at s.slots place ≡ Untyped offset bits before → capability ≡ Untyped offset bits behind
      → before ≢ behind → UsedChange image t s (with_slots s (recapped s.slots place capability)) place before behind)
      → WithinAuthority image t s (with_slots s (recapped s.slots place capability))
  recapped-within place capability mine old new same mapped used =
      entered-within place mine (record { capability = capability; parent = parent_at s.slots place }) old new mapped
      (λ differs some. absurd (differs same)) (λ differs. absurd (differs refl)) used

  -- ---- what the thread holds already

  module _ (place : ℕ) (mine : IsOwnSlot image t place) (after : State) where
    covered : (new old : Cap) (kind : NewObject) (offset : ℕ) → capability_at s.slots place ≡ old → Names kind offset new → Names kind offset old
        → bit_and (rights_of old).0 (rights_of new).0 ≡ (rights_of new).0 → (badge_of old ≡ 0) ⊎ (badge_of old ≡ badge_of new) → Granted image t s after new
    covered new old kind offset holds names same fewer marks =
        held new (record {
          slot = place;
          own = mine;
          such = subst (λ (c : Cap). Covers new c) (sym holds)
              (record { kind = kind; offset = offset; names = names; same = same; rights = fewer; badge = marks });
        })

    -- the same capability
    pub held-again : (c : Cap) → capability_at s.slots place ≡ c → c ≢ Empty → Granted image t s after c
    held-again Empty holds some = absurd (some refl)
    held-again (Untyped offset bits watermark) holds some =
        pool offset bits watermark (record {
          slot = place;
          own = mine;
          such = record { offset = offset; bits = bits; watermark = watermark; is = holds; begins = omega arith; ends = omega arith };
        })
    held-again (Endpoint offset r badge) holds some = covered _ _ NewEndpoint offset holds refl refl (and_self r.0) (inr refl)
    held-again (Notification offset r badge) holds some = covered _ _ NewNotification offset holds refl refl (and_self r.0) (inr refl)
    held-again (CNode offset radix guard) holds some = covered _ _ (NewCNode radix) offset holds refl refl refl (inr refl)
    held-again (Frame offset r mapping) holds some = covered _ _ NewFrame offset holds refl refl (and_self r.0) (inr refl)
    held-again (PageTable offset mapping) holds some = covered _ _ NewPageTable offset holds refl refl refl (inr refl)
    held-again (Tcb offset) holds some = covered _ _ NewThread offset holds refl refl refl (inr refl)
    held-again (RootTable offset) holds some = covered _ _ NewRootTable offset holds refl refl refl (inr refl)
    held-again InterruptControl holds some = control (record { slot = place; own = mine; such = holds })
    held-again (InterruptHandler number) holds some = handler number (record { slot = place; own = mine; such = holds })

    fewer-bits : (a b : ℕ) → bit_and a (bit_and a b) ≡ bit_and a b
    fewer-bits a b = sym (and_assoc b a a) ∙ ap (λ (x : ℕ). bit_and x b) (and_self a)

    -- a copy of it
    pub copy-granted : (c : Cap) (word : ℕ) → capability_at s.slots place ≡ c → may_be_copied c ≡ true → c ≢ Empty → Granted image t s after (copied c word)
    copy-granted Empty word holds may some = absurd (some refl)
    copy-granted (Untyped offset bits watermark) word holds may some = absurd (let clash : false ≡ true = may in cc)
    copy-granted (Endpoint offset r badge) word holds may some = covered _ _ NewEndpoint offset holds refl refl (fewer-bits r.0 word) (inr refl)
    copy-granted (Notification offset r badge) word holds may some = covered _ _ NewNotification offset holds refl refl (fewer-bits r.0 word) (inr refl)
    copy-granted (CNode offset radix guard) word holds may some = covered _ _ (NewCNode radix) offset holds refl refl refl (inr refl)
    copy-granted (Frame offset r mapping) word holds may some = covered _ _ NewFrame offset holds refl refl (fewer-bits r.0 word) (inr refl)
    copy-granted (PageTable offset mapping) word holds may some = absurd (let clash : false ≡ true = may in cc)
    copy-granted (Tcb offset) word holds may some = covered _ _ NewThread offset holds refl refl refl (inr refl)
    copy-granted (RootTable offset) word holds may some = covered _ _ NewRootTable offset holds refl refl refl (inr refl)
    copy-granted InterruptControl word holds may some = absurd (let clash : false ≡ true = may in cc)
    copy-granted (InterruptHandler number) word holds may some = handler number (record { slot = place; own = mine; such = holds })

    no-badge : (badge : ℕ) → not (badge == 0) ≡ false → badge ≡ 0
    no-badge badge is_it = elim (badge == 0) as (λ (b : Bool). (badge == 0) ≡ b → not b ≡ false → badge ≡ 0) [
      | true ↦ λ same _. eqb-true badge 0 same
      | false ↦ λ _ clash. absurd (let e : true ≡ false = clash in cc)
    ] refl is_it

    -- a copy with a badge or a guard word
    pub mint-granted : (c : Cap) (word payload : ℕ) → capability_at s.slots place ≡ c → may_be_copied c ≡ true → is_badged c ≡ false → c ≢ Empty
        → Granted image t s after (with_payload (copied c word) payload)
    mint-granted Empty word payload holds may plain some = absurd (some refl)
    mint-granted (Untyped offset bits watermark) word payload holds may plain some = absurd (let clash : false ≡ true = may in cc)
    mint-granted (Endpoint offset r badge) word payload holds may plain some =
        covered _ _ NewEndpoint offset holds refl refl (fewer-bits r.0 word) (inl (no-badge badge plain))
    mint-granted (Notification offset r badge) word payload holds may plain some =
        covered _ _ NewNotification offset holds refl refl (fewer-bits r.0 word) (inl (no-badge badge plain))
    mint-granted (CNode offset radix guard) word payload holds may plain some = covered _ _ (NewCNode radix) offset holds refl refl refl (inr refl)
    mint-granted (Frame offset r mapping) word payload holds may plain some =
        covered _ _ NewFrame offset holds refl refl (fewer-bits r.0 word) (inr refl)
    mint-granted (PageTable offset mapping) word payload holds may plain some = absurd (let clash : false ≡ true = may in cc)
    mint-granted (Tcb offset) word payload holds may plain some = covered _ _ NewThread offset holds refl refl refl (inr refl)
    mint-granted (RootTable offset) word payload holds may plain some = covered _ _ NewRootTable offset holds refl refl refl (inr refl)
    mint-granted InterruptControl word payload holds may plain some = absurd (let clash : false ≡ true = may in cc)
    mint-granted (InterruptHandler number) word payload holds may plain some = handler number (record { slot = place; own = mine; such = holds })

  -- ---- what a slot holds goes to an empty one, with its parent and its children

  module _ (from to : ℕ) (mine : IsOwnSlot image t from) (own_to : IsOwnSlot image t to) (full : IsFull s.slots from)
      (empty : capability_at s.slots to ≡ Empty) (children : (child : ℕ) → parent_at s.slots child ≡ Some from → IsOwnSlot image t child)
      (roots : UnderOwnRoot (capability_at s.slots from)) where
    abbrev moved : Slots
    moved = relocated s.slots from to

    abbrev later : State
    later = with_slots s moved

    apart : to ≢ from
    apart same =
        let none : is_full s.slots from ≡ false = ap (λ (x : ℕ). is_full s.slots x) (sym same) ∙ ap (λ (c : Cap). not (is_empty c)) empty in
        let clash : true ≡ false = sym full ∙ none in absurd cc

    at-from : moved from ≡ Some empty_entry
    at-from = ap (λ (b : Bool). if b then Some empty_entry else if from == to then s.slots from else option_map (adopted from (Some to)) (s.slots from))
        (eq-eqb from from refl)

    at-to : moved to ≡ s.slots from
    at-to =
        ap (λ (b : Bool). if b then Some empty_entry else if to == to then s.slots from else option_map (adopted from (Some to)) (s.slots to))
        (ne_eqb to from apart)
        ∙ ap (λ (b : Bool). if b then s.slots from else option_map (adopted from (Some to)) (s.slots to)) (eq-eqb to to refl)

    at-rest : (x : ℕ) → x ≢ from → x ≢ to → moved x ≡ option_map (adopted from (Some to)) (s.slots x)
    at-rest x not_from not_to =
        ap (λ (b : Bool). if b then Some empty_entry else if x == to then s.slots from else option_map (adopted from (Some to)) (s.slots x))
        (ne_eqb x from not_from)
        ∙ ap (λ (b : Bool). if b then s.slots from else option_map (adopted from (Some to)) (s.slots x)) (ne_eqb x to not_to)

    parent-from : (p : Option ℕ) → option_map_or (λ (p : ℕ). p == from) p false ≡ true → p ≡ Some from
    parent-from None test = absurd (let clash : false ≡ true = test in cc)
    parent-from (Some p) test = ap (λ (n : ℕ). Some n) (eqb-true p from test)

    -- another slot stays, or is a child that hangs below the new place
    abbrev Adopted : Option Entry → Option Entry → Type 0
    Adopted before now = (now ≡ before) ⊎ ((parent_of before ≡ Some from) × (capability_of now ≡ capability_of before) × (parent_of now ≡ Some to))

    adopts : (o : Option Entry) → Adopted o (option_map (adopted from (Some to)) o)
    adopts None = inl refl
    adopts (Some e) =
        elim (option_map_or (λ (p : ℕ). p == from) e.parent false) as (λ (b : Bool). option_map_or (λ (p : ℕ). p == from) e.parent false ≡ b
        → Adopted (Some e) (Some (if b then record e { parent = Some to } else e))) [
          | true ↦ λ test. inr (parent-from e.parent test, refl, refl)
          | false ↦ λ _. inl refl
        ] refl

    rests : (x : ℕ) → x ≢ from → x ≢ to → Adopted (s.slots x) (moved x)
    rests x not_from not_to = subst (λ (o : Option Entry). Adopted (s.slots x) o) (sym (at-rest x not_from not_to)) (adopts (s.slots x))

    same-capability : (x : ℕ) → Adopted (s.slots x) (moved x) → capability_at moved x ≡ capability_at s.slots x
    same-capability x (inl same) = ap capability_of same
    same-capability x (inr child) = child.1

    by-place : (P : ℕ → Type 0) → P from → P to → ((x : ℕ) → Adopted (s.slots x) (moved x) → P x) → (x : ℕ) → P x
    by-place P one two rest x = elim (eqb_tells x from) [
      | inl here ↦ subst P (sym here.1) one
      | inr not_from ↦ elim (eqb_tells x to) [
        | inl here ↦ subst P (sym here.1) two
        | inr not_to ↦ rest x (rests x not_from.1 not_to.1)
      ]
    ]

    from-empty : capability_at moved from ≡ Empty
    from-empty = ap capability_of at-from

    to-holds : capability_at moved to ≡ capability_at s.slots from
    to-holds = ap capability_of at-to

    some : capability_at s.slots from ≢ Empty
    some none = let clash : true ≡ false = sym full ∙ ap (λ (c : Cap). not (is_empty c)) none in absurd cc

    pub relocated-within : WithinAuthority image t s (with_slots s (relocated s.slots from to))
    relocated-within =
        stored-within image t s own is moved (record {
          own = by-place (λ x. s.slots x ≢ moved x → IsOwnSlot image t x) (λ _. mine) (λ _. own_to)
              (λ x rest differs. elim rest [ inl same ↦ absurd (differs (sym same)) | inr child ↦ children x child.0 ]);
          frames = by-place (λ x. (m : FrameMapping) → frame_mapping (capability_at s.slots x) ≢ frame_mapping (capability_at moved x)
              → (frame_mapping (capability_at s.slots x) ≡ Some m) ⊎ (frame_mapping (capability_at moved x) ≡ Some m) → m.root ≡ offset_of image t.header.root)
              (λ m differs either. elim either [
                | inl before ↦ roots.0 m before
                | inr behind ↦ let e : None ≡ Some m = sym (ap frame_mapping from-empty) ∙ behind in absurd cc
              ])
              (λ m differs either. elim either [
                | inl before ↦ let e : None ≡ Some m = sym (ap frame_mapping empty) ∙ before in absurd cc
                | inr behind ↦ roots.0 m (ap frame_mapping (sym to-holds) ∙ behind)
              ])
              (λ x rest m differs either. absurd (differs (ap frame_mapping (sym (same-capability x rest)))));
          tables = by-place (λ x. (m : TableMapping) → table_mapping (capability_at s.slots x) ≢ table_mapping (capability_at moved x)
              → (table_mapping (capability_at s.slots x) ≡ Some m) ⊎ (table_mapping (capability_at moved x) ≡ Some m) → m.root ≡ offset_of image t.header.root)
              (λ m differs either. elim either [
                | inl before ↦ roots.1 m before
                | inr behind ↦ let e : None ≡ Some m = sym (ap table_mapping from-empty) ∙ behind in absurd cc
              ])
              (λ m differs either. elim either [
                | inl before ↦ let e : None ≡ Some m = sym (ap table_mapping empty) ∙ before in absurd cc
                | inr behind ↦ roots.1 m (ap table_mapping (sym to-holds) ∙ behind)
              ])
              (λ x rest m differs either. absurd (differs (ap table_mapping (sym (same-capability x rest)))));
          mapped = by-place (λ x. (m : FrameMapping) → frame_mapping (capability_at s.slots x) ≢ Some m → frame_mapping (capability_at moved x) ≡ Some m →
              MappingGranted image t s (capability_at moved x) m)
              (λ m fresh now. let e : None ≡ Some m = sym (ap frame_mapping from-empty) ∙ now in absurd cc)
              (λ m fresh now. moved_along (record { slot = from; own = mine; such = sym to-holds }))
              (λ x rest m fresh now. absurd (fresh (ap frame_mapping (sym (same-capability x rest)) ∙ now)));
          granted = by-place (λ x. without_use (capability_at s.slots x) ≢ without_use (capability_at moved x) → capability_at moved x ≢ Empty →
              Granted image t s later (capability_at moved x))
              (λ differs full_now. absurd (full_now from-empty))
              (λ differs full_now. held-again from mine later (capability_at moved to) (sym to-holds) full_now)
              (λ x rest differs full_now. absurd (differs (ap without_use (sym (same-capability x rest)))));
          parents = by-place (λ x. parent_at s.slots x ≢ parent_at moved x → NewParent image t s later x (parent_at moved x))
              (λ differs. emptied from-empty (ap parent_of at-from))
              (λ differs. of_own from mine full (sym (ap parent_of at-to)))
              (λ x rest differs. elim rest [
                | inl same ↦ absurd (differs (ap parent_of (sym same)))
                | inr child ↦ own_parent to own_to child.2
              ]);
          used = by-place (λ x. (o b before behind : ℕ) → capability_at s.slots x ≡ Untyped o b before → capability_at moved x ≡ Untyped o b behind →
              before ≢ behind → UsedChange image t s later x before behind)
              (λ o b before behind was now differs. let e : Empty ≡ Untyped o b behind = sym from-empty ∙ now in absurd cc)
              (λ o b before behind was now differs. let e : Empty ≡ Untyped o b before = sym empty ∙ was in absurd cc)
              (λ x rest o b before behind was now differs.
              absurd (one-used (capability_at s.slots x) o b before behind was (sym (same-capability x rest) ∙ now) differs));
        })
