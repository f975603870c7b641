-- In the described state each thread holds what the image lists for it, and so after any events it holds no more than it was given.
use Rattle.std.proofs.Common.{ℕ, zero, suc, ◌≡◌, ◌≢◌, ◌∙◌, ◌++◌, ◌==◌, ◌/◌, inr, Bool, true, false, not, cond, List, [], ◌∷◌, All, map, filter, Option, Some}
use Rattle.std.proofs.Common.{None, refl, sym}
use Rattle.std.proofs.Common.{ap, subst, append_assoc, append-nil, arith, find, if◌then◌else◌}
use lib.Bits.{and_self}
use Rattle.std.specs.Prelude.{Contains, slice_get}
use Rattle.std.specs.Option.{option_map_or}
use Rattle.std.proofs.lemmas.Bool.{false≢true}
use Rattle.std.proofs.lemmas.Option.{none-some, same_Some}
use Rattle.model.specs.declared.capabilities.Cap.{Cap}
use Rattle.model.specs.declared.capabilities.Cap.TheVariants.{Empty, Untyped, Endpoint, Notification, CNode, Frame, PageTable, Tcb, RootTable, InterruptControl}
use Rattle.model.specs.declared.capabilities.Cap.TheVariants.{InterruptHandler}
use Rattle.model.specs.declared.capabilities.TableMapping.{TableMapping}
use Rattle.model.specs.declared.entries.CapabilityEntry.{CapabilityEntry}
use Rattle.model.specs.declared.entries.InterruptEntry.{InterruptEntry}
use Rattle.model.specs.declared.entries.TableEntry.{TableEntry}
use Rattle.model.specs.declared.events.Event.{Event}
use Rattle.model.specs.Acceptance.Accepted.{IsAccepted}
use Rattle.model.specs.Acceptance.Authority.{Covers, IsOwnSlot, rights_of}
use Rattle.model.specs.Acceptance.Devices.{KeepsDevices}
use Rattle.model.specs.Acceptance.NotedStates.{NotedSlot, image_slots, listed_slot}
use Rattle.model.specs.Acceptance.ThreadRules.{is_member, reached}
use Rattle.model.specs.Capabilities.CapabilityKinds.{with_table_mapping}
use Rattle.model.specs.Capabilities.Slots.{capability_at, is_empty}
use Rattle.model.specs.Images.Described.{Numbered, described, limited, listed_capability, numbered_threads, original, source_capability, with_table}
use Rattle.model.specs.Images.Image.{Image, Thread}
use Rattle.model.specs.Images.Places.{is_handler, interrupt_of, offset_of, type_at}
use Rattle.model.specs.Kernel.AddressSpaces.{page_size, region_pages}
use Rattle.model.specs.Kernel.Kinds.{object_named}
use Rattle.model.specs.Kernel.Retype.{NewObject, NewUntyped, NewThread, NewEndpoint, NewNotification, NewCNode, NewFrame, NewPageTable, NewRootTable}
use Rattle.model.specs.Kernel.Retype.{first_capability}
use Rattle.model.specs.Kernel.State.{State}
use Rattle.model.specs.Kernel.Steps.{state_after}
use Rattle.headline.specs.authority.Laws.{EventsStayWithin}
use Rattle.headline.specs.parts.Given.{AllHoldGiven, IsGivenTo, listed, pool, handler, IsListedFor}
use Rattle.headline.specs.starts.Laws.{SlotsAreAsListed}
use Rattle.headline.proofs.Fronts.{all-front}
use Rattle.headline.proofs.facts.Laws.{is-listed}
use Rattle.headline.proofs.invocations.NotedHere.{full-noted}
use Rattle.headline.proofs.steps.Laws.{state-next}
use Rattle.headline.proofs.parts.Given.{given-kept}
use Rattle.headline.proofs.starts.Laws.{contained, contains}
use Rattle.thread_spaces.proofs.Laws.{stands-apart}

-- ---- lists

record Comes (image : Image) (test : CapabilityEntry → Bool) (all : List CapabilityEntry) (n : NotedSlot) : Type 0 where
  pub place : ℕ
  pub entry : CapabilityEntry
  pub at : slice_get all place ≡ Some entry
  pub passes : test entry ≡ true
  pub is : listed_slot image entry ≡ n

further : (image : Image) (test : CapabilityEntry → Bool) (c : CapabilityEntry) (all : List CapabilityEntry) (n : NotedSlot) → Comes image test all n
    → Comes image test (c ∷ all) n
further image test c all n of = record { place = suc of.place; entry = of.entry; at = of.at; passes = of.passes; is = of.is }

comes-on : (image : Image) (test : CapabilityEntry → Bool) (c : CapabilityEntry) (all : List CapabilityEntry) (n : NotedSlot)
    → ((k : ℕ) → slice_get (map (listed_slot image) (filter test all)) k ≡ Some n → Comes image test all n) → (b : Bool) → test c ≡ b → (k : ℕ)
    → slice_get (map (listed_slot image) (cond b (c ∷ filter test all) (filter test all))) k ≡ Some n → Comes image test (c ∷ all) n
comes-on image test c all n rest false fails k at = further image test c all n (rest k at)
comes-on image test c all n rest true passes zero at =
    record { place = 0; entry = c; at = refl; passes = passes; is = same_Some (listed_slot image c) n at }
comes-on image test c all n rest true passes (suc k) at = further image test c all n (rest k at)

comes-from : (image : Image) (test : CapabilityEntry → Bool) (all : List CapabilityEntry) (n : NotedSlot) (k : ℕ)
    → slice_get (map (listed_slot image) (filter test all)) k ≡ Some n → Comes image test all n
comes-from image test [] n k at = absurd (none-some n at)
comes-from image test (c ∷ all) n k at = comes-on image test c all n (comes-from image test all n) (test c) refl k at

-- ---- no image lists interrupt control

abbrev is_control : Cap → Bool
is_control InterruptControl = true
is_control _ = false

first-plain : (kind : NewObject) (offset : ℕ) → is_control (first_capability kind offset) ≡ false
first-plain (NewUntyped bits) offset = refl
first-plain NewThread offset = refl
first-plain NewEndpoint offset = refl
first-plain NewNotification offset = refl
first-plain (NewCNode radix) offset = refl
first-plain NewFrame offset = refl
first-plain NewPageTable offset = refl
first-plain NewRootTable offset = refl

mapped-plain : (c : Cap) (m : Option TableMapping) → is_control (with_table_mapping c m) ≡ is_control c
mapped-plain Empty m = refl
mapped-plain (Untyped a b w) m = refl
mapped-plain (Endpoint a r g) m = refl
mapped-plain (Notification a r g) m = refl
mapped-plain (CNode a r g) m = refl
mapped-plain (Frame a r f) m = refl
mapped-plain (PageTable a f) m = refl
mapped-plain (Tcb a) m = refl
mapped-plain (RootTable a) m = refl
mapped-plain InterruptControl m = refl
mapped-plain (InterruptHandler n) m = refl

limited-plain : (c : Cap) (word payload : ℕ) → is_control (limited c word payload) ≡ is_control c
limited-plain Empty w p = refl
limited-plain (Untyped a b u) w p = refl
limited-plain (Endpoint a r g) w p = refl
limited-plain (Notification a r g) w p = refl
limited-plain (CNode a r g) w p = refl
limited-plain (Frame a r f) w p = refl
limited-plain (PageTable a f) w p = refl
limited-plain (Tcb a) w p = refl
limited-plain (RootTable a) w p = refl
limited-plain InterruptControl w p = refl
limited-plain (InterruptHandler n) w p = refl

module _ (image : Image) where
  table-plain : (number : ℕ) (c : Cap) → is_control (with_table image number c) ≡ is_control c
  table-plain number c = elim (find (λ (t : TableEntry). t.table == number) image.tables) as (λ (o : Option TableEntry). is_control (option_map_or
      (λ t. with_table_mapping c (Some (record { root = offset_of image t.root; region = t.address / page_size / region_pages }))) o c) ≡ is_control c) [
        | None ↦ refl
        | Some t ↦ mapped-plain c _
      ]

  original-plain : (number : ℕ) → is_control (original image number) ≡ false
  original-plain number =
      table-plain number (option_map_or (λ kind. first_capability kind (offset_of image number)) (type_at image number) Empty)
      ∙ (elim (type_at image number) as (λ (o : Option NewObject). is_control (option_map_or (λ kind. first_capability kind
      (offset_of image number)) o Empty) ≡ false) [
        | None ↦ refl
        | Some kind ↦ first-plain kind (offset_of image number)
      ])

  source-plain : (source : ℕ) → is_control (source_capability image source) ≡ false
  source-plain source = elim (is_handler image source) as (λ b. is_control
      (if b then option_map_or (λ i. InterruptHandler i.line) (slice_get image.interrupts
      (interrupt_of image source)) Empty else original image source) ≡ false) [
        | false ↦ original-plain source
        | true ↦ elim (slice_get image.interrupts (interrupt_of image source)) as (λ (o : Option InterruptEntry). is_control
            (option_map_or (λ i. InterruptHandler i.line) o Empty) ≡ false) [ None ↦ refl | Some i ↦ refl ]
      ]

  listed-plain : (entry : CapabilityEntry) → is_control (listed_capability image entry) ≡ false
  listed-plain entry = limited-plain (source_capability image entry.source) entry.rights entry.payload ∙ source-plain entry.source

  -- ---- what is listed is given

  module _ (t : Thread) (entry : CapabilityEntry) (is_listed : IsListedFor image t entry) where
    itself : (c : Cap) (kind : NewObject) (offset : ℕ) → object_named c ≡ Some (kind, offset) → listed_capability image entry ≡ c → IsGivenTo image t c
    itself c kind offset named is = listed entry is_listed (subst (λ (x : Cap). Covers c x) (sym is) (record {
      kind = kind;
      offset = offset;
      names = named;
      same = named;
      rights = and_self (rights_of c).0;
      badge = inr refl;
    }))

    given-listed : (c : Cap) → listed_capability image entry ≡ c → is_control c ≡ false → c ≢ Empty → IsGivenTo image t c
    given-listed Empty is plain full = absurd (full refl)
    given-listed (Untyped offset bits watermark) is plain full = pool offset bits watermark refl (record {
      entry = entry;
      listed = is_listed;
      around = record { offset = offset; bits = bits; watermark = watermark; is = is; begins = omega arith; ends = omega arith };
    })
    given-listed (Endpoint a r g) is plain full = itself (Endpoint a r g) NewEndpoint a refl is
    given-listed (Notification a r g) is plain full = itself (Notification a r g) NewNotification a refl is
    given-listed (CNode a r g) is plain full = itself (CNode a r g) (NewCNode r) a refl is
    given-listed (Frame a r f) is plain full = itself (Frame a r f) NewFrame a refl is
    given-listed (PageTable a f) is plain full = itself (PageTable a f) NewPageTable a refl is
    given-listed (Tcb a) is plain full = itself (Tcb a) NewThread a refl is
    given-listed (RootTable a) is plain full = itself (RootTable a) NewRootTable a refl is
    given-listed InterruptControl is plain full = absurd (false≢true (sym plain))
    given-listed (InterruptHandler n) is plain full = handler n entry is_listed is refl

-- ---- the described state

is-full : (c : Cap) → c ≢ Empty → not (is_empty c) ≡ true
is-full Empty full = absurd (full refl)
is-full (Untyped a b w) full = refl
is-full (Endpoint a r g) full = refl
is-full (Notification a r g) full = refl
is-full (CNode a r g) full = refl
is-full (Frame a r f) full = refl
is-full (PageTable a f) full = refl
is-full (Tcb a) full = refl
is-full (RootTable a) full = refl
is-full InterruptControl full = refl
is-full (InterruptHandler n) full = refl

module _ (bytes : List ℕ) (image : Image) (accepted : IsAccepted bytes image) where
  -- what a slot of a thread holds there is listed
  pub record HoldsListed (t : Thread) (slot : ℕ) : Type 0 where
    pub entry : CapabilityEntry
    pub listed : IsListedFor image t entry
    pub is : listed_capability image entry ≡ capability_at (described image).slots slot

  pub listed-at-start : SlotsAreAsListed → (t : Numbered) (slot : ℕ) → Contains (numbered_threads image) t → IsOwnSlot image t.thread slot
      → capability_at (described image).slots slot ≢ Empty → HoldsListed t.thread slot
  unfolding image_slots
  listed-at-start as_listed t slot there own full =
      let fits = accepted.spelled.fits in
      let well = accepted.formed in
      let slots = (described image).slots in
      let at = is-listed image t there in
      let of = full-noted image t (stands-apart image t.thread fits well at) slots slot own (is-full (capability_at slots slot) full) in
      let among = subst (λ (l : List NotedSlot). Contains l of.n) (as_listed image t.thread fits well at) of.there in
      let place = contained (image_slots image t.thread) of.n among in
      let from = comes-from image (λ c. is_member c.cnode (reached image t.thread)) image.capabilities of.n place.0 place.1 in
      record {
        entry = from.entry;
        listed = record { listed = contains image.capabilities from.place from.entry from.at; member = from.passes };
        is = ap (λ (n : NotedSlot). n.capability) from.is ∙ of.capability;
      }

  pub given-at-start : SlotsAreAsListed → AllHoldGiven image (described image)
  given-at-start as_listed t slot there own full =
      let from = listed-at-start as_listed t slot there own full in
      given-listed image t.thread from.entry from.listed (capability_at (described image).slots slot) from.is
      (sym (ap is_control from.is) ∙ listed-plain image from.entry) full

  -- ---- any events

  given-behind : EventsStayWithin → (events before : List Event) → All (KeepsDevices image) (before ++ events)
      → AllHoldGiven image (state_after (described image) before)
      → AllHoldGiven image (state_after (described image) (before ++ events))
  given-behind within [] before devices given = subst (λ (l : List Event). AllHoldGiven image (state_after (described image) l)) (sym (append-nil before)) given
  given-behind within (event ∷ events) before devices given =
      subst (λ (l : List Event). AllHoldGiven image (state_after (described image) l)) (append_assoc before (event ∷ []) events)
      (given-behind within events (before ++ event ∷ [])
      (subst (All (KeepsDevices image)) (sym (append_assoc before (event ∷ []) events)) devices)
      (subst (λ (s : State). AllHoldGiven image s) (sym (state-next (described image) before event))
      (given-kept bytes image accepted _ _ given event (within bytes image before event accepted (all-front (KeepsDevices image)
      (before ++ event ∷ events) before (event ∷ events) devices refl)))))

  pub always-given : SlotsAreAsListed → EventsStayWithin → (events : List Event) → All (KeepsDevices image) events
      → AllHoldGiven image (state_after (described image) events)
  unfolding state_after
  always-given as_listed within events devices = given-behind within events [] devices (given-at-start as_listed)
