-- What Mutate leaves agrees as before: only a CNode's guard word changes.
use Rattle.std.proofs.Common.{ℕ, ◌≡◌, ◌≢◌, ◌∙◌, ◌==◌, inl, inr, true, false, if◌then◌else◌, Option, Some, None, List, refl, sym, ap, subst}
use Rattle.std.specs.Option.{option_map_or}
use Rattle.std.proofs.lemmas.Bool.Decides.{eqb_tells}
use Rattle.kernel_invariant.proofs.Puts.{capability_of, changed-agrees, is-open, moved-closes, moved-named, moved_entry, put-closes, put-named}
use Rattle.kernel_invariant.specs.Wholeness.{Agreed}
use Rattle.model.specs.Capabilities.CapabilityKinds.{carries_messages, with_payload}
use Rattle.model.specs.Capabilities.CapabilityWords.{IsCapability}
use Rattle.model.specs.Capabilities.Slots.{SameOutside, Slots, capability_at, empty_entry, parent_at, recapped, relocated}
use Rattle.model.specs.declared.capabilities.Cap.{Cap}
use Rattle.model.specs.declared.capabilities.Cap.TheVariants.{Empty, Untyped, Endpoint, Notification, CNode, Frame, PageTable, Tcb, RootTable, InterruptControl}
use Rattle.model.specs.declared.capabilities.Cap.TheVariants.{InterruptHandler}
use Rattle.model.specs.declared.slot_entries.Entry.{Entry}
use Rattle.objects.specs.Tables.{Tables, state_of}
use Rattle.vspace.proofs.Laws.{agree-changed, agree-moved, agree-outside}
use Rattle.vspace.specs.Agreement.{IsWithoutTables}
use Rattle.vspace.specs.Kept.{NamesTable}
use Rattle.vspace.specs.Tables.{TablesAgree}

abbrev parent_of : Option Entry → Option ℕ
parent_of held = option_map_or (λ e. e.parent) held None

-- a slot that gets what it holds
same-at : (slots : Slots) (slot : ℕ) (e : Entry) → slots slot ≡ Some e → (x : ℕ) → recapped slots slot (capability_at slots slot) x ≡ slots x
same-at slots slot e is x = elim (eqb_tells x slot) [
  | inl here ↦
      ap (λ b. if b then Some (record { capability = capability_at slots slot; parent = parent_at slots slot }) else slots x) here.0
      ∙ ap (λ (h : Option Entry). Some (record { capability = capability_of h; parent = parent_of h })) is
      ∙ sym is
      ∙ ap slots (sym here.1)
  | inr apart ↦ ap (λ b. if b then Some (record { capability = capability_at slots slot; parent = parent_at slots slot }) else slots x) apart.0
]

recap-same : (slots : Slots) (slot : ℕ) (e : Entry) → slots slot ≡ Some e → recapped slots slot (capability_at slots slot) ≡ slots
recap-same slots slot e is = λ i. λ x. same-at slots slot e is x i

-- a capability that is no CNode's has no use for a guard word
guarded-names : (c : Cap) (payload table : ℕ) → NamesTable (with_payload c payload) table → NamesTable c table
guarded-names (CNode a r g) payload table names = names
guarded-names (Endpoint a r b) payload table names = names
guarded-names (Notification a r b) payload table names = names
guarded-names (PageTable t m) payload table names = names
guarded-names (Frame f r m) payload table names = names
guarded-names (RootTable root) payload table names = names
guarded-names Empty payload table names = names
guarded-names (Untyped a b d) payload table names = names
guarded-names (Tcb a) payload table names = names
guarded-names InterruptControl payload table names = names
guarded-names (InterruptHandler a) payload table names = names

module _ (slots : Slots) (memory : List ℕ) (slot payload : ℕ) (e : Entry) (is : slots slot ≡ Some e) (agree : TablesAgree slots memory) where
  kept-tables : (c : Cap) → capability_at slots slot ≡ c → TablesAgree (recapped slots slot c) memory
  kept-tables c same = subst (λ (k : Cap). TablesAgree (recapped slots slot k) memory) same
      (subst (λ (n : Slots). TablesAgree n memory) (sym (recap-same slots slot e is)) agree)

  guarded-tables : (c : Cap) → capability_at slots slot ≡ c → carries_messages c ≡ false → IsCapability (with_payload c payload) →
      TablesAgree (recapped slots slot (with_payload c payload)) memory
  guarded-tables (CNode a r g) same silent valid =
      agree-changed slots memory slot (CNode a r payload) agree (is-open slots slot e is) (subst (λ (k : Cap). IsWithoutTables k) (sym same) tt) tt valid
  guarded-tables (Endpoint a r b) same silent valid = absurd (let clash : true ≡ false = silent in cc)
  guarded-tables (Notification a r b) same silent valid = absurd (let clash : true ≡ false = silent in cc)
  guarded-tables (PageTable t m) same silent valid = kept-tables (PageTable t m) same
  guarded-tables (Frame f r m) same silent valid = kept-tables (Frame f r m) same
  guarded-tables (RootTable root) same silent valid = kept-tables (RootTable root) same
  guarded-tables Empty same silent valid = kept-tables Empty same
  guarded-tables (Untyped a b d) same silent valid = kept-tables (Untyped a b d) same
  guarded-tables (Tcb a) same silent valid = kept-tables (Tcb a) same
  guarded-tables InterruptControl same silent valid = kept-tables InterruptControl same
  guarded-tables (InterruptHandler a) same silent valid = kept-tables (InterruptHandler a) same

moved-here : (slots : Slots) (from to : ℕ) → from ≢ to → relocated slots from to to ≡ slots from
moved-here slots from to apart = elim (eqb_tells to from) [
  | inl here ↦ absurd (apart (sym here.1))
  | inr other ↦ ap (λ b. moved_entry slots from to to b (to == to)) other.0 ∙ elim (eqb_tells to to) [
    | inl same ↦ ap (moved_entry slots from to to false) same.0
    | inr differ ↦ absurd (differ.1 refl)
  ]
]

module _ (o : Tables) (slots : Slots) (old new : List ℕ) (from to payload : ℕ) (e : Entry) (from_held : slots from ≡ Some e)
    (empty : slots to ≡ Some empty_entry) (apart : from ≢ to) where
  abbrev moved : Slots
  moved = relocated slots from to

  abbrev made : Cap
  made = with_payload (capability_at slots from) payload

  here : moved to ≡ Some e
  here = moved-here slots from to apart ∙ from_held

  pub mutate-closes : (x : ℕ) → slots x ≡ None → recapped moved to made x ≡ None
  mutate-closes x none =
      put-closes moved to made (parent_at moved to) (is-open moved to e here) x
      (moved-closes slots from to (is-open slots from e from_held) (is-open slots to empty_entry empty) x none)

  pub mutate-agrees : Agreed o slots old → SameOutside slots old new → carries_messages (capability_at slots from) ≡ false → IsCapability made
      → Agreed o (recapped moved to made) new
  unfolding state_of
  mutate-agrees agrees same silent valid =
      let now = agree-moved slots new from to (agree-outside slots old new agrees.0.tables same) apart (is-open slots from e from_held)
      (is-open slots to empty_entry empty) (ap capability_of empty) in
      let held : capability_at moved to ≡ capability_at slots from = ap capability_of (moved-here slots from to apart) in
      changed-agrees o slots (recapped moved to made) old new agrees same mutate-closes
      (guarded-tables moved new to payload e here now (capability_at slots from) held silent valid)
      (λ table named. moved-named slots from to table (put-named moved to made (parent_at moved to) table
      (λ names. (to, subst (λ (k : Cap). NamesTable k table) (sym held) (guarded-names (capability_at slots from) payload table names))) named))
