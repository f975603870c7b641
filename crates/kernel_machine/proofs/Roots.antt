-- A capability without a parent comes into an empty boot slot.
use Rattle.std.proofs.Common.{ℕ, ◌≡◌, ◌∙◌, ◌^◌, ◌<◌, ◌&&◌, Bool, true, false, not, nat_lt, if◌then◌else◌, Option, Some, None, IsSome, List, refl, sym, ap}
use Rattle.std.proofs.Common.{subst}
use Rattle.std.proofs.lemmas.Bool.{and_parts, ltb-true, not-true}
use Rattle.kernel_invariant.proofs.Laws.{follows-law, put-agrees, put-closes}
use Rattle.kernel_invariant.specs.Wholeness.{Agreed}
use Rattle.model.specs.Capabilities.CapabilityWords.{IsCapability}
use Rattle.model.specs.Capabilities.Slots.{IsOpen, SameOutside, Slots, empty_entry, inserted, is_full}
use Rattle.model.specs.Kernel.Setup.{put_in_boot_slot}
use Rattle.model.specs.Kernel.Soundness.{IsSound}
use Rattle.model.specs.Kernel.State.{State, with_slots}
use Rattle.model.specs.declared.capabilities.Cap.{Cap}
use Rattle.model.specs.declared.capabilities.Cap.TheVariants.{Empty, Untyped, Endpoint, Notification, CNode, Frame, PageTable, Tcb, RootTable, InterruptControl}
use Rattle.model.specs.declared.capabilities.Cap.TheVariants.{InterruptHandler}
use Rattle.model.specs.declared.slot_entries.Entry.{Entry}
use Rattle.objects.specs.Tables.{Tables, state_of}
use Rattle.soundness.proofs.Laws.{empty-open, of_boot_cnode, plain-open}
use Rattle.vspace.specs.Agreement.{IsWithoutTables, MayBePut}
use Rattle.vspace.specs.Kept.{IsNamedTable, NamesTable}

plain-may : (slots : Slots) (memory : List ℕ) (c : Cap) → IsWithoutTables c → IsCapability c → MayBePut slots memory c
plain-may slots memory (Frame f r m) plain valid = absurd plain
plain-may slots memory (PageTable t m) plain valid = absurd plain
plain-may slots memory (RootTable root) plain valid = absurd plain
plain-may slots memory Empty plain valid = valid
plain-may slots memory (Untyped a b d) plain valid = valid
plain-may slots memory (Endpoint a r b) plain valid = valid
plain-may slots memory (Notification a r b) plain valid = valid
plain-may slots memory (CNode a r g) plain valid = valid
plain-may slots memory (Tcb a) plain valid = valid
plain-may slots memory InterruptControl plain valid = valid
plain-may slots memory (InterruptHandler a) plain valid = valid

plain-named : (slots : Slots) (c : Cap) (table : ℕ) → IsWithoutTables c → NamesTable c table → IsNamedTable slots table
plain-named slots (Frame f r m) table plain names = absurd plain
plain-named slots (PageTable t m) table plain names = absurd plain
plain-named slots (RootTable root) table plain names = absurd plain
plain-named slots Empty table plain names = absurd names
plain-named slots (Untyped a b d) table plain names = absurd names
plain-named slots (Endpoint a r b) table plain names = absurd names
plain-named slots (Notification a r b) table plain names = absurd names
plain-named slots (CNode a r g) table plain names = absurd names
plain-named slots (Tcb a) table plain names = absurd names
plain-named slots InterruptControl table plain names = absurd names
plain-named slots (InterruptHandler a) table plain names = absurd names

module _ (o : Tables) (slots : Slots) (old : List ℕ) (count index : ℕ) (capability : Cap) (free : Bool)
    (many : count ≡ 2 ^ (state_of o slots old).boot_radix) (tells : free ≡ (nat_lt index count && not (is_full slots index))) where
  abbrev chosen : Bool → Option State
  chosen b = if b then Some (with_slots (state_of o slots old) (inserted slots index capability None)) else None

  put-tested : put_in_boot_slot (state_of o slots old) index capability ≡ chosen free
  unfolding state_of
  put-tested = ap (λ (n : ℕ). chosen (nat_lt index n && not (is_full slots index))) (sym many) ∙ ap chosen (sym tells)

  pub put-refused : free ≡ false → put_in_boot_slot (state_of o slots old) index capability ≡ None
  put-refused is = put-tested ∙ ap chosen is

  pub put-passed : free ≡ true → put_in_boot_slot (state_of o slots old) index capability ≡ Some
      (with_slots (state_of o slots old) (inserted slots index capability None))
  put-passed is = put-tested ∙ ap chosen is

  pub put-empty : IsSound (state_of o slots old) → free ≡ true → slots index ≡ Some empty_entry
  unfolding state_of
  put-empty sound is =
      let parts = and_parts (nat_lt index count) (not (is_full slots index)) (sym tells ∙ is) in
      let few : index < 2 ^ (state_of o slots old).boot_radix = subst (λ (n : ℕ). index < n) many (ltb-true index count parts.0) in
      empty-open slots index sound.slots.derivation (plain-open (state_of o slots old) sound.slots index (of_boot_cnode few))
      (not-true (is_full slots index) parts.1)

-- what is left then
module _ (o : Tables) (slots now : Slots) (old new : List ℕ) (index : ℕ) (capability : Cap) (agreed : Agreed o slots old) (same : SameOutside slots old new)
    (empty : slots index ≡ Some empty_entry) (is : now ≡ inserted slots index capability None) where
  here-open : IsOpen slots index
  here-open = subst (λ (x : Option Entry). IsSome x) (sym empty) refl

  pub root-state : state_of o now new ≡ with_slots (state_of o slots old) (inserted slots index capability None)
  root-state =
      ap (λ (n : Slots). state_of o n new) is
      ∙ follows-law o slots (inserted slots index capability None) old new agreed same (put-closes slots index capability None here-open)

  pub root-agrees : IsWithoutTables capability → IsCapability capability → Agreed o now new
  root-agrees plain valid =
      subst (λ (n : Slots). Agreed o n new) (sym is)
      (put-agrees o slots old new index capability None agreed same empty (plain-may slots new capability plain valid)
      (λ table names. plain-named slots capability table plain names))
