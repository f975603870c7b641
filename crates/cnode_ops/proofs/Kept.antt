-- CNodes keep their slots.
use Rattle.std.proofs.Common.{ℕ, ◌≡◌, ◌∙◌, ◌==◌, ◌+◌, ◌/◌, true, false, IsSome, Option, Some, None, refl, sym}
use Rattle.std.specs.Prelude.{if◌then◌else◌}
use Rattle.std.specs.Option.{option_map}
use Rattle.model.specs.Capabilities.Slots.{IsOpen, Slots, adopted, empty_entry, inserted, relocated}
use Rattle.model.specs.declared.capabilities.Cap.{Cap}
use Rattle.model.specs.declared.capabilities.Cap.TheVariants.{CNode}
use Rattle.model.specs.declared.slot_entries.Entry.{Entry}
use Rattle.model.proofs.SlotChanges.{capability-adopted, capability_of}
use Rattle.cnode_ops.specs.Nodes.{CNodesAreOpen, HasOpenSlots}
use Rattle.cnode_ops.proofs.Values.{NamesNodeOf}

-- the CNode of the other has its slots
pub node-made : (slots : Slots) (held made : Cap) → NamesNodeOf held made → HasOpenSlots slots held → HasOpenSlots slots made
node-made slots held made names here = record {
  each = λ offset radix guard index is less.
      let old = names.each offset radix guard is in
      here.each offset radix old.0 index old.1 less;
}

-- ---- a capability in a slot

open-put : (slots : Slots) (slot : ℕ) (made : Cap) (parent : Option ℕ) (s : ℕ) → IsOpen slots s → IsOpen (inserted slots slot made parent) s
open-put slots slot made parent s is_open =
    elim (s == slot) as (λ b. IsSome (if b then Some (record { capability = made; parent = parent }) else slots s)) [ true ↦ refl | false ↦ is_open ]

pub nodes-put : (slots : Slots) (slot : ℕ) (made : Cap) (parent : Option ℕ) → CNodesAreOpen slots → HasOpenSlots slots made →
    CNodesAreOpen (inserted slots slot made parent)
nodes-put slots slot made parent nodes here = record {
  nodes = λ s. record {
    each = λ offset radix guard index is less. open-put slots slot made parent (offset / 16 + index) (
        elim (s == slot) as (λ b. capability_of (if b then Some (record { capability = made; parent = parent }) else slots s) ≡ CNode offset radix guard →
        IsOpen slots (offset / 16 + index)) [
          | true ↦ λ e. here.each offset radix guard index e less
          | false ↦ λ e. (nodes.nodes s).each offset radix guard index e less
        ] is);
  };
}

-- ---- a capability moved

open-adopted : (gone : ℕ) (parent : Option ℕ) (held : Option Entry) → IsSome held → IsSome (option_map (adopted gone parent) held)
open-adopted gone parent None is_open = is_open
open-adopted gone parent (Some held) is_open = refl

open-moved : (slots : Slots) (from to s : ℕ) → IsOpen slots from → IsOpen slots s → IsOpen (relocated slots from to) s
open-moved slots from to s source is_open =
    elim (s == from) as (λ b. IsSome (if b then Some empty_entry else (if s == to then slots from else option_map (adopted from (Some to)) (slots s)))) [
      | true ↦ refl
      | false ↦ elim (s == to) as (λ b. IsSome (if b then slots from else option_map (adopted from (Some to)) (slots s))) [
        | true ↦ source
        | false ↦ open-adopted from (Some to) (slots s) is_open
      ]
    ]

pub nodes-moved : (slots : Slots) (from to : ℕ) → IsOpen slots from → CNodesAreOpen slots → CNodesAreOpen (relocated slots from to)
nodes-moved slots from to source nodes = record {
  nodes = λ s. record {
    each = λ offset radix guard index is less. open-moved slots from to (offset / 16 + index) source (
        elim (s == from) as (λ b. capability_of (if b then Some empty_entry else
        (if s == to then slots from else option_map (adopted from (Some to)) (slots s))) ≡ CNode offset radix guard → IsOpen slots (offset / 16 + index)) [
          | true ↦ λ e. absurd (cc)
          | false ↦ λ e. elim (s == to) as (λ b. capability_of (if b then slots from else option_map (adopted from (Some to)) (slots s)) ≡ CNode offset radix
              guard → IsOpen slots (offset / 16 + index)) [
                | true ↦ λ f. (nodes.nodes from).each offset radix guard index f less
                | false ↦ λ f. (nodes.nodes s).each offset radix guard index (sym (capability-adopted from (Some to) (slots s)) ∙ f) less
              ] e
        ] is);
  };
}

-- and changed there
pub nodes-mutated : (slots : Slots) (from to : ℕ) (made : Cap) (parent : Option ℕ) → IsOpen slots from → CNodesAreOpen slots → HasOpenSlots slots made →
    CNodesAreOpen (inserted (relocated slots from to) to made parent)
nodes-mutated slots from to made parent source nodes here =
    nodes-put (relocated slots from to) to made parent (nodes-moved slots from to source nodes) (record {
      each = λ offset radix guard index is less. open-moved slots from to (offset / 16 + index) source (here.each offset radix guard index is less);
    })
