-- Whether what two slots hold is the same.
use Rattle.std.proofs.Common.{ℕ, ◌≡◌, ◌∙◌, ◌==◌, inl, inr, if◌then◌else◌, Option, Some, None, refl, sym, ap}
use Rattle.std.proofs.lemmas.Option.{none-some, same_Some}
use Rattle.model.specs.declared.capabilities.Cap.{Cap}
use Rattle.model.specs.declared.capabilities.Cap.TheVariants.{Empty, Untyped, Endpoint, Notification, CNode, Frame, PageTable, Tcb, RootTable}
use Rattle.model.specs.declared.capabilities.Cap.TheVariants.{InterruptControl}
use Rattle.model.specs.declared.capabilities.Cap.TheVariants.{InterruptHandler}
use Rattle.model.specs.declared.capabilities.FrameMapping.{FrameMapping}
use Rattle.model.specs.declared.capabilities.TableMapping.{TableMapping}
use Rattle.model.specs.declared.slot_entries.Entry.{Entry}
use Rattle.model.specs.Capabilities.Rights.{rights}
use Rattle.part_laws.proofs.outside.Decided.{Decided, numbers, pairs, some-numbers}

abbrev Code : Type 0
Code = ℕ × (ℕ × (ℕ × (ℕ × (ℕ × (ℕ × (ℕ × ℕ))))))

abbrev mapped_code : Option FrameMapping → ℕ × (ℕ × (ℕ × ℕ))
mapped_code None = (0, (0, (0, 0)))
mapped_code (Some m) = (1, (m.root, (m.page, m.rights.0)))

abbrev of_mapped : ℕ × (ℕ × (ℕ × ℕ)) → Option FrameMapping
of_mapped (some, (root, (page, r))) = if some == 0 then None else Some (record { root = root; page = page; rights = rights r })

abbrev table_code : Option TableMapping → ℕ × (ℕ × (ℕ × ℕ))
table_code None = (0, (0, (0, 0)))
table_code (Some m) = (1, (m.root, (m.region, 0)))

abbrev of_table : ℕ × (ℕ × (ℕ × ℕ)) → Option TableMapping
of_table (some, (root, (region, r))) = if some == 0 then None else Some (record { root = root; region = region })

abbrev none_code : ℕ × (ℕ × (ℕ × ℕ))
none_code = (0, (0, (0, 0)))

abbrev code_of : Cap → Code
code_of Empty = (0, (0, (0, (0, none_code))))
code_of (Untyped offset bits watermark) = (1, (offset, (bits, (watermark, none_code))))
code_of (Endpoint offset r badge) = (2, (offset, (r.0, (badge, none_code))))
code_of (Notification offset r badge) = (3, (offset, (r.0, (badge, none_code))))
code_of (CNode offset radix guard) = (4, (offset, (radix, (guard, none_code))))
code_of (Frame offset r mapping) = (5, (offset, (r.0, (0, mapped_code mapping))))
code_of (PageTable offset mapping) = (6, (offset, (0, (0, table_code mapping))))
code_of (Tcb offset) = (7, (offset, (0, (0, none_code))))
code_of (RootTable offset) = (8, (offset, (0, (0, none_code))))
code_of InterruptControl = (9, (0, (0, (0, none_code))))
code_of (InterruptHandler number) = (10, (number, (0, (0, none_code))))

abbrev of_code : Code → Cap
of_code (kind, (a, (b, (c, m)))) =
    if kind == 0 then Empty else if kind == 1 then Untyped a b c else if kind == 2 then Endpoint a (rights b) c else
    if kind == 3 then Notification a (rights b) c else if kind == 4 then CNode a b c else if kind == 5 then Frame a (rights b) (of_mapped m) else
    if kind == 6 then PageTable a (of_table m) else if kind == 7 then Tcb a else if kind == 8 then RootTable a else
    if kind == 9 then InterruptControl else InterruptHandler a

back : (c : Cap) → of_code (code_of c) ≡ c
back Empty = refl
back (Untyped offset bits watermark) = refl
back (Endpoint offset r badge) = refl
back (Notification offset r badge) = refl
back (CNode offset radix guard) = refl
back (Frame offset r None) = refl
back (Frame offset r (Some m)) = refl
back (PageTable offset None) = refl
back (PageTable offset (Some m)) = refl
back (Tcb offset) = refl
back (RootTable offset) = refl
back InterruptControl = refl
back (InterruptHandler number) = refl

codes : (x y : Code) → Decided x y
codes x y =
    pairs x y (numbers _ _) (pairs _ _ (numbers _ _) (pairs _ _ (numbers _ _) (pairs _ _ (numbers _ _) (pairs _ _ (numbers _ _) (pairs _ _ (numbers _ _)
    (pairs _ _ (numbers _ _) (numbers _ _)))))))

caps : (a b : Cap) → Decided a b
caps a b = elim (codes (code_of a) (code_of b)) [
  | inl same ↦ inl (sym (back a) ∙ ap of_code same ∙ back b)
  | inr apart ↦ inr (λ same. apart (ap code_of same))
]

abbrev entry_pair : Entry → Cap × Option ℕ
entry_pair e = (e.capability, e.parent)

abbrev of_pair : Cap × Option ℕ → Entry
of_pair (capability, parent) = record { capability = capability; parent = parent }

entries : (a b : Entry) → Decided a b
entries a b = elim (pairs (entry_pair a) (entry_pair b) (caps a.capability b.capability) (some-numbers a.parent b.parent)) [
  | inl same ↦ inl (ap of_pair same)
  | inr apart ↦ inr (λ same. apart (ap entry_pair same))
]

pub some-entries : (a b : Option Entry) → Decided a b
some-entries None None = inl refl
some-entries None (Some b) = inr (λ same. absurd (none-some b same))
some-entries (Some a) None = inr (λ same. absurd (none-some a (sym same)))
some-entries (Some a) (Some b) = elim (entries a b) [
  | inl same ↦ inl (ap (λ (e : Entry). Some e) same)
  | inr apart ↦ inr (λ same. apart (same_Some a b same))
]
