-- What a slot holds moved to another keeps soundness.
use Rattle.std.proofs.Common.{ℕ, ◌≡◌, ◌≢◌, ◌∙◌, ◌==◌, inl, inr, true, not, is_some, if◌then◌else◌, Option, Some, None, option_map, refl, sym, ap, subst}
use Rattle.std.proofs.lemmas.Bool.{eq-eqb, ne_eqb}
use Rattle.std.proofs.lemmas.Bool.Decides.{eqb_tells}
use Rattle.derivation.specs.Moves.{name_after_move}
use Rattle.derivation.proofs.Laws.{descendant-moved}
use Rattle.model.proofs.Ancestors.{full-open}
use Rattle.model.proofs.Derivations.{derivation-relocated}
use Rattle.model.proofs.SlotChanges.{capability_of, parent_of, capability-adopted, entry-other, entry-same, full-not-empty}
use Rattle.model.specs.declared.capabilities.Cap.{Cap}
use Rattle.model.specs.declared.slot_entries.Entry.{Entry}
use Rattle.model.specs.Capabilities.CapabilityKinds.{frame_mapping, table_mapping}
use Rattle.model.specs.Capabilities.Slots.{Descendant, child, deeper, IsFull, Slots, adopted, capability_at, empty_entry, is_empty, parent_at, relocated}
use Rattle.model.specs.Capabilities.Slots.{with_entry, with_parent}
use Rattle.model.specs.Kernel.Kinds.{object_named, piece_of, used_of}
use Rattle.model.specs.Kernel.Soundness.{IsSound}
use Rattle.model.specs.Kernel.State.{State, with_slots}
use Rattle.soundness.proofs.Carried.{Carries, CarriesMappings, sound-carried}
use Rattle.soundness.proofs.Places.{IsPlain, MayHold, full-may_hold, plain-may_hold}

module _ (s : State) (from to : ℕ) (sound : IsSound s) (full : IsFull s.slots from) (empty : s.slots to ≡ Some empty_entry) (here : IsPlain s from)
    (there : IsPlain s to) where
  abbrev old : Slots
  old = s.slots

  new : Slots
  new = relocated s.slots from to

  -- the two slots change places
  origin : ℕ → ℕ
  origin x = if x == to then from else if x == from then to else x

  differ : from ≢ to
  differ = full-not-empty s.slots from to full empty

  held-to : new to ≡ old from
  unfolding new
  held-to =
      entry-other (with_entry (with_parent old from (Some to)) to (old from)) from (Some empty_entry) to (λ e. differ (sym e))
      ∙ entry-same (with_parent old from (Some to)) to (old from)

  held-from : new from ≡ Some empty_entry
  unfolding new
  held-from = entry-same (with_entry (with_parent old from (Some to)) to (old from)) from (Some empty_entry)

  held-other : (x : ℕ) → x ≢ to → x ≢ from → new x ≡ option_map (adopted from (Some to)) (old x)
  unfolding new
  held-other x not_to not_from =
      entry-other (with_entry (with_parent old from (Some to)) to (old from)) from (Some empty_entry) x not_from
      ∙ entry-other (with_parent old from (Some to)) to (old from) x not_to

  origin-to : origin to ≡ from
  unfolding origin
  origin-to = ap (λ b. if b then from else if to == from then to else to) (eq-eqb to to refl)

  origin-from : origin from ≡ to
  unfolding origin
  origin-from = ap (λ b. if b then from else if from == from then to else from) (ne_eqb from to differ)
      ∙ ap (λ b. if b then to else from) (eq-eqb from from refl)

  origin-other : (x : ℕ) → x ≢ to → x ≢ from → origin x ≡ x
  unfolding origin
  origin-other x not_to not_from = ap (λ b. if b then from else if x == from then to else x) (ne_eqb x to not_to)
      ∙ ap (λ b. if b then to else x) (ne_eqb x from not_from)

  -- what follows from the three kinds of slots follows for all
  three : (P : ℕ → Type 0) → P to → P from → ((x : ℕ) → x ≢ to → x ≢ from → P x) → (x : ℕ) → P x
  three P at_to at_from other x = elim (eqb_tells x to) [
    | inl is_to ↦ subst P (sym is_to.1) at_to
    | inr not_to ↦ elim (eqb_tells x from) [
      | inl is_from ↦ subst P (sym is_from.1) at_from
      | inr not_from ↦ other x not_to.1 not_from.1
    ]
  ]

  origin-twice : (x : ℕ) → origin (origin x) ≡ x
  origin-twice = three (λ x. origin (origin x) ≡ x) (ap origin origin-to ∙ origin-from) (ap origin origin-from ∙ origin-to)
      (λ x not_to not_from. ap origin (origin-other x not_to not_from) ∙ origin-other x not_to not_from)

  origin-one : (a b : ℕ) → origin a ≡ origin b → a ≡ b
  origin-one a b same = sym (origin-twice a) ∙ ap origin same ∙ origin-twice b

  capability-origin : (x : ℕ) → capability_at new x ≡ capability_at old (origin x)
  capability-origin = three (λ x. capability_at new x ≡ capability_at old (origin x))
      (ap capability_of held-to ∙ sym (ap (capability_at old) origin-to))
      (ap capability_of held-from ∙ sym (ap (capability_at old) origin-from ∙ ap capability_of empty))
      (λ x not_to not_from. ap capability_of (held-other x not_to not_from) ∙ capability-adopted from (Some to) (old x)
      ∙ sym (ap (capability_at old) (origin-other x not_to not_from)))

  -- nothing descends to the empty slot
  not-below : (root x : ℕ) → Descendant old root x → x ≢ to
  not-below root x (child _ is) = λ e. let clash : None ≡ Some root = sym (ap parent_of empty) ∙ ap (parent_at old) (sym e) ∙ is in cc
  not-below root x (deeper _ up is below) = λ e. let clash : None ≡ Some up = sym (ap parent_of empty) ∙ ap (parent_at old) (sym e) ∙ is in cc

  name-back : (x : ℕ) → x ≢ from → name_after_move from to (origin x) ≡ x
  name-back = three (λ x. x ≢ from → name_after_move from to (origin x) ≡ x)
      (λ _. ap (name_after_move from to) origin-to ∙ ap (λ b. if b then to else from) (eq-eqb from from refl))
      (λ other. absurd (other refl))
      (λ x not_to not_from _. ap (name_after_move from to) (origin-other x not_to not_from) ∙ ap (λ b. if b then to else x) (ne_eqb x from not_from))

  descends-moved : (root x : ℕ) → root ≢ from → Descendant old (origin root) (origin x) → Descendant new root x
  unfolding new
  descends-moved root x root_other below =
      let not_to = not-below (origin root) (origin x) below in
      let moved = descendant-moved s.slots from to (origin root) (origin x) sound.slots.derivation full empty not_to below in
      subst (λ (r : ℕ). Descendant (relocated s.slots from to) r x) (name-back root root_other)
      (subst (λ (y : ℕ). Descendant (relocated s.slots from to) (name_after_move from to (origin root)) y)
      (name-back x (λ e. not_to (ap origin e ∙ origin-from))) moved)

  carries : Carries old new origin
  carries = record {
    object = λ x. ap object_named (capability-origin x);
    piece = λ x. ap piece_of (capability-origin x);
    used = λ x. ap used_of (capability-origin x);
    descends = λ root x part is below. descends-moved root x
        (λ e. let clash : None ≡ Some part = ap (λ (o : Option Entry). used_of (capability_of o)) (sym held-from)
        ∙ ap (λ (y : ℕ). used_of (capability_at new y)) (sym e) ∙ is in cc) below;
    kept = λ x _. (origin x, origin-twice x);
    twins = λ a b other twin. absurd (other (origin-one a b twin));
  }

  carries-mappings : CarriesMappings old new origin
  carries-mappings = record {
    frame = λ x m is. ap frame_mapping (sym (capability-origin x)) ∙ is;
    table = λ x. ap table_mapping (capability-origin x);
    page_table = λ x offset m is. sym (capability-origin x) ∙ is;
    one_frame = λ a b m n twin one other. origin-one a b twin;
    one_table = λ a b offset m twin is. origin-one a b twin;
  }

  adopted-some : (o : Option Entry) → is_some (option_map (adopted from (Some to)) o) ≡ is_some o
  adopted-some None = refl
  adopted-some (Some held) = refl

  open-still : (x : ℕ) → is_some (new x) ≡ is_some (old x)
  open-still = three (λ x. is_some (new x) ≡ is_some (old x))
      (ap is_some held-to ∙ full-open s.slots from full ∙ sym (ap is_some empty))
      (ap is_some held-from ∙ sym (full-open s.slots from full))
      (λ x not_to not_from. ap is_some (held-other x not_to not_from) ∙ adopted-some (old x))

  may-still : (x : ℕ) → IsFull new x → MayHold s x (capability_at new x)
  may-still = three (λ x. IsFull new x → MayHold s x (capability_at new x))
      (λ _. plain-may_hold s sound.memory to (capability_at new to) there)
      (λ _. plain-may_hold s sound.memory from (capability_at new from) here)
      (λ x not_to not_from filled.
      let same : capability_at new x ≡ capability_at old x = capability-origin x ∙ ap (capability_at old) (origin-other x not_to not_from) in
      subst (λ (c : Cap). MayHold s x c) (sym same) (full-may_hold s sound.slots x (subst (λ (c : Cap). not (is_empty c) ≡ true) same filled)))

  pub relocated-capability : capability_at (relocated s.slots from to) to ≡ capability_at s.slots from
  unfolding new
  relocated-capability = ap capability_of held-to

  pub relocated-sound : IsSound (with_slots s (relocated s.slots from to))
  unfolding new
  relocated-sound =
      sound-carried s new origin sound (derivation-relocated s.slots from to sound.slots.derivation full empty) open-still may-still carries carries-mappings
