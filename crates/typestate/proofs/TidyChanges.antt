-- Tidy changes leave no stray slot: each line of parents behind them stands for one that led to the boot CNode before.
use Rattle.std.proofs.Common.{ℕ, zero, suc, ◌≡◌, ◌∙◌, ◌==◌, ◌⊎◌, inl, inr, Bool, true, false, not, ◌&&◌, ◌||◌, nat_le, if◌then◌else◌, Option, Some, None}
use Rattle.std.proofs.Common.{option_map, option_and_then, is_some, List, [], ◌∷◌, length, map, refl, sym, ap, subst, arith}
use Rattle.std.specs.List.{list_all, list_any}
use Rattle.std.specs.Option.{option_map_or}
use Rattle.std.proofs.Math.Dec.{leb-zero}
use Rattle.std.proofs.lemmas.Bool.{eq-eqb, eqb-true}
use Rattle.model.specs.Acceptance.NotedStates.{NotedSlot, SlotKey, is_foreign, is_own, is_same_key, is_same_parent, leads_to_boot, number_of, slot_at}
use Rattle.model.specs.Acceptance.NotedStates.{with_noted}
use Rattle.model.specs.Capabilities.CapabilityFields.{is_capability}
use Rattle.model.specs.Capabilities.Slots.{is_empty}
use Rattle.model.specs.declared.capabilities.Cap.{Cap}
use Rattle.model.specs.declared.capabilities.Cap.TheVariants.{Empty, Untyped, Endpoint, Notification, CNode, Frame, PageTable, Tcb, RootTable, InterruptControl}
use Rattle.model.specs.declared.capabilities.Cap.TheVariants.{InterruptHandler}
use Rattle.typestate.specs.Differences.{changed, left_by}
use Rattle.typestate.specs.SlotChanges.{emptied, followed, heir, is_parent, is_removed, loses_children, moved, noted_outside, noted_parent, slot_left}
use Rattle.typestate.specs.SlotChanges.{slots_left, what_stays, without_gone}
use Rattle.typestate.specs.Strays.{NoneStray, cnodes_of, is_stray_in, is_tidy, is_tidy_put, is_unfit, keeps_line, keeps_parent}
use Rattle.typestate.specs.declared.slot_changes.SlotChange.{SlotChange}
use Rattle.typestate.specs.declared.slot_changes.SlotChange.TheVariants.{Nothing, Puts, Moves, Removes}
use Rattle.typestate.specs.declared.spaces.Space.{Space}
use Rattle.typestate.proofs.Compared.{same-place}
use Rattle.typestate.proofs.LevelByLevel.{removed-same}
use Rattle.typestate.proofs.MoveCalls.{follows-keeps, map-at, map-rises}
use Rattle.typestate.proofs.ParentLines.{on, suffices}
use Rattle.typestate.proofs.RemovedNoted.{reset-left, stay-at, stay-rise, stays-keeps}
use Rattle.typestate.proofs.RemovedOwn.{reset}
use Rattle.typestate.proofs.Rising.{RiseFrom, changes-rise}
use Rattle.typestate.proofs.SlotLists.{noted-at}
use Rattle.typestate.proofs.SomeHeld.{any-held, held-any}
use Rattle.typestate.proofs.Standing.{found-key}

-- ---- lines that lead to the boot CNode, in some number of steps

record Leads (slots : List NotedSlot) (parent : Option SlotKey) : Type 0 where
  steps : ℕ
  there : leads_to_boot steps slots parent ≡ true

from-boot : (slots : List NotedSlot) → Leads slots None
unfolding leads_to_boot
from-boot slots = record { steps = 0; there = refl }

longer : (n : ℕ) (slots : List NotedSlot) (p : Option SlotKey) → leads_to_boot n slots p ≡ true → leads_to_boot (suc n) slots p ≡ true
unfolding leads_to_boot
longer n slots None leads = refl
longer zero slots (Some key) leads = absurd (let no : false ≡ true = leads in cc)
longer (suc n) slots (Some key) leads = elim (slot_at slots key) as (λ found. on n slots found ≡ true → on (suc n) slots found ≡ true) [
  | None ↦ λ clash. clash
  | Some s ↦ λ more. longer n slots s.parent more
] leads

-- keys of one number name one slot
abbrev SamePlace : Option SlotKey → Option SlotKey → Type 0
SamePlace p q = option_map number_of p ≡ option_map number_of q

number-same : (a b : SlotKey) → SamePlace (Some a) (Some b) → number_of a ≡ number_of b
number-same a b same = ap (λ (o : Option ℕ). option_map_or (λ n. n) o 0) same

only-none : (q : Option SlotKey) → SamePlace None q → q ≡ None
only-none None same = refl
only-none (Some key) same = absurd (let clash : ◌≡◌ {A = Option ℕ} None (Some (number_of key)) = same in cc)

leads-same : (n : ℕ) (slots : List NotedSlot) (p q : Option SlotKey) → SamePlace p q → leads_to_boot n slots p ≡ true → leads_to_boot n slots q ≡ true
unfolding leads_to_boot
leads-same n slots None q same leads = ap (leads_to_boot n slots) (only-none q same)
leads-same zero slots (Some a) q same leads = absurd (let no : false ≡ true = leads in cc)
leads-same (suc n) slots (Some a) None same leads = refl
leads-same (suc n) slots (Some a) (Some b) same leads = ap (on n slots) (sym (same-place slots a b (number-same a b same))) ∙ leads

same-parents : (p q : Option SlotKey) → is_same_parent p q ≡ true → SamePlace p q
same-parents None None is = refl
same-parents None (Some b) is = absurd (let no : false ≡ true = is in cc)
same-parents (Some a) None is = absurd (let no : false ≡ true = is in cc)
same-parents (Some a) (Some b) is = ap (λ (n : ℕ). Some n) (eqb-true (number_of a) (number_of b) is)

-- ---- one line stands for another

-- where a line goes on, the one that stands for it does so too
record StepsTo (new : List NotedSlot) (R : Option SlotKey → Option SlotKey → Type 0) (before q : Option SlotKey) : Type 0 where
  key : SlotKey
  at : q ≡ Some key
  held : NotedSlot
  holds : slot_at new key ≡ Some held
  rest : R before held.parent

abbrev GoesOn : List NotedSlot → (Option SlotKey → Option SlotKey → Type 0) → Option SlotKey → Option SlotKey → Type 0
GoesOn new R before q = (q ≡ None) ⊎ (R before q ⊎ StepsTo new R before q)

module _ (old new : List NotedSlot) (R : Option SlotKey → Option SlotKey → Type 0) (none : (q : Option SlotKey) → R None q → q ≡ None)
    (step : (key : SlotKey) (o : NotedSlot) (q : Option SlotKey) → slot_at old key ≡ Some o → R (Some key) q → GoesOn new R o.parent q) where
  leads-too : (n : ℕ) (p q : Option SlotKey) → R p q → leads_to_boot n old p ≡ true → leads_to_boot n new q ≡ true
  unfolding leads_to_boot
  leads-too n None q r leads = ap (leads_to_boot n new) (none q r)
  leads-too zero (Some key) q r leads = absurd (let no : false ≡ true = leads in cc)
  leads-too (suc n) (Some key) q r leads =
      elim (slot_at old key) as (λ found. slot_at old key ≡ found → on n old found ≡ true → leads_to_boot (suc n) new q ≡ true) [
        | None ↦ λ _ clash. absurd (let no : false ≡ true = clash in cc)
        | Some o ↦ λ is behind. elim (step key o q is r) [
          | inl ends ↦ ap (leads_to_boot (suc n) new) ends
          | inr more ↦ elim more [
            | inl skips ↦ longer n new q (leads-too n o.parent q skips behind)
            | inr steps ↦ ap (leads_to_boot (suc n) new) steps.at ∙ ap (on n new) steps.holds ∙ leads-too n o.parent steps.held.parent steps.rest behind
          ]
        ]
      ] refl leads

  stands-for : (p q : Option SlotKey) → R p q → Leads old p → Leads new q
  stands-for p q r leads = record { steps = leads.steps; there = leads-too leads.steps p q r leads.there }

-- ---- no slot is stray

and-first : (a b : Bool) → (a && b) ≡ true → a ≡ true
and-first true b is = refl
and-first false b is = absurd (let no : false ≡ true = is in cc)

and-second : (a b : Bool) → (a && b) ≡ true → b ≡ true
and-second true b is = is
and-second false b is = absurd (let no : false ≡ true = is in cc)

or-first : (a b : Bool) → (a || b) ≡ false → a ≡ false
or-first true b is = is
or-first false b is = refl

or-second : (a b : Bool) → (a || b) ≡ false → b ≡ false
or-second true b is = absurd (let no : true ≡ false = is in cc)
or-second false b is = is

not-false : (a : Bool) → not a ≡ true → a ≡ false
not-false true is = absurd (let no : false ≡ true = is in cc)
not-false false is = refl

not-true : (a : Bool) → not a ≡ false → a ≡ true
not-true true is = refl
not-true false is = absurd (let no : true ≡ false = is in cc)

record Fits (space : Space) (slots : List NotedSlot) (s : NotedSlot) : Type 0 where
  fit : is_unfit space s ≡ false
  leads : Leads slots s.parent

record AllFit (space : Space) (slots : List NotedSlot) : Type 0 where
  each : (key : SlotKey) (s : NotedSlot) → slot_at slots key ≡ Some s → Fits space slots s

module _ (space : Space) where
  abbrev stray : List NotedSlot → NotedSlot → Bool
  stray slots s = is_stray_in space slots s

  abbrev None-in : List NotedSlot → Type 0
  None-in slots = NoneStray space.image.now space.thread.now slots

  not-stray : (slots : List NotedSlot) (key : SlotKey) (s : NotedSlot) → None-in slots → slot_at slots key ≡ Some s → stray slots s ≡ false
  not-stray slots key s none at = elim (stray slots s) as (λ b. stray slots s ≡ b → b ≡ false) [
    | false ↦ λ _. refl
    | true ↦ λ is. absurd (let clash : true ≡ false =
        sym (held-any (stray slots) slots key (ap (λ (o : Option NotedSlot). option_map_or (stray slots) o false) at ∙ is)) ∙ none in
        cc)
  ] refl

  all-fit : (slots : List NotedSlot) → None-in slots → AllFit space slots
  all-fit slots none = record {
    each = λ key s at.
        let isnt = not-stray slots key s none at in
        record {
          fit = or-first (is_unfit space s) (not (leads_to_boot (length slots) slots s.parent)) isnt;
          leads = record { steps = length slots; there = not-true _ (or-second (is_unfit space s) (not (leads_to_boot (length slots) slots s.parent)) isnt) };
        };
  }

  fits-none : (slots : List NotedSlot) (s : NotedSlot) → Fits space slots s → stray slots s ≡ false
  fits-none slots s fits =
      ap (λ b. b || not (leads_to_boot (length slots) slots s.parent)) fits.fit
      ∙ ap not (suffices (length slots) slots fits.leads.steps s.parent (omega arith) fits.leads.there)

  none-stray : (slots : List NotedSlot) → RiseFrom 0 slots → AllFit space slots → None-in slots
  none-stray slots rises all = elim (list_any (stray slots) slots) as (λ b. list_any (stray slots) slots ≡ b → b ≡ false) [
    | false ↦ λ _. refl
    | true ↦ λ some.
        let found = any-held (stray slots) slots 0 rises some in
        elim (slot_at slots found.key) as (λ o. slot_at slots found.key ≡ o → option_map_or (stray slots) o false ≡ true → true ≡ false) [
          | None ↦ λ _ clash. absurd (let no : false ≡ true = clash in cc)
          | Some s ↦ λ at is. absurd (let no : true ≡ false = sym is ∙ fits-none slots s (all.each found.key s at) in cc)
        ] refl found.holding
  ] refl

-- ---- slots that are put

record Keeps (more : List NotedSlot) (key : SlotKey) (o : NotedSlot) : Type 0 where
  held : NotedSlot
  at : slot_at more key ≡ Some held
  same : SamePlace held.parent o.parent

module _ (space : Space) (slots : List NotedSlot) (all : AllFit space slots) where
  -- more slots, whose parents stood before
  record Extends (more : List NotedSlot) : Type 0 where
    keeps : (key : SlotKey) (o : NotedSlot) → slot_at slots key ≡ Some o → Keeps more key o
    fits : (key : SlotKey) (s : NotedSlot) → slot_at more key ≡ Some s → Fits space slots s

  itself : Extends slots
  itself = record { keeps = λ key o at. record { held = o; at = at; same = refl }; fits = λ key s at. all.each key s at }

  extended : (more : List NotedSlot) → RiseFrom 0 more → Extends more → NoneStray space.image.now space.thread.now more
  extended more rises ext = none-stray space more rises (record {
    each = λ key s at.
        let was = ext.fits key s at in
        record {
          fit = was.fit;
          leads = stands-for slots more SamePlace only-none
              (λ k o q held same. elim q as (λ q. SamePlace (Some k) q → GoesOn more SamePlace o.parent q) [
                | None ↦ λ clash. absurd (let no : ◌≡◌ {A = Option ℕ} (Some (number_of k)) None = clash in cc)
                | Some l ↦ λ is.
                    let kept = ext.keeps k o held in
                    inr (inr (record {
                      key = l;
                      at = refl;
                      held = kept.held;
                      holds = same-place more l k (sym (number-same k l is)) ∙ kept.at;
                      rest =
                          sym kept.same;
                    }))
              ] same)
              s.parent s.parent refl was.leads;
        };
  })

  -- a tidy slot hangs below what stood before
  below : (c : NotedSlot) → keeps_line slots c ≡ true → Leads slots c.parent
  unfolding leads_to_boot
  below c line = elim (slot_at slots c.key) as (λ found. slot_at slots c.key ≡ found
      → option_map_or (λ o. is_same_parent c.parent o.parent) found (option_map_or (λ p. is_some (slot_at slots p)) c.parent true) ≡ true →
      Leads slots c.parent) [
        | Some o ↦ λ at same.
            let was = (all.each c.key o at).leads in
            record { steps = was.steps; there = leads-same was.steps slots o.parent c.parent (sym (same-parents c.parent o.parent same)) was.there }
        | None ↦ λ _ hangs. elim c.parent as (λ p. option_map_or (λ p. is_some (slot_at slots p)) p true ≡ true → Leads slots p) [
          | None ↦ λ _. from-boot slots
          | Some p ↦ λ full. elim (slot_at slots p) as (λ found. slot_at slots p ≡ found → is_some found ≡ true → Leads slots (Some p)) [
            | None ↦ λ _ clash. absurd (let no : false ≡ true = clash in cc)
            | Some o ↦ λ at _.
                let was = (all.each p o at).leads in
                record { steps = suc was.steps; there = ap (on was.steps slots) at ∙ was.there }
          ] refl full
        ] hangs
      ] refl line

  put-one : (more : List NotedSlot) (c : NotedSlot) → is_tidy_put space slots c ≡ true → Extends more → Extends (with_noted more c)
  put-one more c tidy ext =
      let fit-full = and-first (not (is_unfit space c) && not (is_empty c.capability)) (keeps_line slots c) tidy in
      let line = and-second (not (is_unfit space c) && not (is_empty c.capability)) (keeps_line slots c) tidy in
      let fit = not-false (is_unfit space c) (and-first (not (is_unfit space c)) (not (is_empty c.capability)) fit-full) in
      let full = not-false (is_empty c.capability) (and-second (not (is_unfit space c)) (not (is_empty c.capability)) fit-full) in
      let left : left_by c ≡ Some c = ap (λ b. if b then None else Some c) full in
      let own : Fits space slots c = record { fit = fit; leads = below c line } in
      record {
        keeps = λ key o at. elim (is_same_key c.key key) as (λ b. is_same_key c.key key ≡ b → Keeps (with_noted more c) key o) [
          | true ↦ λ is.
              let there = same-place slots c.key key (eqb-true (number_of c.key) (number_of key) is) ∙ at in
              record {
                held = c;
                at = noted-at more c key ∙ ap (λ b. if b then left_by c else slot_at more key) is ∙ left;
                same = same-parents c.parent o.parent
                    (sym (ap (λ (found : Option NotedSlot). option_map_or (λ o. is_same_parent c.parent o.parent) found
                    (option_map_or (λ p. is_some (slot_at slots p)) c.parent true)) there) ∙ line);
              }
          | false ↦ λ isnt.
              let kept = ext.keeps key o at in
              record { held = kept.held; at = noted-at more c key ∙ ap (λ b. if b then left_by c else slot_at more key) isnt ∙ kept.at; same = kept.same }
        ] refl;
        fits = λ key s at. elim (is_same_key c.key key) as (λ b. is_same_key c.key key ≡ b → Fits space slots s) [
          | true ↦ λ is.
              let here : ◌≡◌ {A = Option NotedSlot} (Some c) (Some s) = sym left ∙ ap (λ b. if b then left_by c else slot_at more key) (sym is)
              ∙ sym (noted-at more c key) ∙ at in
              subst (Fits space slots) (let same : c ≡ s = cc here in same) own
          | false ↦ λ isnt. ext.fits key s (ap (λ b. if b then left_by c else slot_at more key) (sym isnt) ∙ sym (noted-at more c key) ∙ at)
        ] refl;
      }

  put-all : (made more : List NotedSlot) → list_all (is_tidy_put space slots) made ≡ true → Extends more → Extends (changed more made)
  put-all [] more tidy ext = ext
  put-all (c ∷ made) more tidy ext =
      put-all made (with_noted more c) (and-second (is_tidy_put space slots c) (list_all (is_tidy_put space slots) made) tidy)
      (put-one more c (and-first (is_tidy_put space slots c) (list_all (is_tidy_put space slots) made) tidy) ext)

  puts-none : (made : List NotedSlot) → RiseFrom 0 slots → list_all (is_tidy_put space slots) made ≡ true →
      NoneStray space.image.now space.thread.now (changed slots made)
  puts-none made rises tidy = extended (changed slots made) (changes-rise slots made rises) (put-all made slots tidy itself)

  put-none : (c : NotedSlot) → RiseFrom 0 slots → is_tidy_put space slots c ≡ true → NoneStray space.image.now space.thread.now (with_noted slots c)
  put-none c rises tidy = extended (with_noted slots c) (changes-rise slots (c ∷ []) rises) (put-one slots c tidy itself)

pub tidy-puts : (space : Space) (slots made : List NotedSlot) → RiseFrom 0 slots → NoneStray space.image.now space.thread.now slots →
    list_all (is_tidy_put space slots) made ≡ true
    → NoneStray space.image.now space.thread.now (changed slots made)
tidy-puts space slots made rises none tidy = puts-none space slots (all-fit space slots none) made rises tidy

-- ---- slots that are removed

-- whether a slot is fit, by its key and its capability
abbrev unfit_with : Space → SlotKey → Cap → Bool
unfit_with space key c = not (is_own space.image.now (cnodes_of space) key) || is_foreign space.image.now space.thread.now (cnodes_of space) c
    || not (is_capability c)

still-fit : (own a : Bool) (watermark whole : ℕ) → (own || false || not (a && nat_le watermark whole)) ≡ false →
    (own || false || not (a && nat_le 0 whole)) ≡ false
still-fit true a watermark whole isnt = isnt
still-fit false true watermark whole isnt = ap not (leb-zero whole)
still-fit false false watermark whole isnt = isnt

fit-left : (space : Space) (key : SlotKey) (loses : Bool) (c : Cap) → unfit_with space key c ≡ false → unfit_with space key (reset loses c) ≡ false
unfolding is_capability
fit-left space key true (Untyped offset bits watermark) fit = still-fit (not (is_own space.image.now (cnodes_of space) key)) _ watermark _ fit
fit-left space key false (Untyped offset bits watermark) fit = fit
fit-left space key loses Empty fit = fit
fit-left space key loses (Endpoint _ _ _) fit = fit
fit-left space key loses (Notification _ _ _) fit = fit
fit-left space key loses (CNode _ _ _) fit = fit
fit-left space key loses (Frame _ _ _) fit = fit
fit-left space key loses (PageTable _ _) fit = fit
fit-left space key loses (Tcb _) fit = fit
fit-left space key loses (RootTable _) fit = fit
fit-left space key loses InterruptControl fit = fit
fit-left space key loses (InterruptHandler _) fit = fit

module _ (space : Space) (gone : SlotKey → Bool) (by : (a b : SlotKey) → number_of a ≡ number_of b → gone a ≡ gone b) (slots : List NotedSlot)
    (rises : RiseFrom 0 slots) (all : AllFit space slots) where
  abbrev left : List NotedSlot
  left = without_gone gone slots

  left-is : (key : SlotKey) → slot_at left key ≡ option_and_then (what_stays gone slots) (slot_at slots key)
  left-is key = stay-at (what_stays gone slots) (stays-keeps gone slots) slots 0 key rises

  stays-so : (key : SlotKey) (o : NotedSlot) → slot_at slots key ≡ Some o → gone key ≡ false → slot_at left key ≡ Some (slot_left gone slots o)
  stays-so key o at stays =
      left-is key ∙ ap (option_and_then (what_stays gone slots)) at
      ∙ ap (λ b. if b then None else Some (slot_left gone slots o)) (by o.key key (found-key slots key o at) ∙ stays)

  -- the nearest slot of a line that stays, where so many are looked at
  record Outside (p q : Option SlotKey) : Type 0 where
    most : ℕ
    is : q ≡ noted_outside most gone slots p

  no-line : (q : Option SlotKey) → Outside None q → q ≡ None
  unfolding noted_outside
  no-line q out = elim out.most as (λ n. q ≡ noted_outside n gone slots None → q ≡ None) [ zero ↦ λ is. is | suc n ↦ λ is. is ] out.is

  one-step : (key : SlotKey) (o : NotedSlot) (q : Option SlotKey) → slot_at slots key ≡ Some o → Outside (Some key) q → GoesOn left Outside o.parent q
  unfolding noted_outside
  one-step key o q at out = elim out.most as (λ n. q ≡ noted_outside n gone slots (Some key) → GoesOn left Outside o.parent q) [
    | zero ↦ λ is. inl is
    | suc n ↦ λ is. elim (gone key) as (λ b. gone key ≡ b → q ≡ (if b then noted_outside n gone slots (noted_parent slots key) else Some key) →
        GoesOn left Outside o.parent q) [
          | true ↦ λ _ goes. inr
              (inl (record { most = n; is = goes ∙ ap (noted_outside n gone slots) (ap (option_and_then (λ (s : NotedSlot). s.parent)) at) }))
          | false ↦ λ stays here.
              inr (inr (record {
                key = key;
                at = here;
                held = slot_left gone slots o;
                holds = stays-so key o at stays;
                rest =
                    record { most = 256; is = refl };
              }))
        ] refl is
  ] out.is

  left-fits : (key : SlotKey) (s : NotedSlot) → slot_at left key ≡ Some s → Fits space left s
  left-fits key s at = elim (slot_at slots key) as (λ found. slot_at slots key ≡ found → option_and_then (what_stays gone slots) found ≡ Some s →
      Fits space left s) [
        | None ↦ λ _ clash. absurd (let no : ◌≡◌ {A = Option NotedSlot} None (Some s) = clash in cc)
        | Some o ↦ λ was stays. elim (gone o.key) as (λ b. (if b then None else Some (slot_left gone slots o)) ≡ Some s → Fits space left s) [
          | true ↦ λ clash. absurd (let no : ◌≡◌ {A = Option NotedSlot} None (Some s) = clash in cc)
          | false ↦ λ is.
              let fits = all.each key o was in
              let own : Fits space left (slot_left gone slots o) = record {
                fit = ap (unfit_with space o.key) (sym (reset-left gone slots o.key o.capability))
                    ∙ fit-left space o.key (loses_children gone slots o.key) o.capability fits.fit;
                leads = stands-for slots left Outside no-line one-step o.parent (heir gone slots o) (record { most = 256; is = refl }) fits.leads;
              } in
              subst (Fits space left) (let same : slot_left gone slots o ≡ s = cc is in same) own
        ] stays
      ] refl (sym (left-is key) ∙ at)

  none-left : NoneStray space.image.now space.thread.now left
  none-left = none-stray space left (stay-rise (what_stays gone slots) (stays-keeps gone slots) slots 0 rises) (record { each = left-fits })

-- ---- a slot that moves

no-key : (a b : SlotKey) (slots : List NotedSlot) (o : NotedSlot) → slot_at slots a ≡ Some o → slot_at slots b ≡ None → is_same_key a b ≡ false
no-key a b slots o at vacant = elim (is_same_key a b) as (λ b'. is_same_key a b ≡ b' → b' ≡ false) [
  | false ↦ λ _. refl
  | true ↦ λ is. absurd (let clash : ◌≡◌ {A = Option NotedSlot} (Some o) None = sym at ∙ same-place slots a b (eqb-true (number_of a) (number_of b) is)
      ∙ vacant in cc)
] refl

module _ (space : Space) (slots : List NotedSlot) (from : SlotKey) (s : NotedSlot) (source : NotedSlot) (rises : RiseFrom 0 slots) (all : AllFit space slots)
    (fit : is_unfit space s ≡ false) (full : is_empty s.capability ≡ false) (vacant : slot_at slots s.key ≡ None) (off : is_parent from s.parent ≡ false)
    (held : slot_at slots from ≡ Some source) (same : SamePlace s.parent source.parent) where
  abbrev follow : NotedSlot → NotedSlot
  follow = followed from s.key

  abbrev children : List NotedSlot
  children = map follow slots

  abbrev after : List NotedSlot
  after = moved slots from s

  children-is : (key : SlotKey) → slot_at children key ≡ option_map follow (slot_at slots key)
  children-is key = map-at follow (follows-keeps from s.key) slots key

  after-is : (key : SlotKey) → slot_at after key ≡ (if is_same_key from key then None else if is_same_key s.key key then Some s else slot_at children key)
  after-is key =
      noted-at (with_noted children s) (emptied from) key
      ∙ ap (λ (o : Option NotedSlot). if is_same_key from key then None else o)
      (noted-at children s key ∙ ap (λ b. if is_same_key s.key key then (if b then None else Some s) else slot_at children key) full)

  -- where a line goes on from what moves
  abbrev place : Option SlotKey → Option SlotKey
  place p = if is_parent from p then Some s.key else p

  abbrev Moved : Option SlotKey → Option SlotKey → Type 0
  Moved p q = SamePlace (place p) q

  no-parent : (q : Option SlotKey) → Moved None q → q ≡ None
  no-parent q moved = only-none q moved

  follows-place : (o : NotedSlot) → Moved o.parent (follow o).parent
  follows-place o = elim (is_parent from o.parent)
      as (λ b. SamePlace (if b then Some s.key else o.parent) (if b then record o { parent = Some s.key } else o).parent) [ true ↦ refl | false ↦ refl ]

  off-same : (p : Option SlotKey) → SamePlace s.parent p → is_parent from p ≡ false
  off-same p is = elim p as (λ p. SamePlace s.parent p → is_parent from p ≡ false) [
    | None ↦ λ _. refl
    | Some k ↦ λ is. elim s.parent as (λ m. SamePlace m (Some k) → is_parent from m ≡ false → is_parent from (Some k) ≡ false) [
      | None ↦ λ clash _. absurd (let no : ◌≡◌ {A = Option ℕ} None (Some (number_of k)) = clash in cc)
      | Some m ↦ λ is isnt. ap (λ (n : ℕ). n == number_of from) (sym (number-same m k is)) ∙ isnt
    ] is off
  ] is

  source-place : Moved source.parent s.parent
  source-place = ap (λ b. option_map number_of (if b then Some s.key else source.parent)) (off-same source.parent same) ∙ sym same

  one-moves : (key : SlotKey) (o : NotedSlot) (q : Option SlotKey) → slot_at slots key ≡ Some o → Moved (Some key) q → GoesOn after Moved o.parent q
  one-moves key o q at moved = elim q as (λ q. Moved (Some key) q → GoesOn after Moved o.parent q) [
    | None ↦ λ _. inl refl
    | Some k ↦ λ is. elim (is_same_key key from) as (λ b. is_same_key key from ≡ b → SamePlace (if b then Some s.key else Some key) (Some k) →
        GoesOn after Moved o.parent (Some k)) [
          | true ↦ λ here there.
              let number : number_of s.key ≡ number_of k = number-same s.key k there in
              let other : is_same_key from k ≡ false = ap (λ (n : ℕ). number_of from == n) (sym number) ∙ no-key from s.key slots source held vacant in
              let one : ◌≡◌ {A = Option NotedSlot} (Some source) (Some o) = sym held
              ∙ sym (same-place slots key from (eqb-true (number_of key) (number_of from) here)) ∙ at in
              let both : source ≡ o = cc one in
              inr (inr (record {
                key = k;
                at = refl;
                held = s;
                holds = after-is k ∙ ap (λ b. if b then None else if is_same_key s.key k then Some s else slot_at children k) other
                    ∙ ap (λ b. if b then Some s else slot_at children k) (eq-eqb (number_of s.key) (number_of k) number);
                rest = subst (λ (x : NotedSlot). Moved x.parent s.parent) both source-place;
              }))
          | false ↦ λ apart there.
              let number : number_of key ≡ number_of k = number-same key k there in
              let found : slot_at slots k ≡ Some o = sym (same-place slots key k number) ∙ at in
              let other : is_same_key from k ≡ false = elim (is_same_key from k) as (λ b. is_same_key from k ≡ b → b ≡ false) [
                | false ↦ λ _. refl
                | true ↦ λ is. absurd (let clash : true ≡ false =
                    sym (eq-eqb (number_of key) (number_of from) (number ∙ sym (eqb-true (number_of from) (number_of k) is))) ∙ apart in
                    cc)
              ] refl in
              let beside : is_same_key s.key k ≡ false = elim (is_same_key s.key k) as (λ b. is_same_key s.key k ≡ b → b ≡ false) [
                | false ↦ λ _. refl
                | true ↦ λ is. absurd (let clash : ◌≡◌ {A = Option NotedSlot} None (Some o) = sym vacant
                    ∙ same-place slots s.key k (eqb-true (number_of s.key) (number_of k) is) ∙ found in cc)
              ] refl in
              inr (inr (record {
                key = k;
                at = refl;
                held = follow o;
                holds = after-is k ∙ ap (λ b. if b then None else if is_same_key s.key k then Some s else slot_at children k) other
                    ∙ ap (λ b. if b then Some s else slot_at children k) beside ∙ children-is k ∙ ap (option_map follow) found;
                rest = follows-place o;
              }))
        ] refl is
  ] moved

  leads-after : (p q : Option SlotKey) → Moved p q → Leads slots p → Leads after q
  leads-after = stands-for slots after Moved no-parent one-moves

  fit-follows : (o : NotedSlot) → is_unfit space o ≡ false → is_unfit space (follow o) ≡ false
  fit-follows o fits = elim (is_parent from o.parent) as (λ b. is_unfit space (if b then record o { parent = Some s.key } else o) ≡ false)
      [ true ↦ fits | false ↦ fits ]

  after-fits : (key : SlotKey) (x : NotedSlot) → slot_at after key ≡ Some x → Fits space after x
  after-fits key x at =
      elim (is_same_key from key) as (λ b. (if b then None else if is_same_key s.key key then Some s else slot_at children key) ≡ Some x → Fits space after x) [
        | true ↦ λ clash. absurd (let no : ◌≡◌ {A = Option NotedSlot} None (Some x) = clash in cc)
        | false ↦ λ more. elim (is_same_key s.key key) as (λ b. (if b then Some s else slot_at children key) ≡ Some x → Fits space after x) [
          | true ↦ λ is.
              let own : Fits space after s = record { fit = fit; leads = leads-after source.parent s.parent source-place (all.each from source held).leads } in
              subst (Fits space after) (let one : s ≡ x = cc is in one) own
          | false ↦ λ child. elim (slot_at slots key) as (λ found. slot_at slots key ≡ found → option_map follow found ≡ Some x → Fits space after x) [
            | None ↦ λ _ clash. absurd (let no : ◌≡◌ {A = Option NotedSlot} None (Some x) = clash in cc)
            | Some o ↦ λ was is.
                let fits = all.each key o was in
                let own : Fits space after (follow o) =
                record { fit = fit-follows o fits.fit; leads = leads-after o.parent (follow o).parent (follows-place o) fits.leads } in
                subst (Fits space after) (let one : follow o ≡ x = cc is in one) own
          ] refl (sym (children-is key) ∙ child)
        ] more
      ] (sym (after-is key) ∙ at)

  none-after : NoneStray space.image.now space.thread.now after
  none-after = none-stray space after (changes-rise children (s ∷ emptied from ∷ []) (map-rises follow (follows-keeps from s.key) slots 0 rises))
      (record { each = after-fits })

-- ---- each change

is-vacant : (found : Option NotedSlot) → is_some found ≡ false → found ≡ None
is-vacant None is = refl
is-vacant (Some s) is = absurd (let no : true ≡ false = is in cc)

pub tidy-changes : (space : Space) (slots : List NotedSlot) (change : SlotChange) → RiseFrom 0 slots → NoneStray space.image.now space.thread.now slots →
    is_tidy space slots change ≡ true
    → NoneStray space.image.now space.thread.now (slots_left slots change)
tidy-changes space slots Nothing rises none tidy = none
tidy-changes space slots (Puts s) rises none tidy = put-none space slots (all-fit space slots none) s rises tidy
tidy-changes space slots (Removes which) rises none tidy = none-left space (is_removed slots which) (removed-same slots which) slots rises
    (all-fit space slots none)
tidy-changes space slots (Moves from s) rises none tidy =
    let a = not (is_unfit space s) in
    let b = not (is_empty s.capability) in
    let c = not (is_some (slot_at slots s.key)) in
    let d = not (is_parent from s.parent) in
    let line = and-second (a && b && c && d) (keeps_parent slots from s) tidy in
    let four = and-first (a && b && c && d) (keeps_parent slots from s) tidy in
    let three = and-first (a && b && c) d four in
    let two = and-first (a && b) c three in
    elim (slot_at slots from) as (λ found. slot_at slots from ≡ found → option_map_or (λ o. is_same_parent s.parent o.parent) found false ≡ true →
    NoneStray space.image.now space.thread.now (moved slots from s)) [
      | None ↦ λ _ clash. absurd (let no : false ≡ true = clash in cc)
      | Some source ↦ λ held is.
          none-after space slots from s source rises (all-fit space slots none) (not-false (is_unfit space s) (and-first a b two))
          (not-false (is_empty s.capability) (and-second a b two))
          (is-vacant (slot_at slots s.key) (not-false (is_some (slot_at slots s.key)) (and-second (a && b) c three)))
          (not-false (is_parent from s.parent) (and-second (a && b && c) d four)) held (same-parents s.parent source.parent is)
    ] refl line
