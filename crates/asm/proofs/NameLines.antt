-- Lines of untypeds, objects and interrupts: each declares one entry and its name.
use Rattle.std.proofs.Common.{ℕ, ◌≡◌, ◌+◌, ◌≤◌, true, List, [], ◌∷◌, ◌++◌, length, refl, ap, sym, ◌∙◌, arith}
use Rattle.std.specs.Prelude.{nat_le}
use Rattle.std.proofs.lemmas.Bool.Decides.{nat_tests}
use Rattle.model.specs.declared.entries.InterruptEntry.{InterruptEntry}
use Rattle.model.specs.declared.entries.ObjectEntry.{ObjectEntry}
use Rattle.model.specs.declared.entries.UntypedEntry.{UntypedEntry}
use Rattle.model.specs.Images.Image.{Image, interrupt_format, object_format}
use Rattle.model.specs.Images.Listing.{interrupt_name, object_name}
use Rattle.format_laws.specs.Fitting.{IsFitting}
use Rattle.asm.specs.Labels.{FoundLabels}
use Rattle.asm.proofs.Said.{untyped_said, object_said, interrupt_said}
use Rattle.asm.specs.Sections.{is_in_order}
use Rattle.asm.proofs.EntryLines.{interrupt-parts, object-parts}
use Rattle.asm.proofs.Joins.{Adds}
use Rattle.asm.proofs.NumberedNames.{interrupt-fresh, interrupts-longer, interrupts_from, is-named, name-absent, name-fresh, names_from, number-named}
use Rattle.asm.proofs.Orders.{is-behind, last-passes, least_behind}
use Rattle.asm.proofs.SectionFits.{SectionsFit, fits-at}
use Rattle.asm.proofs.Stages.{declaring, front-shorter, names-next, with_interrupts, with_objects, with_untypeds}

not-below : (a b : ℕ) → a ≤ b → nat_le a b ≡ true
not-below a b h = grind (arith, nat_tests)

module _ (image : Image) (labels : List FoundLabels) (fits : SectionsFit image) (limits : IsFitting image) where
  pub untyped-adds : (number : ℕ) (front : List UntypedEntry) (u : UntypedEntry) (rest : List UntypedEntry) → image.untypeds ≡ front ++ u ∷ rest
      → Adds labels number (declaring image (with_untypeds front)) (untyped_said (length front, u)) (declaring image (with_untypeds (front ++ u ∷ [])))
  untyped-adds number front u rest same =
      let less = front-shorter image.untypeds front u rest same in
      let most = limits.header.untypeds in
      let long = limits.untypeds in
      let fresh = name-fresh 117 0 (length front) (length front) (omega arith) (omega (arith, less, most, long)) in
      record {
        placed = record { free = rw fresh refl; room = omega (arith, less, most, long) };
        reads = ap (λ ns. declaring image (record (with_untypeds (front ++ u ∷ [])) { names = record { untypeds = ns; objects = []; interrupts = [] } }))
            (names-next 117 front u);
      }

  pub object-adds : (number : ℕ) (front : List ObjectEntry) (o : ObjectEntry) (rest : List ObjectEntry) → image.objects ≡ front ++ o ∷ rest
      → Adds labels number (declaring image (with_objects image front)) (object_said (length front, o)) (declaring image (with_objects image (front ++ o ∷ [])))
  object-adds number front o rest same =
      let less = front-shorter image.objects front o rest same in
      let most = limits.header.objects in
      let long = limits.objects in
      let few = limits.header.untypeds in
      let all = limits.untypeds in
      let one = object-parts image.header.version image.header.untypeds (least_behind (λ x. x.untyped) 0 front) o
      (fits-at (object_format image.header.version image.header.untypeds) (λ x. x.untyped) 0 image.header.objects image.objects front o rest fits.objects
      same) in
      let inside = one.1 in
      let number = number-named 117 (length image.untypeds) o.untyped (omega (arith, inside, all)) (omega (arith, few, all)) in
      let other = name-absent 111 117 0 (length image.untypeds) (length front) refl in
      let fresh = name-fresh 111 0 (length front) (length front) (omega arith) (omega (arith, less, most, long)) in
      record {
        placed = record {
          free = rw other (rw fresh refl);
          named = is-named 117 (length image.untypeds) o.untyped (omega (arith, inside, all)) (omega (arith, few, all));
          in_order = ap (λ n. is_in_order n front) number
              ∙ last-passes (λ x. x.untyped) (λ last. nat_le last.untyped o.untyped) o.untyped (λ x h. not-below x.untyped o.untyped h) 0 front one.0;
          room = omega (arith, less, most, long);
        };
        reads = ap (λ n. declaring image (record (with_objects image []) {
          names = record {
            untypeds = names_from 117 0 (length image.untypeds);
            objects = names_from 111 0 (length front) ++ object_name (length front) ∷ [];
            interrupts = [];
          };
          objects = front ++ (record { untyped = n; kind = o.kind; size = o.size }) ∷ [];
        })) number
            ∙ ap (λ ns. declaring image (record (with_objects image (front ++ o ∷ []))
            { names = record { untypeds = names_from 117 0 (length image.untypeds); objects = ns; interrupts = [] } }))
            (names-next 111 front o);
      }

  pub interrupt-adds : (number : ℕ) (front : List InterruptEntry) (i : InterruptEntry) (rest : List InterruptEntry) → image.interrupts ≡ front ++ i ∷ rest
      → Adds labels number (declaring image (with_interrupts image front)) (interrupt_said (length front, i))
      (declaring image (with_interrupts image (front ++ i ∷ [])))
  interrupt-adds number front i rest same =
      let less = front-shorter image.interrupts front i rest same in
      let most = limits.header.interrupts in
      let long = limits.interrupts in
      let few = limits.header.objects in
      let all = limits.objects in
      let one = interrupt-parts image.header.objects (least_behind (λ x. x.line + 1) 0 front) i
      (fits-at (interrupt_format image.header.objects) (λ x. x.line + 1) 0 image.header.interrupts image.interrupts front i rest fits.interrupts same) in
      let inside = one.2 in
      let number = number-named 111 (length image.objects) i.notification (omega (arith, inside, all)) (omega (arith, few, all)) in
      let other = name-absent 105 117 0 (length image.untypeds) (length front) refl in
      let another = name-absent 105 111 0 (length image.objects) (length front) refl in
      let fresh = interrupt-fresh (length front) 0 front (omega arith) (omega (arith, less, most, long)) in
      let at : 0 + length front ≡ length front = omega arith in
      record {
        placed = record {
          free = rw other (rw another (rw fresh refl));
          named = is-named 111 (length image.objects) i.notification (omega (arith, inside, all)) (omega (arith, few, all));
          behind = is-behind (λ (x : InterruptEntry). x.line) i.line 0 front one.0;
          room = omega (arith, less, most, long);
        };
        reads = ap (λ n. declaring image (record (with_interrupts image []) {
          names = record {
            untypeds = names_from 117 0 (length image.untypeds);
            objects = names_from 111 0 (length image.objects);
            interrupts =
                interrupts_from 0 front ++ (interrupt_name (length front), i.line) ∷ [];
          };
          interrupts = front ++ (record { line = i.line; notification = n; badge = i.badge }) ∷ [];
        })) number
            ∙ ap (λ ns. declaring image (record (with_interrupts image (front ++ i ∷ [])) {
              names = record { untypeds = names_from 117 0 (length image.untypeds); objects = names_from 111 0 (length image.objects); interrupts = ns };
            })) (ap (λ k. interrupts_from 0 front ++ (interrupt_name k, i.line) ∷ []) (sym at) ∙ sym (interrupts-longer 0 front i));
      }
