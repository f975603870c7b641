-- Lines of a thread's registers and of what its certificate notes of a point.
use Rattle.std.proofs.Common.{ℕ, ◌≡◌, ◌==◌, ◌+◌, ◌^◌, ◌<◌, ◌≤◌, ◌&&◌, ◌||◌, zero, suc, Bool, true, false, not, List, [], ◌∷◌, ◌++◌, length, Option, Some, None}
use Rattle.std.proofs.Common.{Result, Ok, Err, refl, ap, sym, ◌∙◌, subst, arith, eqb-true}
use Rattle.std.specs.Prelude.{map, flat_map, nat_lt, if◌then◌else◌}
use Rattle.std.specs.List.{AllByRecursion}
use Rattle.std.proofs.lemmas.Bool.{and_parts, ltb-true}
use Rattle.std.proofs.lemmas.List.{append_assoc}
use Rattle.model.specs.declared.entries.RangeEntry.{RangeEntry}
use Rattle.model.specs.declared.entries.RegisterEntry.{RegisterEntry}
use Rattle.model.specs.declared.entries.SlotEntry.{SlotEntry}
use Rattle.model.specs.declared.entries.TermEntry.{TermEntry}
use Rattle.model.specs.Images.Format.{many_fit}
use Rattle.model.specs.Images.Image.{Image, StateRecord, Thread, no_parent, pair_key, range_format, register_format, slot_format, term_format}
use Rattle.model.specs.Images.Listing.{Text, object_name, term_words}
use Rattle.asm_line.specs.declared.lines.Line.TheVariants as line
use Rattle.asm_line.specs.declared.lines.Parent.{Parent}
use Rattle.asm_line.specs.declared.lines.Parent.TheVariants as parent
use Rattle.asm_line.specs.Listed.{IsTerm, parent_said}
use Rattle.asm_line.specs.Words.{◌>>=◌}
use Rattle.asm_line.proofs.Laws.{next-term, terms-say}
use Rattle.format_laws.specs.Fitting.{IsFitting}
use Rattle.format_laws.proofs.Laws.{many-length}
use Rattle.asm.specs.Drafts.{Draft, declared_of, names_of}
use Rattle.asm.specs.Labels.{FoundLabels, next_number}
use Rattle.asm.proofs.Said.{measure_said, record_said, slot_said}
use Rattle.asm.specs.Threads.{AreBehind, HasParent, OpenDraft, parent_numbers, term_or_zero, terms_of}
use Rattle.asm.specs.Keys.{is_behind}
use Rattle.asm.proofs.Joins.{Adds, Goes, join, number_behind, one-more, plain-section}
use Rattle.asm.proofs.Orders.{is-behind, least_behind}
use Rattle.asm.proofs.PlaceLines.{object-named, object-number}
use Rattle.asm.proofs.SectionFits.{fits-at}
use Rattle.asm.proofs.Stages.{front-shorter}
use Rattle.asm.proofs.ThreadParts.{RecordFits, least-some, range-parts, register-parts, slot-parts, term-parts}
use Rattle.asm_line.specs.declared.faults.LineFault.{LineFault}

-- ---- what is known in a thread

abbrev pub opened : Thread → List RegisterEntry → List ℕ → List StateRecord → Option StateRecord → OpenDraft
opened t rs ws records next = record {
  thread = record {
    header = record t.header { registers = length rs; words = length ws; records = length records };
    registers = rs;
    words = ws;
    records =
        records;
  };
  next = next;
}

abbrev pub inside : Image → List Thread → OpenDraft → Draft
inside i ts o = record {
  memory = Some (record { bits = i.header.memory_bits; boot_radix = i.header.boot_radix });
  declared = declared_of i;
  threads = ts;
  open_thread = Some o;
}

-- ---- terms

term-known : (r : Result TermEntry LineFault) (t : TermEntry) (ws : List Text) → ◌>>=◌ {B = TermEntry × List Text} r (λ term. Ok (term, ws)) ≡ Ok (t, ws) →
    term_or_zero r ≡ t
term-known (Ok x) t ws e = ap first e
  where
    first : Result (TermEntry × List Text) LineFault → TermEntry
    first (Ok y) = y.0
    first (Err k) = x
term-known (Err k) t ws e = absurd (let clash : Err k ≡ Ok (t, ws) = e in cc)

terms-back : (ts : List TermEntry) → AllByRecursion IsTerm ts → terms_of (flat_map term_words ts) ≡ ts
terms-back [] h = refl
terms-back (t ∷ ts) h =
    let one = term-known _ t (flat_map term_words ts) (next-term t (term_words t ++ flat_map term_words ts) (flat_map term_words ts) h.0 refl) in
    ap (λ u. u ∷ terms_of (flat_map term_words ts)) one ∙ ap (λ us. t ∷ us) (terms-back ts h.1)

pub terms-fit : (least count : ℕ) (ts : List TermEntry) → 1 ≤ least → many_fit term_format (λ e. e.register + 1) least count ts ≡ true →
    AllByRecursion IsTerm ts
unfolding many_fit
terms-fit least zero [] some is = tt
terms-fit least zero (t ∷ ts) some is = absurd (let clash : false ≡ true = is in cc)
terms-fit least (suc n) [] some is = tt
terms-fit least (suc n) (t ∷ ts) some is =
    let both = and_parts ((term_format least).fits t) (many_fit term_format (λ e. e.register + 1) (t.register + 1) n ts) is in
    ((term-parts least t some both.0).1, terms-fit (t.register + 1) n ts (omega arith) both.1)

terms-rise : (count : ℕ) (whole front rest : List TermEntry) → many_fit term_format (λ e. e.register + 1) 1 count whole ≡ true → whole ≡ front ++ rest
    → AreBehind (λ (t : TermEntry). t.register) front rest
terms-rise count whole front [] is same = tt
terms-rise count whole front (t ∷ rest) is same =
    let least = least_behind (λ (x : TermEntry). x.register + 1) 1 front in
    let one = term-parts least t (least-some (λ (x : TermEntry). x.register) 1 front (omega arith))
    (fits-at term_format (λ e. e.register + 1) 1 count whole front t rest is same) in (
      is-behind (λ (x : TermEntry). x.register) t.register 1 front one.0,
      terms-rise count whole (front ++ t ∷ []) rest is (same ∙ sym (append_assoc front (t ∷ []) rest)),
    )

-- ---- parents

record Parented (image : Image) (e : SlotEntry) (p : Parent) : Type 0 where
  has : HasParent (names_of image) p
  same : parent_numbers (names_of image) p ≡ (e.parent_cnode, e.parent_index)

left-true : (b : Bool) → (b || false) ≡ true → b ≡ true
left-true true e = refl
left-true false e = e

parented : (image : Image) → IsFitting image → (e : SlotEntry) (b : Bool) → (e.parent_cnode == no_parent) ≡ b →
    (nat_lt e.parent_cnode image.header.objects || b) ≡ true
    → (if b then (e.parent_index == no_parent) else (not ((e.word0 == 0) && (e.word1 == 0)) && nat_lt e.parent_index (2 ^ 14))) ≡ true
    → Parented image e (if b then parent.Boot else parent.Slot (object_name e.parent_cnode) e.parent_index)
parented image limits e true is some named =
    let cnode = eqb-true e.parent_cnode no_parent is in
    let index = eqb-true e.parent_index no_parent named in
    record { has = tt; same = ap (λ n. (n, no_parent)) (sym cnode) ∙ ap (λ n. (e.parent_cnode, n)) (sym index) }
parented image limits e false is some named =
    let less = ltb-true e.parent_cnode image.header.objects (left-true (nat_lt e.parent_cnode image.header.objects) some) in
    record { has = object-named image limits e.parent_cnode less; same = ap (λ n. (n, e.parent_index)) (object-number image limits e.parent_cnode less) }

-- ---- the record of a point

abbrev counted : StateRecord → ℕ → ℕ → ℕ → StateRecord
counted r ranges slots terms = record {
  header = record { point = r.header.point; ranges = ranges; slots = slots; terms = terms; constant = r.header.constant };
  ranges = r.ranges;
  slots = r.slots;
  terms = r.terms;
}

abbrev noted : StateRecord → List RangeEntry → List SlotEntry → Option StateRecord
noted r ranges slots = Some (record {
  header = record { point = r.header.point; ranges = length ranges; slots = length slots; terms = length r.terms; constant = r.header.constant };
  ranges = ranges;
  slots = slots;
  terms = r.terms;
})

module _ (image : Image) (labels : List FoundLabels) (limits : IsFitting image) (ts : List Thread) (searched : length ts < length labels) (t : Thread) where
  pub register-adds : (count : ℕ) → many_fit register_format (λ e. e.register + 1) 1 count t.registers ≡ true → count ≤ 31
      → (number : ℕ) (front : List RegisterEntry) (e : RegisterEntry) (rest : List RegisterEntry) → t.registers ≡ front ++ e ∷ rest
      → Adds labels number (inside image ts (opened t front [] [] None)) (line.Register e) (inside image ts (opened t (front ++ e ∷ []) [] [] None))
  register-adds count is few number front e rest same =
      let less = front-shorter t.registers front e rest same in
      let long = many-length register_format (λ x. x.register + 1) 1 count t.registers is in
      let one = register-parts (least_behind (λ (x : RegisterEntry). x.register + 1) 1 front) e
      (least-some (λ (x : RegisterEntry). x.register) 1 front (omega arith))
      (fits-at register_format (λ x. x.register + 1) 1 count t.registers front e rest is same) in
      record {
        placed = (searched, record { behind = is-behind (λ (x : RegisterEntry). x.register) e.register 1 front one.0; room = omega (arith, less, long, few) });
        reads = refl;
      }

  module _ (ws : List ℕ) (records : List StateRecord) (r : StateRecord) (words least : ℕ) (fits : RecordFits image.header.objects words least r) where
    abbrev at : Option StateRecord → Draft
    at next = inside image ts (opened t t.registers ws records next)

    measure-adds : length ws ≡ r.header.point → length ws ≤ 65536 → (number : ℕ) → Adds labels number (at None) (measure_said r) (at (noted r [] []))
    measure-adds here few number =
        let each = terms-fit 1 r.header.terms r.terms (omega arith) fits.terms in
        let back = terms-back r.terms each in
        let long = many-length term_format (λ x. x.register + 1) 1 r.header.terms r.terms fits.terms in
        let same = ap length back in
        let most = fits.few_terms in
        let say = terms-say r.terms each in
        record {
          placed = (
            searched,
            record {
              fresh = refl;
              words = few;
              said = say.terms;
              behind = subst (AreBehind (λ (x : TermEntry). x.register) []) (sym back) (terms-rise r.header.terms r.terms [] r.terms fits.terms refl);
              short = omega (arith, same, long, most);
            },
          );
          reads = ap (λ n. at (Some (record {
            header = record { point = n; ranges = 0; slots = 0; terms = length (terms_of (flat_map term_words r.terms)); constant = r.header.constant };
            ranges = [];
            slots = [];
            terms = terms_of (flat_map term_words r.terms);
          }))) here
              ∙ ap (λ us. at (Some (record {
                header = record { point = r.header.point; ranges = 0; slots = 0; terms = length us; constant = r.header.constant };
                ranges = [];
                slots = [];
                terms = us;
              }))) back;
        }

    range-adds : (number : ℕ) (front : List RangeEntry) (e : RangeEntry) (rest : List RangeEntry) → r.ranges ≡ front ++ e ∷ rest
        → Adds labels number (at (noted r front [])) (line.Range e) (at (noted r (front ++ e ∷ []) []))
    range-adds number front e rest same =
        let less = front-shorter r.ranges front e rest same in
        let long = many-length range_format (λ x. x.register + 1) 1 r.header.ranges r.ranges fits.ranges in
        let few = fits.few_ranges in
        let one = range-parts (least_behind (λ (x : RangeEntry). x.register + 1) 1 front) e (least-some (λ (x : RangeEntry). x.register) 1 front (omega arith))
        (fits-at range_format (λ x. x.register + 1) 1 r.header.ranges r.ranges front e rest fits.ranges same) in
        record {
          placed = (searched, record { behind = is-behind (λ (x : RangeEntry). x.register) e.register 1 front one.0; room = omega (arith, less, long, few) });
          reads = refl;
        }

    slot-adds : (number : ℕ) (front : List SlotEntry) (e : SlotEntry) (rest : List SlotEntry) → r.slots ≡ front ++ e ∷ rest
        → Adds labels number (at (noted r r.ranges front)) (slot_said e) (at (noted r r.ranges (front ++ e ∷ [])))
    slot-adds number front e rest same =
        let less = front-shorter r.slots front e rest same in
        let long = many-length (slot_format image.header.objects) (λ x. pair_key x.cnode x.index + 1) 0 r.header.slots r.slots fits.slots in
        let few = fits.few_slots in
        let most = limits.header.objects in
        let one = slot-parts image.header.objects (least_behind (λ (x : SlotEntry). pair_key x.cnode x.index + 1) 0 front) e (omega (arith, most))
        (fits-at (slot_format image.header.objects) (λ x. pair_key x.cnode x.index + 1) 0 r.header.slots r.slots front e rest fits.slots same) in
        let cnode = object-number image limits e.cnode one.cnode in
        let own = parented image limits e (e.parent_cnode == no_parent) refl one.parent one.named in
        record {
          placed = (
            searched,
            record {
              named = object-named image limits e.cnode one.cnode;
              parented = own.has;
              room = record {
                behind = ap (λ n. is_behind (λ (x : SlotEntry). pair_key x.cnode x.index) (pair_key n e.index) front) cnode
                    ∙ is-behind (λ (x : SlotEntry). pair_key x.cnode x.index) (pair_key e.cnode e.index) 0 front one.behind;
                room = omega (arith, less, long, few);
              };
            },
          );
          reads = ap (λ n. at (noted r r.ranges (front ++ (record {
            cnode = n;
            index = e.index;
            word0 = e.word0;
            word1 = e.word1;
            parent_cnode = (parent_numbers (names_of image) (parent_said e)).0;
            parent_index = (parent_numbers (names_of image) (parent_said e)).1;
          }) ∷ []))) cnode
              ∙ ap (λ p. at (noted r r.ranges
              (front ++ (record { cnode = e.cnode; index = e.index; word0 = e.word0; word1 = e.word1; parent_cnode = p.0; parent_index = p.1 }) ∷ [])))
              own.same;
        }

    all-noted : noted r r.ranges r.slots ≡ Some r
    all-noted =
        let ranges = many-length range_format (λ x. x.register + 1) 1 r.header.ranges r.ranges fits.ranges in
        let slots = many-length (slot_format image.header.objects) (λ x. pair_key x.cnode x.index + 1) 0 r.header.slots r.slots fits.slots in
        let terms = many-length term_format (λ x. x.register + 1) 1 r.header.terms r.terms fits.terms in
        ap (λ n. Some (counted r n (length r.slots) (length r.terms))) ranges
        ∙ (ap (λ n. Some (counted r r.header.ranges n (length r.terms))) slots ∙ ap (λ n. Some (counted r r.header.ranges r.header.slots n)) terms)

    pub record-goes : length ws ≡ r.header.point → length ws ≤ 65536 → (number : ℕ) → Goes labels number (at None) (record_said r) (at (Some r))
    record-goes here few number =
        let m = measure-adds here few (next_number number) in
        let ranges = plain-section labels line.Range (λ fs. at (noted r fs [])) r.ranges range-adds (next_number number) in
        let slots = plain-section labels slot_said (λ ss. at (noted r r.ranges ss)) r.slots slot-adds
        (number_behind (next_number number) (map line.Range r.ranges)) in
        one-more labels number (at None) (at (noted r [] [])) (at (Some r)) (measure_said r) (map line.Range r.ranges ++ map slot_said r.slots) m.placed m.reads
        (join labels (next_number number) (at (noted r [] [])) (at (noted r r.ranges [])) (at (Some r)) (map line.Range r.ranges) (map slot_said r.slots) ranges
        (subst (λ o. Goes labels (number_behind (next_number number) (map line.Range r.ranges)) (at (noted r r.ranges [])) (map slot_said r.slots) (at o))
        all-noted slots))
