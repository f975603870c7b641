-- Lines of capabilities, tables, frames, contents and promises: each declares one entry behind the others.
use Rattle.std.proofs.Common.{ℕ, ◌≡◌, ◌+◌, ◌-◌, ◌^◌, ◌<◌, ◌≤◌, Bool, true, false, List, [], ◌∷◌, ◌++◌, length, Option, Some, None, Ok, Err, refl, ap, sym, ◌∙◌}
use Rattle.std.proofs.Common.{subst, arith, decimal}
use Rattle.std.specs.Prelude.{Result, flat_map, map, nat_lt, slice_get, slice_index_or, option_map, if◌then◌else◌, MatchOption}
use Rattle.std.specs.List.{AllByRecursion}
use Rattle.std.specs.Option.{option_map_or}
use Rattle.std.specs.Map.{lookup}
use Rattle.std.specs.Str.{bytes_eq}
use Rattle.std.proofs.lemmas.Bool.{leb-true}
use Rattle.std.proofs.lemmas.Bool.Decides.{nat_tests}
use Rattle.std.proofs.lemmas.List.{map-append, length-map}
use Rattle.std.proofs.lemmas.Option.{slice_get-map}
use Rattle.model.specs.declared.entries.CapabilityEntry.{CapabilityEntry}
use Rattle.model.specs.declared.entries.FrameEntry.{FrameEntry}
use Rattle.model.specs.declared.entries.PromisedWord.{PromisedWord}
use Rattle.model.specs.declared.entries.TableEntry.{TableEntry}
use Rattle.model.specs.Images.Image.{Image, ImageContent, ImagePromise, between, capability_format, content_format, frame_format, pair_key, promise_format}
use Rattle.model.specs.Images.Image.{table_format}
use Rattle.model.specs.Images.Listing.{Text, interrupt_name, object_name, promised_words, source_name}
use Rattle.model.specs.Images.Places.{interrupt_of, is_handler}
use Rattle.asm_line.specs.Listed.{IsPromisedWord, IsWord}
use Rattle.asm_line.specs.Lines.{all_words}
use Rattle.asm_line.proofs.Laws.{number-decimal, promised-says}
use Rattle.format_laws.specs.Fitting.{IsFitting}
use Rattle.asm.specs.declared.declarations.Capability.{Capability}
use Rattle.asm.specs.declared.names.Source.{Source}
use Rattle.asm.specs.declared.names.Source.TheVariants.{Object, Handler}
use Rattle.asm.specs.Drafts.{capability_of, line_of_interrupt, names_of, source_said}
use Rattle.asm.specs.Labels.{FoundLabels}
use Rattle.asm.specs.Names.{HasSource, IsNamed, number_of, source_of}
use Rattle.asm.proofs.Said.{capability_said, content_said, frame_said, promise_said, table_said}
use Rattle.asm.specs.Sections.{promise_with, promised_values, value_of}
use Rattle.asm.specs.Keys.{is_behind}
use Rattle.asm.proofs.EntryLines.{capability-parts, content-parts, frame-parts, promise-parts, table-parts}
use Rattle.asm.proofs.Joins.{Adds}
use Rattle.asm.proofs.NumberedNames.{interrupt-absent, interrupt-found, interrupts_from, is-named, number-named}
use Rattle.asm.proofs.Orders.{is-behind, least_behind}
use Rattle.asm.proofs.SectionFits.{SectionsFit, fits-at}
use Rattle.asm.proofs.Stages.{declaring, front-shorter, with_capabilities, with_contents, with_frames, with_promises, with_tables}
use Rattle.asm_line.specs.declared.faults.LineFault.{LineFault}

-- ---- what a capability is made from

module _ (image : Image) (limits : IsFitting image) where
  -- names of objects stand for their numbers
  pub object-named : (k : ℕ) → k < image.header.objects → IsNamed (names_of image).objects (object_name k)
  object-named k less =
      let few = limits.header.objects in
      let all = limits.objects in
      is-named 111 (length image.objects) k (omega (arith, less, all)) (omega (arith, few, all))

  pub object-number : (k : ℕ) → k < image.header.objects → number_of (names_of image).objects (object_name k) ≡ k
  object-number k less =
      let few = limits.header.objects in
      let all = limits.objects in
      number-named 111 (length image.objects) k (omega (arith, less, all)) (omega (arith, few, all))

  abbrev name_by : ℕ → Bool → Text
  name_by source b = if b then interrupt_name (interrupt_of image source) else object_name source

  handler-line : (source : ℕ) → image.header.objects ≤ source → source < image.header.objects + image.header.interrupts
      → lookup (bytes_eq (interrupt_name (interrupt_of image source))) (interrupts_from 0 image.interrupts) ≡ Some
      (line_of_interrupt image (interrupt_of image source))
  handler-line source low high =
      let all = limits.interrupts in
      let few = limits.header.interrupts in
      let k = interrupt_of image source in
      let same : k - 0 ≡ k = omega arith in
      interrupt-found k 0 image.interrupts (record { line = 0; notification = 0; badge = 0 }) (omega arith) (omega (arith, low, high, all))
      (omega (arith, all, few))
      ∙ ap (λ n. Some (slice_index_or image.interrupts n (record { line = 0; notification = 0; badge = 0 })).line) same

  record Sourced (source : ℕ) (name : Text) (said : Source) : Type 0 where
    known : HasSource (names_of image) name
    same : source_of (names_of image) name ≡ said

  sourced-by : (source : ℕ) (b : Bool) → is_handler image source ≡ b → source < image.header.objects + image.header.interrupts
      → Sourced source (name_by source b) (if b then Handler (line_of_interrupt image (interrupt_of image source)) else Object source)
  sourced-by source true e high =
      let found = handler-line source (leb-true image.header.objects source e) high in
      record {
        known = subst (λ o. MatchOption o (IsNamed (names_of image).objects (interrupt_name (interrupt_of image source))) (λ _. Unit {0})) (sym found) tt;
        same = ap (λ o. option_map_or (λ line. Handler line) o (Object (number_of (names_of image).objects (interrupt_name (interrupt_of image source)))))
            found;
      }
  sourced-by source false e high =
      let absent = interrupt-absent 111 source 0 image.interrupts refl in
      let less : source < image.header.objects = grind (arith, nat_tests, e) in
      record {
        known = subst (λ o. MatchOption o (IsNamed (names_of image).objects (object_name source)) (λ _. Unit {0})) (sym absent) (object-named source less);
        same = ap (λ o. option_map_or (λ line. Handler line) o (Object (number_of (names_of image).objects (object_name source)))) absent
            ∙ ap Object (object-number source less);
      }

  sourced : (source : ℕ) → source < image.header.objects + image.header.interrupts → Sourced source (source_name image source) (source_said image source)
  sourced source high = sourced-by source (is_handler image source) refl high

-- ---- contents

inside : (n : ℕ) → n < 2 ^ 32 → between 0 (2 ^ 32 - 1) n ≡ true
inside n small = grind (arith, nat_tests)

value-word : (n : ℕ) → IsWord n → value_of (decimal n) ≡ n
value-word n small = rw (number-decimal n (omega (arith, small))) (rw (inside n small) refl)

values-words : (ns : List ℕ) → AllByRecursion IsWord ns → map value_of (map decimal ns) ≡ ns
values-words [] h = refl
values-words (n ∷ ns) h = ap (λ m. m ∷ map value_of (map decimal ns)) (value-word n h.0) ∙ ap (λ ms. n ∷ ms) (values-words ns h.1)

all-words : (ns : List ℕ) → AllByRecursion IsWord ns → all_words (map decimal ns) ≡ Ok tt
all-words [] h = refl
all-words (n ∷ ns) h = rw (number-decimal n (let small : n < 2 ^ 32 = h.0 in omega (arith, small))) (rw (inside n h.0) (all-words ns h.1))

promised-back : (ws : List PromisedWord) → AllByRecursion IsPromisedWord ws → promised_values (flat_map promised_words ws) ≡ ws
promised-back [] h = refl
promised-back (w ∷ ws) h =
    ap (λ (r : Result PromisedWord LineFault). elim r [ Ok v ↦ v ∷ promised_values (flat_map promised_words ws) | Err e ↦ [] ]) (promised-says w h.0)
    ∙ ap (λ vs. w ∷ vs) (promised-back ws h.1)

-- ---- the last of a list that was made of another

last-mapped : {A B : Type 0} (f : A → B) (test : B → Bool) (xs : List A)
    → option_map_or test (slice_get (map f xs) (length (map f xs) - 1)) true ≡ option_map_or (λ x. test (f x)) (slice_get xs (length xs - 1)) true
last-mapped {A = A} {B = B} f test xs =
    ap (λ n. option_map_or test (slice_get (map f xs) (n - 1)) true) (length-map xs f)
    ∙ (ap (λ o. option_map_or test o true) (slice_get-map f xs (length xs - 1)) ∙ by (slice_get xs (length xs - 1)))
  where
    by : (o : Option A) → option_map_or test (option_map f o) true ≡ option_map_or (λ x. test (f x)) o true
    by None = refl
    by (Some x) = refl

-- ---- the sections

module _ (image : Image) (labels : List FoundLabels) (fits : SectionsFit image) (limits : IsFitting image) where
  pub capability-adds : (number : ℕ) (front : List CapabilityEntry) (c : CapabilityEntry) (rest : List CapabilityEntry) → image.capabilities ≡ front ++ c ∷ rest
      → Adds labels number (declaring image (with_capabilities image front)) (capability_said image c)
      (declaring image (with_capabilities image (front ++ c ∷ [])))
  capability-adds number front c rest same =
      let less = front-shorter image.capabilities front c rest same in
      let most = limits.header.capabilities in
      let long = limits.capabilities in
      let count = length-map front (capability_of image) in
      let one = capability-parts image.header.objects image.header.interrupts (least_behind (λ x. pair_key x.cnode x.index + 1) 0 front) c
      (fits-at (capability_format image.header.objects image.header.interrupts) (λ x. pair_key x.cnode x.index + 1) 0 image.header.capabilities
      image.capabilities front c rest fits.capabilities same) in
      let cnode = object-number image limits c.cnode one.1 in
      let source = sourced image limits c.source one.3 in
      record {
        placed = record {
          named = object-named image limits c.cnode one.1;
          sourced = source.known;
          behind = ap (λ n. is_behind (λ (x : Capability). pair_key x.cnode x.index) (pair_key n c.index) (map (capability_of image) front)) cnode
              ∙ (last-mapped (capability_of image) (λ x. nat_lt (pair_key x.cnode x.index) (pair_key c.cnode c.index)) front
              ∙ is-behind (λ (x : CapabilityEntry). pair_key x.cnode x.index) (pair_key c.cnode c.index) 0 front one.0);
          room = omega (arith, less, most, long, count);
        };
        reads = ap (λ n. declaring image (record (with_capabilities image []) {
          capabilities = map (capability_of image) front
              ++ (record {
                cnode = n;
                index = c.index;
                source = source_of (names_of image) (source_name image c.source);
                rights = c.rights;
                payload =
                    c.payload;
              }) ∷ [];
        })) cnode
            ∙ (ap (λ s. declaring image (record (with_capabilities image []) {
              capabilities = map (capability_of image) front
                  ++ (record { cnode = c.cnode; index = c.index; source = s; rights = c.rights; payload = c.payload }) ∷ [];
            })) source.same
            ∙ ap (λ cs. declaring image (record (with_capabilities image []) { capabilities = cs })) (sym (map-append (capability_of image) front (c ∷ []))));
      }

  pub table-adds : (number : ℕ) (front : List TableEntry) (t : TableEntry) (rest : List TableEntry) → image.tables ≡ front ++ t ∷ rest
      → Adds labels number (declaring image (with_tables image front)) (table_said t) (declaring image (with_tables image (front ++ t ∷ [])))
  table-adds number front t rest same =
      let less = front-shorter image.tables front t rest same in
      let most = limits.header.tables in
      let long = limits.tables in
      let one = table-parts image.header.objects (least_behind (λ x. pair_key x.root x.address + 1) 0 front) t
      (fits-at (table_format image.header.objects) (λ x. pair_key x.root x.address + 1) 0 image.header.tables image.tables front t rest fits.tables same) in
      let root = object-number image limits t.root one.1 in
      let under = object-number image limits t.table one.3 in
      record {
        placed = record {
          root_named = object-named image limits t.root one.1;
          table_named = object-named image limits t.table one.3;
          behind = ap (λ n. is_behind (λ (x : TableEntry). pair_key x.root x.address) (pair_key n t.address) front) root
              ∙ is-behind (λ (x : TableEntry). pair_key x.root x.address) (pair_key t.root t.address) 0 front one.0;
          room = omega (arith, less, most, long);
        };
        reads = ap (λ n. declaring image (record (with_tables image []) {
          tables = front ++ (record { root = n; address = t.address; table = number_of (names_of image).objects (object_name t.table) }) ∷ [];
        })) root
            ∙ ap (λ n. declaring image (record (with_tables image []) { tables = front ++ (record { root = t.root; address = t.address; table = n }) ∷ [] }))
            under;
      }

  pub frame-adds : (number : ℕ) (front : List FrameEntry) (f : FrameEntry) (rest : List FrameEntry) → image.frames ≡ front ++ f ∷ rest
      → Adds labels number (declaring image (with_frames image front)) (frame_said f) (declaring image (with_frames image (front ++ f ∷ [])))
  frame-adds number front f rest same =
      let less = front-shorter image.frames front f rest same in
      let most = limits.header.frames in
      let long = limits.frames in
      let one = frame-parts image.header.objects (least_behind (λ x. pair_key x.root x.address + 1) 0 front) f
      (fits-at (frame_format image.header.objects) (λ x. pair_key x.root x.address + 1) 0 image.header.frames image.frames front f rest fits.frames same) in
      let root = object-number image limits f.root one.1 in
      let under = object-number image limits f.frame one.3 in
      record {
        placed = record {
          root_named = object-named image limits f.root one.1;
          frame_named = object-named image limits f.frame one.3;
          behind = ap (λ n. is_behind (λ (x : FrameEntry). pair_key x.root x.address) (pair_key n f.address) front) root
              ∙ is-behind (λ (x : FrameEntry). pair_key x.root x.address) (pair_key f.root f.address) 0 front one.0;
          room = omega (arith, less, most, long);
        };
        reads = ap (λ n. declaring image (record (with_frames image []) {
          frames = front ++ (record { root = n; address = f.address; frame = number_of (names_of image).objects (object_name f.frame); rights = f.rights })
              ∷ [];
        })) root
            ∙ ap (λ n. declaring image
            (record (with_frames image []) { frames = front ++ (record { root = f.root; address = f.address; frame = n; rights = f.rights }) ∷ [] })) under;
      }

  pub content-adds : length image.contents ≤ 4096 → (number : ℕ) (front : List ImageContent) (c : ImageContent) (rest : List ImageContent) →
      image.contents ≡ front ++ c ∷ rest
      → Adds labels number (declaring image (with_contents image front)) (content_said c) (declaring image (with_contents image (front ++ c ∷ [])))
  content-adds most number front c rest same =
      let less = front-shorter image.contents front c rest same in
      let one = content-parts image.header.objects (least_behind (λ x. x.header.frame + 1) 0 front) c
      (fits-at (content_format image.header.objects) (λ x. x.header.frame + 1) 0 image.header.contents image.contents front c rest fits.contents same) in
      let frame = object-number image limits c.header.frame one.frame in
      let count = length-map c.words decimal in
      let short = one.short in
      let words = values-words c.words one.words in
      record {
        placed = record {
          named = object-named image limits c.header.frame one.frame;
          numbers = all-words c.words one.words;
          short = omega (arith, count, short);
          behind = ap (λ n. is_behind (λ (x : ImageContent). x.header.frame) n front) frame
              ∙ is-behind (λ (x : ImageContent). x.header.frame) c.header.frame 0 front one.behind;
          room = omega (arith, less, most);
        };
        reads = ap (λ n. declaring image (record (with_contents image []) {
          contents = front ++ (record {
            header = record { frame = n; words = length (map value_of (map decimal c.words)) };
            words =
                map value_of (map decimal c.words);
          }) ∷ [];
        })) frame
            ∙ (ap (λ ws. declaring image
            (record (with_contents image []) {
              contents = front
                  ++ (record { header = record { frame = c.header.frame; words = length ws }; words = ws }) ∷ [];
            })) words
            ∙ ap (λ k. declaring image
            (record (with_contents image []) {
              contents = front
                  ++ (record { header = record { frame = c.header.frame; words = k }; words = c.words }) ∷ [];
            })) one.long);
      }

  pub promise-adds : (number : ℕ) (front : List ImagePromise) (p : ImagePromise) (rest : List ImagePromise) → image.promises ≡ front ++ p ∷ rest
      → Adds labels number (declaring image (with_promises image front)) (promise_said p) (declaring image (with_promises image (front ++ p ∷ [])))
  promise-adds number front p rest same =
      let less = front-shorter image.promises front p rest same in
      let most = limits.header.promises in
      let long = limits.promises in
      let one = promise-parts image.header.objects (least_behind (λ x. x.header.endpoint + 1) 0 front) p
      (fits-at (promise_format image.header.objects) (λ x. x.header.endpoint + 1) 0 image.header.promises image.promises front p rest fits.promises same) in
      let endpoint = object-number image limits p.header.endpoint one.endpoint in
      let words = promised-back p.words one.words in
      record {
        placed = record {
          named = object-named image limits p.header.endpoint one.endpoint;
          few = subst (λ (ws : List PromisedWord). length ws ≤ 8) (sym words) one.few;
          behind = ap (λ n. is_behind (λ (x : ImagePromise). x.header.endpoint) n front) endpoint
              ∙ is-behind (λ (x : ImagePromise). x.header.endpoint) p.header.endpoint 0 front one.behind;
          room = omega (arith, less, most, long);
        };
        reads = ap (λ n. declaring image (record (with_promises image []) {
          promises = front ++ promise_with n p.header.badge_low p.header.badge_high (promised_values (flat_map promised_words p.words)) ∷ [];
        })) endpoint
            ∙ (ap (λ ws. declaring image (record (with_promises image []) {
              promises = front ++ promise_with p.header.endpoint p.header.badge_low p.header.badge_high ws ∷ [];
            })) words
            ∙ ap (λ k. declaring image (record (with_promises image []) {
              promises = front ++ (record {
                header = record { endpoint = p.header.endpoint; badge_low = p.header.badge_low; badge_high = p.header.badge_high; words = k };
                words = p.words;
              }) ∷ [];
            })) one.long);
      }
