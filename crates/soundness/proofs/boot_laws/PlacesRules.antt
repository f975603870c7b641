-- What the rules on a well-formed image say of each of its entries.
use Rattle.std.proofs.Common.{ℕ, zero, suc, ◌≡◌, ◌∙◌, ◌==◌, ◌+◌, ◌%◌, ◌<◌, ◌&&◌, Bool, true, false, not, List, [], ◌∷◌, ◌++◌, map, take, Some, None, refl, sym}
use Rattle.std.proofs.Common.{ap, subst, arith}
use Rattle.std.specs.Prelude.{option_map, flat_map, nat_le, nat_lt, slice_get}
use Rattle.std.specs.List.{enumerate_from, list_all, list_any, range_with_len}
use Rattle.std.proofs.lemmas.Bool.{not-false, or_parts}
use Rattle.std.proofs.lemmas.Option.{none-some, same_Some, slice_get-map}
use Rattle.model.specs.declared.entries.CapabilityEntry.{CapabilityEntry}
use Rattle.model.specs.declared.entries.FrameEntry.{FrameEntry}
use Rattle.model.specs.declared.entries.InterruptEntry.{InterruptEntry}
use Rattle.model.specs.declared.entries.TableEntry.{TableEntry}
use Rattle.model.specs.declared.entries.UntypedEntry.{UntypedEntry}
use Rattle.model.specs.declared.refusals.Refusal.{Refusal}
use Rattle.model.specs.declared.refusals.Refusal.TheVariants.{UntypedOverlap, NoRoom, BadObject, BadCap, BadMapping}
use Rattle.model.specs.Acceptance.Accepted.{AreKept, IsWellFormed}
use Rattle.model.specs.Acceptance.Rules.{Rule, refuse_if}
use Rattle.model.specs.Acceptance.ThreadRules.{has_bad_buffer, has_guard, is_bad, is_bad_buffer, is_code, is_in_use, program_end, rules_of_thread}
use Rattle.model.specs.Acceptance.ThreadRules.{shares_cspace, shares_vspace, thread_rules}
use Rattle.model.specs.Acceptance.WellFormed.{are_frame_rights, capability_rules, content_rule, does_not_fit, executes, frame_rules, has_no_room, has_slot}
use Rattle.model.specs.Acceptance.WellFormed.{has_writable_code, is_address, is_covered, is_frame_type, is_listed_before, is_mapped_before, is_root_type}
use Rattle.model.specs.Acceptance.WellFormed.{is_table_type, is_thread_type, is_untyped_type, mapping_rules, may_have, misplaces_frame, misplaces_table}
use Rattle.model.specs.Acceptance.WellFormed.{object_rules, overlaps, signals_nothing, source_type, too_few_boot_slots}
use Rattle.model.specs.Images.Described.{Numbered, numbered, numbered_threads}
use Rattle.model.specs.Images.Fills.{program_pages}
use Rattle.model.specs.Images.Image.{Image, ImageContent, Thread, no_buffer}
use Rattle.model.specs.Images.Places.{type_at}
use Rattle.model.specs.Kernel.AddressSpaces.{address_limit, page_size, region_size}

-- ---- rules one by one

kept-head : (rule : Rule) (rules : List Rule) → AreKept (rule ∷ rules) → rule ≡ None
kept-head rule rules kept = kept 0 None (omega arith)

kept-tail : (rule : Rule) (rules : List Rule) → AreKept (rule ∷ rules) → AreKept rules
kept-tail rule rules kept = λ k d less. kept (suc k) d (omega (arith, less))

pub kept-behind : (first rest : List Rule) → AreKept (first ++ rest) → AreKept rest
kept-behind [] rest kept = kept
kept-behind (rule ∷ first) rest kept = kept-behind first rest (kept-tail rule (first ++ rest) kept)

pub kept-before : (first rest : List Rule) → AreKept (first ++ rest) → AreKept first
kept-before [] rest kept = λ k d less. absurd (omega (arith, less))
kept-before (rule ∷ first) rest kept = both-kept (kept-head rule (first ++ rest) kept) (kept-before first rest (kept-tail rule (first ++ rest) kept)) where
  both-kept : rule ≡ None → AreKept first → AreKept (rule ∷ first)
  both-kept one others zero d less = one
  both-kept one others (suc k) d less = others k d (omega (arith, less))

-- the rules of one entry
pub kept-of : {A : Type 0} (f : A → List Rule) (xs : List A) → AreKept (flat_map f xs) → (k : ℕ) (x : A) → slice_get xs k ≡ Some x → AreKept (f x)
kept-of f [] kept k x at = absurd (none-some x at)
kept-of f (y ∷ ys) kept zero x at = subst (λ z. AreKept (f z)) (same_Some y x at) (kept-before (f y) (flat_map f ys) kept)
kept-of f (y ∷ ys) kept (suc k) x at = kept-of f ys (kept-behind (f y) (flat_map f ys) kept) k x at

kept-one : {A : Type 0} (f : A → Rule) (xs : List A) → AreKept (map f xs) → (k : ℕ) (x : A) → slice_get xs k ≡ Some x → f x ≡ None
kept-one f [] kept k x at = absurd (none-some x at)
kept-one f (y ∷ ys) kept zero x at = subst (λ z. f z ≡ None) (same_Some y x at) (kept-head (f y) (map f ys) kept)
kept-one f (y ∷ ys) kept (suc k) x at = kept-one f ys (kept-tail (f y) (map f ys) kept) k x at

pub not-refused : (b : Bool) (refusal : Refusal) → refuse_if b refusal ≡ None → b ≡ false
not-refused false refusal h = refl
not-refused true refusal h = absurd (let clash : ◌≡◌ {A = Rule} (Some refusal) None = h in cc)

-- ---- entries by their numbers

pub numbered-from : {A : Type 0} (from : ℕ) (xs : List A) (k : ℕ) (x : A) → slice_get xs k ≡ Some x → slice_get (enumerate_from from xs) k ≡ Some (from + k, x)
numbered-from from [] k x at = absurd (none-some x at)
numbered-from from (y ∷ ys) zero x at = λ i. Some (number i, same_Some y x at i) where
  number : from ≡ from + 0
  number = omega arith
numbered-from from (y ∷ ys) (suc k) x at = numbered-from (from + 1) ys k x at ∙ ap (λ (n : ℕ). Some (n, x)) (omega arith)

pub numbered-at : {A : Type 0} (xs : List A) (k : ℕ) (x : A) → slice_get xs k ≡ Some x → slice_get (numbered xs) k ≡ Some (k, x)
numbered-at xs k x at = numbered-from 0 xs k x at ∙ ap (λ (n : ℕ). Some (n, x)) (omega arith)

pub range-from : (from count k : ℕ) → k < count → slice_get (range_with_len from count) k ≡ Some (from + k)
range-from from zero k less = absurd (omega (arith, less))
range-from from (suc count) zero less = ap (λ (n : ℕ). Some n) (omega arith)
range-from from (suc count) (suc k) less = range-from (from + 1) count k (omega (arith, less)) ∙ ap (λ (n : ℕ). Some n) (omega arith)

pub range-at : (count k : ℕ) → k < count → slice_get (range_with_len 0 count) k ≡ Some k
range-at count k less = range-from 0 count k less ∙ ap (λ (n : ℕ). Some n) (omega arith)

pub thread-at : (image : Image) (k : ℕ) (t : Thread) → slice_get image.threads k ≡ Some t →
    slice_get (numbered_threads image) k ≡ Some (record { number = k; thread = t })
thread-at image k t at =
    slice_get-map (λ t. let n : Numbered = record { number = t.0; thread = t.1 } in n) (numbered image.threads) k
    ∙ ap (option_map (λ t. let n : Numbered = record { number = t.0; thread = t.1 } in n)) (numbered-at image.threads k t at)

-- ---- what is said of each entry

pub record CapabilityKept (image : Image) (k : ℕ) (c : CapabilityEntry) : Type 0 where
  pub slot : has_slot image c.cnode c.index ≡ true
  pub no_thread : is_thread_type (source_type image c.source) ≡ false
  pub no_table : is_table_type (source_type image c.source) ≡ false
  pub once : (is_untyped_type (source_type image c.source) && is_listed_before image k c.source) ≡ false
  pub held : may_have (source_type image c.source) c.rights c.payload ≡ true

pub record TableKept (image : Image) (k : ℕ) (t : TableEntry) : Type 0 where
  pub root : is_root_type (type_at image t.root) ≡ true
  pub table : is_table_type (type_at image t.table) ≡ true
  pub address : is_address t.address region_size ≡ true
  pub once : is_mapped_before image k t.table ≡ false

pub record FrameKept (image : Image) (k : ℕ) (f : FrameEntry) : Type 0 where
  pub root : is_root_type (type_at image f.root) ≡ true
  pub frame : is_frame_type (type_at image f.frame) ≡ true
  pub address : is_address f.address page_size ≡ true
  pub covered : is_covered image f ≡ true
  pub rights : are_frame_rights f.rights ≡ true
  pub code : has_writable_code image (k, f) ≡ false

pub record ThreadKept (image : Image) (k : ℕ) (t : Thread) : Type 0 where
  pub tcb : is_thread_type (type_at image t.header.tcb) ≡ true
  pub root : is_root_type (type_at image t.header.root) ≡ true
  pub once : is_in_use image k t ≡ false
  pub guard : has_guard image t ≡ true
  pub base : (t.header.base % page_size == 0) ≡ true
  pub end : nat_lt address_limit (program_end t) ≡ false
  pub code : list_all (is_code image t) (program_pages t) ≡ true
  pub entry : nat_le t.header.words t.header.entry ≡ false
  pub cspace : shares_cspace image (record { number = k; thread = t }) ≡ false
  pub vspace : shares_vspace image (record { number = k; thread = t }) ≡ false
  pub buffer : has_bad_buffer image (record { number = k; thread = t }) ≡ false

-- the frame of a thread's buffer: no earlier thread's, no capability's source, and no code
pub record BufferKept (image : Image) (k buffer : ℕ) : Type 0 where
  pub frame : is_frame_type (type_at image buffer) ≡ true
  pub once : list_any (λ u. u.header.buffer == buffer) (take k image.threads) ≡ false
  pub no_source : list_any (λ c. c.source == buffer) image.capabilities ≡ false
  pub no_code : list_any (λ f. f.frame == buffer && executes f) image.frames ≡ false

pub record AreFormed (image : Image) : Type 0 where
  pub untyped : (k : ℕ) (u : UntypedEntry) → slice_get image.untypeds k ≡ Some u → overlaps image (k, u) ≡ false
  pub room : (k : ℕ) → k < image.header.objects → has_no_room image k ≡ false
  pub boot_slots : too_few_boot_slots image ≡ false
  pub capability : (k : ℕ) (c : CapabilityEntry) → slice_get image.capabilities k ≡ Some c → CapabilityKept image k c
  pub interrupt : (k : ℕ) (i : InterruptEntry) → slice_get image.interrupts k ≡ Some i → signals_nothing image i ≡ false
  pub table : (k : ℕ) (t : TableEntry) → slice_get image.tables k ≡ Some t → TableKept image k t
  pub frame : (k : ℕ) (f : FrameEntry) → slice_get image.frames k ≡ Some f → FrameKept image k f
  pub content : (k : ℕ) (c : ImageContent) → slice_get image.contents k ≡ Some c → is_frame_type (type_at image c.header.frame) ≡ true
  pub thread : (k : ℕ) (t : Thread) → slice_get image.threads k ≡ Some t → ThreadKept image k t

capability-kept : (image : Image) (k : ℕ) (c : CapabilityEntry) → does_not_fit image (k, c) ≡ false → CapabilityKept image k c
unfolding does_not_fit
capability-kept image k c is =
    let a = or_parts _ _ is in
    let b = or_parts _ _ a.0 in
    let d = or_parts _ _ b.0 in
    let e = or_parts _ _ d.0 in
    record { slot = not-false _ e.0; no_thread = e.1; no_table = d.1; once = b.1; held = not-false _ a.1 }

table-kept : (image : Image) (k : ℕ) (t : TableEntry) → misplaces_table image (k, t) ≡ false → TableKept image k t
unfolding misplaces_table
table-kept image k t is =
    let a = or_parts _ _ is in
    let b = or_parts _ _ a.0 in
    let d = or_parts _ _ b.0 in
    record { root = not-false _ d.0; table = not-false _ d.1; address = not-false _ b.1; once = a.1 }

frame-kept : (image : Image) (k : ℕ) (f : FrameEntry) → misplaces_frame image f ≡ false → has_writable_code image (k, f) ≡ false → FrameKept image k f
unfolding misplaces_frame
frame-kept image k f is code =
    let a = or_parts _ _ is in
    let b = or_parts _ _ a.0 in
    let d = or_parts _ _ b.0 in
    let e = or_parts _ _ d.0 in
    record { root = not-false _ e.0; frame = not-false _ e.1; address = not-false _ d.1; covered = not-false _ b.1; rights = not-false _ a.1; code = code }

thread-kept : (image : Image) (k : ℕ) (t : Thread) → is_bad image (record { number = k; thread = t }) ≡ false
    → shares_cspace image (record { number = k; thread = t }) ≡ false → shares_vspace image (record { number = k; thread = t }) ≡ false
    → has_bad_buffer image (record { number = k; thread = t }) ≡ false → ThreadKept image k t
unfolding is_bad
thread-kept image k t is cspace vspace buffer =
    let a = or_parts _ _ is in
    let b = or_parts _ _ a.0 in
    let c = or_parts _ _ b.0 in
    let d = or_parts _ _ c.0 in
    let e = or_parts _ _ d.0 in
    let f = or_parts _ _ e.0 in
    let g = or_parts _ _ f.0 in
    record {
      tcb = not-false _ g.0;
      root = not-false _ g.1;
      once = f.1;
      guard = not-false _ e.1;
      base = not-false _ d.1;
      end = c.1;
      code = not-false _ b.1;
      entry = a.1;
      cspace = cspace;
      vspace = vspace;
      buffer = buffer;
    }

-- what is said of a thread's buffer, if it has one
pub buffer-kept : (image : Image) (k : ℕ) (t : Thread) → ThreadKept image k t → (t.header.buffer == no_buffer) ≡ false → BufferKept image k t.header.buffer
unfolding has_bad_buffer
buffer-kept image k t kept some =
    let is : is_bad_buffer image k t.header.buffer ≡ false = sym (ap (λ b. not b && is_bad_buffer image k t.header.buffer) some) ∙ kept.buffer in
    let a = or_parts _ _ is in
    let b = or_parts _ _ a.0 in
    let c = or_parts _ _ b.0 in
    record { frame = not-false _ c.0; once = c.1; no_source = b.1; no_code = a.1 }

pub are-formed : (image : Image) → IsWellFormed image → AreFormed image
unfolding object_rules capability_rules mapping_rules thread_rules
are-formed image formed =
    let untypeds = map (λ u. refuse_if (overlaps image u) (UntypedOverlap u.0)) (numbered image.untypeds) in
    let rooms = map (λ number. refuse_if (has_no_room image number) (NoRoom number)) (range_with_len 0 image.header.objects) in
    let few : List Rule = refuse_if (too_few_boot_slots image) (BadObject image.header.objects) ∷ [] in
    let capabilities = map (λ c. refuse_if (does_not_fit image c) (BadCap c.0)) (numbered image.capabilities) in
    let tables = map (λ t. refuse_if (misplaces_table image t) (BadMapping t.0)) (numbered image.tables) in
    let frames = flat_map (frame_rules image) (numbered image.frames) in
    let places = kept-before (untypeds ++ rooms) few formed.objects in
    let contents = map (content_rule image) (numbered image.contents) in
    let mappings = kept-before (tables ++ frames ++ contents) _ formed.mappings in
    let maps = kept-before (tables ++ frames) contents mappings in
    let of_frame = λ (k : ℕ) (f : FrameEntry) (at : slice_get image.frames k ≡ Some f).
    kept-of (frame_rules image) (numbered image.frames) (kept-behind tables frames maps) k (k, f) (numbered-at image.frames k f at) in
    let of_thread = λ (k : ℕ) (t : Thread) (at : slice_get image.threads k ≡ Some t).
    kept-of (rules_of_thread image) (numbered_threads image) formed.threads k (record { number = k; thread = t }) (thread-at image k t at) in
    record {
      untyped = λ k u at. not-refused _ _ (kept-one (λ u. refuse_if (overlaps image u) (UntypedOverlap u.0)) (numbered image.untypeds)
          (kept-before untypeds rooms places) k (k, u) (numbered-at image.untypeds k u at));
      room = λ k less. not-refused _ _ (kept-one (λ number. refuse_if (has_no_room image number) (NoRoom number)) (range_with_len 0 image.header.objects)
          (kept-behind untypeds rooms places) k k (range-at image.header.objects k less));
      boot_slots = not-refused _ _ (kept-head (refuse_if (too_few_boot_slots image) (BadObject image.header.objects)) []
          (kept-behind (untypeds ++ rooms) few formed.objects));
      capability = λ k c at. capability-kept image k c
          (not-refused _ _ (kept-one (λ c. refuse_if (does_not_fit image c) (BadCap c.0)) (numbered image.capabilities)
          (kept-before capabilities _ formed.capabilities) k (k, c) (numbered-at image.capabilities k c at)));
      interrupt = λ k i at.
          not-refused _ _ (kept-one (λ i. refuse_if (signals_nothing image i.1) (BadCap (image.header.capabilities + i.0))) (numbered image.interrupts)
          (kept-behind capabilities _ formed.capabilities) k (k, i) (numbered-at image.interrupts k i at));
      table = λ k t at. table-kept image k t
          (not-refused _ _ (kept-one (λ t. refuse_if (misplaces_table image t) (BadMapping t.0)) (numbered image.tables) (kept-before tables frames maps) k
          (k, t) (numbered-at image.tables k t at)));
      frame = λ k f at. frame-kept image k f (not-refused _ _ (of_frame k f at 0 None (omega arith))) (not-refused _ _ (of_frame k f at 1 None (omega arith)));
      content = λ k c at. not-false _
          (not-refused _ _ (kept-one (content_rule image) (numbered image.contents) (kept-behind (tables ++ frames) contents mappings) k (k, c)
          (numbered-at image.contents k c at)));
      thread = λ k t at.
          thread-kept image k t (not-refused _ _ (of_thread k t at 0 None (omega arith))) (not-refused _ _ (of_thread k t at 1 None (omega arith)))
          (not-refused _ _ (of_thread k t at 2 None (omega arith))) (not-refused _ _ (of_thread k t at 3 None (omega arith)));
    }
