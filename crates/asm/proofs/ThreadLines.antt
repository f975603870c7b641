-- Lines of threads: each thread's lines add it to those before it.
use Rattle.std.proofs.Common.{ℕ, ◌≡◌, ◌+◌, ◌-◌, ◌<◌, ◌≤◌, ◌==◌, ◌||◌, zero, suc, Bool, true, false, List, [], ◌∷◌, ◌++◌, length, Some, None, refl, ap, sym}
use Rattle.std.proofs.Common.{◌∙◌, subst, arith}
use Rattle.std.proofs.Common.{eq-eqb, eqb-true}
use Rattle.std.specs.Prelude.{map, flat_map, codes, is_some, nat_lt, if◌then◌else◌}
use Rattle.std.specs.List.{AllByRecursion, range_with_len}
use Rattle.std.proofs.lemmas.Bool.{and_parts, ltb-true}
use Rattle.std.proofs.lemmas.List.{append_assoc, append-nil, length-append}
use Rattle.model.specs.Images.Image.{Image, StateRecord, Thread, anything, no_buffer, record_format, register_format, slots_format, thread_format}
use Rattle.model.specs.Images.Format.{field, many_fit}
use Rattle.model.specs.Images.Listing.{object_name}
use Rattle.asm_line.specs.declared.lines.Line.TheVariants as line
use Rattle.format_laws.specs.Fitting.{IsFitting}
use Rattle.format_laws.proofs.Laws.{many-length}
use Rattle.asm.specs.Drafts.{Draft, declared_of}
use Rattle.asm.specs.Labels.{FoundLabels, is_first_on, next_number, place_named, point_of, searched_from}
use Rattle.asm.specs.Reading.{labels_at}
use Rattle.asm.proofs.Said.{buffer_said, point_said, thread_line_said, thread_said}
use Rattle.asm.proofs.Joins.{Goes, join, nothing-more, number_behind, one-more, plain-section}
use Rattle.asm.proofs.LabelSearch.{all_labels, between_threads, body_said, first_said, from_label, label_number, last_said, searched-append, start_said}
use Rattle.asm.proofs.LabelSearch.{thread-found, thread-split, thread_labels}
use Rattle.asm.proofs.Orders.{least_behind}
use Rattle.asm.proofs.PlaceLines.{object-named, object-number}
use Rattle.asm.proofs.PointLines.{Left, RiseFrom, body-goes, moved, points-go, standing}
use Rattle.asm.proofs.RecordLines.{inside, opened, register-adds}
use Rattle.asm.proofs.SectionFits.{fits-at}
use Rattle.asm.proofs.ThreadParts.{ThreadFits, record-parts, thread-parts}

-- an image whose declarations and these threads are read
abbrev pub after : Image → List Thread → Draft
after i ts = record {
  memory = Some (record { bits = i.header.memory_bits; boot_radix = i.header.boot_radix });
  declared = declared_of i;
  threads = ts;
  open_thread = None;
}

-- a thread whose buffer is not read
abbrev unbuffered : Thread → Thread
unbuffered t = record t { header = record t.header { buffer = no_buffer } }

left-true : (a b : Bool) → b ≡ false → (a || b) ≡ true → a ≡ true
left-true true b e is = refl
left-true false b e is = absurd (let clash : false ≡ true = sym e ∙ is in cc)

records-rise : (objects words least count : ℕ) (rs : List StateRecord) →
    many_fit (record_format (slots_format objects) words) (λ r. r.header.point + 1) least count rs ≡ true → RiseFrom least rs
unfolding many_fit
records-rise objects words least zero [] is = tt
records-rise objects words least zero (r ∷ rs) is = absurd (let clash : false ≡ true = is in cc)
records-rise objects words least (suc n) [] is = tt
records-rise objects words least (suc n) (r ∷ rs) is =
    let both = and_parts ((record_format (slots_format objects) words least).fits r)
    (many_fit (record_format (slots_format objects) words) (λ r. r.header.point + 1) (r.header.point + 1) n rs) is in
    ((record-parts objects words least r both.0).behind, records-rise objects words (r.header.point + 1) n rs both.1)

none-long : {A : Type 0} (xs : List A) → length xs ≡ 0 → xs ≡ []
none-long [] e = refl
none-long (x ∷ xs) e = absurd (omega (arith, e))

module _ (image : Image) (labels : List FoundLabels) (limits : IsFitting image) (ts : List Thread) (searched : length ts < length labels)
    (few_threads : length ts < 64)
    (t : Thread) (fits : ThreadFits image.header.objects t) (entered : t.header.entry < t.header.words)
    (number : ℕ) (known : labels_at labels (length ts) ≡ thread_labels t number) where
  abbrev there : List ℕ → List StateRecord → Draft
  there ws records = standing image labels limits ts searched t ws records None

  long-words : length t.words ≡ t.header.words
  long-words = many-length (λ _. field anything) (λ _. 0) 0 t.header.words t.words fits.words

  few-words : length t.words ≤ 65536
  few-words = let long = long-words in let few = fits.header.few_words in omega (arith, long, few)

  -- no record is left behind the last point
  none-left : (left : Left t t.header.words) → left.records_left ≡ []
  none-left left = by left.records_left refl left.behind
    where
      by : (rs : List StateRecord) → left.records_left ≡ rs → RiseFrom t.header.words rs → left.records_left ≡ []
      by [] e rise = e
      by (r ∷ rs) e rise =
          let all : t.records ≡ left.records ++ r ∷ rs = left.all_records ∙ ap (λ xs. left.records ++ xs) e in
          let parts = record-parts image.header.objects t.header.words (least_behind (λ (x : StateRecord). x.header.point + 1) 0 left.records) r
          (fits-at (record_format (slots_format image.header.objects) t.header.words) (λ x. x.header.point + 1) 0 t.header.records t.records left.records r rs
          fits.records all) in
          let low = rise.0 in
          let high = parts.inside in
          absurd (omega (arith, low, high))

  none-unread : (left : Left t t.header.words) → left.words_left ≡ []
  none-unread left =
      let whole : length t.words ≡ length left.words + length left.words_left = ap length left.all_words ∙ length-append left.words left.words_left in
      let reached = left.reached in
      let long = long-words in
      none-long left.words_left (omega (arith, whole, reached, long))

  -- behind the last point the thread is whole
  whole-thread : (left : Left t t.header.words) → (opened t t.registers left.words left.records None).thread ≡ t
  whole-thread left =
      let words : left.words ≡ t.words = sym (append-nil left.words) ∙ (ap (λ xs. left.words ++ xs) (sym (none-unread left)) ∙ sym left.all_words) in
      let records : left.records ≡ t.records = sym (append-nil left.records) ∙ (ap (λ xs. left.records ++ xs) (sym (none-left left)) ∙ sym left.all_records) in
      let r = many-length register_format (λ x. x.register + 1) 1 t.header.registers t.registers fits.registers in
      let c = many-length (record_format (slots_format image.header.objects) t.header.words) (λ x. x.header.point + 1) 0 t.header.records t.records
      fits.records in
      (λ i. (opened t t.registers (words i) (records i) None).thread)
      ∙ (λ i. record t { header = record t.header { registers = r i; words = long-words i; records = c i } })

  begin-goes : Goes labels number (after image ts) (line.Thread (thread_line_said t) ∷ []) (inside image ts (opened (unbuffered t) [] [] [] None))
  begin-goes =
      let h = t.header in
      let tcb = object-number image limits h.tcb fits.header.tcb in
      let cnode = object-number image limits h.cnode fits.header.cnode in
      let root = object-number image limits h.root fits.header.root in
      let entry : point_of (labels_at labels (length ts)) (codes "l") ≡ h.entry = ap (λ (ls : FoundLabels). point_of ls (codes "l")) known in
      one-more labels number (after image ts) (inside image ts (opened (unbuffered t) [] [] [] None)) (inside image ts (opened (unbuffered t) [] [] [] None))
      (line.Thread (thread_line_said t)) []
      (record {
        searched = searched;
        begins = record {
          tcb = object-named image limits h.tcb fits.header.tcb;
          cnode = object-named image limits h.cnode fits.header.cnode;
          root = object-named image limits h.root fits.header.root;
          entry = ap (λ (ls : FoundLabels). is_some (place_named ls (codes "l"))) known;
        };
        room = few_threads;
      })
      (λ i. inside image ts (record {
        thread = record {
          header = record {
            tcb = tcb i;
            cnode = cnode i;
            guard = h.guard;
            root = root i;
            priority = h.priority;
            budget = h.budget;
            fault = h.fault;
            buffer = no_buffer;
            entry = entry i;
            base = h.base;
            registers = 0;
            words = 0;
            records = 0;
          };
          registers = [];
          words = [];
          records = [];
        };
        next = None;
      }))
      (nothing-more labels (next_number number) (inside image ts (opened (unbuffered t) [] [] [] None))
      (inside image ts (opened (unbuffered t) [] [] [] None)) refl)

  abbrev with_buffer : ℕ → Draft
  with_buffer buffer = inside image ts (opened (record t { header = record t.header { buffer = buffer } }) [] [] [] None)

  buffer-goes : (from : ℕ) → Goes labels from (inside image ts (opened (unbuffered t) [] [] [] None)) (buffer_said t) (inside image ts (opened t [] [] [] None))
  buffer-goes from = by (t.header.buffer == no_buffer) refl
    where
      by : (b : Bool) → (t.header.buffer == no_buffer) ≡ b
          → Goes labels from (inside image ts (opened (unbuffered t) [] [] [] None)) (if b then [] else line.Buffer (object_name t.header.buffer) ∷ [])
          (inside image ts (opened t [] [] [] None))
      by true none =
          nothing-more labels from (with_buffer no_buffer) (with_buffer t.header.buffer) (ap with_buffer (sym (eqb-true t.header.buffer no_buffer none)))
      by false some =
          let less = ltb-true t.header.buffer image.header.objects
          (left-true (nat_lt t.header.buffer image.header.objects) (t.header.buffer == no_buffer) some fits.header.buffer) in
          one-more labels from (with_buffer no_buffer) (with_buffer t.header.buffer) (with_buffer t.header.buffer)
          (line.Buffer (object_name t.header.buffer)) []
          (searched, record { named = object-named image limits t.header.buffer less; single = refl })
          (ap with_buffer (object-number image limits t.header.buffer less))
          (nothing-more labels (next_number from) (with_buffer t.header.buffer) (with_buffer t.header.buffer) refl)

  -- the lines before the registers
  first-go : Goes labels number (after image ts) (line.Thread (thread_line_said t) ∷ buffer_said t) (inside image ts (opened t [] [] [] None))
  first-go =
      join labels number (after image ts) (inside image ts (opened (unbuffered t) [] [] [] None)) (inside image ts (opened t [] [] [] None))
      (line.Thread (thread_line_said t) ∷ []) (buffer_said t) begin-goes (buffer-goes (next_number number))

  registers-go : (from : ℕ) → Goes labels from (inside image ts (opened t [] [] [] None)) (map line.Register t.registers) (there [] [])
  registers-go from =
      plain-section labels line.Register (λ rs. inside image ts (opened t rs [] [] None)) t.registers
      (register-adds image labels limits ts searched t t.header.registers fits.registers fits.header.registers) from

  abbrev at_start : Left t 0
  at_start = record {
    words = [];
    words_left = t.words;
    all_words = refl;
    reached = refl;
    records = [];
    records_left = t.records;
    all_records = refl;
    before = tt;
    behind = records-rise image.header.objects t.header.words 0 t.header.records t.records fits.records;
  }

  label-goes : (ws : List ℕ) (records : List StateRecord) → Goes labels (number_behind number (first_said t)) (there ws records) (line.Label (codes "l") ∷ [])
      (there ws records)
  label-goes ws records =
      one-more labels (number_behind number (first_said t)) (there ws records) (there ws records) (there ws records) (line.Label (codes "l")) [] (
        searched,
        ap (λ (ls : FoundLabels). is_first_on ls (codes "l") (label_number t number)) known
            ∙ eq-eqb (label_number t number) (label_number t number) refl,
      )
      refl
      (nothing-more labels (next_number (number_behind number (first_said t))) (there ws records) (there ws records) refl)

  end-goes : (from : ℕ) (left : Left t t.header.words) → Goes labels from (there left.words left.records) (line.End ∷ []) (after image (ts ++ t ∷ []))
  end-goes from left =
      let reached = left.reached in
      let some = fits.header.some_words in
      one-more labels from (there left.words left.records) (after image (ts ++ t ∷ [])) (after image (ts ++ t ∷ [])) line.End []
      (searched, record { done = refl; some = omega (arith, reached, some) })
      (ap (λ (u : Thread). after image (ts ++ u ∷ [])) (whole-thread left))
      (nothing-more labels (next_number from) (after image (ts ++ t ∷ [])) (after image (ts ++ t ∷ [])) refl)

  -- the lines before the label of the entry
  record Entered : Type 0 where
    left : Left t t.header.entry
    goes : Goes labels number (after image ts) (first_said t) (there left.words left.records)

  entered-goes : Entered
  entered-goes =
      let long = long-words in
      let start = start_said t in
      let first = line.Thread (thread_line_said t) ∷ buffer_said t in
      let registers = join labels number (after image ts) (inside image ts (opened t [] [] [] None)) (there [] []) first (map line.Register t.registers)
      first-go (registers-go (number_behind number first)) in
      let points = points-go image labels limits ts searched t t.header.records fits.records few-words 0 t.header.entry (number_behind number start) at_start
      (omega (arith, long, entered)) (λ k low high same. omega (arith, high, same)) in
      let none : 0 + t.header.entry ≡ t.header.entry = omega arith in
      record {
        left = moved t (0 + t.header.entry) t.header.entry none points.next;
        goes = join labels number (after image ts) (there [] []) (there points.next.words points.next.records) start
            (flat_map (point_said t) (range_with_len 0 t.header.entry)) registers points.goes;
      }

  behind-entry : (from : ℕ) (left : Left t (t.header.entry + 1)) → Goes labels from (there left.words left.records) (last_said t) (after image (ts ++ t ∷ []))
  behind-entry from left =
      let long = long-words in
      let rest = t.header.words - (t.header.entry + 1) in
      let count : t.header.entry + 1 + rest ≡ t.header.words = omega (arith, entered) in
      let points = points-go image labels limits ts searched t t.header.records fits.records few-words (t.header.entry + 1) rest from left
      (omega (arith, long, count)) (λ k low high same. omega (arith, low, same)) in
      let two = flat_map (point_said t) (range_with_len (t.header.entry + 1) rest) in
      let last = moved t (t.header.entry + 1 + rest) t.header.words count points.next in
      join labels from (there left.words left.records) (there points.next.words points.next.records) (after image (ts ++ t ∷ [])) two (line.End ∷ [])
      points.goes
      (end-goes (number_behind from two) last)

  pub thread-goes : Goes labels number (after image ts) (thread_said t) (after image (ts ++ t ∷ []))
  thread-goes =
      let long = long-words in
      let first = entered-goes in
      let n = number_behind number (first_said t) in
      let body = body-goes image labels limits ts searched t t.header.records fits.records few-words t.header.entry (next_number n) first.left
      (omega (arith, long, entered)) in
      let rest = join labels (next_number n) (there first.left.words first.left.records) (there body.next.words body.next.records) (after image (ts ++ t ∷ []))
      (body_said t t.header.entry) (last_said t) body.goes (behind-entry (number_behind (next_number n) (body_said t t.header.entry)) body.next) in
      let labelled = join labels n (there first.left.words first.left.records) (there first.left.words first.left.records) (after image (ts ++ t ∷ []))
      (line.Label (codes "l") ∷ []) (body_said t t.header.entry ++ last_said t) (label-goes first.left.words first.left.records) rest in
      subst (λ ls. Goes labels number (after image ts) ls (after image (ts ++ t ∷ []))) (sym (thread-split t entered))
      (join labels number (after image ts) (there first.left.words first.left.records) (after image (ts ++ t ∷ [])) (first_said t) (from_label t) first.goes
      labelled)

-- ---- all threads

abbrev pub IsEntered : Thread → Type 0
IsEntered t = t.header.entry < t.header.words

label-there : (front : List FoundLabels) (x : FoundLabels) (rest : List FoundLabels) (k : ℕ) → length front ≡ k → labels_at (front ++ x ∷ rest) k ≡ x
label-there [] x rest k e = ap (labels_at (x ∷ rest)) (sym e)
label-there (y ∷ ys) x rest zero e = absurd (omega (arith, e))
label-there (y ∷ ys) x rest (suc k) e = label-there ys x rest k (omega (arith, e))

module _ (image : Image) (labels : List FoundLabels) (limits : IsFitting image) where
  pub threads-go : (least count number : ℕ) (ts rest : List Thread) (front : List FoundLabels) →
      many_fit (λ _. thread_format (slots_format image.header.objects) image.header.version image.header.objects) (λ _. 0) least count rest ≡ true
      → AllByRecursion IsEntered rest → length ts + length rest ≤ 64 → length front ≡ length ts → labels ≡ front ++ all_labels number rest
      → Goes labels number (after image ts) (flat_map thread_said rest) (after image (ts ++ rest))
  unfolding many_fit
  threads-go least count number ts [] front is inside_all few long same =
      nothing-more labels number (after image ts) (after image (ts ++ [])) (ap (after image) (sym (append-nil ts)))
  threads-go least zero number ts (t ∷ rest) front is inside_all few long same = absurd (let clash : false ≡ true = is in cc)
  threads-go least (suc n) number ts (t ∷ rest) front is inside_all few long same =
      let both = and_parts ((thread_format (slots_format image.header.objects) image.header.version image.header.objects).fits t)
      (many_fit (λ _. thread_format (slots_format image.header.objects) image.header.version image.header.objects) (λ _. 0) 0 n rest) is in
      let own = thread_labels t number in
      let others = all_labels (number_behind number (thread_said t)) rest in
      let count : length labels ≡ length front + length (own ∷ others) = ap length same ∙ length-append front (own ∷ others) in
      let known : labels_at labels (length ts) ≡ own = ap (λ ls. labels_at ls (length ts)) same ∙ label-there front own others (length ts) long in
      let longer : length (front ++ own ∷ []) ≡ length (ts ++ t ∷ []) = length-append front (own ∷ [])
      ∙ (ap (λ k. k + 1) long ∙ sym (length-append ts (t ∷ []))) in
      let more = length-append ts (t ∷ []) in
      let one = thread-goes image labels limits ts (omega (arith, count, long)) (omega (arith, few)) t
      (thread-parts image.header.version image.header.objects t both.0) inside_all.0 number known in
      let behind = threads-go 0 n (number_behind number (thread_said t)) (ts ++ t ∷ []) rest (front ++ own ∷ []) both.1 inside_all.1 (omega (arith, few, more))
      longer
      (same ∙ sym (append_assoc front (own ∷ []) others)) in
      subst (λ us. Goes labels number (after image ts) (flat_map thread_said (t ∷ rest)) (after image us)) (append_assoc ts (t ∷ []) rest)
      (join labels number (after image ts) (after image (ts ++ t ∷ [])) (after image ((ts ++ t ∷ []) ++ rest)) (thread_said t) (flat_map thread_said rest) one
      behind)

pub threads-found : (version objects least count number : ℕ) (ts : List Thread) (found : List FoundLabels) →
    many_fit (λ _. thread_format (slots_format objects) version objects) (λ _. 0) least count ts ≡ true
    → AllByRecursion IsEntered ts → searched_from number (between_threads found) (flat_map thread_said ts) ≡ between_threads (found ++ all_labels number ts)
unfolding many_fit
threads-found version objects least count number [] found is inside_all = ap between_threads (sym (append-nil found))
threads-found version objects least zero number (t ∷ ts) found is inside_all = absurd (let clash : false ≡ true = is in cc)
threads-found version objects least (suc n) number (t ∷ ts) found is inside_all =
    let both = and_parts ((thread_format (slots_format objects) version objects).fits t)
    (many_fit (λ _. thread_format (slots_format objects) version objects) (λ _. 0) 0 n ts)
    is in
    let fits = thread-parts version objects t both.0 in
    searched-append number (between_threads found) (thread_said t) (flat_map thread_said ts)
    ∙ (ap (λ s. searched_from (number_behind number (thread_said t)) s (flat_map thread_said ts))
    (thread-found t number found inside_all.0 fits.header.few_words)
    ∙ (threads-found version objects 0 n (number_behind number (thread_said t)) ts (found ++ thread_labels t number ∷ []) both.1 inside_all.1
    ∙ ap between_threads (append_assoc found (thread_labels t number ∷ []) (all_labels (number_behind number (thread_said t)) ts))))
