-- The labels that the first way over a listing finds: each thread has its entry's.
use Rattle.std.proofs.Common.{ℕ, ◌≡◌, ◌==◌, ◌+◌, ◌-◌, ◌^◌, ◌<◌, ◌≤◌, zero, suc, List, [], ◌∷◌, ◌++◌, Option, Some, None, min, refl, ap, sym, ◌∙◌, arith}
use Rattle.std.proofs.Common.{append_assoc}
use Rattle.std.proofs.Common.{ne_eqb, eq-eqb, true, false}
use Rattle.std.specs.Prelude.{map, flat_map, codes, slice_index, if◌then◌else◌}
use Rattle.std.specs.List.{range_with_len}
use Rattle.std.specs.Option.{option_map_or}
use Rattle.model.specs.Acceptance.NotedStates.{record_of}
use Rattle.model.specs.Images.Image.{StateRecord, Thread, no_buffer}
use Rattle.model.specs.Images.Listing.{object_name}
use Rattle.asm_line.specs.declared.lines.Line.{Line}
use Rattle.asm_line.specs.declared.lines.Line.TheVariants as line
use Rattle.asm_line.specs.declared.lines.Code.TheVariants as code
use Rattle.asm.specs.Labels.{FoundLabels, Searched, next_number, no_labels, searched_from, searched_line}
use Rattle.asm.proofs.Said.{buffer_said, point_said, record_said, slot_said, thread_line_said, thread_said}
use Rattle.asm.proofs.Joins.{number_behind}

pub searched-append : (number : ℕ) (s : Searched) (xs ys : List Line) →
    searched_from number s (xs ++ ys) ≡ searched_from (number_behind number xs) (searched_from number s xs) ys
searched-append number s [] ys = refl
searched-append number s (x ∷ xs) ys = searched-append (next_number number) (searched_line s (next_number number) x) xs ys

-- lines that say nothing of labels
pub silent : {E : Type 0} (say : E → Line) (s : Searched) → ((number : ℕ) (e : E) → searched_line s number (say e) ≡ s) → (number : ℕ) (xs : List E) →
    searched_from number s (map say xs) ≡ s
silent say s quiet number [] = refl
silent say s quiet number (x ∷ xs) = ap (λ z. searched_from (next_number number) z (map say xs)) (quiet (next_number number) x)
    ∙ silent say s quiet (next_number number) xs

-- ---- the points of a thread

-- what a point's lines are where the label does not stand
abbrev pub body_said : Thread → ℕ → List Line
body_said t point = option_map_or record_said (record_of t point) [] ++ line.Code None (code.Word (slice_index t.words point)) ∷ []

pub point-plain : (t : Thread) (point : ℕ) → (t.header.entry ≡ point → ⊥) → point_said t point ≡ body_said t point
point-plain t point other = ap (λ b. (if b then line.Label (codes "l") ∷ [] else []) ++ option_map_or record_said (record_of t point) []
    ++ line.Code None (code.Word (slice_index t.words point)) ∷ []) (ne_eqb t.header.entry point other)

pub point-entry : (t : Thread) → point_said t t.header.entry ≡ line.Label (codes "l") ∷ body_said t t.header.entry
point-entry t = ap (λ b. (if b then line.Label (codes "l") ∷ [] else []) ++ option_map_or record_said (record_of t t.header.entry) []
    ++ line.Code None (code.Word (slice_index t.words t.header.entry)) ∷ []) (eq-eqb t.header.entry t.header.entry refl)

pub range-append : (a m n : ℕ) → range_with_len a (m + n) ≡ range_with_len a m ++ range_with_len (a + m) n
range-append a zero n =
    let none : 0 + n ≡ n = omega arith in
    let same : a + 0 ≡ a = omega arith in
    ap (range_with_len a) none ∙ ap (λ k. range_with_len k n) (sym same)
range-append a (suc m) n =
    let one : suc m + n ≡ suc (m + n) = omega arith in
    let same : a + 1 + m ≡ a + suc m = omega arith in
    ap (range_with_len a) one ∙ ap (λ ks. a ∷ ks) (range-append (a + 1) m n ∙ ap (λ k. range_with_len (a + 1) m ++ range_with_len k n) same)

module _ (t : Thread) (others : List FoundLabels) where
  abbrev within : FoundLabels → Searched
  within labels = record { threads = others; open_labels = Some labels }

  record-silent : (labels : FoundLabels) (number : ℕ) (r : Option StateRecord) →
      searched_from number (within labels) (option_map_or record_said r []) ≡ within labels
  record-silent labels number None = refl
  record-silent labels number (Some r) =
      searched-append (next_number number) (within labels) (map line.Range r.ranges) (map slot_said r.slots)
      ∙ (ap (λ s. searched_from (number_behind (next_number number) (map line.Range r.ranges)) s (map slot_said r.slots))
      (silent line.Range (within labels) (λ n e. refl) (next_number number) r.ranges)
      ∙ silent slot_said (within labels) (λ n e. refl) (number_behind (next_number number) (map line.Range r.ranges)) r.slots)

  counted : (n : ℕ) → n < 65536 → min (n + 1) (2 ^ 32 - 1) ≡ n + 1
  counted n small = omega (arith, small)

  body-found : (labels : FoundLabels) (number point : ℕ) → labels.points < 65536
      → searched_from number (within labels) (body_said t point) ≡ within (record labels { points = labels.points + 1 })
  body-found labels number point small =
      let said = option_map_or record_said (record_of t point) [] in
      searched-append number (within labels) said (line.Code None (code.Word (slice_index t.words point)) ∷ [])
      ∙ (ap (λ s. searched_from (number_behind number said) s (line.Code None (code.Word (slice_index t.words point)) ∷ []))
      (record-silent labels number (record_of t point))
      ∙ ap (λ n. within (record labels { points = n })) (counted labels.points small))

  -- points that are not the entry
  plain-found : (labels : FoundLabels) (number a n : ℕ) → labels.points ≡ a → a + n ≤ 65536 → ((k : ℕ) → a ≤ k → k < a + n → t.header.entry ≡ k → ⊥)
      → searched_from number (within labels) (flat_map (point_said t) (range_with_len a n)) ≡ within (record labels { points = a + n })
  plain-found labels number a zero here small other = let same : labels.points ≡ a + 0 = omega (arith, here) in
      ap (λ k. within (record labels { points = k })) same
  plain-found labels number a (suc n) here small other =
      let plain = point-plain t a (other a (omega arith) (omega arith)) in
      let rest = flat_map (point_said t) (range_with_len (a + 1) n) in
      let more : labels.points + 1 ≡ a + 1 = omega (arith, here) in
      let all : a + 1 + n ≡ a + suc n = omega arith in
      searched-append number (within labels) (point_said t a) rest
      ∙ (ap (λ s. searched_from (number_behind number (point_said t a)) s rest)
      (ap (searched_from number (within labels)) plain ∙ body-found labels number a (omega (arith, here, small)))
      ∙ (plain-found (record labels { points = labels.points + 1 }) (number_behind number (point_said t a)) (a + 1) n more (omega (arith, small))
      (λ k low high. other k (omega (arith, low)) (omega (arith, high)))
      ∙ ap (λ k. within (record labels { points = k })) all))

-- ---- threads

-- the lines before the points
abbrev pub start_said : Thread → List Line
start_said t = (line.Thread (thread_line_said t) ∷ buffer_said t) ++ map line.Register t.registers

-- the lines before the one with the label, and its number
abbrev pub first_said : Thread → List Line
first_said t = start_said t ++ flat_map (point_said t) (range_with_len 0 t.header.entry)

abbrev pub label_number : Thread → ℕ → ℕ
label_number t number = next_number (number_behind number (first_said t))

-- the labels of a thread whose first line is behind the one with this number
abbrev pub thread_labels : Thread → ℕ → FoundLabels
thread_labels t number = record { places = (codes "l", record { line = label_number t number; point = t.header.entry }) ∷ []; points = t.header.words }

abbrev pub all_labels : ℕ → List Thread → List FoundLabels
all_labels number [] = []
all_labels number (t ∷ ts) = thread_labels t number ∷ all_labels (number_behind number (thread_said t)) ts

abbrev pub between_threads : List FoundLabels → Searched
between_threads found = record { threads = found; open_labels = None }

-- the lines behind the entry's label
abbrev pub last_said : Thread → List Line
last_said t = flat_map (point_said t) (range_with_len (t.header.entry + 1) (t.header.words - (t.header.entry + 1))) ++ line.End ∷ []

flat-append : {X : Type 0} (f : X → List Line) (xs ys : List X) → flat_map f (xs ++ ys) ≡ flat_map f xs ++ flat_map f ys
flat-append f [] ys = refl
flat-append f (x ∷ xs) ys = ap (λ ls. f x ++ ls) (flat-append f xs ys) ∙ sym (append_assoc (f x) (flat_map f xs) (flat_map f ys))

five-lists : (start one point two tail : List Line) → (start ++ ((one ++ point) ++ two)) ++ tail ≡ (start ++ one) ++ (point ++ (two ++ tail))
five-lists start one point two tail =
    ap (λ ls. ls ++ tail) (sym (append_assoc start (one ++ point) two) ∙ ap (λ ls. ls ++ two) (sym (append_assoc start one point)))
    ∙ (append_assoc ((start ++ one) ++ point) two tail ∙ append_assoc (start ++ one) point (two ++ tail))

-- the lines from the one with the label on
abbrev pub from_label : Thread → List Line
from_label t = line.Label (codes "l") ∷ (body_said t t.header.entry ++ last_said t)

pub thread-split : (t : Thread) → t.header.entry < t.header.words → thread_said t ≡ first_said t ++ from_label t
thread-split t inside =
    let e = t.header.entry in
    let rest = t.header.words - (e + 1) in
    let count : t.header.words ≡ e + suc rest = omega (arith, inside) in
    let none : 0 + e ≡ e = omega arith in
    let start : List Line = start_said t in
    let one : List Line = flat_map (point_said t) (range_with_len 0 e) in
    let two : List Line = flat_map (point_said t) (range_with_len (e + 1) rest) in
    let points : flat_map (point_said t) (range_with_len 0 t.header.words) ≡ one ++ point_said t e ++ two =
    ap (λ n. flat_map (point_said t) (range_with_len 0 n)) count
    ∙ (ap (flat_map (point_said t)) (range-append 0 e (suc rest))
    ∙ (ap (λ k. flat_map (point_said t) (range_with_len 0 e ++ range_with_len k (suc rest))) none
    ∙ (flat-append (point_said t) (range_with_len 0 e) (e ∷ range_with_len (e + 1) rest)
    ∙ sym (append_assoc one (point_said t e) two)))) in
    ap (λ (ls : List Line). (start ++ ls) ++ line.End ∷ []) points
    ∙ (five-lists start one (point_said t e) two (line.End ∷ [])
    ∙ ap (λ (ls : List Line). first_said t ++ (ls ++ last_said t)) (point-entry t))

buffer-silent : (t : Thread) (number : ℕ) (s : Searched) → searched_from number s (buffer_said t) ≡ s
buffer-silent t number s =
    elim (t.header.buffer == no_buffer) as (λ b. searched_from number s (if b then [] else line.Buffer (object_name t.header.buffer) ∷ []) ≡ s) [
      | true ↦ refl
      | false ↦ refl
    ]

-- behind the lines before the points a thread is open that has no label
start-found : (t : Thread) (number : ℕ) (found : List FoundLabels)
    → searched_from number (between_threads found) (start_said t) ≡ record { threads = found; open_labels = Some no_labels }
start-found t number found =
    let first : List Line = line.Thread (thread_line_said t) ∷ buffer_said t in
    let open_first : Searched = record { threads = found; open_labels = Some no_labels } in
    searched-append number (between_threads found) first (map line.Register t.registers)
    ∙ (ap (λ s. searched_from (number_behind number first) s (map line.Register t.registers)) (buffer-silent t (next_number number) open_first)
    ∙ silent line.Register open_first (λ n r. refl) (number_behind number first) t.registers)

pub thread-found : (t : Thread) (number : ℕ) (found : List FoundLabels) → t.header.entry < t.header.words → t.header.words ≤ 65536
    → searched_from number (between_threads found) (thread_said t) ≡ between_threads (found ++ thread_labels t number ∷ [])
thread-found t number found inside few =
    let e = t.header.entry in
    let rest = t.header.words - (e + 1) in
    let one = flat_map (point_said t) (range_with_len 0 e) in
    let two = flat_map (point_said t) (range_with_len (e + 1) rest) in
    let start = start_said t in
    let behind_first : FoundLabels = record { places = []; points = e } in
    let with_entry : FoundLabels = record { places = (codes "l", record { line = label_number t number; point = e }) ∷ []; points = e } in
    let n1 = number_behind number (first_said t) in
    let n2 = number_behind (next_number n1) (body_said t e) in
    let count : e + 1 + rest ≡ t.header.words = omega (arith, inside) in
    let none : 0 + e ≡ e = omega arith in
    let first : searched_from number (between_threads found) (first_said t) ≡ record { threads = found; open_labels = Some behind_first } =
    searched-append number (between_threads found) start one
    ∙ (ap (λ s. searched_from (number_behind number start) s one) (start-found t number found)
    ∙ plain-found t found no_labels (number_behind number start) 0 e refl (omega (arith, inside, few)) (λ k low high same. omega (arith, high, same))
    ∙ ap (λ (k : ℕ). record { threads = found; open_labels = Some (record { places = []; points = k }) }) none) in
    ap (searched_from number (between_threads found)) (thread-split t inside)
    ∙ (searched-append number (between_threads found) (first_said t) (from_label t)
    ∙ (ap (λ s. searched_from n1 s (from_label t)) first
    ∙ (searched-append (next_number n1) (record { threads = found; open_labels = Some with_entry }) (body_said t e) (last_said t)
    ∙ (ap (λ s. searched_from n2 s (last_said t)) (body-found t found with_entry (next_number n1) e (omega (arith, inside, few)))
    ∙ (searched-append n2 (record { threads = found; open_labels = Some (record with_entry { points = e + 1 }) }) two (line.End ∷ [])
    ∙ (ap (λ s. searched_from (number_behind n2 two) s (line.End ∷ []))
    (plain-found t found (record with_entry { points = e + 1 }) n2 (e + 1) rest refl (omega (arith, count, few))
    (λ k low high same. omega (arith, low, same)))
    ∙ ap (λ k. between_threads (found ++ (record with_entry { points = k }) ∷ [])) count))))))
