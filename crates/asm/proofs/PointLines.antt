-- Lines of a thread's points: each leads from what is known before the point to what is known behind it.
use Rattle.std.proofs.Common.{ℕ, ◌≡◌, ◌==◌, ◌+◌, ◌<◌, ◌≤◌, zero, suc, Bool, true, false, List, [], ◌∷◌, ◌++◌, length, Option, Some, None, refl, ap, sym, ◌∙◌}
use Rattle.std.proofs.Common.{subst, arith, ne_eqb, eq-eqb, eqb-true}
use Rattle.std.specs.Prelude.{flat_map, find, slice_index, option_to_list}
use Rattle.std.specs.List.{range_with_len}
use Rattle.std.specs.Option.{option_map_or}
use Rattle.std.proofs.lemmas.Bool.Decides.{nat_tests}
use Rattle.std.proofs.lemmas.List.{append_assoc, append-nil, length-append}
use Rattle.model.specs.Acceptance.NotedStates.{record_of}
use Rattle.model.specs.Images.Image.{Image, StateRecord, Thread, record_format, slots_format}
use Rattle.model.specs.Images.Format.{many_fit}
use Rattle.asm_line.specs.declared.lines.Line.TheVariants as line
use Rattle.asm_line.specs.declared.lines.Code.TheVariants as code
use Rattle.format_laws.specs.Fitting.{IsFitting}
use Rattle.asm.specs.Drafts.{Draft}
use Rattle.asm.specs.Labels.{FoundLabels, next_number}
use Rattle.asm.proofs.Said.{point_said, record_said}
use Rattle.asm.proofs.Joins.{Goes, join, nothing-more, number_behind, one-more}
use Rattle.asm.proofs.LabelSearch.{body_said, point-plain}
use Rattle.asm.proofs.Orders.{least_behind}
use Rattle.asm.proofs.RecordLines.{inside, opened, record-goes}
use Rattle.asm.proofs.SectionFits.{fits-at}
use Rattle.asm.proofs.ThreadParts.{record-parts}

-- ---- records in the order of their points

-- all are of points before this one
abbrev pub AreBefore : ℕ → List StateRecord → Type 0
AreBefore point [] = Unit {0}
AreBefore point (r ∷ rs) = (r.header.point < point) × AreBefore point rs

-- the first is of this point or a later one
abbrev pub StartsAt : ℕ → List StateRecord → Type 0
StartsAt point [] = Unit {0}
StartsAt point (r ∷ rs) = point ≤ r.header.point

-- each is of a later point than the one before it, the first of this point or a later one
abbrev pub RiseFrom : ℕ → List StateRecord → Type 0
RiseFrom point [] = Unit {0}
RiseFrom point (r ∷ rs) = (point ≤ r.header.point) × RiseFrom (r.header.point + 1) rs

before-more : (point : ℕ) (rs : List StateRecord) → AreBefore point rs → AreBefore (point + 1) rs
before-more point [] h = tt
before-more point (r ∷ rs) h = let less = h.0 in (omega (arith, less), before-more point rs h.1)

before-append : (point : ℕ) (rs : List StateRecord) (r : StateRecord) → AreBefore point rs → r.header.point < point → AreBefore point (rs ++ r ∷ [])
before-append point [] r h less = (less, tt)
before-append point (x ∷ xs) r h less = (h.0, before-append point xs r h.1 less)

abbrev of_point : ℕ → StateRecord → Bool
of_point point r = r.header.point == point

not-before : (point : ℕ) (front rest : List StateRecord) → AreBefore point front → find (of_point point) (front ++ rest) ≡ find (of_point point) rest
not-before point [] rest h = refl
not-before point (r ∷ rs) rest h =
    let less = h.0 in
    rw (ne_eqb r.header.point point (λ same. omega (arith, less, same))) (not-before point rs rest h.1)

not-behind : (point from : ℕ) (rs : List StateRecord) → RiseFrom from rs → point < from → find (of_point point) rs ≡ None
not-behind point from [] h less = refl
not-behind point from (r ∷ rs) h less =
    let low = h.0 in
    rw (ne_eqb r.header.point point (λ same. omega (arith, less, low, same))) (not-behind point (r.header.point + 1) rs h.1 (omega (arith, less, low)))

pub record-there : (t : Thread) (point : ℕ) (front : List StateRecord) (r : StateRecord) (rest : List StateRecord) → t.records ≡ front ++ r ∷ rest →
    AreBefore point front
    → r.header.point ≡ point → record_of t point ≡ Some r
record-there t point front r rest same before here =
    ap (find (of_point point)) same ∙ (not-before point front (r ∷ rest) before ∙ rw (eq-eqb r.header.point point here) refl)

pub no-record : (t : Thread) (point : ℕ) (front rest : List StateRecord) → t.records ≡ front ++ rest → AreBefore point front → RiseFrom (point + 1) rest →
    record_of t point ≡ None
no-record t point front rest same before behind =
    ap (find (of_point point)) same ∙ (not-before point front rest before ∙ not-behind point (point + 1) rest behind (omega arith))

-- ---- one word more

word-at : (front : List ℕ) (w : ℕ) (rest : List ℕ) → slice_index (front ++ w ∷ rest) (length front) ≡ w
word-at [] w rest = refl
word-at (x ∷ xs) w rest = word-at xs w rest

-- what is left of a thread's words and records behind some of its points
pub record Left (t : Thread) (point : ℕ) : Type 0 where
  pub words : List ℕ
  pub words_left : List ℕ
  pub all_words : t.words ≡ words ++ words_left
  pub reached : length words ≡ point
  pub records : List StateRecord
  pub records_left : List StateRecord
  pub all_records : t.records ≡ records ++ records_left
  pub before : AreBefore point records
  pub behind : RiseFrom point records_left

abbrev pub moved : (t : Thread) (a b : ℕ) → a ≡ b → Left t a → Left t b
moved t a b same left = record {
  words = left.words;
  words_left = left.words_left;
  all_words = left.all_words;
  reached = left.reached ∙ same;
  records = left.records;
  records_left = left.records_left;
  all_records = left.all_records;
  before = subst (λ k. AreBefore k left.records) same left.before;
  behind = subst (λ k. RiseFrom k left.records_left) same left.behind;
}

above : (a b : ℕ) → b ≤ a → (a == b) ≡ false → b + 1 ≤ a
above a b h e = grind (arith, nat_tests)

module _ (image : Image) (labels : List FoundLabels) (limits : IsFitting image) (ts : List Thread) (searched : length ts < length labels) (t : Thread) where
  abbrev pub standing : List ℕ → List StateRecord → Option StateRecord → Draft
  standing ws records next = inside image ts (opened t t.registers ws records next)

  pub at_point : (point : ℕ) → Left t point → Draft
  at_point point left = standing left.words left.records None

  module _ (count : ℕ) (fits : many_fit (record_format (slots_format image.header.objects) t.header.words) (λ r. r.header.point + 1) 0 count t.records ≡ true)
      (few : length t.words ≤ 65536) where
    -- the word of a point, behind what is noted of it
    word-goes : (number : ℕ) (ws : List ℕ) (w : ℕ) (rest : List ℕ) (records : List StateRecord) (next : Option StateRecord) → t.words ≡ ws ++ w ∷ rest
        → Goes labels number (standing ws records next) (line.Code None (code.Word (slice_index t.words (length ws))) ∷ [])
        (standing (ws ++ w ∷ []) (records ++ option_to_list next) None)
    word-goes number ws w rest records next same =
        let here : slice_index t.words (length ws) ≡ w = ap (λ xs. slice_index xs (length ws)) same ∙ word-at ws w rest in
        let long : length t.words ≡ length ws + length (w ∷ rest) = ap length same ∙ length-append ws (w ∷ rest) in
        one-more labels number (standing ws records next) (standing (ws ++ w ∷ []) (records ++ option_to_list next) None)
        (standing (ws ++ w ∷ []) (records ++ option_to_list next) None)
        (line.Code None (code.Word (slice_index t.words (length ws)))) []
        (searched, record { plain = tt; room = omega (arith, long, few) })
        (ap (λ k. standing (ws ++ k ∷ []) (records ++ option_to_list next) None) here)
        (nothing-more labels (next_number number) (standing (ws ++ w ∷ []) (records ++ option_to_list next) None)
        (standing (ws ++ w ∷ []) (records ++ option_to_list next) None) refl)

    -- the lines of a point without its label
    pub record Behind (point number : ℕ) (left : Left t point) : Type 0 where
      pub next : Left t (point + 1)
      pub goes : Goes labels number (standing left.words left.records None) (body_said t point) (standing next.words next.records None)

    longer : (ws : List ℕ) (w : ℕ) (point : ℕ) → length ws ≡ point → length (ws ++ w ∷ []) ≡ point + 1
    longer ws w point reached = let long = length-append ws (w ∷ []) in omega (arith, long, reached)

    without-record : (point number : ℕ) (left : Left t point) (w : ℕ) (rest : List ℕ) → left.words_left ≡ w ∷ rest → RiseFrom (point + 1) left.records_left →
        Behind point number left
    without-record point number left w rest here behind =
        let none = no-record t point left.records left.records_left left.all_records left.before behind in
        let words : t.words ≡ left.words ++ w ∷ rest = left.all_words ∙ ap (λ xs. left.words ++ xs) here in
        let goes = word-goes number left.words w rest left.records None words in
        record {
          next = record {
            words = left.words ++ w ∷ [];
            words_left = rest;
            all_words = words ∙ sym (append_assoc left.words (w ∷ []) rest);
            reached = longer left.words w point left.reached;
            records = left.records ++ [];
            records_left = left.records_left;
            all_records = left.all_records ∙ ap (λ rs. rs ++ left.records_left) (sym (append-nil left.records));
            before = subst (AreBefore (point + 1)) (sym (append-nil left.records)) (before-more point left.records left.before);
            behind = behind;
          };
          goes = subst (λ ls. Goes labels number (standing left.words left.records None) ls (standing (left.words ++ w ∷ []) (left.records ++ []) None))
              (ap (λ k. line.Code None (code.Word (slice_index t.words k)) ∷ []) left.reached
              ∙ ap (λ o. option_map_or record_said o [] ++ line.Code None (code.Word (slice_index t.words point)) ∷ []) (sym none))
              goes;
        }

    with-record : (point number : ℕ) (left : Left t point) (w : ℕ) (rest : List ℕ) (r : StateRecord) (rs : List StateRecord) → left.words_left ≡ w ∷ rest →
        left.records_left ≡ r ∷ rs
        → r.header.point ≡ point → RiseFrom (r.header.point + 1) rs → Behind point number left
    with-record point number left w rest r rs here first at behind =
        let all : t.records ≡ left.records ++ r ∷ rs = left.all_records ∙ ap (λ xs. left.records ++ xs) first in
        let some = record-there t point left.records r rs all left.before at in
        let words : t.words ≡ left.words ++ w ∷ rest = left.all_words ∙ ap (λ xs. left.words ++ xs) here in
        let long : length t.words ≡ length left.words + length (w ∷ rest) = ap length words ∙ length-append left.words (w ∷ rest) in
        let parts = record-parts image.header.objects t.header.words (least_behind (λ (x : StateRecord). x.header.point + 1) 0 left.records) r
        (fits-at (record_format (slots_format image.header.objects) t.header.words) (λ x. x.header.point + 1) 0 count t.records left.records r rs fits all) in
        let noted = record-goes image labels limits ts searched t left.words left.records r t.header.words
        (least_behind (λ (x : StateRecord). x.header.point + 1) 0 left.records) parts
        (left.reached ∙ sym at) (omega (arith, long, few)) number in
        let word = word-goes (number_behind number (record_said r)) left.words w rest left.records (Some r) words in
        let both = join labels number (standing left.words left.records None) (standing left.words left.records (Some r))
        (standing (left.words ++ w ∷ []) (left.records ++ r ∷ []) None)
        (record_said r) (line.Code None (code.Word (slice_index t.words (length left.words))) ∷ []) noted word in
        record {
          next = record {
            words = left.words ++ w ∷ [];
            words_left = rest;
            all_words = words ∙ sym (append_assoc left.words (w ∷ []) rest);
            reached = longer left.words w point left.reached;
            records = left.records ++ r ∷ [];
            records_left = rs;
            all_records = all ∙ sym (append_assoc left.records (r ∷ []) rs);
            before = before-append (point + 1) left.records r (before-more point left.records left.before) (omega (arith, at));
            behind = subst (λ k. RiseFrom (k + 1) rs) at behind;
          };
          goes = subst (λ ls. Goes labels number (standing left.words left.records None) ls (standing (left.words ++ w ∷ []) (left.records ++ r ∷ []) None))
              (ap (λ k. record_said r ++ line.Code None (code.Word (slice_index t.words k)) ∷ []) left.reached
              ∙ ap (λ o. option_map_or record_said o [] ++ line.Code None (code.Word (slice_index t.words point)) ∷ []) (sym some))
              both;
        }

    pub body-goes : (point number : ℕ) (left : Left t point) → point < length t.words → Behind point number left
    body-goes point number left inside_words = by left.words_left refl left.records_left refl left.behind
      where
        test : (w : ℕ) (rest : List ℕ) (r : StateRecord) (rs : List StateRecord) → left.words_left ≡ w ∷ rest → left.records_left ≡ r ∷ rs →
            point ≤ r.header.point
            → RiseFrom (r.header.point + 1) rs → (b : Bool) → (r.header.point == point) ≡ b → Behind point number left
        test w rest r rs here first low behind true e = with-record point number left w rest r rs here first (eqb-true r.header.point point e) behind
        test w rest r rs here first low behind false e =
            without-record point number left w rest here (subst (RiseFrom (point + 1)) (sym first) (above r.header.point point low e, behind))

        by : (ws : List ℕ) → left.words_left ≡ ws → (rs : List StateRecord) → left.records_left ≡ rs → RiseFrom point rs → Behind point number left
        by [] here rs first rise =
            absurd (let long : length t.words ≡ length left.words + length left.words_left = ap length left.all_words
            ∙ length-append left.words left.words_left in
            let none : length left.words_left ≡ 0 = ap length here in
            let reached = left.reached in
            omega (arith, long, none, reached, inside_words))
        by (w ∷ rest) here [] first rise = without-record point number left w rest here (subst (RiseFrom (point + 1)) (sym first) tt)
        by (w ∷ rest) here (r ∷ rs) first rise = test w rest r rs here first rise.0 rise.1 (r.header.point == point) refl

    -- the lines of points that are not the entry
    pub record Passed (from n number : ℕ) (left : Left t from) : Type 0 where
      pub next : Left t (from + n)
      pub goes : Goes labels number (standing left.words left.records None) (flat_map (point_said t) (range_with_len from n))
          (standing next.words next.records None)

    pub points-go : (from n number : ℕ) (left : Left t from) → from + n ≤ length t.words → ((k : ℕ) → from ≤ k → k < from + n → t.header.entry ≡ k → ⊥) →
        Passed from n number left
    points-go from zero number left short other =
        let same : from ≡ from + 0 = omega arith in
        record {
          next = moved t from (from + 0) same left;
          goes =
              nothing-more labels number (standing left.words left.records None) (standing left.words left.records None) refl;
        }
    points-go from (suc n) number left short other =
        let plain = point-plain t from (other from (omega arith) (omega arith)) in
        let one = body-goes from number left (omega (arith, short)) in
        let rest = points-go (from + 1) n (number_behind number (point_said t from)) one.next (omega (arith, short))
        (λ k low high. other k (omega (arith, low)) (omega (arith, high))) in
        let same : from + 1 + n ≡ from + suc n = omega arith in
        record {
          next = moved t (from + 1 + n) (from + suc n) same rest.next;
          goes = join labels number (standing left.words left.records None) (standing one.next.words one.next.records None)
              (standing rest.next.words rest.next.records None)
              (point_said t from) (flat_map (point_said t) (range_with_len (from + 1) n))
              (subst (λ ls. Goes labels number (standing left.words left.records None) ls (standing one.next.words one.next.records None)) (sym plain) one.goes)
              rest.goes;
        }
