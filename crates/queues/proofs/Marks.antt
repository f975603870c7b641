-- The highest priority that is marked, and who is the first at it.
use Rattle.std.proofs.Common.{ℕ, zero, suc, ◌≡◌, ◌≢◌, ◌∙◌, ◌==◌, ◌+◌, ◌*◌, ◌/◌, ◌%◌, ◌^◌, ◌<◌, ◌≤◌, inl, inr, true, false, Option, Some, None, is_some, List}
use Rattle.std.proofs.Common.{length, replicate, set, slice_index, refl, sym, ap, arith}
use Rattle.std.proofs.Common.{pow_pos, div-lt_iff_lt-mul, le-div_iff_mul-le}
use Rattle.std.proofs.Math.Nat.{two-pow-succ}
use Rattle.std.specs.Int.{bit_at}
use Rattle.std.specs.Option.{option_map_or}
use Rattle.std.proofs.lemmas.Bool.Decides.{eqb_tells}
use Rattle.std.proofs.lemmas.Bool.{cases_lt}
use Rattle.std.proofs.lemmas.List.{get_or-replicate, get_or-set_other, get_or-set_same, get_or_past, length-replicate, length-set}
use Rattle.std.proofs.lemmas.Nat.Bits.{bit_at-zero, bit_at_above}
use Rattle.model.specs.Kernel.Scheduling.{first_below, head_of}
use Rattle.queues.specs.links.Threaded.{linked}
use Rattle.queues.specs.Layout.{Places}
use Rattle.queues.specs.Ready.{AreMarked, IsHighest, IsTop, ends_of, is_marked, nobody, ready_in, ready_of}
use Rattle.queues.specs.declared.words.Ends.{Ends}

-- ---- the highest bit

top-bit : (word k : ℕ) → 2 ^ k ≤ word → word < 2 * 2 ^ k → bit_at word k ≡ 1
top-bit word k low high =
    let some = pow_pos k in
    let few : word / 2 ^ k < 2 = (div-lt_iff_lt-mul some).1 high in
    let least : 1 ≤ word / 2 ^ k = (le-div_iff_mul-le some).1 (omega (arith, low)) in
    omega (arith, few, least)

above-top : (word k i : ℕ) → word < 2 * 2 ^ k → k < i → bit_at word i ≡ 0
above-top word k i high above = bit_at_above word (suc k) i (omega (arith, high, two-pow-succ k)) (omega (arith, above))

-- the mark of a priority in a word
mark-is : (marks : List ℕ) (number word place : ℕ) → slice_index marks number ≡ word → place < 64 →
    is_marked marks (64 * number + place) ≡ (bit_at word place == 1)
mark-is marks number word place is low =
    ap (λ n. bit_at (slice_index marks n) ((64 * number + place) % 64) == 1) (omega (arith, low))
    ∙ ap (λ n. bit_at (slice_index marks number) n == 1) (omega (arith, low))
    ∙ ap (λ w. bit_at w place == 1) is

place-is : (number other : ℕ) → 64 * number ≤ other → other < 64 * (number + 1) → (place : ℕ) × (other ≡ 64 * number + place) × (place < 64)
place-is number other from below = (other % 64, omega (arith, from, below), omega arith)

mark-clear : (marks : List ℕ) (number word place : ℕ) → slice_index marks number ≡ word → place < 64 → bit_at word place ≡ 0 →
    is_marked marks (64 * number + place) ≡ false
mark-clear marks number word place is low none = mark-is marks number word place is low ∙ ap (λ b. b == 1) none

pub empty-word : (marks : List ℕ) (number : ℕ) (below : Option ℕ) → slice_index marks number ≡ 0 → IsHighest (64 * number) marks below →
    IsHighest (64 * (number + 1)) marks below
empty-word marks number below none known =
    let clear : (other : ℕ) → 64 * number ≤ other → other < 64 * (number + 1) → is_marked marks other ≡ false = λ other from under.
    let at = place-is number other from under in
    ap (is_marked marks) at.1 ∙ mark-clear marks number 0 at.0 none at.2 (bit_at-zero at.0) in
    elim below as (λ b. IsHighest (64 * number) marks b → IsHighest (64 * (number + 1)) marks b) [
      | None ↦ λ all other under. elim (cases_lt other (64 * number)) [ inl less ↦ all other less | inr least ↦ clear other least under ]
      | Some priority ↦ λ top. record {
        below = omega (arith, top.below);
        marked = top.marked;
        rest = λ other above under. elim (cases_lt other (64 * number)) [ inl less ↦ top.rest other above less | inr least ↦ clear other least under ];
      }
    ] known

pub highest-bit : (marks : List ℕ) (number word bit : ℕ) → slice_index marks number ≡ word → bit < 64 → 2 ^ bit ≤ word → word < 2 * 2 ^ bit
    → IsTop (64 * (number + 1)) marks (64 * number + bit)
highest-bit marks number word bit is low from below = record {
  below = omega (arith, low);
  marked = mark-is marks number word bit is low ∙ ap (λ b. b == 1) (top-bit word bit from below);
  rest = λ other above under.
      let at = place-is number other (omega (arith, above)) under in
      ap (is_marked marks) at.1 ∙ mark-clear marks number word at.0 is at.2 (above-top word bit at.0 below (omega (arith, above, at.1)));
}

-- ---- nobody is ready

pub none-there : (size priority : ℕ) → ends_of (replicate size nobody) priority ≡ nobody
none-there size priority = elim (cases_lt priority size) [
  | inl inside ↦ get_or-replicate size priority nobody nobody inside
  | inr past ↦ get_or_past (replicate size nobody) priority nobody (omega (arith, past, length-replicate {A = Ends} size nobody))
]

pub none-marked : AreMarked (replicate 256 nobody) (replicate 4 0)
none-marked = record {
  long = length-replicate {A = Ends} 256 nobody;
  bits = λ priority low.
      ap (λ w. bit_at w (priority % 64) == 1) (get_or-replicate 4 (priority / 64) 0 0 (omega (arith, low)))
      ∙ ap (λ b. b == 1) (bit_at-zero (priority % 64))
      ∙ sym (ap (λ (e : Ends). is_some e.first) (none-there 256 priority));
}

-- a priority has other ends, and its mark with them
pub marked-put : (ends : List Ends) (marks new : List ℕ) (priority : ℕ) (e : Ends) → AreMarked ends marks → priority < 256 →
    is_marked new priority ≡ is_some e.first
    → ((other : ℕ) → other ≢ priority → is_marked new other ≡ is_marked marks other) → AreMarked (set ends priority e) new
marked-put ends marks new priority e known low own others = record {
  long = length-set ends priority e ∙ known.long;
  bits = λ other below. elim (eqb_tells other priority) [
    | inl same ↦
        ap (is_marked new) same.1 ∙ own
        ∙ sym (ap (λ (x : Ends). is_some x.first) (ap (ends_of (set ends priority e)) same.1
        ∙ get_or-set_same ends priority e nobody (omega (arith, low, known.long))))
    | inr apart ↦
        others other apart.1 ∙ known.bits other below
        ∙ sym (ap (λ (x : Ends). is_some x.first) (get_or-set_other ends priority other e nobody apart.1))
  ];
}

-- ---- the first thread of the highest priority

pub ready-first : (places : Places) (ends : List Ends) (m : List ℕ) (priority : ℕ) → head_of (ready_of places ends m priority) ≡ (ends_of ends priority).first
unfolding ready_of
ready-first places ends m priority =
    elim (ends_of ends priority).first as (λ o. head_of (linked (ready_in places ends m).next (suc (length m)) o) ≡ o) [ None ↦ refl | Some x ↦ refl ]

none-below : (bound : ℕ) (ready : ℕ → List ℕ) → ((priority : ℕ) → priority < bound → head_of (ready priority) ≡ None) → first_below bound ready ≡ None
unfolding first_below
none-below zero ready empty = refl
none-below (suc n) ready empty =
    ap (λ h. option_map_or Some h (first_below n ready)) (empty n (omega arith)) ∙ none-below n ready (λ priority less. empty priority (omega (arith, less)))

head-below : (bound : ℕ) (ready : ℕ → List ℕ) (priority thread : ℕ) → priority < bound → head_of (ready priority) ≡ Some thread
    → ((greater : ℕ) → priority < greater → greater < bound → head_of (ready greater) ≡ None) → first_below bound ready ≡ Some thread
unfolding first_below
head-below zero ready priority thread below head empty = absurd (omega (arith, below))
head-below (suc n) ready priority thread below head empty = elim (eqb_tells priority n) [
  | inl same ↦ ap (λ h. option_map_or Some h (first_below n ready)) (ap (λ q. head_of (ready q)) (sym same.1) ∙ head)
  | inr apart ↦
      let less : priority < n = omega (arith, below, apart.1) in
      ap (λ h. option_map_or Some h (first_below n ready)) (empty n less (omega arith))
      ∙ head-below n ready priority thread less head (λ greater above under. empty greater above (omega (arith, under)))
]

clear-none : (o : Option ℕ) → is_some o ≡ false → o ≡ None
clear-none None clear = refl
clear-none (Some x) clear = absurd (let clash : true ≡ false = clear in cc)

marked-some : (o : Option ℕ) → is_some o ≡ true → (x : ℕ) × (o ≡ Some x)
marked-some None marked = absurd (let clash : false ≡ true = marked in cc)
marked-some (Some x) marked = (x, refl)

clear-head : (places : Places) (ends : List Ends) (m marks : List ℕ) (priority : ℕ) → AreMarked ends marks → priority < 256 → is_marked marks priority ≡ false
    → head_of (ready_of places ends m priority) ≡ None
clear-head places ends m marks priority known low clear =
    ready-first places ends m priority ∙ clear-none (ends_of ends priority).first (sym (known.bits priority low) ∙ clear)

pub nobody-first : (places : Places) (ends : List Ends) (m marks : List ℕ) → AreMarked ends marks → IsHighest 256 marks None →
    None ≡ first_below 256 (ready_of places ends m)
nobody-first places ends m marks known none =
    sym (none-below 256 (ready_of places ends m) (λ priority low. clear-head places ends m marks priority known low (none priority low)))

pub top-first : (places : Places) (ends : List Ends) (m marks : List ℕ) (priority : ℕ) → AreMarked ends marks → IsTop 256 marks priority
    → (ends_of ends priority).first ≡ first_below 256 (ready_of places ends m)
top-first places ends m marks priority known top =
    let some = marked-some (ends_of ends priority).first (sym (known.bits priority top.below) ∙ top.marked) in
    some.1 ∙ sym (head-below 256 (ready_of places ends m) priority some.0 top.below (ready-first places ends m priority ∙ some.1)
    (λ greater above under. clear-head places ends m marks greater known under (top.rest greater above under)))
