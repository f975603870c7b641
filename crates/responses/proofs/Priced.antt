-- Prices and lines as they were found, in the terms of the laws.
use Rattle.std.proofs.Common.{ℕ, ◌≡◌, ◌∙◌, ◌+◌, ◌*◌, ◌/◌, ◌==◌, ◌<◌, ◌≤◌, ◌&&◌, ◌||◌, Bool, true, false, if◌then◌else◌}
use Rattle.std.proofs.Common.{Option, Some, None, option_map, List, [], ◌∷◌, map}
use Rattle.std.proofs.Common.{refl, sym, ap, subst, arith}
use Rattle.std.specs.Prelude.{find, nat_le, nat_lt, slice_get}
use Rattle.std.specs.List.{list_all, list_any, range_with_len}
use Rattle.std.specs.Option.{option_map_or}
use Rattle.std.proofs.lemmas.Bool.{eq-eqb, eqb-true}
use Rattle.std.proofs.lemmas.Bool.Decides.{nat_tests}
use Rattle.std.proofs.lemmas.List.Folds.{list_all-map}
use Rattle.std.proofs.lemmas.Option.{slice_get_within}
use Rattle.model.specs.Acceptance.Accepted.{IsWellFormed}
use Rattle.model.specs.Images.Described.{described}
use Rattle.model.specs.Images.Image.{Image, whole_image}
use Rattle.model.specs.Kernel.Interrupts.{Signal, binding}
use Rattle.model.specs.Shared.Lists.{times_in}
use Rattle.model.specs.declared.entries.InterruptEntry.{InterruptEntry}
use Rattle.response.specs.Left.{irq_lines, line_price, total}
use Rattle.response.specs.Rates.{cost_of, costs_within}
use Rattle.response.specs.Responding.{are_priced, have_rates}
use Rattle.response.specs.Weights.{price_of}
use Rattle.responses.proofs.Bindings.{binding-is}
use Rattle.responses.proofs.Lists.{all-below, got}
use Rattle.responses.proofs.Rising.{each-priced}
use Rattle.responses.proofs.Totals.{below-at, range-same, total-least, total-map, total-where}
use Rattle.responses.specs.Checks.{bell_price, is_rated, price_of_line}
use Rattle.responses.specs.Found.{listed_price, price_in, rate_of, weights_at, weights_of}
use Rattle.responses.specs.Lines.{AreBells, bell_for}
use Rattle.responses.specs.declared.bounds.Rate.{Rate}
use Rattle.responses.specs.declared.lines.Bell.{Bell}
use Rattle.responses.specs.Prices.{Rise}
use Rattle.responses.specs.declared.outlines.Outline.{Outline}
use Rattle.responses.specs.declared.price.Price.{Price}
use Rattle.responses.specs.declared.weights.Weights.{Weights}

-- ---- prices

pub objects-same : (ps : List Price) → map (λ q. q.object) (map listed_price ps) ≡ map (λ q. q.object) ps
objects-same [] = refl
objects-same (p ∷ ps) = ap (λ (l : List ℕ). p.object ∷ l) (objects-same ps)

pub price-same : (w : Weights) (object : ℕ) → price_of (weights_of w) object ≡ price_in w.prices object
price-same w object = in-list w.prices
  where
    in-list : (ps : List Price) → option_map_or (λ p. p.price) (find (λ p. p.object == object) (map listed_price ps)) 0 ≡ price_in ps object
    in-list [] = refl
    in-list (p ∷ ps) =
        elim (p.object == object) as (λ b. option_map_or (λ q. q.price)
        (if b then Some (listed_price p) else find (λ q. q.object == object) (map listed_price ps)) 0
        ≡ option_map_or (λ q. q.price) (if b then Some p else find (λ q. q.object == object) ps) 0) [
          | true ↦ refl
          | false ↦ in-list ps
        ]

pub priced-so : (programs : List Outline) (w : Weights) → Rise w.prices → are_priced (weights_at programs w) ≡ true
priced-so programs w rise =
    let ps = w.prices in
    list_all-map (λ p. (times_in (map (λ q. q.object) (map listed_price ps)) p.object == 1) && (price_of (weights_of w) p.object == p.price)) listed_price ps
    ∙ (λ i. list_all (λ (p : Price). (times_in (objects-same ps i) p.object == 1) && (price-same w p.object i == p.price)) ps) ∙ each-priced ps rise

-- ---- rates

pub at-most : (m n : ℕ) → m ≤ n → nat_le m n ≡ true
at-most m n less = grind (arith, nat_tests)

covered : (cost : ℕ → ℕ) (rates : List Rate) (k : ℕ) → list_any (λ r. r.line == k) rates ≡ true → cost k ≤ cost_of (map rate_of rates) cost k
covered cost rates k some =
    subst (λ n. cost k ≤ n) (sym (total-map (λ r. if k == r.line then cost r.line else 0) rate_of rates))
    (total-least (λ r. r.line == k) (λ r. if k == r.line then cost r.line else 0) (cost k) one rates some)
  where
    one : (r : Rate) → (r.line == k) ≡ true → cost k ≤ (if k == r.line then cost r.line else 0)
    one r is =
        let same = eqb-true r.line k is in
        let itself : (k == r.line) ≡ true = eq-eqb k r.line (sym same) in
        let value : (if k == r.line then cost r.line else 0) ≡ cost k = ap (λ b. if b then cost r.line else 0) itself ∙ ap cost same in
        omega (arith, value)

-- ---- lines

abbrev pub signal_by : Bell → Signal
signal_by bell = record { notification = bell.notification; badge = bell.badge }

module _ (image : Image) (fits : whole_image.fits image ≡ true) (well : IsWellFormed image) (bells : List (Option Bell)) (are : AreBells image bells) where
  -- what a line signals
  pub bound-is : (line : ℕ) (bell : Option Bell) → slice_get bells line ≡ Some bell → binding (described image) line ≡ option_map signal_by bell
  bound-is line bell at =
      let less = slice_get_within bells line bell at in
      let long = are.long in
      binding-is image fits well line (omega (arith, less, long)) ∙ by-found (find (λ i. i.line == line) image.interrupts) bell (are.each line bell at)
    where
      by-found : (found : Option InterruptEntry) (b : Option Bell) → b ≡ option_map (bell_for image) found →
          option_map (λ (i : InterruptEntry). signal_by (bell_for image i)) found ≡ option_map signal_by b
      by-found None b is = ap (option_map signal_by) (sym is)
      by-found (Some i) b is = ap (option_map signal_by) (sym is)

  pub line-price : (w : Weights) (line : ℕ) → line < 64 → line_price (weights_of w) (described image) line ≡ price_of_line w.prices bells line
  line-price w line less =
      let long = are.long in
      let found = got bells line (omega (arith, less, long)) in
      ap (λ (b : Option Signal). option_map_or (λ bound. price_of (weights_of w) bound.notification) b 0) (bound-is line found.0 found.1)
      ∙ by-bell found.0 ∙ ap (λ (b : Option (Option Bell)). bell_price w.prices (option_map_or (λ (o : Option Bell). o) b None)) (sym found.1)
    where
      by-bell : (b : Option Bell) → option_map_or (λ bound. price_of (weights_of w) bound.notification) (option_map signal_by b) 0
          ≡ bell_price w.prices b
      by-bell None = refl
      by-bell (Some bell) = price-same w bell.notification

  -- each line that costs something has a rate
  pub rated-so : (w : Weights) (rates : List Rate) → list_all (is_rated w.prices bells rates) (range_with_len 0 64) ≡ true
      → have_rates image (weights_of w) (map rate_of rates) ≡ true
  unfolding irq_lines
  rated-so w rates all =
      all-below (λ number. nat_le (cost number) (cost_of (map rate_of rates) cost number)) 64
      (λ k less. one k less (below-at (is_rated w.prices bells rates) 64 k all less))
    where
      cost : ℕ → ℕ
      cost = line_price (weights_of w) (described image)

      one : (k : ℕ) → k < 64 → is_rated w.prices bells rates k ≡ true → nat_le (cost k) (cost_of (map rate_of rates) cost k) ≡ true
      one k less is =
          elim (price_of_line w.prices bells k == 0) as (λ b. (price_of_line w.prices bells k == 0) ≡ b
          → (b || list_any (λ r. r.line == k) rates) ≡ true
          → nat_le (cost k) (cost_of (map rate_of rates) cost k) ≡ true) [
            | true ↦ λ none _.
                let nothing : cost k ≡ 0 = line-price w k less ∙ eqb-true (price_of_line w.prices bells k) 0 none in
                at-most (cost k) (cost_of (map rate_of rates) cost k) (omega (arith, nothing))
            | false ↦ λ _ some. at-most (cost k) (cost_of (map rate_of rates) cost k) (covered cost rates k some)
          ] refl is

  -- what comes within so many steps
  pub costs-same : (w : Weights) (rates : List Rate) (steps : ℕ) → list_all (λ r. nat_lt r.line 64) rates ≡ true
      → costs_within (map rate_of rates) (line_price (weights_of w) (described image)) steps
      ≡ total (λ r. (r.burst + steps / r.period) * price_of_line w.prices bells r.line) rates
  costs-same w rates steps all =
      total-map (λ r. (r.burst + steps / r.period) * line_price (weights_of w) (described image) r.line) rate_of rates
      ∙ total-where (λ r. nat_lt r.line 64) (λ r. (r.burst + steps / r.period) * line_price (weights_of w) (described image) r.line)
      (λ r. (r.burst + steps / r.period) * price_of_line w.prices bells r.line)
      (λ r is. ap (λ n. (r.burst + steps / r.period) * n) (line-price w r.line (below r.line is))) rates all
    where
      below : (n : ℕ) → nat_lt n 64 ≡ true → n < 64
      below n is = grind (arith, nat_tests)

  -- lines that may be pending at rest
  pub lines-same : (w : Weights) (is_open : ℕ → Bool)
      → total (λ number. if is_open number then 0 else line_price (weights_of w) (described image) number) irq_lines
      ≡ total (λ line. if is_open line then 0 else price_of_line w.prices bells line) (range_with_len 0 64)
  unfolding irq_lines
  lines-same w is_open =
      range-same (λ number. if is_open number then 0 else line_price (weights_of w) (described image) number)
      (λ line. if is_open line then 0 else price_of_line w.prices bells line) 0 64
      (λ k less. ap (λ n. if is_open k then 0 else n) (line-price w k (omega (arith, less))))
