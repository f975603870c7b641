-- What the code asks of weights at a point is what the laws ask.
use Rattle.std.proofs.Common.{ℕ, ◌≡◌, ◌∙◌, ◌+◌, ◌==◌, ◌&&◌, ◌||◌, Bool, true, false, if◌then◌else◌, List, refl, sym, ap}
use Rattle.std.specs.Prelude.{nat_le}
use Rattle.response.specs.Asking as is
use Rattle.response.specs.Asking.{Asked}
use Rattle.response.specs.Owed.{pays_answer}
use Rattle.response.specs.Weights.{pays_for, price_of}
use Rattle.responses.proofs.Lists.{and-true}
use Rattle.responses.proofs.Priced.{price-same}
use Rattle.responses.specs.Asks.{asked}
use Rattle.responses.specs.Checks.{going_to, owes_so, run_owes}
use Rattle.responses.specs.Edges.{pays_wholly}
use Rattle.responses.specs.Found.{price_in, weights_of}
use Rattle.responses.specs.Keepers.{is_high}
use Rattle.responses.specs.Numbers.{is_among, number_at}
use Rattle.responses.specs.Outlines.{next_of}
use Rattle.responses.specs.declared.asks.Ask.{Ask}
use Rattle.responses.specs.declared.asks.Ask.TheVariants.{Takes, Rings, Accepts, SendsTo, Calls, Tries}
use Rattle.responses.specs.declared.outlines.Outline.{Outline}
use Rattle.responses.specs.declared.outlines.Run.{Run}
use Rattle.responses.specs.declared.weights.Weights.{Weights}

either-way : (b x : Bool) → ((if b then true else x) && x) ≡ x
either-way true x = refl
either-way false true = refl
either-way false false = refl

-- of a thread with this budget, from a point to another, where an object costs this
module _ (w : Weights) (budget here next : ℕ) (ask : Ask) (o price : ℕ) (costs : price ≡ price_in w.prices o) (r : Bool) where
  law-price : price ≡ price_of (weights_of w) o
  law-price = costs ∙ sym (price-same w o)

  -- nothing is asked for an answer
  plain : (a : Asked) → asked ask ≡ a → r ≡ pays_for (weights_of w) budget here next a → pays_answer (weights_of w) budget here next a ≡ true
      → r ≡ pays_wholly (weights_of w) budget here next (asked ask)
  plain a same paid none =
      paid ∙ sym (and-true (pays_for (weights_of w) budget here next a)) ∙ ap (λ b. pays_for (weights_of w) budget here next a && b) (sym none)
      ∙ ap (pays_wholly (weights_of w) budget here next) (sym same)

  pub takes-so : ask ≡ Takes o → r ≡ nat_le (budget + next) price → r ≡ pays_wholly (weights_of w) budget here next (asked ask)
  takes-so same paid = plain (is.Takes o) (ap asked same) (paid ∙ ap (nat_le (budget + next)) law-price) refl

  pub accepts-so : (replies : Bool) → ask ≡ Accepts o replies → r ≡ nat_le (budget + next) price
      → r ≡ pays_wholly (weights_of w) budget here next (asked ask)
  accepts-so replies same paid = plain (is.Accepts o replies) (ap asked same) (paid ∙ ap (nat_le (budget + next)) law-price) refl

  pub rings-so : ask ≡ Rings o → r ≡ nat_le (price + next) here → r ≡ pays_wholly (weights_of w) budget here next (asked ask)
  rings-so same paid = plain (is.Rings o) (ap asked same) (paid ∙ ap (λ n. nat_le (n + next) here) law-price) refl

  pub tries-so : ask ≡ Tries o → r ≡ nat_le (price + next) here → r ≡ pays_wholly (weights_of w) budget here next (asked ask)
  tries-so same paid = plain (is.Tries o) (ap asked same) (paid ∙ ap (λ n. nat_le (n + next) here) law-price) refl

  pub sends-so : ask ≡ SendsTo o → r ≡ nat_le (price + budget + next) here → r ≡ pays_wholly (weights_of w) budget here next (asked ask)
  sends-so same paid = plain (is.SendsTo o) (ap asked same) (paid ∙ ap (λ n. nat_le (n + budget + next) here) law-price) refl

  pub calls-so : ask ≡ Calls o → r ≡ nat_le (price + budget + next) here → r ≡ pays_wholly (weights_of w) budget here next (asked ask)
  calls-so same paid =
      paid ∙ ap (λ n. nat_le (n + budget + next) here) law-price
      ∙ sym (either-way (price_of (weights_of w) o == 0) (nat_le (price_of (weights_of w) o + budget + next) here))
      ∙ ap (λ (a : Ask). pays_wholly (weights_of w) budget here next (asked a)) (sym same)

-- what a thread may wait with before a point
module _ (priority : ℕ) (w : Weights) (taken owed : List ℕ) (p : Outline) (next : ℕ) (ask : Ask) (o : ℕ) (r : Bool) where
  pub sent-so : ask ≡ SendsTo o
      → r ≡ (is_among taken o || nat_le (price_in w.prices o + going_to priority w p next) (number_at owed p.number))
      → r ≡ owes_so priority w taken owed p next (asked ask)
  sent-so same fits =
      fits ∙ ap (λ n. is_among taken o || nat_le (n + going_to priority w p next) (number_at owed p.number)) (sym (price-same w o))
      ∙ ap (λ (a : Ask). owes_so priority w taken owed p next (asked a)) (sym same)

  pub called-so : (price : ℕ) → price ≡ (if is_among taken o then 0 else price_in w.prices o) → ask ≡ Calls o
      → r ≡ nat_le (price + going_to priority w p next) (number_at owed p.number) → r ≡ owes_so priority w taken owed p next (asked ask)
  called-so price costs same fits =
      fits
      ∙ ap (λ n. nat_le (n + going_to priority w p next) (number_at owed p.number))
      (costs ∙ ap (λ n. if is_among taken o then 0 else n) (sym (price-same w o)))
      ∙ ap (λ (a : Ask). owes_so priority w taken owed p next (asked a)) (sym same)

  pub tried-so : ask ≡ Tries o → r ≡ (is_high priority p || is_among taken o || nat_le (price_in w.prices o) (number_at owed p.number))
      → r ≡ owes_so priority w taken owed p next (asked ask)
  tried-so same fits =
      fits ∙ ap (λ n. is_high priority p || is_among taken o || nat_le n (number_at owed p.number)) (sym (price-same w o))
      ∙ ap (λ (a : Ask). owes_so priority w taken owed p next (asked a)) (sym same)

-- at the end of a run, which is clear
pub run-so : (priority : ℕ) (w : Weights) (taken owed : List ℕ) (p : Outline) (run : Run) (next : ℕ) (r : Bool) → run.is_clear ≡ true
    → next ≡ next_of run → r ≡ owes_so priority w taken owed p next (asked run.ask) → r ≡ run_owes priority w taken owed p run
run-so priority w taken owed p run next r clear same fits =
    fits ∙ ap (λ n. owes_so priority w taken owed p n (asked run.ask)) same
    ∙ ap (λ b. b && owes_so priority w taken owed p (next_of run) (asked run.ask)) (sym clear)
