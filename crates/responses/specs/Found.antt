-- What was found, in the terms of the laws on responses.
use Rattle.std.specs.Prelude.{ℕ, ◌==◌, false, find, map, List, Option, None, slice_get}
use Rattle.std.specs.Option.{option_map_or}
use Rattle.response.specs.Rates.{Rate}
use Rattle.response.specs.Responding.{OpenLine, Response}
use Rattle.response.specs.Weights.{Price, Weights}
use Rattle.responses.specs.Numbers.{mark_at, number_at}
use Rattle.responses.specs.Outlines.{place_in}
use Rattle.responses.specs.declared.bounds.Rate.{Rate as ListedRate}
use Rattle.responses.specs.declared.keepers.Keeper.{Keeper}
use Rattle.responses.specs.declared.outlines.Outline.{Outline}
use Rattle.responses.specs.declared.price.Price.{Price as ListedPrice}
use Rattle.responses.specs.declared.weights.Weights.{Weights as ListedWeights}

abbrev pub price_in : List ListedPrice → ℕ → ℕ
price_in prices object = option_map_or (λ p. p.price) (find (λ p. p.object == object) prices) 0

abbrev pub listed_price : ListedPrice → Price
listed_price p = record { object = p.object; price = p.price }

-- by the runs of each thread
abbrev pub weights_of : ListedWeights → Weights
weights_of w = record {
  prices = map listed_price w.prices;
  still = λ thread place. option_map_or (λ numbers. number_at numbers.items place) (slice_get w.still.items thread) 0;
}

-- and by its points
abbrev pub weights_at : List Outline → ListedWeights → Weights
weights_at outlines w = record {
  prices = map listed_price w.prices;
  still = λ thread point. (weights_of w).still thread (place_in outlines thread point);
}

-- who keeps a line, if somebody does
abbrev pub keeper_at : List (Option Keeper) → ℕ → Option Keeper
keeper_at keepers line = option_map_or (λ k. k) (slice_get keepers line) None

abbrev pub open_line : List Outline → List (Option Keeper) → ℕ → OpenLine
open_line outlines keepers number = record {
  line = number;
  marks = λ point. option_map_or (λ k. mark_at k.marks.items (place_in outlines k.thread point)) (keeper_at keepers number) false;
}

abbrev pub rate_of : ListedRate → Rate
rate_of r = record { line = r.line; burst = r.burst; period = r.period }

-- with what may be left at the start and at rest, and a number of steps
abbrev pub response_with : Weights → List ℕ → (ℕ → OpenLine) → List ℕ → ℕ → ℕ → Response
response_with w taken opened lines most steps = record {
  weights = w;
  taken = taken;
  open_lines = map opened lines;
  most = most;
  steps = steps;
}
