-- The test of a response, by what is seen of the threads of an image and of its lines.
use Rattle.std.specs.Prelude.{ℕ, ◌==◌, ◌+◌, ◌*◌, ◌/◌, ◌&&◌, ◌||◌, Bool, false, is_some, nat_le, not, nat_lt, List, Option, Some, None, if◌then◌else◌}
use Rattle.std.specs.List.{list_all, list_any, range_with_len}
use Rattle.response.specs.Asking.{Asked}
use Rattle.response.specs.Left.{total}
use Rattle.response.specs.Owed.{owes_at_most, step_fits}
use Rattle.responses.specs.Asks.{asked}
use Rattle.responses.specs.Edges.{pays_on}
use Rattle.responses.specs.Found.{keeper_at, price_in, weights_of}
use Rattle.responses.specs.Keepers.{high_at, is_high}
use Rattle.responses.specs.Lines.{bell_at}
use Rattle.responses.specs.Numbers.{is_among, number_at}
use Rattle.responses.specs.Outlines.{next_of, place_at}
use Rattle.responses.specs.Inputs.{input_at}
use Rattle.responses.specs.Seen.{asks_all, leads_so}
use Rattle.responses.specs.declared.bounds.Rate.{Rate}
use Rattle.responses.specs.declared.keepers.Keeper.{Keeper}
use Rattle.responses.specs.declared.lines.Bell.{Bell}
use Rattle.responses.specs.declared.outlines.Outline.{Outline}
use Rattle.responses.specs.declared.outlines.Run.{Run}
use Rattle.responses.specs.declared.price.Price.{Price}
use Rattle.responses.specs.declared.settled.Settled.{Settled}
use Rattle.responses.specs.declared.weights.Weights.{Weights}

-- ---- what lines cost

abbrev pub bell_price : List Price → Option Bell → ℕ
bell_price prices (Some bell) = price_in prices bell.notification
bell_price prices None = 0

abbrev pub price_of_line : List Price → List (Option Bell) → ℕ → ℕ
price_of_line prices bells line = bell_price prices (bell_at bells line)

abbrev pub is_rated : List Price → List (Option Bell) → List Rate → ℕ → Bool
is_rated prices bells rates line = (price_of_line prices bells line == 0) || list_any (λ r. r.line == line) rates

-- what the interrupts of the lines cost that come within so many steps
abbrev pub costs_seen : List Price → List (Option Bell) → List Rate → ℕ → ℕ
costs_seen prices bells rates steps = total (λ r. (r.burst + steps / r.period) * price_of_line prices bells r.line) rates

-- ---- the parts of the test

abbrev pub pay_all : Weights → ℕ → List Outline → Bool
pay_all w priority programs =
    list_all (λ p. not (is_high priority p) || leads_so (pays_on w p.number p.header.budget) p) programs

-- a thread of the level keeps the line, and waits for no message
abbrev pub is_alone_of : ℕ → List Outline → Option Keeper → Bool
is_alone_of priority programs (Some k) = k.is_alone && high_at programs priority k.thread
is_alone_of priority programs None = false

abbrev pub is_acknowledged : ℕ → List Outline → List (Option Keeper) → ℕ → Bool
is_acknowledged priority programs keepers line = is_alone_of priority programs (keeper_at keepers line)

-- what one step of each thread below sets going
abbrev pub fit_steps : ℕ → (ℕ → Bool) → (ℕ → ℕ) → ℕ → ℕ → List Outline → Bool
fit_steps priority is_taken price rest most programs =
    list_all (λ p. is_high priority p || asks_all (step_fits is_taken price rest most) p) programs

-- what a thread of the level has left where it starts
abbrev pub left_by : ℕ → Weights → Outline → ℕ
left_by priority w p = if is_high priority p then p.header.budget + (weights_of w).still p.number (place_at p p.header.entry) else 0

-- ---- messages

-- what a thread of the level runs and sets going once it goes on to this run from one at which it waited
abbrev pub going_to : ℕ → Weights → Outline → ℕ → ℕ
going_to priority w p next = if is_high priority p then p.header.budget + (weights_of w).still p.number next else 0

-- what it may wait with before that run is at most so much, where nobody waits to send to objects that are taken
abbrev pub owes_so : ℕ → Weights → List ℕ → List ℕ → Outline → ℕ → Asked → Bool
owes_so priority w taken owed p next asked =
    owes_at_most (weights_of w) (is_among taken) (is_high priority p) (going_to priority w p next) (number_at owed p.number) asked

-- at the end of a run, if it is clear
abbrev pub run_owes : ℕ → Weights → List ℕ → List ℕ → Outline → Run → Bool
run_owes priority w taken owed p r = r.is_clear && owes_so priority w taken owed p (next_of r) (asked r.ask)

-- so of each thread that is not settled
abbrev pub owe_all : ℕ → Weights → Settled → List ℕ → List ℕ → List Outline → Bool
owe_all priority w s taken owed programs =
    list_all (λ p. is_some (input_at s.inputs.items p.number) || list_all (run_owes priority w taken owed p) p.runs.items) programs

-- ---- what may be left at rest

-- words where nobody rests, lines that are not dealt with, and what threads wait with
abbrev pub rest_seen : Weights → List ℕ → List ℕ → List ℕ → List Outline → List (Option Bell) → ℕ
rest_seen w taken lines owed programs bells =
    total (λ p. if is_among taken p.object then 0 else p.price) w.prices
    + total (λ line. if is_among lines line then 0 else price_of_line w.prices bells line) (range_with_len 0 64)
    + total (λ p. number_at owed p.number) programs

-- ---- the whole

-- rates of lines that there are, and what comes from below, at what may be left at rest and what interrupts cost
abbrev pub sums_fit : ℕ → List Rate → Weights → List ℕ → List Outline → List (Option Bell) → ℕ → ℕ → ℕ → ℕ → Bool
sums_fit priority rates w taken programs bells rest costs most steps =
    fit_steps priority (is_among taken) (price_in w.prices) rest most programs
    && (list_all (is_rated w.prices bells rates) (range_with_len 0 64)
    && (list_all (λ r. nat_lt r.line 64) rates && (nat_le rest most && nat_le (most + costs) steps)))
