-- A response: weights, what rests with the level, and for how many steps on end it runs; and one test of all that the bound rests on. It reads
-- the image alone.
use Rattle.std.specs.Prelude.{ℕ, ◌≡◌, ◌==◌, ◌+◌, ◌-◌, ◌/◌, ◌<◌, ◌++◌, ◌&&◌, ◌||◌, Bool, true, false, nat_le, not, map, All, List, [], ◌∷◌, Option, Some, None}
use Rattle.std.specs.List.{list_all, list_any, range_with_len}
use Rattle.model.specs.declared.events.Event.{Event}
use Rattle.model.specs.declared.events.Event.TheVariants.{Step}
use Rattle.model.specs.Acceptance.Accepted.{IsAccepted}
use Rattle.model.specs.Acceptance.Devices.{KeepsDevices}
use Rattle.model.specs.Acceptance.NotedStates.{PointState}
use Rattle.model.specs.Acceptance.PointRules.{edges_at}
use Rattle.model.specs.Acceptance.PointStates.{instruction_at, noted}
use Rattle.model.specs.Acceptance.ThreadInvariants.{tcb_of}
use Rattle.model.specs.Images.Described.{Numbered, described, numbered_threads}
use Rattle.model.specs.Images.Image.{Image}
use Rattle.model.specs.Kernel.Interrupts.{Signal, binding}
use Rattle.model.specs.Kernel.Steps.{state_after, step}
use Rattle.model.specs.Shared.Lists.{times_in}
use Rattle.response.specs.Asking.{Asked, Takes, Polls, Rings, Acknowledges, Accepts, Looks, SendsTo, Calls, Tries, Answers, Asks_nothing, asked_at}
use Rattle.response.specs.DealtWith.{HoldsWithin, IsDealtWith}
use Rattle.response.specs.Left.{at_rest, irq_lines, left, line_price}
use Rattle.response.specs.Levels.{KeepsLevel, KeepsLevelOnceRested, is_level_label, is_of_level}
use Rattle.response.specs.Rates.{Keeps, Rate, cost_of, costs_within, steps_in}
use Rattle.response.specs.Resting.{IsAcknowledged, marks_for}
use Rattle.response.specs.Weights.{Weights, pays_for, price_of, waits_for_notifications_alone, where_known}

-- a line that is acknowledged, and the points of its thread that are marked
pub record OpenLine : Type 0 where
  pub line : ℕ
  pub marks : ℕ → Bool

pub record Response : Type 0 where
  pub weights : Weights
  -- the notifications at which a thread rests that takes from nothing else
  pub taken : List ℕ
  pub open_lines : List OpenLine
  -- what may be left at the start and at rest
  pub most : ℕ
  -- so many steps on end
  pub steps : ℕ

abbrev pub is_taken_by : Response → ℕ → Bool
is_taken_by r object = list_any (λ o. o == object) r.taken

abbrev pub is_open_by : Response → ℕ → Bool
is_open_by r number = list_any (λ l. l.line == number) r.open_lines

-- ---- over the points of a program

-- at each point that has a state
abbrev pub at_each : Image → Numbered → (ℕ → PointState → Bool) → Bool
at_each image t test = list_all (λ point. where_known (test point) (noted image t point)) (range_with_len 0 t.thread.header.words)

-- by what the point asks
abbrev pub asks_each : Image → Numbered → (Asked → Bool) → Bool
asks_each image t test = at_each image t (λ point state. test (asked_at image t.thread point state))

-- by what it asks, from it to each point that an edge leads to
abbrev pub over_edges : Image → Numbered → (Asked → ℕ → ℕ → Bool) → Bool
over_edges image t test =
    at_each image t (λ point state.
    list_all (λ edge. test (asked_at image t.thread point state) point ((edge.target - t.thread.header.base) / 4))
    (edges_at image t point state (instruction_at t.thread point)))

-- ---- weights

abbrev pub are_priced : Weights → Bool
are_priced w = list_all (λ p. (times_in (map (λ q. q.object) w.prices) p.object == 1) && (price_of w p.object == p.price)) w.prices

abbrev pub pay_for_level : Image → ℕ → Weights → Bool
pay_for_level image priority w =
    list_all (λ t. not (is_of_level priority t)
    || over_edges image t (λ asked here next. pays_for w t.thread.header.budget (w.still t.number here) (w.still t.number next) asked))
    (numbered_threads image)

-- ---- what rests

-- waits for no message, and takes from this notification if from any
abbrev pub takes_only : ℕ → Asked → Bool
takes_only queue (Takes o) = o == queue
takes_only queue (Polls o) = true
takes_only queue (Rings o) = true
takes_only queue (Acknowledges irq_line) = true
takes_only queue (Accepts o replies) = false
takes_only queue (Looks o) = true
takes_only queue (SendsTo o) = false
takes_only queue (Calls o) = false
takes_only queue (Tries o) = true
takes_only queue Answers = true
takes_only queue Asks_nothing = true

abbrev pub rests_at : Image → ℕ → ℕ → Bool
rests_at image priority queue = list_any (λ t. is_of_level priority t && asks_each image t (takes_only queue)) (numbered_threads image)

-- does not poll this notification, and takes from it only if it is the one
abbrev pub leaves : ℕ → Bool → Asked → Bool
leaves queue is_one (Takes o) = is_one || not (o == queue)
leaves queue is_one (Polls o) = not (o == queue)
leaves queue is_one (Rings o) = true
leaves queue is_one (Acknowledges irq_line) = true
leaves queue is_one (Accepts o replies) = true
leaves queue is_one (Looks o) = true
leaves queue is_one (SendsTo o) = true
leaves queue is_one (Calls o) = true
leaves queue is_one (Tries o) = true
leaves queue is_one Answers = true
leaves queue is_one Asks_nothing = true

-- the thread acknowledges the line on each way, which is bound to this
abbrev pub acknowledges : Image → ℕ → OpenLine → Numbered → Signal → Bool
acknowledges image priority l t bound =
    is_of_level priority t
    && (not (bound.badge == 0)
    && (asks_each image t (takes_only bound.notification)
    && (list_all (λ u. asks_each image u (leaves bound.notification (tcb_of image u == tcb_of image t))) (numbered_threads image)
    && over_edges image t (λ asked here next. marks_for l.line (l.marks here) (l.marks next) asked))))

abbrev pub acknowledged_by_one : Image → ℕ → OpenLine → Option Signal → Bool
acknowledged_by_one image priority l (Some bound) = list_any (λ t. acknowledges image priority l t bound) (numbered_threads image)
acknowledged_by_one image priority l None = false

abbrev pub is_acknowledged : Image → ℕ → OpenLine → Bool
is_acknowledged image priority l = acknowledged_by_one image priority l (binding (described image) l.line)

-- ---- rings from below, and rates

abbrev pub ring_fits : (ℕ → Bool) → (ℕ → ℕ) → ℕ → ℕ → Asked → Bool
ring_fits is_taken price rest most (Rings o) = not (is_taken o) || nat_le (rest + price o) most
ring_fits is_taken price rest most (Takes o) = true
ring_fits is_taken price rest most (Polls o) = true
ring_fits is_taken price rest most (Acknowledges irq_line) = true
ring_fits is_taken price rest most (Accepts o replies) = true
ring_fits is_taken price rest most (Looks o) = true
ring_fits is_taken price rest most (SendsTo o) = true
ring_fits is_taken price rest most (Calls o) = true
ring_fits is_taken price rest most (Tries o) = true
ring_fits is_taken price rest most Answers = true
ring_fits is_taken price rest most Asks_nothing = true

abbrev pub rest_of : Image → Response → ℕ
rest_of image r = at_rest image r.weights (is_taken_by r) (is_open_by r)

abbrev pub rings_fit : Image → ℕ → Response → Bool
rings_fit image priority r =
    list_all (λ t. is_of_level priority t || asks_each image t (ring_fits (is_taken_by r) (price_of r.weights) (rest_of image r) r.most))
    (numbered_threads image)

abbrev pub have_rates : Image → Weights → List Rate → Bool
have_rates image w rates =
    list_all (λ number. nat_le (line_price w (described image) number) (cost_of rates (line_price w (described image)) number)) irq_lines

-- ---- the whole

-- all that the bound rests on once the level has rested
unfoldable pub passes_rested : Image → ℕ → List Rate → Response → Bool
passes_rested image priority rates r =
    waits_for_notifications_alone image priority
    && (are_priced r.weights
    && (pay_for_level image priority r.weights
    && (list_all (rests_at image priority) r.taken
    && (list_all (is_acknowledged image priority) r.open_lines
    && (rings_fit image priority r
    && (have_rates image r.weights rates
    && (nat_le (rest_of image r) r.most
    && nat_le (r.most + costs_within rates (line_price r.weights (described image)) r.steps) r.steps)))))))

-- and from the start on
unfoldable pub passes : Image → ℕ → List Rate → Response → Bool
passes image priority rates r = passes_rested image priority rates r && nat_le (left image priority r.weights (described image) []) r.most

-- ---- what is so of the bytes

-- They are an accepted image, and over all events that keep these rates no more than n steps on end are of the level.
abbrev pub RespondsWithin : List ℕ → ℕ → List Rate → ℕ → Type 0
RespondsWithin bytes priority rates n =
    (image : Image) × IsAccepted bytes image
    × ((events : List Event) → All (KeepsDevices image) events → Keeps rates events → KeepsLevel image priority n events)

-- once the level has rested
abbrev pub RespondsOnceRested : List ℕ → ℕ → List Rate → ℕ → Type 0
RespondsOnceRested bytes priority rates n =
    (image : Image) × IsAccepted bytes image
    × ((events : List Event) → All (KeepsDevices image) events → Keeps rates events → KeepsLevelOnceRested image priority n events)

-- From any moment on, as that after an interrupt of it, the line is dealt with within n steps.
abbrev pub DealsWithin : List ℕ → ℕ → List Rate → ℕ → ℕ → Type 0
DealsWithin bytes priority rates n number =
    (image : Image) × IsAccepted bytes image × (a : IsAcknowledged image priority number)
    × ((events before window later : List Event) → All (KeepsDevices image) events → Keeps rates events → events ≡ before ++ window ++ later
    → n < steps_in window → HoldsWithin image n before window (IsDealtWith image number a.tended))

-- from any moment after the level has rested
abbrev pub DealsOnceRested : List ℕ → ℕ → List Rate → ℕ → ℕ → Type 0
DealsOnceRested bytes priority rates n number =
    (image : Image) × IsAccepted bytes image × (a : IsAcknowledged image priority number)
    × ((events first more window later : List Event) → All (KeepsDevices image) events → Keeps rates events
    → is_level_label image priority (step (state_after (described image) first) Step).1 ≡ false
    → events ≡ ((first ++ Step ∷ []) ++ more) ++ window ++ later → n < steps_in window
    → HoldsWithin image n ((first ++ Step ∷ []) ++ more) window (IsDealtWith image number a.tended))
