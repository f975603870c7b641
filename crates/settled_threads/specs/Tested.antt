-- A test of what is said of settled threads, and of a response with them. It reads the image alone: how what is said was found does not matter.
use Rattle.std.specs.Prelude.{ℕ, ◌≡◌, ◌==◌, ◌+◌, ◌<◌, ◌++◌, ◌&&◌, ◌||◌, Bool, true, false, nat_le, nat_lt, not}
use Rattle.std.specs.Prelude.{All, Contains, List, [], ◌∷◌, Option, Some, None, is_some}
use Rattle.std.specs.List.{list_all, list_any}
use Rattle.model.specs.declared.events.Event.{Event}
use Rattle.model.specs.declared.events.Event.TheVariants.{Step}
use Rattle.model.specs.declared.ranges.Range.{Range}
use Rattle.model.specs.Acceptance.Accepted.{IsAccepted}
use Rattle.model.specs.Acceptance.Devices.{KeepsDevices}
use Rattle.model.specs.Acceptance.NotedStates.{PointState}
use Rattle.model.specs.Acceptance.PointStates.{Known, noted}
use Rattle.model.specs.Acceptance.ThreadInvariants.{tcb_of}
use Rattle.model.specs.Images.Described.{Numbered, described, numbered_threads}
use Rattle.model.specs.Images.Image.{Image}
use Rattle.model.specs.Kernel.Interrupts.{Signal, binding}
use Rattle.model.specs.Kernel.Steps.{state_after, step}
use Rattle.response.specs.Asking.{Asked, Takes, Polls, Rings, Acknowledges, Accepts, Looks, SendsTo, Calls, Tries, Answers, Asks_nothing, asked_at}
use Rattle.response.specs.DealtWith.{HoldsWithin, IsDealtWith, Rests}
use Rattle.response.specs.Left.{left, line_price}
use Rattle.response.specs.Levels.{is_level_label, is_of_level}
use Rattle.response.specs.Owed.{going_on, owes_at_most, pay_answers, rest_with, steps_fit_with}
use Rattle.response.specs.Rates.{Keeps, Rate, costs_within, steps_in}
use Rattle.response.specs.Responding.{OpenLine, Response, are_priced, asks_each, at_each, have_rates, is_taken_by, leaves, over_edges, pay_for_level}
use Rattle.response.specs.Resting.{IsTended, marks_for}
use Rattle.response.specs.Weights.{Weights}
use Rattle.settled_threads.specs.Answering.{badge_at, owing_over}
use Rattle.settled_threads.specs.Settled.{Settling, WaitsAtInput, taken_by}

-- ---- what is said

-- An endpoint to which settled threads send whose rank is this or above: a settled thread receives there that comes before. One that answers a badge may
-- be called with it too: nobody polls it, and each thread that receives there is settled, comes before, and answers.
pub record Door : Type 0 where
  pub endpoint : ℕ
  pub rank : ℕ
  pub answers : Option ℕ

pub record Settlement : Type 0 where
  pub settling : Settling
  pub doors : List Door
  -- of a badge, and a thread by its number: what is known of the points at which an answer may be owed
  pub owing : ℕ → ℕ → ℕ → Option (List Range)

-- ---- what settled threads ask

abbrev pub is_input : ℕ → Option ℕ → Bool
is_input object (Some o) = o == object
is_input object None = false

-- it is settled with this input, and comes before the rank
abbrev pub comes_before : Settling → ℕ → ℕ → Numbered → Bool
comes_before settling object rank t = is_input object (settling.input t.number) && nat_lt (settling.rank t.number) rank

-- the door is that of the endpoint, and open to this rank
abbrev pub leads_in : ℕ → ℕ → Door → Bool
leads_in endpoint rank d = (d.endpoint == endpoint) && nat_le d.rank rank

abbrev pub may_send : List Door → ℕ → ℕ → Bool
may_send doors rank endpoint = list_any (leads_in endpoint rank) doors

-- with this badge
abbrev pub may_call : List Door → ℕ → ℕ → ℕ → Bool
may_call doors rank badge endpoint = list_any (λ d. is_input badge d.answers && leads_in endpoint rank d) doors

-- takes from this object alone, and sends to and calls what it may
abbrev pub asks_settled : (ℕ → Bool) → (ℕ → Bool) → ℕ → Asked → Bool
asks_settled sends calls object (Takes o) = o == object
asks_settled sends calls object (Accepts o replies) = o == object
asks_settled sends calls object (SendsTo o) = sends o
asks_settled sends calls object (Calls o) = calls o
asks_settled sends calls object (Polls o) = true
asks_settled sends calls object (Rings o) = true
asks_settled sends calls object (Acknowledges irq_line) = true
asks_settled sends calls object (Looks o) = true
asks_settled sends calls object (Tries o) = true
asks_settled sends calls object Answers = true
asks_settled sends calls object Asks_nothing = true

abbrev pub settled_with : Image → ℕ → Settlement → Numbered → Option ℕ → Bool
settled_with image priority s t None = true
settled_with image priority s t (Some object) =
    is_of_level priority t
    && at_each image t (λ point state.
    asks_settled (may_send s.doors (s.settling.rank t.number)) (may_call s.doors (s.settling.rank t.number) (badge_at image t state)) object
    (asked_at image t.thread point state))

abbrev pub is_settled : Image → ℕ → Settlement → Numbered → Bool
is_settled image priority s t = settled_with image priority s t (s.settling.input t.number)

-- ---- doors

abbrev pub has_taker : Image → Settling → Door → Bool
has_taker image settling d = list_any (comes_before settling d.endpoint d.rank) (numbered_threads image)

-- whoever receives there has it as its input, and comes before
abbrev pub receives_before : Option ℕ → ℕ → ℕ → Door → Bool
receives_before input rank endpoint d = not (is_some d.answers && (d.endpoint == endpoint)) || (is_input endpoint input && nat_lt rank d.rank)

abbrev pub is_no_door : ℕ → Door → Bool
is_no_door endpoint d = not (is_some d.answers && (d.endpoint == endpoint))

-- receives from doors that answer as they ask, by tests of endpoints, and polls none
abbrev pub receives_so : (ℕ → Bool) → (ℕ → Bool) → Asked → Bool
receives_so is_before is_none (Accepts o replies) = is_before o
receives_so is_before is_none (Looks o) = is_none o
receives_so is_before is_none (Takes o) = true
receives_so is_before is_none (Polls o) = true
receives_so is_before is_none (Rings o) = true
receives_so is_before is_none (Acknowledges irq_line) = true
receives_so is_before is_none (SendsTo o) = true
receives_so is_before is_none (Calls o) = true
receives_so is_before is_none (Tries o) = true
receives_so is_before is_none Answers = true
receives_so is_before is_none Asks_nothing = true

abbrev pub are_before : List Door → Option ℕ → ℕ → ℕ → Bool
are_before doors input rank endpoint = list_all (receives_before input rank endpoint) doors

abbrev pub are_no_door : List Door → ℕ → Bool
are_no_door doors endpoint = list_all (is_no_door endpoint) doors

-- where the input is a door that answers a badge, each message with it is answered
abbrev pub answers_badge : Image → (ℕ → ℕ → ℕ → Option (List Range)) → Numbered → Option ℕ → Bool
answers_badge image owing t (Some badge) = over_edges image t (owing_over t.thread badge (owing badge t.number))
answers_badge image owing t None = true

abbrev pub answers_at : Image → Settlement → Numbered → Door → Bool
answers_at image s t d = not (is_input d.endpoint (s.settling.input t.number)) || answers_badge image s.owing t d.answers

abbrev pub keeps_doors : Image → Settlement → Numbered → Bool
keeps_doors image s t =
    asks_each image t (receives_so (are_before s.doors (s.settling.input t.number) (s.settling.rank t.number)) (are_no_door s.doors))
    && list_all (answers_at image s t) s.doors

-- all that makes threads settled
abbrev pub are_settled : Image → ℕ → Settlement → Bool
are_settled image priority s =
    list_all (is_settled image priority s) (numbered_threads image)
    && (list_all (has_taker image s.settling) s.doors && list_all (keeps_doors image s) (numbered_threads image))

-- ---- what rests

abbrev pub is_input_there : Image → Settling → ℕ → Bool
is_input_there image settling object = list_any (λ (t : Numbered). is_input object (settling.input t.number)) (numbered_threads image)

-- the thread acknowledges the line on each way, which is bound to its input
abbrev pub tends : Image → Settling → OpenLine → Numbered → Signal → Bool
tends image settling l t bound =
    is_input bound.notification (settling.input t.number)
    && (not (bound.badge == 0)
    && (list_all (λ u. asks_each image u (leaves bound.notification (tcb_of image u == tcb_of image t))) (numbered_threads image)
    && over_edges image t (λ asked here next. marks_for l.line (l.marks here) (l.marks next) asked)))

abbrev pub tended_by_one : Image → Settling → OpenLine → Option Signal → Bool
tended_by_one image settling l (Some bound) = list_any (λ t. tends image settling l t bound) (numbered_threads image)
tended_by_one image settling l None = false

abbrev pub is_tended : Image → Settling → OpenLine → Bool
is_tended image settling l = tended_by_one image settling l (binding (described image) l.line)

-- what the others may wait with, where nobody waits to send to these objects
abbrev pub others_owe : Image → ℕ → Weights → Settling → (ℕ → Bool) → (ℕ → ℕ) → Bool
others_owe image priority w settling is_taken most =
    list_all (λ t. is_some (settling.input t.number) || at_each image t (λ point state.
    owes_at_most w is_taken (is_of_level priority t) (going_on priority w t point) (most t.number) (asked_at image t.thread point state)))
    (numbered_threads image)

-- ---- the whole

-- All that the bound rests on once the level has rested. The response's objects are inputs of settled threads, and its lines are tended by such. So what
-- a thread below sends there is no sum over threads: one step brings one message.
unfoldable pub passes_settled_rested : Image → ℕ → List Rate → Response → Settlement → (ℕ → ℕ) → Bool
passes_settled_rested image priority rates r s owed_most =
    are_priced r.weights
    && (pay_for_level image priority r.weights
    && (pay_answers image priority r.weights
    && (are_settled image priority s
    && (others_owe image priority r.weights s.settling (is_taken_by r) owed_most
    && (list_all (is_input_there image s.settling) r.taken
    && (list_all (is_tended image s.settling) r.open_lines
    && (steps_fit_with image priority r owed_most
    && (have_rates image r.weights rates
    && (nat_le (rest_with image r owed_most) r.most
    && nat_le (r.most + costs_within rates (line_price r.weights (described image)) r.steps) r.steps)))))))))

-- and from the start on
unfoldable pub passes_settled : Image → ℕ → List Rate → Response → Settlement → (ℕ → ℕ) → Bool
passes_settled image priority rates r s owed_most =
    passes_settled_rested image priority rates r s owed_most && nat_le (left image priority r.weights (described image) []) r.most

-- ---- what is so of the bytes

-- A line is tended at a level: a thread of it, which takes from nothing else than what the line signals, acknowledges it on each way from one take
-- to the next. It may send and call on its way.
pub record IsTendedAt (image : Image) (priority number : ℕ) : Type 0 where
  pub tended : IsTended image number
  pub level : is_of_level priority tended.thread ≡ true
  pub one : (point : ℕ) (state : PointState) (object : ℕ) → point < tended.thread.thread.header.words → noted image tended.thread point ≡ Known state
      → taken_by (asked_at image tended.thread.thread point state) ≡ Some object → object ≡ tended.queue

-- From any moment on, as that after an interrupt of it, the line is dealt with within n steps.
abbrev pub TendsWithin : List ℕ → ℕ → List Rate → ℕ → ℕ → Type 0
TendsWithin bytes priority rates n number =
    (image : Image) × IsAccepted bytes image × (a : IsTendedAt image priority number)
    × ((events before window later : List Event) → All (KeepsDevices image) events → Keeps rates events → events ≡ before ++ window ++ later
    → n < steps_in window → HoldsWithin image n before window (IsDealtWith image number a.tended))

-- from any moment after the level has rested
abbrev pub TendsOnceRested : List ℕ → ℕ → List Rate → ℕ → ℕ → Type 0
TendsOnceRested bytes priority rates n number =
    (image : Image) × IsAccepted bytes image × (a : IsTendedAt image priority number)
    × ((events first more window later : List Event) → All (KeepsDevices image) events → Keeps rates events
    → is_level_label image priority (step (state_after (described image) first) Step).1 ≡ false
    → events ≡ ((first ++ Step ∷ []) ++ more) ++ window ++ later → n < steps_in window
    → HoldsWithin image n ((first ++ Step ∷ []) ++ more) window (IsDealtWith image number a.tended))

-- The thread of this number, if there is one, waits at this object wherever nothing of the level is ready, and nothing is there to be taken.
abbrev pub RestsAtInput : List ℕ → ℕ → ℕ → ℕ → Type 0
RestsAtInput bytes priority number object =
    (image : Image) × IsAccepted bytes image
    × ((t : Numbered) (events : List Event) → Contains (numbered_threads image) t → t.number ≡ number → All (KeepsDevices image) events
    → Rests image priority (state_after (described image) events) → WaitsAtInput image t (state_after (described image) events) object)
