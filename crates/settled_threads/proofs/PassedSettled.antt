-- What the test of a response with settled threads says, part by part.
use Rattle.std.proofs.Common.{ℕ, ◌≡◌, ◌∙◌, ◌==◌, ◌+◌, ◌<◌, ◌≤◌, ◌&&◌, ◌||◌, not, Bool, true, false, is_some, nat_le, Option, Some, None, List, [], ◌∷◌}
use Rattle.std.proofs.Common.{refl, sym, ap, subst, arith}
use Rattle.std.specs.Prelude.{Contains}
use Rattle.std.specs.List.{list_all}
use Rattle.std.proofs.lemmas.Bool.{and_parts, eqb-true, leb-true}
use Rattle.model.specs.Acceptance.ThreadInvariants.{tcb_of}
use Rattle.model.specs.Images.Described.{Numbered, described, numbered_threads}
use Rattle.model.specs.Images.Image.{Image}
use Rattle.model.specs.Kernel.Interrupts.{Signal, binding}
use Rattle.response.specs.Asking.{Accepts, Acknowledges, Answers, Asked, Asks_nothing, Calls, Looks, Polls, Rings, SendsTo, Takes, Tries, asked_at}
use Rattle.response.specs.Laws.{left_after}
use Rattle.response.specs.Left.{left, line_price}
use Rattle.response.specs.Levels.{is_of_level}
use Rattle.response.specs.Owed.{at_rest_with, going_on, owes_at_most, pay_answers, rest_with, steps_fit_with}
use Rattle.response.specs.Rates.{Rate, costs_within}
use Rattle.response.specs.Responding.{OpenLine, Response, are_priced, asks_each, at_each, have_rates, is_acknowledged, is_open_by, is_taken_by, leaves}
use Rattle.response.specs.Responding.{pay_for_level}
use Rattle.response.specs.Resting.{IsAcknowledged, IsTended}
use Rattle.response.specs.Weights.{Weights}
use Rattle.response.proofs.Laws.{acknowledged-so, all-at, any-found, at-start, known-at, or-then, tended-by}
use Rattle.std.proofs.lemmas.Bool.{eq-eqb}
use Rattle.settled_threads.specs.Answering.{badge_at}
use Rattle.settled_threads.specs.Settled.{AreInputs, AreSettled, AreTended, AsksSettled, OthersOweAtMost, Settling, taken_by}
use Rattle.settled_threads.specs.Tested.{IsTendedAt, Settlement, are_settled, is_input, is_input_there, is_tended, others_owe, passes_settled}
use Rattle.settled_threads.specs.Tested.{passes_settled_rested, tended_by_one, tends}
use Rattle.settled_threads.proofs.Openings.{input-is}

-- ---- what rests

pub inputs-so : (image : Image) (settling : Settling) (r : Response) → list_all (is_input_there image settling) r.taken ≡ true
    → AreInputs image settling (is_taken_by r)
inputs-so image settling r all object here =
    let found = any-found (λ (o : ℕ). o == object) r.taken here in
    let who = any-found (λ (t : Numbered). is_input found.0 (settling.input t.number)) (numbered_threads image)
    (all-at (is_input_there image settling) r.taken found.0 found.1 all) in
    (who.0, who.1, input-is found.0 (settling.input who.0.number) who.2 ∙ ap Some (eqb-true found.0 object found.2))

abbrev TendedSo : Image → Settling → ℕ → Type 0
TendedSo image settling number = (a : IsTended image number) × (settling.input a.thread.number ≡ Some a.queue)

module _ (image : Image) (priority : ℕ) (settling : Settling)
    (own : (u t : Numbered) → Contains (numbered_threads image) u → Contains (numbered_threads image) t → tcb_of image u ≡ tcb_of image t → u ≡ t) where
  by-bound : (l : OpenLine) (bound : Option Signal) → binding (described image) l.line ≡ bound → tended_by_one image settling l bound ≡ true
      → TendedSo image settling l.line
  by-bound l (Some bound) is any =
      let found = any-found (λ (t : Numbered). tends image settling l t bound) (numbered_threads image) any in
      let t = found.0 in
      let one = and_parts (is_input bound.notification (settling.input t.number)) _ found.2 in
      let two = and_parts (not (bound.badge == 0)) _ one.1 in
      let three = and_parts
      (list_all (λ (u : Numbered). asks_each image u (leaves bound.notification (tcb_of image u == tcb_of image t))) (numbered_threads image)) _ two.1 in
      (tended-by image priority own l t bound found.1 is two.0 three.0 three.1, input-is bound.notification (settling.input t.number) one.0)
  by-bound l None is any = absurd (let clash : false ≡ true = any in cc)

  pub tended-so : (r : Response) → list_all (is_tended image settling) r.open_lines ≡ true → AreTended image settling (is_open_by r)
  tended-so r all number few here =
      let found = any-found (λ (l : OpenLine). l.line == number) r.open_lines here in
      let l = found.0 in
      subst (TendedSo image settling) (eqb-true l.line number found.2)
      (by-bound l (binding (described image) l.line) refl (all-at (is_tended image settling) r.open_lines l found.1 all))

  -- a line that a thread acknowledges which waits for no message
  pub alone-so : (r : Response) (l : OpenLine) → l.line < 64 → is_acknowledged image priority l ≡ true → IsAcknowledged image priority l.line
  alone-so r l few is =
      let one : Response = record { weights = r.weights; taken = r.taken; open_lines = l ∷ []; most = r.most; steps = r.steps } in
      acknowledged-so image priority own one (ap (λ (b : Bool). b && true) is) l.line few
      (ap (λ (b : Bool). b || false) (eq-eqb l.line l.line refl))

-- ---- the line of a settled thread

pub takes-input : (image : Image) (settling : Settling) (input rank badge object : ℕ) (asked : Asked) → taken_by asked ≡ Some object
    → AsksSettled image settling input rank badge asked → object ≡ input
takes-input image settling input rank badge object (Takes o) is asks = let same : o ≡ object = cc in sym same ∙ asks
takes-input image settling input rank badge object (Accepts o replies) is asks = let same : o ≡ object = cc in sym same ∙ asks
takes-input image settling input rank badge object (SendsTo o) is asks = absurd (let clash : ◌≡◌ {A = Option ℕ} None (Some object) = is in cc)
takes-input image settling input rank badge object (Calls o) is asks = absurd (let clash : ◌≡◌ {A = Option ℕ} None (Some object) = is in cc)
takes-input image settling input rank badge object (Polls o) is asks = absurd (let clash : ◌≡◌ {A = Option ℕ} None (Some object) = is in cc)
takes-input image settling input rank badge object (Rings o) is asks = absurd (let clash : ◌≡◌ {A = Option ℕ} None (Some object) = is in cc)
takes-input image settling input rank badge object (Acknowledges number) is asks = absurd (let clash : ◌≡◌ {A = Option ℕ} None (Some object) = is in cc)
takes-input image settling input rank badge object (Looks o) is asks = absurd (let clash : ◌≡◌ {A = Option ℕ} None (Some object) = is in cc)
takes-input image settling input rank badge object (Tries o) is asks = absurd (let clash : ◌≡◌ {A = Option ℕ} None (Some object) = is in cc)
takes-input image settling input rank badge object Answers is asks = absurd (let clash : ◌≡◌ {A = Option ℕ} None (Some object) = is in cc)
takes-input image settling input rank badge object Asks_nothing is asks = absurd (let clash : ◌≡◌ {A = Option ℕ} None (Some object) = is in cc)

abbrev pub tended-at : (image : Image) (priority : ℕ) (settling : Settling) → AreSettled image priority settling → (number : ℕ) (a : IsTended image number)
    → settling.input a.thread.number ≡ Some a.queue → IsTendedAt image priority number
tended-at image priority settling settled number a input =
    let own = settled a.thread a.queue a.listed input in
    record {
      tended = a;
      level = own.0;
      one = λ point state object inside known takes.
          takes-input image settling a.queue (settling.rank a.thread.number) (badge_at image a.thread state) object
          (asked_at image a.thread.thread point state) takes
          (own.1 point state inside known);
    }

-- ---- the others

pub others-so : (image : Image) (priority : ℕ) (w : Weights) (settling : Settling) (is_taken : ℕ → Bool) (most : ℕ → ℕ)
    → others_owe image priority w settling is_taken most ≡ true → OthersOweAtMost image priority w settling is_taken most
others-so image priority w settling is_taken most all t point state listed none inside known =
    known-at image t (λ n here. owes_at_most w is_taken (is_of_level priority t) (going_on priority w t n) (most t.number) (asked_at image t.thread n here))
    (or-then (is_some (settling.input t.number)) _ (ap is_some none)
    (all-at (λ (u : Numbered). is_some (settling.input u.number) || at_each image u (λ n here.
    owes_at_most w is_taken (is_of_level priority u) (going_on priority w u n) (most u.number) (asked_at image u.thread n here))) (numbered_threads image) t
    listed all))
    point state inside known

-- ---- the whole

pub record PassedSettled (image : Image) (priority : ℕ) (rates : List Rate) (r : Response) (s : Settlement) (most : ℕ → ℕ) : Type 0 where
  pub priced : are_priced r.weights ≡ true
  pub pays : pay_for_level image priority r.weights ≡ true
  pub answers : pay_answers image priority r.weights ≡ true
  pub settled : are_settled image priority s ≡ true
  pub owes : others_owe image priority r.weights s.settling (is_taken_by r) most ≡ true
  pub taken : list_all (is_input_there image s.settling) r.taken ≡ true
  pub open_ones : list_all (is_tended image s.settling) r.open_lines ≡ true
  pub steps_below : steps_fit_with image priority r most ≡ true
  pub rated : have_rates image r.weights rates ≡ true
  pub rest : at_rest_with image r.weights (is_taken_by r) (is_open_by r) most ≤ r.most
  pub steps : r.most + costs_within rates (line_price r.weights (described image)) r.steps ≤ r.steps

pub passed-settled : (image : Image) (priority : ℕ) (rates : List Rate) (r : Response) (s : Settlement) (most : ℕ → ℕ)
    → passes_settled_rested image priority rates r s most ≡ true → PassedSettled image priority rates r s most
unfolding passes_settled_rested
passed-settled image priority rates r s most all =
    let one = and_parts (are_priced r.weights) _ all in
    let two = and_parts (pay_for_level image priority r.weights) _ one.1 in
    let three = and_parts (pay_answers image priority r.weights) _ two.1 in
    let four = and_parts (are_settled image priority s) _ three.1 in
    let five = and_parts (others_owe image priority r.weights s.settling (is_taken_by r) most) _ four.1 in
    let six = and_parts (list_all (is_input_there image s.settling) r.taken) _ five.1 in
    let seven = and_parts (list_all (is_tended image s.settling) r.open_lines) _ six.1 in
    let eight = and_parts (steps_fit_with image priority r most) _ seven.1 in
    let nine = and_parts (have_rates image r.weights rates) _ eight.1 in
    let ten = and_parts (nat_le (rest_with image r most) r.most) _ nine.1 in
    record {
      priced = one.0;
      pays = two.0;
      answers = three.0;
      settled = four.0;
      owes = five.0;
      taken = six.0;
      open_ones = seven.0;
      steps_below = eight.0;
      rated = nine.0;
      rest = leb-true (rest_with image r most) r.most ten.0;
      steps = leb-true (r.most + costs_within rates (line_price r.weights (described image)) r.steps) r.steps ten.1;
    }

pub begins-settled : (image : Image) (priority : ℕ) (rates : List Rate) (r : Response) (s : Settlement) (most : ℕ → ℕ)
    → passes_settled image priority rates r s most ≡ true
    → (passes_settled_rested image priority rates r s most ≡ true) × (left_after image priority r.weights [] ≤ r.most)
unfolding passes_settled
begins-settled image priority rates r s most all =
    let parts = and_parts (passes_settled_rested image priority rates r s most) _ all in
    let few = leb-true (left image priority r.weights (described image) []) r.most parts.1 in
    let same = at-start image priority r.weights in
    (parts.0, omega (arith, few, same))
