-- What the test of a response with messages says.
use Rattle.std.proofs.Common.{ℕ, Bool, ◌≡◌, ◌∙◌, ◌||◌, ◌+◌, ◌≤◌, true, not, nat_le, List, []}
use Rattle.std.proofs.Common.{sym, ap, arith}
use Rattle.std.specs.List.{list_all}
use Rattle.std.proofs.lemmas.Bool.{and_parts, leb-true}
use Rattle.model.specs.Images.Described.{Numbered, described, numbered_threads}
use Rattle.model.specs.Images.Image.{Image}
use Rattle.response.specs.Asking.{asked_at}
use Rattle.response.specs.Laws.{left_after}
use Rattle.response.specs.Left.{left, line_price}
use Rattle.response.specs.Levels.{is_of_level}
use Rattle.response.specs.Owed.{OweAtMost, PayAnswers, StepsFitWith, at_rest_with, fits_at, going_on, owe_at_most, owes_at_most, passes_messages}
use Rattle.response.specs.Owed.{passes_messages_rested, pay_answers, pays_answer, rest_with, step_fits, steps_fit_with}
use Rattle.response.specs.Rates.{Rate, costs_within}
use Rattle.response.specs.Responding.{Response, are_priced, asks_each, at_each, have_rates, is_acknowledged, is_open_by, is_taken_by, over_edges, pay_for_level}
use Rattle.response.specs.Responding.{rests_at}
use Rattle.response.specs.Weights.{Weights, price_of}
use Rattle.response.proofs.Passing.{asked-each, at-start, edge-passes, known-at, or-then}
use Rattle.response.proofs.Quietly.{all-at}

pub answers-so : (image : Image) (priority : ℕ) (w : Weights) → pay_answers image priority w ≡ true → PayAnswers image priority w
answers-so image priority w all t point state next listed level inside known leads =
    edge-passes image t (λ asked here after. pays_answer w t.thread.header.budget (w.still t.number here) (w.still t.number after) asked)
    (or-then (not (is_of_level priority t)) _ (ap not level)
    (all-at (λ (u : Numbered). not (is_of_level priority u)
    || over_edges image u (λ asked here after. pays_answer w u.thread.header.budget (w.still u.number here) (w.still u.number after) asked))
    (numbered_threads image) t listed all))
    point state next inside known leads

pub owes-so : (image : Image) (priority : ℕ) (w : Weights) (is_taken : ℕ → Bool) (most : ℕ → ℕ) → owe_at_most image priority w is_taken most ≡ true
    → OweAtMost image priority w is_taken most
owes-so image priority w is_taken most all t point state listed inside known =
    known-at image t (λ n here. owes_at_most w is_taken (is_of_level priority t) (going_on priority w t n) (most t.number) (asked_at image t.thread n here))
    (all-at (λ (u : Numbered). at_each image u (λ n here.
    owes_at_most w is_taken (is_of_level priority u) (going_on priority w u n) (most u.number) (asked_at image u.thread n here))) (numbered_threads image) t
    listed all)
    point state inside known

pub steps-with-so : (image : Image) (priority : ℕ) (r : Response) (most : ℕ → ℕ) → steps_fit_with image priority r most ≡ true
    → StepsFitWith image priority r.weights (is_taken_by r) (is_open_by r) most r.most
steps-with-so image priority r most all t point state object listed below inside known comes taken =
    let each = or-then (is_of_level priority t) _ below
    (all-at (λ (u : Numbered). is_of_level priority u
    || asks_each image u (step_fits (is_taken_by r) (price_of r.weights) (rest_with image r most) r.most)) (numbered_threads image) t listed all) in
    let here = asked-each image t (step_fits (is_taken_by r) (price_of r.weights) (rest_with image r most) r.most) each point state inside known in
    let fits = sym (ap (fits_at (is_taken_by r) (price_of r.weights) (rest_with image r most) r.most) comes) ∙ here in
    leb-true (rest_with image r most + price_of r.weights object) r.most (or-then (not (is_taken_by r object)) _ (ap not taken) fits)

pub record PassedWith (image : Image) (priority : ℕ) (rates : List Rate) (r : Response) (most : ℕ → ℕ) : Type 0 where
  pub priced : are_priced r.weights ≡ true
  pub pays : pay_for_level image priority r.weights ≡ true
  pub answers : pay_answers image priority r.weights ≡ true
  pub owes : owe_at_most image priority r.weights (is_taken_by r) most ≡ true
  pub taken : list_all (rests_at image priority) r.taken ≡ true
  pub open_ones : list_all (is_acknowledged image priority) r.open_lines ≡ true
  pub steps_below : steps_fit_with image priority r most ≡ true
  pub rated : have_rates image r.weights rates ≡ true
  pub rest : at_rest_with image r.weights (is_taken_by r) (is_open_by r) most ≤ r.most
  pub steps : r.most + costs_within rates (line_price r.weights (described image)) r.steps ≤ r.steps

pub passed-with : (image : Image) (priority : ℕ) (rates : List Rate) (r : Response) (most : ℕ → ℕ)
    → passes_messages_rested image priority rates r most ≡ true → PassedWith image priority rates r most
unfolding passes_messages_rested
passed-with image priority rates r most all =
    let one = and_parts (are_priced r.weights) _ all in
    let two = and_parts (pay_for_level image priority r.weights) _ one.1 in
    let three = and_parts (pay_answers image priority r.weights) _ two.1 in
    let four = and_parts (owe_at_most image priority r.weights (is_taken_by r) most) _ three.1 in
    let five = and_parts (list_all (rests_at image priority) r.taken) _ four.1 in
    let six = and_parts (list_all (is_acknowledged image priority) r.open_lines) _ five.1 in
    let seven = and_parts (steps_fit_with image priority r most) _ six.1 in
    let eight = and_parts (have_rates image r.weights rates) _ seven.1 in
    let nine = and_parts (nat_le (rest_with image r most) r.most) _ eight.1 in
    record {
      priced = one.0;
      pays = two.0;
      answers = three.0;
      owes = four.0;
      taken = five.0;
      open_ones = six.0;
      steps_below = seven.0;
      rated = eight.0;
      rest = leb-true (rest_with image r most) r.most nine.0;
      steps = leb-true (r.most + costs_within rates (line_price r.weights (described image)) r.steps) r.steps nine.1;
    }

pub begins-with : (image : Image) (priority : ℕ) (rates : List Rate) (r : Response) (most : ℕ → ℕ) → passes_messages image priority rates r most ≡ true
    → (passes_messages_rested image priority rates r most ≡ true) × (left_after image priority r.weights [] ≤ r.most)
unfolding passes_messages
begins-with image priority rates r most all =
    let parts = and_parts (passes_messages_rested image priority rates r most) _ all in
    let few = leb-true (left image priority r.weights (described image) []) r.most parts.1 in
    let same = at-start image priority r.weights in
    (parts.0, omega (arith, few, same))
