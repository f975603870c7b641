-- What the code tests is the test of the laws on responses.
use Rattle.std.proofs.Common.{ℕ, ◌≡◌, ◌∙◌, ◌+◌, ◌*◌, ◌<◌, ◌≤◌, ◌==◌, ◌||◌, ◌^◌, Bool, true, if◌then◌else◌, Option, List, [], map}
use Rattle.std.proofs.Common.{refl, sym, ap, subst, arith}
use Rattle.std.specs.Prelude.{nat_le, nat_lt}
use Rattle.std.specs.List.{list_all, list_any, range_with_len}
use Rattle.std.proofs.lemmas.Bool.{and_parts, eqb-true}
use Rattle.model.specs.Acceptance.Accepted.{IsAccepted, IsWellFormed}
use Rattle.model.specs.Images.Described.{Numbered, described, numbered_threads}
use Rattle.model.specs.Images.Image.{Image, Thread, whole_image}
use Rattle.headline.specs.starts.Laws.{ThreadsAreAsListed}
use Rattle.response.specs.Left.{irq_lines, left, line_price, total}
use Rattle.response.specs.Levels.{is_of_level}
use Rattle.response.specs.Owed.{pay_answers, rest_with, step_fits, steps_fit_with}
use Rattle.response.specs.Rates.{costs_within}
use Rattle.response.specs.Rates.{Rate as SpecRate}
use Rattle.response.specs.Responding.{DealsOnceRested, DealsWithin, OpenLine, Response, are_priced, asks_each, have_rates, is_acknowledged, is_taken_by}
use Rattle.response.specs.Responding.{pay_for_level}
use Rattle.response.specs.Weights.{price_of}
use Rattle.response.proofs.Laws.{all-at, any-found}
use Rattle.settled_threads.specs.Laws.{AloneResponsesDeal, RestedAloneResponsesDeal, RestedSettledResponsesDeal, RestedSettledResponsesHold}
use Rattle.settled_threads.specs.Laws.{SettledResponsesDeal, SettledResponsesHold, TestedThreadsRest}
use Rattle.settled_threads.specs.Tested.{Settlement, are_settled, is_input_there, is_tended, others_owe, passes_settled, passes_settled_rested}
use Rattle.answering.specs.Answers.{AreAnswers}
use Rattle.answering.specs.declared.answers.Answered.{Answered}
use Rattle.responses.proofs.Lists.{both-true}
use Rattle.responses.proofs.Paid.{answers-so, lines-so, owes-so, pays-so, steps-so, tended-so}
use Rattle.responses.proofs.Priced.{costs-same, lines-same, priced-so, rated-so}
use Rattle.responses.proofs.SettledSeen.{inputs-so, owing_by, settled-so}
use Rattle.responses.proofs.Starts.{left-is}
use Rattle.responses.proofs.OfThreads.{total-from}
use Rattle.responses.proofs.Totals.{any-map, total-map}
use Rattle.responses.specs.Bounds.{IsBound, IsTested}
use Rattle.responses.specs.Checks as seen
use Rattle.responses.specs.Checks.{costs_seen, left_by, price_of_line, rest_seen, sums_fit}
use Rattle.responses.specs.Found.{listed_price, open_line, price_in, rate_of, response_with, weights_at}
use Rattle.responses.specs.Keepers.{AreKeepers}
use Rattle.responses.specs.Lines.{AreBells}
use Rattle.responses.specs.Numbers.{is_among, number_at}
use Rattle.responses.specs.Outlines.{AreOutlines}
use Rattle.responses.specs.Prices.{Rise}
use Rattle.responses.specs.Settling as settling
use Rattle.responses.specs.Settling.{settlement_of}
use Rattle.responses.specs.declared.bounds.Bound.{Bound}
use Rattle.responses.specs.declared.bounds.Rate.{Rate}
use Rattle.responses.specs.declared.keepers.Keeper.{Keeper}
use Rattle.responses.specs.declared.lines.Bell.{Bell}
use Rattle.responses.specs.declared.outlines.Outline.{Outline}
use Rattle.responses.specs.declared.settled.Settled.{Settled}
use Rattle.responses.specs.declared.weights.Weights.{Weights}
use Rattle.thread_spaces.specs.Given.{IsListed}

-- ---- the whole, by its parts

-- the parts of the test that speak of weights, of messages and of what rests
record IsPaid (image : Image) (priority : ℕ) (r : Response) (s : Settlement) (owed_most : ℕ → ℕ) : Type 0 where
  priced : are_priced r.weights ≡ true
  pays : pay_for_level image priority r.weights ≡ true
  answers : pay_answers image priority r.weights ≡ true
  settled : are_settled image priority s ≡ true
  owes : others_owe image priority r.weights s.settling (is_taken_by r) owed_most ≡ true
  taken : list_all (is_input_there image s.settling) r.taken ≡ true
  tended : list_all (is_tended image s.settling) r.open_lines ≡ true

module _ (image : Image) (priority : ℕ) (rates : List Rate) (r : Response) (s : Settlement) (owed_most : ℕ → ℕ) where
  rested-so : IsPaid image priority r s owed_most → steps_fit_with image priority r owed_most ≡ true
      → have_rates image r.weights (map rate_of rates) ≡ true → nat_le (rest_with image r owed_most) r.most ≡ true
      → nat_le (r.most + costs_within (map rate_of rates) (line_price r.weights (described image)) r.steps) r.steps ≡ true
      → passes_settled_rested image priority (map rate_of rates) r s owed_most ≡ true
  unfolding passes_settled_rested
  rested-so paid below rated rest costs =
      both-true _ _ paid.priced (both-true _ _ paid.pays (both-true _ _ paid.answers (both-true _ _ paid.settled (both-true _ _ paid.owes
      (both-true _ _ paid.taken (both-true _ _ paid.tended (both-true _ _ below (both-true _ _ rated (both-true _ _ rest costs)))))))))

  starts-so : passes_settled_rested image priority (map rate_of rates) r s owed_most ≡ true
      → nat_le (left image priority r.weights (described image) []) r.most ≡ true
      → passes_settled image priority (map rate_of rates) r s owed_most ≡ true
  unfolding passes_settled
  starts-so rested start = both-true _ _ rested start

-- ---- the test, by what the code finds

module _ (image : Image) (fits : whole_image.fits image ≡ true) (well : IsWellFormed image) (programs : List Outline)
    (are : AreOutlines image 0 image.threads programs) (bells : List (Option Bell)) (are_bells : AreBells image bells)
    (keepers : List (Option Keeper)) (are_keepers : AreKeepers programs bells keepers) (found : List Answered) (are_found : AreAnswers image found)
    (priority : ℕ) (w : Weights) (rise : Rise w.prices) (s : Settled) (taken tended owed : List ℕ) where
  abbrev response : ℕ → ℕ → Response
  response most steps = response_with (weights_at programs w) taken (open_line programs keepers) tended most steps

  rest-is : rest_seen w taken tended owed programs bells ≡ rest_with image (response 0 0) (number_at owed)
  rest-is =
      ap (λ n. n + total (λ line. if is_among tended line then 0 else price_of_line w.prices bells line) (range_with_len 0 64)
      + total (λ p. number_at owed p.number) programs)
      (sym (total-map (λ p. if is_among taken p.object then 0 else p.price) listed_price w.prices))
      ∙ ap (λ n. total (λ p. if is_among taken p.object then 0 else p.price) (map listed_price w.prices) + n
      + total (λ p. number_at owed p.number) programs)
      (sym (lines-same image fits well bells are_bells w (is_among tended))
      ∙ (λ i. total (λ number. if sym (any-map (λ l. l.line == number) (open_line programs keepers) tended) i then 0
      else line_price (weights_at programs w) (described image) number) irq_lines))
      ∙ ap (λ n. total (λ p. if is_among taken p.object then 0 else p.price) (map listed_price w.prices)
      + total (λ number. if list_any (λ l. l.line == number) (map (open_line programs keepers) tended) then 0
      else line_price (weights_at programs w) (described image) number) irq_lines + n)
      (sym owed-same)
    where
      owed-same : total (λ (t : Numbered). number_at owed t.number) (numbered_threads image) ≡ total (λ p. number_at owed p.number) programs
      owed-same =
          total-from image programs are (λ p. number_at owed p.number) (λ (t : Numbered). number_at owed t.number) (λ t. Unit {0})
          (λ t p listed at. ap (number_at owed) (sym at.is.number)) (λ t there. tt)

  paid-so : (most steps : ℕ) → settling.are_paid priority w s taken tended owed programs keepers found ≡ true
      → IsPaid image priority (response most steps) (settlement_of (owing_by image found are_found) s) (number_at owed)
  paid-so most steps holds =
      let one = and_parts (seen.pay_all w priority programs) _ holds in
      let two = and_parts (settling.are_settled priority s found programs) _ one.1 in
      let three = and_parts (seen.owe_all priority w s taken owed programs) _ two.1 in
      let four = and_parts (list_all (settling.is_input_there s programs) taken) (list_all (settling.is_tended s keepers) tended) three.1 in
      record {
        priced = priced-so programs w rise;
        pays = pays-so image priority programs are w one.0;
        answers = answers-so image priority programs are w one.0;
        settled = settled-so image priority programs are found are_found s two.0;
        owes = owes-so image priority programs are w s taken owed three.0;
        taken = inputs-so image priority programs are found are_found s taken four.0;
        tended = tended-so image priority programs are fits well bells are_bells keepers are_keepers s tended four.1;
      }

  steps_fit_by : ℕ → ℕ → Bool
  steps_fit_by most n =
      list_all (λ t. is_of_level priority t || asks_each image t (step_fits (is_among taken) (price_of (weights_at programs w)) n most))
      (numbered_threads image)

  rested-of : (rates : List Rate) (most steps rest costs : ℕ) → settling.are_paid priority w s taken tended owed programs keepers found ≡ true
      → rest ≡ rest_seen w taken tended owed programs bells → costs ≡ costs_seen w.prices bells rates steps
      → sums_fit priority rates w taken programs bells rest costs most steps ≡ true
      → passes_settled_rested image priority (map rate_of rates) (response most steps) (settlement_of (owing_by image found are_found) s)
      (number_at owed) ≡ true
  unfolding steps_fit_by
  rested-of rates most steps rest costs paid rest_same costs_same fit =
      let is_rest = rest_same ∙ rest-is in
      let one = and_parts (seen.fit_steps priority (is_among taken) (price_in w.prices) rest most programs) _ fit in
      let two = and_parts (list_all (seen.is_rated w.prices bells rates) (range_with_len 0 64)) _ one.1 in
      let three = and_parts (list_all (λ (r : Rate). nat_lt r.line 64) rates) _ two.1 in
      let four = and_parts (nat_le rest most) (nat_le (most + costs) steps) three.1 in
      rested-so image priority rates (response most steps) (settlement_of (owing_by image found are_found) s) (number_at owed) (paid-so most steps paid)
      (subst (λ n. steps_fit_by most n ≡ true) is_rest (steps-so image priority programs are (is_among taken) w rest most one.0))
      (rated-so image fits well bells are_bells w rates two.0)
      (subst (λ n. nat_le n most ≡ true) is_rest four.0)
      (subst (λ n. nat_le (most + n) steps ≡ true) (costs_same ∙ sym (costs-same image fits well bells are_bells w rates steps three.0)) four.1)

  pub tested-is : (listed_so : ThreadsAreAsListed)
      → ((i : Image) (t : Thread) → IsWellFormed i → IsListed i t → (t.header.base + 4 * t.header.words ≤ 2 ^ 31) × (t.header.entry < t.header.words))
      → (rates : List Rate) (lines : List ℕ) (rest first_costs costs left_there most_at_first most_at_rest steps later : ℕ)
      → rest ≡ rest_seen w taken tended owed programs bells → first_costs ≡ costs_seen w.prices bells rates steps
      → costs ≡ costs_seen w.prices bells rates later → left_there ≡ total (left_by priority w) programs
      → list_all (seen.is_acknowledged priority programs keepers) lines ≡ true
      → settling.are_paid priority w s taken tended owed programs keepers found ≡ true
      → sums_fit priority rates w taken programs bells rest first_costs most_at_first steps ≡ true
      → sums_fit priority rates w taken programs bells rest costs most_at_rest later ≡ true
      → nat_le left_there most_at_first ≡ true
      → IsTested image priority (map rate_of rates) s.inputs.items lines tended steps later
  tested-is listed_so places rates lines rest first_costs costs left_there most_at_first most_at_rest steps later rest_same first_same costs_same left_same
      acknowledged paid first_fits fits_later less = record {
        weights = weights_at programs w;
        settlement = settlement_of (owing_by image found are_found) s;
        taken = taken;
        owed = number_at owed;
        opened = open_line programs keepers;
        most_at_first = most_at_first;
        most_at_rest = most_at_rest;
        of_line = λ number. refl;
        of_thread = λ thread. refl;
        first =
            starts-so image priority rates (response most_at_first steps) (settlement_of (owing_by image found are_found) s) (number_at owed)
            (rested-of rates most_at_first steps rest first_costs paid rest_same first_same first_fits)
            (subst (λ n. nat_le n most_at_first ≡ true)
            (left_same ∙ sym (left-is image fits well listed_so (λ t listed. places image t well listed) priority programs are w)) less);
        rested = rested-of rates most_at_rest later rest costs paid rest_same costs_same fits_later;
        acknowledged = lines-so image priority programs are fits well bells are_bells keepers are_keepers lines acknowledged;
      }

-- ---- what is printed

-- a line that is listed is among those that the test opens
opened-so : (opened : ℕ → OpenLine) → ((number : ℕ) → (opened number).line ≡ number) → (lines : List ℕ) (number : ℕ) → is_among lines number ≡ true
    → list_any (λ l. l.line == number) (map opened lines) ≡ true
opened-so opened same lines number there =
    any-map (λ l. l.line == number) opened lines ∙ (λ i. list_any (λ n. same n i == number) lines) ∙ there

module _ (image : Image) (priority : ℕ) (rates : List SpecRate) (b : Bound) (hold : SettledResponsesHold) (hold_later : RestedSettledResponsesHold)
    (deal : SettledResponsesDeal) (deal_later : RestedSettledResponsesDeal) (deal_alone : AloneResponsesDeal) (deal_alone_later : RestedAloneResponsesDeal)
    (rest : TestedThreadsRest) where
  pub bound-is-so : IsTested image priority rates b.inputs.items b.lines.items b.tended.items b.steps b.later
      → (bytes : List ℕ) → IsAccepted bytes image → IsBound bytes priority rates b
  bound-is-so i bytes accepted =
      let first : Response = response_with i.weights i.taken i.opened b.tended.items i.most_at_first b.steps in
      let rested : Response = response_with i.weights i.taken i.opened b.tended.items i.most_at_rest b.later in
      record {
        steps = hold bytes image priority rates first i.settlement i.owed accepted i.first;
        later = hold_later bytes image priority rates rested i.settlement i.owed accepted i.rested;
        lines = λ number few there.
            let found = any-found (λ (l : OpenLine). l.line == number) (map i.opened b.lines.items)
            (opened-so i.opened i.of_line b.lines.items number there) in
            let l = found.0 in
            let same : l.line ≡ number = eqb-true l.line number found.2 in
            let fits : l.line < 64 = omega (arith, same, few) in
            let known = all-at (is_acknowledged image priority) (map i.opened b.lines.items) l found.1 i.acknowledged in (
              subst (DealsWithin bytes priority rates b.steps) same
                  (deal_alone bytes image priority rates first i.settlement i.owed l accepted i.first fits known),
              subst (DealsOnceRested bytes priority rates b.later) same
                  (deal_alone_later bytes image priority rates rested i.settlement i.owed l accepted i.rested fits known),
            );
        tended = λ number few there. (
          deal bytes image priority rates first i.settlement i.owed number accepted i.first few
              (opened-so i.opened i.of_line b.tended.items number there),
          deal_later bytes image priority rates rested i.settlement i.owed number accepted i.rested few
              (opened-so i.opened i.of_line b.tended.items number there),
        );
        inputs = λ thread object input.
            rest bytes image priority rates rested i.settlement i.owed thread object accepted i.rested (i.of_thread thread ∙ input);
      }
