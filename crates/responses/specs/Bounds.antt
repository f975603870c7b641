-- What an answer says of the bytes of an image: it holds whatever events come that keep the rates.
use Rattle.std.specs.Prelude.{ℕ, ◌≡◌, ◌<◌, true, List, Option, Some, map}
use Rattle.std.specs.List.{list_all}
use Rattle.model.specs.Acceptance.Accepted.{IsAccepted}
use Rattle.model.specs.Images.Image.{Image}
use Rattle.response.specs.Rates.{Rate}
use Rattle.response.specs.Responding.{DealsOnceRested, DealsWithin, OpenLine, RespondsOnceRested, RespondsWithin, is_acknowledged}
use Rattle.response.specs.Weights.{Weights}
use Rattle.settled_threads.specs.Tested.{RestsAtInput, Settlement, TendsOnceRested, TendsWithin, passes_settled, passes_settled_rested}
use Rattle.responses.specs.Found.{response_with}
use Rattle.responses.specs.Numbers.{is_among}
use Rattle.responses.specs.Inputs.{input_at}
use Rattle.responses.specs.declared.bounds.Bound.{Bound}
use Rattle.responses.specs.declared.bounds.Response.{Response as Answer}
use Rattle.responses.specs.declared.bounds.Response.TheVariants as answer
use Rattle.responses.specs.declared.rows.Row.{Row}

-- From the start no more than so many steps on end are of the level, once it has rested no more than so many others, and each line that is listed is dealt
-- with within as many: those of threads that neither send, call nor receive, and all that are tended. Where nothing of the level is ready each settled
-- thread waits at its input.
pub record IsBound (bytes : List ℕ) (priority : ℕ) (rates : List Rate) (b : Bound) : Type 0 where
  pub steps : RespondsWithin bytes priority rates b.steps
  pub later : RespondsOnceRested bytes priority rates b.later
  pub lines : (number : ℕ) → number < 64 → is_among b.lines.items number ≡ true
      → DealsWithin bytes priority rates b.steps number × DealsOnceRested bytes priority rates b.later number
  pub tended : (number : ℕ) → number < 64 → is_among b.tended.items number ≡ true
      → TendsWithin bytes priority rates b.steps number × TendsOnceRested bytes priority rates b.later number
  pub inputs : (thread object : ℕ) → input_at b.inputs.items thread ≡ Some object → RestsAtInput bytes priority thread object

-- The test is passed with these inputs of settled threads and these lines, for so many steps from the start and later: with some weights, and what may be
-- left at the start and at rest.
pub record IsTested (image : Image) (priority : ℕ) (rates : List Rate) (inputs : List (Option ℕ)) (lines tended : List ℕ) (steps later : ℕ) : Type 0 where
  pub weights : Weights
  pub settlement : Settlement
  pub taken : List ℕ
  pub owed : ℕ → ℕ
  pub opened : ℕ → OpenLine
  pub most_at_first : ℕ
  pub most_at_rest : ℕ
  pub of_line : (number : ℕ) → (opened number).line ≡ number
  pub of_thread : (thread : ℕ) → settlement.settling.input thread ≡ input_at inputs thread
  pub first : passes_settled image priority rates (response_with weights taken opened tended most_at_first steps) settlement owed ≡ true
  pub rested : passes_settled_rested image priority rates (response_with weights taken opened tended most_at_rest later) settlement owed ≡ true
  pub acknowledged : list_all (is_acknowledged image priority) (map opened lines) ≡ true

-- nothing is said where there is no bound
abbrev pub IsResponse : List ℕ → ℕ → List Rate → Answer → Type 0
IsResponse bytes priority rates (answer.Bound b) = IsBound bytes priority rates b
IsResponse bytes priority rates (answer.NoBound why) = Unit {0}
IsResponse bytes priority rates answer.TooMuch = Unit {0}

-- of an accepted image, however it is spelled
abbrev pub IsResponseOf : Image → ℕ → List Rate → Answer → Type 0
IsResponseOf image priority rates a = (bytes : List ℕ) → IsAccepted bytes image → IsResponse bytes priority rates a

-- of a level of the image that these bytes spell
abbrev pub IsRow : List ℕ → List Rate → Row → Type 0
IsRow bytes rates row = IsResponse bytes row.priority rates row.response
