-- Tests of the ways from run to run.
use Rattle.std.specs.Prelude.{ℕ, ◌&&◌, Bool, List}
use Rattle.response.specs.Asking.{Asked}
use Rattle.response.specs.Owed.{pays_answer}
use Rattle.response.specs.Resting.{marks_for}
use Rattle.response.specs.Weights.{pays_for}
use Rattle.response.specs.Weights.{Weights as SpecWeights}
use Rattle.responses.specs.Found.{weights_of}
use Rattle.responses.specs.Numbers.{mark_at}
use Rattle.responses.specs.declared.edge_checks.EdgeTest.{EdgeTest}
use Rattle.responses.specs.declared.edge_checks.EdgeTest.TheVariants.{Pays, KeepsMarks}
use Rattle.responses.specs.declared.weights.Weights.{Weights}

-- weights pay for what a point asks, and for the answer if it calls
abbrev pub pays_wholly : SpecWeights → ℕ → ℕ → ℕ → Asked → Bool
pays_wholly w budget here next asked = pays_for w budget here next asked && pays_answer w budget here next asked

-- so at a run of a thread with this budget
abbrev pub pays_on : Weights → ℕ → ℕ → Asked → ℕ → ℕ → Bool
pays_on w thread budget asked here next =
    pays_wholly (weights_of w) budget ((weights_of w).still thread here) ((weights_of w).still thread next) asked

-- the marks of a line are kept
abbrev pub marks_on : ℕ → List Bool → Asked → ℕ → ℕ → Bool
marks_on line marks asked here next = marks_for line (mark_at marks here) (mark_at marks next) asked

abbrev pub edge_test_of : EdgeTest → Asked → ℕ → ℕ → Bool
edge_test_of (Pays weights thread budget) = pays_on weights.now thread budget
edge_test_of (KeepsMarks line marks) = marks_on line marks.now
