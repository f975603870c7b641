-- The test of settled threads, by what is seen of the threads of an image.
use Rattle.std.specs.Prelude.{ℕ, ◌&&◌, ◌||◌, Bool, true, false, nat_lt, not, map, List, Option, Some, None}
use Rattle.std.specs.List.{list_all, list_any}
use Rattle.std.specs.Option.{option_map_or}
use Rattle.model.specs.declared.ranges.Range.{Range}
use Rattle.response.specs.Asking.{Asked}
use Rattle.settled_threads.specs.Tested.{Settlement, asks_settled, is_input, receives_so}
use Rattle.answering.specs.Answers.{answers_at}
use Rattle.answering.specs.declared.answers.Answered.{Answered}
use Rattle.responses.specs.Asks.{asked}
use Rattle.responses.specs.Checks.{owe_all, pay_all}
use Rattle.responses.specs.Doors.{are_before, are_no_door, door_of, may_call, may_send}
use Rattle.responses.specs.Found.{keeper_at}
use Rattle.responses.specs.Keepers.{is_high}
use Rattle.responses.specs.Numbers.{number_at}
use Rattle.responses.specs.Inputs.{input_at}
use Rattle.responses.specs.Seen.{asks_all}
use Rattle.responses.specs.declared.doors.Door.{Door}
use Rattle.responses.specs.declared.keepers.Keeper.{Keeper}
use Rattle.responses.specs.declared.outlines.Outline.{Outline}
use Rattle.responses.specs.declared.outlines.Run.{Run}
use Rattle.responses.specs.declared.settled.Settled.{Settled}
use Rattle.responses.specs.declared.weights.Weights.{Weights}

-- with what is known of the points at which answers may be owed
abbrev pub settlement_of : (ℕ → ℕ → ℕ → Option (List Range)) → Settled → Settlement
settlement_of owing s = record {
  settling = record { input = input_at s.inputs.items; rank = number_at s.ranks.items };
  doors = map door_of s.doors.items;
  owing = owing;
}

-- ---- threads and doors

abbrev pub comes_before : Settled → ℕ → ℕ → Outline → Bool
comes_before s object rank p = is_input object (input_at s.inputs.items p.number) && nat_lt (number_at s.ranks.items p.number) rank

abbrev pub has_taker : Settled → List Outline → Door → Bool
has_taker s programs d = list_any (comes_before s d.endpoint d.rank) programs

-- what a settled thread of a rank may ask at the end of a run, and how one receives
abbrev pub may_ask : List Door → ℕ → ℕ → Run → Bool
may_ask doors rank object r = r.is_clear && asks_settled (may_send doors rank) (may_call doors rank r.badge) object (asked r.ask)

abbrev pub may_receive : List Door → Option ℕ → ℕ → Asked → Bool
may_receive doors input rank = receives_so (are_before doors input rank) (are_no_door doors)

abbrev pub settled_with : ℕ → Settled → Outline → Option ℕ → Bool
settled_with priority s p None = true
settled_with priority s p (Some object) = is_high priority p && list_all (may_ask s.doors.items (number_at s.ranks.items p.number) object) p.runs.items

abbrev pub is_settled : ℕ → Settled → Outline → Bool
is_settled priority s p = settled_with priority s p (input_at s.inputs.items p.number)

-- a thread answers at a door, if that is its input
abbrev pub answers_door : Settled → List Answered → ℕ → Door → Bool
answers_door s found thread d =
    not (is_input d.endpoint (input_at s.inputs.items thread)) || option_map_or (λ badge. answers_at found thread badge) d.answers true

abbrev pub keeps_doors : Settled → List Answered → Outline → Bool
keeps_doors s found p =
    asks_all (may_receive s.doors.items (input_at s.inputs.items p.number) (number_at s.ranks.items p.number)) p
    && list_all (answers_door s found p.number) s.doors.items

abbrev pub are_settled : ℕ → Settled → List Answered → List Outline → Bool
are_settled priority s found programs =
    list_all (is_settled priority s) programs && (list_all (has_taker s programs) s.doors.items && list_all (keeps_doors s found) programs)

-- ---- what rests

abbrev pub is_input_there : Settled → List Outline → ℕ → Bool
is_input_there s programs object = list_any (λ (p : Outline). is_input object (input_at s.inputs.items p.number)) programs

-- a settled thread keeps the line, which signals its input
abbrev pub is_tended_by : Settled → Option Keeper → Bool
is_tended_by s (Some k) = is_input k.notification (input_at s.inputs.items k.thread)
is_tended_by s None = false

abbrev pub is_tended : Settled → List (Option Keeper) → ℕ → Bool
is_tended s keepers line = is_tended_by s (keeper_at keepers line)

-- ---- the whole

-- weights pay for what is asked, threads are settled as it is said, and what is said to rest does
abbrev pub are_paid : ℕ → Weights → Settled → List ℕ → List ℕ → List ℕ → List Outline → List (Option Keeper) → List Answered → Bool
are_paid priority w s taken tended owed programs keepers found =
    pay_all w priority programs
    && (are_settled priority s found programs
    && (owe_all priority w s taken owed programs && (list_all (is_input_there s programs) taken && list_all (is_tended s keepers) tended)))
