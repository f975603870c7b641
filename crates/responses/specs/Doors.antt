-- Endpoints to which settled threads send, and what such threads ask, by what was found.
use Rattle.std.specs.Prelude.{ℕ, ◌==◌, ◌&&◌, ◌||◌, Bool, is_some, nat_le, nat_lt, not, List, Option}
use Rattle.std.specs.List.{list_all, list_any}
use Rattle.settled_threads.specs.Tested.{is_input}
use Rattle.settled_threads.specs.Tested.{Door as SpecDoor}
use Rattle.responses.specs.declared.doors.Door.{Door}

abbrev pub door_of : Door → SpecDoor
door_of d = record { endpoint = d.endpoint; rank = d.rank; answers = d.answers }

-- the door is that of the endpoint, and open to this rank
abbrev pub leads_in : ℕ → ℕ → Door → Bool
leads_in endpoint rank d = (d.endpoint == endpoint) && nat_le d.rank rank

abbrev pub may_send : List Door → ℕ → ℕ → Bool
may_send doors rank endpoint = list_any (leads_in endpoint rank) doors

-- with this badge
abbrev pub may_call : List Door → ℕ → ℕ → ℕ → Bool
may_call doors rank badge endpoint = list_any (λ d. is_input badge d.answers && leads_in endpoint rank d) doors

abbrev pub is_no_door : ℕ → Door → Bool
is_no_door endpoint d = not (is_some d.answers && (d.endpoint == endpoint))

-- whoever receives there has it as its input, and comes before
abbrev pub receives_before : Option ℕ → ℕ → ℕ → Door → Bool
receives_before input rank endpoint d = is_no_door endpoint d || (is_input endpoint input && nat_lt rank d.rank)

abbrev pub are_before : List Door → Option ℕ → ℕ → ℕ → Bool
are_before doors input rank endpoint = list_all (receives_before input rank endpoint) doors

abbrev pub are_no_door : List Door → ℕ → Bool
are_no_door doors endpoint = list_all (is_no_door endpoint) doors
