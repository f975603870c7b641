-- What a part takes, and who may change it.
use Rattle.std.specs.Prelude.{ℕ, ◌&&◌, Bool, not, List, [], filter, flat_map, map, if◌then◌else◌}
use Rattle.std.specs.List.{range_with_len}
use Rattle.headline.specs.parts.Parts.{Part, changes, is_in, takes}
use Rattle.model.specs.Acceptance.ThreadRules.{is_member}
use Rattle.model.specs.Images.Described.{numbered}
use Rattle.model.specs.Images.Image.{Image, Thread}
use Rattle.parts.specs.Uses.{is_part}
use Rattle.parts.specs.declared.taken.Taken.{Taken}
use Rattle.parts.specs.declared.uses.Uses.{Uses}

-- of so many objects those that pass, with the numbers of two threads
abbrev pub passing : ℕ → ℕ → ℕ → (ℕ → Bool) → List Taken
passing objects taker other test = map (λ object. record { taker = taker; object = object; other = other }) (filter test (range_with_len 0 objects))

-- what a thread takes that another may change
abbrev pub taken_from : Image → ℕ × Thread → ℕ × Thread → List Taken
taken_from image t u = passing image.header.objects t.0 u.0 (λ object. takes image t.1 object && changes image u.1 object)

-- What the threads of a part take that others may change: in the order of the threads, of the others, and of the objects.
unfoldable pub taken : Image → Part → List Taken
taken image part =
    flat_map (λ t. if is_in part t.1 then flat_map (λ u. if not (is_in part u.1) then taken_from image t u else []) (numbered image.threads) else [])
    (numbered image.threads)

-- ---- the same by the numbers of what threads take and may change

abbrev pub taken_between : ℕ → Uses → Uses → List Taken
taken_between objects t u = passing objects t.number u.number (λ object. is_member object t.takes && is_member object u.changes)

abbrev pub taken_outside : ℕ → ℕ → List Uses → Uses → Uses → List Taken
taken_outside objects threads all t u = if not (is_part threads all u.tcb) then taken_between objects t u else []

abbrev pub taken_inside : ℕ → ℕ → List Uses → Uses → List Taken
taken_inside objects threads all t = if is_part threads all t.tcb then flat_map (taken_outside objects threads all t) all else []
