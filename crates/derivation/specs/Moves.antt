-- The names of slots once one was moved.
use Rattle.std.specs.Prelude.{ℕ, ◌==◌, if◌then◌else◌}

-- the name of a slot once what another held was moved
abbrev pub name_after_move : ℕ → ℕ → ℕ → ℕ
name_after_move from to slot = if slot == from then to else slot
