-- What the calls on objects make of the state.
use Rattle.std.specs.Prelude.{ℕ, ◌≡◌, ◌==◌, ◌&&◌, ◌%◌, ◌^◌, ◌<◌, ◌≤◌, Bool, true, false, if◌then◌else◌, Some, None, List, slice_index}
use Rattle.std.specs.Option.{option_map_or}
use Rattle.model.specs.Kernel.Kinds.{frame_around}
use Rattle.model.specs.Kernel.State.{State, put}
use Rattle.model.specs.Kernel.ObjectTypes.{new_object}
use Rattle.model.specs.declared.object_types.ObjectKind.{ObjectKind}
use Rattle.model.specs.declared.object_types.ObjectKind.TheVariants as kinds
use Rattle.objects.specs.declared.thread_records.records.Thread.{Thread}

-- ---- objects that begin and end

-- no right to reply to a thread is kept
abbrev pub voided : ℕ → Thread → Thread
voided gone t = record t { caller = if option_map_or (λ caller. caller == gone) t.caller false then None else t.caller }

-- nothing is at an offset any more
abbrev pub vacated : State → ℕ → State
vacated s offset = record s {
  objects = λ other. if offset == other then None else s.objects other;
  bytes = λ place. if offset == frame_around place then None else s.bytes place;
}

abbrev pub is_frame_kind : ObjectKind → Bool
is_frame_kind kinds.Frame = true
is_frame_kind kinds.Thread = false
is_frame_kind kinds.Endpoint = false
is_frame_kind kinds.Notification = false
is_frame_kind (kinds.CNode radix) = false
is_frame_kind kinds.PageTable = false
is_frame_kind kinds.RootTable = false

-- a new object comes at an offset; the bytes of a frame are what is there
abbrev pub begun : State → List ℕ → ObjectKind → ℕ → State
begun s memory kind offset = record s {
  objects = put s.objects offset (Some (new_object kind));
  bytes = λ place. if is_frame_kind kind && (offset == frame_around place) then Some (slice_index memory place) else s.bytes place;
}

-- where an object of a kind may lie in memory of 2 ^ bits bytes
abbrev pub MayStand : ℕ → ObjectKind → ℕ → Type 0
MayStand bits kinds.Thread offset = (offset % 512 ≡ 0) × (offset < 2 ^ bits)
MayStand bits (kinds.CNode radix) offset = (offset % 16 ≡ 0) × (offset < 2 ^ bits) × (radix ≤ 14)
MayStand bits kinds.Endpoint offset = (offset % 16 ≡ 0) × (offset < 2 ^ bits)
MayStand bits kinds.Notification offset = (offset % 16 ≡ 0) × (offset < 2 ^ bits)
MayStand bits kinds.Frame offset = (offset % 16 ≡ 0) × (offset < 2 ^ bits)
MayStand bits kinds.PageTable offset = (offset % 16 ≡ 0) × (offset < 2 ^ bits)
MayStand bits kinds.RootTable offset = (offset % 16 ≡ 0) × (offset < 2 ^ bits)
