-- What the world outside does to memory: it stores a word into a frame, or looks at one.
-- seL4 Reference Manual, "Virtual Memory", for frames of devices; that the world has them by words is our own.
use Rattle.std.specs.Prelude.{ℕ, ◌+◌, ◌%◌, ◌&&◌, Bool, if◌then◌else◌, nat_le, [], ◌∷◌}
use Rattle.std.specs.Int.{from_le_bytes, w32}
use Rattle.std.specs.Option.{option_map_or}
use Rattle.model.specs.Kernel.AddressSpaces.{page_size}
use Rattle.model.specs.Kernel.Kinds.{frame_around}
use Rattle.model.specs.Kernel.Setup.{is_frame_object, with_first_bytes}
use Rattle.model.specs.Kernel.State.{State}
use Rattle.model.specs.Shared.Bytes.{word_bytes}

-- whether the four bytes from a place on are all in one frame
abbrev pub is_word_of_frame : State → ℕ → Bool
is_word_of_frame s place = is_frame_object (s.objects (frame_around place)) && nat_le (place % page_size + 4) page_size

-- the world stores a word; where no frame has all four bytes, nothing changes
unfoldable pub world_writes : State → ℕ → ℕ → State
world_writes s place word = if is_word_of_frame s place then with_first_bytes s place (word_bytes word) else s

-- the byte that the world sees; where no frame is, it sees 0
abbrev pub byte_seen : State → ℕ → ℕ
byte_seen s place = option_map_or (λ byte. byte) (s.bytes place) 0

unfoldable pub word_seen : State → ℕ → ℕ
word_seen s place =
    from_le_bytes w32 (byte_seen s place ∷ byte_seen s (place + 1) ∷ byte_seen s (place + 2) ∷ byte_seen s (place + 3) ∷ [])
