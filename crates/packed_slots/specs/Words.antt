-- A slot in 16 bytes of memory: two words of its capability, then its neighbours among the full slots, and its depth.
use Rattle.std.specs.Prelude.{ℕ, zero, suc, ◌==◌, ◌+◌, ◌-◌, ◌*◌, ◌/◌, ◌%◌, ◌^◌, nat_lt, Bool, false, if◌then◌else◌, Option, Some, None, List, replicate}
use Rattle.std.specs.Option.{option_map_or}
use Rattle.model.specs.Capabilities.CapabilityFields.{fields_of}
use Rattle.model.specs.Shared.Bytes.{word_at, word_bytes, written}
use Rattle.model.specs.declared.capabilities.Cap.{Cap}
use Rattle.slots.specs.preorder.Chains.{Links}

-- one of the four words of a slot
abbrev pub word_of : List ℕ → ℕ → ℕ → ℕ
word_of memory slot number = word_at memory (16 * slot + 4 * number)

-- word 2: the next slot in bits 0 to 19, the depth in 20 to 27, and bit 28 set where there is a next one
abbrev pub link_word : Option ℕ → ℕ → ℕ
link_word None depth = 2 ^ 20 * depth
link_word (Some next) depth = next + 2 ^ 20 * depth + 2 ^ 28

abbrev pub next_in : ℕ → Option ℕ
next_in word = if word / 2 ^ 28 == 1 then Some (word % 2 ^ 20) else None

abbrev pub depth_in : ℕ → ℕ
depth_in word = word / 2 ^ 20 % 2 ^ 8

-- word 3: the previous slot in bits 0 to 19, and bit 20 set where there is one
abbrev pub back_word : Option ℕ → ℕ
back_word None = 0
back_word (Some previous) = previous + 2 ^ 20

abbrev pub previous_in : ℕ → Option ℕ
previous_in word = if word / 2 ^ 20 == 1 then Some (word % 2 ^ 20) else None

-- what the words of all slots say
pub record Words : Type 0 where
  pub head : ℕ → ℕ
  pub tail : ℕ → ℕ
  pub next : Links
  pub depth : ℕ → ℕ
  pub previous : Links

abbrev pub words_in : List ℕ → Words
words_in memory = record {
  head = λ s. word_of memory s 0;
  tail = λ s. word_of memory s 1;
  next = λ s. next_in (word_of memory s 2);
  depth = λ s. depth_in (word_of memory s 2);
  previous = λ s. previous_in (word_of memory s 3);
}

abbrev pub capability_in : Words → ℕ → Cap
capability_in words s = fields_of (words.head s) (words.tail s)

-- ---- what is written

abbrev pub with_word : List ℕ → ℕ → ℕ → ℕ → List ℕ
with_word memory slot number word = written memory (16 * slot + 4 * number) (word_bytes word)

-- another next slot and depth
abbrev pub with_link : List ℕ → ℕ → Option ℕ → ℕ → List ℕ
with_link memory slot next depth = with_word memory slot 2 (link_word next depth)

-- another previous slot
abbrev pub with_back : List ℕ → ℕ → Option ℕ → List ℕ
with_back memory slot previous = with_word memory slot 3 (back_word previous)

-- another previous slot, if there is a slot
abbrev pub with_back_at : List ℕ → Option ℕ → Option ℕ → List ℕ
with_back_at memory None previous = memory
with_back_at memory (Some slot) previous = with_back memory slot previous

-- another next slot, if there is a slot, with its depth
abbrev pub with_next_at : List ℕ → Option ℕ → Option ℕ → List ℕ
with_next_at memory None next = memory
with_next_at memory (Some slot) next = with_link memory slot next (depth_in (word_of memory slot 2))

-- other words of a capability
abbrev pub with_cap : List ℕ → ℕ → ℕ → ℕ → List ℕ
with_cap memory slot head tail = with_word (with_word memory slot 0 head) slot 1 tail

-- 16 zero bytes for each of so many slots
abbrev pub blanked : List ℕ → ℕ → ℕ → List ℕ
blanked memory slot count = written memory (16 * slot) (replicate (16 * count) 0)

-- a slot linked after another, at a depth
abbrev pub linked_behind : List ℕ → ℕ → ℕ → ℕ → List ℕ
linked_behind memory at slot depth =
    let after = next_in (word_of memory at 2) in
    with_back (with_back_at (with_link (with_link memory at (Some slot) (depth_in (word_of memory at 2))) slot after depth) after (Some slot)) slot (Some at)

-- a slot linked in front of the first one
abbrev pub linked_first : List ℕ → Option ℕ → ℕ → List ℕ
linked_first memory first slot = with_back (with_back_at (with_link memory slot first 0) first (Some slot)) slot None

-- a slot taken out from between its neighbours, and zeroed
abbrev pub unlinked : List ℕ → ℕ → List ℕ
unlinked memory slot =
    let after = next_in (word_of memory slot 2) in
    let before = previous_in (word_of memory slot 3) in
    blanked (with_back_at (with_next_at memory before after) after before) slot 1

-- the slots from one on become one less deep, as long as they are deeper than a depth
unfoldable pub lowered_memory : ℕ → ℕ → Option ℕ → List ℕ → List ℕ
lowered_memory depth zero at memory = memory
lowered_memory depth (suc n) None memory = memory
lowered_memory depth (suc n) (Some slot) memory =
    let word = word_of memory slot 2 in
    if nat_lt depth (depth_in word) then lowered_memory depth n (next_in word) (with_link memory slot (next_in word) (depth_in word - 1)) else memory

-- the first slot without one that is between these neighbours
abbrev pub first_without : Option ℕ → Option ℕ → Option ℕ → Option ℕ
first_without None after first = after
first_without (Some before) after first = first

-- whether there is a slot, and it is this one
abbrev pub is_one : ℕ → Option ℕ → Bool
is_one slot found = option_map_or (λ s. s == slot) found false
