-- Capabilities, which of them there are, and the two words that represent each.
use Rattle.std.specs.Prelude.{ℕ, ◌+◌, ◌*◌, ◌/◌, ◌%◌, ◌^◌, Option, Some, None, List, [], ◌∷◌, bit_and}
use Rattle.model.specs.declared.capabilities.Cap.{Cap}
use Rattle.model.specs.declared.capabilities.Cap.TheVariants.{Empty, Untyped, Endpoint, Notification, CNode, Frame, PageTable, Tcb, RootTable, InterruptControl}
use Rattle.model.specs.declared.capabilities.Cap.TheVariants.{InterruptHandler}
use Rattle.model.specs.declared.capabilities.FrameMapping.{FrameMapping}
use Rattle.model.specs.declared.capabilities.TableMapping.{TableMapping}
use Rattle.model.specs.Capabilities.Conditions.{Condition, Always, Below, AtMost, Equal, Both, AllThree, AllFour, Either, IsMet}

-- ---- what the fields of a capability may be

-- an object of 2 ^ bits bytes may lie here
abbrev pub allowed_place : ℕ → ℕ → Condition
allowed_place offset bits = Both (Equal (offset % 2 ^ bits) 0) (Below offset (2 ^ 24))

-- only write, read and grant-reply
abbrev pub allowed_endpoint_rights : ℕ → Condition
allowed_endpoint_rights rights = Equal (bit_and rights 11) rights

-- read or execute, and write only with read
abbrev pub allowed_mapping_rights : ℕ → Condition
allowed_mapping_rights rights = Either (Equal rights 2) (Either (Equal rights 3) (Either (Equal rights 4) (Either (Equal rights 6) (Equal rights 7))))

-- a badge has 28 bits
abbrev pub allowed_badge : ℕ → Condition
allowed_badge badge = Below badge (2 ^ 28)

-- A guard word has the guard's size in bits 0 to 4 and the guard, which fits the size, in bits 5 to 22; guard and radix have at
-- most 32 bits together.
abbrev pub allowed_guard_word : ℕ → ℕ → Condition
allowed_guard_word radix word = AllThree (Below word (2 ^ 23)) (Below (word / 2 ^ 5) (2 ^ (word % 2 ^ 5))) (AtMost (word % 2 ^ 5 + radix) 32)

abbrev pub allowed_frame_mapping : Option FrameMapping → Condition
allowed_frame_mapping None = Always
allowed_frame_mapping (Some mapping) = AllThree (allowed_place mapping.root 12) (Below mapping.page (2 ^ 19)) (allowed_mapping_rights mapping.rights.0)

abbrev pub allowed_table_mapping : Option TableMapping → Condition
allowed_table_mapping None = Always
allowed_table_mapping (Some mapping) = Both (allowed_place mapping.root 12) (Below mapping.region (2 ^ 9))

abbrev pub allowed_fields : Cap → Condition
allowed_fields Empty = Always
allowed_fields (Untyped offset bits watermark) = AllFour (allowed_place offset bits) (AtMost 4 bits) (AtMost bits 24) (AtMost watermark (2 ^ bits))
allowed_fields (Endpoint offset rights badge) = AllThree (allowed_place offset 4) (allowed_endpoint_rights rights.0) (allowed_badge badge)
allowed_fields (Notification offset rights badge) = AllThree (allowed_place offset 4) (allowed_endpoint_rights rights.0) (allowed_badge badge)
allowed_fields (CNode offset radix guard) = AllFour (allowed_place offset (radix + 4)) (AtMost 1 radix) (AtMost radix 14) (allowed_guard_word radix guard)
allowed_fields (Frame offset rights mapping) = AllThree (allowed_place offset 12) (Below rights.0 4) (allowed_frame_mapping mapping)
allowed_fields (PageTable offset mapping) = Both (allowed_place offset 12) (allowed_table_mapping mapping)
allowed_fields (Tcb offset) = allowed_place offset 9
allowed_fields (RootTable offset) = allowed_place offset 12
allowed_fields InterruptControl = Always
allowed_fields (InterruptHandler irq_line) = Below irq_line 64

-- ---- the same as propositions

abbrev pub IsPlace : ℕ → ℕ → Type 0
IsPlace offset bits = IsMet (allowed_place offset bits)

abbrev pub AreEndpointRights : ℕ → Type 0
AreEndpointRights rights = IsMet (allowed_endpoint_rights rights)

abbrev pub AreMappingRights : ℕ → Type 0
AreMappingRights rights = IsMet (allowed_mapping_rights rights)

abbrev pub IsGuardWord : ℕ → ℕ → Type 0
IsGuardWord radix word = IsMet (allowed_guard_word radix word)

abbrev pub IsFrameMapping : Option FrameMapping → Type 0
IsFrameMapping mapping = IsMet (allowed_frame_mapping mapping)

abbrev pub IsTableMapping : Option TableMapping → Type 0
IsTableMapping mapping = IsMet (allowed_table_mapping mapping)

-- the fields of a capability are in their ranges
abbrev pub IsCapability : Cap → Type 0
IsCapability capability = IsMet (allowed_fields capability)

-- ---- the two words

-- the first word: kind in bits 0 to 3, detail in 4 to 8, mapping rights in 9 to 11, a sixteenth of the
-- offset in 12 to 31
abbrev pub head_word : ℕ → ℕ → ℕ → ℕ → ℕ
head_word kind detail rights offset = kind + 2 ^ 4 * detail + 2 ^ 9 * rights + 2 ^ 12 * (offset / 16)

-- a mapping's word: bit 0 set, the root's page in bits 1 to 12, the virtual page in 13 to 31
abbrev pub mapping_word : ℕ → ℕ → ℕ
mapping_word root page = 1 + 2 * (root / 2 ^ 12) + 2 ^ 13 * page

-- the two words of a capability
abbrev pub words_of : Cap → List ℕ
words_of Empty = 0 ∷ 0 ∷ []
words_of (Untyped offset bits watermark) = head_word 1 bits 0 offset ∷ watermark ∷ []
words_of (Tcb offset) = head_word 2 0 0 offset ∷ 0 ∷ []
words_of (Endpoint offset rights badge) = head_word 3 rights.0 0 offset ∷ badge ∷ []
words_of (Notification offset rights badge) = head_word 4 rights.0 0 offset ∷ badge ∷ []
words_of (CNode offset radix guard) = head_word 5 radix 0 offset ∷ guard ∷ []
words_of (Frame offset rights None) = head_word 6 rights.0 0 offset ∷ 0 ∷ []
words_of (Frame offset rights (Some mapping)) = head_word 6 rights.0 mapping.rights.0 offset ∷ mapping_word mapping.root mapping.page ∷ []
words_of (PageTable offset None) = head_word 7 0 0 offset ∷ 0 ∷ []
words_of (PageTable offset (Some mapping)) = head_word 7 0 0 offset ∷ mapping_word mapping.root (2 ^ 10 * mapping.region) ∷ []
words_of (RootTable offset) = head_word 8 0 0 offset ∷ 0 ∷ []
words_of InterruptControl = 9 ∷ 0 ∷ []
words_of (InterruptHandler irq_line) = 10 ∷ irq_line ∷ []
