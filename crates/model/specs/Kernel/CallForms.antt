-- The calls that capabilities have: which label names which call, how many words it lists, and the call with these words in
-- their places.
-- seL4 Reference Manual, "System Calls" and "seL4 API Reference"; labels and words are our own.
use Rattle.std.specs.Prelude.{ℕ, ◌==◌, ◌+◌, nat_le, if◌then◌else◌, Option, Some, None, Result, Ok, List, length, slice_index}
use Rattle.model.specs.declared.capabilities.Cap.{Cap}
use Rattle.model.specs.declared.capabilities.Cap.TheVariants.{Untyped, CNode, Frame, PageTable, Tcb, InterruptControl, InterruptHandler}
use Rattle.model.specs.declared.errors.KError.{KError}
use Rattle.model.specs.declared.errors.KError.TheVariants.{IllegalOperation, TruncatedMessage}
use Rattle.model.specs.declared.invocations.CNodeCall.TheVariants.{Copy, Mint, Move, Mutate, Delete, Revoke}
use Rattle.model.specs.declared.invocations.FrameCall.TheVariants.{MapFrame, UnmapFrame}
use Rattle.model.specs.declared.invocations.HandlerCall.TheVariants.{Acknowledge, SetNotification, Clear}
use Rattle.model.specs.declared.invocations.Invocation.{Invocation}
use Rattle.model.specs.declared.invocations.Invocation.TheVariants.{OnUntyped, OnThread, OnCNode, OnFrame, OnTable, OnControl, OnHandler}
use Rattle.model.specs.declared.invocations.SlotName.{SlotName}
use Rattle.model.specs.declared.invocations.TableCall.TheVariants.{MapTable, UnmapTable}
use Rattle.model.specs.declared.invocations.ThreadCall.TheVariants.{Configure, SetPriority, SetRegister, Resume, Suspend, SetBuffer}
use Rattle.model.specs.declared.invocations.UntypedMemory.{UntypedMemory}
use Rattle.model.specs.declared.rights.Rights.{Rights}
use Rattle.model.specs.Kernel.Arguments.{◌>>=◌, check, wanted}

-- ---- labels

abbrev pub retype_label : ℕ
retype_label = 1

abbrev pub configure_label : ℕ
configure_label = 2

abbrev pub set_priority_label : ℕ
set_priority_label = 3

abbrev pub set_register_label : ℕ
set_register_label = 4

abbrev pub resume_label : ℕ
resume_label = 5

abbrev pub suspend_label : ℕ
suspend_label = 6

abbrev pub copy_label : ℕ
copy_label = 7

abbrev pub mint_label : ℕ
mint_label = 8

abbrev pub move_label : ℕ
move_label = 9

abbrev pub mutate_label : ℕ
mutate_label = 10

abbrev pub delete_label : ℕ
delete_label = 11

abbrev pub revoke_label : ℕ
revoke_label = 12

abbrev pub map_frame_label : ℕ
map_frame_label = 13

abbrev pub unmap_frame_label : ℕ
unmap_frame_label = 14

abbrev pub map_table_label : ℕ
map_table_label = 15

abbrev pub unmap_table_label : ℕ
unmap_table_label = 16

abbrev pub get_handler_label : ℕ
get_handler_label = 17

abbrev pub acknowledge_label : ℕ
acknowledge_label = 18

abbrev pub set_notification_label : ℕ
set_notification_label = 19

abbrev pub clear_label : ℕ
clear_label = 20

abbrev pub set_buffer_label : ℕ
set_buffer_label = 21

-- ---- words

abbrev pub word : List ℕ → ℕ → ℕ
word words i = slice_index words i

-- the slot that words i and i + 1 name
abbrev pub slot_name : List ℕ → ℕ → SlotName
slot_name words i = record { address = word words i; depth = word words (i + 1) }

-- ---- forms

-- how many words a call lists, and the call that they make
pub record CallForm : Type 0 where
  pub count : ℕ
  pub call : List ℕ → Invocation

abbrev pub lists : ℕ → (List ℕ → Invocation) → Option CallForm
lists count call = Some (record { count = count; call = call })

abbrev pub untyped_form : UntypedMemory → ℕ → Option CallForm
untyped_form memory label =
    if label == retype_label
    then lists 6 (λ words. OnUntyped memory (record {
      kind = word words 0;
      size = word words 1;
      node = slot_name words 2;
      index = word words 4;
      count = word words 5;
    }))
    else None

abbrev pub thread_form : ℕ → ℕ → Option CallForm
thread_form thread label =
    if label == configure_label then lists 5 (λ words. OnThread thread (Configure (word words 0) (slot_name words 1) (slot_name words 3))) else
    if label == set_priority_label then lists 1 (λ words. OnThread thread (SetPriority (word words 0))) else
    if label == set_register_label then lists 2 (λ words. OnThread thread (SetRegister (word words 0) (word words 1))) else
    if label == resume_label then lists 0 (λ words. OnThread thread Resume) else
    if label == suspend_label then lists 0 (λ words. OnThread thread Suspend) else
    if label == set_buffer_label then lists 2 (λ words. OnThread thread (SetBuffer (slot_name words 0))) else None

-- the destination comes first, then the source
abbrev pub cnode_form : ℕ → Option CallForm
cnode_form label =
    if label == copy_label then lists 5 (λ words. OnCNode (Copy (slot_name words 0) (slot_name words 2) (word words 4))) else
    if label == mint_label then lists 6 (λ words. OnCNode (Mint (slot_name words 0) (slot_name words 2) (word words 4) (word words 5))) else
    if label == move_label then lists 4 (λ words. OnCNode (Move (slot_name words 0) (slot_name words 2))) else
    if label == mutate_label then lists 5 (λ words. OnCNode (Mutate (slot_name words 0) (slot_name words 2) (word words 4))) else
    if label == delete_label then lists 2 (λ words. OnCNode (Delete (slot_name words 0))) else
    if label == revoke_label then lists 2 (λ words. OnCNode (Revoke (slot_name words 0))) else None

abbrev pub frame_form : Rights → ℕ → Option CallForm
frame_form held label =
    if label == map_frame_label then lists 4 (λ words. OnFrame held (MapFrame (slot_name words 0) (word words 2) (word words 3))) else
    if label == unmap_frame_label then lists 0 (λ words. OnFrame held UnmapFrame) else None

abbrev pub table_form : ℕ → Option CallForm
table_form label =
    if label == map_table_label then lists 3 (λ words. OnTable (MapTable (slot_name words 0) (word words 2))) else
    if label == unmap_table_label then lists 0 (λ words. OnTable UnmapTable) else None

abbrev pub control_form : ℕ → Option CallForm
control_form label = if label == get_handler_label then lists 3 (λ words. OnControl (word words 0) (slot_name words 1)) else None

abbrev pub handler_form : ℕ → ℕ → Option CallForm
handler_form irq_line label =
    if label == acknowledge_label then lists 0 (λ words. OnHandler irq_line Acknowledge) else
    if label == set_notification_label then lists 2 (λ words. OnHandler irq_line (SetNotification (slot_name words 0))) else
    if label == clear_label then lists 0 (λ words. OnHandler irq_line Clear) else None

-- the call of a label on a capability; endpoints, notifications and root tables have none
abbrev pub form_of : Cap → ℕ → Option CallForm
form_of (Untyped offset bits watermark) label = untyped_form (record { offset = offset; bits = bits; watermark = watermark }) label
form_of (Tcb offset) label = thread_form offset label
form_of (CNode offset radix guard) label = cnode_form label
form_of (Frame offset r mapping) label = frame_form r label
form_of (PageTable offset mapping) label = table_form label
form_of InterruptControl label = control_form label
form_of (InterruptHandler irq_line) label = handler_form irq_line label
form_of _ label = None

-- ---- decoding

-- no capabilities come along, the capability has the call, and none of so many words is missing
abbrev pub form_called : Cap → ℕ → ℕ → ℕ → Result CallForm KError
form_called capability label extra count = do
  _ ← check (extra == 0) TruncatedMessage
  found ← wanted (form_of capability label) IllegalOperation
  _ ← check (nat_le found.count count) TruncatedMessage
  Ok found

unfoldable pub decode : Cap → ℕ → ℕ → List ℕ → Result Invocation KError
decode capability label extra words = do
  found ← form_called capability label extra (length words)
  Ok (found.call words)
