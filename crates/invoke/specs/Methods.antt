-- The labels of the calls.
-- seL4 Reference Manual, "seL4 API Reference"; labels are our own.
use Rattle.std.specs.Prelude.{ℕ}
use Rattle.invoke.specs.declared.methods.Method.{Method}
use Rattle.invoke.specs.declared.methods.Method.TheVariants as methods
use Rattle.model.specs.Kernel.CallForms.{retype_label, configure_label, set_priority_label, set_register_label, resume_label, suspend_label, set_buffer_label}
use Rattle.model.specs.Kernel.CallForms.{copy_label, mint_label, move_label, mutate_label, delete_label, revoke_label}
use Rattle.model.specs.Kernel.CallForms.{map_frame_label, unmap_frame_label, map_table_label, unmap_table_label}
use Rattle.model.specs.Kernel.CallForms.{get_handler_label, acknowledge_label, set_notification_label, clear_label}

abbrev pub label_of : Method → ℕ
label_of methods.Retype = retype_label
label_of methods.Configure = configure_label
label_of methods.SetPriority = set_priority_label
label_of methods.SetRegister = set_register_label
label_of methods.Resume = resume_label
label_of methods.Suspend = suspend_label
label_of methods.Copy = copy_label
label_of methods.Mint = mint_label
label_of methods.Move = move_label
label_of methods.Mutate = mutate_label
label_of methods.Delete = delete_label
label_of methods.Revoke = revoke_label
label_of methods.MapFrame = map_frame_label
label_of methods.UnmapFrame = unmap_frame_label
label_of methods.MapTable = map_table_label
label_of methods.UnmapTable = unmap_table_label
label_of methods.GetHandler = get_handler_label
label_of methods.Acknowledge = acknowledge_label
label_of methods.SetNotification = set_notification_label
label_of methods.Clear = clear_label
label_of methods.SetBuffer = set_buffer_label
