-- All definitions opened, so that rows on them compute.
use Rattle.model.specs.Images.Format.{many_read as format_many_read, many_spelling as format_many_spelling, many_fit as format_many_fit}
use Rattle.model.specs.Images.Image.{header_format as image_header_format, untyped_format as image_untyped_format, object_format as image_object_format}
use Rattle.model.specs.Images.Image.{capability_format as image_capability_format, interrupt_format as image_interrupt_format}
use Rattle.model.specs.Images.Image.{table_format as image_table_format, frame_format as image_frame_format, content_format as image_content_format}
use Rattle.model.specs.Images.Image.{promised_word_format as image_promised_word_format, promise_format as image_promise_format}
use Rattle.model.specs.Images.Image.{thread_header_format as image_thread_header_format, register_format as image_register_format}
use Rattle.model.specs.Images.Image.{range_format as image_range_format, term_format as image_term_format, slot_format as image_slot_format}
use Rattle.model.specs.Images.Image.{record_header_format as image_record_header_format, ranges_format as image_ranges_format}
use Rattle.model.specs.Images.Image.{terms_format as image_terms_format, record_format as image_record_format, registers_format as image_registers_format}
use Rattle.model.specs.Images.Image.{words_format as image_words_format, records_format as image_records_format, thread_format as image_thread_format}
use Rattle.model.specs.Images.Image.{sections_format as image_sections_format, image_with as image_image_with}
use Rattle.model.specs.Capabilities.CapabilityFields.{fields_of_kind as capabilityfields_fields_of_kind, is_capability as capabilityfields_is_capability}
use Rattle.model.specs.Capabilities.CapabilityFields.{unpacked as capabilityfields_unpacked}
use Rattle.model.specs.Machine.Decoding.{decoded as instructions_decoded}
use Rattle.model.specs.Machine.Effects.{effect as instructions_effect}
use Rattle.model.specs.Acceptance.RangeRules.{ones_within as rangerules_ones_within, ranges_after as rangerules_ranges_after}
use Rattle.model.specs.Acceptance.Edges.{narrowed as edges_narrowed, after as edges_after}
use Rattle.model.specs.Acceptance.Measures.{substituted as measures_substituted, greatest as measures_greatest, least as measures_least}
use Rattle.model.specs.Acceptance.Measures.{exact_sum as measures_exact_sum, falls as measures_falls, stays_below as measures_stays_below}
use Rattle.model.specs.Capabilities.Slots.{depth_within as slots_depth_within, descends_within as slots_descends_within}
use Rattle.model.specs.Capabilities.Lookup.{lookup_within as lookup_lookup_within}
use Rattle.model.specs.Images.Places.{used_by as places_used_by, offset_of as places_offset_of}
use Rattle.model.specs.Images.Fills.{fills as fills_fills, described_bytes as fills_described_bytes}
use Rattle.model.specs.Images.Described.{boot_holdings as described_boot_holdings, holdings as described_holdings, is_open_slot as described_is_open_slot}
use Rattle.model.specs.Images.Described.{described as described_described}
use Rattle.model.specs.Acceptance.WellFormed.{overlaps as wellformed_overlaps, has_no_room as wellformed_has_no_room, object_rules as wellformed_object_rules}
use Rattle.model.specs.Acceptance.WellFormed.{does_not_fit as wellformed_does_not_fit, capability_rules as wellformed_capability_rules}
use Rattle.model.specs.Acceptance.WellFormed.{misplaces_table as wellformed_misplaces_table, misplaces_frame as wellformed_misplaces_frame}
use Rattle.model.specs.Acceptance.WellFormed.{has_writable_code as wellformed_has_writable_code, mapping_rules as wellformed_mapping_rules}
use Rattle.model.specs.Acceptance.ThreadRules.{reached_within as threadrules_reached_within, reached as threadrules_reached, is_bad as threadrules_is_bad}
use Rattle.model.specs.Acceptance.ThreadRules.{shares_cspace as threadrules_shares_cspace, shares_vspace as threadrules_shares_vspace}
use Rattle.model.specs.Acceptance.ThreadRules.{has_bad_buffer as threadrules_has_bad_buffer, thread_rules as threadrules_thread_rules}
use Rattle.model.specs.Acceptance.NotedStates.{put_in as notedstates_put_in, image_slots as notedstates_image_slots, record_state as notedstates_record_state}
use Rattle.model.specs.Acceptance.NotedStates.{leads_to_boot as notedstates_leads_to_boot, has_stray_slots as notedstates_has_stray_slots}
use Rattle.model.specs.Acceptance.NotedKernel.{noted_kernel as notedkernel_noted_kernel, noted_after as notedkernel_noted_after}
use Rattle.model.specs.Acceptance.CallRules.{all_known as callrules_all_known, after_call as callrules_after_call}
use Rattle.model.specs.Acceptance.PointStates.{call_at as pointstates_call_at, noted as pointstates_noted}
use Rattle.model.specs.Acceptance.PointRules.{edges_at as pointrules_edges_at, is_unmapped as pointrules_is_unmapped, state_rules as pointrules_state_rules}
use Rattle.model.specs.Acceptance.PointRules.{point_rules as pointrules_point_rules, rules_of_program as pointrules_rules_of_program}
use Rattle.model.specs.Acceptance.PointRules.{program_rules as pointrules_program_rules}
use Rattle.model.specs.Acceptance.Accepted.{first_in as accepted_first_in, first_breach as accepted_first_breach}
use Rattle.model.specs.Kernel.Messages.{word_registers as messages_word_registers}
use Rattle.model.specs.Kernel.Scheduling.{first_below as scheduling_first_below}
use Rattle.model.specs.Kernel.State.{slot_numbers as state_slot_numbers}
use Rattle.model.specs.Kernel.Removal.{ancestor_outside as removal_ancestor_outside, remove as removal_remove}
use Rattle.model.specs.Kernel.Retype.{retype as retype_retype}
use Rattle.model.specs.Kernel.Invocations.{invoke as invocations_invoke, configure_with_guard as invocations_configure_with_guard}
use Rattle.model.specs.Images.Boot.{made as boot_made, run_from as boot_run_from, booted as boot_booted}
use Rattle.model.specs.Kernel.CallForms.{decode as callforms_decode}
use Rattle.model.specs.Kernel.Setup.{boot_area as setup_boot_area, put_untyped as setup_put_untyped, put_control as setup_put_control, fill as setup_fill}
use Rattle.model.specs.Images.BootCalls.{operations as bootcalls_operations}
use Rattle.model.specs.Images.Listing.{listing_lines as listing_listing_lines, listing as listing_listing}
use Rattle.model.specs.Kernel.Steps.{system_call as steps_system_call, runs as steps_runs, step as steps_step, trace as steps_trace, state_after as steps_after}
use Rattle.std.specs.Fmt.{digits}
use Rattle.model_laws.specs.Solo.{booted_or, bytes_of, solo, solo_events, solo_image, two_threads, yielding}
use Rattle.model_laws.specs.Worker.{loop_image, loop_with, reading_with, two_pools}
use Rattle.model_laws.specs.Variants.{with_radix, with_untyped, with_capability, with_interrupt, with_table, with_frames, with_content, with_thread}
use Rattle.model_laws.specs.Variants.{with_other_root, with_tables}
use Rattle.model_laws.specs.Programs.{entered_at, program}
use Rattle.model_laws.specs.GalleryKeyStore.{key_store}
use Rattle.model_laws.specs.Vault.{client, store, vault, vault_bytes}
use Rattle.headline.specs.integrity.Runs.{has_frame_at, has_memory_at}
use Rattle.headline.specs.parts.Parts.{changes}

unfoldable pub opened : Unit {0}
unfolding digits format_many_read format_many_spelling format_many_fit image_header_format image_untyped_format image_object_format image_capability_format
    image_interrupt_format image_table_format image_frame_format image_content_format image_promised_word_format image_promise_format image_thread_header_format
    image_register_format image_range_format
    image_term_format image_slot_format image_record_header_format image_ranges_format image_terms_format image_record_format image_registers_format
    image_words_format image_records_format image_thread_format image_sections_format image_image_with capabilityfields_fields_of_kind
    capabilityfields_is_capability capabilityfields_unpacked instructions_decoded instructions_effect rangerules_ones_within rangerules_ranges_after
    edges_narrowed edges_after measures_substituted measures_greatest measures_least measures_exact_sum measures_falls measures_stays_below slots_depth_within
    slots_descends_within lookup_lookup_within places_used_by places_offset_of fills_fills fills_described_bytes described_boot_holdings described_holdings
    described_is_open_slot described_described wellformed_overlaps wellformed_has_no_room wellformed_object_rules wellformed_does_not_fit
    wellformed_capability_rules wellformed_misplaces_table wellformed_misplaces_frame wellformed_has_writable_code wellformed_mapping_rules
    threadrules_reached_within threadrules_reached threadrules_is_bad threadrules_shares_cspace threadrules_shares_vspace threadrules_has_bad_buffer
    threadrules_thread_rules
    notedstates_put_in notedstates_image_slots notedstates_record_state notedstates_leads_to_boot notedstates_has_stray_slots notedkernel_noted_kernel
    notedkernel_noted_after callrules_all_known callrules_after_call pointstates_call_at pointstates_noted pointrules_edges_at pointrules_is_unmapped
    pointrules_state_rules pointrules_point_rules pointrules_rules_of_program pointrules_program_rules accepted_first_in accepted_first_breach
    messages_word_registers scheduling_first_below state_slot_numbers removal_ancestor_outside removal_remove retype_retype invocations_invoke
    invocations_configure_with_guard setup_boot_area setup_put_untyped setup_put_control setup_fill callforms_decode boot_made boot_run_from boot_booted
    bootcalls_operations listing_listing_lines listing_listing steps_system_call steps_runs steps_step steps_trace steps_after bytes_of solo solo_image
    loop_image loop_with booted_or solo_events two_threads yielding with_radix with_untyped with_capability with_interrupt with_table with_frames with_content
    with_thread with_other_root with_tables program entered_at reading_with two_pools has_frame_at has_memory_at changes
    vault_bytes key_store vault store client
opened = tt
