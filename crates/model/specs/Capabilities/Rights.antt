-- Rights: what a capability or a mapping lets its holder do.
-- seL4 Reference Manual, "Capability Rights"; our words have execute for mappings, and no grant.
use Rattle.std.specs.Prelude.{ℕ, ◌==◌, ◌+◌, ◌*◌, ◌/◌, ◌%◌, bit_and, Bool, not}
use Rattle.model.specs.declared.rights.Rights.{Rights}

abbrev pub rights : ℕ → Rights
rights bits = record { 0 = bits }

-- bit 0 of a rights word writes, bit 1 reads, bit 2 executes, bit 3 lets a reply be given
abbrev pub may_write : Rights → Bool
may_write r = not (bit_and r.0 1 == 0)

abbrev pub may_read : Rights → Bool
may_read r = not (bit_and r.0 2 == 0)

abbrev pub may_execute : Rights → Bool
may_execute r = not (bit_and r.0 4 == 0)

abbrev pub may_grant_reply : Rights → Bool
may_grant_reply r = not (bit_and r.0 8 == 0)

-- the rights that both have
abbrev pub common : Rights → Rights → Rights
common r s = rights (bit_and r.0 s.0)

-- all rights of an endpoint or a notification: write, read, grant-reply
abbrev pub endpoint_rights : Rights
endpoint_rights = rights 11

-- all rights of a frame: write, read
abbrev pub frame_rights : Rights
frame_rights = rights 3

-- The rights of a mapping by a rights word: write and read as both have them, execute as the frame may be read; write
-- stays only where read stays.
abbrev pub mapping_rights : Rights → ℕ → Rights
mapping_rights frame word =
    let writes = bit_and frame.0 1 * (word % 2) in
    let reads = bit_and frame.0 2 / 2 * (word / 2 % 2) in
    let executes = bit_and frame.0 2 / 2 * (word / 4 % 2) in
    rights (writes * reads + 2 * reads + 4 * executes)
