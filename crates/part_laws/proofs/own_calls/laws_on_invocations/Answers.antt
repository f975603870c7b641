-- Each law as it is stated.
use Rattle.part_laws.proofs.own_calls.laws_on_invocations.Goals as goal

pub returns : goal.returns
returns c = record {
  below = c.laws_below.ensures;
  mirror = c.threads_mirror_what_is_noted.ensures;
  copies = c.copies_go_well.ensures;
  mints = c.mints_go_well.ensures;
  moves = c.moves_go_well.ensures;
  deletes = c.deletes_go_well.ensures;
  revokes = c.revokes_go_well.ensures;
  retypes = c.retypes_go_well.ensures;
  maps = c.maps_go_well.ensures;
  unmaps = c.unmaps_go_well.ensures;
  derive = c.invocations_leave_a_parent_to_each_slot.ensures;
  behind = c.changed_slots_keep_all_standing.ensures;
  acknowledges = c.an_acknowledgement_keeps_soundness.ensures;
}
