-- So many objects are placed, so much of each untyped is used by them, and the device pages among them are noted.
use Rattle.wellformed.specs.Used.{IsUsed}
use Rattle.runner.specs.Devices.{AreDevicePages}
use Rattle.runner.proofs.device_pages.DevicePages.of.Given as goal

abbrev pub invariant-loop-number : goal.invariant-loop-number
invariant-loop-number l = record {
  used : IsUsed l.image l.number l.used.used;
  noted : AreDevicePages l.image l.number l.starts.keys;
}
