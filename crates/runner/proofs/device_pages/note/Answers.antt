-- One start more.
use Rattle.runner.proofs.DeviceStarts.{noted}
use Rattle.runner.proofs.device_pages.note.Goals as goal

pub returns : goal.returns
returns c = λ test.
    noted test c.args.start c.args.device c.args.starts.now.keys c.insert.new.self.keys c.if-not-device.false c.in_ok-insert.ensures.keys
