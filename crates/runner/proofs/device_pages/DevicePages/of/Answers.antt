-- One object after another.
use Rattle.std.proofs.Common.{ℕ, ◌≡◌, ◌∙◌, sym, ap, subst, arith}
use Rattle.std.proofs.lemmas.Option.{get_or_from_slice_get}
use Rattle.model.specs.declared.entries.ImageHeader.{ImageHeader}
use Rattle.model.specs.declared.entries.ObjectEntry.{ObjectEntry}
use Rattle.model.specs.Images.Image.{is_device_size}
use Rattle.model.specs.Images.Places.{object_at}
use Rattle.runner.specs.Devices.{AreDevicePages}
use Rattle.runner.proofs.DeviceStarts.{pages-more, pages-none}
use Rattle.runner.proofs.device_pages.DevicePages.of.Goals as goal

pub loop-number-init : goal.loop-number-init
loop-number-init c = record {
  used = c.none-used.ensures c.args.image.now;
  noted = pages-none c.args.image.now c.new-starts.result.keys c.new-starts.ensures.empty;
}

pub loop-number-preserved : goal.loop-number-preserved
loop-number-preserved c =
    let image = c.args.image.now in
    let n = c.loop-number.number in
    let o = c.object_of.result in
    let here : object_at image n ≡ o = get_or_from_slice_get image.objects n o _ c.object_of.ensures.there in
    let device = c.is_device.ensures ∙ ap (λ (e : ObjectEntry). is_device_size e.kind e.size) (sym here) in
    record {
      used = c.place-start.ensures.used;
      noted = pages-more image n c.place-start.result.offset c.is_device.result c.loop-number.starts.keys c.note.new.starts.keys device
          c.place-start.ensures.offset c.loop-number.invariant.noted c.in_ok-note.ensures;
    }

pub returns : goal.returns
returns c =
    let last = c.loop-number-test.false in
    let inside = c.loop-number.auto.number-end in
    let header = ap (λ (h : ImageHeader). h.objects) c.header_of-number-end.ensures.value in
    let all : c.loop-number.number ≡ c.args.image.now.header.objects = omega (arith, last, inside, header) in
    subst (λ (count : ℕ). AreDevicePages c.args.image.now count c.loop-number.starts.keys) all c.loop-number.invariant.noted
