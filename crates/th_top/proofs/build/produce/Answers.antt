use Rattle.std.proofs.Common.{◌∙◌}
use Rattle.th_top.proofs.Producing.{file_loadable, loaded_of}
use Rattle.th_top.proofs.build.produce.Goals as goal

pub load-requires : goal.load-requires
load-requires c = file_loadable c.in_ok-image.image c.deref.result.now c.in_ok-image.ensures.lawful (c.deref.ensures.value ∙ c.in_ok-bytes.ensures.form)

pub returns : goal.returns
returns c = record {
  image = c.in_ok-image.image;
  agrees = c.in_ok-image.ensures.agrees;
  ends = c.in_ok-image.ensures.ends;
  lawful = c.in_ok-image.ensures.lawful;
  bytes = c.in_ok-bytes.ensures.form;
  loaded = loaded_of c.in_ok-image.image c.in_ok-bytes.bytes.items c.deref.result.now c.in_ok-machine.machine c.in_ok-bytes.ensures.form c.deref.ensures.value c.in_ok-machine.ensures;
}
