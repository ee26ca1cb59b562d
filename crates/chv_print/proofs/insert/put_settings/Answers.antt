use Rattle.std.proofs.Common.{append_assoc}
use Rattle.chv_print.proofs.SettingLaws.{settings-parts}
use Rattle.chv_print.proofs.insert.put_settings.Goals as goal

pub returns : goal.returns
returns c = record {
  ok = rw (
    settings-parts,
    c.in_ok-put_size.ensures.ok,
    c.in_ok-any-5.ensures.any,
    c.in_ok-any-5.ensures.ok,
    c.in_ok-any-4.ensures.any,
    c.in_ok-any-4.ensures.ok,
    c.in_ok-any-3.ensures.any,
    c.in_ok-any-3.ensures.ok,
    c.in_ok-any-2.ensures.any,
    c.in_ok-any-2.ensures.ok,
    c.in_ok-any.ensures.any,
    c.in_ok-any.ensures.ok,
  ) (simp append_assoc);
}
