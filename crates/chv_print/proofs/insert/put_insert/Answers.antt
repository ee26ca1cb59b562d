use Rattle.std.proofs.Common.{append_assoc}
use Rattle.chv_print.specs.StatementTexts.{insert_text}
use Rattle.chv_print.proofs.insert.put_insert.Goals as goal

pub returns : goal.returns
unfolding insert_text
returns c = record {
  ok = simp (
    c.in_ok-put_list.ensures.ok,
    c.as_slice-2.ensures,
    c.in_ok-extend_from_slice-2.ensures.items,
    c.in_ok-put_settings.ensures.ok,
    c.in_ok-put_optional.ensures.ok,
    c.in_ok-put_name.ensures.ok,
    c.as_slice.ensures,
    c.in_ok-extend_from_slice.ensures.items,
    append_assoc,
  );
}
