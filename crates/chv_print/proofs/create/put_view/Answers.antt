use Rattle.std.proofs.Common.{append_assoc}
use Rattle.chv_print.specs.StatementTexts.{view_text}
use Rattle.chv_print.proofs.create.put_view.Goals as goal

pub returns : goal.returns
unfolding view_text
returns c = record {
  ok = simp (
    c.in_ok-put_select.ensures.ok,
    c.in_ok-extend_from_slice-3.ensures.items,
    c.in_ok-put_name-2.ensures.ok,
    c.as_slice-2.ensures,
    c.in_ok-extend_from_slice-2.ensures.items,
    c.in_ok-put_name.ensures.ok,
    c.as_slice.ensures,
    c.in_ok-extend_from_slice.ensures.items,
    append_assoc,
  );
}
