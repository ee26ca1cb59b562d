use Rattle.std.proofs.Common.{append_assoc}
use Rattle.chv_print.specs.StatementTexts.{select_text}
use Rattle.chv_print.proofs.select.put_select.Goals as goal

pub returns : goal.returns
unfolding select_text
returns c = record {
  ok = rw (
    c.in_ok-put_digits.ensures.ok,
    c.in_ok-put_list_behind-2.ensures.ok,
    c.as_slice-4.ensures,
    c.in_ok-put_list_behind.ensures.ok,
    c.as_slice-3.ensures,
    c.in_ok-put_optional.ensures.ok,
    c.in_ok-put_flag.ensures.ok,
    c.in_ok-put_name.ensures.ok,
    c.as_slice-2.ensures,
    c.in_ok-extend_from_slice-2.ensures.items,
    c.in_ok-put_list.ensures.ok,
    c.as_slice.ensures,
    c.in_ok-extend_from_slice.ensures.items,
  )
      (simp append_assoc);
}
