use Rattle.std.proofs.Common.{append_assoc}
use Rattle.chv_print.proofs.insert.put_token.Goals as goal

pub returns-in_ok-put_quoted-in-Some-clause-ok : goal.returns-in_ok-put_quoted-in-Some-clause-ok
returns-in_ok-put_quoted-in-Some-clause-ok c =
    rw c.in-Some.is
    (simp (c.in_ok-put_quoted-in-Some.ensures.ok, c.as_slice.ensures, c.in_ok-extend_from_slice-in-Some.ensures.items, append_assoc))
