use Rattle.chv_expr.proofs.MeansLemmas.{Binds-truth}
use Rattle.chv_expr.proofs.literal.bind_literal.Goals as goal

pub returns-in-Whole : goal.returns-in-Whole
returns-in-Whole c = rw (c.in-Whole.is, ← c.as_slice.ensures) c.bind_whole.ensures

pub returns-in-Quoted : goal.returns-in-Quoted
returns-in-Quoted c = rw (c.in-Quoted.is, ← c.as_slice-in-Quoted.ensures) c.bind_text.ensures

pub returns-in_ok-constant-in-Truth : goal.returns-in_ok-constant-in-Truth
returns-in_ok-constant-in-Truth c = rw c.in-Truth.is (λ columns. Binds-truth columns c.in-Truth.truth c.in_ok-constant-in-Truth.field-0 c.in_ok-constant-in-Truth.ensures.kind c.in_ok-constant-in-Truth.ensures.tree)
