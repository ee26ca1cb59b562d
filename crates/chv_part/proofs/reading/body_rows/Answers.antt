use Rattle.std.proofs.Common.{◌≡◌, ◌++◌, ◌<◌, ◌^◌, ◌∙◌, sym, rules, length}
use Rattle.std.proofs.lemmas.Result.{IfOk-weaker}
use Rattle.chv_part.specs.Columns.{head_spelling}
use Rattle.chv_part.proofs.PartLemmas.{body_agrees, few_rows}
use Rattle.chv_part.proofs.reading.body_rows.Goals as goal

pub returns-in-Some-clause-none : goal.returns-in-Some-clause-none
returns-in-Some-clause-none c =
    let kinds = c.args.kinds.now in
    let count = c.in-Some.count in
    let values = c.in-Some.values.now in
    let split : c.args.body.now ≡ head_spelling kinds count ++ values = search rules in
    let fits : (count < 2 ^ 64) × (length values < 2 ^ 64) = search rules in
    IfOk-weaker c.read_rows.result _ _ (λ read off none rows of same.
    let whole = sym split ∙ same in
    let agree = body_agrees kinds count rows values fits.0 (few_rows kinds count rows values c.requires.some of fits.1 whole) whole in
    off none rows (sym agree.0) (rw c.as_slice-in-Some.ensures of) (rw c.as_slice-in-Some.ensures agree.1)) c.read_rows.ensures.none
