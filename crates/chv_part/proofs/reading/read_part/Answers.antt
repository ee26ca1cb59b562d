use Rattle.std.proofs.Common.{◌≡◌, ◌≢◌, ◌∙◌, List, ap, subst, sym}
use Rattle.std.proofs.lemmas.Result.{err_from_is_err_and}
use Rattle.chv_site.specs.Outside.{bytes_in}
use Rattle.chv_block.specs.Spellings.{AllAreOf}
use Rattle.chv_types.specs.declared.kind.Kind.{Kind}
use Rattle.chv_types.specs.declared.value.Value.{Value}
use Rattle.chv_part.specs.Parts.{part_body, framed}
use Rattle.chv_part.proofs.PartLemmas.{frameless, off_body, read_of_frame}
use Rattle.chv_part.proofs.reading.read_part.Goals as goal

-- a file whose frame has another length
pub returns-in_err-frame-clause-shape : goal.returns-in_err-frame-clause-shape
returns-in_err-frame-clause-shape g c =
    let p = err_from_is_err_and c.from_residual.result c.from_residual.ensures.1 in
    rw (p.1, p.2) (λ tells is form same. frameless form (bytes_in (g.W.Site.outside c.args.site.now) c.args.f) (c.in_err-frame.ensures.shape tells cc))

pub returns-clause-read : goal.returns-clause-read
returns-clause-read g c = λ tells.
    let kept = c.in_ok-frame.frame.kept in
    let is : bytes_in (g.W.Site.outside c.args.site.now) c.args.f ≡ framed kept c.deref.result.now = c.in_ok-frame.ensures.read tells ∙ ap (framed kept) (sym c.deref.ensures.value) in
    read_of_frame c.args.kinds.now (bytes_in (g.W.Site.outside c.args.site.now) c.args.f) (framed kept c.deref.result.now) c.framed_rows.result is c.framed_rows.ensures.read c.framed_rows.ensures.kinds

pub returns-clause-differ : goal.returns-clause-differ
returns-clause-differ g c = λ kept found is. (c.framed_rows.ensures.hash kept found is).differ

pub returns-clause-shape : goal.returns-clause-shape
returns-clause-shape g c = λ tells is form same.
    let kept = c.in_ok-frame.frame.kept in
    let body = c.deref.result.now in
    let framed_is : bytes_in (g.W.Site.outside c.args.site.now) c.args.f ≡ framed kept body = c.in_ok-frame.ensures.read tells ∙ ap (framed kept) (sym c.deref.ensures.value) in
    let none : (rows : List (List Value)) → AllAreOf form.kinds rows → body ≢ part_body form.kinds rows =
    subst (λ (ks : List Kind). (rows : List (List Value)) → AllAreOf ks rows → body ≢ part_body ks rows) (sym same) (c.framed_rows.ensures.shape is) in
    off_body form (bytes_in (g.W.Site.outside c.args.site.now) c.args.f) kept body framed_is (c.framed_rows.ensures.right is) none
