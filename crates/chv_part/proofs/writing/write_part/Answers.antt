-- The cut leaves nothing for the put to write over.
use Rattle.std.proofs.Common.{◌≡◌, ◌∙◌, ap, subst, OnOk, List, ℕ}
use Rattle.chv_site.specs.Files.{settled, over_written}
use Rattle.chv_site.specs.Outside.{bytes_in}
use Rattle.chv_part.proofs.WritingLemmas.{first_on_one, next_on_one, others_kept_on}
use Rattle.chv_part.proofs.FileLemmas.{over_written-nil}
use Rattle.chv_part.proofs.writing.write_part.Goals as goal

pub returns-clause-written : goal.returns-clause-written
returns-clause-written g c = λ tells.
    let bytes = c.args.bytes.now in
    let put : bytes_in (g.W.Site.outside c.put.new.self) c.args.f ≡ bytes =
    c.in_ok-put.ensures.put tells ∙ ap (over_written 0 bytes) (c.in_ok-cut.ensures.cut tells) ∙ over_written-nil bytes in
    subst (λ (b : List ℕ). OnOk c.sync.result ((g.W.Site.outside c.sync.new.self).files c.args.f ≡ settled b)) put (c.sync.ensures.durable tells)

-- the part's file may be torn at any moment, and the others stay
pub returns-in_err-cut-clause-during : goal.returns-in_err-cut-clause-during
returns-in_err-cut-clause-during g c = λ tells.
    first_on_one c.args.f (g.W.Site.outside c.args.site.now) (g.W.Site.outside c.cut.new.self) (c.in_err-cut.ensures.during tells) (c.in_err-cut.ensures.keeps.others tells)

pub returns-in_err-put-clause-during : goal.returns-in_err-put-clause-during
returns-in_err-put-clause-during g c = λ tells.
    let f = c.args.f in
    let old = g.W.Site.outside c.args.site.now in
    let cut = g.W.Site.outside c.cut.new.self in
    let put = g.W.Site.outside c.put.new.self in
    let first = first_on_one f old cut (c.in_ok-cut.ensures.during tells) (c.in_ok-cut.ensures.keeps.others tells) in
    next_on_one f old cut put put.files first (c.in_err-put.ensures.during tells)
    (others_kept_on f old.files cut.files put.files (c.in_ok-cut.ensures.keeps.others tells) (c.in_err-put.ensures.keeps.others tells)) (c.in_ok-cut.ensures.keeps.said tells)

pub returns-clause-during : goal.returns-clause-during
returns-clause-during g c = λ tells.
    let f = c.args.f in
    let old = g.W.Site.outside c.args.site.now in
    let cut = g.W.Site.outside c.cut.new.self in
    let put = g.W.Site.outside c.put.new.self in
    let kept = others_kept_on f old.files cut.files put.files (c.in_ok-cut.ensures.keeps.others tells) (c.in_ok-put.ensures.keeps.others tells) in
    let first = first_on_one f old cut (c.in_ok-cut.ensures.during tells) (c.in_ok-cut.ensures.keeps.others tells) in
    let second = next_on_one f old cut put put.files first (c.in_ok-put.ensures.during tells) kept (c.in_ok-cut.ensures.keeps.said tells) in
    next_on_one f old put (g.W.Site.outside c.sync.new.self) put.files second (c.sync.ensures.during tells) kept (c.in_ok-put.ensures.keeps.said tells ∙ c.in_ok-cut.ensures.keeps.said tells)
