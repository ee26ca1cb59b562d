use Rattle.std.proofs.Common.{◌≡◌, ◌∙◌, ℕ, List, length, take, min, ap, refl, arith}
use Rattle.chv_site.specs.Files.{FileState}
use Rattle.chv_site.specs.Outside.{bytes_in}
use Rattle.chv_part.proofs.PartLemmas.{no_frame}
use Rattle.chv_part.proofs.reading.read_frame.Goals as goal

pub returns-in-None-clause-shape : goal.returns-in-None-clause-shape
returns-in-None-clause-shape g c = λ tells is.
    let old = bytes_in (g.W.Site.outside c.args.site.now) c.args.f in
    let mid = bytes_in (g.W.Site.outside c.size.new.self) c.args.f in
    let same : mid ≡ old = ap (λ (s : FileState). s.bytes) (c.in_ok-size.ensures.keeps.files tells c.args.f) in
    let counts : c.in_ok-count.count ≡ min 24 c.in_ok-size.size =
    omega (arith, c.in_ok-count.ensures.count tells, ap length same, c.in_ok-size.ensures.size tells) in
    let read : take c.in_ok-count.count c.fetch.new.buf ≡ take c.in_ok-count.count old =
    c.in_ok-count.ensures.bytes tells ∙ ap (λ (l : List ℕ). take c.in_ok-count.count l) same in
    no_frame old (take c.in_ok-count.count c.fetch.new.buf) c.in_ok-size.size c.in_ok-count.count (c.in_ok-size.ensures.size tells) counts read (c.in-None.ensures.none refl)
