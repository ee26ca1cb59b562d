-- A frame behind the standing gate is no frame yet; the gate in front of it, once it is opened, makes it one.
use Rattle.std.proofs.Common.{◌≡◌, ◌+◌, ℕ, List, [], ◌∷◌, ◌++◌, length, sym, ◌∙◌, ap, subst}
use Rattle.chv_site.specs.Files.{FileState, settled, over_written}
use Rattle.chv_site.specs.Outside.{bytes_in}
use Rattle.chv_gate.specs.GateLog.{OPEN, IsReady}
use Rattle.chv_gate.proofs.DuringLemmas.{during_frame, during_open}
use Rattle.chv_gate.proofs.GateLogLemmas.{appended}
use Rattle.chv_gate.proofs.log.Log.append.Goals as goal

pub returns-clause-appended : goal.returns-clause-appended
returns-clause-appended g c tells payloads payload ready sized is =
    let gate = c.args.self.now.gate in
    let before = (g.W.Site.outside c.args.site.now).files c.args.self.now.file in
    let behind : bytes_in (g.W.Site.outside c.write_synced.new.site) c.args.self.now.file ≡ over_written (gate + 1) c.args.frame.now before.bytes =
    ap (λ (s : FileState). s.bytes) (c.in_ok-write_synced.ensures.written tells) in
    let after = c.in_ok-write_synced-2.ensures.written tells ∙ ap (λ (l : List ℕ). settled (over_written gate (OPEN ∷ []) l)) behind in
    subst (λ (s : FileState). IsReady (gate + length c.args.frame.now) (payloads ++ payload ∷ []) s) (sym after)
    (subst (λ (f : List ℕ). IsReady (gate + length f) (payloads ++ payload ∷ []) (settled (over_written gate (OPEN ∷ []) (over_written (gate + 1) f before.bytes)))) (sym is)
    (appended gate payloads payload before ready sized))

pub returns-in_err-write_synced-clause-during : goal.returns-in_err-write_synced-clause-during
returns-in_err-write_synced-clause-during g c tells payloads payload ready sized is =
    let outside = g.W.Site.outside in
    during_frame c.args.self.now.file (outside c.args.site.now) payloads c.args.self.now.gate payload ready (length c.args.frame.now) (outside c.write_synced.new.site)
    (c.write_synced.ensures.during tells ready.whole)

pub returns-in_err-write_synced-2-clause-during : goal.returns-in_err-write_synced-2-clause-during
returns-in_err-write_synced-2-clause-during g c tells payloads payload ready sized is =
    let f = c.args.self.now.file in
    let gate = c.args.self.now.gate in
    let before = g.W.Site.outside c.args.site.now in
    let between = g.W.Site.outside c.write_synced.new.site in
    let framed = during_frame f before payloads gate payload ready (length c.args.frame.now) between (c.write_synced.ensures.during tells ready.whole) in
    let behind : bytes_in between f ≡ over_written (gate + 1) c.args.frame.now (bytes_in before f) = ap (λ (s : FileState). s.bytes) (c.in_ok-write_synced.ensures.written tells) in
    during_open f before payloads gate payload ready between (g.W.Site.outside c.write_synced-2.new.site) sized framed
    (behind ∙ ap (λ (l : List ℕ). over_written (gate + 1) l (bytes_in before f)) is) (c.write_synced.ensures.keeps.others tells) (c.write_synced.ensures.keeps.said tells)
    (c.write_synced-2.ensures.during tells (c.in_ok-write_synced.ensures.written tells ∙ ap settled (sym behind)))

pub returns-clause-during : goal.returns-clause-during
returns-clause-during g c tells payloads payload ready sized is =
    let f = c.args.self.now.file in
    let gate = c.args.self.now.gate in
    let before = g.W.Site.outside c.args.site.now in
    let between = g.W.Site.outside c.write_synced.new.site in
    let framed = during_frame f before payloads gate payload ready (length c.args.frame.now) between (c.write_synced.ensures.during tells ready.whole) in
    let behind : bytes_in between f ≡ over_written (gate + 1) c.args.frame.now (bytes_in before f) = ap (λ (s : FileState). s.bytes) (c.in_ok-write_synced.ensures.written tells) in
    during_open f before payloads gate payload ready between (g.W.Site.outside c.write_synced-2.new.site) sized framed
    (behind ∙ ap (λ (l : List ℕ). over_written (gate + 1) l (bytes_in before f)) is) (c.write_synced.ensures.keeps.others tells) (c.write_synced.ensures.keeps.said tells)
    (c.write_synced-2.ensures.during tells (c.in_ok-write_synced.ensures.written tells ∙ ap settled (sym behind)))
