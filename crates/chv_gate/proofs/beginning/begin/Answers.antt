-- A sync and a read leave the frames as they are, and only a torn log is written.
use Rattle.std.proofs.Common.{◌≡◌, ◌≤◌, ◌∙◌, List, ℕ, length, true, sym, ap, arith}
use Rattle.chv_site.specs.Files.{FileState, settled, KeepsOthers}
use Rattle.chv_site.specs.Outside.{bytes_in}
use Rattle.chv_site.proofs.Images.{reads_image}
use Rattle.chv_gate.specs.GateLog.{HasFrames, is_torn}
use Rattle.chv_gate.proofs.CrashLemmas.{torn_begun, torn_short}
use Rattle.chv_gate.proofs.DuringLemmas.{during_sync, during_read, during_close}
use Rattle.chv_gate.proofs.beginning.begin.Goals as goal

pub returns-in_err-sync-clause-during : goal.returns-in_err-sync-clause-during
returns-in_err-sync-clause-during g c tells payloads leaves =
    let outside = g.W.Site.outside in
    during_sync c.args.f (outside c.args.site.now) (HasFrames payloads) leaves (outside c.sync.new.self) (c.sync.ensures.during tells)

pub returns-in_err-is_torn-clause-during : goal.returns-in_err-is_torn-clause-during
returns-in_err-is_torn-clause-during g c tells payloads leaves =
    let outside = g.W.Site.outside in
    during_read c.args.f (outside c.args.site.now) (HasFrames payloads) leaves (outside c.sync.new.self) (outside c.is_torn.new.site) (g.met.W.Site.reads c.args.site.now c.args.f)
    (c.in_ok-sync.ensures.durable tells) (c.sync.ensures.keeps.others tells) (c.sync.ensures.keeps.said tells) (c.sync.ensures.during tells) (c.is_torn.ensures.keeps.during tells)

pub returns-clause-during : goal.returns-clause-during
returns-clause-during g c tells payloads leaves =
    let outside = g.W.Site.outside in
    during_read c.args.f (outside c.args.site.now) (HasFrames payloads) leaves (outside c.sync.new.self) (outside c.is_torn.new.site) (g.met.W.Site.reads c.args.site.now c.args.f)
    (c.in_ok-sync.ensures.durable tells) (c.sync.ensures.keeps.others tells) (c.sync.ensures.keeps.said tells) (c.sync.ensures.during tells) (c.is_torn.ensures.keeps.during tells)

pub returns-then-branch-clause-during : goal.returns-then-branch-clause-during
returns-then-branch-clause-during g c tells payloads leaves =
    let f = c.args.f in
    let before = g.W.Site.outside c.args.site.now in
    let synced = g.W.Site.outside c.sync.new.self in
    let between = g.W.Site.outside c.is_torn.new.site in
    let lengths = g.met.W.Site.reads c.args.site.now f in
    let durable = c.in_ok-sync.ensures.durable tells in
    let read = during_read f before (HasFrames payloads) leaves synced between lengths durable
    (c.sync.ensures.keeps.others tells) (c.sync.ensures.keeps.said tells) (c.sync.ensures.during tells) (c.is_torn.ensures.keeps.during tells) in
    let is : between.files f ≡ settled (bytes_in before f) = c.is_torn.ensures.keeps.files tells f ∙ durable in
    let bytes : bytes_in between f ≡ bytes_in before f = ap (λ (s : FileState). s.bytes) is in
    let others : KeepsOthers f before.files between.files = λ g apart. c.is_torn.ensures.keeps.files tells g ∙ c.sync.ensures.keeps.others tells g apart in
    let torn : is_torn (bytes_in before f) ≡ true = ap (λ (s : FileState). is_torn s.bytes) (sym durable) ∙ sym (c.in_ok-is_torn.ensures.torn tells) ∙ c.if-branch.true in
    during_close f before (HasFrames payloads) leaves between (g.W.Site.outside c.write_synced.new.site) read
    (λ bytes write. torn_begun payloads (bytes_in before f) bytes (leaves (bytes_in before f) (reads_image (before.files f) lengths)) torn write) bytes
    others (c.is_torn.ensures.keeps.said tells ∙ c.sync.ensures.keeps.said tells) (c.write_synced.ensures.during tells (is ∙ ap settled (sym bytes)))

pub returns-in_err-sync-clause-short : goal.returns-in_err-sync-clause-short
returns-in_err-sync-clause-short g c tells most =
    let outside = g.W.Site.outside in
    during_sync c.args.f (outside c.args.site.now) (λ (bytes : List ℕ). length bytes ≤ 1) (λ bytes is. let long = is.no_longer in omega (arith, long, most)) (outside c.sync.new.self) (c.sync.ensures.during tells)

pub returns-in_err-is_torn-clause-short : goal.returns-in_err-is_torn-clause-short
returns-in_err-is_torn-clause-short g c tells most =
    let outside = g.W.Site.outside in
    during_read c.args.f (outside c.args.site.now) (λ (bytes : List ℕ). length bytes ≤ 1) (λ bytes is. let long = is.no_longer in omega (arith, long, most)) (outside c.sync.new.self) (outside c.is_torn.new.site) (g.met.W.Site.reads c.args.site.now c.args.f)
    (c.in_ok-sync.ensures.durable tells) (c.sync.ensures.keeps.others tells) (c.sync.ensures.keeps.said tells) (c.sync.ensures.during tells) (c.is_torn.ensures.keeps.during tells)

pub returns-clause-short : goal.returns-clause-short
returns-clause-short g c tells most =
    let outside = g.W.Site.outside in
    during_read c.args.f (outside c.args.site.now) (λ (bytes : List ℕ). length bytes ≤ 1) (λ bytes is. let long = is.no_longer in omega (arith, long, most)) (outside c.sync.new.self) (outside c.is_torn.new.site) (g.met.W.Site.reads c.args.site.now c.args.f)
    (c.in_ok-sync.ensures.durable tells) (c.sync.ensures.keeps.others tells) (c.sync.ensures.keeps.said tells) (c.sync.ensures.during tells) (c.is_torn.ensures.keeps.during tells)

pub returns-then-branch-clause-short : goal.returns-then-branch-clause-short
returns-then-branch-clause-short g c tells most =
    let f = c.args.f in
    let before = g.W.Site.outside c.args.site.now in
    let synced = g.W.Site.outside c.sync.new.self in
    let between = g.W.Site.outside c.is_torn.new.site in
    let lengths = g.met.W.Site.reads c.args.site.now f in
    let durable = c.in_ok-sync.ensures.durable tells in
    let read = during_read f before (λ (bytes : List ℕ). length bytes ≤ 1) (λ bytes is. let long = is.no_longer in omega (arith, long, most)) synced between lengths durable
    (c.sync.ensures.keeps.others tells) (c.sync.ensures.keeps.said tells) (c.sync.ensures.during tells) (c.is_torn.ensures.keeps.during tells) in
    let is : between.files f ≡ settled (bytes_in before f) = c.is_torn.ensures.keeps.files tells f ∙ durable in
    let bytes : bytes_in between f ≡ bytes_in before f = ap (λ (s : FileState). s.bytes) is in
    let others : KeepsOthers f before.files between.files = λ g apart. c.is_torn.ensures.keeps.files tells g ∙ c.sync.ensures.keeps.others tells g apart in
    during_close f before (λ (bytes : List ℕ). length bytes ≤ 1) (λ bytes is. let long = is.no_longer in omega (arith, long, most)) between (g.W.Site.outside c.write_synced.new.site) read
    (λ bytes write. let long = write.no_longer in let reads = lengths.no_longer in omega (arith, long, reads, most)) bytes
    others (c.is_torn.ensures.keeps.said tells ∙ c.sync.ensures.keeps.said tells) (c.write_synced.ensures.during tells (is ∙ ap settled (sym bytes)))

-- a log of two bytes or more is not torn
pub returns-then-branch-clause-kept : goal.returns-then-branch-clause-kept
returns-then-branch-clause-kept g c tells long =
    let before = bytes_in (g.W.Site.outside c.args.site.now) c.args.f in
    let torn : is_torn before ≡ true = ap (λ (s : FileState). is_torn s.bytes) (sym (c.in_ok-sync.ensures.durable tells)) ∙ sym (c.in_ok-is_torn.ensures.torn tells) ∙ c.if-branch.true in
    absurd (omega (arith, long, torn_short before torn))
