use Rattle.std.proofs.Common.{◌≡◌, ◌+◌, ◌++◌, ℕ, length, take, drop, sym, ◌∙◌, ap, subst, arith, rules}
use Rattle.std.proofs.lemmas.List.{take_at, take_all}
use Rattle.chv_site.specs.Images.{IsLeft}
use Rattle.chv_site.specs.Outside.{bytes_in}
use Rattle.chv_site.proofs.Moments.{started}
use Rattle.chv_gate.proofs.GateLogLemmas.{length-frame_of}
use Rattle.chv_gate.proofs.ReadingLemmas.{followed}
use Rattle.chv_gate.proofs.reading.read_body.Goals as goal

pub returns-clause-read : goal.returns-clause-read
returns-clause-read g c tells =
    let size = c.args.size in
    let held = c.fetch.new.buf in
    let sized : c.in_ok-payload.payload.len ≡ size = c.in_ok-payload.ensures.len in
    let long : length held ≡ size = c.fetch.auto.buf ∙ c.deref_mut.ensures.len ∙ sized in
    let count : c.in_ok-count.count ≡ size = omega (arith, sized, long, c.fetch.auto.buf, c.in_ok-count.ensures.within, c.len.ensures, c.if-count-len.false) in
    let file = bytes_in (g.W.Site.outside c.args.site.now) c.args.f in
    let payload = take c.in_ok-payload.payload.len (held ++ drop (length held) c.in_ok-payload.payload.items) in
    let whole : payload ≡ held = take_at held (drop (length held) c.in_ok-payload.payload.items) c.in_ok-payload.payload.len (long ∙ sym sized) in
    let read : held ≡ take size (drop (c.args.gate + 5) file) =
    sym (take_all size held (omega (arith, long))) ∙ subst (λ (n : ℕ). take n held ≡ take n (drop (c.args.gate + 5) file)) count (c.in_ok-count.ensures.bytes tells) in (
      (c.requires.announced tells).opened,
      followed c.args.gate size file payload c.requires.sized.0 c.requires.sized.1 (c.requires.announced tells) (whole ∙ read),
    )

pub returns-clause-forward : goal.returns-clause-forward
returns-clause-forward g c =
    let held = c.fetch.new.buf in
    let sized : c.in_ok-payload.payload.len ≡ c.args.size = c.in_ok-payload.ensures.len in
    let full : length held ≡ c.args.size = c.fetch.auto.buf ∙ c.deref_mut.ensures.len ∙ sized in
    let payload = take c.in_ok-payload.payload.len (held ++ drop (length held) c.in_ok-payload.payload.items) in
    let whole : payload ≡ held = take_at held (drop (length held) c.in_ok-payload.payload.items) c.in_ok-payload.payload.len (full ∙ sym sized) in
    let long : length payload ≡ c.args.size = ap length whole ∙ full in (
      record { some = omega (arith, long, c.requires.sized.0); most = omega (arith, long, c.requires.sized.1) },
      omega (arith, long, length-frame_of payload),
    )

-- there was no memory, and no call of the site
pub returns-in_err-payload-clause-keeps : goal.returns-in_err-payload-clause-keeps
returns-in_err-payload-clause-keeps g c =
    let before = g.W.Site.outside c.args.site.now in
    record {
      files = search rules;
      said = search rules;
      during = λ _. started before (IsLeft before.files before.said) (λ image text left. g.met.W.Site.only_now c.args.site.now image text left);
      counts = search rules;
    }
