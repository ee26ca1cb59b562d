use Rattle.std.proofs.Common.{◌≡◌, ◌-◌, min, ℕ, List, length, take, drop, refl, sym, ◌∙◌, ap, subst, arith, rules}
use Rattle.chv_site.specs.Files.{FileState}
use Rattle.chv_site.specs.Outside.{bytes_in}
use Rattle.chv_site.specs.Effects.{OnlyReads}
use Rattle.chv_gate.specs.Reading.{HasLength, IsAnnounced}
use Rattle.chv_gate.proofs.EffectLemmas.{reads_on}
use Rattle.chv_gate.proofs.ReadingLemmas.{opened, announced, has_length}
use Rattle.chv_gate.proofs.reading.step.Goals as goal

pub read_body-requires-clause-announced : goal.read_body-requires-clause-announced
read_body-requires-clause-announced g c tells =
    let gate = c.args.gate in
    let count = c.in_ok-count.count in
    let head = c.fetch.new.buf in
    let file = bytes_in (g.W.Site.outside c.size.new.self) c.args.f in
    let later : bytes_in (g.W.Site.outside c.fetch.new.self) c.args.f ≡ file = ap (λ (s : FileState). s.bytes) (c.in_ok-count.ensures.keeps.files tells c.args.f) in
    let size : c.in_ok-file_size.file_size ≡ length file =
    c.in_ok-file_size.ensures.size tells ∙ ap (λ (s : FileState). length s.bytes) (sym (c.in_ok-file_size.ensures.keeps.files tells c.args.f)) in
    let read = c.in_ok-count.ensures.bytes tells in
    let open_gate = opened gate count head file (omega (arith, size)) (omega arith) read c.if-head-ne-OPEN.false in
    subst (λ (l : List ℕ). IsAnnounced gate c.in-Some.size l) (sym later)
    (announced gate c.in-Some.size count head file (omega arith) read open_gate
    (subst (λ (n : ℕ). HasLength c.in-Some.size (take (count - 1) (drop 1 head)) (n - gate - 1)) size c.in-Some.ensures.some))

pub returns-in-None-clause-damaged : goal.returns-in-None-clause-damaged
returns-in-None-clause-damaged g c tells =
    let gate = c.args.gate in
    let count = c.in_ok-count.count in
    let head = c.fetch.new.buf in
    let file = bytes_in (g.W.Site.outside c.args.site.now) c.args.f in
    let same : bytes_in (g.W.Site.outside c.size.new.self) c.args.f ≡ file = ap (λ (s : FileState). s.bytes) (c.in_ok-file_size.ensures.keeps.files tells c.args.f) in
    let size = c.in_ok-file_size.ensures.size tells in
    let read = c.in_ok-count.ensures.bytes tells ∙ ap (λ (l : List ℕ). take count (drop gate l)) same in
    let counts : count ≡ _ = c.in_ok-count.ensures.count tells in (
      refl,
      opened gate count head file (omega (arith, size)) (omega arith) read c.if-head-ne-OPEN.false,
      λ payload next follows. c.in-None.ensures.none refl (length payload)
          (subst (λ (n : ℕ). HasLength (length payload) (take (count - 1) (drop 1 head)) (n - gate - 1)) (sym size)
          (has_length gate count payload next head file (counts ∙ ap (λ (l : List ℕ). min 5 (length l - gate)) same) read follows)),
    )

-- the file's size, the gate with the length behind it, and the payload
pub returns-in-Some-clause-keeps : goal.returns-in-Some-clause-keeps
returns-in-Some-clause-keeps g c =
    let S = g.W.Site in
    let before = S.outside c.args.site.now in
    let sized = S.outside c.size.new.self in
    let headed = S.outside c.fetch.new.self in
    let head : OnlyReads S.tells ⊥ before headed = reads_on _ _ ⊥ before sized headed (search rules) (search rules) (search rules) S.tells c.size.ensures.keeps c.fetch.ensures.keeps in
    reads_on ⊥ _ _ before headed (S.outside c.read_body.new.site) (λ no. no) (λ is. is) (λ is. is) S.tells head c.read_body.ensures.keeps
