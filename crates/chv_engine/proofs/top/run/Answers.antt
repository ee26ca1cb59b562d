-- The script is run, or no call of the site was made.
use Rattle.std.proofs.Common.{◌⊎◌, ℕ, List, Err, sym, subst, ◌∙◌}
use Rattle.chv_history.specs.Script.{requests_of}
use Rattle.chv_site.specs.Images.{Image}
use Rattle.chv_site.specs.Outside.{bytes_in}
use Rattle.chv_flight.specs.declared.fault.RunFault.{RunFault}
use Rattle.chv_engine.specs.Damage.{FirstMeets, IsOpeningDamaged}
use Rattle.chv_engine.specs.Telling.{TellsOrFails}
use Rattle.chv_engine.proofs.GuaranteeLemmas.{untouched_whole}
use Rattle.chv_engine.proofs.top.run.Goals as goal

-- damage that a script meets
abbrev Meets : Image → List ℕ → List ℕ → Type 0
Meets files line script = IsOpeningDamaged files line ⊎ FirstMeets files (requests_of script) line

pub returns-in-Ok-true-clause-meets : goal.returns-in-Ok-true-clause-meets
returns-in-Ok-true-clause-meets g c = λ tells told short calm line damaged.
    let script = c.from_vec.ensures ∙ (c.in-Ok.ensures.script tells).0 in
    c.in-Ok-true.ensures.meets told line (subst (Meets (bytes_in (g.W.Site.outside c.args.site.now)) line) (sym script) damaged)

pub returns-in-Ok-false-clause-meets : goal.returns-in-Ok-false-clause-meets
returns-in-Ok-false-clause-meets g c = λ tells told short calm line damaged.
    let script = c.from_vec.ensures ∙ (c.in-Ok.ensures.script tells).0 in
    c.in-Ok-false.ensures.meets told line (subst (Meets (bytes_in (g.W.Site.outside c.args.site.now)) line) (sym script) damaged)

pub returns-in-Err-Damaged-clause-meets : goal.returns-in-Err-Damaged-clause-meets
returns-in-Err-Damaged-clause-meets g c = λ tells told short calm line damaged.
    let old = g.W.Site.outside c.args.site.now in
    let new = g.W.Site.outside c.run_script.new.site in
    let script = c.from_vec.ensures ∙ (c.in-Ok.ensures.script tells).0 in
    subst (λ (fault : RunFault). TellsOrFails (Err fault) old.said new.said line) c.in-Err-Damaged.field-0-is
    (c.in-Err-Damaged.ensures.meets told line (subst (Meets (bytes_in old) line) (sym script) damaged))

-- nothing was run
pub returns-in-Err-Failed-clause-during : goal.returns-in-Err-Failed-clause-during
returns-in-Err-Failed-clause-during g c = λ tells told history settles.
    let S = g.W.Site in
    untouched_whole (g.S.Source.left c.args.source.now) history (S.outside c.args.site.now) settles (g.met.W.Site.only_now c.args.site.now)

pub returns-in-Err-TooLong-clause-during : goal.returns-in-Err-TooLong-clause-during
returns-in-Err-TooLong-clause-during g c = λ tells told history settles.
    let S = g.W.Site in
    untouched_whole (g.S.Source.left c.args.source.now) history (S.outside c.args.site.now) settles (g.met.W.Site.only_now c.args.site.now)

pub returns-in-Err-NoMemory-clause-during : goal.returns-in-Err-NoMemory-clause-during
returns-in-Err-NoMemory-clause-during g c = λ tells told history settles.
    let S = g.W.Site in
    untouched_whole (g.S.Source.left c.args.source.now) history (S.outside c.args.site.now) settles (g.met.W.Site.only_now c.args.site.now)
