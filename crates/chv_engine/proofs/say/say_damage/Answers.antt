-- Damage is told, where there is memory for its line.
use Rattle.std.proofs.Common.{◌≡◌}
use Rattle.chv_engine.proofs.TellingLemmas.{no_line}
use Rattle.chv_engine.proofs.say.say_damage.Goals as goal

pub returns-in-Err : goal.returns-in-Err
returns-in-Err g c =
    let S = g.W.Site in
    no_line S.tells (c.args.site.now ≡ c.args.site.now) c.args.schema.now.catalog.tables c.args.damage (S.outside c.args.site.now) (g.met.W.Site.only_now c.args.site.now)
