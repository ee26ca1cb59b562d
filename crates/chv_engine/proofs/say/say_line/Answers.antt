-- A line that tells damage is said, or not.
use Rattle.std.proofs.Common.{◌≡◌}
use Rattle.chv_engine.proofs.TellingLemmas.{line_failed, line_said}
use Rattle.chv_engine.proofs.say.say_line.Goals as goal

pub returns-in-Ok : goal.returns-in-Ok
returns-in-Ok g c = λ tables is.
    let S = g.W.Site in
    line_said S.tells (c.reply.new.site ≡ c.args.site.now) tables c.args.damage c.args.line.now c.in-Ok.field-0 (S.outside c.args.site.now) (S.outside c.reply.new.site) c.in-Ok.ensures is

pub returns-in-Err : goal.returns-in-Err
returns-in-Err g c = λ tables is.
    let S = g.W.Site in
    line_failed S.tells (c.reply.new.site ≡ c.args.site.now) tables c.args.damage c.args.line.now c.in-Err.fault (S.outside c.args.site.now) (S.outside c.reply.new.site) c.in-Err.ensures is
