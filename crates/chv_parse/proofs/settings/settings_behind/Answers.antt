use Rattle.std.proofs.Common.{◌≡◌, ◌<◌, ◌≤◌, true, false, sym, ap, ◌∙◌, arith}
use Rattle.std.specs.Prelude.{codes}
use Rattle.std.proofs.lemmas.Result.{err_from_is_err_and}
use Rattle.chv_parse.specs.ExprReading.{sign_next}
use Rattle.chv_parse.specs.StatementReading.{read_setting, read_with, read_settings_behind}
use Rattle.chv_parse.proofs.ListedLemmas.{reads_err}
use Rattle.chv_parse.proofs.SettingsLemmas.{settings_end, settings_go_on, settings_break, settings_done}
use Rattle.chv_parse.proofs.settings.settings_behind.Goals as goal

pub returns-then-not-next_is_sign : goal.returns-then-not-next_is_sign
returns-then-not-next_is_sign c =
    let h : c.loop.counter < c.args.count = omega arith in
    let e : sign_next (codes ",") c.loop.cursor ≡ false = cc in
    sym c.loop.invariant ∙ settings_end _ _ _ _ h e

pub returns-in_err-settings : goal.returns-in_err-settings
returns-in_err-settings c =
    let h : c.loop.counter < c.args.count = omega arith in
    let e : sign_next (codes ",") c.loop.cursor ≡ true = cc in
    let p = err_from_is_err_and c.from_residual.result c.from_residual.ensures.1 in
    let r = read_with read_setting c.loop.settings in
    rw (p.1, p.2) (reads_err r (read_settings_behind c.args.front c.args.count) c.pass.new.self c.setting.new.cursor c.args.cursor.now c.setting.new.cursor _
    c.in_err-settings.ensures (λ n. sym c.loop.invariant ∙ settings_break _ _ _ _ h e (ap r (sym c.pass.ensures) ∙ n)))

pub loop-preserved : goal.loop-preserved
loop-preserved c =
    let h : c.loop.counter < c.args.count = omega arith in
    let e : sign_next (codes ",") c.loop.cursor ≡ true = cc in
    let k = ap (read_with read_setting c.loop.settings) (sym c.pass.ensures) ∙ c.in_ok-settings.ensures in
    settings_go_on _ _ _ _ _ _ h e k ∙ c.loop.invariant

pub returns : goal.returns
returns c =
    let h : c.args.count ≤ c.loop.counter = omega arith in
    sym c.loop.invariant ∙ settings_done _ _ _ _ h
