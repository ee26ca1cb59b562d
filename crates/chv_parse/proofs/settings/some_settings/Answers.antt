use Rattle.std.proofs.Common.{ℕ, sym, ap, ◌∙◌}
use Rattle.std.proofs.lemmas.Result.{err_from_is_err_and}
use Rattle.chv_ast.specs.declared.statement.Settings.{Settings}
use Rattle.chv_parse.specs.StatementReading.{read_setting, read_with, read_settings_behind, read_some_settings}
use Rattle.chv_parse.proofs.ListedLemmas.{reads_err, reads_same}
use Rattle.chv_parse.proofs.SettingsLemmas.{some_settings_read, some_settings_none}
use Rattle.chv_parse.proofs.settings.some_settings.Goals as goal

pub returns-in_err-first : goal.returns-in_err-first
returns-in_err-first c =
    let p = err_from_is_err_and c.from_residual.result c.from_residual.ensures.1 in
    let tokens = c.args.cursor.now in
    let same = ap (λ (s : Settings). read_with read_setting s tokens) (sym c.default_settings.ensures) in
    rw (p.1, p.2) (reads_err (read_with read_setting c.default_settings.result) read_some_settings tokens c.setting.new.cursor tokens c.setting.new.cursor _
    c.in_err-first.ensures (λ n. some_settings_none tokens (same ∙ n)))

pub returns : goal.returns
returns c =
    let tokens = c.args.cursor.now in
    let same = ap (λ (s : Settings). read_with read_setting s tokens) (sym c.default_settings.ensures) in
    let read = some_settings_read tokens c.setting.new.cursor c.in_ok-first.first (same ∙ c.in_ok-first.ensures) in
    let count = ap (λ (n : ℕ). read_settings_behind c.in_ok-first.first n c.setting.new.cursor) (sym c.count-count.ensures) in
    reads_same (read_settings_behind c.in_ok-first.first c.count-count.result) read_some_settings c.setting.new.cursor tokens c.settings_behind.new.cursor c.settings_behind.result
    (read ∙ count) c.settings_behind.ensures
