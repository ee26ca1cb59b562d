use Rattle.std.proofs.Common.{◌≡◌, ◌-◌}
use Rattle.chv_parse.specs.StatementReading.{read_settings_behind}
use Rattle.chv_parse.proofs.settings.settings_behind.Given as goal

-- reading on behind the settings so far is reading on behind the first ones
abbrev pub invariant-loop : goal.invariant-loop
invariant-loop l = read_settings_behind l.settings (l.count - l.counter) l.cursor ≡ read_settings_behind l.fn.front l.fn.count l.fn.cursor
