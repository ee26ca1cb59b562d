-- The text of settings, one behind the other.
use Rattle.std.specs.Prelude.{ℕ, Bool, true, false, ◌||◌, not, if◌then◌else◌, List, [], ◌++◌, codes, Option, Some, None, is_some, option_map, ◌≡◌}
use Rattle.std.specs.List.{flat_map, cons_option}
use Rattle.std.proofs.Common.{refl, ◌∙◌, ap, append-nil}
use Rattle.chv_ast.specs.GrammarStatements.{Setting, Token, Later, Waits, MaxRows, MinRows, MinBytes}
use Rattle.chv_ast.specs.declared.statement.Settings.{Settings}
use Rattle.chv_print.specs.Texts.{◌<>◌, list_text, optional_text, quoted_text}
use Rattle.chv_print.specs.StatementTexts.{wanted, printed, setting_mark, setting_text, settings_text, digits_text}

-- settings with others in front of them, or none
behind : (others : Bool) → List Setting → List ℕ
behind true settings = flat_map (λ setting. codes ", " ++ setting_text setting) settings
behind false settings = list_text (codes " SETTINGS ") setting_text settings

-- all settings are settings with none in front of them
behind-all : (settings : Settings) → settings_text settings ≡ behind false (printed settings)
unfolding settings_text behind
behind-all settings = refl

behind-token : (token : Option (List ℕ)) (rest : List Setting)
    → behind false (cons_option (option_map Token token) rest)
    ≡ optional_text (codes " SETTINGS insert_deduplication_token = ") quoted_text token <> behind (is_some token) rest
unfolding behind
behind-token None rest = refl
behind-token (Some text) rest = refl

behind-wanted : (others on : Bool) (setting : Setting) (rest : List Setting)
    → behind others (cons_option (wanted on setting) rest)
    ≡ (if on then setting_mark others ++ setting_text setting else []) <> behind (others || on) rest
unfolding behind
behind-wanted true false setting rest = refl
behind-wanted true true setting rest = refl
behind-wanted false false setting rest = refl
behind-wanted false true setting rest = refl

behind-size : (others : Bool) (setting : List ℕ → Setting) (words : List ℕ) (digits : Option (List ℕ)) (rest : List Setting)
    → ((written : List ℕ) → setting_text (setting written) ≡ words ++ written)
    → behind others (cons_option (option_map setting digits) rest)
    ≡ digits_text (setting_mark others ++ words) digits <> behind (others || is_some digits) rest
unfolding behind
behind-size true setting words None rest e = refl
behind-size true setting words (Some v) rest e = rw (e v) refl
behind-size false setting words None rest e = refl
behind-size false setting words (Some v) rest e = rw (e v) refl

behind-none : (others : Bool) → behind others [] ≡ []
unfolding behind
behind-none true = refl
behind-none false = refl

-- the text of settings, part by part
pub settings-parts : (settings : Settings) → settings_text settings
    ≡ optional_text (codes " SETTINGS insert_deduplication_token = ") quoted_text settings.token
    <> (if settings.later then setting_mark (is_some settings.token) ++ codes "async_insert = 1" else [])
    <> (if not settings.waits then setting_mark (is_some settings.token || settings.later) ++ codes "wait_for_async_insert = 0" else [])
    <> digits_text (setting_mark (is_some settings.token || settings.later || not settings.waits) ++ codes "max_insert_block_size = ")
    settings.max_rows
    <> digits_text (setting_mark (is_some settings.token || settings.later || not settings.waits || is_some settings.max_rows)
    ++ codes "min_insert_block_size_rows = ") settings.min_rows
    <> digits_text (setting_mark (is_some settings.token || settings.later || not settings.waits || is_some settings.max_rows
    || is_some settings.min_rows) ++ codes "min_insert_block_size_bytes = ") settings.min_bytes
settings-parts settings =
    let sixth = cons_option (option_map MinBytes settings.min_bytes) [] in
    let fifth = cons_option (option_map MinRows settings.min_rows) sixth in
    let fourth = cons_option (option_map MaxRows settings.max_rows) fifth in
    let third = cons_option (wanted (not settings.waits) (Waits false)) fourth in
    let second = cons_option (wanted settings.later (Later true)) third in
    let a = is_some settings.token in
    let b = a || settings.later in
    let c = b || not settings.waits in
    let d = c || is_some settings.max_rows in
    let e = d || is_some settings.min_rows in
    behind-all settings ∙ behind-token settings.token second
    ∙ ap (λ l. optional_text (codes " SETTINGS insert_deduplication_token = ") quoted_text settings.token ++ l) (
    behind-wanted a settings.later (Later true) third
    ∙ ap (λ l. (if settings.later then setting_mark a ++ codes "async_insert = 1" else []) ++ l) (
    behind-wanted b (not settings.waits) (Waits false) fourth
    ∙ ap (λ l. (if not settings.waits then setting_mark b ++ codes "wait_for_async_insert = 0" else []) ++ l) (
    behind-size c MaxRows (codes "max_insert_block_size = ") settings.max_rows fifth (λ written. refl)
    ∙ ap (λ l. digits_text (setting_mark c ++ codes "max_insert_block_size = ") settings.max_rows ++ l) (
    behind-size d MinRows (codes "min_insert_block_size_rows = ") settings.min_rows sixth (λ written. refl)
    ∙ ap (λ l. digits_text (setting_mark d ++ codes "min_insert_block_size_rows = ") settings.min_rows ++ l) (
    behind-size e MinBytes (codes "min_insert_block_size_bytes = ") settings.min_bytes [] (λ written. refl)
    ∙ ap (λ l. digits_text (setting_mark e ++ codes "min_insert_block_size_bytes = ") settings.min_bytes ++ l)
    (behind-none (e || is_some settings.min_bytes)) ∙ append-nil _)))))
