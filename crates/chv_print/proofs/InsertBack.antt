-- The canonical text of an insert reads back as it.
use Rattle.std.specs.Prelude.{ℕ, Bool, true, false, List, [], ◌∷◌, ◌++◌, ◌≡◌, IsTrue, codes, Option, Some, None, option_map}
use Rattle.std.specs.List.{cons_option}
use Rattle.std.proofs.Common.{refl, sym, ◌∙◌, inl, inr, arith, fold, not}
use Rattle.chv_ast.specs.Formed.{Each, EachOfSome, IfThere, FormedLiteral, FormedSettings, FormedConstant, FormedInsert}
use Rattle.chv_ast.specs.Spellings.{Spelling, Marked, keyword, optional, Listed, enclosed}
use Rattle.chv_ast.specs.GrammarStatements.{names, list_behind, Setting, Token, Later, Waits, MaxRows, MinRows, MinBytes, Views, setting, settings, set_to, with_setting, default_settings, switch, is_digits, negative, row_literal, insert}
use Rattle.chv_ast.specs.Words.{IsName, IsDigits, is_word_text}
use Rattle.chv_ast.specs.declared.statement.Insert.{Insert}
use Rattle.chv_ast.specs.declared.statement.Settings.{Settings}
use Rattle.chv_ast.specs.declared.expr.Literal.{Literal}
use Rattle.chv_ast.specs.declared.expr.Literal.TheVariants as literal
use Rattle.chv_print.specs.Texts.{optional_text, list_text, literal_text}
use Rattle.chv_print.specs.StatementTexts.{names_text, setting_text, settings_text, printed, wanted, row_text, switch_text, insert_text}
use Rattle.chv_print.proofs.ExprBack.{constant}
use Rattle.chv_print.proofs.Parts.{part_minus, part_empty, sign_token, ends_both, EndsTokens}
use Rattle.chv_print.proofs.Tokens.{part_digits, digits_of-text, no_digit_first, whole_token, is_sign-sign}
use Rattle.chv_print.proofs.SelectBack.{ends_optional, ends_list}
use Rattle.chv_print.proofs.Prints.{Prints, printed_as, prints_equal, spaced, then_, ends, absent, prints_keyword, prints_word, prints_name, prints_digits, prints_quoted, prints_enclosed, prints_listed, prints_names, passed}

-- the digits of a setting
FormedSetting : Setting → Type 0
FormedSetting (Token text) = Unit {0}
FormedSetting (Later on) = Unit {0}
FormedSetting (Waits on) = Unit {0}
FormedSetting (MaxRows digits) = IsDigits digits
FormedSetting (MinRows digits) = IsDigits digits
FormedSetting (MinBytes digits) = IsDigits digits
FormedSetting Views = Unit {0}

prints_digit : (digits : List ℕ) → IsDigits digits → IsTrue (is_digits digits (whole_token digits)) → Prints (Marked (is_digits digits)) tt digits
prints_digit digits h k = record {
  lexemes = whole_token digits ∷ [];
  written = record { token = whole_token digits; alone = refl; marked = k };
  part = part_digits digits h;
}

prints_switch : (on : Bool) → Prints switch on (switch_text on)
unfolding is_digits
prints_switch true =
    printed_as (λ us w. w) (prints_digit (codes "1") (record { some = omega arith; decimal = refl; shortest = refl }) refl)
prints_switch false =
    printed_as (λ us w. w) (prints_digit (codes "0") (record { some = omega arith; decimal = refl; shortest = refl }) refl)

-- a setting
prints_set_to : {A : Type 0} {p : Spelling A} {value : A} {text : List ℕ} (called : List ℕ) → IsName called → Prints p value text
    → Prints (set_to called p) value ((called ++ codes " =") ++ 32 ∷ text)
prints_set_to called h k = then_ (then_ (prints_word called h) refl (spaced prints_equal)) refl (spaced k)

prints_setting : (s : Setting) → FormedSetting s → Prints setting s (setting_text s)
unfolding setting is_word_text FormedSetting
prints_setting (Token text) h = printed_as (λ us w. w) (prints_set_to (codes "insert_deduplication_token") refl (prints_quoted text))
prints_setting (Later on) h = printed_as (λ us w. w) (prints_set_to (codes "async_insert") refl (prints_switch on))
prints_setting (Waits on) h = printed_as (λ us w. w) (prints_set_to (codes "wait_for_async_insert") refl (prints_switch on))
prints_setting (MaxRows digits) h = printed_as (λ us w. w) (prints_set_to (codes "max_insert_block_size") refl (prints_digits digits h))
prints_setting (MinRows digits) h = printed_as (λ us w. w) (prints_set_to (codes "min_insert_block_size_rows") refl (prints_digits digits h))
prints_setting (MinBytes digits) h = printed_as (λ us w. w) (prints_set_to (codes "min_insert_block_size_bytes") refl (prints_digits digits h))
prints_setting Views h =
    printed_as (λ us w. w) (prints_set_to (codes "deduplicate_blocks_in_dependent_materialized_views") refl (prints_switch true))

-- each of the settings that are printed is formed
each_given : (setting : List ℕ → Setting) (digits : Option (List ℕ)) (rest : List Setting)
    → ((v : List ℕ) → IsDigits v → FormedSetting (setting v)) → IfThere IsDigits digits → Each FormedSetting rest
    → Each FormedSetting (cons_option (option_map setting digits) rest)
each_given s None rest f h k = k
each_given s (Some v) rest f h k = (f v h, k)

each_token : (token : Option (List ℕ)) (rest : List Setting) → Each FormedSetting rest
    → Each FormedSetting (cons_option (option_map Token token) rest)
unfolding FormedSetting
each_token None rest k = k
each_token (Some v) rest k = (tt, k)

each_wanted : (on : Bool) (setting : Setting) (rest : List Setting) → FormedSetting setting → Each FormedSetting rest
    → Each FormedSetting (cons_option (wanted on setting) rest)
each_wanted true s rest h k = (h, k)
each_wanted false s rest h k = k

each_printed : (s : Settings) → FormedSettings s → Each FormedSetting (printed s)
unfolding FormedSetting
each_printed s h =
    each_token s.token _ (each_wanted s.later (Later true) _ tt (each_wanted (not s.waits) (Waits false) _ tt
    (each_given MaxRows s.max_rows _ (λ v k. k) h.max_rows (each_given MinRows s.min_rows _ (λ v k. k) h.min_rows
    (each_given MinBytes s.min_bytes [] (λ v k. k) h.min_bytes tt)))))

-- the settings that are printed are the settings
abbrev made : Option (List ℕ) → Bool → Bool → Option (List ℕ) → Option (List ℕ) → Option (List ℕ) → Settings
made token later waits max_rows min_rows min_bytes =
    record { token = token; later = later; waits = waits; max_rows = max_rows; min_rows = min_rows; min_bytes = min_bytes }

with_token : (t : Option (List ℕ)) (rest : List Setting)
    → fold with_setting default_settings (cons_option (option_map Token t) rest) ≡ fold with_setting (made t false true None None None) rest
with_token None rest = refl
with_token (Some v) rest = refl

with_later : (t : Option (List ℕ)) (l : Bool) (rest : List Setting)
    → fold with_setting (made t false true None None None) (cons_option (wanted l (Later true)) rest)
    ≡ fold with_setting (made t l true None None None) rest
with_later t true rest = refl
with_later t false rest = refl

with_waits : (t : Option (List ℕ)) (l w : Bool) (rest : List Setting)
    → fold with_setting (made t l true None None None) (cons_option (wanted (not w) (Waits false)) rest)
    ≡ fold with_setting (made t l w None None None) rest
with_waits t l true rest = refl
with_waits t l false rest = refl

with_max_rows : (t : Option (List ℕ)) (l w : Bool) (a : Option (List ℕ)) (rest : List Setting)
    → fold with_setting (made t l w None None None) (cons_option (option_map MaxRows a) rest)
    ≡ fold with_setting (made t l w a None None) rest
with_max_rows t l w None rest = refl
with_max_rows t l w (Some v) rest = refl

with_min_rows : (t : Option (List ℕ)) (l w : Bool) (a b : Option (List ℕ)) (rest : List Setting)
    → fold with_setting (made t l w a None None) (cons_option (option_map MinRows b) rest)
    ≡ fold with_setting (made t l w a b None) rest
with_min_rows t l w a None rest = refl
with_min_rows t l w a (Some v) rest = refl

with_min_bytes : (t : Option (List ℕ)) (l w : Bool) (a b c : Option (List ℕ))
    → fold with_setting (made t l w a b None) (cons_option (option_map MinBytes c) []) ≡ made t l w a b c
with_min_bytes t l w a b None = refl
with_min_bytes t l w a b (Some v) = refl

settings_are : (s : Settings) → fold with_setting default_settings (printed s) ≡ s
settings_are s =
    with_token s.token _ ∙ (with_later s.token s.later _ ∙ (with_waits s.token s.later s.waits _
    ∙ (with_max_rows s.token s.later s.waits s.max_rows _ ∙ (with_min_rows s.token s.later s.waits s.max_rows s.min_rows _
    ∙ with_min_bytes s.token s.later s.waits s.max_rows s.min_rows s.min_bytes))))

prints_setting_list : (list : List Setting) → Each FormedSetting list
    → Prints (list_behind (keyword (codes "SETTINGS")) setting) list (list_text (codes " SETTINGS ") setting_text list)
unfolding is_word_text
prints_setting_list [] h = record { lexemes = []; written = refl; part = part_empty }
prints_setting_list (s ∷ rest) h = printed_as (λ us w. w) (spaced (then_ (prints_keyword (codes "SETTINGS") refl) refl
    (spaced (prints_listed setting_text prints_setting (s ∷ rest) h))))

prints_settings : (s : Settings) → FormedSettings s → Prints settings s (settings_text s)
unfolding settings_text
prints_settings s h = ends (prints_setting_list (printed s) (each_printed s h)) (sym (settings_are s), refl)

-- a literal of a row
prints_negative : (digits : List ℕ) → IsDigits digits → Prints negative (literal.Whole true digits) (45 ∷ digits)
prints_negative digits h = record {
  lexemes = sign_token (codes "-") ∷ whole_token digits ∷ [];
  written = record {
    first = tt;
    us = sign_token (codes "-") ∷ [];
    vs = whole_token digits ∷ [];
    split = refl;
    before = record { token = sign_token (codes "-"); alone = refl; marked = is_sign-sign (codes "-") };
    behind = record {
      first = digits;
      us = whole_token digits ∷ [];
      vs = [];
      split = refl;
      before = record { token = whole_token digits; alone = refl; meant = digits_of-text digits h };
      behind = (refl, refl);
    };
  };
  part = part_minus (part_digits digits h) (no_digit_first digits 45 h refl);
}

prints_constant : (value : Literal) → FormedConstant value → Prints row_literal value (literal_text value)
prints_constant value h =
    let c = constant value h in
    record { lexemes = c.token ∷ []; written = inl (record { token = c.token; alone = refl; meant = c.written }); part = c.part }

prints_literal : (value : Literal) → FormedLiteral value → Prints row_literal value (literal_text value)
prints_literal (literal.Whole true digits) h = printed_as (λ us w. inr w) (prints_negative digits h)
prints_literal (literal.Whole false digits) h = prints_constant (literal.Whole false digits) (refl, h)
prints_literal (literal.Quoted text) h = prints_constant (literal.Quoted text) tt
prints_literal (literal.Truth truth) h = prints_constant (literal.Truth truth) tt

prints_row : (row : List Literal) → EachOfSome FormedLiteral row → Prints (enclosed (Listed row_literal)) row (row_text row)
prints_row row h = prints_enclosed (prints_listed literal_text prints_literal row h)

prints_columns : (columns : Option (List (List ℕ))) → IfThere (EachOfSome IsName) columns
    → Prints (optional names) columns (optional_text (codes " ") names_text columns)
prints_columns None h = absent
prints_columns (Some list) h = printed_as (λ us w. w) (spaced (prints_names list h))

ends_settings : (s : Settings) → EndsTokens (settings_text s)
unfolding settings_text
ends_settings s = ends_list (codes "SETTINGS ") setting_text (printed s)

-- a statement that brings rows
pub prints_insert : (brought : Insert) → FormedInsert brought → Prints insert brought (insert_text brought)
unfolding insert insert_text is_word_text
prints_insert brought h =
    let behind = ends_both (ends_settings brought.settings) (record { is = refl }) in
    let all = ends_both (ends_optional [] names_text brought.columns) behind in
    then_ (prints_keyword (codes "INSERT") refl) refl (spaced (then_ (prints_keyword (codes "INTO") refl) refl (spaced
    (passed (then_ (prints_name brought.table h.0) all.is (then_ (prints_columns brought.columns h.1) behind.is
    (then_ (prints_settings brought.settings h.2) refl (spaced
    (then_ (prints_keyword (codes "VALUES") refl) refl (spaced (ends (prints_listed row_text prints_row brought.rows h.3) (refl, refl))))))))))))
