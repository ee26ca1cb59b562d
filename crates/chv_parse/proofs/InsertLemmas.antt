-- Exactly the inserts are read.
use Rattle.std.proofs.Common.{◌≡◌, ℕ, List, [], ◌∷◌, ◌++◌, Bool, true, false, Option, None, ◌&&◌, refl, sym, ap, subst, ◌∙◌, ◌⊎◌, inl, inr, drop, append-nil}
use Rattle.std.specs.Prelude.{codes, IsTrue, fold}
use Rattle.std.specs.Str.{bytes_eq}
use Rattle.std.proofs.lemmas.Slice.Eq.{bytes_eq-Decides}
use Rattle.chv_ast.specs.Lexemes.{Lexeme, is_keyword, is_sign, name_of, is_whole_kind, reserved}
use Rattle.chv_ast.specs.Spellings.{Spelling, Then, give, Marked, optional, Listed, enclosed, keyword, word, sign, name, whole, quoted}
use Rattle.chv_ast.specs.GrammarStatements.{Setting, is_digits, switch, set_to, setting, default_settings, with_setting, settings, list_behind, IsOneLiteral, negative, row_literal, names, insert}
use Rattle.chv_ast.specs.declared.expr.Literal.{Literal}
use Rattle.chv_ast.specs.declared.statement.Settings.{Settings}
use Rattle.chv_parse.specs.ExprReading.{sign_next, keyword_next}
use Rattle.chv_parse.specs.Reading.{Reader, next_is, is_name, Exact}
use Rattle.chv_parse.specs.StatementReading.{word_next, read_listed, read_called, read_set_to, read_switch, read_views, read_number_setting, read_token, read_later, read_waits, read_setting, read_some_settings, read_settings, read_row_literal, read_row, read_table_mark, read_columns, read_insert}
use Rattle.chv_parse.proofs.ExprTokens.{both, keyword-name, keyword-sign, keyword-keyword, sign-sign, sign-is_name, name-is_name, literal-stays}
use Rattle.chv_parse.proofs.ExprLemmas.{exact_literal}
use Rattle.chv_parse.proofs.ExactLemmas.{Anything, Isnt, Is, Leads, exact_narrow, exact_before, exact_behind, exact_given, exact_marked, exact_meant, exact_either, exact_optional, exact_enclosed, exact_listed, Listed-some, Via, exact_via, leads_via, Standing, exact_standing, leads_standing, leads_nothing, leads_marked, leads_meant, leads_then, leads_first, leads_optional, leads_either, leads_list_behind}
use Rattle.chv_parse.proofs.PartLemmas.{keyword_isnt_sign, keyword_is, sign_is, word_is, word_isnt_word, and_false, AtEnd, end_isnt}
use Rattle.chv_parse.proofs.CreateLemmas.{exact_names}

-- digits are no other digits
digits_apart : (token : Lexeme) → IsTrue (is_digits (codes "0") token) → is_digits (codes "1") token ≡ false
unfolding is_digits
digits_apart token h =
    let parts = both (is_whole_kind token.kind) (bytes_eq token.text (codes "0")) h in
    rw ((bytes_eq-Decides token.text (codes "0")).0 parts.1) (and_false (is_whole_kind token.kind))

-- the one digit 0 or 1
exact_switch : {follows : List Lexeme → Type 0} → Exact read_switch switch follows
unfolding read_switch next_is
exact_switch {follows} =
    exact_either {p = Standing true one} {q = Standing false zero} {o = switch} (exact_standing exact_marked) (exact_standing exact_marked)
    (leads_standing (leads_marked (λ token rest h k. h))) (leads_standing (leads_marked (λ token rest h k. digits_apart token h)))
    (λ a us h. subst (λ (b : Bool). switch b us) (sym h.0) h.1) (λ a us h. subst (λ (b : Bool). switch b us) (sym h.0) h.1) apart
  where
    one : Spelling (Unit {0})
    one = Marked (is_digits (codes "1"))

    zero : Spelling (Unit {0})
    zero = Marked (is_digits (codes "0"))

    apart : (a : Bool) (us : List Lexeme) → switch a us → Standing true one a us ⊎ Standing false zero a us
    apart true us h = inl (refl, h)
    apart false us h = inr (refl, h)

-- a name, an equals sign and a value
exact_set_to : {A : Type 0} (called : List ℕ) {value : Reader A} {p : Spelling A} {follows : List Lexeme → Type 0} → Exact value p follows → Exact (read_set_to called value) (set_to called p) follows
unfolding read_called
exact_set_to called value = exact_behind (exact_behind exact_marked (λ _. exact_marked)) (λ _. value)

-- [-] whole, a text in quotes, TRUE or FALSE
exact_row_literal : {follows : List Lexeme → Type 0} → Exact read_row_literal row_literal follows
unfolding read_row_literal next_is
exact_row_literal =
    exact_either {p = negative} {q = IsOneLiteral} {o = row_literal} (exact_behind exact_marked (λ _. exact_behind exact_meant (λ digits. exact_given)))
    (exact_narrow exact_literal (λ rest k. tt)) (leads_first (sign_is (codes "-")))
    (record { leads = λ a us rest h k. subst (λ (l : List Lexeme). Isnt (sign_next (codes "-")) (l ++ rest)) (sym h.alone) ((literal-stays a h.token h.meant).no_sign (codes "-")) })
    (λ a us h. inr h) (λ a us h. inl h) swap
  where
    swap : (a : Literal) (us : List Lexeme) → row_literal a us → negative a us ⊎ IsOneLiteral a us
    swap a us (inl h) = inr h
    swap a us (inr h) = inl h

-- the literals of a row
exact_row : {follows : List Lexeme → Type 0} → Exact read_row (enclosed (Listed row_literal)) follows
unfolding read_row next_is
exact_row =
    exact_enclosed (exact_listed read_row_literal row_literal Anything (Isnt (sign_next (codes ","))) exact_row_literal (λ rest k. tt) (λ rest k. k) (λ token rest c. tt))
    (λ token rest h. sign-sign (codes ")") (codes ",") token refl h)

-- rows
exact_rows : Exact (read_listed read_row) (Listed (enclosed (Listed row_literal))) AtEnd
exact_rows = exact_listed read_row (enclosed (Listed row_literal)) Anything AtEnd exact_row (λ rest k. tt) (end_isnt (is_sign (codes ","))) (λ token rest c. tt)

-- TABLE is in front of a name, and no name is behind that
EndsTableMark : List Lexeme → Type 0
EndsTableMark rest = Is (next_is is_name) rest × Isnt (next_is is_name) (drop 1 rest)

-- the columns of an insert, if they are written
exact_columns : Exact read_columns (optional names) (Isnt (sign_next (codes "(")))
unfolding read_columns
exact_columns = exact_optional exact_names (leads_first (sign_is (codes "("))) (λ rest k. k)

-- a reserved word is no name
keyword_isnt_name : (word : List ℕ) {follows : List Lexeme → Type 0} → ((token : Lexeme) → IsTrue (is_keyword word token) → name_of token ≡ None) → Leads (keyword word) follows (Isnt (next_is is_name))
unfolding next_is is_name
keyword_isnt_name word none = leads_marked (λ token rest h k. rw (none token h) refl)

-- a sign is no name
sign_isnt_name : (text : List ℕ) {follows : List Lexeme → Type 0} → Leads (sign text) follows (Isnt (next_is is_name))
unfolding next_is
sign_isnt_name text = leads_marked (λ token rest h k. sign-is_name text token h)

settings_no_name : (token : Lexeme) → IsTrue (is_keyword (codes "SETTINGS") token) → name_of token ≡ None
unfolding reserved
settings_no_name token h = keyword-name (codes "SETTINGS") token 115 (codes "ettings") refl refl refl h

values_no_name : (token : Lexeme) → IsTrue (is_keyword (codes "VALUES") token) → name_of token ≡ None
unfolding reserved
values_no_name token h = keyword-name (codes "VALUES") token 118 (codes "alues") refl refl refl h

-- a setting by its name
abbrev Called : {A : Type 0} → (A → Setting) → List ℕ → Spelling A → Spelling Setting
Called make called p = Via make (set_to called p)

called_is : {A : Type 0} {make : A → Setting} (called : List ℕ) (p : Spelling A) {follows : List Lexeme → Type 0} → Leads (Called make called p) follows (Is (word_next called))
called_is called p = leads_via (leads_first (leads_first (word_is called)))

called_isnt : {A : Type 0} {make : A → Setting} (called other : List ℕ) (p : Spelling A) {follows : List Lexeme → Type 0} → bytes_eq called other ≡ false
    → Leads (Called make called p) follows (Isnt (word_next other))
called_isnt called other p apart = leads_via (leads_first (leads_first (word_isnt_word called other apart)))

-- the settings, from the last one on
abbrev Views : Spelling Setting
Views = Standing Setting.Views (set_to (codes "deduplicate_blocks_in_dependent_materialized_views") (Marked (is_digits (codes "1"))))

abbrev MinBytes : Spelling Setting
MinBytes s us = Called Setting.MinBytes (codes "min_insert_block_size_bytes") whole s us ⊎ Views s us

abbrev MinRows : Spelling Setting
MinRows s us = Called Setting.MinRows (codes "min_insert_block_size_rows") whole s us ⊎ MinBytes s us

abbrev MaxRows : Spelling Setting
MaxRows s us = Called Setting.MaxRows (codes "max_insert_block_size") whole s us ⊎ MinRows s us

abbrev Waits : Spelling Setting
Waits s us = Called Setting.Waits (codes "wait_for_async_insert") switch s us ⊎ MaxRows s us

abbrev Later : Spelling Setting
Later s us = Called Setting.Later (codes "async_insert") switch s us ⊎ Waits s us

abbrev Token : Spelling Setting
Token s us = Called Setting.Token (codes "insert_deduplication_token") quoted s us ⊎ Later s us

-- none of them begins with another word
module _ (other : List ℕ) where
  views_isnt : {follows : List Lexeme → Type 0} → bytes_eq (codes "deduplicate_blocks_in_dependent_materialized_views") other ≡ false → Leads Views follows (Isnt (word_next other))
  views_isnt a = leads_standing (leads_first (leads_first (word_isnt_word (codes "deduplicate_blocks_in_dependent_materialized_views") other a)))

  min_bytes_isnt : {follows : List Lexeme → Type 0} → bytes_eq (codes "deduplicate_blocks_in_dependent_materialized_views") other ≡ false
      → bytes_eq (codes "min_insert_block_size_bytes") other ≡ false → Leads MinBytes follows (Isnt (word_next other))
  min_bytes_isnt a b = leads_either (called_isnt (codes "min_insert_block_size_bytes") other whole b) (views_isnt a) (λ s us h. h)

  min_rows_isnt : {follows : List Lexeme → Type 0} → bytes_eq (codes "deduplicate_blocks_in_dependent_materialized_views") other ≡ false
      → bytes_eq (codes "min_insert_block_size_bytes") other ≡ false → bytes_eq (codes "min_insert_block_size_rows") other ≡ false → Leads MinRows follows (Isnt (word_next other))
  min_rows_isnt a b c = leads_either (called_isnt (codes "min_insert_block_size_rows") other whole c) (min_bytes_isnt a b) (λ s us h. h)

  max_rows_isnt : {follows : List Lexeme → Type 0} → bytes_eq (codes "deduplicate_blocks_in_dependent_materialized_views") other ≡ false
      → bytes_eq (codes "min_insert_block_size_bytes") other ≡ false → bytes_eq (codes "min_insert_block_size_rows") other ≡ false
      → bytes_eq (codes "max_insert_block_size") other ≡ false → Leads MaxRows follows (Isnt (word_next other))
  max_rows_isnt a b c d = leads_either (called_isnt (codes "max_insert_block_size") other whole d) (min_rows_isnt a b c) (λ s us h. h)

  waits_isnt : {follows : List Lexeme → Type 0} → bytes_eq (codes "deduplicate_blocks_in_dependent_materialized_views") other ≡ false
      → bytes_eq (codes "min_insert_block_size_bytes") other ≡ false → bytes_eq (codes "min_insert_block_size_rows") other ≡ false
      → bytes_eq (codes "max_insert_block_size") other ≡ false → bytes_eq (codes "wait_for_async_insert") other ≡ false → Leads Waits follows (Isnt (word_next other))
  waits_isnt a b c d e = leads_either (called_isnt (codes "wait_for_async_insert") other switch e) (max_rows_isnt a b c d) (λ s us h. h)

  later_isnt : {follows : List Lexeme → Type 0} → bytes_eq (codes "deduplicate_blocks_in_dependent_materialized_views") other ≡ false
      → bytes_eq (codes "min_insert_block_size_bytes") other ≡ false → bytes_eq (codes "min_insert_block_size_rows") other ≡ false
      → bytes_eq (codes "max_insert_block_size") other ≡ false → bytes_eq (codes "wait_for_async_insert") other ≡ false → bytes_eq (codes "async_insert") other ≡ false
      → Leads Later follows (Isnt (word_next other))
  later_isnt a b c d e f = leads_either (called_isnt (codes "async_insert") other switch f) (waits_isnt a b c d e) (λ s us h. h)

exact_views : {follows : List Lexeme → Type 0} → Exact read_views Views follows
unfolding read_views
exact_views = exact_standing (exact_set_to (codes "deduplicate_blocks_in_dependent_materialized_views") exact_marked)

exact_number_setting : {follows : List Lexeme → Type 0} → Exact read_number_setting MaxRows follows
unfolding read_number_setting
exact_number_setting =
    exact_either (exact_via (exact_set_to (codes "max_insert_block_size") exact_meant))
    (exact_either (exact_via (exact_set_to (codes "min_insert_block_size_rows") exact_meant))
    (exact_either (exact_via (exact_set_to (codes "min_insert_block_size_bytes") exact_meant)) exact_views
    (called_is (codes "min_insert_block_size_bytes") whole) (views_isnt (codes "min_insert_block_size_bytes") refl) (λ s us h. inl h) (λ s us h. inr h) (λ s us h. h))
    (called_is (codes "min_insert_block_size_rows") whole) (min_bytes_isnt (codes "min_insert_block_size_rows") refl refl) (λ s us h. inl h) (λ s us h. inr h) (λ s us h. h))
    (called_is (codes "max_insert_block_size") whole) (min_rows_isnt (codes "max_insert_block_size") refl refl refl) (λ s us h. inl h) (λ s us h. inr h) (λ s us h. h)

exact_token : {follows : List Lexeme → Type 0} → Exact read_token (Called Setting.Token (codes "insert_deduplication_token") quoted) follows
unfolding read_token
exact_token = exact_via (exact_set_to (codes "insert_deduplication_token") exact_meant)

exact_later : {follows : List Lexeme → Type 0} → Exact read_later (Called Setting.Later (codes "async_insert") switch) follows
unfolding read_later
exact_later = exact_via (exact_set_to (codes "async_insert") exact_switch)

exact_waits : {follows : List Lexeme → Type 0} → Exact read_waits (Called Setting.Waits (codes "wait_for_async_insert") switch) follows
unfolding read_waits
exact_waits = exact_via (exact_set_to (codes "wait_for_async_insert") exact_switch)

-- a setting is one of them
token_setting : (s : Setting) (us : List Lexeme) → Called Setting.Token (codes "insert_deduplication_token") quoted s us → setting s us
unfolding setting
token_setting s us h = subst (λ (v : Setting). setting v us) (sym h.is) h.written

later_setting : (s : Setting) (us : List Lexeme) → Later s us → setting s us
unfolding setting
later_setting s us (inl h) = subst (λ (v : Setting). setting v us) (sym h.is) h.written
later_setting s us (inr (inl h)) = subst (λ (v : Setting). setting v us) (sym h.is) h.written
later_setting s us (inr (inr (inl h))) = subst (λ (v : Setting). setting v us) (sym h.is) h.written
later_setting s us (inr (inr (inr (inl h)))) = subst (λ (v : Setting). setting v us) (sym h.is) h.written
later_setting s us (inr (inr (inr (inr (inl h))))) = subst (λ (v : Setting). setting v us) (sym h.is) h.written
later_setting s us (inr (inr (inr (inr (inr h))))) =
    subst (λ (v : Setting). setting v us) (sym h.0) (record { first = tt; us = h.1.us; vs = h.1.vs; split = h.1.split; before = h.1.before; behind = h.1.behind })

setting_token : (s : Setting) (us : List Lexeme) → setting s us → Token s us
unfolding setting
setting_token (Setting.Token text) us h = inl (record { from = text; written = h; is = refl })
setting_token (Setting.Later on) us h = inr (inl (record { from = on; written = h; is = refl }))
setting_token (Setting.Waits on) us h = inr (inr (inl (record { from = on; written = h; is = refl })))
setting_token (Setting.MaxRows digits) us h = inr (inr (inr (inl (record { from = digits; written = h; is = refl }))))
setting_token (Setting.MinRows digits) us h = inr (inr (inr (inr (inl (record { from = digits; written = h; is = refl })))))
setting_token (Setting.MinBytes digits) us h = inr (inr (inr (inr (inr (inl (record { from = digits; written = h; is = refl }))))))
setting_token Setting.Views us h =
    inr (inr (inr (inr (inr (inr (refl, record { first = tt; us = h.us; vs = h.vs; split = h.split; before = h.before; behind = h.behind }))))))

exact_setting : {follows : List Lexeme → Type 0} → Exact read_setting setting follows
unfolding read_setting
exact_setting =
    exact_either {p = Called Setting.Token (codes "insert_deduplication_token") quoted} {q = Later} {o = setting} exact_token
    (exact_either exact_later
    (exact_either exact_waits exact_number_setting (called_is (codes "wait_for_async_insert") switch)
    (max_rows_isnt (codes "wait_for_async_insert") refl refl refl refl) (λ s us h. inl h) (λ s us h. inr h) (λ s us h. h))
    (called_is (codes "async_insert") switch) (waits_isnt (codes "async_insert") refl refl refl refl refl) (λ s us h. inl h) (λ s us h. inr h) (λ s us h. h))
    (called_is (codes "insert_deduplication_token") quoted) (later_isnt (codes "insert_deduplication_token") refl refl refl refl refl refl) token_setting later_setting setting_token

-- settings, one at least
abbrev SomeSettings : Spelling Settings
SomeSettings = Via (fold with_setting default_settings) (Listed setting)

-- what may stand behind settings
EndsSettings : List Lexeme → Type 0
EndsSettings rest = Isnt (keyword_next (codes "SETTINGS")) rest × Isnt (sign_next (codes ",")) rest

exact_some_settings : Exact read_some_settings SomeSettings EndsSettings
unfolding read_some_settings EndsSettings
exact_some_settings = exact_via (exact_listed read_setting setting Anything EndsSettings exact_setting (λ rest k. tt) (λ rest k. k.1) (λ token rest c. tt))

exact_settings : Exact read_settings settings EndsSettings
unfolding read_settings EndsSettings
exact_settings =
    exact_either {p = Then (keyword (codes "SETTINGS")) (λ _. SomeSettings)} {q = give default_settings} {o = settings} (exact_behind exact_marked (λ _. exact_some_settings)) exact_given
    (leads_first (keyword_is (codes "SETTINGS"))) (leads_nothing (λ rest k. k.0)) some none apart
  where
    listed : (written : List Setting) (us vs ws : List Lexeme) → us ≡ vs ++ ws → keyword (codes "SETTINGS") tt vs → Listed setting written ws
        → list_behind (keyword (codes "SETTINGS")) setting written us
    listed [] us vs ws split mark h = absurd (Listed-some ws h)
    listed (one ∷ more) us vs ws split mark h = record { first = tt; us = vs; vs = ws; split = split; before = mark; behind = h }

    some : (s : Settings) (us : List Lexeme) → Then (keyword (codes "SETTINGS")) (λ _. SomeSettings) s us → settings s us
    some s us h =
        let b = h.behind in
        record { first = b.from; us = us; vs = []; split = sym (append-nil us); before = listed b.from us h.us h.vs h.split h.before b.written; behind = (b.is, refl) }

    none : (s : Settings) (us : List Lexeme) → give default_settings s us → settings s us
    none s us h = record { first = []; us = us; vs = []; split = sym (append-nil us); before = h.1; behind = (h.0, refl) }

    told : (written : List Setting) (s : Settings) (us vs ws : List Lexeme) → us ≡ vs ++ ws → list_behind (keyword (codes "SETTINGS")) setting written vs
        → s ≡ fold with_setting default_settings written → ws ≡ [] → Then (keyword (codes "SETTINGS")) (λ _. SomeSettings) s us ⊎ give default_settings s us
    told [] s us vs ws split h is nothing = inr (is, split ∙ ap (λ (l : List Lexeme). l ++ ws) h ∙ nothing)
    told (one ∷ more) s us vs ws split h is nothing =
        let all : us ≡ vs = split ∙ ap (λ (l : List Lexeme). vs ++ l) nothing ∙ append-nil vs in
        inl (record { first = tt; us = h.us; vs = h.vs; split = all ∙ h.split; before = h.before; behind = record { from = one ∷ more; written = h.behind; is = is } })

    apart : (s : Settings) (us : List Lexeme) → settings s us → Then (keyword (codes "SETTINGS")) (λ _. SomeSettings) s us ⊎ give default_settings s us
    apart s us h = told h.first s us h.us h.vs h.split h.before h.behind.0 h.behind.1

-- settings begin with their word, or are absent
leads_settings : {follows : List Lexeme → Type 0} → Leads (keyword (codes "SETTINGS")) Anything follows → Leads settings follows follows
leads_settings {follows} one = leads_then {between = follows} (leads_list_behind (leads_first one) (λ rest k. k)) (λ written. leads_nothing (λ rest k. k))

-- TABLE in front of a name, if it is written
exact_table_mark : Exact read_table_mark (optional (keyword (codes "TABLE"))) EndsTableMark
unfolding read_table_mark EndsTableMark next_is
exact_table_mark =
    exact_optional exact_marked (leads_marked (λ token rest h k. rw (h, k.0) refl))
    (λ rest k. ap (λ (b : Bool). keyword_next (codes "TABLE") rest && b) k.1 ∙ and_false (keyword_next (codes "TABLE") rest))

-- what stands behind settings
values_end : {follows : List Lexeme → Type 0} → Leads (keyword (codes "VALUES")) follows EndsSettings
unfolding EndsSettings next_is
values_end = leads_marked (λ token rest h k. (keyword-keyword (codes "VALUES") (codes "SETTINGS") token refl h, keyword-sign (codes "VALUES") (codes ",") token h))

-- an insert
pub exact_insert : Exact read_insert insert AtEnd
unfolding read_insert insert EndsTableMark next_is
exact_insert =
    exact_behind exact_marked (λ _. exact_behind exact_marked (λ _. exact_before exact_table_mark (λ _. table_leads) (λ _. exact_behind exact_meant (λ table.
    exact_before exact_columns (λ columns. leads_then {between = Isnt (sign_next (codes "("))} (leads_settings (keyword_isnt_sign (codes "SETTINGS") (codes "(")))
    (λ set. leads_first (keyword_isnt_sign (codes "VALUES") (codes "(")))) (λ columns.
    exact_before exact_settings (λ set. leads_first values_end) (λ set. exact_behind exact_marked (λ _.
    exact_before exact_rows (λ rows. leads_nothing (λ rest k. k)) (λ rows. exact_given))))))))
  where
    no_name : List Lexeme → Type 0
    no_name = Isnt (next_is is_name)

    tail_leads : {B : Type 0} {q : Option (List (List ℕ)) → Settings → Spelling B} {follows : List Lexeme → Type 0}
        → Leads (Then (optional names) (λ columns. Then settings (λ set. Then (keyword (codes "VALUES")) (λ _. q columns set)))) follows no_name
    tail_leads =
        leads_then {between = no_name} (leads_optional (leads_first (sign_isnt_name (codes "("))) (λ rest k. k)) (λ columns.
        leads_then {between = no_name} (leads_settings (keyword_isnt_name (codes "SETTINGS") settings_no_name)) (λ set. leads_first (keyword_isnt_name (codes "VALUES") values_no_name)))

    table_leads : {B : Type 0} {q : List ℕ → Option (List (List ℕ)) → Settings → Spelling B} {follows : List Lexeme → Type 0}
        → Leads (Then name (λ table. Then (optional names) (λ columns. Then settings (λ set. Then (keyword (codes "VALUES")) (λ _. q table columns set))))) follows EndsTableMark
    table_leads = leads_then {between = no_name} (leads_meant (λ token rest a h k. (name-is_name token a h, k))) (λ table. tail_leads)
