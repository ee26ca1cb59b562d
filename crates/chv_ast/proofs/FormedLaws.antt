-- What tokens with texts of their kinds write is well formed.
use Rattle.std.proofs.Common.{inl, inr, ℕ, true, List, [], ◌∷◌, ◌++◌, Option, Some, None, refl, sym, subst}
use Rattle.std.specs.Prelude.{fold}
use Rattle.chv_ast.specs.Formed.{Each, EachOfSome, IfThere, FormedLiteral, FormedConstant, FormedIn, FormedArgs, FormedExpr, FormedKind, FormedColumn, FormedItem, FormedOrder, FormedSelect, FormedSettings, FormedTable, FormedView, FormedInsert, WellFormed}
use Rattle.chv_ast.specs.Grammar.{IsLiteral, Spells, AreSpelled, AreBehind, IsExpr}
use Rattle.chv_ast.specs.GrammarStatements as grammar
use Rattle.chv_ast.specs.GrammarStatements.{Setting, IsPlain, IsStatement}
use Rattle.chv_ast.specs.Lexemes.{Lexeme}
use Rattle.chv_ast.specs.Spellings.{Spelling, ◌>>=◌, ◌>>◌, give, name, whole, optional, Listed, enclosed}
use Rattle.chv_ast.specs.Words.{IsName, IsDigits, IsSpelled}
use Rattle.chv_ast.specs.declared.expr.Args.{Args}
use Rattle.chv_ast.specs.declared.expr.Args.TheVariants as args
use Rattle.chv_ast.specs.declared.expr.Expr.{Expr}
use Rattle.chv_ast.specs.declared.expr.Literal.{Literal}
use Rattle.chv_ast.specs.declared.expr.Literal.TheVariants as literal
use Rattle.chv_ast.specs.declared.statement.Item.{Item}
use Rattle.chv_ast.specs.declared.statement.Item.TheVariants as shown
use Rattle.chv_ast.specs.declared.statement.KindWord.{KindWord}
use Rattle.chv_ast.specs.declared.statement.KindWord.TheVariants as kind
use Rattle.chv_ast.specs.declared.statement.Optimize.{Optimize}
use Rattle.chv_ast.specs.declared.statement.Select.{Select}
use Rattle.chv_ast.specs.declared.statement.Settings.{Settings}
use Rattle.chv_ast.specs.declared.statement.ShowParts.{ShowParts}
use Rattle.chv_ast.specs.declared.statement.Statement.{Statement}
use Rattle.chv_ast.specs.declared.statement.Statement.TheVariants as statement
use Rattle.chv_ast.proofs.WordLemmas.{IsName-name_of, IsDigits-digits_of}

-- what is written in this way is formed in that way, where each token has a text of its kind
pub record Forms {A : Type 0} (p : Spelling A) (P : A → Type 0) : Type 0 where
  pub formed : (value : A) (tokens : List Lexeme) → Each IsSpelled tokens → p value tokens → P value

front_each : {A : Type 0} (P : A → Type 0) (us vs : List A) → Each P (us ++ vs) → Each P us
front_each P [] vs each = tt
front_each P (u ∷ us) vs each = (each.0, front_each P us vs each.1)

rest_each : {A : Type 0} (P : A → Type 0) (us vs : List A) → Each P (us ++ vs) → Each P vs
rest_each P [] vs each = each
rest_each P (u ∷ us) vs each = rest_each P us vs each.1

-- how values are formed that are written one behind the other
module _ {A B : Type 0} where
  behind : {p : Spelling A} {q : A → Spelling B} {P : A → Type 0} {Q : B → Type 0} → Forms p P → ((first : A) → P first → Forms (q first) Q)
      → Forms (p >>= q) Q
  behind before after = record {
    formed = λ value tokens spelled written.
        let parts : Each IsSpelled (written.us ++ written.vs) = subst (λ (l : List Lexeme). Each IsSpelled l) written.split spelled in
        (after written.first (before.formed written.first written.us (front_each IsSpelled written.us written.vs parts) written.before)).formed
        value written.vs (rest_each IsSpelled written.us written.vs parts) written.behind;
  }

  skip : {p : Spelling A} {q : A → Spelling B} {Q : B → Type 0} → ((first : A) → Forms (q first) Q) → Forms (p >>= q) Q
  skip after = record {
    formed = λ value tokens spelled written.
        (after written.first).formed value written.vs
        (rest_each IsSpelled written.us written.vs (subst (λ (l : List Lexeme). Each IsSpelled l) written.split spelled)) written.behind;
  }

mark : {A B : Type 0} {p : Spelling A} {q : Spelling B} {Q : B → Type 0} → Forms q Q → Forms (p >> q) Q
mark after = skip (λ first. after)

gives : {A : Type 0} (P : A → Type 0) (a : A) → P a → Forms (give a) P
gives P a formed = record { formed = λ value tokens spelled given. subst P (sym given.0) formed }

form_name : Forms name IsName
form_name = record {
  formed = λ value tokens spelled meant.
      IsName-name_of meant.token value (subst (λ (l : List Lexeme). Each IsSpelled l) meant.alone spelled).0 meant.meant;
}

form_whole : Forms whole IsDigits
form_whole = record {
  formed = λ value tokens spelled meant.
      IsDigits-digits_of meant.token value (subst (λ (l : List Lexeme). Each IsSpelled l) meant.alone spelled).0 meant.meant;
}

form_optional : {A : Type 0} {p : Spelling A} {P : A → Type 0} → Forms p P → Forms (optional p) (IfThere P)
form_optional {A = A} {p = p} {P = P} one = record { formed = there }
  where
    there : (value : Option A) (tokens : List Lexeme) → Each IsSpelled tokens → optional p value tokens → IfThere P value
    there None tokens spelled written = tt
    there (Some value) tokens spelled written = one.formed value tokens spelled written

each_of_some : {A : Type 0} (P : A → Type 0) (items : List A) → EachOfSome P items → Each P items
each_of_some P [] formed = tt
each_of_some P (item ∷ items) formed = formed

form_listed : {A : Type 0} {p : Spelling A} {P : A → Type 0} → Forms p P → Forms (Listed p) (EachOfSome P)
form_listed {A = A} {p = p} {P = P} one = record { formed = listed }
  where
    listed : (values : List A) (tokens : List Lexeme) → Each IsSpelled tokens → Listed p values tokens → EachOfSome P values
    listed _ _ spelled (Listed.One value us written) = (one.formed value us spelled written, tt)
    listed _ _ spelled (Listed.More value values comma us vs written is_comma behind) = (
      one.formed value us (front_each IsSpelled us (comma ∷ vs) spelled) written,
      each_of_some P values (listed values vs (rest_each IsSpelled us (comma ∷ vs) spelled).1 behind),
    )

form_list_behind : {A : Type 0} {mark : Spelling (Unit {0})} {p : Spelling A} {P : A → Type 0} → Forms p P → Forms (grammar.list_behind mark p) (Each P)
form_list_behind {A = A} {mark = mark} {p = p} {P = P} one = record { formed = listed }
  where
    listed : (values : List A) (tokens : List Lexeme) → Each IsSpelled tokens → grammar.list_behind mark p values tokens → Each P values
    listed [] tokens spelled written = tt
    listed (value ∷ values) tokens spelled written = (skip (λ first. form_listed one)).formed (value ∷ values) tokens spelled written

form_enclosed : {A : Type 0} {p : Spelling A} {P : A → Type 0} → Forms p P → Forms (enclosed p) P
form_enclosed {P = P} one = skip λ opening. behind one λ value formed. skip λ closing. gives P value formed

form_literal : (value : Literal) (token : Lexeme) → IsSpelled token → IsLiteral value token → FormedConstant value
form_literal _ _ spelled (IsLiteral.Whole token digits is) = (refl, IsDigits-digits_of token digits spelled is)
form_literal _ _ spelled (IsLiteral.Quoted token text is) = tt
form_literal _ _ spelled (IsLiteral.True token is) = tt
form_literal _ _ spelled (IsLiteral.False token is) = tt

mutual
  form_in : {e : Expr} {tokens : List Lexeme} (level room nest : ℕ) → Spells level room nest e tokens → Each IsSpelled tokens → FormedIn room e
  form_in _ _ _ (Spells.Column room nest token name is) spelled = FormedIn.Column room name (IsName-name_of token name spelled.0 is)
  form_in _ _ _ (Spells.Constant room nest token value is) spelled = FormedIn.Constant room value (form_literal value token spelled.0 is)
  form_in _ _ _ (Spells.Unary op level room nest token arg us is binds of) spelled =
      FormedIn.Unary room op arg (form_in level room nest of spelled.1)
  form_in _ _ _ (Spells.Binary op before behind room nest token left right us vs is binds_left binds_right of_left of_right) spelled =
      FormedIn.Binary room op left right (form_in before room nest of_left (front_each IsSpelled us (token ∷ vs) spelled))
      (form_in behind room nest of_right (rest_each IsSpelled us (token ∷ vs) spelled).1)
  form_in _ _ _ (Spells.Call room nest token opening closing function list us is opens closes of) spelled =
      FormedIn.Call room function list (IsName-name_of token function spelled.0 is)
      (form_args 8 room nest of (front_each IsSpelled us (closing ∷ []) spelled.1.1))
  form_in _ _ _ (Spells.Count room nest token opening star closing function is counts opens stars closes) spelled =
      FormedIn.Call room function args.End (IsName-name_of token function spelled.0 is) (FormedArgs.End 8 room)
  form_in _ _ _ (Spells.Nested level room nest opening closing e us opens closes of) spelled =
      form_in level room nest of (front_each IsSpelled us (closing ∷ []) spelled.1)

  form_args : {list : Args} {tokens : List Lexeme} (count room nest : ℕ) → AreSpelled count room nest list tokens → Each IsSpelled tokens
      → FormedArgs count room list
  form_args _ _ _ (AreSpelled.Nothing count room nest) spelled = FormedArgs.End count room
  form_args _ _ _ (AreSpelled.First count level room nest first list us vs of_first of_list) spelled =
      FormedArgs.More count room first list (form_in level room nest of_first (front_each IsSpelled us vs spelled))
      (form_behind count room nest of_list (rest_each IsSpelled us vs spelled))

  form_behind : {list : Args} {tokens : List Lexeme} (count room nest : ℕ) → AreBehind count room nest list tokens → Each IsSpelled tokens
      → FormedArgs count room list
  form_behind _ _ _ (AreBehind.End count room nest) spelled = FormedArgs.End count room
  form_behind _ _ _ (AreBehind.More count level room nest comma first list us vs is of_first of_list) spelled =
      FormedArgs.More count room first list (form_in level room nest of_first (front_each IsSpelled us vs spelled.1))
      (form_behind count room nest of_list (rest_each IsSpelled us vs spelled.1))

form_expr : Forms IsExpr FormedExpr
form_expr = record { formed = λ e tokens spelled written. form_in written.level 128 128 written.spelled spelled }

-- queries

form_alias : Forms grammar.alias IsName
form_alias = mark form_name

form_item : Forms grammar.item FormedItem
form_item = record { formed = one }
  where
    one : (value : Item) (tokens : List Lexeme) → Each IsSpelled tokens → grammar.item value tokens → FormedItem value
    one value tokens spelled (inl all) = (mark (gives FormedItem shown.All tt)).formed value tokens spelled all
    one value tokens spelled (inr of_expr) =
        (behind form_expr λ e formed. behind (form_optional form_alias) λ called named. gives FormedItem (shown.One e called) (formed, named)).formed
        value tokens spelled of_expr

form_order : Forms grammar.order FormedOrder
form_order = behind form_name λ called named. skip λ down. gives FormedOrder (record { name = called; down = down }) named

form_select : Forms grammar.select FormedSelect
unfolding grammar.select
form_select =
    mark (behind (form_listed form_item) λ items formed_items.
    mark (behind form_name λ table named. skip λ merged. behind (form_optional (mark form_expr)) λ filter formed_filter.
    behind (form_list_behind form_expr) λ keys formed_keys. behind (form_list_behind form_order) λ sorted formed_order.
    behind (form_optional (mark form_whole)) λ limit formed_limit.
    gives FormedSelect (record { items = items; table = table; merged = merged; filter = filter; keys = keys; order = sorted; limit = limit })
    (record { items = formed_items; table = named; filter = formed_filter; keys = formed_keys; order = formed_order; limit = formed_limit })))

-- tables and views

form_names : Forms grammar.names (EachOfSome IsName)
form_names = form_enclosed (form_listed form_name)

form_aggregate : Forms grammar.aggregate FormedKind
form_aggregate =
    mark (mark (behind form_name λ function named. behind (form_optional (mark form_name)) λ arg formed. mark (gives FormedKind (kind.Agg function arg) (named, formed))))

form_kind : Forms grammar.column_kind FormedKind
form_kind = record { formed = one }
  where
    one : (value : KindWord) (tokens : List Lexeme) → Each IsSpelled tokens → grammar.column_kind value tokens → FormedKind value
    one value tokens spelled (inl plain) = (behind form_name λ called named. gives FormedKind (kind.Plain called) named).formed value tokens spelled plain
    one value tokens spelled (inr of_aggregate) = form_aggregate.formed value tokens spelled of_aggregate

form_column : Forms grammar.column FormedColumn
form_column = behind form_name λ called named. behind form_kind λ kind formed. gives FormedColumn (record { name = called; kind = kind }) (named, formed)

form_key : Forms grammar.key (Each IsName)
form_key = record { formed = one }
  where
    one : (value : List (List ℕ)) (tokens : List Lexeme) → Each IsSpelled tokens → grammar.key value tokens → Each IsName value
    one value tokens spelled (inl alone) = (behind form_name λ called named. gives (Each IsName) (called ∷ []) (named, tt)).formed value tokens spelled alone
    one value tokens spelled (inr (inl listed)) = each_of_some IsName value (form_names.formed value tokens spelled listed)
    one value tokens spelled (inr (inr none)) = (mark (mark (gives (Each IsName) [] tt))).formed value tokens spelled none

form_window : Forms grammar.window_setting IsDigits
form_window = mark (mark (mark form_whole))

form_create_table : Forms grammar.create_table FormedTable
unfolding grammar.create_table
form_create_table =
    mark (mark (behind form_name λ called named. behind (form_enclosed (form_listed form_column)) λ columns formed_columns.
    mark (skip λ equals. skip λ engine. skip λ parentheses. mark (mark (behind form_key λ key formed_key.
    behind (form_optional form_window) λ window formed_window.
    gives FormedTable (record { name = called; columns = columns; engine = engine; key = key; window = window })
    (named, formed_columns, formed_key, formed_window))))))

-- a plain select
abbrev PlainSelect : Select → Type 0
PlainSelect query = FormedSelect query × IsPlain query

form_plain_select : Forms grammar.plain_select PlainSelect
form_plain_select = record { formed = λ query tokens spelled written. (form_select.formed query tokens spelled written.0, written.1) }

form_create_view : Forms grammar.create_view FormedView
unfolding grammar.create_view
form_create_view =
    mark (mark (mark (behind form_name λ called named. mark (behind form_name λ target targeted. mark (behind form_plain_select λ query formed.
    gives FormedView (record { name = called; target = target; select = query }) (named, targeted, formed.0, formed.1))))))

-- inserts

FormedSetting : Setting → Type 0
FormedSetting (Setting.Token text) = Unit {0}
FormedSetting (Setting.Later on) = Unit {0}
FormedSetting (Setting.Waits on) = Unit {0}
FormedSetting (Setting.MaxRows digits) = IsDigits digits
FormedSetting (Setting.MinRows digits) = IsDigits digits
FormedSetting (Setting.MinBytes digits) = IsDigits digits
FormedSetting Setting.Views = Unit {0}

form_setting : Forms grammar.setting FormedSetting
unfolding FormedSetting grammar.setting
form_setting = record { formed = one }
  where
    one : (value : Setting) (tokens : List Lexeme) → Each IsSpelled tokens → grammar.setting value tokens → FormedSetting value
    one (Setting.Token text) tokens spelled written = tt
    one (Setting.Later on) tokens spelled written = tt
    one (Setting.Waits on) tokens spelled written = tt
    one (Setting.MaxRows digits) tokens spelled written = (mark form_whole).formed digits tokens spelled written
    one (Setting.MinRows digits) tokens spelled written = (mark form_whole).formed digits tokens spelled written
    one (Setting.MinBytes digits) tokens spelled written = (mark form_whole).formed digits tokens spelled written
    one Setting.Views tokens spelled written = tt

FormedSettings-with_setting : (set : Settings) (value : Setting) → FormedSettings set → FormedSetting value → FormedSettings (grammar.with_setting set value)
unfolding FormedSetting
FormedSettings-with_setting set (Setting.Token text) formed one = record { max_rows = formed.max_rows; min_rows = formed.min_rows; min_bytes = formed.min_bytes }
FormedSettings-with_setting set (Setting.Later on) formed one = record { max_rows = formed.max_rows; min_rows = formed.min_rows; min_bytes = formed.min_bytes }
FormedSettings-with_setting set (Setting.Waits on) formed one = record { max_rows = formed.max_rows; min_rows = formed.min_rows; min_bytes = formed.min_bytes }
FormedSettings-with_setting set (Setting.MaxRows digits) formed one = record { max_rows = one; min_rows = formed.min_rows; min_bytes = formed.min_bytes }
FormedSettings-with_setting set (Setting.MinRows digits) formed one = record { max_rows = formed.max_rows; min_rows = one; min_bytes = formed.min_bytes }
FormedSettings-with_setting set (Setting.MinBytes digits) formed one = record { max_rows = formed.max_rows; min_rows = formed.min_rows; min_bytes = one }
FormedSettings-with_setting set Setting.Views formed one = formed

FormedSettings-fold : (set : Settings) (written : List Setting) → FormedSettings set → Each FormedSetting written
    → FormedSettings (fold grammar.with_setting set written)
FormedSettings-fold set [] formed each = formed
FormedSettings-fold set (value ∷ written) formed each =
    FormedSettings-fold (grammar.with_setting set value) written (FormedSettings-with_setting set value formed each.0) each.1

form_settings : Forms grammar.settings FormedSettings
form_settings =
    behind (form_list_behind form_setting) λ written each. gives FormedSettings (fold grammar.with_setting grammar.default_settings written)
    (FormedSettings-fold grammar.default_settings written (record { max_rows = tt; min_rows = tt; min_bytes = tt }) each)

form_row_literal : Forms grammar.row_literal FormedLiteral
form_row_literal = record { formed = one }
  where
    unsigned : (value : Literal) (token : Lexeme) → IsSpelled token → IsLiteral value token → FormedLiteral value
    unsigned _ _ spelled (IsLiteral.Whole token digits is) = IsDigits-digits_of token digits spelled is
    unsigned _ _ spelled (IsLiteral.Quoted token text is) = tt
    unsigned _ _ spelled (IsLiteral.True token is) = tt
    unsigned _ _ spelled (IsLiteral.False token is) = tt

    one : (value : Literal) (tokens : List Lexeme) → Each IsSpelled tokens → grammar.row_literal value tokens → FormedLiteral value
    one value tokens spelled (inl alone) = unsigned value alone.token (subst (λ (l : List Lexeme). Each IsSpelled l) alone.alone spelled).0 alone.meant
    one value tokens spelled (inr below) =
        (mark (behind form_whole λ digits formed. gives FormedLiteral (literal.Whole true digits) formed)).formed value tokens spelled below

form_insert : Forms grammar.insert FormedInsert
unfolding grammar.insert
form_insert =
    mark (mark (skip λ table_word. behind form_name λ table named. behind (form_optional form_names) λ columns formed_columns.
    behind form_settings λ set formed_settings. mark (behind (form_listed (form_enclosed (form_listed form_row_literal))) λ rows formed_rows.
    gives FormedInsert (record { table = table; columns = columns; settings = set; rows = rows })
    (named, formed_columns, formed_settings, formed_rows))))

-- other statements

form_show_parts : Forms grammar.show_parts (λ (asked : ShowParts). IsName asked.table)
unfolding grammar.show_parts
form_show_parts = mark (mark (behind form_name λ table named. gives (λ (asked : ShowParts). IsName asked.table) (record { table = table }) named))

form_optimize : Forms grammar.optimize (λ (asked : Optimize). IsName asked.table)
unfolding grammar.optimize
form_optimize =
    mark (mark (behind form_name λ table named. mark (gives (λ (asked : Optimize). IsName asked.table) (record { table = table }) named)))

-- statements are well formed
pub well_formed : (s : Statement) (tokens : List Lexeme) → Each IsSpelled tokens → IsStatement s tokens → WellFormed s
well_formed (statement.CreateTable made) tokens spelled written = form_create_table.formed made tokens spelled written
well_formed (statement.CreateView made) tokens spelled written = form_create_view.formed made tokens spelled written
well_formed (statement.Insert brought) tokens spelled written = form_insert.formed brought tokens spelled written
well_formed (statement.Query asked) tokens spelled written = form_select.formed asked tokens spelled written
well_formed (statement.ShowParts asked) tokens spelled written = form_show_parts.formed asked tokens spelled written
well_formed (statement.Optimize asked) tokens spelled written = form_optimize.formed asked tokens spelled written
well_formed statement.FlushQueue tokens spelled written = tt
