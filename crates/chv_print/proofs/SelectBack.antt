-- The canonical text of a query reads back as it.
use Rattle.std.specs.Prelude.{ℕ, Bool, true, false, List, [], ◌∷◌, codes, Option, Some, None, if◌then◌else◌}
use Rattle.std.proofs.Common.{refl, inl, inr}
use Rattle.chv_ast.specs.Formed.{Each, IfThere, FormedExpr, FormedItem, FormedOrder, FormedSelect}
use Rattle.chv_ast.specs.Grammar.{IsExpr}
use Rattle.chv_ast.specs.Spellings.{◌>>◌, give, keyword, whole, optional}
use Rattle.chv_ast.specs.GrammarStatements.{alias, item, flag, direction, order, list_behind, keyword_by, select}
use Rattle.chv_ast.specs.Words.{IsName, IsDigits, is_word_text}
use Rattle.chv_ast.specs.declared.expr.Expr.{Expr}
use Rattle.chv_ast.specs.declared.statement.Item.{Item}
use Rattle.chv_ast.specs.declared.statement.Item.TheVariants as shown
use Rattle.chv_ast.specs.declared.statement.Order.{Order}
use Rattle.chv_ast.specs.declared.statement.Select.{Select}
use Rattle.chv_print.specs.Texts.{name_text, optional_text, list_text}
use Rattle.chv_print.specs.ExprTexts.{expr_text}
use Rattle.chv_print.specs.StatementTexts.{item_text, order_text, select_text, digits_text}
use Rattle.chv_print.proofs.ExprBack.{printed_expr}
use Rattle.chv_print.proofs.Parts.{ends_both, EndsTokens, part_empty}
use Rattle.chv_print.proofs.Prints.{Prints, printed_as, prints_star, spaced, then_, ends, absent, prints_keyword, prints_name, prints_digits, prints_listed}

prints_limit : (digits : Option (List ℕ)) → IfThere IsDigits digits
    → Prints (optional (keyword (codes "LIMIT") >> whole)) digits (digits_text (codes " LIMIT ") digits)
unfolding is_word_text
prints_limit None h = absent
prints_limit (Some digits) h =
    printed_as (λ us w. w) (spaced (then_ (prints_keyword (codes "LIMIT") refl) refl (spaced (prints_digits digits h))))

-- an item of a select
prints_alias : (called : Option (List ℕ)) → IfThere IsName called → Prints (optional alias) called (optional_text (codes " AS ") name_text called)
unfolding is_word_text
prints_alias None h = absent
prints_alias (Some called) h =
    printed_as (λ us w. w) (spaced (then_ (prints_keyword (codes "AS") refl) refl (spaced (prints_name called h))))

pub ends_optional : {A : Type 0} (words : List ℕ) (text : A → List ℕ) (value : Option A) → EndsTokens (optional_text (32 ∷ words) text value)
ends_optional words text None = record { is = refl }
ends_optional words text (Some value) = record { is = refl }

prints_item : (i : Item) → FormedItem i → Prints item i (item_text i)
prints_item shown.All h = printed_as (λ us w. inl w) (ends {q = λ u. give shown.All} prints_star (refl, refl))
prints_item (shown.One e called) h = printed_as (λ us w. inr w)
    (then_ (printed_expr e h.0) (ends_optional (codes "AS ") name_text called).is (ends (prints_alias called h.1) (refl, refl)))

-- a name that an answer is sorted by
prints_direction : (down : Bool) → Prints direction down (if down then codes " DESC" else [])
unfolding is_word_text
prints_direction true = printed_as (λ us w. w) (spaced (prints_keyword (codes "DESC") refl))
prints_direction false = record { lexemes = []; written = inr refl; part = part_empty }

ends_if : (flag : Bool) (words : List ℕ) → EndsTokens (if flag then 32 ∷ words else [])
ends_if true words = record { is = refl }
ends_if false words = record { is = refl }

prints_order : (o : Order) → FormedOrder o → Prints order o (order_text o)
prints_order o h = then_ (prints_name o.name h) (ends_if o.down (codes "DESC")).is (ends (prints_direction o.down) (refl, refl))

prints_final : (merged : Bool) → Prints (flag (keyword (codes "FINAL"))) merged (if merged then codes " FINAL" else [])
unfolding is_word_text
prints_final true = printed_as (λ us w. w) (spaced (prints_keyword (codes "FINAL") refl))
prints_final false = record { lexemes = []; written = refl; part = part_empty }

prints_filter : (filter : Option Expr) → IfThere FormedExpr filter
    → Prints (optional (keyword (codes "WHERE") >> IsExpr)) filter (optional_text (codes " WHERE ") expr_text filter)
unfolding is_word_text
prints_filter None h = absent
prints_filter (Some e) h =
    printed_as (λ us w. w) (spaced (then_ (prints_keyword (codes "WHERE") refl) refl (spaced (printed_expr e h))))

prints_keys : (keys : List Expr) → Each FormedExpr keys
    → Prints (list_behind (keyword_by (codes "GROUP")) IsExpr) keys (list_text (codes " GROUP BY ") expr_text keys)
unfolding is_word_text
prints_keys [] h = record { lexemes = []; written = refl; part = part_empty }
prints_keys (e ∷ rest) h = printed_as (λ us w. w) (spaced (then_
    (then_ (prints_keyword (codes "GROUP") refl) refl (spaced (prints_keyword (codes "BY") refl))) refl
    (spaced (prints_listed expr_text printed_expr (e ∷ rest) h))))

prints_orders : (orders : List Order) → Each FormedOrder orders
    → Prints (list_behind (keyword_by (codes "ORDER")) order) orders (list_text (codes " ORDER BY ") order_text orders)
unfolding is_word_text
prints_orders [] h = record { lexemes = []; written = refl; part = part_empty }
prints_orders (o ∷ rest) h = printed_as (λ us w. w) (spaced (then_
    (then_ (prints_keyword (codes "ORDER") refl) refl (spaced (prints_keyword (codes "BY") refl))) refl
    (spaced (prints_listed order_text prints_order (o ∷ rest) h))))

pub ends_list : {A : Type 0} (words : List ℕ) (text : A → List ℕ) (values : List A) → EndsTokens (list_text (32 ∷ words) text values)
ends_list words text [] = record { is = refl }
ends_list words text (value ∷ values) = record { is = refl }

-- a query
pub prints_select : (query : Select) → FormedSelect query → Prints select query (select_text query)
unfolding select select_text is_word_text
prints_select query h =
    let limit = ends_optional (codes "LIMIT ") (λ digits. digits) query.limit in
    let orders = ends_both (ends_list (codes "ORDER BY ") order_text query.order) limit in
    let keys = ends_both (ends_list (codes "GROUP BY ") expr_text query.keys) orders in
    let filter = ends_both (ends_optional (codes "WHERE ") expr_text query.filter) keys in
    let final = ends_both (ends_if query.merged (codes "FINAL")) filter in
    then_ (prints_keyword (codes "SELECT") refl) refl (spaced
    (then_ (prints_listed item_text prints_item query.items h.items) refl (spaced
    (then_ (prints_keyword (codes "FROM") refl) refl (spaced
    (then_ (prints_name query.table h.table) final.is
    (then_ (prints_final query.merged) filter.is
    (then_ (prints_filter query.filter h.filter) keys.is
    (then_ (prints_keys query.keys h.keys) orders.is
    (then_ (prints_orders query.order h.order) limit.is
    (ends (prints_limit query.limit h.limit) (refl, refl))))))))))))
