-- Exactly the queries are read.
use Rattle.std.proofs.Common.{◌≡◌, ℕ, suc, arith, List, [], ◌∷◌, ◌++◌, Bool, true, false, Option, Some, None, ◌&&◌, length, refl, sym, subst, ◌⊎◌, inl, inr}
use Rattle.std.specs.Prelude.{codes, not, is_none, ◌==◌}
use Rattle.std.proofs.lemmas.Grind.{common_steps}
use Rattle.std.specs.Str.{bytes_eq, str_to_ascii_lowercase}
use Rattle.chv_ast.specs.Grammar.{IsExpr}
use Rattle.chv_ast.specs.Lexemes.{Lexeme, is_keyword, is_sign}
use Rattle.chv_ast.specs.Spellings.{Spelling, Then, give, optional, Listed, keyword, word, sign, whole}
use Rattle.chv_ast.specs.GrammarStatements.{alias, item_of_expr, item, flag, direction, order, list_behind, keyword_by, select, IsPlain, plain_select, create_view}
use Rattle.chv_ast.specs.declared.expr.Expr.{Expr}
use Rattle.chv_ast.specs.declared.statement.Item.TheVariants as shown
use Rattle.chv_ast.specs.declared.statement.Order.{Order}
use Rattle.chv_ast.specs.declared.statement.Select.{Select}
use Rattle.chv_parse.specs.ExprReading.{sign_next, keyword_next, read_keyword, read_expr, EndsExpr}
use Rattle.chv_parse.specs.Reading.{Reader, ◌>>◌, given, next_is, Exact}
use Rattle.chv_parse.specs.StatementReading.{either_at, read_listed, read_list_by, read_alias, read_item_of_expr, read_item, read_is_final, read_filter, read_direction, read_order, read_limit, read_select, is_plain, read_plain_select, read_create_view}
use Rattle.chv_parse.proofs.ExprTokens.{both, keyword-sign, keyword-keyword, sign-keyword, comma-EndsExpr, keyword-EndsExpr, nothing-EndsExpr}
use Rattle.chv_parse.proofs.ExprComplete.{spelled-reads}
use Rattle.chv_parse.proofs.ExprLemmas.{exact_expr}
use Rattle.chv_parse.proofs.ExactLemmas.{Anything, Isnt, Leads, exact_narrow, exact_before, exact_behind, exact_given, exact_marked, exact_meant, exact_either, exact_optional, exact_listed, exact_list, exact_tested, Standing, exact_standing, leads_standing, leads_nothing, leads_marked, leads_then, leads_first, leads_optional, leads_either, leads_list_behind}
use Rattle.chv_parse.proofs.PartLemmas.{keyword_isnt_keyword, keyword_is, sign_is, AtEnd, end_isnt}

-- an expression does not begin with a star
expr_isnt_star : {follows : List Lexeme → Type 0} → Leads IsExpr follows (Isnt (sign_next (codes "*")))
unfolding next_is
expr_isnt_star = record {
  leads = λ e us rest h k.
      let b = (spelled-reads h.level 128 128 e us h.spelled).begins in
      subst (λ (l : List Lexeme). Isnt (sign_next (codes "*")) (l ++ rest)) (sym b.split) b.no_star;
}

-- what may stand behind an item
EndsItem : List Lexeme → Type 0
EndsItem rest = EndsExpr rest × Isnt (keyword_next (codes "AS")) rest

-- the alias of an item, if it is written
exact_alias : Exact read_alias (optional alias) (Isnt (keyword_next (codes "AS")))
unfolding read_alias
exact_alias = exact_optional (exact_behind exact_marked (λ _. exact_meant)) (leads_first (keyword_is (codes "AS"))) (λ rest k. k)

-- an expression ends in front of the word
keyword_ends : (word : List ℕ) {follows : List Lexeme → Type 0} → bytes_eq (str_to_ascii_lowercase word) (codes "or") ≡ false
    → bytes_eq (str_to_ascii_lowercase word) (codes "and") ≡ false → Leads (keyword word) follows EndsExpr
keyword_ends word a b = leads_marked (λ token rest h k. keyword-EndsExpr word token rest a b h)

-- an expression, and perhaps its alias
exact_item_of_expr : Exact read_item_of_expr item_of_expr EndsItem
unfolding read_item_of_expr EndsItem
exact_item_of_expr =
    exact_before exact_expr (λ e. leads_then {between = EndsItem} (leads_optional (leads_first (keyword_ends (codes "AS") refl refl)) (λ rest k. k.0)) (λ called. leads_nothing (λ rest k. k)))
    (λ e. exact_before exact_alias (λ called. leads_nothing (λ rest k. k.1)) (λ called. exact_given))

-- an item of a select
exact_item : Exact read_item item EndsItem
unfolding read_item
exact_item =
    exact_either {p = Then (sign (codes "*")) (λ _. give shown.All)} {q = item_of_expr} {o = item} (exact_behind exact_marked (λ _. exact_given)) exact_item_of_expr
    (leads_first (sign_is (codes "*"))) (leads_first expr_isnt_star) (λ a us h. inl h) (λ a us h. inr h) (λ a us h. h)

-- what may stand behind items
EndsItems : List Lexeme → Type 0
EndsItems rest = EndsItem rest × Isnt (sign_next (codes ",")) rest

exact_items : Exact (read_listed read_item) (Listed item) EndsItems
unfolding EndsItems EndsItem next_is
exact_items =
    exact_listed read_item item EndsItem EndsItems exact_item (λ rest k. k.0) (λ rest k. k.1)
    (λ token rest c. (comma-EndsExpr token rest c, sign-keyword (codes ",") (codes "AS") token c))

-- FROM stands behind items
from_ends : {follows : List Lexeme → Type 0} → Leads (keyword (codes "FROM")) follows EndsItems
unfolding EndsItems EndsItem next_is
from_ends = leads_marked (λ token rest h k.
    ((keyword-EndsExpr (codes "FROM") token rest refl refl h, keyword-keyword (codes "FROM") (codes "AS") token refl h), keyword-sign (codes "FROM") (codes ",") token h))

-- whether FINAL is written
exact_final : Exact read_is_final (flag (keyword (codes "FINAL"))) (Isnt (keyword_next (codes "FINAL")))
unfolding read_is_final
exact_final =
    exact_either {p = Standing true final} {q = give false} {o = flag final} (exact_standing exact_marked) exact_given (leads_standing (keyword_is (codes "FINAL"))) (leads_nothing (λ rest k. k))
    (λ a us h. subst (λ (b : Bool). flag final b us) (sym h.0) h.1) (λ a us h. subst (λ (b : Bool). flag final b us) (sym h.0) h.1) apart
  where
    final : Spelling (Unit {0})
    final = keyword (codes "FINAL")

    apart : (a : Bool) (us : List Lexeme) → flag final a us → Standing true final a us ⊎ give false a us
    apart true us h = inl (refl, h)
    apart false us h = inr (refl, h)

-- what may stand behind a condition
EndsFilter : List Lexeme → Type 0
EndsFilter rest = EndsExpr rest × Isnt (keyword_next (codes "WHERE")) rest

exact_filter : Exact read_filter (optional (Then (keyword (codes "WHERE")) (λ _. IsExpr))) EndsFilter
unfolding read_filter EndsFilter
exact_filter = exact_optional (exact_behind exact_marked (λ _. exact_narrow exact_expr (λ rest k. k.0))) (leads_first (keyword_is (codes "WHERE"))) (λ rest k. k.1)

-- ASC, or nothing
Rising : Spelling Bool
Rising down us = Standing false (keyword (codes "ASC")) down us ⊎ give false down us

-- what may stand behind a direction
EndsDirection : List Lexeme → Type 0
EndsDirection rest = Isnt (keyword_next (codes "DESC")) rest × Isnt (keyword_next (codes "ASC")) rest

exact_direction : Exact read_direction direction EndsDirection
unfolding read_direction EndsDirection Rising
exact_direction =
    exact_either {p = Standing true (keyword (codes "DESC"))} {q = Rising} {o = direction} (exact_standing exact_marked) rising (leads_standing (keyword_is (codes "DESC")))
    (leads_either {p = Standing false (keyword (codes "ASC"))} {q = give false} (leads_standing (keyword_isnt_keyword (codes "ASC") (codes "DESC") refl)) (leads_nothing (λ rest k. k.0)) (λ a us h. h))
    (λ a us h. subst (λ (b : Bool). direction b us) (sym h.0) h.1) into apart
  where
    rising : Exact (either_at (keyword_next (codes "ASC")) (read_keyword (codes "ASC") >> given false) (given false)) Rising EndsDirection
    rising =
        exact_either {p = Standing false (keyword (codes "ASC"))} {q = give false} {o = Rising} (exact_standing exact_marked) exact_given (leads_standing (keyword_is (codes "ASC")))
        (leads_nothing (λ rest k. k.1)) (λ a us h. inl h) (λ a us h. inr h) (λ a us h. h)

    into : (a : Bool) (us : List Lexeme) → Rising a us → direction a us
    into a us (inl h) = subst (λ (b : Bool). direction b us) (sym h.0) (inl h.1)
    into a us (inr h) = subst (λ (b : Bool). direction b us) (sym h.0) (inr h.1)

    apart : (a : Bool) (us : List Lexeme) → direction a us → Standing true (keyword (codes "DESC")) a us ⊎ Rising a us
    apart true us h = inl (refl, h)
    apart false us (inl h) = inr (inl (refl, h))
    apart false us (inr h) = inr (inr (refl, h))

-- name [ASC | DESC]
exact_order : Exact read_order order EndsDirection
unfolding read_order
exact_order = exact_behind exact_meant (λ called. exact_before exact_direction (λ down. leads_nothing (λ rest k. k)) (λ down. exact_given))

-- values behind GROUP BY, or behind ORDER BY
exact_list_by : {A : Type 0} (first : List ℕ) (r : Reader A) {p : Spelling A} {follows : List Lexeme → Type 0} → Exact (read_listed r) (Listed p) follows
    → ((rest : List Lexeme) → follows rest → Isnt (keyword_next first) rest) → Exact (read_list_by first r) (list_behind (keyword_by first) p) follows
unfolding read_list_by
exact_list_by first r listed isnt = exact_list (exact_behind (exact_behind exact_marked (λ _. exact_marked)) (λ _. listed)) (leads_first (keyword_is first)) isnt

-- what may stand behind GROUP BY, and behind ORDER BY
EndsKeys : List Lexeme → Type 0
EndsKeys rest = EndsExpr rest × Isnt (sign_next (codes ",")) rest × Isnt (keyword_next (codes "GROUP")) rest

EndsSorted : List Lexeme → Type 0
EndsSorted rest = EndsDirection rest × Isnt (sign_next (codes ",")) rest × Isnt (keyword_next (codes "ORDER")) rest

exact_keys : Exact (read_list_by (codes "GROUP") read_expr) (list_behind (keyword_by (codes "GROUP")) IsExpr) EndsKeys
unfolding EndsKeys
exact_keys =
    exact_list_by (codes "GROUP") read_expr (exact_listed read_expr IsExpr EndsExpr EndsKeys exact_expr (λ rest k. k.0) (λ rest k. k.1) (λ token rest c. comma-EndsExpr token rest c)) (λ rest k. k.2)

exact_sorted : Exact (read_list_by (codes "ORDER") read_order) (list_behind (keyword_by (codes "ORDER")) order) EndsSorted
unfolding EndsSorted EndsDirection next_is
exact_sorted =
    exact_list_by (codes "ORDER") read_order (exact_listed read_order order EndsDirection EndsSorted exact_order (λ rest k. k.0) (λ rest k. k.1)
    (λ token rest c. (sign-keyword (codes ",") (codes "DESC") token c, sign-keyword (codes ",") (codes "ASC") token c))) (λ rest k. k.2)

exact_limit : Exact read_limit (optional (Then (keyword (codes "LIMIT")) (λ _. whole))) (Isnt (keyword_next (codes "LIMIT")))
unfolding read_limit
exact_limit = exact_optional (exact_behind exact_marked (λ _. exact_meant)) (leads_first (keyword_is (codes "LIMIT"))) (λ rest k. k)

-- what the words of a query that may follow, and the end, have in common
module _ (ends : List Lexeme → Type 0) (nothing : ends []) where
  ended : (rest : List Lexeme) → AtEnd rest → ends rest
  ended rest e = subst ends (sym e) nothing

  leads_limit : {B : Type 0} {f : Option (List ℕ) → B} → Leads (keyword (codes "LIMIT")) Anything ends
      → Leads (Then (optional (Then (keyword (codes "LIMIT")) (λ _. whole))) (λ limit. give (f limit))) AtEnd ends
  leads_limit limit = leads_then {between = ends} (leads_optional (leads_first limit) (λ rest k. k)) (λ a. leads_nothing ended)

  leads_sorted : {B : Type 0} {q : List Order → Spelling B} → Leads (keyword (codes "ORDER")) Anything ends → ((sorted : List Order) → Leads (q sorted) AtEnd ends)
      → Leads (Then (list_behind (keyword_by (codes "ORDER")) order) q) AtEnd ends
  leads_sorted one more = leads_then {between = ends} (leads_list_behind (leads_first (leads_first one)) (λ rest k. k)) more

  leads_keys : {B : Type 0} {q : List Expr → Spelling B} → Leads (keyword (codes "GROUP")) Anything ends → ((keys : List Expr) → Leads (q keys) AtEnd ends)
      → Leads (Then (list_behind (keyword_by (codes "GROUP")) IsExpr) q) AtEnd ends
  leads_keys one more = leads_then {between = ends} (leads_list_behind (leads_first (leads_first one)) (λ rest k. k)) more

  leads_filter : {B : Type 0} {q : Option Expr → Spelling B} → Leads (keyword (codes "WHERE")) Anything ends → ((filter : Option Expr) → Leads (q filter) AtEnd ends)
      → Leads (Then (optional (Then (keyword (codes "WHERE")) (λ _. IsExpr))) q) AtEnd ends
  leads_filter one more = leads_then {between = ends} (leads_optional (leads_first one) (λ rest k. k)) more

-- where nothing follows, all of this ends
nothing_isnt : (test : Lexeme → Bool) → Isnt (next_is test) []
unfolding next_is
nothing_isnt test = refl

nothing_filter : EndsFilter []
unfolding EndsFilter
nothing_filter = (nothing-EndsExpr, nothing_isnt (is_keyword (codes "WHERE")))

nothing_keys : EndsKeys []
unfolding EndsKeys
nothing_keys = (nothing-EndsExpr, nothing_isnt (is_sign (codes ",")), nothing_isnt (is_keyword (codes "GROUP")))

nothing_sorted : EndsSorted []
unfolding EndsSorted EndsDirection
nothing_sorted = ((nothing_isnt (is_keyword (codes "DESC")), nothing_isnt (is_keyword (codes "ASC"))), nothing_isnt (is_sign (codes ",")), nothing_isnt (is_keyword (codes "ORDER")))

-- a word that is neither OR, AND nor WHERE stands behind a condition
word_filter : (word : List ℕ) {follows : List Lexeme → Type 0} → bytes_eq (str_to_ascii_lowercase word) (codes "or") ≡ false → bytes_eq (str_to_ascii_lowercase word) (codes "and") ≡ false
    → bytes_eq (str_to_ascii_lowercase word) (codes "where") ≡ false → Leads (keyword word) follows EndsFilter
unfolding EndsFilter next_is
word_filter word a b c = leads_marked (λ token rest h k. (keyword-EndsExpr word token rest a b h, keyword-keyword word (codes "WHERE") token c h))

-- a word that is neither OR, AND nor GROUP stands behind GROUP BY
word_keys : (word : List ℕ) {follows : List Lexeme → Type 0} → bytes_eq (str_to_ascii_lowercase word) (codes "or") ≡ false → bytes_eq (str_to_ascii_lowercase word) (codes "and") ≡ false
    → bytes_eq (str_to_ascii_lowercase word) (codes "group") ≡ false → Leads (keyword word) follows EndsKeys
unfolding EndsKeys next_is
word_keys word a b c =
    leads_marked (λ token rest h k. (keyword-EndsExpr word token rest a b h, keyword-sign word (codes ",") token h, keyword-keyword word (codes "GROUP") token c h))

-- LIMIT stands behind ORDER BY
limit_sorted : {follows : List Lexeme → Type 0} → Leads (keyword (codes "LIMIT")) follows EndsSorted
unfolding EndsSorted EndsDirection next_is
limit_sorted =
    leads_marked (λ token rest h k. (
      (keyword-keyword (codes "LIMIT") (codes "DESC") token refl h, keyword-keyword (codes "LIMIT") (codes "ASC") token refl h),
      keyword-sign (codes "LIMIT") (codes ",") token h,
      keyword-keyword (codes "LIMIT") (codes "ORDER") token refl h,
    ))

-- a query
pub exact_select : Exact read_select select AtEnd
unfolding read_select select
exact_select =
    exact_behind exact_marked (λ _. exact_before exact_items (λ items. leads_first from_ends) (λ items. exact_behind exact_marked (λ _. exact_behind exact_meant (λ table.
    exact_before exact_final (λ merged.
    leads_filter final (nothing_isnt is_final) (keyword_isnt_keyword (codes "WHERE") (codes "FINAL") refl) (λ filter.
    leads_keys final (nothing_isnt is_final) (keyword_isnt_keyword (codes "GROUP") (codes "FINAL") refl) (λ keys.
    leads_sorted final (nothing_isnt is_final) (keyword_isnt_keyword (codes "ORDER") (codes "FINAL") refl) (λ sorted.
    leads_limit final (nothing_isnt is_final) (keyword_isnt_keyword (codes "LIMIT") (codes "FINAL") refl))))) (λ merged.
    exact_before exact_filter (λ filter.
    leads_keys EndsFilter nothing_filter (word_filter (codes "GROUP") refl refl refl) (λ keys.
    leads_sorted EndsFilter nothing_filter (word_filter (codes "ORDER") refl refl refl) (λ sorted.
    leads_limit EndsFilter nothing_filter (word_filter (codes "LIMIT") refl refl refl)))) (λ filter.
    exact_before exact_keys (λ keys.
    leads_sorted EndsKeys nothing_keys (word_keys (codes "ORDER") refl refl refl) (λ sorted.
    leads_limit EndsKeys nothing_keys (word_keys (codes "LIMIT") refl refl refl))) (λ keys.
    exact_before exact_sorted (λ sorted. leads_limit EndsSorted nothing_sorted limit_sorted) (λ sorted.
    exact_before exact_limit (λ limit. leads_nothing (end_isnt (is_keyword (codes "LIMIT")))) (λ limit. exact_given)))))))))
  where
    is_final : Lexeme → Bool
    is_final = is_keyword (codes "FINAL")

    final : List Lexeme → Type 0
    final = Isnt (next_is is_final)

-- one more than a number is not zero
not_zero : (n : ℕ) → (suc n == 0) ≡ true → ⊥
not_zero n e = grind (arith, common_steps)

-- a select that is told plain
plain_told : (query : Select) → is_plain query ≡ true → IsPlain query
plain_told query e =
    let a = both (not query.merged) ((length query.order == 0) && is_none query.limit) e in
    let b = both (length query.order == 0) (is_none query.limit) a.1 in
    record { unmerged = unmerged query.merged a.0; unsorted = unsorted query.order b.0; unlimited = unlimited query.limit b.1 }
  where
    unmerged : (b : Bool) → not b ≡ true → b ≡ false
    unmerged true e = cc
    unmerged false e = refl

    unsorted : (orders : List Order) → (length orders == 0) ≡ true → orders ≡ []
    unsorted [] e = refl
    unsorted (one ∷ more) e = absurd (not_zero (length more) e)

    unlimited : (limit : Option (List ℕ)) → is_none limit ≡ true → limit ≡ None
    unlimited None e = refl
    unlimited (Some digits) e = cc

-- a plain select is told so
plain_is : (query : Select) → IsPlain query → is_plain query ≡ true
plain_is query h = rw (h.unmerged, h.unsorted, h.unlimited) refl

-- a plain select
exact_plain_select : Exact read_plain_select plain_select AtEnd
unfolding read_plain_select
exact_plain_select = exact_tested is_plain IsPlain plain_told plain_is exact_select

-- a statement that makes a view
pub exact_create_view : Exact read_create_view create_view AtEnd
unfolding read_create_view create_view
exact_create_view =
    exact_behind exact_marked (λ _. exact_behind exact_marked (λ _. exact_behind exact_marked (λ _. exact_behind exact_meant (λ called. exact_behind exact_marked (λ _.
    exact_behind exact_meant (λ target. exact_behind exact_marked (λ _. exact_before exact_plain_select (λ query. leads_nothing (λ rest k. k)) (λ query. exact_given))))))))
