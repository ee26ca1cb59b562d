-- A fact of each table: at a place, of other facts, with one table more, and with one that is replaced.
use Rattle.std.proofs.Common.{◌≡◌, ◌≢◌, ℕ, zero, suc, ◌+◌, ◌<◌, ◌≤◌, List, [], ◌∷◌, ◌++◌, length, slice_get, slice_set, Some, refl, subst, arith}
use Rattle.std.specs.List.{All}
use Rattle.std.proofs.lemmas.List.Elements.{All-cons, All-head, All-nil, All-tail}
use Rattle.chv_catalog.specs.declared.table_def.TableDef.{TableDef}
use Rattle.chv_table.specs.declared.table.Table.{Table}
use Rattle.chv_store.specs.Stores.{EachTable}

-- what is there at a place
pub record TableAt (P : ℕ → TableDef → Table → Type 0) (number place : ℕ) (def : TableDef) (tables : List Table) : Type 0 where
  pub table : Table
  pub stands : slice_get tables place ≡ Some table
  pub holds : P (number + place) def table

pub each-length : (P : ℕ → TableDef → Table → Type 0) (number : ℕ) (defs : List TableDef) (tables : List Table) → EachTable P number defs tables → length tables ≡ length defs
each-length P number [] [] each = refl
each-length P number [] (table ∷ tables) each = absurd each
each-length P number (def ∷ defs) [] each = absurd each
each-length P number (def ∷ defs) (table ∷ tables) each = omega (arith, each-length P (number + 1) defs tables each.1)

pub each-at : (P : ℕ → TableDef → Table → Type 0) (number place : ℕ) (defs : List TableDef) (tables : List Table) (def : TableDef) → EachTable P number defs tables → slice_get defs place ≡ Some def
    → TableAt P number place def tables
each-at P number place [] tables def each stands = cc
each-at P number place (first ∷ defs) [] def each stands = absurd each
each-at P number zero (first ∷ defs) (table ∷ tables) def each stands = record {
  table = table;
  stands = refl;
  holds = subst (λ (d : TableDef). P (number + 0) d table) (cc) (subst (λ (n : ℕ). P n first table) (omega arith) each.0);
}
each-at P number (suc place) (first ∷ defs) (table ∷ tables) def each stands =
    let at = each-at P (number + 1) place defs tables def each.1 stands in
    record { table = at.table; stands = at.stands; holds = subst (λ (n : ℕ). P n def at.table) (omega arith) at.holds }

pub each-weaker : (P Q : ℕ → TableDef → Table → Type 0) (number : ℕ) (defs : List TableDef) (tables : List Table)
    → ((n : ℕ) (def : TableDef) (table : Table) → number ≤ n → n < number + length defs → P n def table → Q n def table)
    → EachTable P number defs tables → EachTable Q number defs tables
each-weaker P Q number [] [] weaker each = tt
each-weaker P Q number [] (table ∷ tables) weaker each = absurd each
each-weaker P Q number (def ∷ defs) [] weaker each = absurd each
each-weaker P Q number (def ∷ defs) (table ∷ tables) weaker each = (
  weaker number def table (omega arith) (omega arith) each.0,
  each-weaker P Q (number + 1) defs tables (λ n d t low high. weaker n d t (omega (arith, low)) (omega (arith, high))) each.1,
)

pub each-more : (P : ℕ → TableDef → Table → Type 0) (number : ℕ) (defs : List TableDef) (tables : List Table) (def : TableDef) (table : Table)
    → EachTable P number defs tables → P (number + length defs) def table → EachTable P number (defs ++ def ∷ []) (tables ++ table ∷ [])
each-more P number [] [] def table each more = (subst (λ (n : ℕ). P n def table) (omega arith) more, tt)
each-more P number [] (first ∷ tables) def table each more = absurd each
each-more P number (first ∷ defs) [] def table each more = absurd each
each-more P number (first ∷ defs) (old ∷ tables) def table each more = (
  each.0,
  each-more P (number + 1) defs tables def table each.1 (subst (λ (n : ℕ). P n def table) (omega arith) more),
)

pub each-set : (P Q : ℕ → TableDef → Table → Type 0) (number place : ℕ) (defs : List TableDef) (tables : List Table) (def : TableDef) (table : Table)
    → ((n : ℕ) (d : TableDef) (t : Table) → number ≤ n → n < number + length defs → n ≢ number + place → P n d t → Q n d t)
    → slice_get defs place ≡ Some def → EachTable P number defs tables → Q (number + place) def table → EachTable Q number defs (slice_set tables place table)
each-set P Q number place [] tables def table other stands each new = cc
each-set P Q number place (first ∷ defs) [] def table other stands each new = absurd each
each-set P Q number zero (first ∷ defs) (old ∷ tables) def table other stands each new = (
  subst (λ (d : TableDef). Q number d table) (cc) (subst (λ (n : ℕ). Q n def table) (omega arith) new),
  each-weaker P Q (number + 1) defs tables (λ n d t low high. other n d t (omega (arith, low)) (omega (arith, high)) (λ same. absurd (omega (arith, low, same)))) each.1,
)
each-set P Q number (suc place) (first ∷ defs) (old ∷ tables) def table other stands each new = (
  other number first old (omega arith) (omega arith) (λ same. absurd (omega (arith, same))) each.0,
  each-set P Q (number + 1) place defs tables def table
      (λ n d t low high apart. other n d t (omega (arith, low)) (omega (arith, high)) (λ same. apart (omega (arith, same))))
      stands each.1 (subst (λ (n : ℕ). Q n def table) (omega arith) new),
)

pub each-both : (P Q : ℕ → TableDef → Table → Type 0) (number : ℕ) (defs : List TableDef) (tables : List Table) → EachTable P number defs tables → EachTable Q number defs tables
    → EachTable (λ n def table. P n def table × Q n def table) number defs tables
each-both P Q number [] [] first second = tt
each-both P Q number [] (table ∷ tables) first second = absurd first
each-both P Q number (def ∷ defs) [] first second = absurd first
each-both P Q number (def ∷ defs) (table ∷ tables) first second = ((first.0, second.0), each-both P Q (number + 1) defs tables first.1 second.1)

-- a fact of the tables alone, beside one that goes by the definitions
pub each-with-all : (P : ℕ → TableDef → Table → Type 0) (R : Table → Type 0) (number : ℕ) (defs : List TableDef) (tables : List Table) → EachTable P number defs tables → All R tables
    → EachTable (λ n def table. P n def table × R table) number defs tables
each-with-all P R number [] [] each all = tt
each-with-all P R number [] (table ∷ tables) each all = absurd each
each-with-all P R number (def ∷ defs) [] each all = absurd each
each-with-all P R number (def ∷ defs) (table ∷ tables) each all = ((each.0, All-head R table tables all), each-with-all P R (number + 1) defs tables each.1 (All-tail R table tables all))

pub each-all : (P : ℕ → TableDef → Table → Type 0) (R : Table → Type 0) (number : ℕ) (defs : List TableDef) (tables : List Table) → ((n : ℕ) (def : TableDef) (table : Table) → P n def table → R table)
    → EachTable P number defs tables → All R tables
each-all P R number [] [] so each = All-nil R
each-all P R number [] (table ∷ tables) so each = absurd each
each-all P R number (def ∷ defs) [] so each = absurd each
each-all P R number (def ∷ defs) (table ∷ tables) so each = All-cons R table tables (so number def table each.0) (each-all P R (number + 1) defs tables so each.1)
