-- Columns as they are read, a value behind each row at a time.
use Rattle.std.proofs.Common.{◌≡◌, ◌≢◌, ℕ, zero, suc, ◌+◌, ◌<◌, ◌≤◌, List, [], ◌∷◌, ◌++◌, length, take, drop, set, get_or, Option, Some, None, refl, sym, ap, ap₂, subst, ◌∙◌, arith, add-one, zero-add, append_assoc, append-nil, length-append, length-drop}
use Rattle.std.specs.List.{slice_get}
use Rattle.std.proofs.Math.Seq.{take-suc}
use Rattle.chv_types.specs.declared.kind.Kind.{Kind}
use Rattle.chv_types.specs.declared.value.Value.{Value}
use Rattle.chv_bytes.specs.Places.{StandsAt}
use Rattle.chv_block.specs.Spellings.{IsOf, value_spelling, AreOf, AllAreOf}
use Rattle.chv_part.specs.Columns.{IsSomeOf, ColumnIsOf, ValuesAreOf, values_spelling, with_column, HasGained}
use Rattle.chv_part.specs.Parts.{spelled, column_spelling, columns_spelling}
use Rattle.chv_part.proofs.ColumnLemmas.{tails, regroup, one_at, one_column, one_table, column_at, columns_step, column_fits, others_fit, from_first}

-- one value more

ValuesAreOf-more : (kind : Kind) (values : List Value) (value : Value) → ValuesAreOf kind values → IsOf kind value → ValuesAreOf kind (values ++ value ∷ [])
ValuesAreOf-more kind [] value are is = (is, tt)
ValuesAreOf-more kind (v ∷ values) value are is = (are.0, ValuesAreOf-more kind values value are.1 is)

values_spelling-more : (kind : Kind) (values : List Value) (value : Value) → values_spelling kind (values ++ value ∷ []) ≡ values_spelling kind values ++ value_spelling kind value
values_spelling-more kind [] value = append-nil (value_spelling kind value)
values_spelling-more kind (v ∷ values) value =
    ap (λ (l : List ℕ). value_spelling kind v ++ l) (values_spelling-more kind values value) ∙ sym (append_assoc (value_spelling kind v) (values_spelling kind values) (value_spelling kind value))

with_column-none : (rows : List (List Value)) → with_column rows [] ≡ rows
with_column-none [] = refl
with_column-none (row ∷ rows) = refl

with_column-more : (rows : List (List Value)) (values : List Value) (value : Value) (j : ℕ) (none : List Value) → length values ≡ j → j < length rows
    → set (with_column rows values) j (get_or (with_column rows values) j none ++ value ∷ []) ≡ with_column rows (values ++ value ∷ [])
with_column-more [] values value j none count within = absurd (omega (arith, within))
with_column-more (row ∷ rows) [] value zero none count within = ap (λ (l : List (List Value)). (row ++ value ∷ []) ∷ l) (sym (with_column-none rows))
with_column-more (row ∷ rows) [] value (suc j) none count within = absurd (omega (arith, count))
with_column-more (row ∷ rows) (v ∷ values) value zero none count within = absurd (omega (arith, count))
with_column-more (row ∷ rows) (v ∷ values) value (suc j) none count within =
    ap (λ (l : List (List Value)). (row ++ v ∷ []) ∷ l) (with_column-more rows values value j none (omega (arith, count)) (omega (arith, within)))

pub length-with_column : (rows : List (List Value)) (values : List Value) → length (with_column rows values) ≡ length rows
length-with_column [] values = refl
length-with_column (row ∷ rows) [] = refl
length-with_column (row ∷ rows) (value ∷ values) = ap suc (length-with_column rows values)

-- before the first value nothing is read
pub gains_nothing : (kind : Kind) (rows : List (List Value)) (bytes : List ℕ) (at : ℕ) → HasGained kind 0 rows rows bytes at at
gains_nothing kind rows bytes at = record { values = []; count_of = refl; kind_fits = tt; rows = sym (with_column-none rows); spelled = refl }

-- a value that stands behind those that were read, and is put behind its row
pub gains_more : (kind : Kind) (j next_j : ℕ) (old new newer : List (List Value)) (none : List Value) (bytes : List ℕ) (at next behind : ℕ) (value : Value)
    → HasGained kind j old new bytes at next → j < length old → next_j ≡ suc j → IsOf kind value → StandsAt (value_spelling kind value) bytes next behind
    → newer ≡ set new j (get_or new j none ++ value ∷ []) → HasGained kind next_j old newer bytes at behind
gains_more kind j next_j old new newer none bytes at next behind value gained within is of stands put = record {
  values = gained.values ++ value ∷ [];
  count_of = omega (arith, is, gained.count_of, length-append gained.values (value ∷ []));
  kind_fits = ValuesAreOf-more kind gained.values value gained.kind_fits of;
  rows = put ∙ ap (λ (l : List (List Value)). set l j (get_or l j none ++ value ∷ [])) gained.rows ∙ with_column-more old gained.values value j none gained.count_of within;
  spelled =
      gained.spelled ∙ ap (λ (l : List ℕ). values_spelling kind gained.values ++ l) stands.spelled
      ∙ sym (append_assoc (values_spelling kind gained.values) (value_spelling kind value) (drop behind bytes))
      ∙ ap (λ (l : List ℕ). l ++ drop behind bytes) (sym (values_spelling-more kind gained.values value));
}

-- what is left of a column whose first values were read
unread : (kind : Kind) (place : ℕ) (values : List Value) (given : List (List Value)) (x rest : List ℕ) → length values ≤ length given → ValuesAreOf kind values → ColumnIsOf kind place given
    → values_spelling kind values ++ x ≡ column_spelling kind place given ++ rest → x ≡ column_spelling kind place (drop (length values) given) ++ rest
unread kind place [] given x rest within h k same = same
unread kind place (v ∷ values) [] x rest within h k same = absurd (omega (arith, within))
unread kind place (v ∷ values) (g ∷ given) x rest within h k same =
    let first = one_at kind (Some v) (slice_get g place) (values_spelling kind values ++ x) (column_spelling kind place given ++ rest) h.0 k.0
    (regroup (value_spelling kind v) (values_spelling kind values) (spelled kind (slice_get g place)) (column_spelling kind place given) x rest same) in
    unread kind place values given x rest (omega (arith, within)) h.1 k.1 first.1

ColumnIsOf-drop : (kind : Kind) (place j : ℕ) (given : List (List Value)) → ColumnIsOf kind place given → ColumnIsOf kind place (drop j given)
ColumnIsOf-drop kind place zero given of = of
ColumnIsOf-drop kind place (suc j) [] of = of
ColumnIsOf-drop kind place (suc j) (g ∷ given) of = ColumnIsOf-drop kind place j given of.1

-- these bytes begin with no value of the kind
abbrev pub BeginsWithNone : Kind → List ℕ → Type 0
BeginsWithNone kind bytes = (value : Value) (rest : List ℕ) → IsOf kind value → bytes ≢ value_spelling kind value ++ rest

none_at : (kind : Kind) (v : Option Value) (bytes rest : List ℕ) → BeginsWithNone kind bytes → IsSomeOf kind v → bytes ≢ spelled kind v ++ rest
none_at kind None bytes rest none of same = absurd of
none_at kind (Some value) bytes rest none of same = none value rest of same

none_first : (kind : Kind) (place : ℕ) (given : List (List Value)) (bytes rest : List ℕ) → BeginsWithNone kind bytes → 1 ≤ length given → ColumnIsOf kind place given
    → bytes ≢ column_spelling kind place given ++ rest
none_first kind place [] bytes rest none some of same = absurd (omega (arith, some))
none_first kind place (g ∷ given) bytes rest none some of same =
    none_at kind (slice_get g place) bytes (column_spelling kind place given ++ rest) none of.0 (same ∙ append_assoc (spelled kind (slice_get g place)) (column_spelling kind place given) rest)

-- where a row is left and no value begins, no column of so many rows was there
pub no_column : (kind : Kind) (j : ℕ) (old new : List (List Value)) (bytes : List ℕ) (at next : ℕ) → HasGained kind j old new bytes at next → j < length old → BeginsWithNone kind (drop next bytes)
    → (place : ℕ) (given : List (List Value)) (rest : List ℕ) → length given ≡ length old → ColumnIsOf kind place given → drop at bytes ≢ column_spelling kind place given ++ rest
no_column kind j old new bytes at next gained within none place given rest long of same =
    let left = unread kind place gained.values given (drop next bytes) rest (omega (arith, gained.count_of, within, long)) gained.kind_fits of (sym gained.spelled ∙ same) in
    none_first kind place (drop (length gained.values) given) (drop next bytes) rest none (omega (arith, gained.count_of, within, long, length-drop (length gained.values) given))
    (ColumnIsOf-drop kind place (length gained.values) given of) left

-- one column more

get_kept : (kind : Kind) (row : List Value) (place : ℕ) (value : Value) → IsSomeOf kind (slice_get row place) → slice_get (row ++ value ∷ []) place ≡ slice_get row place
get_kept kind [] place value of = absurd of
get_kept kind (v ∷ row) zero value of = refl
get_kept kind (v ∷ row) (suc place) value of = get_kept kind row place value of

column_kept : (kind : Kind) (place : ℕ) (rows : List (List Value)) (values : List Value) → ColumnIsOf kind place rows
    → column_spelling kind place (with_column rows values) ≡ column_spelling kind place rows
column_kept kind place [] values of = refl
column_kept kind place (row ∷ rows) [] of = refl
column_kept kind place (row ∷ rows) (value ∷ values) of =
    ap₂ (λ (x y : List ℕ). x ++ y) (ap (spelled kind) (get_kept kind row place value of.0)) (column_kept kind place rows values of.1)

columns_kept : (kinds : List Kind) (place : ℕ) (rows : List (List Value)) (values : List Value) → AllAreOf kinds (tails place rows)
    → columns_spelling place kinds (with_column rows values) ≡ columns_spelling place kinds rows
columns_kept [] place rows values of = refl
columns_kept (kind ∷ kinds) place rows values of =
    ap₂ (λ (x y : List ℕ). x ++ y) (column_kept kind place rows values (column_fits kind kinds place rows of)) (columns_kept kinds (place + 1) rows values (others_fit kind kinds place rows of))

get_new : (kinds : List Kind) (row : List Value) (value : Value) → AreOf kinds row → slice_get (row ++ value ∷ []) (length kinds) ≡ Some value
get_new [] [] value of = refl
get_new [] (v ∷ row) value of = absurd of
get_new (kind ∷ kinds) [] value of = absurd of
get_new (kind ∷ kinds) (v ∷ row) value of = get_new kinds row value of.1

column_new : (kind : Kind) (kinds : List Kind) (rows : List (List Value)) (values : List Value) → length values ≡ length rows → AllAreOf kinds rows
    → column_spelling kind (length kinds) (with_column rows values) ≡ values_spelling kind values
column_new kind kinds [] [] long of = refl
column_new kind kinds [] (value ∷ values) long of = absurd (omega (arith, long))
column_new kind kinds (row ∷ rows) [] long of = absurd (omega (arith, long))
column_new kind kinds (row ∷ rows) (value ∷ values) long of =
    ap₂ (λ (x y : List ℕ). x ++ y) (ap (spelled kind) (get_new kinds row value of.0)) (column_new kind kinds rows values (omega (arith, long)) of.1)

columns_spelling-more : (kinds : List Kind) (kind : Kind) (place : ℕ) (rows : List (List Value))
    → columns_spelling place (kinds ++ kind ∷ []) rows ≡ columns_spelling place kinds rows ++ column_spelling kind (place + length kinds) rows
columns_spelling-more [] kind place rows = append-nil (column_spelling kind place rows) ∙ ap (λ (p : ℕ). column_spelling kind p rows) (omega arith)
columns_spelling-more (first ∷ kinds) kind place rows =
    ap (λ (l : List ℕ). column_spelling first place rows ++ l) (columns_spelling-more kinds kind (place + 1) rows)
    ∙ sym (append_assoc (column_spelling first place rows) (columns_spelling (place + 1) kinds rows) (column_spelling kind (place + 1 + length kinds) rows))
    ∙ ap (λ (p : ℕ). columns_spelling place (first ∷ kinds) rows ++ column_spelling kind p rows) (omega arith)

row_more : (kinds : List Kind) (kind : Kind) (row : List Value) (value : Value) → AreOf kinds row → IsOf kind value → AreOf (kinds ++ kind ∷ []) (row ++ value ∷ [])
row_more [] kind [] value of is = (is, tt)
row_more [] kind (v ∷ row) value of is = absurd of
row_more (first ∷ kinds) kind [] value of is = absurd of
row_more (first ∷ kinds) kind (v ∷ row) value of is = (of.0, row_more kinds kind row value of.1 is)

rows_more : (kinds : List Kind) (kind : Kind) (rows : List (List Value)) (values : List Value) → length values ≡ length rows → AllAreOf kinds rows → ValuesAreOf kind values
    → AllAreOf (kinds ++ kind ∷ []) (with_column rows values)
rows_more kinds kind [] values long of are = tt
rows_more kinds kind (row ∷ rows) [] long of are = absurd (omega (arith, long))
rows_more kinds kind (row ∷ rows) (value ∷ values) long of are = (row_more kinds kind row value of.0 are.0, rows_more kinds kind rows values (omega (arith, long)) of.1 are.1)

-- rows have the columns of these kinds, which bytes have from the first one up to a place
pub record HasRead (kinds : List Kind) (count : ℕ) (rows : List (List Value)) (bytes : List ℕ) (behind : ℕ) : Type 0 where
  pub count_of : length rows ≡ count
  pub kinds_fit : AllAreOf kinds rows
  pub spelled : bytes ≡ columns_spelling 0 kinds rows ++ drop behind bytes

-- before the first column nothing is read
pub reads_nothing : (rows : List (List Value)) (bytes : List ℕ) → AllAreOf [] rows → HasRead [] (length rows) rows bytes 0
reads_nothing rows bytes empty = record { count_of = refl; kinds_fit = empty; spelled = refl }

-- a column that stands behind those that were read
pub reads_more : (kinds : List Kind) (kind : Kind) (count : ℕ) (old new : List (List Value)) (bytes : List ℕ) (at behind : ℕ)
    → HasRead kinds count old bytes at → HasGained kind (length old) old new bytes at behind → HasRead (kinds ++ kind ∷ []) count new bytes behind
reads_more kinds kind count old new bytes at behind read gained =
    let values = gained.values in
    let of = read.kinds_fit in
    let columns : columns_spelling 0 (kinds ++ kind ∷ []) new ≡ columns_spelling 0 kinds old ++ values_spelling kind values =
    ap (λ (l : List (List Value)). columns_spelling 0 (kinds ++ kind ∷ []) l) gained.rows
    ∙ columns_spelling-more kinds kind 0 (with_column old values)
    ∙ ap₂ (λ (x y : List ℕ). x ++ y) (columns_kept kinds 0 old values (from_first kinds old of)) (ap (λ (p : ℕ). column_spelling kind p (with_column old values)) (omega arith) ∙ column_new kind kinds old values gained.count_of of) in
    record {
      count_of = ap (length {A = List Value}) gained.rows ∙ length-with_column old values ∙ read.count_of;
      kinds_fit = rw gained.rows (rows_more kinds kind old values gained.count_of of gained.kind_fits);
      spelled =
          read.spelled ∙ ap (λ (l : List ℕ). columns_spelling 0 kinds old ++ l) gained.spelled
          ∙ sym (append_assoc (columns_spelling 0 kinds old) (values_spelling kind values) (drop behind bytes))
          ∙ ap (λ (l : List ℕ). l ++ drop behind bytes) (sym columns);
    }

-- the columns that are left where the first of them were read
columns_unread : (kinds : List Kind) (n place : ℕ) (rows given : List (List Value)) (x rest : List ℕ) → length rows ≡ length given
    → AllAreOf (take n kinds) (tails place rows) → AllAreOf kinds (tails place given)
    → columns_spelling place (take n kinds) rows ++ x ≡ columns_spelling place kinds given ++ rest → x ≡ columns_spelling (place + n) (drop n kinds) given ++ rest
columns_unread kinds zero place rows given x rest long h k same = same ∙ ap (λ (p : ℕ). columns_spelling p kinds given ++ rest) (omega arith)
columns_unread [] (suc n) place rows given x rest long h k same = same
columns_unread (kind ∷ kinds) (suc n) place rows given x rest long h k same =
    let first = one_column kind place place rows given (columns_spelling (place + 1) (take n kinds) rows ++ x) (columns_spelling (place + 1) kinds given ++ rest) long
    (column_fits kind (take n kinds) place rows h) (column_fits kind kinds place given k)
    (regroup (column_spelling kind place rows) (columns_spelling (place + 1) (take n kinds) rows) (column_spelling kind place given) (columns_spelling (place + 1) kinds given) x rest same) in
    columns_unread kinds n (place + 1) rows given x rest long (others_fit kind (take n kinds) place rows h) (others_fit kind kinds place given k) first.1
    ∙ ap (λ (p : ℕ). columns_spelling p (drop n kinds) given ++ rest) (omega arith)

-- where a column is left and none of its kind begins, the bytes are not those of columns
pub no_columns : (kinds : List Kind) (n : ℕ) (none : Kind) (count : ℕ) (rows : List (List Value)) (bytes : List ℕ) (at : ℕ) → HasRead (take n kinds) count rows bytes at → n < length kinds
    → ((place : ℕ) (given : List (List Value)) (rest : List ℕ) → length given ≡ length rows → ColumnIsOf (get_or kinds n none) place given → drop at bytes ≢ column_spelling (get_or kinds n none) place given ++ rest)
    → (given : List (List Value)) → length given ≡ count → AllAreOf kinds given → bytes ≢ columns_spelling 0 kinds given
no_columns kinds n none count rows bytes at read within off given long of same =
    let whole : columns_spelling 0 (take n kinds) rows ++ drop at bytes ≡ columns_spelling 0 kinds given ++ [] = sym read.spelled ∙ same ∙ sym (append-nil (columns_spelling 0 kinds given)) in
    let left = columns_unread kinds n 0 rows given (drop at bytes) [] (read.count_of ∙ sym long) (from_first (take n kinds) rows read.kinds_fit) (from_first kinds given of) whole in
    let step : columns_spelling (0 + n) (drop n kinds) given ≡ column_spelling (get_or kinds n none) n given ++ columns_spelling (n + 1) (drop (n + 1) kinds) given =
    ap (λ (p : ℕ). columns_spelling p (drop n kinds) given) (zero-add n) ∙ columns_step kinds n none given within in
    off n given (columns_spelling (n + 1) (drop (n + 1) kinds) given) (long ∙ sym read.count_of) (column_at kinds n none given of within)
    (left ∙ append-nil (columns_spelling (0 + n) (drop n kinds) given) ∙ step)

-- a column that was read is one more of the kinds
pub reads_next : (kinds : List Kind) (n : ℕ) (none : Kind) (count : ℕ) (old new : List (List Value)) (bytes : List ℕ) (at behind : ℕ) → n < length kinds
    → HasRead (take n kinds) count old bytes at → HasGained (get_or kinds n none) (length old) old new bytes at behind → HasRead (take (n + 1) kinds) count new bytes behind
reads_next kinds n none count old new bytes at behind within read gained =
    subst (λ (l : List Kind). HasRead l count new bytes behind) (sym (take-suc kinds n none within) ∙ ap (λ (m : ℕ). take m kinds) (sym (add-one n)))
    (reads_more (take n kinds) (get_or kinds n none) count old new bytes at behind read gained)

-- where bytes are left behind the columns, they are those of no other columns
pub left_over : (kinds : List Kind) (read given : List (List Value)) (bytes : List ℕ) (behind : ℕ) → length read ≡ length given → AllAreOf kinds read → AllAreOf kinds given
    → bytes ≡ columns_spelling 0 kinds read ++ drop behind bytes → behind < length bytes → bytes ≢ columns_spelling 0 kinds given
left_over kinds read given bytes behind long h k spelled left same =
    let end = one_table kinds read given (drop behind bytes) [] long h k (sym spelled ∙ same ∙ sym (append-nil (columns_spelling 0 kinds given))) in
    omega (arith, left, ap length end.1, length-drop behind bytes)

-- a row more
pub AllAreOf-more : (kinds : List Kind) (rows : List (List Value)) (row : List Value) → AllAreOf kinds rows → AreOf kinds row → AllAreOf kinds (rows ++ row ∷ [])
AllAreOf-more kinds [] row of is = (is, tt)
AllAreOf-more kinds (r ∷ rows) row of is = (of.0, AllAreOf-more kinds rows row of.1 is)
