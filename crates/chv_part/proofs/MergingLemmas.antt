-- Runs of parts that become one.
use Rattle.std.proofs.Common.{◌≡◌, ℕ, zero, suc, ◌+◌, ◌-◌, ◌<◌, ◌≤◌, max, nat_lt, Bool, true, false, if◌then◌else◌, List, [], ◌∷◌, ◌++◌, length, map, take, drop, get_or, slice_get, slice_range, Option, None, Some, refl, sym, ap, ap₂, subst, ◌∙◌, arith}
use Rattle.std.specs.List.{All}
use Rattle.std.proofs.lemmas.Bool.{ltb-true}
use Rattle.std.proofs.lemmas.Option.{cond_some, slice_get_within, get_or_from_slice_get}
use Rattle.std.proofs.lemmas.List.{get_or-map, get_or-take, get_or_default, take_all, get_or-drop, length-take-le, length-drop, length-map, map-append, take-map, drop-map}
use Rattle.std.proofs.lemmas.List.Elements.{All-head, All-tail}
use Rattle.chv_commit.specs.Replays.{Span, AreRuns, IsJoined, greatest_level, span_of}
use Rattle.chv_commit.specs.declared.part_row.PartRow.{PartRow}
use Rattle.chv_commit.proofs.RunLemmas.{AreRuns-joined, IsJoined-range, IsJoined-range-run, IsJoined-runs}
use Rattle.chv_merge.specs.declared.run.Run.{Run}
use Rattle.chv_merge.proofs.PickLemmas.{picked-Some}
use Rattle.chv_types.specs.declared.value.Value.{Value}
use Rattle.chv_part.specs.Books.{TableForm, Book, IsLawfulBook, normal_rows, part_rows, rows_in}
use Rattle.chv_part.specs.Merging.{top_level, IsRunOf, span_at, span_of_run, merged, due, all_parts, merged_where, next_merged, all_merged, IsRowOf}
use Rattle.chv_part.proofs.BookRowLemmas.{rows_of_parts, rows_of_runs-normal}

-- parts of one level have it as their greatest
top_level-same : (level : ℕ) (spans : List Span) → 1 ≤ length spans → All (λ (span : Span). span.level ≡ level) spans → top_level spans ≡ level
top_level-same level [] some all = absurd (omega arith)
top_level-same level (span ∷ []) some all = omega (arith, All-head (λ (s : Span). s.level ≡ level) span [] all)
top_level-same level (span ∷ next ∷ spans) some all =
    omega (
      arith,
      All-head (λ (s : Span). s.level ≡ level) span (next ∷ spans) all,
      top_level-same level (next ∷ spans) (omega arith) (All-tail (λ (s : Span). s.level ≡ level) span (next ∷ spans) all),
    )

-- the greatest level of rows of parts is that of their spans
pub top_level-rows : (rows : List PartRow) → top_level (map span_of rows) ≡ greatest_level rows
top_level-rows [] = refl
top_level-rows (row ∷ rows) = ap (max row.level) (top_level-rows rows)

-- the merge that is due is of two parts or more
pub IsRunOf-due : (layout : List Span) (run : Run) → due layout ≡ Some run → IsRunOf layout run
IsRunOf-due layout run is =
    let level_of : Span → ℕ = λ span. span.level in
    let levels : List ℕ = map level_of layout in
    let eight = picked-Some levels run is in
    let last = slice_get_within levels (run.from + 7) run.level (eight.1 7 (omega arith)) in
    let to : ℕ = run.from + run.count in
    let within : to ≤ length layout = omega (arith, eight.0, last, length-map layout level_of) in
    let span : List Span = slice_range layout run.from to in
    let size : to - run.from ≡ 8 = omega (arith, eight.0) in
    let long : length span ≡ 8 = length-take-le (to - run.from) (drop run.from layout) (omega (arith, length-drop run.from layout)) ∙ size in
    record {
      several = omega (arith, eight.0);
      within = within;
      level = sym (top_level-same run.level span (omega (arith, long))
          (λ k d inside.
          let at : get_or span k d ≡ get_or layout (run.from + k) d = get_or-take (to - run.from) (drop run.from layout) k d (omega (arith, long)) ∙ get_or-drop run.from layout k d in
          ap level_of at ∙ sym (get_or-map level_of layout (run.from + k) d 0 (omega (arith, long)))
          ∙ get_or_from_slice_get levels (run.from + k) run.level 0 (eight.1 k (omega (arith, long)))));
    }

-- all parts are a run where they are two or more
pub IsRunOf-all_parts : (layout : List Span) (run : Run) → all_parts layout ≡ Some run → IsRunOf layout run
IsRunOf-all_parts layout run is =
    let several = cond_some (nat_lt 1 (length layout)) (record { from = 0; count = length layout; level = top_level layout }) run is in
    subst (IsRunOf layout) several.1
    (record {
      several = omega (arith, ltb-true 1 (length layout) several.0);
      within = omega arith;
      level = ap top_level (sym (take_all (0 + length layout - 0) layout (omega arith)));
    })

module _ (rows : List PartRow) (run : Run) (row : PartRow) (is : IsRowOf rows run row) where
  -- the rows of parts behind the merge
  abbrev pub rows_behind : List PartRow
  rows_behind = take run.from rows ++ row ∷ drop (run.from + run.count) rows

  within : run.from + run.count ≤ length rows
  within = omega (arith, is.run_is.within, length-map rows span_of)

  order : run.from + 2 ≤ run.from + run.count
  order = omega (arith, is.run_is.several)

  level_is : row.level ≡ greatest_level (slice_range rows run.from (run.from + run.count)) + 1
  level_is =
      let to : ℕ = run.from + run.count in
      let spans : slice_range (map span_of rows) run.from to ≡ map span_of (slice_range rows run.from to) =
      ap (take (to - run.from)) (drop-map span_of run.from rows) ∙ take-map span_of (to - run.from) (drop run.from rows) in
      is.level ∙ ap (λ (n : ℕ). n + 1) (is.run_is.level ∙ ap top_level spans ∙ top_level-rows (slice_range rows run.from to))

  pub IsJoined-run : IsJoined row rows rows_behind
  IsJoined-run = IsJoined-range row rows run.from (run.from + run.count) order within is.lo is.hi level_is

  pub IsJoined-run-run : IsJoined-run.run ≡ slice_range rows run.from (run.from + run.count)
  unfolding IsJoined-run
  IsJoined-run-run = IsJoined-range-run row rows run.from (run.from + run.count) order within is.lo is.hi level_is

  span-run : span_of row ≡ span_of_run (map span_of rows) run
  span-run =
      let d : Span = record { lo = 0; hi = 0; level = 0 } in
      let several = is.run_is.several in
      let lo : row.lo ≡ (span_at (map span_of rows) run.from).lo =
      is.lo ∙ ap (λ (s : Span). s.lo) (sym (get_or-map span_of rows run.from row d (omega (arith, within)))) in
      let hi : row.hi ≡ (span_at (map span_of rows) (run.from + run.count - 1)).hi =
      is.hi ∙ ap (λ (s : Span). s.hi) (sym (get_or-map span_of rows (run.from + run.count - 1) row d (omega (arith, within)))) in
      λ k. record { lo = lo k; hi = hi k; level = is.level k }

  -- the spans behind it
  pub spans_behind : (book : Book) → book.layout ≡ map span_of rows → (merged run book).layout ≡ map span_of rows_behind
  spans_behind book described =
      ap (λ (l : List Span). take run.from l ++ span_of_run l run ∷ drop (run.from + run.count) l) described
      ∙ ap (λ (s : Span). take run.from (map span_of rows) ++ s ∷ drop (run.from + run.count) (map span_of rows)) (sym span-run)
      ∙ ap₂ (λ (a b : List Span). a ++ span_of row ∷ b) (take-map span_of run.from rows) (drop-map span_of (run.from + run.count) rows)
      ∙ sym (map-append span_of (take run.from rows) (row ∷ drop (run.from + run.count) rows))

  -- the rows of the parts of a run have the normal form that the one has
  pub part_rows-run : (form : TableForm) (book : Book) (last : ℕ) → AreRuns 1 last (map span_of rows)
      → normal_rows form (rows_of_parts form book (slice_range rows run.from (run.from + run.count))) ≡ part_rows form book row.lo row.hi
  part_rows-run form book last runs =
      let has = IsJoined-runs row last rows rows_behind IsJoined-run runs in
      rows_of_runs-normal form book row.lo row.hi (slice_range rows run.from (run.from + run.count)) (omega (arith, has.lo))
      (subst (λ (l : List PartRow). AreRuns row.lo row.hi (map span_of l)) IsJoined-run-run has.run_runs)

-- parts of these spans
abbrev rows_of_spans : List Span → List PartRow
rows_of_spans spans = map (λ (span : Span). record { lo = span.lo; hi = span.hi; level = span.level; part = 0; rows = 0 }) spans

spans_of_rows : (spans : List Span) → map span_of (rows_of_spans spans) ≡ spans
spans_of_rows [] = refl
spans_of_rows (span ∷ spans) = ap (λ (l : List Span). span ∷ l) (spans_of_rows spans)

-- a book stays lawful where a run of its parts becomes one
pub IsLawfulBook-merged : (form : TableForm) (run : Run) (book : Book) → IsRunOf book.layout run → IsLawfulBook form book → IsLawfulBook form (merged run book)
IsLawfulBook-merged form run book run_is lawful =
    let rows : List PartRow = rows_of_spans book.layout in
    let spans : map span_of rows ≡ book.layout = spans_of_rows book.layout in
    let last : ℕ = length book.entries in
    let none : PartRow = record { lo = 0; hi = 0; level = 0; part = 0; rows = 0 } in
    let row : PartRow = record {
      lo = (get_or rows run.from none).lo;
      hi = (get_or rows (run.from + run.count - 1) none).hi;
      level = run.level + 1;
      part = 0;
      rows = 0;
    } in
    let within : run.from + run.count ≤ length rows = omega (arith, run_is.within, ap length spans, length-map rows span_of) in
    let several = run_is.several in
    let is : IsRowOf rows run row = record {
      run_is = subst (λ (l : List Span). IsRunOf l run) (sym spans) run_is;
      lo = ap (λ (r : PartRow). r.lo) (get_or_default rows run.from none row (omega arith));
      hi = ap (λ (r : PartRow). r.hi) (get_or_default rows (run.from + run.count - 1) none row (omega arith));
      level = refl;
    } in
    record {
      entries = lawful.entries;
      bounded = lawful.bounded;
      runs = subst (AreRuns 1 last) (sym (spans_behind rows run row is book (sym spans)))
          (AreRuns-joined row last rows (rows_behind rows run row is) (IsJoined-run rows run row is) (subst (AreRuns 1 last) (sym spans) lawful.runs));
      spaced = lawful.spaced;
    }

pub IsLawfulBook-merged_where : (form : TableForm) (run : Option Run) (book : Book) → ((r : Run) → run ≡ Some r → IsRunOf book.layout r) → IsLawfulBook form book
    → IsLawfulBook form (merged_where run book)
IsLawfulBook-merged_where form None book is lawful = lawful
IsLawfulBook-merged_where form (Some run) book is lawful = IsLawfulBook-merged form run book (is run refl) lawful

-- and so by the merge that is due, and by one of all parts
pub IsLawfulBook-next_merged : (form : TableForm) (book : Book) → IsLawfulBook form book → IsLawfulBook form (next_merged book)
IsLawfulBook-next_merged form book = IsLawfulBook-merged_where form (due book.layout) book (λ run is. IsRunOf-due book.layout run is)

pub IsLawfulBook-all_merged : (form : TableForm) (book : Book) → IsLawfulBook form book → IsLawfulBook form (all_merged book)
IsLawfulBook-all_merged form book = IsLawfulBook-merged_where form (all_parts book.layout) book (λ run is. IsRunOf-all_parts book.layout run is)

-- each entry stays
pub rows_in-merged_where : (run : Option Run) (book : Book) → rows_in (merged_where run book) ≡ rows_in book
rows_in-merged_where None book = refl
rows_in-merged_where (Some run) book = refl
