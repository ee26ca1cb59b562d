-- Parts of a table that become one: docs/FORMATS.md, "Commits".
use Rattle.std.specs.Prelude.{ℕ, ◌≡◌, ◌+◌, ◌-◌, ◌≤◌, nat_lt, max, List, [], ◌∷◌, ◌++◌, length, map, take, drop, slice_index_or, slice_range, if◌then◌else◌, Option, None, Some}
use Rattle.chv_commit.specs.Replays.{Span, span_of}
use Rattle.chv_commit.specs.declared.part_row.PartRow.{PartRow}
use Rattle.chv_merge.specs.Picks.{picked}
use Rattle.chv_merge.specs.declared.run.Run.{Run}
use Rattle.chv_part.specs.Books.{Book}

-- the greatest level of live parts
abbrev pub top_level : List Span → ℕ
top_level [] = 0
top_level (span ∷ spans) = max span.level (top_level spans)

-- two live parts or more, one behind the other, and the greatest of their levels
pub record IsRunOf (layout : List Span) (run : Run) : Type 0 where
  pub several : 2 ≤ run.count
  pub within : run.from + run.count ≤ length layout
  pub level : run.level ≡ top_level (slice_range layout run.from (run.from + run.count))

-- the part at a place of a layout
abbrev pub span_at : List Span → ℕ → Span
span_at layout place = slice_index_or layout place (record { lo = 0; hi = 0; level = 0 })

-- the part that a run becomes: it has the entries of all, and the next level
abbrev pub span_of_run : List Span → Run → Span
span_of_run layout run = record {
  lo = (span_at layout run.from).lo;
  hi = (span_at layout (run.from + run.count - 1)).hi;
  level = run.level + 1;
}

-- a run becomes one part, and each entry stays
abbrev pub merged : Run → Book → Book
merged run book = record book {
  layout = take run.from book.layout ++ span_of_run book.layout run ∷ drop (run.from + run.count) book.layout;
}

-- the parts that are merged next, where there are such
abbrev pub due : List Span → Option Run
due layout = picked (map (λ (span : Span). span.level) layout)

-- all parts, where they are two or more
abbrev pub all_parts : List Span → Option Run
all_parts layout = if nat_lt 1 (length layout) then Some (record { from = 0; count = length layout; level = top_level layout }) else None

-- a run becomes one part where there is one
abbrev pub merged_where : Option Run → Book → Book
merged_where None book = book
merged_where (Some run) book = merged run book

-- a table's book once the merge that is due is made, where one is
abbrev pub next_merged : Book → Book
next_merged book = merged_where (due book.layout) book

-- and once all its parts have become one, where they are two or more
abbrev pub all_merged : Book → Book
all_merged book = merged_where (all_parts book.layout) book

-- the live part that a run of live parts becomes
pub record IsRowOf (layout : List PartRow) (run : Run) (row : PartRow) : Type 0 where
  pub run_is : IsRunOf (map span_of layout) run
  pub lo : row.lo ≡ (slice_index_or layout run.from row).lo
  pub hi : row.hi ≡ (slice_index_or layout (run.from + run.count - 1) row).hi
  pub level : row.level ≡ run.level + 1
