-- What a table's log says, commit by commit: docs/FORMATS.md, "Commits".
use Rattle.std.specs.Prelude.{ℕ, ◌≡◌, ◌≢◌, ◌+◌, ◌-◌, ◌*◌, ◌≤◌, ◌<◌, ◌^◌, Bool, not, ◌&&◌, nat_eq, nat_lt, max, List, [], ◌∷◌, ◌++◌, length, map, take, drop, slice_range, slice_index_or, if◌then◌else◌, Option, None, Some}
use Rattle.std.specs.List.{All, AllPairs, position}
use Rattle.chv_sip.specs.BlockIds.{last_ids}
use Rattle.chv_sip.specs.declared.block_id.BlockId.{BlockId}
use Rattle.chv_commit.specs.Commits.{commit_spelling, IsCommit}
use Rattle.chv_commit.specs.declared.commit.Commit.{Commit}
use Rattle.chv_commit.specs.declared.commit.Commit.TheVariants.{Add, Merge}
use Rattle.chv_commit.specs.declared.part_row.PartRow.{PartRow}

-- the most entries that a table has
abbrev pub MAX_ENTRIES : ℕ
MAX_ENTRIES = 2 ^ 40

-- what a log says: the live parts in order, the number of entries, the number of the next part, and the last ids
pub record State : Type 0 where
  pub layout : List PartRow
  pub entries : ℕ
  pub next_part : ℕ
  pub ids : List BlockId

-- before the first commit
abbrev pub no_state : State
no_state = record { layout = []; entries = 0; next_part = 8; ids = [] }

-- new entries fit where there is one at least, their part is the next one, and the table has room for them
abbrev pub add_fits : ℕ → ℕ → State → Bool
add_fits part count state = nat_eq part state.next_part && (nat_lt 0 count && not (nat_lt MAX_ENTRIES (state.entries + count)))

-- new entries have a part of their own, of level 0, behind the others
abbrev pub added : ℕ → ℕ → ℕ → List BlockId → State → State
added window part rows ids state = record {
  layout = state.layout ++ record { lo = state.entries + 1; hi = state.entries + length ids; level = 0; part = part; rows = rows } ∷ [];
  entries = state.entries + length ids;
  next_part = state.next_part + 1;
  ids = last_ids window (state.ids ++ ids);
}

-- the commit of parts that become this one
abbrev pub merge_of : PartRow → Commit
merge_of row = Merge row.lo row.hi row.part row.level row.rows

-- the greatest level of parts
abbrev pub greatest_level : List PartRow → ℕ
greatest_level [] = 0
greatest_level (row ∷ rows) = max row.level (greatest_level rows)

-- the place of the first part that passes a test, and what comes of it
abbrev pub at_place : {A B : Type 0} → Option A → (A → Option B) → Option B
at_place None f = None
at_place (Some x) f = f x

-- the parts from the one that begins with lo to the one that ends with hi, which are two or more, become this one; its level
-- is one above their greatest
abbrev pub joined : PartRow → List PartRow → Option (List PartRow)
joined row layout =
    at_place (position (λ (old : PartRow). nat_eq old.lo row.lo) layout) (λ from.
    at_place (position (λ (old : PartRow). nat_eq old.hi row.hi) layout) (λ last.
    if nat_lt from last && nat_eq row.level (greatest_level (slice_range layout from (last + 1)) + 1)
    then Some (take from layout ++ row ∷ drop (last + 1) layout)
    else None))

-- the parts of a run of two or more became one, which begins and ends as they do; its level is one above their greatest
pub record IsJoined (row : PartRow) (old new : List PartRow) : Type 0 where
  pub front : List PartRow
  pub run : List PartRow
  pub behind : List PartRow
  pub old_is : old ≡ front ++ (run ++ behind)
  pub new_is : new ≡ front ++ row ∷ behind
  pub several : 2 ≤ length run
  pub begins : (slice_index_or run 0 row).lo ≡ row.lo
  pub ends : (slice_index_or run (length run - 1) row).hi ≡ row.hi
  pub level : row.level ≡ greatest_level run + 1

-- new entries fit, and this is what a log says behind them
pub record Adds (window part rows : ℕ) (ids : List BlockId) (old new : State) : Type 0 where
  pub in_turn : part ≡ old.next_part
  pub some : 1 ≤ length ids
  pub room : old.entries + length ids ≤ MAX_ENTRIES
  pub new_is : new ≡ added window part rows ids old

-- parts that become one fit, and this is what a log says behind them
pub record Merges (row : PartRow) (old new : State) : Type 0 where
  pub in_turn : row.part ≡ old.next_part
  pub layout : List PartRow
  pub is : IsJoined row old.layout layout
  pub new_is : new ≡ record old { layout = layout; next_part = old.next_part + 1 }

-- a commit fits, and this is what a log says behind it
abbrev pub Takes : ℕ → State → Commit → State → Type 0
Takes window old (Add part rows ids) new = Adds window part rows ids old new
Takes window old (Merge lo hi part level rows) new =
    Merges (record { lo = lo; hi = hi; level = level; part = part; rows = rows }) old new

-- what a log says behind one more commit, where it fits; for a sound log it is what `Takes` tells
abbrev pub taken : ℕ → State → Commit → Option State
taken window state (Add part rows ids) =
    if add_fits part (length ids) state then Some (added window part rows ids state) else None
taken window state (Merge lo hi part level rows) =
    if nat_eq part state.next_part
    then at_place (joined (record { lo = lo; hi = hi; level = level; part = part; rows = rows }) state.layout) (λ layout.
    Some (record state { layout = layout; next_part = state.next_part + 1 }))
    else None

-- what a log says behind commits, where each of them fits
abbrev pub replayed : ℕ → State → List Commit → Option State
replayed window state [] = Some state
replayed window state (commit ∷ commits) = at_place (taken window state commit) (λ next. replayed window next commits)

-- the entries of a live part, both ends counted, and its level
pub record Span : Type 0 where
  pub lo : ℕ
  pub hi : ℕ
  pub level : ℕ

abbrev pub span_of : PartRow → Span
span_of row = record { lo = row.lo; hi = row.hi; level = row.level }

-- adjacent runs that cut the entries from one to another
abbrev pub AreRuns : ℕ → ℕ → List Span → Type 0
AreRuns first last [] = first ≡ last + 1
AreRuns first last (span ∷ spans) = (span.lo ≡ first) × (first ≤ span.hi) × AreRuns (span.hi + 1) last spans

-- what holds of each log whose commits fit: the parts cut its entries into runs, and have numbers of their own below the next
-- one; a part's number is above its level by 8 at least
pub record IsSound (state : State) : Type 0 where
  pub runs : AreRuns 1 state.entries (map span_of state.layout)
  pub parts : All (λ (row : PartRow). (8 ≤ row.part) × (row.part < state.next_part)) state.layout
  pub apart : AllPairs (λ (a b : PartRow). a.part ≢ b.part) state.layout
  pub levels : All (λ (row : PartRow). row.level + 8 ≤ row.part) state.layout
  pub next : 8 ≤ state.next_part
  pub bounded : state.entries ≤ MAX_ENTRIES
  pub counted : state.next_part + length state.layout ≤ 8 + 2 * state.entries

-- the payloads of a table's log that is right: commits, each of which fits
pub record AreCommits (window : ℕ) (payloads : List (List ℕ)) : Type 0 where
  pub commits : List Commit
  pub right : All IsCommit commits
  pub are : payloads ≡ map commit_spelling commits
  pub state : State
  pub replays : replayed window no_state commits ≡ Some state

-- a replay as contracts see it: how many ids it keeps, what the commits so far say, and for how many new entries it has room
-- in memory
pub record Seen : Type 0 where
  pub window : ℕ
  pub state : State
  pub spare : ℕ
