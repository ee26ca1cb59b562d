-- A store in which one table has other room in memory is the same store.
use Rattle.std.proofs.Common.{◌≡◌, ℕ, ◌+◌, ◌*◌, ◌-◌, ◌≤◌, ◌<◌, List, length, map, slice_set, true, false, not, nat_lt, refl, sym, ap, subst, ◌∙◌, arith}
use Rattle.std.proofs.lemmas.Bool.{ltb-false, ltb-true}
use Rattle.std.specs.declared.alloc.Global.{Global}
use Rattle.std.specs.declared.vec.Vec.{Vec}
use Rattle.chv_catalog.specs.declared.table_def.TableDef.{TableDef}
use Rattle.chv_commit.specs.Commits.{commit_spelling}
use Rattle.chv_commit.specs.Replays.{State, IsSound}
use Rattle.chv_commit.specs.declared.commit.Commit.{Commit}
use Rattle.chv_gate.specs.GateLog.{IsReady}
use Rattle.chv_gate.specs.declared.log.Log.{Log}
use Rattle.chv_part.specs.Books.{AreColumns, TableForm, Book}
use Rattle.chv_site.specs.declared.file_id.FileId.{FileId}
use Rattle.chv_site.specs.FileIds.{table_log}
use Rattle.chv_site.specs.Files.{FileState}
use Rattle.chv_table.specs.Tables.{HasRoomFor, HoldsBook, HoldsCommits, IsWithin, KeepsHeld, held_form, held_state, spare}
use Rattle.chv_table.specs.Tables.{IsPlaced as IsTablePlaced}
use Rattle.chv_table.specs.declared.table.Table.{Table}
use Rattle.chv_table.proofs.TableLemmas.{HoldsBook-by, HoldsCommits-by}
use Rattle.chv_store.specs.Calls.{HoldsSame}
use Rattle.chv_store.specs.Stores.{IsHeldAs}
use Rattle.chv_store.specs.declared.store.Store.{Store}
use Rattle.chv_store.proofs.PlaceLemmas.{TableOf, its_book, its_commits, its_place, set_books, set_logs, set_placed, set_states-same, set_within}

-- what the test of so many entries says
pub too_many : (most n : ℕ) → most < n → false ≡ not (nat_lt most n)
too_many most n more = elim (nat_lt most n) as (λ b. nat_lt most n ≡ b → false ≡ not b) [ true ↦ λ h. refl | false ↦ λ h. absurd (omega (arith, more, ltb-false most n h)) ] refl

pub enough : (most n : ℕ) → n ≤ most → true ≡ not (nat_lt most n)
enough most n few = elim (nat_lt most n) as (λ b. nat_lt most n ≡ b → true ≡ not b) [ true ↦ λ h. absurd (omega (arith, few, ltb-true most n h)) | false ↦ λ h. refl ] refl

-- a table is the same but for its room
pub same_held : (table : Table) → KeepsHeld table table
same_held table = record { number = refl; form = refl; log = refl; state = refl }

module _ (old new : Table) (kept : KeepsHeld old new) where
  within_kept : IsWithin old → IsWithin new
  within_kept within =
      record {
        log = ap (λ (l : Log). l.file) kept.log ∙ within.log ∙ ap table_log (sym kept.number);
        columns = subst AreColumns (sym (ap (λ (form : TableForm). form.kinds) kept.form)) within.columns;
        sound = subst IsSound (sym kept.state) within.sound;
        gate = subst (λ (l : Log). l.gate + 64 * length (held_state new).layout ≤ 64 + 256 * (held_state new).entries) (sym kept.log)
            (subst (λ (s : State). old.log.gate + 64 * length s.layout ≤ 64 + 256 * s.entries) (sym kept.state) within.gate);
      }

  pub as_kept : (number : ℕ) (def : TableDef) → IsHeldAs number def old → IsHeldAs number def new
  as_kept number def held = (within_kept held.0, record { number_is = kept.number ∙ held.1.number_is; form_is = kept.form ∙ held.1.form_is })

  place_kept : (files : FileId → FileState) → IsTablePlaced old files → IsTablePlaced new files
  place_kept files placed = subst (λ (l : Log). l.gate < length (files l.file).bytes) (sym kept.log) placed

  commits_kept : (files : FileId → FileState) (commits : List Commit) → HoldsCommits old files commits → HoldsCommits new files commits
  commits_kept files commits held =
      HoldsCommits-by new files commits (held_form old) (held_state old) kept.form kept.state held.right
      (subst (λ (l : Log). IsReady l.gate (map commit_spelling commits) (files l.file)) (sym kept.log) held.log) held.replays

  holds_kept : (files : FileId → FileState) (book : Book) → HoldsBook old files book → HoldsBook new files book
  holds_kept files book held =
      HoldsBook-by new files book old.number (held_form old) (held_state old) held.commits kept.number kept.form kept.state (commits_kept files held.commits held.holds) held.lawful held.describes held.parts held.settled_parts

  -- it has the room that it had
  pub more_room : spare old ≤ spare new → (count : ℕ) → HasRoomFor count old → HasRoomFor count new
  more_room more count room = record {
    in_memory = omega (arith, more, room.in_memory);
    in_number = omega (arith, ap (λ (s : State). s.entries) kept.state, room.in_number);
  }

-- so the store holds what it held
pub holds_same : (store : Store) (table : ℕ) (held : Table) (at : TableOf store table held) (new : Table) (kept : KeepsHeld held new) (tables : Vec Table Global) (items : tables.items ≡ slice_set store.tables.items (table - 1) new)
    → HoldsSame store (record { catalog = store.catalog; schema = store.schema; tables = tables })
holds_same store table held at new kept tables items =
    let of_number = as_kept held new kept table at.def at.held_as in
    record {
      schema = refl;
      states = set_states-same store table held at new tables items kept.state;
      within = set_within store table held at new tables items of_number;
      placed = λ files placed. set_placed store table held at new tables items files files (λ f other. refl) placed (place_kept held new kept files (its_place store table held at files placed));
      books = λ files payloads books holds. set_books store table held at new tables items files files (λ f other. refl) payloads books books (λ n other. refl) holds
          (holds_kept held new kept files (books table) (its_book store table held at files payloads books holds));
      logs = λ files payloads commits holds. set_logs store table held at new tables items files files (λ f other. refl) payloads commits commits (λ n other. refl) holds
          (commits_kept held new kept files (commits table) (its_commits store table held at files payloads commits holds));
    }
