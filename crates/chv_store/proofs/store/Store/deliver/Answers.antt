-- A delivery is made to the table of a number, and every other table stays.
use Rattle.std.proofs.Common.{◌-◌, ℕ, List, refl, arith}
use Rattle.std.specs.Vec.{with_item}
use Rattle.std.proofs.lemmas.Result.{IfOk-weaker, on_ok_weaker}
use Rattle.chv_commit.specs.declared.commit.Commit.{Commit}
use Rattle.chv_table.specs.Tables.{held_state}
use Rattle.chv_table.specs.declared.table.Delivered.{Delivered}
use Rattle.chv_store.specs.Calls.{Notes, commits_behind}
use Rattle.chv_store.specs.Holding.{HoldsLogs}
use Rattle.chv_store.proofs.DeliverLemmas.{brings_it, changes_of, elsewhere, if_ok_with, logs_with, notes_with, room_at, turns_with, usable_with}
use Rattle.chv_store.proofs.PlaceLemmas.{its_book, its_commits, its_place, items_within, table_of}
use Rattle.chv_store.proofs.store.Store.deliver.Goals as goal

pub index_mut-held-requires : goal.index_mut-held-requires
index_mut-held-requires g c = omega (arith, items_within c.args.self.now c.args.table c.requires.usable.within c.requires.room.is_table)

pub deliver-requires : goal.deliver-requires
deliver-requires g c =
    let self = c.args.self.now in
    let held = c.index_mut-held.result.now in
    let at = table_of self c.args.table held c.requires.usable.within c.requires.room.is_table c.index_mut-held.ensures.value in
    record {
      takes = record {
        within = at.held_as.0;
        room = room_at self c.args.table 1 held at c.requires.room;
        placed = λ tells. its_place self c.args.table held at (g.W.Site.outside c.args.site.now).files (c.requires.usable.placed tells);
      };
    }

pub returns-clause-delivered : goal.returns-clause-delivered
returns-clause-delivered g c tells payloads books entry brings holds =
    let self = c.args.self.now in
    let table = c.args.table in
    let held = c.index_mut-held.result.now in
    let new = c.deliver.new.self in
    let old = g.W.Site.outside c.args.site.now in
    let after = g.W.Site.outside c.deliver.new.site in
    let at = table_of self table held c.requires.usable.within c.requires.room.is_table c.index_mut-held.ensures.value in
    turns_with self table held at new (with_item self.tables (table - 1) new) refl c.deliver.result old after payloads books entry
    (elsewhere self table held at (held_state held).next_part old.files after.files (c.deliver.ensures.keeps.others tells)) holds
    (c.deliver.ensures.turned tells (books table) entry (brings_it self table held at c.args.id c.args.rows c.args.encoded.now entry brings) (its_book self table held at old.files payloads books holds))

pub returns-clause-logged : goal.returns-clause-logged
returns-clause-logged g c tells =
    let self = c.args.self.now in
    let table = c.args.table in
    let held = c.index_mut-held.result.now in
    let new = c.deliver.new.self in
    let old = (g.W.Site.outside c.args.site.now).files in
    let after = (g.W.Site.outside c.deliver.new.site).files in
    let at = table_of self table held c.requires.usable.within c.requires.room.is_table c.index_mut-held.ensures.value in
    IfOk-weaker c.deliver.result _
    (λ (answer : Delivered). (payloads : List (List ℕ)) (commits : ℕ → List Commit) → HoldsLogs self old payloads commits
    → HoldsLogs (record { catalog = self.catalog; schema = self.schema; tables = with_item self.tables (table - 1) new }) after payloads (commits_behind answer self table c.args.rows c.args.id commits))
    (λ answer has payloads commits holds.
    logs_with self table held at new (with_item self.tables (table - 1) new) refl answer c.args.rows c.args.id old after payloads commits
    (elsewhere self table held at (held_state held).next_part old after (c.deliver.ensures.keeps.others tells)) holds (has (commits table) (its_commits self table held at old payloads commits holds)))
    (c.deliver.ensures.commits tells)

pub returns-clause-noted : goal.returns-clause-noted
returns-clause-noted g c =
    let self = c.args.self.now in
    let table = c.args.table in
    let held = c.index_mut-held.result.now in
    let new = c.deliver.new.self in
    let at = table_of self table held c.requires.usable.within c.requires.room.is_table c.index_mut-held.ensures.value in
    if_ok_with c.deliver.result _ _
    (λ (answer : Delivered). Notes answer self (record { catalog = self.catalog; schema = self.schema; tables = with_item self.tables (table - 1) new }) table c.args.rows c.args.id)
    (λ answer room says. notes_with self table held at new (with_item self.tables (table - 1) new) refl answer c.args.rows c.args.id says.0 says.1 room)
    c.deliver.ensures.room c.deliver.ensures.answer

pub returns-clause-usable : goal.returns-clause-usable
returns-clause-usable g c =
    let self = c.args.self.now in
    let table = c.args.table in
    let held = c.index_mut-held.result.now in
    let new = c.deliver.new.self in
    let old = g.W.Site.outside c.args.site.now in
    let after = g.W.Site.outside c.deliver.new.site in
    let at = table_of self table held c.requires.usable.within c.requires.room.is_table c.index_mut-held.ensures.value in
    on_ok_weaker c.deliver.result
    (usable_with self table held at new (with_item self.tables (table - 1) new) refl g.W.Site.tells old after c.deliver.ensures.same
    (λ tells. elsewhere self table held at (held_state held).next_part old.files after.files (c.deliver.ensures.keeps.others tells)) c.requires.usable)
    c.deliver.ensures.ready

pub returns-clause-keeps : goal.returns-clause-keeps
returns-clause-keeps g c =
    let self = c.args.self.now in
    let held = c.index_mut-held.result.now in
    let at = table_of self c.args.table held c.requires.usable.within c.requires.room.is_table c.index_mut-held.ensures.value in
    changes_of self c.args.table held at _ _ _ _ c.deliver.ensures.keeps
