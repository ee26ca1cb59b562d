-- A table more: its own log is begun, and then the catalog has its text.
use Rattle.std.proofs.Common.{◌≡◌, ℕ, ◌+◌, ◌<◌, ◌≤◌, List, None, [], ◌∷◌, ◌++◌, length, refl, sym, ap, subst, ◌∙◌, arith}
use Rattle.std.proofs.lemmas.List.Elements.{All-head}
use Rattle.std.proofs.lemmas.Result.{err_from_is_err_and}
use Rattle.chv_catalog.specs.Schemas.{Catalog, Seen, definitions_in, kinds_of, names_of, with_definition}
use Rattle.chv_catalog.specs.declared.definition.Definition.TheVariants.{Table}
use Rattle.chv_catalog.specs.declared.table_def.TableDef.{TableDef}
use Rattle.chv_gate.specs.GateLog.{IsPayload, IsReady, frame_of}
use Rattle.chv_part.specs.Books.{AreColumns, no_book}
use Rattle.chv_site.specs.FileIds.{table_log}
use Rattle.chv_site.specs.declared.file_id.FileId.{FileId}
use Rattle.chv_table.proofs.TableLemmas.{holds_commits_kept}
use Rattle.chv_types.specs.Names.{place_of}
use Rattle.chv_store.specs.declared.store.Store.{Store}
use Rattle.chv_store.proofs.CreateLemmas.{catalog_ready, log_during, log_most, made_during, none_during, turns_err}
use Rattle.chv_store.proofs.MadeLemmas.{behind_same, catalog_same, is_made, made_books, made_logs, made_placed, made_rooms, made_within, new_commits, tables_kept}
use Rattle.chv_store.proofs.MakesLemmas.{makes_columns, makes_defined, makes_few, makes_frame, makes_free, makes_payload}
use Rattle.chv_store.proofs.StoreLemmas.{book_kept, placed_kept}
use Rattle.chv_store.proofs.store.Store.create.Goals as goal

pub frame-requires : goal.frame-requires
frame-requires g c =
    let makes = c.requires.makes in
    subst IsPayload (sym makes.2) (makes_payload c.args.self.now.schema.catalog makes.0 (Table c.args.def) makes.1)

pub begin_table-requires : goal.begin_table-requires
begin_table-requires g c = record { columns = All-head (λ (def : TableDef). AreColumns (kinds_of def)) c.args.def [] (makes_columns c.args.self.now.schema.catalog c.requires.makes.0 (Table c.args.def) c.requires.makes.1) }

pub accept-requires-clause-free : goal.accept-requires-clause-free
accept-requires-clause-free g c =
    subst (λ (catalog : Catalog). place_of c.args.def.name (names_of catalog) ≡ None) (sym c.in_ok-reserve_one.ensures.catalog)
    (makes_free c.args.self.now.schema.catalog c.requires.makes.0 (Table c.args.def) c.requires.makes.1)

pub accept-requires-clause-few : goal.accept-requires-clause-few
accept-requires-clause-few g c =
    omega (arith, ap definitions_in c.in_ok-reserve_one.ensures.catalog, makes_few c.args.self.now.schema.catalog c.requires.makes.0 (Table c.args.def) c.requires.makes.1)

-- before the first call on the disk
pub returns-in_err-framed-clause-created : goal.returns-in_err-framed-clause-created
returns-in_err-framed-clause-created g c = λ tells payloads books held.
    let self = c.args.self.now in
    let site = c.args.site.now in
    let p = err_from_is_err_and c.from_residual.result c.from_residual.ensures.1 in
    turns_err _ p.0 _ _ _ _ _ p.1
    (none_during self (g.W.Site.outside site) payloads books c.args.text.now c.args.def (length self.schema.catalog.tables + 1) c.requires.usable.within held refl (g.met.W.Site.only_now site))

pub returns-in_err-reserve_one-clause-created : goal.returns-in_err-reserve_one-clause-created
returns-in_err-reserve_one-clause-created g c = λ tells payloads books held.
    let self = c.args.self.now in
    let site = c.args.site.now in
    let p = err_from_is_err_and c.from_residual-in_err-reserve_one.result c.from_residual-in_err-reserve_one.ensures.1 in
    turns_err _ p.0 _ _ _ _ _ p.1
    (none_during self (g.W.Site.outside site) payloads books c.args.text.now c.args.def (length self.schema.catalog.tables + 1) c.requires.usable.within held refl (g.met.W.Site.only_now site))

pub returns-in_err-reserve-clause-created : goal.returns-in_err-reserve-clause-created
returns-in_err-reserve-clause-created g c = λ tells payloads books held.
    let self = c.args.self.now in
    let site = c.args.site.now in
    let p = err_from_is_err_and c.from_residual-in_err-reserve.result c.from_residual-in_err-reserve.ensures.1 in
    turns_err _ p.0 _ _ _ _ _ p.1
    (none_during self (g.W.Site.outside site) payloads books c.args.text.now c.args.def (length self.schema.catalog.tables + 1) c.requires.usable.within held refl (g.met.W.Site.only_now site))

-- the table's log is begun
pub returns-in_err-table-clause-created : goal.returns-in_err-table-clause-created
returns-in_err-table-clause-created g c = λ tells payloads books held.
    let self = c.args.self.now in
    let number = c.tables-number.result + 1 in
    let is : number ≡ length self.schema.catalog.tables + 1 = ap (λ (n : ℕ). n + 1) (c.tables-number.ensures.count ∙ ap (λ (catalog : Catalog). length catalog.tables) c.in_ok-reserve_one.ensures.catalog) in
    let p = err_from_is_err_and c.from_residual-in_err-table.result c.from_residual-in_err-table.ensures.1 in
    turns_err _ p.0 _ _ _ _ _ p.1
    (log_during self (g.W.Site.outside c.args.site.now) payloads books c.args.text.now c.args.def number c.requires.usable.within held is (g.W.Site.outside c.begin_table.new.site) (c.in_err-table.ensures.during tells))

-- and then its text is appended, whole or not
pub returns-in_err-append-clause-created : goal.returns-in_err-append-clause-created
returns-in_err-append-clause-created g c = λ tells payloads books held.
    let self = c.args.self.now in
    let site = c.args.site.now in
    let number = c.tables-number.result + 1 in
    let is : number ≡ length self.schema.catalog.tables + 1 = ap (λ (n : ℕ). n + 1) (c.tables-number.ensures.count ∙ ap (λ (catalog : Catalog). length catalog.tables) c.in_ok-reserve_one.ensures.catalog) in
    let begun = c.in_ok-table.ensures in
    let p = err_from_is_err_and c.from_residual-in_err-append.result c.from_residual-in_err-append.ensures.1 in
    turns_err _ p.0 _ _ _ _ _ p.1
    (made_during self (g.W.Site.outside site) payloads books c.args.text.now c.args.def number c.requires.usable.within held is (g.W.Site.outside c.begin_table.new.site) (g.W.Site.outside c.append.new.site) c.deref.result.now
    (begun.keeps.others tells) (begun.begun tells) (g.met.W.Site.reads site (table_log number)) (begun.keeps.said tells)
    (subst IsPayload (sym c.requires.makes.2) (makes_payload self.schema.catalog c.requires.makes.0 (Table c.args.def) c.requires.makes.1)) (c.deref.ensures.value ∙ c.in_ok-framed.ensures) (begun.during tells) (c.in_err-append.ensures.during tells))

pub returns-in-Ok-clause-created : goal.returns-in-Ok-clause-created
returns-in-Ok-clause-created g c = λ tells payloads books held.
    let self = c.args.self.now in
    let site = c.args.site.now in
    let def : TableDef = c.args.def in
    let table = c.in_ok-table.table in
    let text = c.args.text.now in
    let old = g.W.Site.outside site in
    let mid = g.W.Site.outside c.begin_table.new.site in
    let last = g.W.Site.outside c.append.new.site in
    let within = c.requires.usable.within in
    let number = c.tables-number.result + 1 in
    let is : number ≡ length self.schema.catalog.tables + 1 = ap (λ (n : ℕ). n + 1) (c.tables-number.ensures.count ∙ ap (λ (catalog : Catalog). length catalog.tables) c.in_ok-reserve_one.ensures.catalog) in
    let begun = c.in_ok-table.ensures in
    let appended = c.in_ok-append.ensures in
    let sized = subst IsPayload (sym c.requires.makes.2) (makes_payload self.schema.catalog c.requires.makes.0 (Table def) c.requires.makes.1) in
    let spelled = c.deref.ensures.value ∙ c.in_ok-framed.ensures in
    let new : Store = record { catalog = c.append.new.self; schema = c.accept.new.self; tables = c.push.new.self } in
    let made = is_made self number def table c.reserve_one.new.self c.reserve.new.self new within is begun.fresh appended.file c.in_ok-reserve_one.ensures.catalog c.accept.ensures c.in_ok-reserve.ensures.items c.in-Ok.ensures.items in
    let ends = appended.appended tells payloads text (catalog_ready self old payloads books text def number within held is mid.files (begun.keeps.others tells)) sized spelled in
    let same = behind_same self number within old.files mid.files last.files (begun.keeps.others tells) (appended.keeps.others tells) in
    let empty = book_kept mid.files last.files number def table no_book (λ f its. same f (omega (arith, its))) made.held_as (begun.book tells (log_most self old payloads books text def number within held is)) in
    record {
      done = made_books self number def table new made old.files last.files (tables_kept self number within old.files mid.files last.files (begun.keeps.others tells) (appended.keeps.others tells)) payloads (payloads ++ text ∷ []) books held
          (subst (λ (f : FileId). IsReady new.catalog.gate (payloads ++ text ∷ []) (last.files f)) (sym made.file) ends) empty;
      during = made_during self old payloads books text def number within held is mid last c.deref.result.now
          (begun.keeps.others tells) (begun.begun tells) (g.met.W.Site.reads site (table_log number)) (begun.keeps.said tells) sized spelled (begun.during tells) (appended.during tells);
    }

pub returns-in-Ok-clause-logged : goal.returns-in-Ok-clause-logged
returns-in-Ok-clause-logged g c = λ tells payloads commits holds most.
    let self = c.args.self.now in
    let site = c.args.site.now in
    let def : TableDef = c.args.def in
    let table = c.in_ok-table.table in
    let text = c.args.text.now in
    let before = (g.W.Site.outside site).files in
    let between = (g.W.Site.outside c.begin_table.new.site).files in
    let behind = (g.W.Site.outside c.append.new.site).files in
    let within = c.requires.usable.within in
    let number = c.tables-number.result + 1 in
    let is : number ≡ length self.schema.catalog.tables + 1 = ap (λ (n : ℕ). n + 1) (c.tables-number.ensures.count ∙ ap (λ (catalog : Catalog). length catalog.tables) c.in_ok-reserve_one.ensures.catalog) in
    let begun = c.in_ok-table.ensures in
    let appended = c.in_ok-append.ensures in
    let new : Store = record { catalog = c.append.new.self; schema = c.accept.new.self; tables = c.push.new.self } in
    let made = is_made self number def table c.reserve_one.new.self c.reserve.new.self new within is begun.fresh appended.file c.in_ok-reserve_one.ensures.catalog c.accept.ensures c.in_ok-reserve.ensures.items c.in-Ok.ensures.items in
    let most_now : (before (table_log number)).most ≤ 1 = subst (λ (n : ℕ). (before (table_log n)).most ≤ 1) (sym is) most in
    let at_log : table.log.file ≡ table_log number = made.held_as.0.log ∙ ap table_log made.held_as.1.number_is in
    let none = new_commits number table before between at_log (begun.begun tells) most_now (g.met.W.Site.reads site (table_log number)) (begun.book tells most_now) in
    let same = behind_same self number within before between behind (begun.keeps.others tells) (appended.keeps.others tells) in
    let empty = holds_commits_kept table between behind [] (same table.log.file (omega (arith, is, ap (λ (f : FileId). f.table) at_log))) none in
    let ready = subst (IsReady self.catalog.gate payloads) (sym (catalog_same self number within before between behind (begun.keeps.others tells) (appended.keeps.others tells) (omega (arith, is)))) holds.catalog in
    let ends = appended.appended tells payloads text ready (subst IsPayload (sym c.requires.makes.2) (makes_payload self.schema.catalog c.requires.makes.0 (Table def) c.requires.makes.1)) (c.deref.ensures.value ∙ c.in_ok-framed.ensures) in
    made_logs self number def table new made before behind (tables_kept self number within before between behind (begun.keeps.others tells) (appended.keeps.others tells)) payloads (payloads ++ text ∷ []) commits holds
    (subst (λ (f : FileId). IsReady new.catalog.gate (payloads ++ text ∷ []) (behind f)) (sym made.file) ends) empty

pub returns-in-Ok-clause-usable : goal.returns-in-Ok-clause-usable
returns-in-Ok-clause-usable g c =
    let self = c.args.self.now in
    let def : TableDef = c.args.def in
    let table = c.in_ok-table.table in
    let before = (g.W.Site.outside c.args.site.now).files in
    let between = (g.W.Site.outside c.begin_table.new.site).files in
    let behind = (g.W.Site.outside c.append.new.site).files in
    let within = c.requires.usable.within in
    let number = c.tables-number.result + 1 in
    let is : number ≡ length self.schema.catalog.tables + 1 = ap (λ (n : ℕ). n + 1) (c.tables-number.ensures.count ∙ ap (λ (catalog : Catalog). length catalog.tables) c.in_ok-reserve_one.ensures.catalog) in
    let begun = c.in_ok-table.ensures in
    let appended = c.in_ok-append.ensures in
    let new : Store = record { catalog = c.append.new.self; schema = c.accept.new.self; tables = c.push.new.self } in
    let made = is_made self number def table c.reserve_one.new.self c.reserve.new.self new within is begun.fresh appended.file c.in_ok-reserve_one.ensures.catalog c.accept.ensures c.in_ok-reserve.ensures.items c.in-Ok.ensures.items in
    record {
      within = made_within self number def table new made
          (makes_defined self.schema.catalog c.requires.makes.0 (Table def) c.requires.makes.1 within.defined new.schema.catalog (ap (λ (s : Seen). s.catalog) c.accept.ensures ∙ ap (with_definition (Table def)) c.in_ok-reserve_one.ensures.catalog))
          (omega (arith, makes_few self.schema.catalog c.requires.makes.0 (Table def) c.requires.makes.1))
          (omega (arith, appended.gate, ap length (c.deref.ensures.value ∙ c.in_ok-framed.ensures), makes_frame self.schema.catalog c.requires.makes.0 (Table def) c.requires.makes.1, ap (λ (t : List ℕ). length (frame_of t)) c.requires.makes.2));
      placed = λ tells.
          let same = behind_same self number within before between behind (begun.keeps.others tells) (appended.keeps.others tells) in
          made_placed self number def table new made before behind (tables_kept self number within before between behind (begun.keeps.others tells) (appended.keeps.others tells)) (c.requires.usable.placed tells)
          (subst (λ (f : FileId). new.catalog.gate < length (behind f).bytes) (sym made.file) (appended.placed tells))
          (placed_kept between behind number def table (λ f its. same f (omega (arith, its))) made.held_as (begun.placed tells));
    }

pub returns-in-Ok-clause-rooms : goal.returns-in-Ok-clause-rooms
returns-in-Ok-clause-rooms g c =
    let self = c.args.self.now in
    let number = c.tables-number.result + 1 in
    let is : number ≡ length self.schema.catalog.tables + 1 = ap (λ (n : ℕ). n + 1) (c.tables-number.ensures.count ∙ ap (λ (catalog : Catalog). length catalog.tables) c.in_ok-reserve_one.ensures.catalog) in
    let new : Store = record { catalog = c.append.new.self; schema = c.accept.new.self; tables = c.push.new.self } in
    made_rooms self number c.args.def c.in_ok-table.table new
    (is_made self number c.args.def c.in_ok-table.table c.reserve_one.new.self c.reserve.new.self new c.requires.usable.within is c.in_ok-table.ensures.fresh c.in_ok-append.ensures.file c.in_ok-reserve_one.ensures.catalog c.accept.ensures
    c.in_ok-reserve.ensures.items c.in-Ok.ensures.items)
