-- A view more: the catalog has its text.
use Rattle.std.proofs.Common.{◌≡◌, ℕ, ◌<◌, List, None, [], ◌∷◌, ◌++◌, length, sym, ap, subst, ◌∙◌, arith}
use Rattle.std.proofs.lemmas.Result.{err_from_is_err_and}
use Rattle.chv_catalog.specs.Schemas.{Catalog, Seen, definitions_in, names_of, with_definition}
use Rattle.chv_catalog.specs.declared.definition.Definition.TheVariants.{View}
use Rattle.chv_gate.specs.GateLog.{IsPayload, IsReady, frame_of}
use Rattle.chv_site.specs.declared.file_id.FileId.{FileId}
use Rattle.chv_types.specs.Names.{place_of}
use Rattle.chv_store.proofs.CreateLemmas.{turns_err}
use Rattle.chv_store.proofs.MakesLemmas.{makes_defined, makes_few, makes_frame, makes_free, makes_payload}
use Rattle.chv_store.proofs.ViewLemmas.{unviewed_during, viewed_books, viewed_during, viewed_logs, viewed_placed, viewed_rooms, viewed_within}
use Rattle.chv_store.proofs.store.Store.create_view.Goals as goal

pub frame-requires : goal.frame-requires
frame-requires g c =
    let makes = c.requires.makes in
    subst IsPayload (sym makes.2) (makes_payload c.args.self.now.schema.catalog makes.0 (View c.args.def) makes.1)

pub accept-requires-clause-free : goal.accept-requires-clause-free
accept-requires-clause-free g c =
    let makes = c.requires.makes in
    subst (λ (catalog : Catalog). place_of c.args.def.name (names_of catalog) ≡ None) (sym c.in_ok-reserve_one.ensures.catalog)
    (makes_free c.args.self.now.schema.catalog makes.0 (View c.args.def) makes.1)

pub accept-requires-clause-few : goal.accept-requires-clause-few
accept-requires-clause-few g c =
    let makes = c.requires.makes in
    omega (arith, ap definitions_in c.in_ok-reserve_one.ensures.catalog, makes_few c.args.self.now.schema.catalog makes.0 (View c.args.def) makes.1)

-- before the first call on the disk
pub returns-in_err-spelled-clause-created : goal.returns-in_err-spelled-clause-created
returns-in_err-spelled-clause-created g c = λ tells payloads books held.
    let site = c.args.site.now in
    let p = err_from_is_err_and c.from_residual.result c.from_residual.ensures.1 in
    turns_err _ p.0 _ _ _ _ _ p.1
    (unviewed_during c.args.self.now (g.W.Site.outside site) payloads books c.args.text.now c.requires.usable.within held (g.met.W.Site.only_now site))

pub returns-in_err-reserve_one-clause-created : goal.returns-in_err-reserve_one-clause-created
returns-in_err-reserve_one-clause-created g c = λ tells payloads books held.
    let site = c.args.site.now in
    let p = err_from_is_err_and c.from_residual-in_err-reserve_one.result c.from_residual-in_err-reserve_one.ensures.1 in
    turns_err _ p.0 _ _ _ _ _ p.1
    (unviewed_during c.args.self.now (g.W.Site.outside site) payloads books c.args.text.now c.requires.usable.within held (g.met.W.Site.only_now site))

-- its text is appended, whole or not
pub returns-in_err-append-clause-created : goal.returns-in_err-append-clause-created
returns-in_err-append-clause-created g c = λ tells payloads books held.
    let self = c.args.self.now in
    let makes = c.requires.makes in
    let sized = subst IsPayload (sym makes.2) (makes_payload self.schema.catalog makes.0 (View c.args.def) makes.1) in
    let p = err_from_is_err_and c.from_residual-in_err-append.result c.from_residual-in_err-append.ensures.1 in
    turns_err _ p.0 _ _ _ _ _ p.1
    (viewed_during self (g.W.Site.outside c.args.site.now) payloads books c.args.text.now c.requires.usable.within held (g.W.Site.outside c.append.new.site) c.deref.result.now sized (c.deref.ensures.value ∙ c.in_ok-spelled.ensures)
    (c.in_err-append.ensures.during tells))

pub returns-clause-created : goal.returns-clause-created
returns-clause-created g c = λ tells payloads books held.
    let self = c.args.self.now in
    let def = c.args.def in
    let text = c.args.text.now in
    let old = g.W.Site.outside c.args.site.now in
    let new = g.W.Site.outside c.append.new.site in
    let within = c.requires.usable.within in
    let makes = c.requires.makes in
    let sized = subst IsPayload (sym makes.2) (makes_payload self.schema.catalog makes.0 (View def) makes.1) in
    let spelled = c.deref.ensures.value ∙ c.in_ok-spelled.ensures in
    let appended = c.in_ok-append.ensures in
    let log = c.append.new.self in
    let catalog = ap (λ (s : Seen). s.catalog) c.accept.ensures ∙ ap (with_definition (View def)) c.in_ok-reserve_one.ensures.catalog in
    let ready = subst (λ (f : FileId). IsReady log.gate (payloads ++ text ∷ []) (new.files f)) (sym appended.file) (appended.appended tells payloads text held.catalog sized spelled) in
    record {
      done = viewed_books self log c.accept.new.self def within appended.file catalog old.files new.files (appended.keeps.others tells) payloads (payloads ++ text ∷ []) books held ready;
      during = viewed_during self old payloads books text within held new c.deref.result.now sized spelled (appended.during tells);
    }

pub returns-clause-logged : goal.returns-clause-logged
returns-clause-logged g c = λ tells payloads commits holds.
    let self = c.args.self.now in
    let def = c.args.def in
    let text = c.args.text.now in
    let old = g.W.Site.outside c.args.site.now in
    let new = g.W.Site.outside c.append.new.site in
    let makes = c.requires.makes in
    let sized = subst IsPayload (sym makes.2) (makes_payload self.schema.catalog makes.0 (View def) makes.1) in
    let appended = c.in_ok-append.ensures in
    let log = c.append.new.self in
    let catalog = ap (λ (s : Seen). s.catalog) c.accept.ensures ∙ ap (with_definition (View def)) c.in_ok-reserve_one.ensures.catalog in
    viewed_logs self log c.accept.new.self def c.requires.usable.within appended.file catalog old.files new.files (appended.keeps.others tells) payloads (payloads ++ text ∷ []) commits holds
    (subst (λ (f : FileId). IsReady log.gate (payloads ++ text ∷ []) (new.files f)) (sym appended.file) (appended.appended tells payloads text holds.catalog sized (c.deref.ensures.value ∙ c.in_ok-spelled.ensures)))

pub returns-clause-usable : goal.returns-clause-usable
returns-clause-usable g c =
    let self = c.args.self.now in
    let def = c.args.def in
    let before = (g.W.Site.outside c.args.site.now).files in
    let behind = (g.W.Site.outside c.append.new.site).files in
    let usable = c.requires.usable in
    let makes = c.requires.makes in
    let appended = c.in_ok-append.ensures in
    let log = c.append.new.self in
    let new = c.accept.new.self in
    let catalog = ap (λ (s : Seen). s.catalog) c.accept.ensures ∙ ap (with_definition (View def)) c.in_ok-reserve_one.ensures.catalog in
    record {
      within = viewed_within self log new def usable.within appended.file catalog
          (makes_defined self.schema.catalog makes.0 (View def) makes.1 usable.within.defined new.catalog catalog)
          (omega (arith, makes_few self.schema.catalog makes.0 (View def) makes.1))
          (omega (arith, appended.gate, ap length (c.deref.ensures.value ∙ c.in_ok-spelled.ensures), makes_frame self.schema.catalog makes.0 (View def) makes.1, ap (λ (t : List ℕ). length (frame_of t)) makes.2));
      placed = λ tells.
          viewed_placed self log new def usable.within appended.file catalog before behind (appended.keeps.others tells) (usable.placed tells)
          (subst (λ (f : FileId). log.gate < length (behind f).bytes) (sym appended.file) (appended.placed tells));
    }

pub returns-clause-rooms : goal.returns-clause-rooms
returns-clause-rooms g c =
    let catalog = ap (λ (s : Seen). s.catalog) c.accept.ensures ∙ ap (with_definition (View c.args.def)) c.in_ok-reserve_one.ensures.catalog in
    viewed_rooms c.args.self.now c.append.new.self c.accept.new.self c.args.def c.requires.usable.within c.in_ok-append.ensures.file catalog
