-- The log is begun, and then its texts are read.
use Rattle.std.proofs.Common.{◌≡◌, ◌≤◌, List, ℕ, length, true, false, None, Err, sym, ap, subst, ◌∙◌, arith}
use Rattle.std.proofs.lemmas.Bool.{false≢true}
use Rattle.std.proofs.lemmas.Result.{err_from_is_err_and}
use Rattle.chv_catalog.specs.Schemas.{Catalog, Seen, definition_name, definitions_in, names_of, place_of, with_definition}
use Rattle.chv_gate.specs.Crashes.{Leaves, LeavesFrames}
use Rattle.chv_gate.specs.GateLog.{HasFrames, begun}
use Rattle.chv_gate.specs.declared.log.Log.{Log}
use Rattle.chv_gate.proofs.BegunLemmas.{during_begun}
use Rattle.chv_gate.proofs.EffectLemmas.{changes_then_reads}
use Rattle.chv_site.specs.declared.file_id.FileId.{FileId}
use Rattle.chv_site.specs.Effects.{ChangesOnly}
use Rattle.chv_site.specs.FileIds.{catalog_log}
use Rattle.chv_site.specs.Files.{FileState, settled}
use Rattle.chv_site.specs.Outside.{bytes_in}
use Rattle.chv_table.specs.declared.fault.TableFault.{TableFault}
use Rattle.chv_store.specs.Openings.{HoldsCatalog, ReadsDefinition, LacksDefinition}
use Rattle.chv_store.proofs.CatalogLemmas.{AreWithin, HasDefinitions, catalog_ended, holds_read, definitions_damage, definitions_next, definitions_none, within_next, within_none}
use Rattle.chv_store.proofs.FaultLemmas.{changes_as}
use Rattle.chv_store.proofs.MakesLemmas.{makes_few, makes_free}
use Rattle.chv_store.proofs.catalog.open_catalog.Goals as goal

pub returns-in_err-begin-clause-during : goal.returns-in_err-begin-clause-during
returns-in_err-begin-clause-during g c tells = rw (← c.catalog_log-file.ensures) (c.begin.ensures.during tells)

pub statements-init : goal.statements-init
statements-init g c =
    let before = g.W.Site.outside c.args.site.now in
    let now = g.W.Site.outside c.begin.new.site in
    let is = c.catalog_log-file.ensures in
    let begins = c.in_ok-begin.ensures in
    let none = c.requires in
    record {
      within = subst (λ (catalog : Catalog). AreWithin catalog 0) (sym none) within_none;
      read = λ tells. subst (λ (catalog : Catalog). HasDefinitions catalog 0 (begun (bytes_in before catalog_log))) (sym none) (definitions_none (begun (bytes_in before catalog_log)));
      begun_now = λ tells. subst (λ (f : FileId). now.files f ≡ settled (begun (bytes_in before f))) is (begins.begun tells);
      left = λ tells payloads leaves.
          subst (λ (f : FileId). Leaves f (HasFrames payloads) before now) is (begins.during tells payloads (subst (λ (f : FileId). LeavesFrames payloads (before.files f)) (sym is) leaves));
      kept = λ tells long. subst (λ (f : FileId). bytes_in now f ≡ bytes_in before f) is (begins.kept tells (subst (λ (f : FileId). 2 ≤ length (bytes_in before f)) (sym is) long));
      keeps = subst (λ (f : FileId). ChangesOnly g.W.Site.tells ⊥ f before now) is (changes_as g.W.Site.tells (false ≡ true) ⊥ c.catalog_log-file.result before now (λ n. absurd n) (λ is_err. false≢true is_err) begins.keeps);
    }

pub returns-in_err-definition-clause-damaged : goal.returns-in_err-definition-clause-damaged
returns-in_err-definition-clause-damaged g c tells damage is =
    let so_far = c.statements.invariant in
    let p = err_from_is_err_and c.from_residual-in_err-definition.result c.from_residual-in_err-definition.ensures.1 in
    let same : p.0 ≡ TableFault.Damaged damage = cc (sym p.1 ∙ is) in
    let told = c.in_err-definition.ensures.damaged tells damage (ap Err (sym p.2 ∙ same)) in
    let bytes = bytes_in (g.W.Site.outside c.args.site.now) catalog_log in
    let file : bytes_in (g.W.Site.outside c.statements.site) c.catalog_log-file.result ≡ begun bytes =
    ap (bytes_in (g.W.Site.outside c.statements.site)) c.catalog_log-file.ensures ∙ ap (λ (s : FileState). s.bytes) (so_far.begun_now tells) in
    definitions_damage c.statements.schema.catalog c.statements.gate bytes damage (so_far.read tells) (told.0, subst (LacksDefinition c.statements.schema.catalog c.statements.gate) file told.1)

pub returns-in_err-definition-clause-during : goal.returns-in_err-definition-clause-during
returns-in_err-definition-clause-during g c tells payloads leaves =
    let so_far = c.statements.invariant in
    during_begun catalog_log payloads (g.W.Site.outside c.args.site.now) (g.W.Site.outside c.statements.site) (g.W.Site.outside c.read_definition.new.site) leaves (g.met.W.Site.reads c.args.site.now catalog_log)
    (so_far.begun_now tells) (so_far.keeps.others tells) (so_far.keeps.said tells) (so_far.left tells payloads leaves) (c.in_err-definition.ensures.keeps.during tells)

pub returns-in_err-reserve_one-in-Some-clause-during : goal.returns-in_err-reserve_one-in-Some-clause-during
returns-in_err-reserve_one-in-Some-clause-during g c tells payloads leaves =
    let so_far = c.statements.invariant in
    during_begun catalog_log payloads (g.W.Site.outside c.args.site.now) (g.W.Site.outside c.statements.site) (g.W.Site.outside c.read_definition.new.site) leaves (g.met.W.Site.reads c.args.site.now catalog_log)
    (so_far.begun_now tells) (so_far.keeps.others tells) (so_far.keeps.said tells) (so_far.left tells payloads leaves) (c.in_ok-definition.ensures.keeps.during tells)

pub accept-requires-clause-free : goal.accept-requires-clause-free
accept-requires-clause-free g c =
    let read = rw c.in-Some.is at c.in_ok-definition.ensures.makes in
    subst (λ (catalog : Catalog). place_of (definition_name c.in-Some.field-0.definition) (names_of catalog) ≡ None) (sym c.in_ok-reserve_one-in-Some.ensures.catalog)
    (makes_free c.statements.schema.catalog read.0 c.in-Some.field-0.definition read.1)

pub accept-requires-clause-few : goal.accept-requires-clause-few
accept-requires-clause-few g c =
    let read = rw c.in-Some.is at c.in_ok-definition.ensures.makes in
    omega (arith, makes_few c.statements.schema.catalog read.0 c.in-Some.field-0.definition read.1, ap definitions_in c.in_ok-reserve_one-in-Some.ensures.catalog)

pub statements-preserved : goal.statements-preserved
statements-preserved g c =
    let before = g.W.Site.outside c.args.site.now in
    let mid = g.W.Site.outside c.statements.site in
    let now = g.W.Site.outside c.read_definition.new.site in
    let so_far = c.statements.invariant in
    let catalog = c.statements.schema.catalog in
    let gate = c.statements.gate in
    let read = c.in-Some.field-0 in
    let file_now = begun (bytes_in before catalog_log) in
    let made = rw c.in-Some.is at c.in_ok-definition.ensures.makes in
    let catalog_now : c.accept.new.self.catalog ≡ with_definition read.definition catalog =
    ap (λ (s : Seen). s.catalog) c.accept.ensures ∙ ap (with_definition read.definition) c.in_ok-reserve_one-in-Some.ensures.catalog in
    record {
      within = subst (λ (now : Catalog). AreWithin now read.next) (sym catalog_now) (within_next catalog gate made.0 read.definition read.next so_far.within made.1 made.2);
      read = λ tells.
          let file : bytes_in mid c.catalog_log-file.result ≡ file_now = ap (bytes_in mid) c.catalog_log-file.ensures ∙ ap (λ (s : FileState). s.bytes) (so_far.begun_now tells) in
          subst (λ (now : Catalog). HasDefinitions now read.next file_now) (sym catalog_now)
          (definitions_next catalog gate file_now read (so_far.read tells)
          (subst (ReadsDefinition catalog gate file_now) c.in-Some.is (subst (λ (bytes : List ℕ). ReadsDefinition catalog gate bytes c.in_ok-definition.field-0) file (c.in_ok-definition.ensures.read tells))));
      begun_now = λ tells. c.in_ok-definition.ensures.keeps.files tells catalog_log ∙ so_far.begun_now tells;
      left = λ tells payloads leaves.
          during_begun catalog_log payloads before mid now leaves (g.met.W.Site.reads c.args.site.now catalog_log)
          (so_far.begun_now tells) (so_far.keeps.others tells) (so_far.keeps.said tells) (so_far.left tells payloads leaves) (c.in_ok-definition.ensures.keeps.during tells);
      kept = λ tells long. ap (λ (s : FileState). s.bytes) (c.in_ok-definition.ensures.keeps.files tells catalog_log) ∙ so_far.kept tells long;
      keeps = changes_then_reads ⊥ _ ⊥ before mid now (λ n. n) (λ n. absurd n) (λ is. cc is) g.W.Site.tells catalog_log so_far.keeps c.in_ok-definition.ensures.keeps;
    }

pub returns-in-None-clause-holds : goal.returns-in-None-clause-holds
returns-in-None-clause-holds g c tells =
    let bytes = bytes_in (g.W.Site.outside c.args.site.now) catalog_log in
    let mid = g.W.Site.outside c.statements.site in
    let so_far = c.statements.invariant in
    let catalog = c.statements.schema.catalog in
    let gate = c.statements.gate in
    let file : bytes_in mid c.catalog_log-file.result ≡ begun bytes = ap (bytes_in mid) c.catalog_log-file.ensures ∙ ap (λ (s : FileState). s.bytes) (so_far.begun_now tells) in
    let place : gate ≡ c.at.result.gate = sym (ap (λ (log : Log). log.gate) c.at.ensures) in
    subst (λ (n : ℕ). HoldsCatalog catalog n bytes ((g.W.Site.outside c.read_definition.new.site).files catalog_log)) place
    (holds_read catalog gate bytes ((g.W.Site.outside c.read_definition.new.site).files catalog_log) (so_far.read tells)
    (catalog_ended catalog gate (bytes_in mid c.catalog_log-file.result) (begun bytes) c.in_ok-definition.field-0 file c.in-None.is (c.in_ok-definition.ensures.read tells))
    (c.in_ok-definition.ensures.keeps.files tells catalog_log ∙ so_far.begun_now tells))

pub returns-in-None-clause-during : goal.returns-in-None-clause-during
returns-in-None-clause-during g c tells payloads leaves =
    let so_far = c.statements.invariant in
    during_begun catalog_log payloads (g.W.Site.outside c.args.site.now) (g.W.Site.outside c.statements.site) (g.W.Site.outside c.read_definition.new.site) leaves (g.met.W.Site.reads c.args.site.now catalog_log)
    (so_far.begun_now tells) (so_far.keeps.others tells) (so_far.keeps.said tells) (so_far.left tells payloads leaves) (c.in_ok-definition.ensures.keeps.during tells)
