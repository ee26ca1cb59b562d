-- The parts of the run are read, and then the one takes their place.
use Rattle.std.proofs.Common.{rules, ◌≡◌, Result, Ok, Err, IfErr, refl, sym, ap, subst, ◌∙◌}
use Rattle.std.proofs.lemmas.Result.{err_from_is_err_and}
use Rattle.chv_site.specs.During.{During}
use Rattle.chv_part.specs.Books.{Book, part_rows}
use Rattle.chv_part.specs.Merging.{merged}
use Rattle.chv_part.specs.Parts.{IsPartFile}
use Rattle.chv_gate.proofs.EffectLemmas.{counts_on}
use Rattle.chv_table.specs.Delivering.{DeliveryLeft}
use Rattle.chv_table.specs.Merging.{IsEarly}
use Rattle.chv_table.specs.Tables.{HoldsBook, held_form}
use Rattle.chv_table.specs.declared.fault.TableFault.{TableFault}
use Rattle.chv_table.proofs.DeliveryLemmas.{skipped_left}
use Rattle.chv_table.proofs.MergeLemmas.{during_on, during_reads}
use Rattle.chv_table.proofs.TableLemmas.{holds_book_kept, holds_commits_kept}
use Rattle.chv_table.proofs.table.Table.merge_run.Given.{Over}
use Rattle.chv_table.proofs.table.Table.merge_run.Goals.{After-read_run, After-replace_run}
use Rattle.chv_table.proofs.table.Table.merge_run.Goals as goal

all_errs : {T E : Type 0} (r : Result T E) (P : E → Type 0) → ((e : E) → P e) → IfErr r P
all_errs {T} {E} (Ok x) P h = tt
all_errs {T} {E} (Err e) P h = h e

module _ (g : Over) (c : After-read_run g) where
  -- reading leaves the book from before
  pub during_read : g.W.Site.tells → (book : Book) → HoldsBook c.args.self.now (g.W.Site.outside c.args.site.now).files book
      → During (g.W.Site.outside c.args.site.now) (g.W.Site.outside c.read_run.new.site)
      (DeliveryLeft c.args.self.now book (merged c.args.run book) (g.W.Site.outside c.args.site.now).files (g.W.Site.outside c.args.site.now).said)
  during_read tells book held =
      let table = c.args.self.now in
      let old = g.W.Site.outside c.args.site.now in
      during_reads table old (g.W.Site.outside c.read_run.new.site) book (merged c.args.run book)
      (λ image text left. skipped_left table old.files old.said book (merged c.args.run book) image text c.requires.within held left) (c.read_run.ensures.keeps.during tells)

pub returns-in_err-one : goal.returns-in_err-one
returns-in_err-one g c =
    let at = (goal.at.returns-in_err-one g c).After-read_run in
    let p = err_from_is_err_and c.from_residual.result c.from_residual.ensures.1 in
    record {
      turned = λ tells book held. record { done = search rules; during = during_read g at tells book held };
      commits = search rules;
      makes = search rules;
      whole = search rules;
      damaged = λ tells damage is.
          let same : p.0 ≡ TableFault.Damaged damage = cc (sym p.1 ∙ is) in
          c.in_err-one.ensures.damaged tells damage (ap Err (sym p.2 ∙ same));
      early = all_errs c.from_residual.result _ (λ fault early. (refl, c.read_run.ensures.keeps.files));
      ready = search rules;
      room = search rules;
      same = (refl, refl);
      keeps = record {
        others = λ tells f other. c.read_run.ensures.keeps.files tells f;
        said = c.read_run.ensures.keeps.said;
        counts = search rules;
      };
    }

module _ (g : Over) (c : After-replace_run g) where
  -- reading leaves the book
  pub held_between : g.W.Site.tells → (book : Book) → HoldsBook c.args.self.now (g.W.Site.outside c.args.site.now).files book → HoldsBook c.args.self.now (g.W.Site.outside c.read_run.new.site).files book
  held_between tells book held =
      holds_book_kept c.args.self.now (g.W.Site.outside c.args.site.now).files (g.W.Site.outside c.read_run.new.site).files book c.requires.within (λ f own. c.read_run.ensures.keeps.files tells f) held

  -- and what follows turns it
  pub during_all : g.W.Site.tells → (book : Book) → HoldsBook c.args.self.now (g.W.Site.outside c.args.site.now).files book
      → During (g.W.Site.outside c.args.site.now) (g.W.Site.outside c.replace_run.new.site)
      (DeliveryLeft c.args.self.now book (merged c.args.run book) (g.W.Site.outside c.args.site.now).files (g.W.Site.outside c.args.site.now).said)
  during_all tells book held =
      let table = c.args.self.now in
      let old = g.W.Site.outside c.args.site.now in
      let mid = g.W.Site.outside c.read_run.new.site in
      let read = c.in_ok-one.ensures.rows tells book held.lawful held.parts in
      during_on table old mid (g.W.Site.outside c.replace_run.new.site) book (merged c.args.run book) (c.read_run.ensures.keeps.files tells) (c.read_run.ensures.keeps.said tells)
      (during_reads table old mid book (merged c.args.run book)
      (λ image text left. skipped_left table old.files old.said book (merged c.args.run book) image text c.requires.within held left) (c.read_run.ensures.keeps.during tells))
      (c.replace_run.ensures.turned tells book (held_between tells book held) read.0 (subst (IsPartFile (held_form table) (part_rows (held_form table) book c.in_ok-one.one.row.lo c.in_ok-one.one.row.hi)) (sym c.as_slice.ensures) read.1)).during

pub returns-in_err-replace_run : goal.returns-in_err-replace_run
returns-in_err-replace_run g c =
    let at = (goal.at.returns-in_err-replace_run g c).After-replace_run in
    let p = err_from_is_err_and c.from_residual-in_err-replace_run.result c.from_residual-in_err-replace_run.ensures.1 in
    let failed : p.0 ≡ TableFault.Failed = p.2 in
    let is_failed : c.from_residual-in_err-replace_run.result ≡ Err TableFault.Failed = p.1 ∙ ap Err failed in
    record {
      turned = λ tells book held. record { done = search rules; during = during_all g at tells book held };
      commits = search rules;
      makes = search rules;
      whole = search rules;
      damaged = λ tells damage is. absurd (cc (sym is_failed ∙ is));
      early = rw is_failed (λ early. absurd early);
      ready = search rules;
      room = search rules;
      same = c.replace_run.ensures.same;
      keeps = record {
        others = λ tells f other. c.replace_run.ensures.keeps.others tells f other ∙ c.read_run.ensures.keeps.files tells f;
        said = λ tells. c.replace_run.ensures.keeps.said tells ∙ c.read_run.ensures.keeps.said tells;
        counts = search rules;
      };
    }

pub returns : goal.returns
returns g c =
    let at = (goal.at.returns g c).After-replace_run in
    let table = c.args.self.now in
    let old = g.W.Site.outside c.args.site.now in
    let mid = g.W.Site.outside c.read_run.new.site in
    let row = c.in_ok-one.one.row in
    record {
      turned = λ tells book held.
          let read = c.in_ok-one.ensures.rows tells book held.lawful held.parts in
          record {
            done = (c.in_ok-replace_run.ensures.turned tells book (held_between g at tells book held) read.0 (subst (IsPartFile (held_form table) (part_rows (held_form table) book row.lo row.hi)) (sym c.as_slice.ensures) read.1)).done;
            during = during_all g at tells book held;
          };
      commits = λ tells commits held.
          (row, c.in_ok-one.ensures.row.0, c.in_ok-replace_run.ensures.commits tells commits (holds_commits_kept table old.files mid.files commits (c.read_run.ensures.keeps.files tells table.log.file) held));
      makes = record { row = row; row_is = c.in_ok-one.ensures.row.0; merges = c.in_ok-replace_run.ensures.merges };
      whole = c.in_ok-one.ensures.whole;
      damaged = λ tells damage is. absurd (cc is);
      early = search rules;
      ready = c.in_ok-replace_run.ensures.ready;
      room = c.in_ok-replace_run.ensures.room;
      same = c.replace_run.ensures.same;
      keeps = record {
        others = λ tells f other. c.replace_run.ensures.keeps.others tells f other ∙ c.read_run.ensures.keeps.files tells f;
        said = λ tells. c.replace_run.ensures.keeps.said tells ∙ c.read_run.ensures.keeps.said tells;
        counts = search rules;
      };
    }
