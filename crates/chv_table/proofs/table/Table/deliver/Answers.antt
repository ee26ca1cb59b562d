-- A block whose id is among the last is skipped, and any other is written.
use Rattle.std.proofs.Common.{rules, ◌≡◌, ◌∙◌, sym, subst}
use Rattle.std.proofs.lemmas.Bool.{false≢true}
use Rattle.chv_site.specs.During.{During}
use Rattle.chv_site.proofs.Moments.{started}
use Rattle.chv_part.specs.Books.{Book, Entry, appended, arrived}
use Rattle.chv_part.proofs.BookLemmas.{arrived-recent, arrived-new}
use Rattle.chv_table.specs.Delivering.{Brings, DeliveryLeft}
use Rattle.chv_table.specs.Tables.{HoldsBook}
use Rattle.chv_table.proofs.DeliveryLemmas.{recent_held, recent_lacks, skipped_left}
use Rattle.chv_table.proofs.table.Table.deliver.Given.{Over}
use Rattle.chv_table.proofs.table.Table.deliver.Goals.{After-write}
use Rattle.chv_table.proofs.table.Table.deliver.Goals as goal

pub returns-then-has-clause-turned : goal.returns-then-has-clause-turned
returns-then-has-clause-turned g c = λ tells book entry brings held.
    let table = c.args.self.now in
    let old = g.W.Site.outside c.args.site.now in
    let next = arrived table.replay.window entry book in
    let same = arrived-recent table.replay.window entry book (recent_held table old.files book entry c.args.id held brings.id_is (c.has.ensures.0 c.if-has.true)) in
    record {
      done = subst (λ (b : Book). HoldsBook table old.files b) (sym same) held;
      during = started old (DeliveryLeft table book next old.files old.said)
          (λ image text left. skipped_left table old.files old.said book next image text c.requires.takes.within held (g.met.W.Site.only_now c.args.site.now image text left));
    }

-- what arrives is appended where its id is not held
module _ (g : Over) (c : After-write g) where
  pub is_appended : (book : Book) (entry : Entry) → Brings c.args.self.now c.args.id c.args.rows c.args.encoded.now entry → HoldsBook c.args.self.now (g.W.Site.outside c.args.site.now).files book
      → arrived c.args.self.now.replay.window entry book ≡ appended entry book
  is_appended book entry brings held =
      let table = c.args.self.now in
      arrived-new table.replay.window entry book
      (recent_lacks table (g.W.Site.outside c.args.site.now).files book entry c.args.id held brings.id_is (λ has. absurd (false≢true (sym c.if-has.false ∙ c.has.ensures.1 has))))

pub returns-clause-turned : goal.returns-clause-turned
returns-clause-turned g c = λ tells book entry brings held.
    let S = g.W.Site in
    let old = S.outside c.args.site.now in
    let same = is_appended g (goal.at.returns-clause-turned g c).After-write book entry brings held in
    let turned = c.write.ensures.turned tells book entry brings held in
    record {
      done = subst (λ (b : Book). HoldsBook c.write.new.self (S.outside c.write.new.site).files b) (sym same) (c.in_ok-write.ensures.turned tells book entry brings held).done;
      during = subst (λ (b : Book). During old (S.outside c.write.new.site) (DeliveryLeft c.args.self.now book b old.files old.said)) (sym same) turned.during;
    }

pub returns-in_err-write-clause-turned : goal.returns-in_err-write-clause-turned
returns-in_err-write-clause-turned g c = λ tells book entry brings held.
    let S = g.W.Site in
    let old = S.outside c.args.site.now in
    let same = is_appended g (goal.at.returns-in_err-write-clause-turned g c).After-write book entry brings held in
    record {
      done = search rules;
      during = subst (λ (b : Book). During old (S.outside c.write.new.site) (DeliveryLeft c.args.self.now book b old.files old.said)) (sym same) (c.write.ensures.turned tells book entry brings held).during;
    }
