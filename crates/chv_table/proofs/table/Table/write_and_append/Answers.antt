-- Until the frame is appended the table has its book from before the commit, and then the next.
use Rattle.std.proofs.Common.{rules, ◌≡◌, ℕ, ap, ◌∙◌}
use Rattle.chv_site.specs.FileIds.{part_of}
use Rattle.chv_table.specs.Turning.{Becomes}
use Rattle.chv_table.proofs.TurningLemmas.{turned_commits, turned_book, during_part, during_commit}
use Rattle.chv_table.proofs.table.Table.write_and_append.Given.{Over}
use Rattle.chv_table.proofs.table.Table.write_and_append.Goals.{After-write_part}
use Rattle.chv_table.proofs.table.Table.write_and_append.Goals as goal

-- the part that is written is the next one
part_is : (g : Over) (c : After-write_part g) → c.part-part.result ≡ part_of c.args.self.now.number c.args.self.now.replay.state.next_part
part_is g c = c.part-part.ensures ∙ ap (part_of c.args.self.now.number) c.next_part.ensures.next

pub returns-clause-commits : goal.returns-clause-commits
returns-clause-commits g c = λ tells commit state commits held fits framed.
    let S = g.W.Site in
    let at = (goal.at.returns-clause-commits g c).After-write_part in
    turned_commits c.args.self.now commit state c.part-part.result c.requires.within (part_is g at) fits (S.outside c.args.site.now).files commits held
    (S.outside c.write_part.new.site).files (S.outside c.append.new.site).files c.append.new.self c.args.frame.now (c.write_part.ensures.keeps.others tells) c.append.ensures.file
    framed (c.in_ok-append.ensures.appended tells)

pub returns-clause-turned : goal.returns-clause-turned
returns-clause-turned g c = λ tells commit state book next held becomes framed.
    let S = g.W.Site in
    let at = (goal.at.returns-clause-turned g c).After-write_part in
    let table = c.args.self.now in
    let start = S.outside c.args.site.now in
    let between = S.outside c.write_part.new.site in
    record {
      done = turned_book table commit state c.part-part.result c.requires.within (part_is g at) becomes.fits start.files book next c.args.encoded.now held becomes
          between.files (c.write_part.ensures.keeps.others tells) (c.in_ok-write_part.ensures.written tells)
          (S.outside c.append.new.site).files c.append.new.self c.args.frame.now (c.append.ensures.keeps.others tells) c.append.ensures.file framed (c.in_ok-append.ensures.appended tells);
      during = during_commit table commit state c.part-part.result c.requires.within (part_is g at) becomes.fits start book next c.args.encoded.now held becomes
          between (S.outside c.append.new.site) c.args.frame.now (c.write_part.ensures.during tells) (c.write_part.ensures.keeps.others tells) (c.in_ok-write_part.ensures.written tells)
          (c.write_part.ensures.keeps.said tells) framed (c.append.ensures.during tells);
    }

pub returns-in_err-write_part-clause-turned : goal.returns-in_err-write_part-clause-turned
returns-in_err-write_part-clause-turned g c = λ tells commit state book next held becomes framed.
    let S = g.W.Site in
    let at = (goal.at.returns-in_err-write_part-clause-turned g c).After-write_part in
    record {
      done = search rules;
      during = during_part c.args.self.now commit state c.part-part.result c.requires.within (part_is g at) becomes.fits (S.outside c.args.site.now) book next c.args.encoded.now held becomes
          (S.outside c.write_part.new.site) (c.write_part.ensures.during tells);
    }

pub returns-in_err-append-clause-turned : goal.returns-in_err-append-clause-turned
returns-in_err-append-clause-turned g c = λ tells commit state book next held becomes framed.
    let S = g.W.Site in
    let at = (goal.at.returns-in_err-append-clause-turned g c).After-write_part in
    record {
      done = search rules;
      during = during_commit c.args.self.now commit state c.part-part.result c.requires.within (part_is g at) becomes.fits (S.outside c.args.site.now) book next c.args.encoded.now held becomes
          (S.outside c.write_part.new.site) (S.outside c.append.new.site) c.args.frame.now (c.write_part.ensures.during tells) (c.write_part.ensures.keeps.others tells) (c.in_ok-write_part.ensures.written tells)
          (c.write_part.ensures.keeps.said tells) framed (c.append.ensures.during tells);
    }
