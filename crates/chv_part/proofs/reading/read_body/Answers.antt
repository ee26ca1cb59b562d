-- What was fetched behind the head is the body.
use Rattle.std.proofs.Common.{◌≡◌, ◌∙◌, ◌++◌, ◌-◌, List, ℕ, length, take, drop, min, arith, rules}
use Rattle.std.proofs.lemmas.List.{take-take, take-append-le}
use Rattle.chv_site.specs.Outside.{bytes_in}
use Rattle.chv_part.proofs.PartLemmas.{framed_by_head}
use Rattle.chv_part.proofs.reading.read_body.Goals as goal

pub returns-clause-read : goal.returns-clause-read
returns-clause-read g c = λ tells.
    let file : List ℕ = bytes_in (g.W.Site.outside c.args.site.now) c.args.f in
    let count : ℕ = c.in_ok-count.count in
    let fetched : List ℕ = c.fetch.new.buf in
    let behind : List ℕ = drop (length fetched) c.in_ok-body.body.items in
    let room : ℕ = c.in_ok-body.body.len in
    let counts : count ≡ min (c.args.size - 24) (length file - 24) = search rules in
    let front : take count (take room (fetched ++ behind)) ≡ take count fetched =
    take-take count room (fetched ++ behind) (omega (arith, c.in_ok-count.ensures.within, c.deref_mut.ensures.len, c.in_ok-body.ensures.len))
    ∙ take-append-le count fetched behind (omega (arith, c.in_ok-count.ensures.within, c.fetch.auto.buf)) in
    let body : List ℕ = c.truncate.new.self.items in
    let kept : body ≡ take count (take room (fetched ++ behind)) = c.truncate.ensures.items in
    let read : take count fetched ≡ take count (drop 24 file) = c.in_ok-count.ensures.bytes tells in
    framed_by_head file body c.args.size c.args.kept count c.requires.room (c.requires.size tells) (c.requires.head tells) counts (kept ∙ front ∙ read)
