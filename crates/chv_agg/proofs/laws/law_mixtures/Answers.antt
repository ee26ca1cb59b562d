use Rattle.chv_agg.specs.FoldLaws.{mixed-state_from, state_from-permuted}
use Rattle.chv_types.specs.Fits.{IsOfScalar}
use Rattle.chv_agg.proofs.laws.law_mixtures.Goals as goal

pub returns-clause-bag : goal.returns-clause-bag
returns-clause-bag g c =
    let laws = g.met.A.Aggregate.laws in
    state_from-permuted g.A.Aggregate.join laws.assoc laws.comm g.A.Aggregate.none g.A.Aggregate.one

pub returns-clause-mixed : goal.returns-clause-mixed
returns-clause-mixed g c arg =
    let laws = g.met.A.Aggregate.laws in
    mixed-state_from (IsOfScalar arg) (g.A.Aggregate.fits arg) g.A.Aggregate.none g.A.Aggregate.one g.A.Aggregate.join laws.assoc laws.comm (laws.identity arg) (laws.fits_unit arg) (laws.fits_one arg) (laws.closed arg)
