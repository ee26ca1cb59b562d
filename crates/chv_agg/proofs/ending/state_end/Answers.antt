use Rattle.chv_agg.proofs.EndLemmas.{alike_count, alike_greatest, alike_least, alike_set, alike_sum, alike-found, alike-none}
use Rattle.chv_agg.proofs.ending.state_end.Goals as goal

pub returns-in-Count-clause-found : goal.returns-in-Count-clause-found
returns-in-Count-clause-found c = alike-found (alike_count c.args.arg) c.args.agg c.in-Count.is c.args.bytes.now c.args.at c.number_end.result c.number_end.ensures.found

pub returns-in-Count-clause-none : goal.returns-in-Count-clause-none
returns-in-Count-clause-none c none = alike-none (alike_count c.args.arg) c.args.agg c.in-Count.is c.args.bytes.now c.args.at (λ n rest fits. c.number_end.ensures.none none n rest)

pub returns-in-Sum-clause-found : goal.returns-in-Sum-clause-found
returns-in-Sum-clause-found c = alike-found (alike_sum c.args.arg) c.args.agg c.in-Sum.is c.args.bytes.now c.args.at c.number_end-in-Sum.result c.number_end-in-Sum.ensures.found

pub returns-in-Sum-clause-none : goal.returns-in-Sum-clause-none
returns-in-Sum-clause-none c none = alike-none (alike_sum c.args.arg) c.args.agg c.in-Sum.is c.args.bytes.now c.args.at (λ n rest fits. c.number_end-in-Sum.ensures.none none n rest)

pub returns-in-Min-clause-found : goal.returns-in-Min-clause-found
returns-in-Min-clause-found c = alike-found (alike_least c.args.arg) c.args.agg c.in-Min.is c.args.bytes.now c.args.at c.found_end.result c.found_end.ensures.found

pub returns-in-Min-clause-none : goal.returns-in-Min-clause-none
returns-in-Min-clause-none c none = alike-none (alike_least c.args.arg) c.args.agg c.in-Min.is c.args.bytes.now c.args.at (c.found_end.ensures.none none)

pub returns-in-Max-clause-found : goal.returns-in-Max-clause-found
returns-in-Max-clause-found c = alike-found (alike_greatest c.args.arg) c.args.agg c.in-Max.is c.args.bytes.now c.args.at c.found_end-in-Max.result c.found_end-in-Max.ensures.found

pub returns-in-Max-clause-none : goal.returns-in-Max-clause-none
returns-in-Max-clause-none c none = alike-none (alike_greatest c.args.arg) c.args.agg c.in-Max.is c.args.bytes.now c.args.at (c.found_end-in-Max.ensures.none none)

pub returns-in-UniqExact-clause-found : goal.returns-in-UniqExact-clause-found
returns-in-UniqExact-clause-found c = alike-found (alike_set c.args.arg) c.args.agg c.in-UniqExact.is c.args.bytes.now c.args.at c.set_end.result c.set_end.ensures.found

pub returns-in-UniqExact-clause-none : goal.returns-in-UniqExact-clause-none
returns-in-UniqExact-clause-none c none = alike-none (alike_set c.args.arg) c.args.agg c.in-UniqExact.is c.args.bytes.now c.args.at (λ values rest fits. c.set_end.ensures.none none values rest fits.0 fits.1)
