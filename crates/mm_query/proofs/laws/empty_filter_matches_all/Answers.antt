use Rattle.mm_query.proofs.laws.empty_filter_matches_all.Goals as goal

pub returns : goal.returns
returns c = λ d. tt
