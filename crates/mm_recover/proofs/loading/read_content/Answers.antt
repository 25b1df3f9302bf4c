use Rattle.std.proofs.Common.{◌∙◌}
use Rattle.mm_outside.specs.Told.{image_of}
use Rattle.std.specs.FinMap.{get}
use Rattle.mm_recover.proofs.Loads.{none_there, some_there}
use Rattle.mm_recover.proofs.loading.read_content.Goals as goal

pub returns-in-None-clause-content : goal.returns-in-None-clause-content
returns-in-None-clause-content g c = λ t is. none_there (get (image_of t) c.args.name.now) _ (c.in_ok-len.ensures.len t is) c.in-None.is

pub returns-in_ok-bytes-in-Some-clause-content : goal.returns-in_ok-bytes-in-Some-clause-content
returns-in_ok-bytes-in-Some-clause-content g c = λ t is. some_there (get (image_of t) c.args.name.now) _ _ c.in_ok-bytes-in-Some.bytes.items (c.in_ok-len.ensures.len t is) c.in-Some.is (c.in_ok-bytes-in-Some.ensures.bytes t (c.in_ok-len.ensures.told ∙ is))
