use Rattle.std.proofs.Common.{◌∙◌, ap}
use Rattle.std.specs.List.{list_any}
use Rattle.std.specs.Ordering.{eq_by_cmp}
use Rattle.mm_outside.specs.Image.{name_cmp}
use Rattle.mm_recover.proofs.Headers.{ok_two}
use Rattle.mm_recover.proofs.TouchedNames.{any_text}
use Rattle.mm_recover.proofs.touched.touched.Goals as goal

pub returns : goal.returns
returns c = ok_two c.in_order.result _ _ _ (λ names all rising. record { all = λ file. ap (list_any (eq_by_cmp name_cmp file)) all ∙ any_text c.in_ok-set.set.keys file ∙ c.in_ok-set.ensures file; rising = rising }) c.in_order.ensures.all c.in_order.ensures.rising
