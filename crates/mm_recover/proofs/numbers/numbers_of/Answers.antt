use Rattle.std.proofs.Common.{ℕ, List, map, string_bytes, ap, ◌∙◌}
use Rattle.std.specs.Ordering.{nat_cmp}
use Rattle.std.specs.List.{list_any}
use Rattle.std.specs.BTreeMap.{is_at}
use Rattle.std.proofs.lemmas.Result.{IfOk-weaker}
use Rattle.mm_recover.proofs.FileNumbers.{image_numbers, small_numbers}
use Rattle.mm_recover.proofs.Headers.{ok_two}
use Rattle.mm_recover.proofs.numbers.numbers_of.Goals as goal

pub returns-clause-files : goal.returns-clause-files
returns-clause-files c = IfOk-weaker c.in_order.result _ _ (λ numbers are. small_numbers (map string_bytes c.args.names.now) numbers.items (λ n. ap (λ (l : List ℕ). list_any (is_at (nat_cmp n)) l) are ∙ c.in_ok-set.ensures n)) c.in_order.ensures.all

pub returns-clause-all : goal.returns-clause-all
returns-clause-all c = ok_two c.in_order.result _ _ _
    (λ numbers are rising image named. image_numbers image (map string_bytes c.args.names.now) numbers.items rising (λ n. ap (λ (l : List ℕ). list_any (is_at (nat_cmp n)) l) are ∙ c.in_ok-set.ensures n) named) c.in_order.ensures.all c.in_order.ensures.rising
