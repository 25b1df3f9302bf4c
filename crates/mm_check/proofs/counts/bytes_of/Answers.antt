use Rattle.std.proofs.Common.{◌≡◌, ℕ, ◌-◌, ◌+◌, ◌^◌, take, get_or, refl, sym, ap, ◌∙◌, rules}
use Rattle.std.specs.Prelude.{min, sum_by, FitsSigned}
use Rattle.std.specs.Int.{w32}
use Rattle.std.proofs.lemmas.Int.{to_z-of_z}
use Rattle.std.proofs.lemmas.List.Sums.{sum_by_more}
use Rattle.mm_frames.specs.declared.rec_header.RecHeader.{RecHeader}
use Rattle.mm_check.specs.ExtentChain.{nat_of}
use Rattle.mm_check.specs.BlockQuestions.{block_len}
use Rattle.mm_check.proofs.Chained.{item_has}
use Rattle.mm_check.proofs.PhaseLoops.{min_more}
use Rattle.mm_check.proofs.counts.bytes_of.Goals as goal

pub read_record-requires : goal.read_record-requires
read_record-requires c = c.requires _ (item_has c.args.records.now c.loop-i.i _ (0, 0) c.loop-i-test.true refl)

pub loop-i-preserved : goal.loop-i-preserved
loop-i-preserved c =
    let image = c.args.views.now.private in
    let p = get_or c.args.records.now c.loop-i.i (0, 0) in
    let f : FitsSigned w32 c.read_record.result.length_with_headers = search rules in
    let long : c.size-len.result ≡ block_len c.args.views.now.private (get_or c.args.records.now c.loop-i.i (0, 0)) = c.size-len.ensures ∙ ap nat_of (to_z-of_z w32 c.read_record.result.length_with_headers f) ∙ ap (λ (h : RecHeader). nat_of h.length_with_headers) c.read_record.ensures in
    let part : c.from.result ≡ block_len c.args.views.now.private (get_or c.args.records.now c.loop-i.i (0, 0)) - 16 = c.from.ensures ∙ c.saturating_sub.ensures ∙ ap (λ (n : ℕ). n - 16) long in
    c.saturating_add-sum.ensures ∙ (λ j. min (c.loop-i.invariant j + part j) (2 ^ 64 - 1))
    ∙ min_more (sum_by (λ q. block_len image q - 16) (take c.loop-i.i c.args.records.now)) (block_len image p - 16) (2 ^ 64 - 1)
    ∙ ap (λ (n : ℕ). min n (2 ^ 64 - 1)) (sym (sum_by_more (λ q. block_len image q - 16) c.args.records.now c.loop-i.i (0, 0) c.loop-i-test.true))
