use Rattle.std.proofs.Common.{◌≡◌, ◌∙◌, ℕ, Some, ap, sym, arith}
use Rattle.mm_extents.specs.Changes.{len_of}
use Rattle.mm_extents.specs.Files.{file_len}
use Rattle.mm_extents.proofs.MadeFiles.{is_last_file, is_last_of_all, there_next, no_some, some_some}
use Rattle.mm_extents.proofs.made_files.last_file.Goals as goal

pub returns-then-is_none : goal.returns-then-is_none
returns-then-is_none c = is_last_file c.args.draft.now.image c.loop-file.file c.requires c.loop-file-test.true c.loop-file.invariant.there (sym c.len.ensures.len ∙ no_some c.len.result c.if-is_none.ensures)

pub loop-file-preserved : goal.loop-file-preserved
loop-file-preserved c =
    let more = c.loop-file-test.true in
    record {
      there = there_next c.args.draft.now.image c.loop-file.file c.requires more (λ none. some_some c.len.result c.if-is_none.ensures (c.len.ensures.len ∙ none));
      low = omega (arith, more);
    }

pub returns : goal.returns
returns c =
    let past = c.loop-file-test.false in
    let low = c.loop-file.invariant.low in
    is_last_of_all c.args.draft.now.image c.requires (ap (λ (k : ℕ). len_of c.args.draft.now.image k) (let e : 7 ≡ c.loop-file.file = omega (arith, past, low) in e) ∙ c.loop-file.invariant.there ∙ ap (λ (k : ℕ). Some (file_len k)) (let e : c.loop-file.file ≡ 7 = omega (arith, past, low) in e))
