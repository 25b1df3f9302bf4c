use Rattle.std.proofs.Common.{◌≡◌, ◌∙◌, ◌+◌, ◌≤◌, length, rules, refl, sym, arith}
use Rattle.std.specs.Prelude.{FitsSigned}
use Rattle.std.specs.Int.{w32}
use Rattle.std.proofs.lemmas.Int.{to_z-of_z}
use Rattle.std.proofs.lemmas.Result.{on_ok_weaker}
use Rattle.mm_records.specs.Map.{name_at}
use Rattle.mm_records.proofs.FreeSteps.{nonneg, same_number}
use Rattle.mm_records.proofs.Records.{record_inside, head_len}
use Rattle.mm_records.proofs.AddLaws.{cut_whole, cut_short}
use Rattle.mm_records.proofs.adding.cut.Goals as goal

pub read_record-requires : goal.read_record-requires
read_record-requires c = let i = record_inside c.args.draft.now.image c.requires.live.0 c.requires.live.1.0 c.args.node c.args.counts.now c.requires.live.1.1.1.0 (c.args.at.file, c.args.at.ofs) c.requires.live.1.1.0 c.requires.live.1.1.1.1.0 in omega (arith, i)

pub natural-whole-requires : goal.natural-whole-requires
natural-whole-requires c =
    let f : FitsSigned w32 c.read_record.result.length_with_headers = search rules in
    let e = to_z-of_z w32 c.read_record.result.length_with_headers f ∙ head_len c.args.draft.now.image c.requires.live.0 c.requires.live.1.0 c.args.node c.args.counts.now c.requires.live.1.1.1.0 (c.args.at.file, c.args.at.ofs) c.requires.live.1.1.0 c.requires.live.1.1.1.1.0 c.read_record.result c.read_record.ensures in
    nonneg _ _ e

pub overflow_sub-whole : goal.overflow_sub-whole
overflow_sub-whole c =
    let f : FitsSigned w32 c.read_record.result.length_with_headers = search rules in
    let e = to_z-of_z w32 c.read_record.result.length_with_headers f ∙ head_len c.args.draft.now.image c.requires.live.0 c.requires.live.1.0 c.args.node c.args.counts.now c.requires.live.1.1.1.0 (c.args.at.file, c.args.at.ofs) c.requires.live.1.1.0 c.requires.live.1.1.1.1.0 c.read_record.result c.read_record.ensures in
    let same : 16 + length c.requires.live.1.1.0 ≡ c.natural-whole.result = same_number (16 + length c.requires.live.1.1.0) c.natural-whole.result (sym e ∙ c.natural-whole.ensures) in
    let le = c.requires.live.1.1.1.1.1 in
    omega (arith, same, le)

pub shorten-requires : goal.shorten-requires
shorten-requires c =
    let f : FitsSigned w32 c.read_record.result.length_with_headers = search rules in
    let e = to_z-of_z w32 c.read_record.result.length_with_headers f ∙ head_len c.args.draft.now.image c.requires.live.0 c.requires.live.1.0 c.args.node c.args.counts.now c.requires.live.1.1.1.0 (c.args.at.file, c.args.at.ofs) c.requires.live.1.1.0 c.requires.live.1.1.1.1.0 c.read_record.result c.read_record.ensures in
    let same : 16 + length c.requires.live.1.1.0 ≡ c.natural-whole.result = same_number (16 + length c.requires.live.1.1.0) c.natural-whole.result (sym e ∙ c.natural-whole.ensures) in
    let more = c.if-whole-len-lt-MIN_BLOCK_LEN.false in
    (c.requires.live.0, (c.requires.live.1.0, (c.requires.live.1.1.0, (c.requires.live.1.1.1.0, (c.requires.live.1.1.1.1.0, record { front = c.requires.front; rest = omega (arith, same, more) })))))

pub returns-then-whole-len-lt-MIN_BLOCK_LEN-clause-ok : goal.returns-then-whole-len-lt-MIN_BLOCK_LEN-clause-ok
returns-then-whole-len-lt-MIN_BLOCK_LEN-clause-ok c = λ free s room st lv le.
    let f : FitsSigned w32 c.read_record.result.length_with_headers = search rules in
    let e = to_z-of_z w32 c.read_record.result.length_with_headers f ∙ head_len c.args.draft.now.image free s c.args.node c.args.counts.now st (c.args.at.file, c.args.at.ofs) room lv c.read_record.result c.read_record.ensures in
    let same : 16 + length room ≡ c.natural-whole.result = same_number (16 + length room) c.natural-whole.result (sym e ∙ c.natural-whole.ensures) in
    let few = c.if-whole-len-lt-MIN_BLOCK_LEN.true in
    (s, (st, cut_whole s (name_at c.args.draft.now.image c.args.node) (c.args.at.file, c.args.at.ofs) c.args.len room lv (omega (arith, same, few, le))))

pub returns-clause-ok : goal.returns-clause-ok
returns-clause-ok c = on_ok_weaker c.shorten.result (λ g free s room st lv le.
    let f : FitsSigned w32 c.read_record.result.length_with_headers = search rules in
    let e = to_z-of_z w32 c.read_record.result.length_with_headers f ∙ head_len c.args.draft.now.image free s c.args.node c.args.counts.now st (c.args.at.file, c.args.at.ofs) room lv c.read_record.result c.read_record.ensures in
    let same : 16 + length room ≡ c.natural-whole.result = same_number (16 + length room) c.natural-whole.result (sym e ∙ c.natural-whole.ensures) in
    let more = c.if-whole-len-lt-MIN_BLOCK_LEN.false in
    let long : c.args.len + 32 ≤ 16 + length room = omega (arith, same, more) in
    let t = g free s room st lv (record { front = c.requires.front; rest = long }) in
    (t.0, (t.1.0, cut_short s t.0 (name_at c.args.draft.now.image c.args.node) (c.args.at.file, c.args.at.ofs) c.args.len room long t.1.1))) c.shorten.ensures.ok

pub returns-then-whole-len-lt-MIN_BLOCK_LEN-clause-kept : goal.returns-then-whole-len-lt-MIN_BLOCK_LEN-clause-kept
returns-then-whole-len-lt-MIN_BLOCK_LEN-clause-kept c = record { lengths = λ f. refl; ns = refl; headers = λ f. refl }
