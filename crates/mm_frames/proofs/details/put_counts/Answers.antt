use Rattle.std.proofs.Common.{◌≡◌, ℕ, ◌++◌, ◌+◌, ◌∙◌, ap, arith, rules}
use Rattle.mm_base.specs.Bytes.{part, overwritten}
use Rattle.mm_base.specs.Fields.{i64_bytes}
use Rattle.mm_base.proofs.Numbers.{length-i64_bytes}
use Rattle.mm_base.proofs.Sets.{signed, lengths}
use Rattle.mm_base.proofs.Parts.{length-part, overwritten_on, puts_field}
use Rattle.mm_frames.specs.Details.{details_of}
use Rattle.mm_frames.proofs.OneField.{counts_changed}
use Rattle.mm_frames.proofs.details.put_counts.Goals as goal

pub returns : goal.returns
returns c =
    let old = c.args.bytes.now in
    let sum = i64_bytes c.args.datasize in
    let count = i64_bytes c.args.nrecords in
    let first : c.put_i64.new.bytes ≡ overwritten (c.args.at + 168) sum old = grind (arith, signed) in
    let second : c.put_i64-2.new.bytes ≡ overwritten (c.args.at + 176) count c.put_i64.new.bytes = grind (arith, signed) in
    let there : c.args.at + 176 ≡ (c.args.at + 168) + 8 = omega arith in
    puts_field 496 168 (sum ++ count) details_of c.args.at _ old _ (omega (arith, lengths)) c.requires
    (counts_changed c.args.datasize c.args.nrecords (part c.args.at 496 old) (search rules) (search rules) (length-part c.args.at 496 old c.requires))
    (second ∙ ap (λ (k : ℕ). overwritten k count c.put_i64.new.bytes) there ∙ ap (overwritten ((c.args.at + 168) + 8) count) first ∙ overwritten_on (c.args.at + 168) 8 sum count old (length-i64_bytes c.args.datasize) (omega arith))
