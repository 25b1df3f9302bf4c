use Rattle.std.proofs.Common.{arith, rules, refl}
use Rattle.mm_base.proofs.Sets.{signed}
use Rattle.mm_base.proofs.TableLaws.{puts_table}
use Rattle.mm_frames.specs.Footer.{footer_table, footer_bytes, footer_of}
use Rattle.mm_frames.proofs.JournalFrames.{footer_is}
use Rattle.mm_frames.proofs.footer.put_footer.Goals as goal

pub returns : goal.returns
unfolding footer_bytes
returns c =
    let x = c.args.footer.now in
    puts_table 32 footer_table footer_of c.args.at x c.args.bytes.now _ refl (search rules) (omega arith) (footer_is x _) (grind (arith, signed))
