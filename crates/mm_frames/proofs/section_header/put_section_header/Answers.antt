use Rattle.std.proofs.Common.{arith, rules, refl}
use Rattle.mm_base.proofs.Sets.{signed}
use Rattle.mm_base.proofs.TableLaws.{puts_table}
use Rattle.mm_frames.specs.SectionHeader.{section_header_table, section_header_bytes, section_header_of}
use Rattle.mm_frames.proofs.JournalFrames.{section_header_is}
use Rattle.mm_frames.proofs.section_header.put_section_header.Goals as goal

pub returns : goal.returns
unfolding section_header_bytes
returns c =
    let x = c.args.header.now in
    puts_table 20 section_header_table section_header_of c.args.at x c.args.bytes.now _ refl (search rules) (omega arith) (section_header_is x _) (grind (arith, signed))
