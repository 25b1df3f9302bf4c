use Rattle.std.proofs.Common.{◌+◌, List, map, sym, subst}
use Rattle.mm_ranges.specs.declared.part.Made.{Made}
use Rattle.mm_section.specs.Spells.{make_of}
use Rattle.mm_section.specs.Reading.{Reads}
use Rattle.mm_section.proofs.Found.{reads_more}
use Rattle.mm_section.proofs.reading.read_all_made.Goals as goal

pub loop-made-preserved : goal.loop-made-preserved
loop-made-preserved c =
    let at = c.loop-made.at in
    let bytes = c.args.bytes.now in
    subst (λ (all : List Made). Reads (map make_of all) (at + 12) bytes) (sym c.in_ok-push.ensures.items) (reads_more make_of c.loop-made.all.items c.in-Some.made at 12 bytes c.loop-made.invariant c.in-Some.ensures.some)
