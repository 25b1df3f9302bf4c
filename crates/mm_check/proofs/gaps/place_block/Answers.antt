use Rattle.std.proofs.Common.{sym, ap, ◌∙◌, rules}
use Rattle.std.specs.Prelude.{FitsSigned}
use Rattle.std.specs.Int.{w32}
use Rattle.std.proofs.lemmas.Int.{to_z-of_z}
use Rattle.mm_frames.specs.declared.rec_header.RecHeader.{RecHeader}
use Rattle.mm_check.specs.ExtentChain.{nat_of, nat_in}
use Rattle.mm_check.proofs.PhaseLoops.{puts_none, puts_there, nat_some, on_ok}
use Rattle.mm_check.proofs.gaps.place_block.Goals as goal

pub returns-in-None : goal.returns-in-None
returns-in-None c =
    let f : FitsSigned w32 c.read_record-header.result.extent_ofs = search rules in
    puts_none c.args.views.now.private c.args.at c.read_record-header.result.extent_ofs c.args.map.now (ap (λ (h : RecHeader). h.extent_ofs) (sym c.read_record-header.ensures))
    (sym c.in-None.is ∙ c.offset.ensures ∙ ap nat_in (to_z-of_z w32 c.read_record-header.result.extent_ofs f))

pub returns-in-Some : goal.returns-in-Some
returns-in-Some c =
    let f : FitsSigned w32 c.read_record-header.result.extent_ofs = search rules in
    let g : FitsSigned w32 c.read_record-header.result.length_with_headers = search rules in
    let names = nat_some c.read_record-header.result.extent_ofs c.in-Some.ofs (sym c.in-Some.is ∙ c.offset.ensures ∙ ap nat_in (to_z-of_z w32 c.read_record-header.result.extent_ofs f)) in
    on_ok c.put_block.result _ _
    (puts_there c.args.views.now.private c.args.at c.in-Some.ofs c.size-len.result c.args.map.now c.put_block.new.map (ap (λ (h : RecHeader). h.extent_ofs) (sym c.read_record-header.ensures) ∙ names)
    (c.size-len.ensures ∙ ap nat_of (to_z-of_z w32 c.read_record-header.result.length_with_headers g) ∙ ap (λ (h : RecHeader). nat_of h.length_with_headers) c.read_record-header.ensures))
    c.put_block.ensures
