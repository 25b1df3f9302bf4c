use Rattle.std.proofs.Common.{sym}
use Rattle.mm_section.specs.Spells.{put_of}
use Rattle.mm_section.proofs.Loops.{entry_step, short_at, kept_appended}
use Rattle.std.proofs.Common.{length, ◌<◌, ◌^◌, subst}
use Rattle.mm_ranges.specs.declared.part.Piece.{Piece}
use Rattle.mm_section.proofs.writing.append_all_pieces.Goals as goal

pub append_piece-requires : goal.append_piece-requires
append_piece-requires c = subst (λ (p : Piece). length p.bytes < 2 ^ 32) (sym c.piece-item.is) (short_at c.args.all.now c.loop-piece.piece-index _ c.requires c.loop-piece-test.true)

pub loop-piece-preserved : goal.loop-piece-preserved
loop-piece-preserved c = record { so_far = entry_step put_of c.args.all.now c.loop-piece.piece-index c.piece-item.result c.args.out.now.items c.loop-piece.out.items _ c.loop-piece-test.true (sym c.piece-item.is) c.in_ok-append_piece.ensures.ok c.loop-piece.invariant.so_far }

pub returns-in_err-append_piece-clause-kept : goal.returns-in_err-append_piece-clause-kept
returns-in_err-append_piece-clause-kept c = kept_appended c.args.out.now.items _ c.loop-piece.out.items _ c.loop-piece.invariant.so_far c.in_err-append_piece.ensures.kept
