use Rattle.std.proofs.Common.{◌≡◌, ◌++◌}
use Rattle.mm_ranges.specs.Overlay.{pieces_of, AreInside}
use Rattle.mm_views.proofs.parts.pieces.Given as goal

abbrev pub invariant-loop-file : goal.invariant-loop-file
invariant-loop-file l = record {
  can : (goal.iterator-loop-file).can_next l.file-iterator;
  finite : (goal.iterator-loop-file).is_finite l.file-iterator;
  same : l.list.items ++ pieces_of l.file-iterator l.image ≡ pieces_of l.fn.ranges l.image;
  inside : AreInside l.image l.file-iterator;
}
