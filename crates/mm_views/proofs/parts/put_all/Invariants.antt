use Rattle.std.proofs.Common.{◌≡◌, true}
use Rattle.std.specs.Vec.Iter.{into_iter_items}
use Rattle.mm_views.specs.Fresh.{with_fresh, are_files}
use Rattle.mm_views.proofs.parts.put_all.Given as goal

abbrev pub invariant-loop-file : goal.invariant-loop-file
invariant-loop-file l = record {
  can : (goal.iterator-loop-file).can_next l.file-iterator;
  finite : (goal.iterator-loop-file).is_finite l.file-iterator;
  same : with_fresh (into_iter_items l.file-iterator) l.image ≡ with_fresh l.fn.files.items l.fn.image;
  allowed : are_files (into_iter_items l.file-iterator) ≡ true;
}
