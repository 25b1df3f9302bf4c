use Rattle.std.proofs.Common.{◌≡◌, ◌++◌, drop}
use Rattle.mm_held.specs.Loaded.{made_whole, pieces_whole}
use Rattle.mm_held.proofs.begun.copied.Given as goal

abbrev pub invariant-loop-file : goal.invariant-loop-file
invariant-loop-file l = record {
  made : l.made.items ++ made_whole (drop l.file-index l.files) l.views.shared ≡ made_whole l.files l.views.shared;
  pieces : l.pieces.items ++ pieces_whole (drop l.file-index l.files) l.views.shared ≡ pieces_whole l.files l.views.shared;
}
