use Rattle.std.proofs.Common.{◌≡◌, ◌≤◌, Some}
use Rattle.mm_extents.specs.Changes.{len_of}
use Rattle.mm_extents.specs.Files.{file_len}
use Rattle.mm_extents.proofs.made_files.last_file.Given as goal

abbrev pub invariant-loop-file : goal.invariant-loop-file
invariant-loop-file l = record { there : len_of l.draft.image l.file ≡ Some (file_len l.file); low : l.file ≤ 7 }
