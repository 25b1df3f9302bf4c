use Rattle.std.proofs.Common.{◌≡◌, List, sym, ◌∙◌, subst}
use Rattle.std.specs.FinMap.{get}
use Rattle.std.proofs.lemmas.List.Elements.{All-nil}
use Rattle.mm_outside.specs.Told.{image_after}
use Rattle.mm_memdisk.specs.Calls.{calls_of, AreFit}
use Rattle.mm_memdisk.specs.Files.{file_at, image_of_entries}
use Rattle.mm_memdisk.specs.declared.call.Begun.{Begun}
use Rattle.mm_memdisk.proofs.Updates.{reads_as}
use Rattle.mm_memdisk.proofs.disk.MemDisk.crash.Goals as goal

pub invariant_of-result : goal.invariant_of-result
invariant_of-result c =
    let left = c.in_ok-left.left in
    record {
      reads = λ name. subst (λ (l : List Begun). file_at left.files name ≡ get (image_after (image_of_entries left.start.entries) (calls_of l)) name) (sym c.new.ensures.items) (sym (c.in_ok-left.ensures.same name) ∙ reads_as left.start name);
      fit = subst AreFit (sym c.new.ensures.items) (All-nil _);
    }
