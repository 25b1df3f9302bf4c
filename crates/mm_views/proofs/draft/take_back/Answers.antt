use Rattle.std.proofs.Common.{◌∙◌, List, ap, sym}
use Rattle.mm_ranges.specs.declared.part.Made.{Made}
use Rattle.mm_views.specs.Made.{without_made, are_all_files}
use Rattle.mm_views.proofs.MadeLists.{all_files-push, without_made-push}
use Rattle.mm_views.proofs.draft.take_back.Goals as goal

pub take_out-requires : goal.take_out-requires
take_out-requires c = (all_files-push c.pop.«new».self.items c.in-Some.m (ap are_all_files (sym c.in-Some.ensures.items) ∙ c.loop-m.invariant.files)).1

pub loop-m-preserved : goal.loop-m-preserved
loop-m-preserved c = record {
  same = ap (without_made c.pop.«new».self.items) c.take_out.ensures ∙ sym (without_made-push c.pop.«new».self.items c.in-Some.m c.loop-m.image)
      ∙ sym (ap (λ (ms : List Made). without_made ms c.loop-m.image) c.in-Some.ensures.items) ∙ c.loop-m.invariant.same;
  files = (all_files-push c.pop.«new».self.items c.in-Some.m (ap are_all_files (sym c.in-Some.ensures.items) ∙ c.loop-m.invariant.files)).0;
}
