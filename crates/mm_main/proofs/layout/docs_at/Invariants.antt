use Rattle.mm_main.proofs.LayoutSteps.{Reading}
use Rattle.mm_main.proofs.layout.docs_at.Given as goal

abbrev pub invariant-loop-place : goal.invariant-loop-place
invariant-loop-place l = Reading l.file l.ats l.docs.items l.place-index l.at
