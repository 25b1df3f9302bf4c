use Rattle.std.proofs.Common.{◌≡◌, ℕ, ◌+◌, ◌-◌, List, ◌++◌, ◌∷◌, [], map, sym, ap, ◌∙◌, arith}
use Rattle.std.specs.FinMap.{get}
use Rattle.std.proofs.lemmas.List.{map-append}
use Rattle.mm_walk.specs.Walk.{Reading}
use Rattle.mm_check.specs.Findings.{files_from, file_chains}
use Rattle.mm_check.specs.Phases.{extents_reading, file_chain}
use Rattle.mm_check.specs.declared.extents.FileExtents.{FileExtents}
use Rattle.mm_check.proofs.Chained.{put_first, put_none, none_left, files_there, file_absent}
use Rattle.mm_check.proofs.FileLoops.{some_of_len}
use Rattle.mm_check.proofs.chains.file_chains.Goals as goal
use Rattle.mm_check.proofs.chains.file_chains.Goals.{then-is_some+in_ok-push, else-is_some}

pub loop-file-init : goal.loop-file-init
loop-file-init c = ap (λ (xs : List FileExtents). map extents_reading xs ++ map (file_chain c.args.views.now.private) (files_from c.args.views.now.private 0 8)) c.new-chains.ensures.items

pub loop-file-preserved : goal.loop-file-preserved
loop-file-preserved c =
    let image = c.args.views.now.private in
    let there = some_of_len (get c.args.views.now.private c.loop-file.file) c.len.result c.len.ensures.len ∙ sym c.is_some.ensures in
    elim c.if-is_some.branch [
      | then-is_some+in_ok-push w ↦
          put_first (map extents_reading c.loop-file.chains.items) (map extents_reading c.if-is_some.chains.items) (map (file_chain image) (files_from image c.loop-file.file (8 - c.loop-file.file))) (map (file_chain image) (files_from image (c.loop-file.file + 1) (8 - (c.loop-file.file + 1)))) (file_chains image) (file_chain image c.loop-file.file)
          c.loop-file.invariant
          (ap (map (file_chain image)) (files_there image c.loop-file.file c.loop-file-test.true (there ∙ w.if-is_some.true)))
          ((λ j. map extents_reading (w.chains-is j).items) ∙ ap (map extents_reading) w.in_ok-push.ensures.items ∙ map-append extents_reading c.loop-file.chains.items (w.file_chain.result ∷ []) ∙ ap (λ (r : Reading). map extents_reading c.loop-file.chains.items ++ r ∷ []) w.file_chain.ensures)
      | else-is_some w ↦
          (λ j. map extents_reading (w.chains-is j).items ++ map (file_chain image) (files_from image (c.loop-file.file + 1) (8 - (c.loop-file.file + 1))))
          ∙ put_none (map extents_reading c.loop-file.chains.items) (map (file_chain image) (files_from image c.loop-file.file (8 - c.loop-file.file))) (map (file_chain image) (files_from image (c.loop-file.file + 1) (8 - (c.loop-file.file + 1)))) (file_chains image) c.loop-file.invariant
          (ap (map (file_chain image)) (file_absent image c.loop-file.file c.loop-file-test.true (there ∙ w.if-is_some.false)))
    ]

pub returns : goal.returns
returns c =
    let image = c.args.views.now.private in
    let none : 8 - c.loop-file.file ≡ 0 = let le = c.loop-file-test.false in omega (arith, le) in
    none_left (map extents_reading c.loop-file.chains.items) (map (file_chain c.args.views.now.private) (files_from c.args.views.now.private c.loop-file.file (8 - c.loop-file.file))) (file_chains c.args.views.now.private) c.loop-file.invariant (ap (λ (n : ℕ). map (file_chain c.args.views.now.private) (files_from c.args.views.now.private c.loop-file.file n)) none)
