use Rattle.std.proofs.Common.{◌∙◌, false, ap}
use Rattle.std.specs.Prelude.{is_some, replicate}
use Rattle.std.specs.FinMap.{get, insert}
use Rattle.mm_ranges.specs.declared.part.Made.{Made}
use Rattle.mm_views.specs.Made.{with_one}
use Rattle.mm_views.specs.State.{Drafting}
use Rattle.mm_views.proofs.MadeLists.{may_make, zeros_fit}
use Rattle.mm_views.proofs.DraftLemmas.{held_added}
use Rattle.mm_views.proofs.draft.Draft.add_file.Goals as goal

pub invariant_of-self-2 : goal.invariant_of-self-2
invariant_of-self-2 c =
    let m : Made = record { file = c.args.file; len = c.args.len } in
    let none = ap (λ (d : Drafting). get d.image c.args.file) c.self.view_is ∙ c.requires.absent in
    (held_added c.self.inside.shared c.self.inside.image c.self.inside.saved.items c.self.inside.made.items c.self.inside.declared c.self.inside.before c.self.inside.opened c.self.inside.closed.items c.self.inside.prepared (is_some c.self.inside.reserved) c.self.inside.reserved _ _ c.self.invariant
    m c.in_ok-bytes.bytes c.put.«new».self c.insert_made.«new».made.items none (may_make m c.requires.file c.requires.len c.requires.pages) c.requires.file (zeros_fit m c.requires.len) c.in_ok-bytes.ensures c.put.ensures c.in_ok-insert_made.ensures.ok).0

pub returns-clause-ok : goal.returns-clause-ok
returns-clause-ok c =
    let m : Made = record { file = c.args.file; len = c.args.len } in
    let none = ap (λ (d : Drafting). get d.image c.args.file) c.self.view_is ∙ c.requires.absent in
    (held_added c.self.inside.shared c.self.inside.image c.self.inside.saved.items c.self.inside.made.items c.self.inside.declared c.self.inside.before c.self.inside.opened c.self.inside.closed.items c.self.inside.prepared (is_some c.self.inside.reserved) c.self.inside.reserved _ _ c.self.invariant
    m c.in_ok-bytes.bytes c.put.«new».self c.insert_made.«new».made.items none (may_make m c.requires.file c.requires.len c.requires.pages) c.requires.file (zeros_fit m c.requires.len) c.in_ok-bytes.ensures c.put.ensures c.in_ok-insert_made.ensures.ok).1
    ∙ ap (λ (d : Drafting). record d { image = insert d.image c.args.file (replicate c.args.len 0); made = with_one m d.made; is_reserved = false }) c.self.view_is
