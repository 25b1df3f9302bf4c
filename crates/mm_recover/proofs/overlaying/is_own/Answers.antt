use Rattle.std.proofs.Common.{rules, List, ℕ, ◌<◌, ◌^◌, sym, ◌∙◌, ap}
use Rattle.std.specs.Ordering.{eq_by_cmp}
use Rattle.std.proofs.lemmas.Map.Text.{is_eq-slice_cmp}
use Rattle.mm_outside.specs.Image.{name_cmp}
use Rattle.mm_journal.specs.Real.{disk_name}
use Rattle.mm_recover.proofs.OneName.{same_disk_name, other_disk_name}
use Rattle.mm_recover.proofs.overlaying.is_own.Goals as goal

pub returns-then-number-file : goal.returns-then-number-file
returns-then-number-file c =
    let file = c.args.file.now in
    let small : c.args.number < 2 ^ 64 = search rules in
    let own_small : file.number < 2 ^ 64 = search rules in
    other_disk_name file.name c.args.name.now file.number c.args.number c.requires.own c.requires.name own_small small c.if-number-file.true

pub returns : goal.returns
returns c =
    let file = c.args.file.now in
    let small : c.args.number < 2 ^ 64 = search rules in
    c.eq.ensures ∙ sym (is_eq-slice_cmp c.bytes.result.now c.args.name.now) ∙ ap (λ (l : List ℕ). eq_by_cmp name_cmp l c.args.name.now) c.bytes.ensures.is
    ∙ same_disk_name file.name c.args.name.now c.args.number c.requires.own c.requires.name small
    ∙ ap (λ (n : ℕ). eq_by_cmp name_cmp (disk_name file.name n) (disk_name c.args.name.now c.args.number)) c.if-number-file.false
