use Rattle.std.proofs.Common.{◌≡◌, Some, cond, sym, ◌∙◌, ap, refl}
use Rattle.std.specs.Ordering.{eq_by_cmp}
use Rattle.mm_outside.specs.Image.{name_cmp}
use Rattle.mm_memdisk.specs.Left.{Puts}
use Rattle.mm_memdisk.proofs.Updates.{put_is}
use Rattle.mm_memdisk.proofs.crash.put.Goals as goal

pub returns-clause-puts : goal.returns-clause-puts
returns-clause-puts c = put_is c.args.left.files c.insert-2.new.self c.args.name.now c.in_ok-from_str-2.field-0 c.args.bytes c.args.bytes.items c.in_ok-insert-2.ensures.updates c.in_ok-from_str-2.ensures.ok refl

pub returns-clause-same : goal.returns-clause-same
returns-clause-same c =
    let copied : c.in_ok-copy.copy.items ≡ c.args.bytes.items = c.in_ok-copy.ensures.items_if_clones_equal (λ x y e. e) ∙ c.deref.ensures.value in
    let first : Puts c.args.name.now (Some c.args.bytes.items) c.args.left.start c.insert.new.self =
    put_is c.args.left.start c.insert.new.self c.args.name.now c.in_ok-from_str.field-0 c.in_ok-copy.copy c.args.bytes.items c.in_ok-insert.ensures.updates c.in_ok-from_str.ensures.ok copied in
    λ q. first q ∙ ap (cond (eq_by_cmp name_cmp q c.args.name.now) (Some c.args.bytes.items)) (c.requires q) ∙ sym (returns-clause-puts c q)
