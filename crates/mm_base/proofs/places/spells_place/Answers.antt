use Rattle.std.proofs.Common.{◌≡◌, pos, ◌∙◌, sym, ap, refl, arith}
use Rattle.std.proofs.lemmas.Int.{ints}
use Rattle.mm_base.specs.Bytes.{part}
use Rattle.mm_base.specs.Fields.{i32_of}
use Rattle.mm_base.specs.Places.{place_of, null}
use Rattle.mm_base.proofs.Parts.{length-part, part-part}
use Rattle.mm_base.proofs.Spelled.{AreBytes, bytes_of_part, place_spelled, null_spelled, null_ofs}
use Rattle.mm_base.proofs.places.spells_place.Goals as goal

pub returns-then-not-is_null : goal.returns-then-not-is_null
returns-then-not-is_null c =
    let frame = part c.args.at 8 c.args.bytes.now in
    let are : AreBytes frame = bytes_of_part c.args.at 8 c.args.bytes.now (λ i. (c.type_inv.bytes i).fits) in
    let other = c.if-not-is_null.true in (
      λ _. place_spelled frame (length-part c.args.at 8 c.args.bytes.now c.requires) are (λ is. let null = c.is_null.ensures.1 (c.read_place.ensures ∙ is) in cc),
      λ _. rw other refl,
    )

pub returns-else-not-is_null : goal.returns-else-not-is_null
returns-else-not-is_null c =
    let frame = part c.args.at 8 c.args.bytes.now in
    let are : AreBytes frame = bytes_of_part c.args.at 8 c.args.bytes.now (λ i. (c.type_inv.bytes i).fits) in
    let is : place_of frame ≡ null = sym c.read_place.ensures ∙ c.is_null.ensures.0 c.if-not-is_null.false in
    let ofs : i32_of (part 4 4 frame) ≡ c.read_i32.result = ap i32_of (part-part 4 4 c.args.at 8 c.args.bytes.now (omega arith)) ∙ sym c.read_i32.ensures in (
      λ zero. null_spelled frame (length-part c.args.at 8 c.args.bytes.now c.requires) are is (ofs ∙ (grind (arith, ints))),
      λ spelled. let zero : c.read_i32.result ≡ pos 0 = sym ofs ∙ null_ofs frame is spelled in rw zero refl,
    )
