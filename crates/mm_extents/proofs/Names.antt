-- What stands in a name's padded field.
use Rattle.std.proofs.Common.{◌≡◌, ℕ, List, length, sym, ap, arith}
use Rattle.std.specs.Prelude.{not, ◌==◌}
use Rattle.std.specs.List.{prefix_len}
use Rattle.mm_base.specs.Bytes.{padded}
use Rattle.mm_base.specs.Names.{IsName}
use Rattle.mm_base.proofs.NameLaws.{length_found, front_is, length-padded}
use Rattle.mm_frames.specs.Texts.{text_in}

text_is : (field name : List ℕ) → IsName name → field ≡ padded (length field) name → text_in field ≡ name
unfolding text_in
text_is field name is e = front_is field name (prefix_len (λ b. not (b == 0)) field) (length_found field name is e) e

pub name_again : (name : List ℕ) → IsName name → text_in (padded 128 name) ≡ name
name_again name is =
    let short = is.short in
    let long : length (padded 128 name) ≡ 128 = length-padded 128 name (omega (arith, short)) in
    text_is (padded 128 name) name is (ap (λ (n : ℕ). padded n name) (sym long))
