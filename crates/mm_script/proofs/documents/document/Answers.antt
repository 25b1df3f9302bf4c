use Rattle.std.proofs.Common.{◌≡◌, true, take, sym, ap, ◌∙◌}
use Rattle.std.specs.Prelude.{codes}
use Rattle.std.specs.Str.{bytes_eq}
use Rattle.mm_script.proofs.HexSteps.{hex_long}
use Rattle.mm_script.proofs.documents.document.Goals as goal

pub hex_here-requires : goal.hex_here-requires
hex_here-requires c =
    let text = c.skip-text.result.now in
    let front : take 4 text ≡ c.first_bytes.result.now = ap (take 4) (sym c.as_bytes.ensures.value) ∙ sym c.first_bytes.ensures in
    let is : bytes_eq (take 4 text) (codes "hex:") ≡ true = ap (λ t. bytes_eq t (codes "hex:")) front ∙ (cc) in
    hex_long text is
