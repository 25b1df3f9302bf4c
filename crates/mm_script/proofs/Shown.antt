-- A document's written form ends in one place alone, and stands for one document.
use Rattle.std.proofs.Common.{◌≡◌, ℕ, List, ◌++◌, Ok, sym, ap, ◌∙◌}
use Rattle.mm_bson.specs.Tree.{Elements}
use Rattle.mm_notation.specs.Written.{written}
use Rattle.mm_notation.specs.Reading.{document_at}
use Rattle.mm_notation.proofs.Core.{pair_of}
use Rattle.mm_notation.proofs.Forms.{document_form}
use Rattle.mm_notation.proofs.Nests.{document_core}
use Rattle.mm_script.specs.Replies.{document_text}
use Rattle.mm_script.specs.Render.{IsShown}
use Rattle.mm_script.proofs.Parts.{tail_is}

again : (d : Elements) (t : List ℕ) → IsShown d → document_at (written d ++ t) ≡ Ok (d, t)
again d t shown = document_core.again d (written d) t (document_form d shown.elements shown.bytes shown.levels) tt

pub document_once : (d f : Elements) (t u : List ℕ) → IsShown d → IsShown f → document_text d ++ t ≡ document_text f ++ u → (d ≡ f) × (t ≡ u)
document_once d f t u sd sf e =
    let whole : written d ++ t ≡ written f ++ u = tail_is 0x20 0x20 _ _ e in
    pair_of d f t u (sym (again d t sd) ∙ ap document_at whole ∙ again f u sf)
