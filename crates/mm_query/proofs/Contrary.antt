-- Operators and their contraries.
use Rattle.std.proofs.Common.{◌≡◌, ℕ, Bool, true, false, List, refl, sym, ap, ◌∙◌}
use Rattle.std.specs.Prelude.{codes}
use Rattle.std.proofs.lemmas.Slice.Eq.{bytes_eq-Decides}
use Rattle.mm_bson.specs.Tree.{document}
use Rattle.mm_query.specs.Form.{has_dollar, is_and, is_or}
use Rattle.mm_query.specs.Laws.{NinIsContrary, NeIsContrary}

pub no_and : (path : List ℕ) → has_dollar path ≡ false → is_and path ≡ false
no_and path plain = by (is_and path) refl
  where
    by : (b : Bool) → is_and path ≡ b → b ≡ false
    by false is = refl
    by true is =
        let same : path ≡ codes "$and" = (bytes_eq-Decides path (codes "$and")).0 is in
        let wrong : true ≡ false = ap has_dollar (sym same) ∙ plain in
        absurd cc

pub no_or : (path : List ℕ) → has_dollar path ≡ false → is_or path ≡ false
no_or path plain = by (is_or path) refl
  where
    by : (b : Bool) → is_or path ≡ b → b ≡ false
    by false is = refl
    by true is =
        let same : path ≡ codes "$or" = (bytes_eq-Decides path (codes "$or")).0 is in
        let wrong : true ≡ false = ap has_dollar (sym same) ∙ plain in
        absurd cc

pub nin_contrary : NinIsContrary
nin_contrary path vs d plain = rw (no_and path plain, no_or path plain) (λ h k. h.0.0 k.0.0, λ h. ((λ e. h ((e, tt), tt), tt), tt))

pub ne_contrary : NeIsContrary
ne_contrary path (document es) d plain right = rw (no_and path plain, no_or path plain, right) (λ h k. h.0.0 k.0, λ h. ((λ e. h (e, tt), tt), tt))
ne_contrary path u d plain right = rw (no_and path plain, no_or path plain) (λ h k. h.0.0 k.0, λ h. ((λ e. h (e, tt), tt), tt))
